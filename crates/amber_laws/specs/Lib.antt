pub mod AnswerLaws
pub mod CountLaws
pub mod CountStops
pub mod DealtLaws
pub mod StepLaws
