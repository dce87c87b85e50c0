pub mod AnsweredByChange
pub mod Answering
pub mod Outcome
pub mod Recovering
pub mod Replaying
pub mod RunTask
pub mod UnderWay
