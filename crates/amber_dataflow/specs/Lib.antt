pub mod Answers
pub mod AtWork
pub mod Dataflow
pub mod Parts
pub mod Passing
pub mod Redoing
pub mod Replacing
pub mod Start
