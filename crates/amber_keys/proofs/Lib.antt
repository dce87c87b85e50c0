pub mod Answers
pub mod ExampleRows
pub mod FirstKeys
pub mod Tables
