pub mod KeptStops
pub mod LineLaws
pub mod Lines
pub mod Moving
pub mod MovingLaws
