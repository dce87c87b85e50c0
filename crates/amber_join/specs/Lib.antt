pub mod Join
pub mod Moving
pub mod Places
