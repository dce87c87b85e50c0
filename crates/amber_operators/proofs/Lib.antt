pub mod Lists
pub mod Made
pub mod Yields
pub mod States
pub mod ReadiedFacts
pub mod RedoneFates
pub mod LettingBy
