pub mod Examples
pub mod ForgottenPlaces
pub mod MovedRows
pub mod PlaceTables
