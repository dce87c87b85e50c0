pub mod Examples
pub mod FewOrMany
pub mod Finishing
pub mod GroupTables
pub mod Stepping
pub mod Settling
pub mod Within
pub mod SeveralRows
