pub mod Hashing
pub mod KeyTable
pub mod Lending
pub mod SameRows
pub mod Tables
