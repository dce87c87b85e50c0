pub mod Every
pub mod SuitedRows
pub mod Taking
