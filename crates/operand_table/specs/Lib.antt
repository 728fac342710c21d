pub mod FieldTypes
pub mod Sources
pub mod Found
pub mod Table
