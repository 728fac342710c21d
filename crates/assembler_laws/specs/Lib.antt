pub mod WrittenCode
pub mod BodyMeaning
pub mod ClassMeaning
