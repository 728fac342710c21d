pub mod TextLaws
pub mod AddingLaws
