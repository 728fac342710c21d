pub mod PlaceLaws
pub mod NameLaws
pub mod TextLaws
