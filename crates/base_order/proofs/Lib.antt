pub mod SortedLaws
pub mod BaseLaws
pub mod PlaceLaws
