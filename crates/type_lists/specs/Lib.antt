pub mod Parts
pub mod Marks
pub mod Compared
pub mod Shown
pub mod Store
pub mod Trees
pub mod Differ
