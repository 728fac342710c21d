pub mod OldWords
pub mod PutBack
pub mod Texts
