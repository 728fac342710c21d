pub mod Folder
pub mod Stream
pub mod Memory
pub mod Listing
