pub mod Table
pub mod NativeLaws
pub mod ThrowableLaws
pub mod CharArrays
