pub mod Numbers
pub mod FindLaws
pub mod FoundLaws
pub mod PlaceLaws
pub mod NumberLaws
pub mod KeyLaws
pub mod SignatureLaws
pub mod MemberLaws
pub mod SharpLaws
pub mod ReadLaws
pub mod SoundLaws
pub mod TextLaws
mod TextUseLaws
