pub mod ClassLaws
pub mod MemberLaws
pub mod CheckLaws
