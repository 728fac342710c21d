pub mod MemberLaws
pub mod NumberedLaws
