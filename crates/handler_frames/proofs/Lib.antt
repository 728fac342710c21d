mod RuleLaws
mod SpanLaws
pub mod MethodLaws
pub mod KnownLaws
