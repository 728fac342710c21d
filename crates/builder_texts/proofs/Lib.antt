pub mod BuilderLaws
