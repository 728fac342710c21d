pub mod BuilderTexts
