pub mod Tests
pub mod TypeLaws
