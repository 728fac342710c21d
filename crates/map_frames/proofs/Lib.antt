pub mod WordLaws
pub mod ItemLaws
pub mod MadeLaws
pub mod AtLaws
pub mod TakesLaws
pub mod HereLaws
