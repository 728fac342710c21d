pub mod PremiseLemmas
pub mod ExampleLemmas
