pub mod CodeFacts
