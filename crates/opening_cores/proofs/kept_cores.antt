pub mod CoreLemmas
