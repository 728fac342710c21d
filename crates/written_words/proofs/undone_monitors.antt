pub mod UndoneLemmas
