mod NumberLemmas
mod ThreadLemmas
mod RowLemmas
mod ListLemmas
