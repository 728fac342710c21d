mod TextLemmas
mod ClassLemmas
