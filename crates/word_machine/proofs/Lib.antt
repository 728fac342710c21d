mod SeatLemmas
mod EndLemmas
mod TurnLemmas
mod SilentLemmas
mod UsualLemmas
mod ToldLemmas
mod ResumeLemmas
