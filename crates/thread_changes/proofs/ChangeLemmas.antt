-- What is made ready for a step is ready for the change that comes of it.
use Rattle.std.proofs.Common.{◌≡◌, ◌≢◌, ℕ, ◌<◌, refl, sym, subst}
use Rattle.step_port.specs.declared.step.Step.{Step}
use Rattle.step_port.specs.declared.step.Step.TheVariants.{SwapWord, OpenSection, OpenLevel, TakeMonitor, Ticket}
use Rattle.thread_moves.specs.declared.thread.JThread.{JThread}
use Rattle.thread_moves.specs.declared.change.ThreadChange.{ThreadChange}
use Rattle.thread_moves.specs.declared.change.ThreadChange.TheVariants.{Writes, Opens, OpensLevel, Takes, Prints}
use Rattle.thread_moves.specs.Change.{HasRoom, OpensNone, IsMadeBy}
use Rattle.thread_moves.specs.Told.{HasRoomFor}

pub opens_none : (change : ThreadChange) → ((s : ℕ) (attempt : _) → change ≢ Opens s attempt) → ((attempt : _) → change ≢ OpensLevel attempt) → OpensNone change
opens_none (Opens s attempt) not_first not_next = absurd (not_first s attempt refl)
opens_none (OpensLevel attempt) not_first not_next = absurd (not_next attempt refl)
opens_none change not_first not_next = tt

pub room_stays : {C : Type 0} (x y : JThread C) (change : ThreadChange) → OpensNone change → (y.own.log ≡ x.own.log) × (y.own.held ≡ x.own.held) × (y.own.lines ≡ x.own.lines)
    → HasRoom x change → HasRoom y change
room_stays x y (Opens s attempt) none same room = absurd none
room_stays x y (OpensLevel attempt) none same room = absurd none
room_stays x y (Writes noted) none (log, held, lines) room = subst (λ log. 0 < log.spare) (sym log) room
room_stays x y (Takes h) none (log, held, lines) room = subst (λ held. 0 < held.spare) (sym held) room
room_stays x y (Prints ticket line) none (log, held, lines) room = subst (λ lines. 0 < lines.spare) (sym lines) room
room_stays x y change none same room = tt

pub room_of : {C : Type 0} (x : JThread C) (step : Step) (change : ThreadChange) → IsMadeBy step change → ((s w : ℕ) → step ≡ OpenLevel s w → x.own.levels < 255)
    → HasRoomFor x step → HasRoom x change
room_of x (SwapWord at old new) (Writes noted) made low room = room
room_of x (TakeMonitor r new) (Takes h) made low room = room
room_of x Ticket (Prints ticket line) made low room = room
room_of x (OpenSection s w) (Opens t attempt) made low room = room
room_of x (OpenLevel s w) (OpensLevel attempt) made low room = (room, low s w refl)
room_of x step (Writes noted) made low room = absurd made
room_of x step (Takes h) made low room = absurd made
room_of x step (Prints ticket line) made low room = absurd made
room_of x step (Opens t attempt) made low room = absurd made
room_of x step (OpensLevel attempt) made low room = absurd made
room_of x step change made low room = tt
