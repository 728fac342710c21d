-- What a walk over a method's instructions knows of its handlers.
use Rattle.std.specs.Prelude.{◌≡◌, ◌≤◌, ◌<◌, ◌⊎◌, ℕ, true, false, List, length, slice_index_or}
use Rattle.std.specs.List.{All, Contains}
use Rattle.std.specs.List.Sorted.{IsNonDecreasingBy}
use Rattle.type_rules.specs.Assignable.{Hierarchy, is_assignable, are_locals_assignable}
use Rattle.type_rules.specs.Environment.{Environment, TypedHandler}
use Rattle.type_lists.specs.declared.store.Words.{Words}
use Rattle.type_lists.specs.Shown.{EndsBy}
use Rattle.type_lists.specs.Store.{word_at, IsFixed}
use Rattle.typing_frames.specs.declared.stores.FrameStores.{FrameStores}
use Rattle.typing_frames.specs.declared.stores.CurrentFrame.{CurrentFrame}
use Rattle.map_frames.specs.Mapped.{shown_locals}
use Rattle.handler_frames.specs.declared.span.Span.{Span}
use Rattle.handler_frames.specs.declared.covering.CoveringHandlers.{CoveringHandlers}
use Rattle.handler_frames.specs.Spans.{AreListed, StandsFor}

-- locals are assignable to others
abbrev pub GoTo : Hierarchy → FrameStores → Words → Words → Type 0
GoTo h stores low high = are_locals_assignable h (shown_locals stores low) (shown_locals stores high) ≡ true

-- .. and to those of the first `count` spans
abbrev pub GoToFirst : Hierarchy → FrameStores → Words → List Span → ℕ → Type 0
GoToFirst h stores locals spans count =
    (j : ℕ) (d : Span) → j < count → GoTo h stores locals (slice_index_or spans j d).locals

-- locals as many as the method has, which stay until lists are given back
pub record AreFixedLocals (stores : FrameStores) (words : Words) : Type 0 where
  pub fixed : IsFixed stores.locals words
  pub end : EndsBy (word_at stores.locals words) stores.locals.most

-- .. and go to those of the first `held` active spans
pub record AreHeld (h : Hierarchy) (stores : FrameStores) (active : List Span) (locals : Words) (held : ℕ) : Type 0 where
  pub there : AreFixedLocals stores locals
  pub inside : held ≤ length active
  pub go : GoToFirst h stores locals active held

-- no lists were given back since locals are held
abbrev pub AreStill : FrameStores → CoveringHandlers → Type 0
AreStill stores known = stores.locals.given_back ≡ known.since

-- What is known of handlers is of these stores and classes: the spans are ordered by their first instructions, their
-- lists are kept, and, until lists are given back, the known locals go to the first `known.held` of the active spans.
pub record FitsStores (h : Hierarchy) (stores : FrameStores) (known : CoveringHandlers) : Type 0 where
  pub sorted : IsNonDecreasingBy (λ (s : Span). s.first) known.spans.items
  pub listed : AreListed stores known.spans.items
  pub active_listed : AreListed stores known.active.items
  pub since : known.since ≤ stores.locals.given_back
  pub holds : AreStill stores known → AreHeld h stores known.active.items known.locals known.held

-- the word of locals at a place is assignable to that of each span to which the held locals go
abbrev pub GoesAt : Hierarchy → FrameStores → CoveringHandlers → Words → ℕ → Type 0
GoesAt h stores known locals at =
    (j : ℕ) (d : Span) → j < known.held
    → is_assignable h (word_at stores.locals locals at) (word_at stores.locals (slice_index_or known.active.items j d).locals at) ≡ true

-- a span is one of those from a number on
abbrev pub IsFrom : List Span → ℕ → Span → Type 0
IsFrom spans begun s = (j : ℕ) × (begun ≤ j) × (j < length spans) × (slice_index_or spans j s ≡ s)

-- .. or is active, or has ended before an instruction
abbrev pub IsSeen : List Span → ℕ → List Span → ℕ → Span → Type 0
IsSeen spans begun active step s = IsFrom spans begun s ⊎ (Contains active s ⊎ (s.end ≤ step))

-- Before an instruction: each handler that covers an instruction before the limit has a span that stands for it, which
-- has yet to begin, is active, or has ended.
abbrev pub KnowsHandlers : FrameStores → CoveringHandlers → Environment → ℕ → Type 0
KnowsHandlers stores known env step =
    (h : TypedHandler) → Contains env.handlers h
    → (known.limit ≤ h.first) ⊎ ((s : Span) × StandsFor env stores h s × IsSeen known.spans.items known.begun known.active.items step s)

-- the spans from a number on begin after an instruction
abbrev pub BeginBehind : List Span → ℕ → ℕ → Type 0
BeginBehind spans begun step = (j : ℕ) (d : Span) → begun ≤ j → j < length spans → step < (slice_index_or spans j d).first

abbrev pub HasBegun : CoveringHandlers → ℕ → Type 0
HasBegun known step = BeginBehind known.spans.items known.begun step

-- spans begin or are forgotten at an instruction
pub record GoesOn (old new : CoveringHandlers) (step : ℕ) : Type 0 where
  pub fits : (h : Hierarchy) (stores : FrameStores) → FitsStores h stores old → FitsStores h stores new
  pub knows : (env : Environment) (stores : FrameStores) → KnowsHandlers stores old env step → KnowsHandlers stores new env step
  pub begun : HasBegun old step → HasBegun new step
  pub limit : new.limit ≡ old.limit

-- no span begins or is forgotten
pub record HasSameSpans (old new : CoveringHandlers) : Type 0 where
  pub spans : new.spans.items ≡ old.spans.items
  pub begun : new.begun ≡ old.begun
  pub active : new.active.items ≡ old.active.items
  pub limit : new.limit ≡ old.limit

-- a frame breaks no rule where each of these spans covers its instruction
abbrev pub TakesFrame : Hierarchy → FrameStores → CurrentFrame → List Span → Type 0
TakesFrame h stores frame spans = All (λ (s : Span). (frame.unset ≡ false) × GoTo h stores frame.locals s.locals) spans
