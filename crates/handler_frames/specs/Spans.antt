-- Spans of instructions that stand for handlers.
use Rattle.std.specs.Prelude.{◌≡◌, ◌≤◌, ◌⊎◌, ℕ, true, false, None, List, length}
use Rattle.std.specs.List.{All, Contains}
use Rattle.type_rules.specs.declared.types.VerificationType.{VerificationType}
use Rattle.type_rules.specs.Assignable.{are_locals_assignable}
use Rattle.type_rules.specs.Environment.{Environment, TypeFrame, TypedHandler}
use Rattle.type_rules.specs.TypeFaults.{handler_fault}
use Rattle.typing_frames.specs.declared.stores.FrameStores.{FrameStores}
use Rattle.map_frames.specs.Mapped.{shown_locals, AreLocals}
use Rattle.handler_frames.specs.declared.span.Span.{Span}

-- a frame whose locals go to these breaks no rule of the handler
abbrev pub TakesLocals : Environment → TypedHandler → ℕ → List VerificationType → Type 0
TakesLocals env h most locals =
    (f : TypeFrame) → length f.locals ≡ most → f.flag_this_uninit ≡ false → are_locals_assignable env.hierarchy f.locals locals ≡ true
    → handler_fault env f h ≡ None

-- a span has all instructions that a handler covers, and locals that it takes
pub record StandsFor (env : Environment) (stores : FrameStores) (h : TypedHandler) (s : Span) : Type 0 where
  pub first : s.first ≤ h.first
  pub end : h.end ≤ s.end
  pub locals : AreLocals stores s.locals
  pub takes : TakesLocals env h stores.locals.most (shown_locals stores s.locals)

-- each handler that covers an instruction before the limit has a span that stands for it
abbrev pub FindsSpans : Environment → FrameStores → List TypedHandler → ℕ → List Span → Type 0
FindsSpans env stores handlers limit spans =
    (h : TypedHandler) → Contains handlers h → (limit ≤ h.first) ⊎ ((s : Span) × Contains spans s × StandsFor env stores h s)

-- the lists of spans are kept in the stores
abbrev pub AreListed : FrameStores → List Span → Type 0
AreListed stores spans = All (λ (s : Span). AreLocals stores s.locals) spans

-- a span lies in another one of the same locals
pub record IsWithin (s t : Span) : Type 0 where
  pub first : t.first ≤ s.first
  pub end : s.end ≤ t.end
  pub locals : t.locals ≡ s.locals

abbrev pub AreWithin : List Span → List Span → Type 0
AreWithin spans wider = (s : Span) → Contains spans s → (t : Span) × Contains wider t × IsWithin s t
