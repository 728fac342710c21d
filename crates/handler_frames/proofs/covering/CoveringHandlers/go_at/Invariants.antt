use Rattle.std.proofs.Common.{◌≡◌, ◌<◌, ℕ, true, slice_index_or}
use Rattle.type_rules.specs.Assignable.{is_assignable}
use Rattle.type_lists.specs.Store.{word_at}
use Rattle.handler_frames.specs.declared.span.Span.{Span}
use Rattle.handler_frames.proofs.covering.CoveringHandlers.go_at.Given as goal

abbrev pub invariant-loop-span : goal.invariant-loop-span
invariant-loop-span g l =
    (d : Span) (j : ℕ) → j < l.span-index → is_assignable (g.H.ClassHierarchy.hierarchy l.hierarchy) l.word (word_at l.stores.locals (slice_index_or l.span-items j d).locals l.at) ≡ true
