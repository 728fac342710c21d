-- The lines of a journal, written one after another.
use Rattle.std.proofs.Common.{◌≡◌, ℕ, suc, ◌+◌, ◌<◌, ◌≤◌, ◌==◌, cond, List, [], ◌∷◌, ◌++◌, length, map, drop, get_or, refl, sym, ap, ◌∙◌, arith, append-nil, append_assoc, add-one, drop-cons, inl, inr}
use Rattle.std.specs.List.{concat}
use Rattle.std.proofs.lemmas.Bool.{eq-eqb, ne_eqb, cases_Bool}
use Rattle.std.proofs.lemmas.List.{drop_all}
use Rattle.op_core.specs.declared.Event.{Event}
use Rattle.op_core.specs.declared.Undo.{Undo}
use Rattle.trace_journal.specs.declared.item.JournalItem.{JournalItem}
use Rattle.trace_journal.specs.declared.item.JournalItem.TheVariants.{Event as event_item, Undone}
use Rattle.trace_journal.specs.Spelling.{spelled, head_line, end_line}
use Rattle.trace_journal.specs.Text.{ended, events_in, undos_first, merged, lines_with, text_of}

pub first_same : (rest : List Undo → List JournalItem) (n : ℕ) (u : Undo) (undos : List Undo) → u.after ≡ n → undos_first rest n (u ∷ undos) ≡ Undone u.thread u.level u.words ∷ undos_first rest n undos
first_same rest n u undos is = ap (λ b. cond b (Undone u.thread u.level u.words ∷ undos_first rest n undos) (rest (u ∷ undos))) (eq-eqb u.after n is)

pub first_other : (rest : List Undo → List JournalItem) (n : ℕ) (u : Undo) (undos : List Undo) → (u.after ≡ n → ⊥) → undos_first rest n (u ∷ undos) ≡ rest (u ∷ undos)
first_other rest n u undos other = ap (λ b. cond b (Undone u.thread u.level u.words ∷ undos_first rest n undos) (rest (u ∷ undos))) (ne_eqb u.after n other)

-- the events of events and undos are those events

first_events : (rest : List Undo → List JournalItem) (n : ℕ) (undos : List Undo) (events : List Event) → ((others : List Undo) → events_in (rest others) ≡ events) → events_in (undos_first rest n undos) ≡ events
first_events rest n [] events h = h []
first_events rest n (u ∷ undos) events h = elim (cases_Bool (u.after == n)) [
  | inl is ↦ ap (λ b. events_in (cond b (Undone u.thread u.level u.words ∷ undos_first rest n undos) (rest (u ∷ undos)))) is ∙ first_events rest n undos events h
  | inr other ↦ ap (λ b. events_in (cond b (Undone u.thread u.level u.words ∷ undos_first rest n undos) (rest (u ∷ undos)))) other ∙ h (u ∷ undos)
]

pub events_merged : (n : ℕ) (events : List Event) (undos : List Undo) → events_in (merged n events undos) ≡ events
events_merged n [] undos = first_events (λ _. []) n undos [] (λ _. refl)
events_merged n (e ∷ events) undos = first_events (λ others. event_item e ∷ merged (n + 1) events others) n undos (e ∷ events) (λ others. ap (λ es. e ∷ es) (events_merged (n + 1) events others))
