-- A journal is made up of its events and its undoings.
use Rattle.std.proofs.Common.{◌≡◌, ℕ, ◌+◌, ◌<◌, ◌≤◌, ◌==◌, true, false, List, [], ◌∷◌, refl, ◌∙◌, ap, arith}
use Rattle.std.specs.Prelude.{if◌then◌else◌}
use Rattle.std.proofs.lemmas.Grind.{common_steps}
use Rattle.std.proofs.lemmas.Bool.Decides.{nat_tests}
use Rattle.op_core.specs.declared.Event.{Event}
use Rattle.op_core.specs.declared.Undo.{Undo}
use Rattle.trace_journal.specs.declared.item.JournalItem.{JournalItem}
use Rattle.trace_journal.specs.declared.item.JournalItem.TheVariants.{Event as event_item, Undone}
use Rattle.trace_journal.specs.Text.{events_in, undos_in, undos_first, merged}
use Rattle.core_law.specs.JournalLaws.{JournalsAreMerged}

same_number : (n : ℕ) → (n == n) ≡ true
same_number n = grind (arith, common_steps, nat_tests)

other_number : (m n : ℕ) → n < m → (m == n) ≡ false
other_number m n low = grind (arith, common_steps, nat_tests)

-- the first of these comes no earlier
abbrev AllLater : ℕ → List Undo → Type 0
AllLater n [] = Unit {0}
AllLater n (u ∷ undos) = n ≤ u.after

are_later : (m n : ℕ) (items : List JournalItem) → m ≤ n → AllLater m (undos_in n items)
are_later m n [] low = tt
are_later m n (event_item e ∷ items) low = are_later m (n + 1) items (omega (arith, low))
are_later m n (Undone t l w ∷ items) low = low

-- an undoing at this place comes first
undo_first : (n : ℕ) (events : List Event) (u : Undo) (undos : List Undo) → u.after ≡ n → merged n events (u ∷ undos) ≡ Undone u.thread u.level u.words ∷ merged n events undos
undo_first n [] u undos is = ap (λ z. if z then Undone u.thread u.level u.words ∷ undos_first (λ _. []) n undos else []) (ap (λ m. m == n) is ∙ same_number n)
undo_first n (e ∷ events) u undos is = ap (λ z. if z then Undone u.thread u.level u.words ∷ undos_first (λ others. event_item e ∷ merged (n + 1) events others) n undos else event_item e ∷ merged (n + 1) events (u ∷ undos))
    (ap (λ m. m == n) is ∙ same_number n)

-- and later ones after the next event
event_first : (n : ℕ) (e : Event) (events : List Event) (undos : List Undo) → AllLater (n + 1) undos → merged n (e ∷ events) undos ≡ event_item e ∷ merged (n + 1) events undos
event_first n e events [] later = refl
event_first n e events (u ∷ undos) later =
    ap (λ z. if z then Undone u.thread u.level u.words ∷ undos_first (λ others. event_item e ∷ merged (n + 1) events others) n undos else event_item e ∷ merged (n + 1) events (u ∷ undos)) (other_number u.after n (omega (arith, later)))

merged_from : (n : ℕ) (items : List JournalItem) → merged n (events_in items) (undos_in n items) ≡ items
merged_from n [] = refl
merged_from n (event_item e ∷ items) = event_first n e (events_in items) (undos_in (n + 1) items) (are_later (n + 1) (n + 1) items (omega arith)) ∙ ap (λ xs. event_item e ∷ xs) (merged_from (n + 1) items)
merged_from n (Undone t l w ∷ items) = undo_first n (events_in items) (record { after = n; thread = t; level = l; words = w }) (undos_in n items) refl ∙ ap (λ xs. Undone t l w ∷ xs) (merged_from n items)

pub journals_are_merged : JournalsAreMerged
journals_are_merged items = merged_from 0 items
