-- The lines of a journal come one after another.
use Rattle.std.proofs.Common.{◌≡◌, ℕ, zero, suc, ◌+◌, ◌<◌, ◌≤◌, ◌==◌, Bool, true, false, cond, List, [], ◌∷◌, ◌++◌, length, map, drop, get_or, drop-cons, slice_get, Option, Some, None, refl, sym, ap, ◌∙◌, subst, arith, inl, inr, append_assoc, append-nil, add-one}
use Rattle.std.specs.List.{concat}
use Rattle.std.proofs.lemmas.Bool.{eqb-true, eq-eqb}
use Rattle.std.proofs.lemmas.List.{drop_all}
use Rattle.std.proofs.lemmas.Option.{get_or_from_slice_get, slice_get_cases}
use Rattle.op_core.specs.declared.Event.{Event}
use Rattle.op_core.specs.declared.Undo.{Undo}
use Rattle.trace_journal.specs.declared.item.JournalItem.{JournalItem}
use Rattle.trace_journal.specs.declared.item.JournalItem.TheVariants.{Event as event_item, Undone}
use Rattle.trace_journal.specs.declared.place.JournalLines.{JournalLines}
use Rattle.trace_journal.specs.declared.place.Place.{Place}
use Rattle.trace_journal.specs.declared.place.Place.TheVariants.{Head, Inside, Over}
use Rattle.trace_journal.specs.Spelling.{spelled, head_line, end_line}
use Rattle.trace_journal.specs.Text.{ended, undos_first, merged, text_lines, events_in}
use Rattle.trace_journal.specs.Lines.{has_number, is_undo_due, lines_from, lines_left, HasLine, ComesNext}
use Rattle.trace_journal.proofs.WritingLemmas.{first_same, first_other, events_merged}

-- ---- which undo is due

due_is : (undos : List Undo) (undo event : ℕ) (d : Undo) → is_undo_due undos undo event ≡ true → (undo < length undos) × ((get_or undos undo d).after ≡ event)
due_is undos undo event d due = elim (slice_get_cases undos undo).1 [
  | inl (u, within, at, there) ↦ (
    within,
    ap (λ (x : Undo). x.after) (get_or_from_slice_get undos undo u d at) ∙ eqb-true u.after event (ap (λ o. has_number o event) (sym at) ∙ due),
  )
  | inr (past, none) ↦ absurd (let no : false ≡ true = ap (λ o. has_number o event) (sym none) ∙ due in cc)
]

pub due_within : (undos : List Undo) (undo event : ℕ) → is_undo_due undos undo event ≡ true → undo < length undos
due_within undos undo event due = elim (slice_get_cases undos undo).1 [
  | inl (u, within, at, there) ↦ within
  | inr (past, none) ↦ absurd (let no : false ≡ true = ap (λ o. has_number o event) (sym none) ∙ due in cc)
]

undo_merged : (n : ℕ) (events : List Event) (u : Undo) (undos : List Undo) → u.after ≡ n → merged n events (u ∷ undos) ≡ Undone u.thread u.level u.words ∷ merged n events undos
undo_merged n [] u undos is = first_same (λ _. []) n u undos is
undo_merged n (e ∷ events) u undos is = first_same (λ others. event_item e ∷ merged (n + 1) events others) n u undos is

-- where none is due the others come later
none_first : (rest : List Undo → List JournalItem) (n undo : ℕ) (undos : List Undo) → is_undo_due undos undo n ≡ false → undos_first rest n (drop undo undos) ≡ rest (drop undo undos)
none_first rest n undo undos none = elim (slice_get_cases undos undo).1 [
  | inl (u, within, at, there) ↦
      let parts : drop undo undos ≡ u ∷ drop (suc undo) undos = drop-cons undos undo u within ∙ ap (λ x. x ∷ drop (suc undo) undos) there in
      let other : u.after ≡ n → ⊥ = λ is. absurd (let no : true ≡ false = sym (eq-eqb u.after n is) ∙ ap (λ o. has_number o n) (sym at) ∙ none in cc) in
      ap (undos_first rest n) parts ∙ first_other rest n u (drop (suc undo) undos) other ∙ ap rest (sym parts)
  | inr (past, none) ↦ ap (undos_first rest n) (drop_all undo undos past) ∙ ap rest (sym (drop_all undo undos past))
]

-- ---- the next line

pub undo_next : (old new : JournalLines) (d : Undo) (before after : List ℕ) → old.place ≡ Inside → new.place ≡ Inside → new.events ≡ old.events → new.undos ≡ old.undos → new.event ≡ old.event → new.undo ≡ old.undo + 1
    → is_undo_due old.undos.now old.undo old.event ≡ true
    → after ≡ before ++ spelled (Undone (get_or old.undos.now old.undo d).thread (get_or old.undos.now old.undo d).level (get_or old.undos.now old.undo d).words)
    → ComesNext old new before after
undo_next old new d before after inside still events undos event undo due put =
    let us = old.undos.now in
    let u = get_or us old.undo d in
    let (within, number) = due_is us old.undo old.event d due in
    let parts : drop old.undo us ≡ u ∷ drop (old.undo + 1) us = drop-cons us old.undo d within ∙ ap (λ k. u ∷ drop k us) (sym (add-one old.undo)) in
    let items : merged old.event (drop old.event old.events.now) (drop old.undo us) ≡ Undone u.thread u.level u.words ∷ merged old.event (drop old.event old.events.now) (drop (old.undo + 1) us) =
    ap (merged old.event (drop old.event old.events.now)) parts ∙ undo_merged old.event (drop old.event old.events.now) u (drop (old.undo + 1) us) number in
    record {
      line = spelled (Undone u.thread u.level u.words);
      left = ap (λ p. lines_from old.events.now us p old.event old.undo) inside
          ∙ ap (λ xs. map spelled xs ++ end_line (length old.events.now) ∷ []) items
          ∙ (λ i. spelled (Undone u.thread u.level u.words) ∷ lines_from (sym events i).now (sym undos i).now (sym still i) (sym event i) (sym undo i));
      put = put;
    }

pub event_next : (old new : JournalLines) (d : Event) (before after : List ℕ) → old.place ≡ Inside → new.place ≡ Inside → new.events ≡ old.events → new.undos ≡ old.undos → new.event ≡ old.event + 1 → new.undo ≡ old.undo
    → is_undo_due old.undos.now old.undo old.event ≡ false → old.event < length old.events.now → after ≡ before ++ spelled (event_item (get_or old.events.now old.event d)) → ComesNext old new before after
event_next old new d before after inside still events undos event undo due within put =
    let es = old.events.now in
    let e = get_or es old.event d in
    let parts : drop old.event es ≡ e ∷ drop (old.event + 1) es = drop-cons es old.event d within ∙ ap (λ k. e ∷ drop k es) (sym (add-one old.event)) in
    let items : merged old.event (drop old.event es) (drop old.undo old.undos.now) ≡ event_item e ∷ merged (old.event + 1) (drop (old.event + 1) es) (drop old.undo old.undos.now) =
    ap (λ xs. merged old.event xs (drop old.undo old.undos.now)) parts ∙ none_first (λ others. event_item e ∷ merged (old.event + 1) (drop (old.event + 1) es) others) old.event old.undo old.undos.now due in
    record {
      line = spelled (event_item e);
      left = ap (λ p. lines_from es old.undos.now p old.event old.undo) inside
          ∙ ap (λ xs. map spelled xs ++ end_line (length es) ∷ []) items
          ∙ (λ i. spelled (event_item e) ∷ lines_from (sym events i).now (sym undos i).now (sym still i) (sym event i) (sym undo i));
      put = put;
    }

pub end_next : (old new : JournalLines) (before after : List ℕ) → old.place ≡ Inside → new.place ≡ Over → is_undo_due old.undos.now old.undo old.event ≡ false → old.event ≤ length old.events.now → (old.event < length old.events.now → ⊥)
    → after ≡ before ++ end_line old.event → ComesNext old new before after
end_next old new before after inside over due within last put =
    let es = old.events.now in
    let all : old.event ≡ length es = omega (arith, within, last) in
    let none : drop old.event es ≡ [] = drop_all old.event es (omega (arith, all)) in
    let items : merged old.event (drop old.event es) (drop old.undo old.undos.now) ≡ [] = ap (λ xs. merged old.event xs (drop old.undo old.undos.now)) none ∙ none_first (λ _. []) old.event old.undo old.undos.now due in
    record {
      line = end_line old.event;
      left = ap (λ p. lines_from es old.undos.now p old.event old.undo) inside
          ∙ ap (λ xs. map spelled xs ++ end_line (length es) ∷ []) items
          ∙ (λ i. end_line (sym all i) ∷ lines_from new.events.now new.undos.now (sym over i) new.event new.undo);
      put = put;
    }

pub head_next : (old new : JournalLines) (before after : List ℕ) → old.place ≡ Head → (old.event ≡ 0) × (old.undo ≡ 0) → new.place ≡ Inside → new.events ≡ old.events → new.undos ≡ old.undos → new.event ≡ old.event → new.undo ≡ old.undo
    → after ≡ before ++ head_line 2 → ComesNext old new before after
head_next old new before after head fresh inside events undos event undo put =
    let es = old.events.now in
    record {
      line = head_line 2;
      left = ap (λ p. lines_from es old.undos.now p old.event old.undo) head
          ∙ ap (λ n. head_line 2 ∷ map spelled (merged 0 es old.undos.now) ++ end_line n ∷ []) (ap length (events_merged 0 es old.undos.now))
          ∙ (λ i. head_line 2 ∷ lines_from (sym events i).now (sym undos i).now (sym inside i) (sym (event ∙ fresh.0) i) (sym (undo ∙ fresh.1) i));
      put = put;
    }

pub begins : (lines : JournalLines) → lines.place ≡ Head → lines_left lines ≡ text_lines 2 (merged 0 lines.events.now lines.undos.now)
begins lines head = ap (λ p. lines_from lines.events.now lines.undos.now p lines.event lines.undo) head

pub none_left : (lines : JournalLines) → lines.place ≡ Over → lines_left lines ≡ []
none_left lines over = ap (λ p. lines_from lines.events.now lines.undos.now p lines.event lines.undo) over

pub line_ends : (old new : JournalLines) (before middle after : List ℕ) → ComesNext old new before middle → after ≡ middle ++ 10 ∷ [] → (l : List ℕ) × (lines_left old ≡ l ∷ lines_left new) × (after ≡ before ++ ended l)
line_ends old new before middle after next ends = (next.line, next.left, ends ∙ ap (λ m. m ++ 10 ∷ []) next.put ∙ append_assoc before next.line (10 ∷ []))

-- a line more of a whole text
pub one_more_line : (whole text more : List ℕ) (left left' : List (List ℕ)) → text ++ concat (map ended left) ≡ whole → ((l : List ℕ) × (left ≡ l ∷ left') × (more ≡ text ++ ended l)) → more ++ concat (map ended left') ≡ whole
one_more_line whole text more left left' so_far (l, is, put) =
    ap (λ x. x ++ concat (map ended left')) put ∙ append_assoc text (ended l) (concat (map ended left')) ∙ ap (λ xs. text ++ concat (map ended xs)) (sym is) ∙ so_far

pub all_written : (whole text : List ℕ) (left : List (List ℕ)) → text ++ concat (map ended left) ≡ whole → left ≡ [] → text ≡ whole
all_written whole text left so_far none = sym (append-nil text) ∙ ap (λ xs. text ++ concat (map ended xs)) (sym none) ∙ so_far

-- until all are made there is one
last_left : (lines : List (List ℕ)) (line : List ℕ) → HasLine (lines ++ line ∷ [])
last_left [] line = tt
last_left (l ∷ lines) line = tt

pub has_line : (lines : JournalLines) → (lines.place ≡ Over → ⊥) → HasLine (lines_left lines)
has_line lines more = of lines.place more
  where
    of : (place : Place) → (place ≡ Over → ⊥) → HasLine (lines_from lines.events.now lines.undos.now place lines.event lines.undo)
    of Head more = tt
    of Inside more = last_left _ _
    of Over more = absurd (more refl)
