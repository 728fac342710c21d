-- What the step of a thread makes of the words of monitors.
use Rattle.std.proofs.Common.{◌≡◌, ◌≢◌, ◌⊎◌, inl, inr, ℕ, ◌+◌, Bool, true, false, true≢false, Some, List, [], ◌∷◌, nat_eq, refl, sym, ◌∙◌, ap, subst, arith}
use Rattle.std.specs.Prelude.{if◌then◌else◌}
use Rattle.op_core.proofs.PointwiseLemmas.{same_or_other}
use Rattle.heap_words.specs.declared.areas.Area.TheVariants as area
use Rattle.step_port.specs.declared.answer.StepAnswer.{StepAnswer}
use Rattle.step_port.specs.declared.answer.StepAnswer.TheVariants.{Lost}
use Rattle.step_port.specs.declared.step.Step.{Step}
use Rattle.step_port.specs.declared.step.Step.TheVariants.{LoadStop, SetStop, LookMonitor, LookSection, BreakLevel, TakeMonitor}
use Rattle.step_port.specs.Steps.{place_of, effect_of}
use Rattle.step_port.specs.Words.{Words, put_at, answer_of, words_after}
use Rattle.thread_automaton.specs.declared.Held.{Held}
use Rattle.thread_automaton.specs.ThreadState.{held_as, with_depth_of}
use Rattle.thread_automaton.specs.NextMove.{held_word}
use Rattle.thread_automaton.specs.Changes.{without}
use Rattle.automaton_rows.specs.Undoing.{is_held}
use Rattle.automaton_rows.proofs.UndoLemmas.{eq_same, same_held, still_held, still_as}
use Rattle.core_runs.specs.OwnParts.{is_beside}
use Rattle.section_laws.proofs.WordLemmas.{Exchanged, exchanged, lost, stays_at}
use Rattle.first_law.specs.RunMonitors.{written_place}
use Rattle.first_law.proofs.run_monitors.ListLemmas.{or_right, let_go_of, held_first, as_first, held_later, as_later, as_with, as_with_other}
use Rattle.first_law.proofs.run_monitors.DeedLemmas.{SetsNoMonitor, set_elsewhere, stays_by, MonitorDeed, keeps_all, takes_one, sets_one, leaves_one}

contrary : {P : Type 0} → true ≡ false → P
contrary same = absurd (true≢false same)

-- whether it is held
pub data Whether (t : Bool) : Type 0 where
  yes_so : t ≡ true → Whether t
  not_so : t ≡ false → Whether t

pub whether : (t : Bool) → Whether t
whether true = yes_so refl
whether false = not_so refl

set_here : (w : Words) (p v : ℕ) → put_at w (area.Object p) v (area.Object p) ≡ v
set_here w p v = ap (λ t. if t then v else w (area.Object p)) (eq_same p)

pub apart_next : (q r : ℕ) → r ≢ q → q + 1 ≢ r + 1
apart_next q r other same = other (back q r same)
  where
    back : (q r : ℕ) → q + 1 ≡ r + 1 → r ≡ q
    back q r same = omega (arith, same)

-- no step beside those of threads sets a word of an object
pub beside_stays : (step : Step) (w : Words) (q : ℕ) → is_beside step ≡ true → words_after step w (area.Object q) ≡ w (area.Object q)
beside_stays LoadStop w q is = refl
beside_stays SetStop w q is = refl
beside_stays (LookMonitor r) w q is = refl
beside_stays (LookSection s) w q is = refl
beside_stays (BreakLevel s old level) w q is = stays_at (effect_of (BreakLevel s old level)) w (area.Section s) (area.Object q) refl
beside_stays step w q is = contrary (sym is)

-- A thread that has section s open makes the step on the words w. Of each monitor that it holds before, its word says that.
module _ (s t : ℕ) (held behind : List Held) (step : Step) (a : StepAnswer) (deed : MonitorDeed s t held behind step a) (w : Words) (answered : a ≡ answer_of w step) where
  abbrev pub now : ℕ → ℕ
  now r = words_after step w (area.Object (r + 1))

  abbrev pub before : ℕ → ℕ
  before r = w (area.Object (r + 1))

  -- no word that the step sets is the monitor of r
  abbrev pub IsApart : ℕ → Type 0
  IsApart r = (p : ℕ) → written_place step ≡ Some p → p ≢ r + 1

  quiet_word : (r : ℕ) → IsApart r → SetsNoMonitor step ⊎ ((v : ℕ) × (a ≡ Lost v)) → now r ≡ before r
  quiet_word r apart none = elim none [
    | inl sets_none ↦ stays_by step sets_none w (r + 1) apart
    | inr is_lost ↦ ap (λ (v : Words). v (area.Object (r + 1))) (lost (effect_of step) w (place_of step) is_lost.0 (sym is_lost.1 ∙ answered))
  ]

  -- a monitor that another thread may hold stays
  pub word_stays : (r : ℕ) → IsApart r → is_held r held ≡ false → before r ≢ 0 → now r ≡ before r
  word_stays r apart none some = by_deed deed answered (quiet_word r apart)
    where
      not_both : {P : Type 0} (q : ℕ) → is_held q held ≡ true → r ≡ q → P
      not_both q has same = contrary (sym (subst (λ n. is_held n held ≡ true) (sym same) has) ∙ none)

      by_deed : {step : Step} {a : StepAnswer} → MonitorDeed s t held behind step a → a ≡ answer_of w step
          → (SetsNoMonitor step ⊎ ((v : ℕ) × (a ≡ Lost v)) → words_after step w (area.Object (r + 1)) ≡ w (area.Object (r + 1))) → words_after step w (area.Object (r + 1)) ≡ w (area.Object (r + 1))
      by_deed (keeps_all same section quiet_step) is quiet = quiet quiet_step
      by_deed (takes_one {h = h} {r = q} object new deep after section) is quiet =
          let e : Exchanged w (area.Object (q + 1)) 0 (held_word s h) = exchanged w (area.Object (q + 1)) 0 (held_word s h) is in
          elim (same_or_other r q) [
            | inl here ↦ absurd (some (ap (λ n. w (area.Object (n + 1))) here ∙ e.found))
            | inr other ↦ ap (λ (v : Words). v (area.Object (r + 1))) e.leaves ∙ set_elsewhere w (q + 1) (r + 1) (held_word s h) (apart_next q r other)
          ]
      by_deed (sets_one {r = q} {new = new} d has word after section) is quiet =
          elim (same_or_other r q) [ inl here ↦ not_both q has here | inr other ↦ set_elsewhere w (q + 1) (r + 1) new (apart_next q r other) ]
      by_deed (leaves_one {r = q} has after section) is quiet = elim (same_or_other r q) [ inl here ↦ not_both q has here | inr other ↦ set_elsewhere w (q + 1) (r + 1) 0 (apart_next q r other) ]

  -- a monitor that is held after it was held before, or was free and is the one that the step takes
  pub held_before : (r : ℕ) → is_held r behind ≡ true → (is_held r held ≡ true) ⊎ ((before r ≡ 0) × ((new : ℕ) × (step ≡ TakeMonitor r new)))
  held_before r is = by_deed deed answered
    where
      by_deed : {step : Step} {a : StepAnswer} → MonitorDeed s t held behind step a → a ≡ answer_of w step → (is_held r held ≡ true) ⊎ ((w (area.Object (r + 1)) ≡ 0) × ((new : ℕ) × (step ≡ TakeMonitor r new)))
      by_deed (keeps_all same section quiet_step) answer = inl (ap (is_held r) (sym same) ∙ is)
      by_deed (takes_one {h = h} {r = q} object new deep after section) answer = elim (same_or_other r h.object) [
        | inl here ↦ inr (
          ap (λ n. w (area.Object (n + 1))) (here ∙ sym object) ∙ (exchanged w (area.Object (q + 1)) 0 (held_word s h) answer).found,
          (held_word s h, ap (λ n. TakeMonitor n (held_word s h)) (object ∙ sym here)),
        )
        | inr other ↦ inl (sym (held_later h held r other) ∙ ap (is_held r) (sym after) ∙ is)
      ]
      by_deed (sets_one {r = q} d has word after section) answer = inl (sym (same_held q r _ held) ∙ ap (is_held r) (sym after) ∙ is)
      by_deed (leaves_one {r = q} has after section) answer = elim (same_or_other r q) [
        | inl here ↦ contrary (sym (ap (is_held r) (sym after) ∙ is) ∙ ap (λ n. is_held n (without q held)) here ∙ let_go_of q held)
        | inr other ↦ inl (sym (still_held q r held other) ∙ ap (is_held r) (sym after) ∙ is)
      ]

  -- its word says so
  pub says_after : ((r : ℕ) → is_held r held ≡ true → IsApart r) → ((r : ℕ) → is_held r held ≡ true → before r ≡ held_word s (held_as r held)) → (r : ℕ) → is_held r behind ≡ true
      → now r ≡ held_word t (held_as r behind)
  says_after apart says r is = by_deed deed answered (λ has. quiet_word r (apart r has))
    where
      none_held : {P : Type 0} (xs : List Held) → xs ≡ [] → is_held r xs ≡ true → P
      none_held xs empty has = contrary (sym has ∙ ap (is_held r) empty)

      old_word : (h : Held) (u : ℕ) → u ≡ s → is_held r held ≡ true → held_as r held ≡ h → w (area.Object (r + 1)) ≡ held_word u h
      old_word h u section has same = says r has ∙ ap (λ x. held_word s x) same ∙ ap (λ n. held_word n h) (sym section)

      by_deed : {step : Step} {a : StepAnswer} → MonitorDeed s t held behind step a → a ≡ answer_of w step
          → (is_held r held ≡ true → SetsNoMonitor step ⊎ ((v : ℕ) × (a ≡ Lost v)) → words_after step w (area.Object (r + 1)) ≡ w (area.Object (r + 1)))
          → words_after step w (area.Object (r + 1)) ≡ held_word t (held_as r behind)
      by_deed (keeps_all same section quiet_step) answer quiet =
          let has : is_held r held ≡ true = ap (is_held r) (sym same) ∙ is in
          elim section [
            | inl stays ↦ quiet has quiet_step ∙ old_word (held_as r behind) t stays has (ap (held_as r) (sym same))
            | inr empty ↦ none_held held empty has
          ]
      by_deed (takes_one {h = h} {r = q} object new deep after section) answer quiet =
          let e : Exchanged w (area.Object (q + 1)) 0 (held_word s h) = exchanged w (area.Object (q + 1)) 0 (held_word s h) answer in
          elim (same_or_other r h.object) [
            | inl here ↦ ap (λ (v : Words). v (area.Object (r + 1))) e.leaves ∙ ap (λ n. put_at w (area.Object (q + 1)) (held_word s h) (area.Object (n + 1))) (here ∙ sym object)
                ∙ set_here w (q + 1) (held_word s h) ∙ ap (λ n. held_word n h) (sym section) ∙ ap (held_word t) (sym (ap (held_as r) after ∙ ap (λ n. held_as n (h ∷ held)) here ∙ as_first h held))
            | inr other ↦ ap (λ (v : Words). v (area.Object (r + 1))) e.leaves ∙ set_elsewhere w (q + 1) (r + 1) (held_word s h) (apart_next q r (λ same. other (same ∙ object)))
                ∙ old_word (held_as r behind) t section (sym (held_later h held r other) ∙ ap (is_held r) (sym after) ∙ is) (sym (ap (held_as r) after ∙ as_later h held r other))
          ]
      by_deed (sets_one {r = q} {new = new} d has word after section) answer quiet = elim (same_or_other r q) [
        | inl here ↦ ap (λ n. put_at w (area.Object (q + 1)) new (area.Object (n + 1))) here ∙ set_here w (q + 1) new ∙ word ∙ ap (λ n. held_word n (record (held_as q held) { depth = d })) (sym section)
            ∙ ap (held_word t) (sym (ap (held_as r) after ∙ ap (λ n. held_as n (with_depth_of q d held)) here ∙ as_with q d held has))
        | inr other ↦ set_elsewhere w (q + 1) (r + 1) new (apart_next q r other)
            ∙ old_word (held_as r behind) t section (sym (same_held q r d held) ∙ ap (is_held r) (sym after) ∙ is) (sym (ap (held_as r) after ∙ as_with_other q r d held other))
      ]
      by_deed (leaves_one {r = q} has after section) answer quiet = elim (same_or_other r q) [
        | inl here ↦ contrary (sym (ap (is_held r) (sym after) ∙ is) ∙ ap (λ n. is_held n (without q held)) here ∙ let_go_of q held)
        | inr other ↦ elim section [
          | inl stays ↦ set_elsewhere w (q + 1) (r + 1) 0 (apart_next q r other)
              ∙ old_word (held_as r behind) t stays (sym (still_held q r held other) ∙ ap (is_held r) (sym after) ∙ is) (sym (ap (held_as r) after ∙ still_as q r held other))
          | inr empty ↦ none_held behind empty is
        ]
      ]

  -- one that isn't free after is held then, or wasn't free before and isn't held
  pub free_after : (r : ℕ) → IsApart r → now r ≢ 0 → (is_held r behind ≡ true) ⊎ ((is_held r held ≡ false) × (before r ≢ 0))
  free_after r apart some = by_deed deed answered (quiet_word r apart) some
    where
      by_deed : {step : Step} {a : StepAnswer} → MonitorDeed s t held behind step a → a ≡ answer_of w step
          → (SetsNoMonitor step ⊎ ((v : ℕ) × (a ≡ Lost v)) → words_after step w (area.Object (r + 1)) ≡ w (area.Object (r + 1)))
          → words_after step w (area.Object (r + 1)) ≢ 0 → (is_held r behind ≡ true) ⊎ ((is_held r held ≡ false) × (w (area.Object (r + 1)) ≢ 0))
      by_deed (keeps_all same section quiet_step) answer quiet some = by_whether (whether (is_held r held))
        where
          by_whether : Whether (is_held r held) → (is_held r behind ≡ true) ⊎ ((is_held r held ≡ false) × (w (area.Object (r + 1)) ≢ 0))
          by_whether (yes_so has) = inl (ap (is_held r) same ∙ has)
          by_whether (not_so none) = inr (none, λ zero_word. some (quiet quiet_step ∙ zero_word))
      by_deed (takes_one {h = h} {r = q} object new deep after section) answer quiet some = elim (same_or_other r h.object) [
        | inl here ↦ inl (ap (is_held r) after ∙ ap (λ n. is_held n (h ∷ held)) here ∙ held_first h held)
        | inr other ↦ by_whether other (whether (is_held r held))
      ]
        where
          by_whether : r ≢ h.object → Whether (is_held r held) → (is_held r behind ≡ true) ⊎ ((is_held r held ≡ false) × (w (area.Object (r + 1)) ≢ 0))
          by_whether other (yes_so has) = inl (ap (is_held r) after ∙ or_right (nat_eq h.object r) (is_held r held) has)
          by_whether other (not_so none) = inr (
            none,
            λ zero_word. some (ap (λ (v : Words). v (area.Object (r + 1))) (exchanged w (area.Object (q + 1)) 0 (held_word s h) answer).leaves
                ∙ set_elsewhere w (q + 1) (r + 1) (held_word s h) (apart_next q r (λ same. other (same ∙ object))) ∙ zero_word),
          )
      by_deed (sets_one {r = q} {new = new} d has word after section) answer quiet some = by_whether (whether (is_held r held))
        where
          by_whether : Whether (is_held r held) → (is_held r behind ≡ true) ⊎ ((is_held r held ≡ false) × (w (area.Object (r + 1)) ≢ 0))
          by_whether (yes_so held_so) = inl (ap (is_held r) after ∙ same_held q r d held ∙ held_so)
          by_whether (not_so none) = inr (
            none,
            λ zero_word. some (set_elsewhere w (q + 1) (r + 1) new
                (apart_next q r (λ same. contrary (sym (subst (λ n. is_held n held ≡ true) (sym same) has) ∙ none))) ∙ zero_word),
          )
      by_deed (leaves_one {r = q} has after section) answer quiet some = elim (same_or_other r q) [
        | inl here ↦ absurd (some (ap (λ n. put_at w (area.Object (q + 1)) 0 (area.Object (n + 1))) here ∙ set_here w (q + 1) 0))
        | inr other ↦ by_whether other (whether (is_held r held))
      ]
        where
          by_whether : r ≢ q → Whether (is_held r held) → (is_held r behind ≡ true) ⊎ ((is_held r held ≡ false) × (w (area.Object (r + 1)) ≢ 0))
          by_whether other (yes_so held_so) = inl (ap (is_held r) after ∙ still_held q r held other ∙ held_so)
          by_whether other (not_so none) = inr (none, λ zero_word. some (set_elsewhere w (q + 1) (r + 1) 0 (apart_next q r other) ∙ zero_word))
