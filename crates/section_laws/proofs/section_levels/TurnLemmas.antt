-- What one act makes of the levels of one thread and of the word of its section.
use Rattle.std.proofs.Common.{◌≡◌, ◌⊎◌, inl, inr, ℕ, zero, suc, ◌-◌, ◌<◌, ◌≤◌, Bool, true, false, Option, None, Some, List, [], ◌∷◌, length, nat_eq, refl, sym, ◌∙◌, ap, subst, arith}
use Rattle.std.specs.Prelude.{nat_le, if◌then◌else◌}
use Rattle.std.proofs.lemmas.Grind.{common_steps}
use Rattle.std.proofs.lemmas.Bool.Decides.{nat_tests}
use Rattle.heap_words.specs.declared.areas.Area.TheVariants.{Section}
use Rattle.section_state.specs.SectionWord.{state_of, pinned_of, revoke_of, with_pinned, with_depth, opened_of, committed_of, undone_of}
use Rattle.step_port.specs.declared.answer.StepAnswer.{StepAnswer}
use Rattle.step_port.specs.declared.step.Effect.TheVariants.{Exchange}
use Rattle.step_port.specs.declared.step.Step.{Step}
use Rattle.step_port.specs.declared.step.Step.TheVariants.{MarkUndone, OpenSection}
use Rattle.step_port.specs.Words.{Words, put_at, answer_to, answer_of, words_after}
use Rattle.thread_automaton.specs.Changes.{section_at}
use Rattle.core_runs.specs.Cores.{outermost}
use Rattle.section_laws.specs.LevelRun.{LevelAct, calm, opens_one, closes_all_but, is_revoked, is_undone}
use Rattle.section_laws.proofs.WordLemmas.{exchanged, put_section}
use Rattle.section_laws.proofs.ClaimLemmas.{none_some}
use Rattle.section_laws.proofs.own_sections.WordLemmas.{packed, pinned_says, deep_says, opened_says, committed_says, goes_on_says}
use Rattle.section_laws.proofs.own_sections.ViewLemmas.{View, own_of, opening_of, Deed, plain, goes_on, sees_revoked, sees_pinned, pins_own, undoes, touches, opens, opens_level, commits, closes_levels, ends_section}
use Rattle.section_laws.proofs.own_sections.OwnLemmas.{Bits, OwnSays, Own, elsewhere_stays, own_packed, swapped, pin_low}
use Rattle.section_laws.specs.Levels.{revoked_by}
use Rattle.section_laws.proofs.section_levels.RowLemmas.{IsOpening, LevelsGo, goes_out, goes_in, outermost_all}

-- ---- one act of a run of levels

-- as `LevelAt`, of the levels and the revocation before and after the act
abbrev pub Between : ℕ → List ℕ → List ℕ → Option ℕ → Option ℕ → LevelAct → Type 0
Between k l m r q calm = (m ≡ l) × (q ≡ r)
Between k l m r q opens_one = (m ≡ k ∷ l) × (r ≡ None) × (q ≡ None)
Between k l m r q (closes_all_but n) = (m ≡ outermost n l) × (r ≡ None) × (q ≡ None)
Between k l m r q (is_revoked n) = (m ≡ l) × (r ≡ None) × (q ≡ Some n) × (0 < n) × (n ≤ length l)
Between k l m r q (is_undone n) = (m ≡ outermost (n - 1) l) × (r ≡ Some n) × (q ≡ None)

pub record Turn (k : ℕ) (l m : List ℕ) (r q : Option ℕ) (p d : ℕ) (Revokes Undoes : ℕ → Type 0) : Type 0 where
  pub act : LevelAct
  pub between : Between k l m r q act
  pub rises : (l ≡ []) ⊎ (p ≤ d)
  pub by : (n : ℕ) → act ≡ is_revoked n → (p < n) × (d ≡ p) × Revokes n
  pub stays : (n : ℕ) → r ≡ Some n → d ≡ p
  pub undone : (n : ℕ) → act ≡ is_undone n → Undoes n

abbrev IsRevoked : LevelAct → Type 0
IsRevoked (is_revoked n) = Unit {0}
IsRevoked act = ⊥

abbrev IsUndone : LevelAct → Type 0
IsUndone (is_undone n) = Unit {0}
IsUndone act = ⊥

pub not_revoked : {A : Type 0} {act : LevelAct} {n : ℕ} → (IsRevoked act → ⊥) → act ≡ is_revoked n → A
not_revoked other is = absurd (other (subst IsRevoked (sym is) tt))

pub not_undone : {A : Type 0} {act : LevelAct} {n : ℕ} → (IsUndone act → ⊥) → act ≡ is_undone n → A
not_undone other is = absurd (other (subst IsUndone (sym is) tt))

pub calm_turn : (k : ℕ) (l m : List ℕ) (r q : Option ℕ) (p d : ℕ) (R U : ℕ → Type 0) → m ≡ l → q ≡ r → (l ≡ []) ⊎ (p ≤ d) → ((n : ℕ) → r ≡ Some n → d ≡ p) → Turn k l m r q p d R U
calm_turn k l m r q p d R U same again up stays =
    record { act = calm; between = (same, again); rises = up; by = λ n is. not_revoked (λ h. h) is; stays = stays; undone = λ n is. not_undone (λ h. h) is }

same_depth : (p d : ℕ) → d ≡ p → p ≤ d
same_depth p d is = omega (arith, is)

-- where nothing is being undone
live_turn : (k : ℕ) (l m : List ℕ) (r q : Option ℕ) (p d : ℕ) (R U : ℕ → Type 0) (act : LevelAct) → Between k l m r q act → (IsRevoked act → ⊥) → (IsUndone act → ⊥) → r ≡ None
    → (l ≡ []) ⊎ (p ≤ d) → Turn k l m r q p d R U
live_turn k l m r q p d R U act between other unended none up = record {
  act = act;
  between = between;
  rises = up;
  by = λ n is. not_revoked other is;
  stays = λ n is. none_some n (sym none ∙ is);
  undone = λ n is. not_undone unended is;
}

-- ---- the section of a thread that is seen so

abbrev pub word_of : View → Words → Option ℕ
word_of x w = if nat_eq x.section 0 then None else Some (w (Section x.section))

abbrev pub pinned_as : View → Words → ℕ
pinned_as x w = if nat_eq x.section 0 then x.pinned else pinned_of (w (Section x.section))

equal_zero : (n : ℕ) → n ≡ 0 → nat_eq n 0 ≡ true
equal_zero n is = grind (arith, common_steps, nat_tests)

not_zero : (n : ℕ) → 0 < n → nat_eq n 0 ≡ false
not_zero n is = grind (arith, common_steps, nat_tests)

unequal : (m n : ℕ) → (m ≡ n → ⊥) → nat_eq m n ≡ false
unequal m n other = grind (arith, common_steps, nat_tests)

pub zero_or_some : (n : ℕ) → (n ≡ 0) ⊎ (0 < n)
zero_or_some zero = inl refl
zero_or_some (suc n) = inr (omega arith)

pub closed_word : (x : View) (w : Words) → x.section ≡ 0 → revoked_by (word_of x w) ≡ None
closed_word x w none = ap (λ t. revoked_by (if t then None else Some (w (Section x.section)))) (equal_zero x.section none)

pub open_word : (x : View) (w : Words) (s v : ℕ) → 0 < s → x.section ≡ s → w (Section s) ≡ v → revoked_by (word_of x w) ≡ revoked_by (Some v)
open_word x w s v some is at = ap (λ n. revoked_by (if nat_eq n 0 then None else Some (w (Section n)))) is
    ∙ ap (λ t. revoked_by (if t then None else Some (w (Section s)))) (not_zero s some) ∙ ap (λ u. revoked_by (Some u)) at

pub open_pin : (x : View) (w : Words) (s v : ℕ) → 0 < s → x.section ≡ s → w (Section s) ≡ v → pinned_as x w ≡ pinned_of v
open_pin x w s v some is at = ap (λ n. if nat_eq n 0 then x.pinned else pinned_of (w (Section n))) is
    ∙ ap (λ t. if t then x.pinned else pinned_of (w (Section s))) (not_zero s some) ∙ ap pinned_of at

pub closed_pin : (x : View) (w : Words) → x.section ≡ 0 → pinned_as x w ≡ x.pinned
closed_pin x w none = ap (λ t. if t then x.pinned else pinned_of (w (Section x.section))) (equal_zero x.section none)

pub unrevoked : (v n : ℕ) → state_of v ≡ n → (n ≡ 3 → ⊥) → revoked_by (Some v) ≡ None
unrevoked v n is other = ap (λ t. if t then Some (revoke_of v) else None) (ap (λ m. nat_eq m 3) is ∙ unequal n 3 other)

pub turned : (v : ℕ) → state_of v ≡ 3 → revoked_by (Some v) ≡ Some (revoke_of v)
turned v is = ap (λ m. if nat_eq m 3 then Some (revoke_of v) else None) is

one_three : (n : ℕ) → n ≡ 1 → n ≡ 3 → ⊥
one_three n one three = omega (arith, one, three)

five_three : (n : ℕ) → n ≡ 5 → n ≡ 3 → ⊥
five_three n five three = omega (arith, five, three)

-- ---- an act of the thread itself

module _ (x y : View) (w : Words) (bits : Bits x) (own : Own x w) (k : ℕ) (l m : List ℕ) (counted : length l ≡ x.levels) (closed : x.section ≡ 0 → x.levels ≡ 0)
    (closed_after : y.section ≡ 0 → y.levels ≡ 0) (R U : ℕ → Type 0) where
  abbrev Turns : Words → Type 0
  Turns v = Turn k l m (revoked_by (word_of x w)) (revoked_by (word_of y v)) (pinned_as x w) (pinned_as y v) R U

  abbrev Goes : Step → Type 0
  Goes step = LevelsGo step k x.levels y.levels l m

  empty : x.section ≡ 0 → l ≡ []
  empty none = by_list l (counted ∙ closed none)
    where
      by_list : (l : List ℕ) → length l ≡ 0 → l ≡ []
      by_list [] is = refl
      by_list (p ∷ l) is = absurd (no (length l) is)
        where
          no : (n : ℕ) → suc n ≡ 0 → ⊥
          no n is = omega (arith, is)

  same_levels : {step : Step} → y.levels ≡ x.levels → Goes step → m ≡ l
  same_levels is (goes_out low kept) = kept ∙ ap (λ n. outermost n l) is ∙ outermost_all x.levels l counted
  same_levels is (goes_in opening more kept) = absurd (no x.levels y.levels is more)
    where
      no : (n d : ℕ) → d ≡ n → d ≡ suc n → ⊥
      no n d is more = omega (arith, is, more)

  out_levels : {step : Step} (n : ℕ) → y.levels ≡ n → (IsOpening step → y.levels ≡ suc x.levels → ⊥) → Goes step → m ≡ outermost n l
  out_levels n is other (goes_out low kept) = kept ∙ ap (λ d. outermost d l) is
  out_levels n is other (goes_in opening more kept) = absurd (other opening more)

  in_levels : {step : Step} → y.levels ≡ suc x.levels → Goes step → m ≡ k ∷ l
  in_levels is (goes_out low kept) = absurd (no x.levels y.levels is low)
    where
      no : (n d : ℕ) → d ≡ suc n → d ≤ n → ⊥
      no n d is low = omega (arith, is, low)
  in_levels is (goes_in opening more kept) = kept

  -- neither levels nor word change
  still : (v : Words) → y.section ≡ x.section → (0 < x.section → v (Section x.section) ≡ w (Section x.section)) → m ≡ l → Turns v
  still v section same levels = elim (zero_or_some x.section) [
    | inl none ↦ calm_turn k l m _ _ _ _ R U levels (closed_word y v (section ∙ none) ∙ sym (closed_word x w none)) (inl (empty none)) (λ n is. none_some n (sym (closed_word x w none) ∙ is))
    | inr some ↦
        let word = w (Section x.section) in
        let pin : pinned_as y v ≡ pinned_as x w = open_pin y v x.section word some section (same some) ∙ sym (open_pin x w x.section word some refl refl) in
        calm_turn k l m _ _ _ _ R U levels (open_word y v x.section word some section (same some) ∙ sym (open_word x w x.section word some refl refl))
        (inr (same_depth (pinned_as x w) (pinned_as y v) pin)) (λ n is. pin)
  ]

  -- the own word, which was live, becomes another that isn't revoked
  goes_live : (v : Words) (act : LevelAct) (new n : ℕ) → 0 < x.section → y.section ≡ x.section → state_of (w (Section x.section)) ≡ 1 → v (Section x.section) ≡ new → state_of new ≡ n → (n ≡ 3 → ⊥)
      → pinned_of (w (Section x.section)) ≤ pinned_of new → (revoked_by (word_of x w) ≡ None → revoked_by (word_of y v) ≡ None → Between k l m (revoked_by (word_of x w)) (revoked_by (word_of y v)) act)
      → (IsRevoked act → ⊥) → (IsUndone act → ⊥) → Turns v
  goes_live v act new n some section live at state other up between unturned unended =
      let word = w (Section x.section) in
      let none : revoked_by (word_of x w) ≡ None = open_word x w x.section word some refl refl ∙ unrevoked word 1 live (one_three 1 refl) in
      let none_after : revoked_by (word_of y v) ≡ None = open_word y v x.section new some section at ∙ unrevoked new n state other in
      live_turn k l m _ _ _ _ R U act (between none none_after) unturned unended none
      (inr (lift (pinned_as x w) (pinned_of word) (pinned_of new) (pinned_as y v) (open_pin x w x.section word some refl refl) up (open_pin y v x.section new some section at)))
    where
      lift : (p a c d : ℕ) → p ≡ a → a ≤ c → d ≡ c → p ≤ d
      lift p a c d is up also = omega (arith, is, up, also)

  found_own : (new : ℕ) → StepAnswer.Done ≡ answer_to (Exchange (own_of x) new) (w (Section x.section)) → w (Section x.section) ≡ own_of x
  found_own new is = (exchanged w (Section x.section) (own_of x) new is).found

  own_live : 0 < x.section → (new : ℕ) → StepAnswer.Done ≡ answer_to (Exchange (own_of x) new) (w (Section x.section)) → state_of (w (Section x.section)) ≡ 1
  own_live some new is = ap state_of (found_own new is) ∙ (own_packed x bits (pin_low x y w bits own some)).1.0

  own_pin : 0 < x.section → (new d : ℕ) → StepAnswer.Done ≡ answer_to (Exchange (own_of x) new) (w (Section x.section)) → pinned_of new ≡ d → pinned_of (own_of x) ≤ d
      → pinned_of (w (Section x.section)) ≤ pinned_of new
  own_pin some new d is pin low = lift (pinned_of (w (Section x.section))) (pinned_of (own_of x)) d (pinned_of new) (ap pinned_of (found_own new is)) low pin
    where
      lift : (p a c d : ℕ) → p ≡ a → a ≤ c → d ≡ c → p ≤ d
      lift p a c d is up also = omega (arith, is, up, also)

  same_size : (n : ℕ) → n ≤ n
  same_size n = omega arith

  pub own_turn : {step : Step} {a : StepAnswer} → Deed x y step a → a ≡ answer_of w step → Goes step
      → ((v : ℕ) → x.undoing ≡ Some v → step ≡ MarkUndone x.section (undone_of v) → U (revoke_of v)) → Turns (words_after step w)
  own_turn {step} (plain same keeps none low leaving) is go ends = still (words_after step w) keeps.2 (λ some. same.stay w is x.section) (same_levels keeps.3 go)
  own_turn {step} (goes_on same keeps undoing again level leaving) is go ends = still (words_after step w) keeps.2 (λ some. same.stay w is x.section) (same_levels keeps.3 go)
  own_turn {step} (sees_revoked three keeps undoing level leaving) is go ends = still (words_after step w) keeps.2 (λ some. refl) (same_levels keeps.3 go)
  own_turn {step} (sees_pinned keeps pin calm_then) is go ends = still (words_after step w) keeps.2 (λ some. refl) (same_levels keeps.3 go)
  own_turn {step} (pins_own some unpinned keeps pin none level leaving) is go ends =
      let p = own_packed x bits (pin_low x y w bits own some) in
      let now = pinned_says (own_of x) x.levels bits.levels in
      goes_live (words_after step w) calm (with_pinned (own_of x) x.levels) 1 some keeps.2 (own_live some (with_pinned (own_of x) x.levels) is) (swapped x y w bits own (with_pinned (own_of x) x.levels) is) (now.1.0 ∙ p.1.0) (one_three 1 refl)
      (own_pin some (with_pinned (own_of x) x.levels) x.levels is now.1.3 (lower (pinned_of (own_of x)) x.pinned x.levels p.1.3 unpinned))
      (λ r q. (same_levels keeps.3 go, q ∙ sym r)) (λ h. h) (λ h. h)
    where
      lower : (m n d : ℕ) → m ≡ n → n < d → m ≤ d
      lower m n d is low = omega (arith, is, low)
  own_turn {step} (undoes {w = seen} undoing some same section levels pin calm_then) is go ends = by_depth (nat_le (revoke_of seen) 1) refl
    where
      was : OwnSays x (w (Section x.section))
      was = own.own some

      sees : (w (Section x.section) ≡ seen) × (state_of seen ≡ 3)
      sees = was.sees seen undoing

      r : revoked_by (word_of x w) ≡ Some (revoke_of seen)
      r = open_word x w x.section seen some refl sees.0 ∙ turned seen sees.1

      p : pinned_as x w ≡ pinned_of seen
      p = open_pin x w x.section seen some refl sees.0

      free_of : pinned_of seen < revoke_of seen
      free_of = subst (λ v. pinned_of v < revoke_of v) sees.0 (was.says.revoking (ap state_of sees.0 ∙ sees.1)).0

      out : m ≡ outermost (revoke_of seen - 1) l
      out = out_levels (revoke_of seen - 1) levels (λ opening more. opening) go

      level_in : LevelAct → ℕ
      level_in (is_undone n) = n
      level_in act = revoke_of seen

      undone_level : {n : ℕ} → is_undone (revoke_of seen) ≡ is_undone n → revoke_of seen ≡ n
      undone_level is = ap level_in is

      turn : revoked_by (word_of y (put_at w (Section x.section) (undone_of seen))) ≡ None → pinned_as y (put_at w (Section x.section) (undone_of seen)) ≡ pinned_as x w
          → Turns (put_at w (Section x.section) (undone_of seen))
      turn q d = record {
        act = is_undone (revoke_of seen);
        between = (out, r, q);
        rises = inr (same_depth (pinned_as x w) (pinned_as y (put_at w (Section x.section) (undone_of seen))) d);
        by = λ n is. not_revoked (λ h. h) is;
        stays = λ n is. d;
        undone = λ n is. subst U (undone_level is) (ends seen undoing refl);
      }

      low_one : (n : ℕ) → nat_le n 1 ≡ true → n - 1 ≡ 0
      low_one n is = under n (low n is)
        where
          low : (n : ℕ) → nat_le n 1 ≡ true → n ≤ 1
          low n is = grind (arith, common_steps, nat_tests)

          under : (n : ℕ) → n ≤ 1 → n - 1 ≡ 0
          under n is = omega (arith, is)

      high_one : (n : ℕ) → nat_le n 1 ≡ false → 1 < n
      high_one n is = grind (arith, common_steps, nat_tests)

      less_one : (n : ℕ) → 1 < n → 0 < n - 1
      less_one n is = omega (arith, is)

      none_pinned : (n a q : ℕ) → n - 1 ≡ 0 → a < n → q ≤ a → q ≡ a
      none_pinned n a q low deep seen_pin = omega (arith, low, deep, seen_pin)

      by_depth : (t : Bool) → nat_le (revoke_of seen) 1 ≡ t → Turns (put_at w (Section x.section) (undone_of seen))
      by_depth true is_low =
          let shut : y.section ≡ 0 = section ∙ ap (λ n. section_at n x.section) (low_one (revoke_of seen) is_low) in
          turn (closed_word y (put_at w (Section x.section) (undone_of seen)) shut) (closed_pin y (put_at w (Section x.section) (undone_of seen)) shut ∙ pin
          ∙ none_pinned (revoke_of seen) (pinned_of seen) x.pinned (low_one (revoke_of seen) is_low) free_of (subst (λ v. x.pinned ≤ pinned_of v) sees.0 was.says.pinned) ∙ sym p)
      by_depth false high =
          let more = high_one (revoke_of seen) high in
          let still_open : y.section ≡ x.section = section ∙ ap (λ t. if t then 0 else x.section) (not_zero (revoke_of seen - 1) (less_one (revoke_of seen) more)) in
          let now = goes_on_says seen more in
          let at = put_section w x.section (undone_of seen) in
          turn (open_word y (put_at w (Section x.section) (undone_of seen)) x.section (undone_of seen) some still_open at ∙ unrevoked (undone_of seen) 1 now.1.0 (one_three 1 refl))
          (open_pin y (put_at w (Section x.section) (undone_of seen)) x.section (undone_of seen) some still_open at ∙ now.1.3 ∙ sym p)
  own_turn {step} (touches {s = s} {old = old} {new = new} place effect other touch by keeps calm_then) is go ends =
      still (words_after step w) keeps.2 (λ some. elsewhere_stays step w s x.section old new place effect (λ same. other some (sym same))) (same_levels keeps.3 go)
  own_turn {step} (opens {s = s} shut some same section levels pin calm_then) is go ends =
      let p = packed 1 x.number x.priority 0 1 0 (omega arith) bits.number bits.priority (omega arith) (omega arith) (omega arith) in
      let none = closed_word x w shut in
      live_turn k l m _ _ _ _ R U opens_one (
        in_levels (levels ∙ next x.levels (closed shut)) go,
        none,
        open_word y (words_after (OpenSection s (opening_of x)) w) s (opening_of x) some section (put_section w s (opening_of x)) ∙ unrevoked (opening_of x) 1 p.0 (one_three 1 refl),
      ) (λ h. h) (λ h. h) none (inl (empty shut))
    where
      next : (n : ℕ) → n ≡ 0 → 1 ≡ suc n
      next n is = omega (arith, is)
  own_turn {step} (opens_level some room same section levels pin calm_then) is go ends =
      let p = own_packed x bits (pin_low x y w bits own some) in
      let now = opened_says (own_of x) (subst (λ n. n < 255) (sym p.1.4) room) in
      goes_live (words_after step w) opens_one (opened_of (own_of x)) 1 some section (own_live some (opened_of (own_of x)) is) (swapped x y w bits own (opened_of (own_of x)) is) (now.1.0 ∙ p.1.0) (one_three 1 refl)
      (own_pin some (opened_of (own_of x)) (pinned_of (own_of x)) is now.1.3 (same_size (pinned_of (own_of x)))) (λ r q. (in_levels levels go, r, q)) (λ h. h) (λ h. h)
  own_turn {step} (commits some keeps none level) is go ends =
      let now = committed_says (own_of x) in
      goes_live (words_after step w) calm (committed_of (own_of x)) 5 some keeps.2 (own_live some (committed_of (own_of x)) is) (swapped x y w bits own (committed_of (own_of x)) is) now.1.0 (five_three 5 refl)
      (own_pin some (committed_of (own_of x)) (pinned_of (own_of x)) is now.1.3 (same_size (pinned_of (own_of x)))) (λ r q. (same_levels keeps.3 go, q ∙ sym r)) (λ h. h) (λ h. h)
  own_turn {step} (closes_levels {n = n} some high low same section levels pin calm_then) is go ends =
      let p = own_packed x bits (pin_low x y w bits own some) in
      let now = deep_says (own_of x) n low in
      goes_live (words_after step w) (closes_all_but n) (with_depth (own_of x) n) 1 some section (own_live some (with_depth (own_of x) n) is) (swapped x y w bits own (with_depth (own_of x) n) is) (now.1.0 ∙ p.1.0) (one_three 1 refl)
      (own_pin some (with_depth (own_of x) n) (pinned_of (own_of x)) is now.1.3 (same_size (pinned_of (own_of x)))) (λ r q. (out_levels n levels (λ opening more. opening) go, r, q)) (λ h. h) (λ h. h)
  own_turn {step} (ends_section leaving stay same section pin calm_then) is go ends = elim (zero_or_some x.section) [
    | inl none ↦ live_turn k l m _ _ _ _ R U (closes_all_but 0) (out, closed_word x w none, closed_word y (words_after step w) section) (λ h. h) (λ h. h) (closed_word x w none) (inl (empty none))
    | inr some ↦
        let was = (own.own some).ends leaving in
        let none = open_word x w x.section (w (Section x.section)) some refl refl ∙ unrevoked (w (Section x.section)) 5 was.0 (five_three 5 refl) in
        live_turn k l m _ _ _ _ R U (closes_all_but 0) (out, none, closed_word y (words_after step w) section) (λ h. h) (λ h. h) none
        (inr (same_depth (pinned_as x w) (pinned_as y (words_after step w)) (closed_pin y (words_after step w) section ∙ pin ∙ sym was.1 ∙ sym (open_pin x w x.section (w (Section x.section)) some refl refl))))
  ]
    where
      no_more : (n d : ℕ) → d ≡ 0 → d ≡ suc n → ⊥
      no_more n d none more = omega (arith, none, more)

      out : m ≡ outermost 0 l
      out = out_levels 0 (closed_after section) (λ opening more. no_more x.levels y.levels (closed_after section) more) go
