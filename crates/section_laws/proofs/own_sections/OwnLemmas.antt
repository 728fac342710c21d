-- What the word of a thread's own section says, kept by each step.
use Rattle.std.proofs.Common.{◌≡◌, ◌≢◌, ◌⊎◌, inl, inr, ℕ, suc, ◌+◌, ◌-◌, ◌^◌, ◌<◌, ◌≤◌, Bool, true, false, true≢false, Option, None, Some, nat_eq, refl, sym, ◌∙◌, ap, subst, arith}
use Rattle.std.specs.Prelude.{nat_le, if◌then◌else◌}
use Rattle.std.proofs.lemmas.Grind.{common_steps}
use Rattle.std.proofs.lemmas.Bool.Decides.{nat_tests}
use Rattle.std.proofs.lemmas.Bool.{ne_eqb}
use Rattle.heap_words.specs.declared.areas.Area.{Area}
use Rattle.heap_words.specs.declared.areas.Area.TheVariants.{Section}
use Rattle.section_state.specs.SectionWord.{section_word, state_of, owner_of, priority_of, pinned_of, depth_of, revoke_of, with_pinned, with_depth, opened_of, revoked_of, committed_of, undone_of}
use Rattle.section_state.specs.Laws.{Says}
use Rattle.step_port.specs.declared.answer.StepAnswer.{StepAnswer}
use Rattle.step_port.specs.declared.step.Effect.TheVariants.{Exchange}
use Rattle.step_port.specs.declared.step.Step.{Step}
use Rattle.step_port.specs.Steps.{place_of, effect_of}
use Rattle.step_port.specs.Words.{Words, area_eq, put_at, put_by, answer_to, answer_of, words_after}
use Rattle.thread_automaton.specs.Changes.{section_at}
use Rattle.section_laws.proofs.WordLemmas.{state_of_zero, exchanged, stays_at, put_section}
use Rattle.section_laws.proofs.ClaimLemmas.{none_some, found_is}
use Rattle.section_laws.specs.OwnWords.{SaysOfOwn}
use Rattle.section_laws.proofs.own_sections.WordLemmas.{packed, small_packed, by_parts, state_low, pinned_low, depth_low, revoke_low, pinned_says, deep_says, opened_says, revoked_says, committed_says, goes_on_says}
use Rattle.section_laws.proofs.own_sections.ViewLemmas.{View, own_of, opening_of, KeepsLevels, Touch, stays, pinned_to, revoked, Deed, plain, goes_on, sees_revoked, sees_pinned, pins_own, undoes, touches, opens, opens_level, commits, closes_levels, ends_section}

-- each number has 8 bits
pub record Bits (x : View) : Type 0 where
  pub number : x.number < 2 ^ 8
  pub priority : x.priority < 2 ^ 8
  pub levels : x.levels < 2 ^ 8

-- the word w of the own section of a thread that is seen as x
pub record OwnSays (x : View) (w : ℕ) : Type 0 where
  pub says : SaysOfOwn x.number x.priority x.levels x.pinned w
  pub sees : (v : ℕ) → x.undoing ≡ Some v → (w ≡ v) × (state_of v ≡ 3)
  -- at its last exit it is committed, and pinned as deep as the thread has seen
  pub ends : x.leaving ≡ true → (state_of w ≡ 5) × (pinned_of w ≡ x.pinned)

pub record Own (x : View) (w : Words) : Type 0 where
  pub own : 0 < x.section → OwnSays x (w (Section x.section))
  pub low : x.level < 2 ^ 8

-- ---- words

abbrev IsOpenState : ℕ → Type 0
IsOpenState n = (n ≡ 1) ⊎ (n ≡ 3) ⊎ (n ≡ 5)

-- the parts of a word decide it
says_own : (number priority levels pinned w : ℕ) → w < 2 ^ 48 → owner_of w ≡ number → priority_of w ≡ priority → depth_of w ≡ levels → pinned ≤ pinned_of w
    → IsOpenState (state_of w) → (state_of w ≡ 3 → (pinned_of w < revoke_of w) × (revoke_of w ≤ levels)) → SaysOfOwn number priority levels pinned w
says_own number priority levels pinned w small owner prio depth pin state revoking = record {
  owner = owner;
  priority = prio;
  depth = depth;
  pinned = pin;
  state = state;
  revoking = revoking;
  whole = sym (by_parts w small) ∙ ap (λ o. section_word (state_of w) o (priority_of w) (pinned_of w) (depth_of w) (revoke_of w)) owner
      ∙ ap (λ p. section_word (state_of w) number p (pinned_of w) (depth_of w) (revoke_of w)) prio
      ∙ ap (λ d. section_word (state_of w) number priority (pinned_of w) d (revoke_of w)) depth;
}

small_own : (x : View) (w : ℕ) → Bits x → SaysOfOwn x.number x.priority x.levels x.pinned w → w < 2 ^ 48
small_own x w bits says = subst (λ v. v < 2 ^ 48) (sym says.whole)
    (small_packed (state_of w) x.number x.priority (pinned_of w) x.levels (revoke_of w) (state_low w) bits.number bits.priority (pinned_low w) bits.levels (revoke_low w))

not_revoked : {A : Type 0} (n : ℕ) → n ≡ 1 → n ≡ 3 → A
not_revoked n one three = absurd (no n one three)
  where
    no : (n : ℕ) → n ≡ 1 → n ≡ 3 → ⊥
    no n one three = omega (arith, one, three)

not_ended : {A : Type 0} (n : ℕ) → n ≡ 1 → n ≡ 5 → A
not_ended n one five = absurd (no n one five)
  where
    no : (n : ℕ) → n ≡ 1 → n ≡ 5 → ⊥
    no n one five = omega (arith, one, five)

ended_stays : {A : Type 0} (n : ℕ) → n ≡ 5 → n ≡ 3 → A
ended_stays n five three = absurd (no n five three)
  where
    no : (n : ℕ) → n ≡ 5 → n ≡ 3 → ⊥
    no n five three = omega (arith, five, three)

within : (m n : ℕ) → m ≤ n → n < 2 ^ 8 → m < 2 ^ 8
within m n low below = omega (arith, low, below)

as_is : (m n : ℕ) → m ≡ n → m ≤ n
as_is m n is = omega (arith, is)

-- ---- what others do with it

pub touch_keeps : (x : View) (old new : ℕ) → Bits x → Touch old new → OwnSays x old → OwnSays x new
touch_keeps x old new bits (stays is) own = subst (OwnSays x) (sym is) own
touch_keeps x old new bits (pinned_to n live deeper low is) own =
    let says = own.says in
    let now = pinned_says old n low in
    let small = small_own x old bits says in
    subst (OwnSays x) (sym is) (record {
      says = says_own x.number x.priority x.levels x.pinned (with_pinned old n) (now.0 small) (now.1.1 ∙ says.owner) (now.1.2 ∙ says.priority) (now.1.4 ∙ says.depth)
          (deep x.pinned (pinned_of old) n (pinned_of (with_pinned old n)) says.pinned deeper now.1.3) (inl (now.1.0 ∙ live))
          (λ three. not_revoked (state_of (with_pinned old n)) (now.1.0 ∙ live) three);
      sees = λ v at. let sees = own.sees v at in not_revoked (state_of old) live (ap state_of sees.0 ∙ sees.1);
      ends = λ leaving. not_ended (state_of old) live (own.ends leaving).0;
    })
  where
    deep : (a d n m : ℕ) → a ≤ d → d < n → m ≡ n → a ≤ m
    deep a d n m low deeper is = omega (arith, low, deeper, is)
touch_keeps x old new bits (revoked n live free there is) own =
    let says = own.says in
    let now = revoked_says old n (within n (depth_of old) there (depth_low old)) in
    let small = small_own x old bits says in
    subst (OwnSays x) (sym is) (record {
      says = says_own x.number x.priority x.levels x.pinned (revoked_of old n) (now.0 small) (now.1.1 ∙ says.owner) (now.1.2 ∙ says.priority) (now.1.4 ∙ says.depth)
          (subst (λ m. x.pinned ≤ m) (sym now.1.3) says.pinned) (inr (inl now.1.0))
          (λ three. (
            lower (pinned_of (revoked_of old n)) (pinned_of old) n (revoke_of (revoked_of old n)) now.1.3 free now.1.5,
            most (revoke_of (revoked_of old n)) n (depth_of old) x.levels now.1.5 there says.depth,
          ));
      sees = λ v at. let sees = own.sees v at in not_revoked (state_of old) live (ap state_of sees.0 ∙ sees.1);
      ends = λ leaving. not_ended (state_of old) live (own.ends leaving).0;
    })
  where
    lower : (m d n r : ℕ) → m ≡ d → d < n → r ≡ n → m < r
    lower m d n r is less also = omega (arith, is, less, also)

    most : (r n d l : ℕ) → r ≡ n → n ≤ d → d ≡ l → r ≤ l
    most r n d l is low also = omega (arith, is, low, also)

-- ---- the thread's own step

-- the word of a section that was opened isn't 0
pub is_some : (x : View) (w : ℕ) → OwnSays x w → w ≡ 0 → ⊥
is_some x w own none = no (state_of w) (ap state_of none ∙ state_of_zero) own.says.state
  where
    no : (n : ℕ) → n ≡ 0 → IsOpenState n → ⊥
    no n none state = elim state [
      | inl live ↦ differ n 1 none live (omega arith)
      | inr more ↦ elim more [ inl turned ↦ differ n 3 none turned (omega arith) | inr ended ↦ differ n 5 none ended (omega arith) ]
    ]
      where
        differ : (n m : ℕ) → n ≡ 0 → n ≡ m → 0 < m → ⊥
        differ n m none is some = omega (arith, none, is, some)

-- an exchange of the word of another section
pub elsewhere_stays : (step : Step) (w : Words) (s r old new : ℕ) → place_of step ≡ Section s → effect_of step ≡ Exchange old new → r ≢ s → words_after step w (Section r) ≡ w (Section r)
elsewhere_stays step w s r old new place effect other =
    stays_at (effect_of step) w (place_of step) (Section r) (ap (λ (p : Area). area_eq (Section r) p) place ∙ unequal r s other)
  where
    unequal : (m n : ℕ) → m ≢ n → nat_eq m n ≡ false
    unequal m n other = ne_eqb m n other

-- the own word as the thread knows it
pub own_packed : (x : View) → Bits x → x.pinned < 2 ^ 8 → (own_of x < 2 ^ 48) × Says (own_of x) 1 x.number x.priority x.pinned x.levels 0
own_packed x bits low = (
  small_packed 1 x.number x.priority x.pinned x.levels 0 (omega arith) bits.number bits.priority low bits.levels (omega arith),
  packed 1 x.number x.priority x.pinned x.levels 0 (omega arith) bits.number bits.priority low bits.levels (omega arith),
)

-- it is live: nothing is being undone, and the section doesn't end
live_says : (y : View) (w : ℕ) → w < 2 ^ 48 → owner_of w ≡ y.number → priority_of w ≡ y.priority → depth_of w ≡ y.levels → y.pinned ≤ pinned_of w → state_of w ≡ 1
    → y.undoing ≡ None → (y.leaving ≡ true → ⊥) → OwnSays y w
live_says y w small owner prio depth pin live none leaving = record {
  says = says_own y.number y.priority y.levels y.pinned w small owner prio depth pin (inl live) (λ three. not_revoked (state_of w) live three);
  sees = λ v at. none_some v (sym none ∙ at);
  ends = λ is. absurd (leaving is);
}

is_false : {t : Bool} → t ≡ false → t ≡ true → ⊥
is_false none is = true≢false (sym is ∙ none)

own_now : (y : View) (w : Words) (s new : ℕ) → y.section ≡ s → w (Section s) ≡ new → OwnSays y new → y.level ≡ 0 → Own y w
own_now y w s new section at says level = record {
  own = λ some. subst (OwnSays y) (sym (ap (λ n. w (Section n)) section ∙ at)) says;
  low = subst (λ n. n < 2 ^ 8) (sym level) (omega arith);
}

-- the same word, of a thread that has the same levels open and has seen them pinned at most so deep
same_says : (x y : View) (w : ℕ) → KeepsLevels x y → y.pinned ≤ pinned_of w → SaysOfOwn x.number x.priority x.levels x.pinned w → SaysOfOwn y.number y.priority y.levels y.pinned w
same_says x y w keeps pin says = record {
  owner = says.owner ∙ sym keeps.0;
  priority = says.priority ∙ sym keeps.1;
  depth = says.depth ∙ sym keeps.3;
  pinned = pin;
  state = says.state;
  revoking = λ three. let was = says.revoking three in (was.0, subst (λ n. revoke_of w ≤ n) (sym keeps.3) was.1);
  whole = says.whole ∙ ap (λ o. section_word (state_of w) o x.priority (pinned_of w) x.levels (revoke_of w)) (sym keeps.0)
      ∙ ap (λ p. section_word (state_of w) y.number p (pinned_of w) x.levels (revoke_of w)) (sym keeps.1)
      ∙ ap (λ d. section_word (state_of w) y.number y.priority (pinned_of w) d (revoke_of w)) (sym keeps.3);
}

module _ (x y : View) (w : Words) (bits : Bits x) (own : Own x w) where
  abbrev word : ℕ
  word = w (Section x.section)

  -- the word stays
  still : (after : Words) → ((s : ℕ) → after (Section s) ≡ w (Section s)) → KeepsLevels x y → (0 < x.section → OwnSays x word → y.pinned ≤ pinned_of word)
      → ((v : ℕ) → y.undoing ≡ Some v → 0 < x.section → OwnSays x word → (word ≡ v) × (state_of v ≡ 3)) → (y.leaving ≡ true → ⊥) → y.level < 2 ^ 8 → Own y after
  still after same keeps pin sees leaving low = record {
    own = λ some.
        let before : 0 < x.section = subst (λ n. 0 < n) keeps.2 some in
        let was = own.own before in
        subst (OwnSays y) (sym (ap (λ n. after (Section n)) keeps.2 ∙ same x.section)) (record {
          says = same_says x y word keeps (pin before was) was.says;
          sees = λ v at. sees v at before was;
          ends = λ is. absurd (leaving is);
        });
    low = low;
  }

  pub pin_low : 0 < x.section → x.pinned < 2 ^ 8
  pin_low some = within x.pinned (pinned_of word) (own.own some).says.pinned (pinned_low word)

  -- the own word was exchanged
  pub swapped : (new : ℕ) → StepAnswer.Done ≡ answer_to (Exchange (own_of x) new) word → put_by (Exchange (own_of x) new) w (Section x.section) (Section x.section) ≡ new
  swapped new done = ap (λ (u : Words). u (Section x.section)) (exchanged w (Section x.section) (own_of x) new done).leaves ∙ put_section w x.section new

  pub own_steps : {step : Step} {a : StepAnswer} → Deed x y step a → a ≡ answer_of w step → Own y (words_after step w)
  own_steps {step} {a} (plain same keeps none low leaving) is =
      still (words_after step w) (same.stay w is) (keeps.0, keeps.1, keeps.2, keeps.3) (λ some was. subst (λ n. n ≤ pinned_of word) (sym keeps.4) was.says.pinned)
      (λ v at some was. none_some v (sym none ∙ at)) (is_false leaving) low
  own_steps {step} {a} (goes_on {w = seen} same keeps undoing again level leaving) is =
      still (words_after step w) (same.stay w is) (keeps.0, keeps.1, keeps.2, keeps.3) (λ some was. subst (λ n. n ≤ pinned_of word) (sym keeps.4) was.says.pinned)
      (λ v at some was. was.sees v (undoing ∙ sym again ∙ at)) (is_false leaving) (subst (λ n. n < 2 ^ 8) (sym level) (omega arith))
  own_steps (sees_revoked {w = seen} three keeps undoing level leaving) is =
      still w (λ s. refl) (keeps.0, keeps.1, keeps.2, keeps.3) (λ some was. subst (λ n. n ≤ pinned_of word) (sym keeps.4) was.says.pinned)
      (λ v at some was. let same : seen ≡ v = some_is seen v (sym undoing ∙ at) in (sym (found_is seen word is) ∙ same, subst (λ u. state_of u ≡ 3) same three))
      (is_false leaving) (subst (λ n. n < 2 ^ 8) (sym level) (omega arith))
    where
      some_is : (m n : ℕ) → Some m ≡ Some n → m ≡ n
      some_is m n is = ap (λ (o : Option ℕ). elim o [ Some k ↦ k | None ↦ m ]) is
  own_steps (sees_pinned {w = seen} keeps pin calm) is =
      still w (λ s. refl) keeps (λ some was. as_is y.pinned (pinned_of word) (pin ∙ ap pinned_of (found_is seen word is)))
      (λ v at some was. none_some v (sym calm.0 ∙ at)) (is_false calm.2) (subst (λ n. n < 2 ^ 8) (sym calm.1) (omega arith))
  own_steps (pins_own some unpinned keeps pin none level leaving) is =
      let p = own_packed x bits (pin_low some) in
      let now = pinned_says (own_of x) x.levels bits.levels in
      let live : state_of (own_of x) ≡ 1 = p.1.0 in
      own_now y _ x.section (with_pinned (own_of x) x.levels) keeps.2 (swapped (with_pinned (own_of x) x.levels) is)
      (live_says y (with_pinned (own_of x) x.levels) (now.0 p.0) (now.1.1 ∙ p.1.1 ∙ sym keeps.0) (now.1.2 ∙ p.1.2 ∙ sym keeps.1) (now.1.4 ∙ p.1.4 ∙ sym keeps.3)
      (as_is y.pinned (pinned_of (with_pinned (own_of x) x.levels)) (pin ∙ sym now.1.3)) (now.1.0 ∙ live) none
      (λ ending. not_ended (state_of (own_of x)) live (ap state_of (sym (exchanged w (Section x.section) (own_of x) (with_pinned (own_of x) x.levels) is).found) ∙ ((own.own some).ends (leaving ending)).0)))
      level
  own_steps (undoes {w = seen} undoing some same section levels pin calm) is = by_depth (nat_le (revoke_of seen) 1) refl
    where
      low_one : (r : ℕ) → nat_le r 1 ≡ true → r - 1 ≡ 0
      low_one r is = omega (arith, low r is)
        where
          low : (r : ℕ) → nat_le r 1 ≡ true → r ≤ 1
          low r is = grind (arith, common_steps, nat_tests)

      above_one : (r : ℕ) → nat_le r 1 ≡ false → 1 < r
      above_one r is = grind (arith, common_steps, nat_tests)

      not_none : (r : ℕ) → 1 < r → nat_eq (r - 1) 0 ≡ false
      not_none r is = unequal (r - 1) (less_one r is)
        where
          less_one : (r : ℕ) → 1 < r → 0 < r - 1
          less_one r is = omega (arith, is)

          unequal : (n : ℕ) → 0 < n → nat_eq n 0 ≡ false
          unequal n is = grind (arith, common_steps, nat_tests)

      no_section : (n : ℕ) → n ≡ 0 → 0 < n → ⊥
      no_section n none above = omega (arith, none, above)

      by_depth : (t : Bool) → nat_le (revoke_of seen) 1 ≡ t → Own y (put_at w (Section x.section) (undone_of seen))
      by_depth true is_low = record {
        own = λ above. absurd (no_section y.section (section ∙ ap (λ n. section_at n x.section) (low_one (revoke_of seen) is_low)) above);
        low = subst (λ n. n < 2 ^ 8) (sym calm.1) (omega arith);
      }
      by_depth false is_high =
          let was = own.own some in
          let sees = was.sees seen undoing in
          let high = above_one (revoke_of seen) is_high in
          let now = goes_on_says seen high in
          let small : seen < 2 ^ 48 = subst (λ v. v < 2 ^ 48) sees.0 (small_own x word bits was.says) in
          own_now y _ x.section (undone_of seen) (section ∙ ap (λ t. if t then 0 else x.section) (not_none (revoke_of seen) high)) (put_section w x.section (undone_of seen))
          (live_says y (undone_of seen) (now.0 small) (now.1.1 ∙ ap owner_of (sym sees.0) ∙ was.says.owner ∙ sym same.0) (now.1.2 ∙ ap priority_of (sym sees.0) ∙ was.says.priority ∙ sym same.1)
          (now.1.4 ∙ sym levels) (subst (λ n. n ≤ pinned_of (undone_of seen)) (sym pin) (subst (λ n. x.pinned ≤ n) (ap pinned_of sees.0 ∙ sym now.1.3) was.says.pinned))
          now.1.0 calm.0 (is_false calm.2)) calm.1
  own_steps {step} (touches {s = s} {old = old} {new = new} place effect other touch by keeps calm) is =
      record {
        own = λ some.
            let before : 0 < x.section = subst (λ n. 0 < n) keeps.2 some in
            let was = own.own before in
            subst (OwnSays y) (sym (ap (λ n. words_after step w (Section n)) keeps.2 ∙ unmoved before)) (record {
              says = same_says x y word (keeps.0, keeps.1, keeps.2, keeps.3) (subst (λ n. n ≤ pinned_of word) (sym keeps.4) was.says.pinned) was.says;
              sees = λ v at. none_some v (sym calm.0 ∙ at);
              ends = λ ending. absurd (is_false calm.2 ending);
            });
        low = subst (λ n. n < 2 ^ 8) (sym calm.1) (omega arith);
      }
    where
      unmoved : 0 < x.section → words_after step w (Section x.section) ≡ word
      unmoved some = elsewhere_stays step w s x.section old new place effect (λ same. other some (sym same))
  own_steps (opens {s = s} closed some same section levels pin calm) is =
      let p = packed 1 x.number x.priority 0 1 0 (omega arith) bits.number bits.priority (omega arith) (omega arith) (omega arith) in
      let small = small_packed 1 x.number x.priority 0 1 0 (omega arith) bits.number bits.priority (omega arith) (omega arith) (omega arith) in
      own_now y _ s (opening_of x) section (put_section w s (opening_of x))
      (live_says y (opening_of x) small (p.1 ∙ sym same.0) (p.2 ∙ sym same.1) (p.4 ∙ sym levels) (as_is y.pinned (pinned_of (opening_of x)) (pin ∙ sym p.3)) p.0 calm.0 (is_false calm.2)) calm.1
  own_steps (opens_level some room same section levels pin calm) is =
      let p = own_packed x bits (pin_low some) in
      let now = opened_says (own_of x) (subst (λ n. n < 255) (sym p.1.4) room) in
      own_now y _ x.section (opened_of (own_of x)) section (swapped (opened_of (own_of x)) is)
      (live_says y (opened_of (own_of x)) (now.0 p.0) (now.1.1 ∙ p.1.1 ∙ sym same.0) (now.1.2 ∙ p.1.2 ∙ sym same.1) (one_more (depth_of (opened_of (own_of x))) (depth_of (own_of x)) now.1.4 p.1.4 levels)
      (as_is y.pinned (pinned_of (opened_of (own_of x))) (pin ∙ sym p.1.3 ∙ sym now.1.3)) (now.1.0 ∙ p.1.0) calm.0 (is_false calm.2)) calm.1
    where
      one_more : (m n : ℕ) → m ≡ n + 1 → n ≡ x.levels → y.levels ≡ suc x.levels → m ≡ y.levels
      one_more m n is also levels = omega (arith, is, also, levels)
  own_steps (commits some keeps none level) is =
      let p = own_packed x bits (pin_low some) in
      let now = committed_says (own_of x) in
      own_now y _ x.section (committed_of (own_of x)) keeps.2 (swapped (committed_of (own_of x)) is) (record {
        says = says_own y.number y.priority y.levels y.pinned (committed_of (own_of x)) (now.0 p.0) (now.1.1 ∙ p.1.1 ∙ sym keeps.0) (now.1.2 ∙ p.1.2 ∙ sym keeps.1) (now.1.4 ∙ p.1.4 ∙ sym keeps.3)
            (as_is y.pinned (pinned_of (committed_of (own_of x))) (keeps.4 ∙ sym p.1.3 ∙ sym now.1.3)) (inr (inr now.1.0)) (λ three. ended_stays (state_of (committed_of (own_of x))) now.1.0 three);
        sees = λ v at. none_some v (sym none ∙ at);
        ends = λ ending. (now.1.0, now.1.3 ∙ p.1.3 ∙ sym keeps.4);
      }) level
  own_steps (closes_levels {n = n} some above low same section levels pin calm) is =
      let p = own_packed x bits (pin_low some) in
      let now = deep_says (own_of x) n low in
      own_now y _ x.section (with_depth (own_of x) n) section (swapped (with_depth (own_of x) n) is)
      (live_says y (with_depth (own_of x) n) (now.0 p.0) (now.1.1 ∙ p.1.1 ∙ sym same.0) (now.1.2 ∙ p.1.2 ∙ sym same.1) (now.1.4 ∙ sym levels)
      (as_is y.pinned (pinned_of (with_depth (own_of x) n)) (pin ∙ sym p.1.3 ∙ sym now.1.3)) (now.1.0 ∙ p.1.0) calm.0 (is_false calm.2)) calm.1
  own_steps (ends_section leaving stay same section pin calm) is = record {
    own = λ some. absurd (none y.section section some);
    low = subst (λ n. n < 2 ^ 8) (sym calm.1) (omega arith);
  }
    where
      none : (n : ℕ) → n ≡ 0 → 0 < n → ⊥
      none n is some = omega (arith, is, some)
