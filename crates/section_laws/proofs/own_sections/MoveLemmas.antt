-- How the words of sections change along a run, and what those of threads' own sections say at each place of it.
use Rattle.std.proofs.Common.{◌≡◌, ◌≢◌, ℕ, suc, ◌^◌, ◌<◌, ◌≤◌, Bool, true, false, true≢false, Some, List, length, nat_eq, refl, sym, ◌∙◌, ap, subst, arith}
use Rattle.std.specs.Prelude.{slice_get, if◌then◌else◌}
use Rattle.std.proofs.lemmas.Grind.{common_steps}
use Rattle.std.proofs.lemmas.Bool.Decides.{nat_tests}
use Rattle.std.proofs.lemmas.Option.{slice_get_within}
use Rattle.op_core.specs.ThreadCode.{Code}
use Rattle.op_core.specs.OrdinaryState.{set_at}
use Rattle.heap_words.specs.declared.areas.Area.{Area}
use Rattle.heap_words.specs.declared.areas.Area.TheVariants.{Section}
use Rattle.section_state.specs.SectionWord.{state_of, pinned_of, depth_of, revoke_of, with_pinned, with_depth, opened_of, revoked_of, committed_of, undone_of}
use Rattle.step_port.specs.declared.answer.StepAnswer.{StepAnswer}
use Rattle.step_port.specs.declared.step.Effect.TheVariants.{Exchange}
use Rattle.step_port.specs.declared.step.Step.{Step}
use Rattle.step_port.specs.declared.step.Step.TheVariants.{LoadWord, OpenSection, LoadStop, SetStop, LookMonitor, LookSection, BreakLevel, Split}
use Rattle.step_port.specs.Steps.{place_of, effect_of}
use Rattle.step_port.specs.Words.{Words, put_at, put_by, answer_to, answer_of, words_after}
use Rattle.thread_automaton.specs.declared.Bounds.{Bounds}
use Rattle.thread_automaton.specs.declared.Attempt.{Attempt}
use Rattle.thread_automaton.specs.declared.Attempt.TheVariants.{Undoing}
use Rattle.thread_automaton.specs.ThreadState.{ThreadState, first_state}
use Rattle.thread_automaton.specs.Told.{after_answer, after_quiet}
use Rattle.core_runs.specs.OwnParts.{is_beside}
use Rattle.core_runs.specs.Cores.{Core, threads_by}
use Rattle.core_runs.specs.Acts.{Act, quiet, did, beside, QuietAt, DidAt, BesideAt, ActAt}
use Rattle.section_laws.specs.Runs.{IsRun}
use Rattle.section_laws.proofs.WordLemmas.{exchanged, at_section}
use Rattle.section_laws.proofs.DeedLemmas.{above, opens_of}
use Rattle.section_laws.proofs.ClaimLemmas.{none_some, is_zero}
use Rattle.section_laws.proofs.FactLemmas.{each, breaks}
use Rattle.section_laws.proofs.RunLemmas.{get_some, act_at, along, Known, deed_at, facts_at}
use Rattle.section_laws.proofs.SectionLemmas.{sections_apart}
use Rattle.section_laws.specs.OwnWords.{IsInBits, SeesUndoing, OwnWordsAreKnown}
use Rattle.section_laws.specs.Moves.{Move, SectionsMove}
use Rattle.section_laws.proofs.own_sections.WordLemmas.{packed, pinned_low}
use Rattle.section_laws.proofs.own_sections.ViewLemmas.{View, view, undone_word, own_of, opening_of, Touch, stays, pinned_to, revoked, by_revoking, Deed, plain, goes_on, sees_revoked, sees_pinned, pins_own, undoes, touches, opens, opens_level, commits, closes_levels, ends_section}
use Rattle.section_laws.proofs.own_sections.DeedLemmas.{deed_of}
use Rattle.section_laws.proofs.own_sections.OwnLemmas.{Bits, OwnSays, Own, touch_keeps, is_some, own_steps}

-- ---- what a step makes of the word of a section

-- a thread that is seen as x makes new of the word old of section s
pub data Moved (x : View) (s old new : ℕ) : Type 0 where
  by_any : Touch old new → Moved x s old new
  by_owner : 0 < s → x.section ≡ s → Move old new → Moved x s old new
  by_opener : x.section ≡ 0 → 0 < s → old ≡ 0 → new ≡ opening_of x → Moved x s old new

pub touch_moves : {old new : ℕ} → Touch old new → Move old new
touch_moves (stays is) = Move.stays is
touch_moves (pinned_to n live deeper low is) = Move.pins n live deeper low is
touch_moves (revoked n live free there is) = Move.revokes n live free there is

pub moved_moves : {x : View} {s old new : ℕ} → Bits x → Moved x s old new → Move old new
moved_moves bits (by_any touch) = touch_moves touch
moved_moves bits (by_owner some own move) = move
moved_moves {x = x} bits (by_opener closed some none is) = Move.opens x.number x.priority bits.number bits.priority none is

-- another thread's own word
pub moved_keeps : {x : View} {s old new : ℕ} (z : View) → Bits z → Moved x s old new → (0 < s → x.section ≡ s → ⊥) → OwnSays z old → OwnSays z new
moved_keeps {old = old} {new = new} z bits (by_any touch) other own = touch_keeps z old new bits touch own
moved_keeps z bits (by_owner some is move) other own = absurd (other some is)
moved_keeps {old = old} z bits (by_opener closed some none is) other own = absurd (is_some z old own none)

module _ (x y : View) (w : Words) (bits : Bits x) (own : Own x w) where
  abbrev word : ℕ → ℕ
  word s = w (Section s)

  pin_low : 0 < x.section → x.pinned < 2 ^ 8
  pin_low some = low x.pinned (pinned_of (word x.section)) (own.own some).says.pinned (pinned_low (word x.section))
    where
      low : (m n : ℕ) → m ≤ n → n < 2 ^ 8 → m < 2 ^ 8
      low m n below high = omega (arith, below, high)

  own_exchange : (new : ℕ) → StepAnswer.Done ≡ answer_to (Exchange (own_of x) new) (word x.section) → 0 < x.section → Move (own_of x) new → (s : ℕ)
      → Moved x s (word s) (put_by (Exchange (own_of x) new) w (Section x.section) (Section s))
  own_exchange new done some move s =
      let e = exchanged w (Section x.section) (own_of x) new done in
      subst (λ (u : Words). Moved x s (word s) (u (Section s))) (sym e.leaves)
      (at_section (Moved x s (word s)) w x.section new s
      (λ is. by_owner (subst (λ n. 0 < n) (sym is) some) (sym is) (subst (λ v. Move v new) (sym e.found ∙ ap (λ n. w (Section n)) (sym is)) move)) (by_any (stays refl)))

  touch_exchange : (step : Step) (at old new : ℕ) → place_of step ≡ Section at → effect_of step ≡ Exchange old new → StepAnswer.Done ≡ answer_of w step
      → Touch old new → (s : ℕ) → Moved x s (word s) (words_after step w (Section s))
  touch_exchange step at old new place effect is touch s =
      let done : StepAnswer.Done ≡ answer_to (Exchange old new) (w (Section at)) =
      is ∙ ap (λ e. answer_to e (w (place_of step))) effect ∙ ap (λ (p : Area). answer_to (Exchange old new) (w p)) place in
      let e = exchanged w (Section at) old new done in
      subst (λ (u : Words). Moved x s (word s) (u (Section s)))
      (sym (ap (λ e. put_by e w (place_of step)) effect ∙ ap (λ (p : Area). put_by (Exchange old new) w p) place ∙ e.leaves))
      (at_section (Moved x s (word s)) w at new s
      (λ here. by_any (subst (λ v. Touch v new) (sym e.found ∙ ap (λ n. w (Section n)) (sym here)) touch)) (by_any (stays refl)))

  own_packed : 0 < x.section → (state_of (own_of x) ≡ 1) × (pinned_of (own_of x) ≡ x.pinned) × (depth_of (own_of x) ≡ x.levels)
  own_packed some =
      let p = packed 1 x.number x.priority x.pinned x.levels 0 (omega arith) bits.number bits.priority (pin_low some) bits.levels (omega arith) in
      (p.0, p.3, p.4)

  pub moved : {step : Step} {a : StepAnswer} → Deed x y step a → a ≡ answer_of w step → ((s v : ℕ) → step ≡ OpenSection s v → word s ≡ 0) → (s : ℕ)
      → Moved x s (word s) (words_after step w (Section s))
  moved (plain same keeps none low leaving) is unopened s = by_any (stays (same.stay w is s))
  moved (goes_on same keeps undoing again level leaving) is unopened s = by_any (stays (same.stay w is s))
  moved (sees_revoked three keeps undoing level leaving) is unopened s = by_any (stays refl)
  moved (sees_pinned keeps pin calm) is unopened s = by_any (stays refl)
  moved (pins_own some unpinned keeps pin none level leaving) is unopened s =
      let p = own_packed some in
      own_exchange (with_pinned (own_of x) x.levels) is some (Move.pins x.levels p.0 (subst (λ n. n < x.levels) (sym p.1) unpinned) bits.levels refl) s
  moved (undoes {w = seen} undoing some same section levels pin calm) is unopened s =
      let was = own.own some in
      let sees = was.sees seen undoing in
      let turned = was.says.revoking (ap state_of sees.0 ∙ sees.1) in
      at_section (Moved x s (word s)) w x.section (undone_of seen) s
      (λ here. by_owner (subst (λ n. 0 < n) (sym here) some) (sym here) (subst (λ v. Move v (undone_of seen)) (sym sees.0 ∙ ap (λ n. w (Section n)) (sym here))
      (Move.undoes sees.1 (above_pin (pinned_of (word x.section)) (revoke_of (word x.section)) (revoke_of seen) turned.0 (ap revoke_of sees.0)) refl)))
      (by_any (stays refl))
    where
      above_pin : (p r q : ℕ) → p < r → r ≡ q → 0 < q
      above_pin p r q deep is = omega (arith, deep, is)
  moved {step} (touches {s = at} {old = old} {new = new} place effect other touch by keeps calm) is unopened s = touch_exchange step at old new place effect is touch s
  moved (opens {s = at} closed some same section levels pin calm) is unopened s =
      at_section (Moved x s (word s)) w at (opening_of x) s
      (λ here. by_opener closed (subst (λ n. 0 < n) (sym here) some) (ap (λ n. w (Section n)) here ∙ unopened at (opening_of x) refl) refl) (by_any (stays refl))
  moved (opens_level some room same section levels pin calm) is unopened s =
      let p = own_packed some in
      own_exchange (opened_of (own_of x)) is some (Move.opens_level p.0 (subst (λ n. n < 255) (sym p.2) room) refl) s
  moved (commits some keeps none level) is unopened s = own_exchange (committed_of (own_of x)) is some (Move.commits (own_packed some).0 refl) s
  moved (closes_levels {n = n} some high low same section levels pin calm) is unopened s =
      own_exchange (with_depth (own_of x) n) is some (Move.closes_to n (own_packed some).0 high low refl) s
  moved (ends_section leaving same also section pin calm) is unopened s = by_any (stays (same.stay w is s))

-- ---- steps beside those of threads

pub beside_touch : (step : Step) (w : Words) (s : ℕ) → is_beside step ≡ true → Touch (w (Section s)) (words_after step w (Section s))
beside_touch LoadStop w s is = stays refl
beside_touch SetStop w s is = stays refl
beside_touch (LookMonitor r) w s is = stays refl
beside_touch (LookSection n) w s is = stays refl
beside_touch (BreakLevel at old level) w s is = by_test (nat_eq (w (Section at)) old) refl
  where
    same : (m n : ℕ) → nat_eq m n ≡ true → m ≡ n
    same m n is = grind (arith, common_steps, nat_tests)

    by_test : (t : Bool) → nat_eq (w (Section at)) old ≡ t
        → Touch (w (Section s)) ((if t then put_at w (Section at) (revoked_of old level) else w) (Section s))
    by_test true found = at_section (Touch (w (Section s))) w at (revoked_of old level) s
        (λ own. subst (λ x. Touch x (revoked_of old level)) (sym (ap (λ n. w (Section n)) own ∙ same (w (Section at)) old found)) (by_revoking old level (breaks old level is))) (stays refl)
    by_test false found = stays refl
beside_touch step w s is = absurd (true≢false (sym is))

-- ---- along a run

module _ {S : Type 0} (code : Code S) (b : Bounds) (c : ℕ → Core S) (acts : List Act) (run : IsRun code b c acts) (in_bits : IsInBits c acts) where
  -- so is each thread where k acts were made
  abbrev pub OwnAt : ℕ → Type 0
  OwnAt k = (t : ℕ) (th : ThreadState S) → (c k).threads t ≡ Some th → Own (view code th) (c k).words

  pub bits_at : (k t : ℕ) (th : ThreadState S) → k ≤ length acts → (c k).threads t ≡ Some th → Bits (view code th)
  bits_at k t th within at =
      let bits = in_bits.threads k t th within at in
      record { number = bits.0; priority = bits.1; levels = ((facts_at code b c acts run k within).fit t th at).kept.most }

  module _ (k : ℕ) (within : k < length acts) where
    here_at : k ≤ length acts
    here_at = omega (arith, within)

    facts : Known code (c k)
    facts = facts_at code b c acts run k here_at

    -- the deed of a thread
    pub deed_here : (t : ℕ) (step : Step) (a : StepAnswer) → slice_get acts k ≡ Some (did t step a) → (at : DidAt code b c k t step a) → Own (view code at.from) (c k).words
        → Deed (view code at.from) (view code (after_answer code b at.from step a)) step a
    deed_here t step a here at own =
        deed_of code b at.from (c k).words step a (facts.fit t at.from at.stands) at.move at.answered own.low
        (λ place w is found. in_bits.words k t place w (here ∙ ap (λ st. Some (did t st a)) is ∙ ap (λ an. Some (did t (LoadWord place) an)) found))

    pub unopened : (t : ℕ) (step : Step) (a : StepAnswer) (at : DidAt code b c k t step a) → (s v : ℕ) → step ≡ OpenSection s v → (c k).words (Section s) ≡ 0
    unopened t step a at s v is =
        let done : a ≡ StepAnswer.Done = at.answered ∙ ap (answer_of (c k).words) is in
        let deed = deed_at code b c k at facts in
        let seen = Rattle.section_laws.proofs.DeedLemmas.view (after_answer code b at.from step a) in
        let opens = opens_of (subst (λ an. Rattle.section_laws.proofs.DeedLemmas.Deed at.from (OpenSection s v) an seen) done
        (subst (λ st. Rattle.section_laws.proofs.DeedLemmas.Deed at.from st a seen) is deed)) in
        ap (λ n. (c k).words (Section n)) (sym opens.opening)
        ∙ facts.unopened t at.from at.stands (is_zero at.from.section opens.none_open) (subst (λ n. 0 < n) (sym opens.opening) (above s opens.some))

    pub moved_here : (t : ℕ) (step : Step) (a : StepAnswer) → slice_get acts k ≡ Some (did t step a) → (at : DidAt code b c k t step a) → Own (view code at.from) (c k).words
        → (s : ℕ) → Moved (view code at.from) s ((c k).words (Section s)) (words_after step (c k).words (Section s))
    moved_here t step a here at own =
        moved (view code at.from) (view code (after_answer code b at.from step a)) (c k).words (bits_at k t at.from here_at at.stands) own (deed_here t step a here at own) at.answered
        (unopened t step a at)

    -- each thread keeps what it knows of its own section
    did_own : (t : ℕ) (step : Step) (a : StepAnswer) → slice_get acts k ≡ Some (did t step a) → DidAt code b c k t step a → OwnAt k → OwnAt (suc k)
    did_own t step a here at before =
        subst (λ (core : Core S). (u : ℕ) (uh : ThreadState S) → core.threads u ≡ Some uh → Own (view code uh) core.words) (sym at.leads)
        (λ u uh there. handed step u uh there)
      where
        own : Own (view code at.from) (c k).words
        own = before t at.from at.stands

        after : Words
        after = words_after step (c k).words

        other : (u : ℕ) (uh : ThreadState S) → u ≢ t → (c k).threads u ≡ Some uh → Own (view code uh) (words_after step (c k).words)
        other u uh differs there = record {
          own = λ some. moved_keeps (view code uh) (bits_at k u uh here_at there) (moved_here t step a here at own uh.section)
              (λ above same. differs (sym (sections_apart code b c acts run k t u at.from uh here_at at.stands there (subst (λ n. 0 < n) (sym same) above) same)))
              ((before u uh there).own some);
          low = (before u uh there).low;
        }

        known : (u : ℕ) (uh : ThreadState S) → set_at (c k).threads t (Some (after_answer code b at.from step a)) u ≡ Some uh → Own (view code uh) (words_after step (c k).words)
        known u uh there = each (λ z. Own (view code z) (words_after step (c k).words)) (c k).threads t (after_answer code b at.from step a) u
            (λ own_number. own_steps (view code at.from) (view code (after_answer code b at.from step a)) (c k).words (bits_at k t at.from here_at at.stands) own (deed_here t step a here at own) at.answered)
            (λ vh differs at_v. other u vh differs at_v) uh there

        handed : (made : Step) (u : ℕ) (uh : ThreadState S) → threads_by code made at.from.local (set_at (c k).threads t (Some (after_answer code b at.from step a))) u ≡ Some uh
            → Own (view code uh) (words_after step (c k).words)
        handed (Split n r p) u uh there = each (λ z. Own (view code z) (words_after step (c k).words)) (set_at (c k).threads t (Some (after_answer code b at.from step a))) n
            (first_state n p (code.child at.from.local r)) u (λ own_number. record { own = λ some. absurd (no some); low = omega arith }) (λ vh differs at_v. known u vh at_v) uh there
          where
            no : 0 < 0 → ⊥
            no some = omega (arith, some)
        handed made u uh there = known u uh there

    quiet_own : (t : ℕ) → QuietAt code b c k t → OwnAt k → OwnAt (suc k)
    quiet_own t at before =
        subst (λ (core : Core S). (u : ℕ) (uh : ThreadState S) → core.threads u ≡ Some uh → Own (view code uh) core.words) (sym at.leads)
        (λ u. each (λ z. Own (view code z) (c k).words) (c k).threads t (after_quiet at.from at.local) u
        (λ own_number. let own = before t at.from at.stands in record {
          own = λ some. record { says = (own.own some).says; sees = λ v is. none_some v is; ends = λ is. absurd (true≢false (sym is)) };
          low = omega arith;
        })
        (λ vh differs at_v. before u vh at_v))

    beside_own : (t : ℕ) (step : Step) (a : StepAnswer) → BesideAt c k t step a → OwnAt k → OwnAt (suc k)
    beside_own t step a at before =
        subst (λ (core : Core S). (u : ℕ) (uh : ThreadState S) → core.threads u ≡ Some uh → Own (view code uh) core.words) (sym at.leads)
        (λ u uh there. record {
          own = λ some. touch_keeps (view code uh) ((c k).words (Section uh.section)) (words_after step (c k).words (Section uh.section)) (bits_at k u uh here_at there)
              (beside_touch step (c k).words uh.section at.is) ((before u uh there).own some);
          low = (before u uh there).low;
        })

    act_own : (act : Act) → slice_get acts k ≡ Some act → ActAt code b c k act → OwnAt k → OwnAt (suc k)
    act_own (quiet t) here at before = quiet_own t at before
    act_own (did t step a) here at before = did_own t step a here at before
    act_own (beside t step a) here at before = beside_own t step a at before

    pub act_moves : (act : Act) → slice_get acts k ≡ Some act → ActAt code b c k act → OwnAt k → (s : ℕ) → Move ((c k).words (Section s)) ((c (suc k)).words (Section s))
    act_moves (quiet t) here at own s = Move.stays (ap (λ (core : Core S). core.words (Section s)) at.leads)
    act_moves (did t step a) here at own s =
        subst (λ (core : Core S). Move ((c k).words (Section s)) (core.words (Section s))) (sym at.leads)
        (moved_moves (bits_at k t at.from here_at at.stands) (moved_here t step a here at (own t at.from at.stands) s))
    act_moves (beside t step a) here at own s =
        subst (λ (core : Core S). Move ((c k).words (Section s)) (core.words (Section s))) (sym at.leads) (touch_moves (beside_touch step (c k).words s at.is))

  first_own : OwnAt 0
  first_own t th at =
      let begins = run.begins.threads t th at in
      subst (λ (z : ThreadState S). Own (view code z) (c 0).words) (sym begins.3) (record { own = λ some. absurd (no some); low = omega arith })
    where
      no : 0 < 0 → ⊥
      no some = omega (arith, some)

  pub own_at : (k : ℕ) → k ≤ length acts → OwnAt k
  own_at k within =
      along code b c acts run.leads OwnAt first_own (λ n act here at before. act_own n (slice_get_within acts n act here) act here at before) k within

  pub moves_at : (k s : ℕ) → k < length acts → Move ((c k).words (Section s)) ((c (suc k)).words (Section s))
  moves_at k s within =
      let here = get_some acts k within in
      act_moves k within here.0 here.1 (act_at code b c acts k here.0 run.leads here.1) (own_at k (below k (length acts) within)) s
    where
      below : (m n : ℕ) → m < n → m ≤ n
      below m n is = omega (arith, is)

pub sections_move : {S : Type 0} (code : Code S) → SectionsMove code
sections_move code b c acts run in_bits k s within = moves_at code b c acts run in_bits k s within

sees_so : (g : Attempt) (w : ℕ) → ((v : ℕ) → undone_word g ≡ Some v → w ≡ v) → SeesUndoing g w
sees_so (Undoing v) w sees = sees v refl
sees_so g w sees = tt

pub own_words_are_known : {S : Type 0} (code : Code S) → OwnWordsAreKnown code
own_words_are_known code b c acts run in_bits k t th within at some =
    let own = (own_at code b c acts run in_bits k within t th at).own some in
    (own.says, sees_so th.attempt ((c k).words (Section th.section)) (λ v is. (own.sees v is).0))
