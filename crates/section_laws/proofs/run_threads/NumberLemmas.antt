-- The numbers of threads along a run, act by act.
use Rattle.std.proofs.Common.{◌≡◌, ◌≢◌, ℕ, suc, ◌+◌, ◌-◌, ◌^◌, ◌<◌, ◌≤◌, Option, None, Some, List, [], length, refl, sym, ◌∙◌, ap, subst, arith}
use Rattle.std.specs.Prelude.{slice_get}
use Rattle.std.proofs.lemmas.Option.{slice_get_within}
use Rattle.op_core.specs.declared.Reply.{Reply}
use Rattle.op_core.specs.ThreadCode.{Code}
use Rattle.op_core.specs.OrdinaryState.{set_at}
use Rattle.op_core.proofs.PointwiseLemmas.{set_at-other}
use Rattle.heap_words.specs.declared.areas.Area.TheVariants.{Control}
use Rattle.step_port.specs.declared.answer.StepAnswer.{StepAnswer}
use Rattle.step_port.specs.declared.answer.StepAnswer.TheVariants.{Found, Lost}
use Rattle.step_port.specs.declared.step.Step.{Step}
use Rattle.step_port.specs.declared.step.Step.TheVariants.{DrawThread, StartThread, Split}
use Rattle.step_port.specs.Steps.{effect_of}
use Rattle.step_port.specs.Words.{Words, CanAnswer, answer_of, words_after}
use Rattle.thread_automaton.specs.declared.Bounds.{Bounds}
use Rattle.thread_automaton.specs.declared.Move.TheVariants.{Make}
use Rattle.thread_automaton.specs.ThreadState.{ThreadState, first_state, is_open}
use Rattle.thread_automaton.specs.NextMove.{next_move}
use Rattle.thread_automaton.specs.declared.Attempt.TheVariants.{Begin}
use Rattle.thread_automaton.specs.Changes.{Change, sees_pinned, opens_level, closes_to, closes, goes_back, answered, forgotten, with_level, with_levels, without_level, stood_at, section_at, changed}
use Rattle.thread_automaton.specs.Answers.{change_of}
use Rattle.thread_automaton.specs.Told.{Told, advanced, born, told, counted_for, after_answer, after_quiet}
use Rattle.automaton_rows.specs.Fits.{AttemptFits}
use Rattle.automaton_rows.specs.Rows.{Row, is_lost, handed_out}
use Rattle.automaton_rows.proofs.RowLemmas.{answers_are_rows, by_if}
use Rattle.core_runs.specs.Cores.{Core, threads_by}
use Rattle.core_runs.specs.Acts.{Act, quiet, did, beside, QuietAt, DidAt, ActAt}
use Rattle.section_laws.specs.Runs.{IsRun}
use Rattle.section_laws.proofs.ClaimLemmas.{none_some, found_is}
use Rattle.section_laws.proofs.FactLemmas.{each}
use Rattle.section_laws.proofs.NumberLemmas.{number_at, NumberStep, has_none, is_drawn, is_kept, number_made, number_steps, split_above, grows}
use Rattle.section_laws.proofs.RunLemmas.{act_at, along, Known, facts_at}
use Rattle.section_laws.specs.Numbers.{AreNumbered, ThreadsAreNumbered, ThreadsAreNew}

-- a thread is handed out with a number of 8 bits
abbrev IsLow : Step → Type 0
IsLow (Split n r p) = n < 2 ^ 8
IsLow step = Unit {0}

low_if_lost : (step : Step) (v : ℕ) → CanAnswer (effect_of step) (Lost v) → IsLow step
low_if_lost (Split n r p) v can = absurd can
low_if_lost step v can = tt

module _ {S : Type 0} (code : Code S) (b : Bounds) (th : ThreadState S) where
  low_in_row : {next : _} {step : Step} {a : StepAnswer} {change : Change} → Row code b th next step a change → CanAnswer (effect_of step) a → IsLow step
  low_in_row (is_lost {step = step} {v = v}) can = low_if_lost step v can
  low_in_row (handed_out shut above below) can = below
  low_in_row row can = tt

  split_low : (w : Words) (n r p : ℕ) → AttemptFits th (code.next th.local) th.attempt → next_move code b th ≡ Make (Split n r p) → n < 2 ^ 8
  split_low w n r p fits makes = low_in_row (answers_are_rows code b th (Split n r p) (answer_of w (Split n r p)) fits makes tt) tt

-- the numbers of a core, and those of threads that are about to be started or handed out
pub record Numbers {S : Type 0} (c : Core S) : Type 0 where
  pub numbered : AreNumbered c
  pub drawn : (t : ℕ) (th : ThreadState S) → c.threads t ≡ Some th → number_at th.attempt ≤ c.words (Control 4)
  pub apart : (t u : ℕ) (th uh : ThreadState S) → c.threads t ≡ Some th → c.threads u ≡ Some uh → 0 < number_at th.attempt → number_at th.attempt ≡ number_at uh.attempt → t ≡ u
  pub unused : (t : ℕ) (th : ThreadState S) → c.threads t ≡ Some th → 0 < number_at th.attempt → c.threads (number_at th.attempt) ≡ None

no_number : {A : Type 0} (n : ℕ) → 0 < n → n ≡ 0 → A
no_number n some none = absurd (no n some none)
  where
    no : (n : ℕ) → 0 < n → n ≡ 0 → ⊥
    no n some none = omega (arith, some, none)

is_none : {A : Type 0} (o : Option A) → ((x : A) → o ≡ Some x → ⊥) → o ≡ None
is_none None other = refl
is_none (Some x) other = absurd (other x refl)

abbrev IsSplit : Step → Type 0
IsSplit (Split n r p) = Unit {0}
IsSplit step = ⊥

-- a thread keeps its number and its priority
abbrev identity : {S : Type 0} → ThreadState S → ℕ × ℕ
identity th = (th.number, th.priority)

forgotten_same : {S : Type 0} (y : ThreadState S) → identity (forgotten y) ≡ identity y
forgotten_same y = by_if (λ z. identity z ≡ identity y) (is_open y) y (record y { log = []; saved = []; marks = [] }) (λ yes. refl) (λ no. refl)

changed_same : {S : Type 0} (code : Code S) (th : ThreadState S) (change : Change) → identity (changed code th change) ≡ identity th
changed_same code th (sees_pinned depth g) = forgotten_same (record th { pinned = depth; attempt = g })
changed_same code th (opens_level g) = forgotten_same (with_level (record th { attempt = g }))
changed_same code th (closes_to n g) = forgotten_same (with_levels (record th { attempt = g }) n)
changed_same code th closes = forgotten_same (with_levels (record (answered code th Reply.Done) { held = []; section = 0 }) 0)
changed_same code th (goes_back n) = forgotten_same (without_level (record (stood_at th n) { section = section_at (n - 1) th.section; attempt = Begin }) n)
changed_same code th change = refl

counted_same : {S : Type 0} (told : Told) (y : ThreadState S) → identity (counted_for told y) ≡ identity y
counted_same (advanced None) y = refl
counted_same (advanced (Some reply)) y = refl
counted_same born y = refl
counted_same other y = refl

same_identity : {S : Type 0} (code : Code S) (b : Bounds) (th : ThreadState S) (step : Step) (a : StepAnswer) → identity (after_answer code b th step a) ≡ identity th
same_identity code b th step a =
    counted_same (told code b th step a) (changed code th (change_of code b th (code.next th.local) step a)) ∙ changed_same code th (change_of code b th (code.next th.local) step a)

same_number : {S : Type 0} (code : Code S) (b : Bounds) (th : ThreadState S) (step : Step) (a : StepAnswer) → (after_answer code b th step a).number ≡ th.number
same_number code b th step a = ap (λ x. x.0) (same_identity code b th step a)

pub same_priority : {S : Type 0} (code : Code S) (b : Bounds) (th : ThreadState S) (step : Step) (a : StepAnswer) → (after_answer code b th step a).priority ≡ th.priority
same_priority code b th step a = ap (λ x. x.1) (same_identity code b th step a)

module _ {S : Type 0} (code : Code S) (b : Bounds) (c : ℕ → Core S) (k t : ℕ) (step : Step) (a : StepAnswer) (at : DidAt code b c k t step a) (known : Known code (c k))
    (before : Numbers (c k)) where
  abbrev threads : ℕ → Option (ThreadState S)
  threads = (c k).threads

  abbrev y : ThreadState S
  y = after_answer code b at.from step a

  abbrev after : ℕ → Option (ThreadState S)
  after = threads_by code step at.from.local (set_at threads t (Some y))

  abbrev count : ℕ
  count = (c k).words (Control 4)

  abbrev counted : ℕ
  counted = words_after step (c k).words (Control 4)

  -- how a thread has come to its state
  data Came (u : ℕ) (uh : ThreadState S) : Type 0 where
    stays : u ≢ t → threads u ≡ Some uh → Came u uh
    moves : u ≡ t → uh.number ≡ at.from.number → NumberStep at.from step a (number_at uh.attempt) → Came u uh
    begins : (n r p : ℕ) → step ≡ Split n r p → u ≡ n → uh.number ≡ n → number_at uh.attempt ≡ 0 → Came u uh

  fits : AttemptFits at.from (code.next at.from.local) at.from.attempt
  fits = (known.fit t at.from at.stands).attempt

  own_step : NumberStep at.from step a (number_at y.attempt)
  own_step = number_steps code b at.from (c k).words step a fits at.move at.answered

  came_there : (u : ℕ) (uh : ThreadState S) → set_at threads t (Some y) u ≡ Some uh → Came u uh
  came_there u = each (Came u) threads t y u (λ own. moves own (same_number code b at.from step a) own_step) (λ vh differs there. stays differs there)

  came : (u : ℕ) (uh : ThreadState S) → after u ≡ Some uh → Came u uh
  came u uh there = by_step step refl there
    where
      by_step : (made : Step) → step ≡ made → threads_by code made at.from.local (set_at threads t (Some y)) u ≡ Some uh → Came u uh
      by_step (Split n r p) is there = each (Came u) (set_at threads t (Some y)) n (first_state n p (code.child at.from.local r)) u
          (λ own. begins n r p is own refl refl) (λ vh differs at_v. came_there u vh at_v) uh there
      by_step made is there = came_there u uh there

  grown : count ≤ counted
  grown = grows step (c k).words

  -- the thread that is handed out has the number that its parent had
  split_made : (n r p : ℕ) → step ≡ Split n r p → number_at at.from.attempt ≡ n
  split_made n r p is = number_made code b at.from (Split n r p) (at.move ∙ ap Make is)

  split_some : (n r p : ℕ) → step ≡ Split n r p → 0 < number_at at.from.attempt
  split_some n r p is =
      subst (λ m. 0 < m) (sym (split_made n r p is)) (split_above code b at.from (c k).words n r p fits (at.move ∙ ap Make is))

  -- the number that is drawn is the next one
  next_number : (n : ℕ) → step ≡ DrawThread → a ≡ Found n → (n ≡ count) × (counted ≡ count + 1)
  next_number n is found =
      (found_is n count (sym found ∙ at.answered ∙ ap (λ st. answer_of (c k).words st) is), ap (λ st. words_after st (c k).words (Control 4)) is)

  low_after : (m n : ℕ) → m ≤ n → n ≤ counted → m ≤ counted
  low_after m n low high = omega (arith, low, high)

  own_after : (u : ℕ) (uh : ThreadState S) → Came u uh → uh.number ≡ u
  own_after u uh (stays other there) = before.numbered.own u uh there
  own_after u uh (moves own same number) = same ∙ before.numbered.own t at.from at.stands ∙ sym own
  own_after u uh (begins n r p is own same none) = same ∙ sym own

  drawn_after : (u : ℕ) (uh : ThreadState S) → Came u uh → u ≤ counted
  drawn_after u uh (stays other there) = low_after u count (before.numbered.drawn u uh there) grown
  drawn_after u uh (moves own same number) = subst (λ n. n ≤ counted) (sym own) (low_after t count (before.numbered.drawn t at.from at.stands) grown)
  drawn_after u uh (begins n r p is own same none) =
      subst (λ m. m ≤ counted) (split_made n r p is ∙ sym own) (low_after (number_at at.from.attempt) count (before.drawn t at.from at.stands) grown)

  low_number : (u : ℕ) (uh : ThreadState S) → Came u uh → u < 2 ^ 8
  low_number u uh (stays other there) = before.numbered.low u uh there
  low_number u uh (moves own same number) = subst (λ n. n < 2 ^ 8) (sym own) (before.numbered.low t at.from at.stands)
  low_number u uh (begins n r p is own same none) = subst (λ m. m < 2 ^ 8) (sym own) (split_low code b at.from (c k).words n r p fits (at.move ∙ ap Make is))

  held_after : (u : ℕ) (uh : ThreadState S) → Came u uh → number_at uh.attempt ≤ counted
  held_after u uh (stays other there) = low_after (number_at uh.attempt) count (before.drawn u uh there) grown
  held_after u uh (moves own same (has_none none)) = omega (arith, none)
  held_after u uh (moves own same (is_drawn n is found now)) = let next = next_number n is found in omega (arith, now, next)
  held_after u uh (moves own same (is_kept r n is now)) = let was = before.drawn t at.from at.stands in omega (arith, was, now, grown)
  held_after u uh (begins n r p is own same none) = omega (arith, none)

  -- another thread that stays has not the number that the thread has then
  differs_from : (u v : ℕ) (uh vh : ThreadState S) → v ≢ t → threads v ≡ Some vh → u ≡ t → NumberStep at.from step a (number_at uh.attempt) → 0 < number_at uh.attempt
      → number_at uh.attempt ≡ number_at vh.attempt → ⊥
  differs_from u v uh vh other there own (has_none none) some same = no_number (number_at uh.attempt) some none
  differs_from u v uh vh other there own (is_drawn n is found now) some same =
      let next = next_number n is found in let was = before.drawn v vh there in omega (arith, now, next, was, same)
  differs_from u v uh vh other there own (is_kept r n is now) some same =
      other (sym (before.apart t v at.from vh at.stands there (subst (λ m. 0 < m) now some) (sym now ∙ same)))

  apart_after : (u v : ℕ) (uh vh : ThreadState S) → Came u uh → Came v vh → 0 < number_at uh.attempt → number_at uh.attempt ≡ number_at vh.attempt → u ≡ v
  apart_after u v uh vh (stays other there) (stays also at_v) some same = before.apart u v uh vh there at_v some same
  apart_after u v uh vh (stays other there) (moves own same_number number) some same =
      absurd (differs_from v u vh uh other there own number (subst (λ m. 0 < m) same some) (sym same))
  apart_after u v uh vh (stays other there) (begins n r p is own same_number none) some same = no_number (number_at uh.attempt) some (same ∙ none)
  apart_after u v uh vh (moves own same_number number) (stays other there) some same = absurd (differs_from u v uh vh other there own number some same)
  apart_after u v uh vh (moves own same_number number) (moves also same_too number_too) some same = own ∙ sym also
  apart_after u v uh vh (moves own same_number number) (begins n r p is also same_too none) some same = no_number (number_at uh.attempt) some (same ∙ none)
  apart_after u v uh vh (begins n r p is own same_number none) there some same = no_number (number_at uh.attempt) some none

  -- a number that no thread had, and that isn't handed out, has no thread
  free_after : (m : ℕ) → threads m ≡ None → ((n r p : ℕ) → step ≡ Split n r p → m ≢ n) → after m ≡ None
  free_after m none other = by_step step refl
    where
      is_other : m ≢ t
      is_other same = none_some at.from (sym none ∙ ap threads same ∙ at.stands)

      by_step : (made : Step) → step ≡ made → threads_by code made at.from.local (set_at threads t (Some y)) m ≡ None
      by_step (Split n r p) is = set_at-other (set_at threads t (Some y)) n (Some (first_state n p (code.child at.from.local r))) m (other n r p is)
          ∙ set_at-other threads t (Some y) m is_other ∙ none
      by_step made is = set_at-other threads t (Some y) m is_other ∙ none

  no_split : {A : Type 0} (made : Step) → (IsSplit made → ⊥) → step ≡ made → (n r p : ℕ) → step ≡ Split n r p → A
  no_split made other is n r p split = absurd (other (subst IsSplit (sym split ∙ is) tt))

  unused_after : (u : ℕ) (uh : ThreadState S) → Came u uh → 0 < number_at uh.attempt → after (number_at uh.attempt) ≡ None
  unused_after u uh (stays other there) some = free_after (number_at uh.attempt) (before.unused u uh there some)
      (λ n r p is same. other (before.apart u t uh at.from there at.stands some (same ∙ sym (split_made n r p is))))
  unused_after u uh (moves own same (has_none none)) some = no_number (number_at uh.attempt) some none
  unused_after u uh (moves own same (is_drawn n is found now)) some =
      free_after (number_at uh.attempt) (is_none (threads (number_at uh.attempt)) (λ vh there.
      let next = next_number n is found in let low = before.numbered.drawn (number_at uh.attempt) vh there in too_high (number_at uh.attempt) n count now next.0 low))
      (λ n r p split. no_split DrawThread (λ h. h) is n r p split)
    where
      too_high : (m n d : ℕ) → m ≡ n + 1 → n ≡ d → m ≤ d → ⊥
      too_high m n d is also low = omega (arith, is, also, low)
  unused_after u uh (moves own same (is_kept q n is now)) some =
      subst (λ m. after m ≡ None) (sym now) (free_after (number_at at.from.attempt) (before.unused t at.from at.stands (subst (λ m. 0 < m) now some))
      (λ m r p split. no_split (StartThread q n) (λ h. h) is m r p split))
  unused_after u uh (begins n r p is own same none) some = no_number (number_at uh.attempt) some none

  next_numbers : Numbers (c (suc k))
  next_numbers = subst Numbers (sym at.leads) (record {
    numbered = record {
      own = λ u uh there. own_after u uh (came u uh there);
      drawn = λ u uh there. drawn_after u uh (came u uh there);
      low = λ u uh there. low_number u uh (came u uh there);
    };
    drawn = λ u uh there. held_after u uh (came u uh there);
    apart = λ u v uh vh there at_v some same. apart_after u v uh vh (came u uh there) (came v vh at_v) some same;
    unused = λ u uh there some. unused_after u uh (came u uh there) some;
  })

  -- no thread has the number that is handed out
  is_new : (n r p : ℕ) → step ≡ Split n r p → threads n ≡ None
  is_new n r p is = ap threads (sym (split_made n r p is)) ∙ before.unused t at.from at.stands (split_some n r p is)

-- ---- other acts

module _ {S : Type 0} (code : Code S) (b : Bounds) (c : ℕ → Core S) (k t : ℕ) (at : QuietAt code b c k t) (before : Numbers (c k)) where
  abbrev quieted : ℕ → Option (ThreadState S)
  quieted = set_at (c k).threads t (Some (after_quiet at.from at.local))

  data CameQuiet (u : ℕ) (uh : ThreadState S) : Type 0 where
    as_before : (c k).threads u ≡ Some uh → CameQuiet u uh
    is_quiet : u ≡ t → uh.number ≡ at.from.number → number_at uh.attempt ≡ 0 → CameQuiet u uh

  came_quiet : (u : ℕ) (uh : ThreadState S) → quieted u ≡ Some uh → CameQuiet u uh
  came_quiet u = each (CameQuiet u) (c k).threads t (after_quiet at.from at.local) u (λ own. is_quiet own refl refl) (λ vh differs there. as_before there)

  quiet_own : (u : ℕ) (uh : ThreadState S) → CameQuiet u uh → (uh.number ≡ u) × (u ≤ (c k).words (Control 4)) × (u < 2 ^ 8)
  quiet_own u uh (as_before there) = (before.numbered.own u uh there, before.numbered.drawn u uh there, before.numbered.low u uh there)
  quiet_own u uh (is_quiet own same none) = (
    same ∙ before.numbered.own t at.from at.stands ∙ sym own,
    subst (λ n. n ≤ (c k).words (Control 4)) (sym own) (before.numbered.drawn t at.from at.stands),
    subst (λ n. n < 2 ^ 8) (sym own) (before.numbered.low t at.from at.stands),
  )

  quiet_drawn : (u : ℕ) (uh : ThreadState S) → CameQuiet u uh → number_at uh.attempt ≤ (c k).words (Control 4)
  quiet_drawn u uh (as_before there) = before.drawn u uh there
  quiet_drawn u uh (is_quiet own same none) = omega (arith, none)

  quiet_apart : (u v : ℕ) (uh vh : ThreadState S) → CameQuiet u uh → CameQuiet v vh → 0 < number_at uh.attempt → number_at uh.attempt ≡ number_at vh.attempt → u ≡ v
  quiet_apart u v uh vh (as_before there) (as_before at_v) some same = before.apart u v uh vh there at_v some same
  quiet_apart u v uh vh (as_before there) (is_quiet own number none) some same = no_number (number_at uh.attempt) some (same ∙ none)
  quiet_apart u v uh vh (is_quiet own number none) there some same = no_number (number_at uh.attempt) some none

  quiet_unused : (u : ℕ) (uh : ThreadState S) → CameQuiet u uh → 0 < number_at uh.attempt → quieted (number_at uh.attempt) ≡ None
  quiet_unused u uh (as_before there) some =
      let none = before.unused u uh there some in
      set_at-other (c k).threads t (Some (after_quiet at.from at.local)) (number_at uh.attempt) (λ same. none_some at.from (sym none ∙ ap (c k).threads same ∙ at.stands)) ∙ none
  quiet_unused u uh (is_quiet own number none) some = no_number (number_at uh.attempt) some none

  quiet_numbers : Numbers (c (suc k))
  quiet_numbers = subst Numbers (sym at.leads) (record {
    numbered = record {
      own = λ u uh there. (quiet_own u uh (came_quiet u uh there)).0;
      drawn = λ u uh there. (quiet_own u uh (came_quiet u uh there)).1;
      low = λ u uh there. (quiet_own u uh (came_quiet u uh there)).2;
    };
    drawn = λ u uh there. quiet_drawn u uh (came_quiet u uh there);
    apart = λ u v uh vh there at_v some same. quiet_apart u v uh vh (came_quiet u uh there) (came_quiet v vh at_v) some same;
    unused = λ u uh there some. quiet_unused u uh (came_quiet u uh there) some;
  })

beside_numbers : {S : Type 0} (c : Core S) (step : Step) → Numbers c → Numbers (record c { words = words_after step c.words })
beside_numbers c step before = record {
  numbered = record {
    own = before.numbered.own;
    drawn = λ u uh there. low u (c.words (Control 4)) (words_after step c.words (Control 4)) (before.numbered.drawn u uh there) (grows step c.words);
    low = before.numbered.low;
  };
  drawn = λ u uh there. low (number_at uh.attempt) (c.words (Control 4)) (words_after step c.words (Control 4)) (before.drawn u uh there) (grows step c.words);
  apart = before.apart;
  unused = before.unused;
}
  where
    low : (m n p : ℕ) → m ≤ n → n ≤ p → m ≤ p
    low m n p below high = omega (arith, below, high)

-- ---- along a run

module _ {S : Type 0} (code : Code S) (b : Bounds) (c : ℕ → Core S) (acts : List Act) (run : IsRun code b c acts) (first : AreNumbered (c 0)) where
  begun : (t : ℕ) (th : ThreadState S) → (c 0).threads t ≡ Some th → number_at th.attempt ≡ 0
  begun t th there = ap (λ (z : ThreadState S). number_at z.attempt) (run.begins.threads t th there).3

  first_numbers : Numbers (c 0)
  first_numbers = record {
    numbered = first;
    drawn = λ t th there. let none = begun t th there in omega (arith, none);
    apart = λ t u th uh there at_u some same. no_number (number_at th.attempt) some (begun t th there);
    unused = λ t th there some. no_number (number_at th.attempt) some (begun t th there);
  }

  act_numbers : (k : ℕ) (act : Act) → slice_get acts k ≡ Some act → ActAt code b c k act → Numbers (c k) → Numbers (c (suc k))
  act_numbers k (quiet t) here at before = quiet_numbers code b c k t at before
  act_numbers k (did t step a) here at before = next_numbers code b c k t step a at (facts_at code b c acts run k (low k (length acts) (slice_get_within acts k (did t step a) here))) before
    where
      low : (m n : ℕ) → m < n → m ≤ n
      low m n is = omega (arith, is)
  act_numbers k (beside t step a) here at before = subst Numbers (sym at.leads) (beside_numbers (c k) step before)

  pub numbers_at : (k : ℕ) → k ≤ length acts → Numbers (c k)
  numbers_at k within = along code b c acts run.leads (λ n. Numbers (c n)) first_numbers (λ n act here at before. act_numbers n act here at before) k within

pub threads_are_numbered : {S : Type 0} (code : Code S) → ThreadsAreNumbered code
threads_are_numbered code b c acts run first k within = (numbers_at code b c acts run first k within).numbered

pub threads_are_new : {S : Type 0} (code : Code S) → ThreadsAreNew code
threads_are_new code b c acts run first k t n r p a here =
    let low = slice_get_within acts k (did t (Split n r p) a) here in
    let within : k ≤ length acts = omega (arith, low) in
    let at = act_at code b c acts k (did t (Split n r p) a) run.leads here in
    is_new code b c k t (Split n r p) a at (facts_at code b c acts run k within) (numbers_at code b c acts run first k within) n r p refl
