-- On which words of objects a step is made, where objects lie apart, and which it leaves.
use Rattle.std.proofs.Common.{◌≡◌, ◌≢◌, ◌⊎◌, inl, inr, ℕ, ◌+◌, ◌<◌, ◌≤◌, Bool, true, false, Some, nat_eq, refl, sym, ◌∙◌, ap, subst, arith}
use Rattle.std.specs.Prelude.{IsSomeAnd, if◌then◌else◌}
use Rattle.std.proofs.lemmas.Grind.{common_steps}
use Rattle.std.proofs.lemmas.Bool.Decides.{nat_tests}
use Rattle.op_core.specs.declared.Op.TheVariants.{ClassOf, Read, Write, Start, Join}
use Rattle.op_core.specs.declared.Next.{Next}
use Rattle.op_core.specs.declared.Next.TheVariants.{Want}
use Rattle.op_core.specs.ThreadCode.{Code}
use Rattle.op_core.specs.OrdinaryState.{Object}
use Rattle.op_core.proofs.PointwiseLemmas.{same_or_other}
use Rattle.heap_words.specs.declared.areas.Area.{Area}
use Rattle.step_port.specs.declared.step.ThreadWord.{ThreadWord}
use Rattle.step_port.specs.declared.step.Step.{Step}
use Rattle.step_port.specs.declared.step.Step.TheVariants.{LoadWord, SwapWord, RestoreWord, LoadMonitor, TakeMonitor, SetDepth, Release, SetHeader, StartThread, LoadThread, LookMonitor}
use Rattle.step_port.specs.Steps.{place_of, effect_of}
use Rattle.step_port.specs.Words.{Words, area_eq, put_at, words_after}
use Rattle.thread_automaton.specs.declared.Bounds.{Bounds}
use Rattle.thread_automaton.specs.declared.Move.TheVariants.{Make}
use Rattle.thread_automaton.specs.ThreadState.{ThreadState}
use Rattle.thread_automaton.specs.NextMove.{next_move}
use Rattle.automaton_rows.specs.Fits.{AttemptFits}
use Rattle.section_laws.proofs.WordLemmas.{stays_at}
use Rattle.section_laws.proofs.FactLemmas.{Threads}
use Rattle.section_laws.specs.Layout.{Objects, object_end, IsWordPlace}
use Rattle.section_laws.specs.Places.{IsCodeWord, FitsNumber, IsInObject}
use Rattle.section_laws.proofs.run_layout.NameLemmas.{NamesStart, NamesWord, NamesNew, Names, step_names}
use Rattle.section_laws.proofs.run_layout.OwnedLemmas.{new_place}
use Rattle.section_laws.proofs.run_layout.LaidLemmas.{There, is_there, is_such, NextFits, monitor_there, placed, write_there, Laid}

-- ---- words at places of objects

pub object_is : (at : ℕ) (a : Area) → area_eq (Area.Object at) a ≡ true → a ≡ Area.Object at
object_is m (Area.Object n) is = ap Area.Object (same m n is)
  where
    same : (m n : ℕ) → nat_eq m n ≡ true → n ≡ m
    same m n is = grind (arith, common_steps, nat_tests)
object_is m a is = cc

pub object_other : (q at : ℕ) → q ≢ at → area_eq (Area.Object q) (Area.Object at) ≡ false
object_other q at other = by_test (nat_eq q at) refl
  where
    same : (m n : ℕ) → nat_eq m n ≡ true → m ≡ n
    same m n is = grind (arith, common_steps, nat_tests)

    by_test : (t : Bool) → nat_eq q at ≡ t → nat_eq q at ≡ false
    by_test true is = absurd (other (same q at is))
    by_test false is = is

pub put_object : (w : Words) (at v : ℕ) → put_at w (Area.Object at) v (Area.Object at) ≡ v
put_object w at v = ap (λ t. if t then v else w (Area.Object at)) (same at)
  where
    same : (n : ℕ) → nat_eq n n ≡ true
    same n = grind (arith, common_steps, nat_tests)

-- a step leaves each word of an object on which it isn't made
pub stays_or_made : (step : Step) (w : Words) (at : ℕ) → (words_after step w (Area.Object at) ≡ w (Area.Object at)) ⊎ (place_of step ≡ Area.Object at)
stays_or_made step w at = by_test (area_eq (Area.Object at) (place_of step)) refl
  where
    by_test : (t : Bool) → area_eq (Area.Object at) (place_of step) ≡ t → (words_after step w (Area.Object at) ≡ w (Area.Object at)) ⊎ (place_of step ≡ Area.Object at)
    by_test true is = inr (object_is at (place_of step) is)
    by_test false is = inl (stays_at (effect_of step) w (place_of step) (Area.Object at) is)

-- ---- where a step is made

abbrev pub SetsNoHeader : Step → Type 0
SetsNoHeader (SetHeader r w) = ⊥
SetsNoHeader step = Unit {0}

-- A step on a word of objects, of the thread th: on one of an object that is there, or the header of a new object is set.
pub data Place (is_thread : ℕ → Bool) (objects : Objects) {S : Type 0} (th : ThreadState S) (next : Next) (step : Step) (at : ℕ) : Type 0 where
  in_object : SetsNoHeader step → IsInObject is_thread objects step at → Place is_thread objects th next step at
  in_block : (v : ℕ) → step ≡ SetHeader at v → new_place th.attempt ≡ Some at → NamesNew next v → Place is_thread objects th next step at

abbrev IsObject : Area → Type 0
IsObject (Area.Object n) = Unit {0}
IsObject a = ⊥

abbrev place_number : Area → ℕ
place_number (Area.Object n) = n
place_number a = 0

module _ (is_thread : ℕ → Bool) (objects : Objects) where
  abbrev On : Step → ℕ → Type 0
  On step at = IsInObject is_thread objects step at

  on_word : (step : Step) (at : ℕ) → ((thread : Bool) (d : ℕ) → IsCodeWord thread d → FitsNumber thread d step) → IsWordPlace is_thread objects at → On step at
  on_word step at word so =
      let low = so.low in let place = so.place in
      record {
        r = so.r;
        o = so.o;
        there = so.there;
        number = 2 + so.i;
        below = omega (arith, low);
        place = omega (arith, place);
        fits = word (is_thread so.o.class) (2 + so.i) (omega arith, λ thread three. so.kept thread (omega (arith, three)));
      }

  on_monitor : (step : Step) (at r : ℕ) → ((thread : Bool) → FitsNumber thread 1 step) → r + 1 ≡ at → There objects r → On step at
  on_monitor step at r monitor place so = record { r = r; o = so.0; there = so.1; number = 1; below = omega arith; place = sym place; fits = monitor (is_thread so.0.class) }

  on_read : (next : Next) (at : ℕ) → NamesWord next at → NextFits is_thread objects next → On (LoadWord at) at
  on_read (Want (ClassOf r)) at names all =
      let so = is_there (objects r) (all (ClassOf r) refl).1 in
      record { r = r; o = so.0; there = so.1; number = 0; below = omega arith; place = omega (arith, names); fits = inl refl }
  on_read (Want (Read r i)) at names all = let fits = all (Read r i) refl in on_word (LoadWord at) at (λ thread d plain. inr plain) (placed is_thread objects r i at fits.1 fits.2 names)
  on_read (Want (Write r i v)) at names all = let fits = all (Write r i v) refl in on_word (LoadWord at) at (λ thread d plain. inr plain) (placed is_thread objects r i at fits.1 fits.2 names)
  on_read next at names all = absurd names

  on_start : (step : Step) (at r q : ℕ) → ((thread : Bool) → thread ≡ true → FitsNumber thread 3 step) → q + 3 ≡ at → q ≡ r
      → IsSomeAnd (objects r) (λ o. (is_thread o.class ≡ true) × (1 < o.words)) → On step at
  on_start step at r q start place names some =
      let so = is_such (objects r) some in
      let low = so.2.1 in
      record { r = r; o = so.0; there = so.1; number = 3; below = omega (arith, low); place = omega (arith, place, names); fits = start (is_thread so.0.class) so.2.0 }

  of_start : (step : Step) (next : Next) (at q : ℕ) → ((thread : Bool) → thread ≡ true → FitsNumber thread 3 step) → q + 3 ≡ at → NamesStart next q → NextFits is_thread objects next → On step at
  of_start step (Want (Start r p)) at q start place names all = on_start step at r q start place names (all (Start r p) refl).2
  of_start step (Want (Join r)) at q start place names all = on_start step at r q start place names (all (Join r) refl).2
  of_start step next at q start place names all = absurd names

-- where objects lie apart, a word of one isn't one of another
pub one_place : (objects : Objects) → ((r q : ℕ) (o p : Object) → objects r ≡ Some o → objects q ≡ Some p → r ≢ q → (object_end r o ≤ q) ⊎ (object_end q p ≤ r))
    → (r q : ℕ) (o p : Object) → objects r ≡ Some o → objects q ≡ Some p → (d e : ℕ) → d < 2 + o.words → e < 2 + p.words → r + d ≡ q + e → (r ≡ q) × (d ≡ e)
one_place objects apart r q o p there also d e low_d low_e is = elim (same_or_other r q) [
  | inl same ↦ (same, omega (arith, same, is))
  | inr other ↦ elim (apart r q o p there also other) [
    | inl before ↦ absurd (too_low r q d e o.words low_d is before)
    | inr after ↦ absurd (too_low q r e d p.words low_e (sym is) after)
  ]
]
  where
    too_low : (r q d e words : ℕ) → d < 2 + words → r + d ≡ q + e → r + 2 + words ≤ q → ⊥
    too_low r q d e words low is before = omega (arith, low, is, before)

module _ {S : Type 0} (code : Code S) (b : Bounds) (is_thread : ℕ → Bool) (begun : Objects) (w : Words) (objects : Objects) (threads : Threads S)
    (laid : Laid code b is_thread begun w objects threads) (t : ℕ) (th : ThreadState S) (stands : threads t ≡ Some th) (step : Step)
    (fits : AttemptFits th (code.next th.local) th.attempt) (makes : next_move code b th ≡ Make step) (all : NextFits is_thread objects (code.next th.local)) where
  abbrev At : Step → ℕ → Type 0
  At step at = Place is_thread objects th (code.next th.local) step at

  of_monitor : (step : Step) (at q : ℕ) → ((thread : Bool) → FitsNumber thread 1 step) → q + 1 ≡ at → There objects q → IsInObject is_thread objects step at
  of_monitor step at q monitor place there = on_monitor is_thread objects step at q monitor place there

  pub step_place : (at : ℕ) → place_of step ≡ Area.Object at → At step at
  step_place at on = by_step step (ap place_number on) (subst IsObject (sym on) tt) (step_names code b th step fits makes)
    where
      by_step : (m : Step) → place_number (place_of m) ≡ at → IsObject (place_of m) → Names th (code.next th.local) th.attempt m → At m at
      by_step (LoadWord q) is object names = subst (At (LoadWord q)) is (in_object tt (on_read is_thread objects (code.next th.local) q names all))
      by_step (SwapWord q old new) is object names = subst (At (SwapWord q old new)) is
          (in_object tt (on_word is_thread objects (SwapWord q old new) q (λ thread d plain. plain) (write_there is_thread th objects (code.next th.local) q new names all)))
      by_step (RestoreWord q old) is object (x, there, at_x, old_x) =
          in_object tt (on_word is_thread objects (RestoreWord q old) at (λ thread d plain. plain) (subst (IsWordPlace is_thread objects) (at_x ∙ is) (laid.logged t x th stands there)))
      by_step (LoadMonitor q) is object names = in_object tt (of_monitor (LoadMonitor q) at q (λ thread. refl) is (monitor_there is_thread objects (code.next th.local) q names all))
      by_step (TakeMonitor q new) is object names =
          in_object tt (of_monitor (TakeMonitor q new) at q (λ thread. refl) is (monitor_there is_thread objects (code.next th.local) q names all))
      by_step (SetDepth q new) is object (inl names) =
          in_object tt (of_monitor (SetDepth q new) at q (λ thread. refl) is (monitor_there is_thread objects (code.next th.local) q names all))
      by_step (SetDepth q new) is object (inr marked) = in_object tt (of_monitor (SetDepth q new) at q (λ thread. refl) is (laid.marked t q th stands marked))
      by_step (Release q) is object (inl names) = in_object tt (of_monitor (Release q) at q (λ thread. refl) is (monitor_there is_thread objects (code.next th.local) q names all))
      by_step (Release q) is object (inr holds) = in_object tt (of_monitor (Release q) at q (λ thread. refl) is (laid.held t q th stands holds))
      by_step (SetHeader q v) is object (at_g, names) = subst (At (SetHeader q v)) is (in_block v refl (ap new_place at_g) names)
      by_step (StartThread q n) is object names = in_object tt (of_start is_thread objects (StartThread q n) (code.next th.local) at q (λ thread so. (refl, so)) is names.0 all)
      by_step (LoadThread (ThreadWord.Start q)) is object names =
          in_object tt (of_start is_thread objects (LoadThread (ThreadWord.Start q)) (code.next th.local) at q (λ thread so. (refl, so)) is names all)
      by_step (LoadThread (ThreadWord.Ended n)) is object names = absurd object
      by_step (LookMonitor q) is object names = absurd names
      by_step m is object names = absurd object

  -- a word of one object isn't one of another
  pub one_object : (r q : ℕ) (o p : Object) → objects r ≡ Some o → objects q ≡ Some p → (d e : ℕ) → d < 2 + o.words → e < 2 + p.words → r + d ≡ q + e → (r ≡ q) × (d ≡ e)
  one_object r q o p there also d e low_d low_e is = one_place objects laid.apart r q o p there also d e low_d low_e is

  -- a new object isn't laid over one that is there
  pub new_apart : (at r d : ℕ) (o : Object) → new_place th.attempt ≡ Some at → objects r ≡ Some o → d < 2 + o.words → at ≡ r + d → ⊥
  new_apart at r d o new there low is =
      let room = laid.room t at th stands new in
      let some = room.some in
      elim (room.objects_apart r o there) [
        | inl high ↦ absurd (above at r d _ some high is)
        | inr below ↦ absurd (not_below at r d o.words low below is)
      ]
    where
      above : (at r d last : ℕ) → at + 2 ≤ last → last ≤ r → at ≡ r + d → ⊥
      above at r d last some high is = omega (arith, some, high, is)

      not_below : (at r d words : ℕ) → d < 2 + words → r + 2 + words ≤ at → at ≡ r + d → ⊥
      not_below at r d words low below is = omega (arith, low, below, is)
