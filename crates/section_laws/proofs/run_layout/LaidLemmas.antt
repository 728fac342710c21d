-- Objects lie apart at each place of a run.
use Rattle.std.proofs.Common.{◌≡◌, ◌≢◌, ◌⊎◌, inl, inr, ℕ, ◌+◌, ◌<◌, ◌≤◌, ◌^◌, Bool, true, true≢false, Option, None, Some, refl, sym, ◌∙◌, ap, subst, arith}
use Rattle.std.specs.Prelude.{IsSome, IsSomeAnd}
use Rattle.std.proofs.lemmas.Option.{same_Some}
use Rattle.op_core.specs.declared.Op.{Op}
use Rattle.op_core.specs.declared.Op.TheVariants.{Write, New, Enter, Exit, Wait, Rewake}
use Rattle.op_core.specs.declared.Next.{Next}
use Rattle.op_core.specs.declared.Next.TheVariants.{Want}
use Rattle.op_core.specs.ThreadCode.{Code}
use Rattle.op_core.specs.OrdinaryState.{set_at, Object}
use Rattle.op_core.proofs.PointwiseLemmas.{set_at-at, set_at-other, same_or_other}
use Rattle.heap_words.specs.declared.areas.Area.TheVariants.{Control}
use Rattle.write_log.specs.declared.Noted.{Noted}
use Rattle.step_port.specs.declared.answer.StepAnswer.{StepAnswer}
use Rattle.step_port.specs.declared.step.Step.{Step}
use Rattle.step_port.specs.declared.step.Step.TheVariants.{TakeWords, SetHeader, LoadThread}
use Rattle.step_port.specs.Steps.{place_of, effect_of}
use Rattle.step_port.specs.Words.{Words, answer_of, words_after}
use Rattle.thread_automaton.specs.declared.Bounds.{Bounds}
use Rattle.thread_automaton.specs.declared.Move.TheVariants.{Make}
use Rattle.thread_automaton.specs.ThreadState.{ThreadState}
use Rattle.thread_automaton.specs.NextMove.{word_place, words_asked, next_move}
use Rattle.thread_automaton.specs.Told.{after_answer}
use Rattle.automaton_rows.specs.Fits.{AttemptFits}
use Rattle.core_runs.specs.Cores.{objects_by}
use Rattle.section_laws.proofs.WordLemmas.{stays_at}
use Rattle.section_laws.proofs.ClaimLemmas.{none_some, found_is}
use Rattle.section_laws.proofs.FactLemmas.{Threads, each}
use Rattle.section_laws.specs.Layout.{Objects, object_end, free_place, FitsObjects, IsWordPlace}
use Rattle.section_laws.proofs.run_layout.ListLemmas.{In, Holds, WasMarked}
use Rattle.section_laws.proofs.run_layout.NameLemmas.{NamesMonitor, NamesWrite, Names, step_names}
use Rattle.section_laws.proofs.run_layout.OwnedLemmas.{new_place, owned_by, OwnedStep, owned_steps}

-- an object is there
abbrev pub There : Objects → ℕ → Type 0
There objects r = (o : Object) × (objects r ≡ Some o)

pub is_there : (o : Option Object) → IsSome o → (x : Object) × (o ≡ Some x)
is_there (Some x) there = (x, refl)
is_there None there = absurd (true≢false (sym there))

pub is_such : {P : Object → Type 0} (o : Option Object) → IsSomeAnd o P → (x : Object) × (o ≡ Some x) × P x
is_such (Some x) so = (x, refl, so)
is_such None so = absurd so

-- what is wanted fits the objects
abbrev pub NextFits : (ℕ → Bool) → Objects → Next → Type 0
NextFits is_thread objects next = (op : Op) → next ≡ Want op → FitsObjects is_thread objects op

module _ (is_thread : ℕ → Bool) where
  pub monitor_there : (objects : Objects) (next : Next) (q : ℕ) → NamesMonitor next q → NextFits is_thread objects next → There objects q
  monitor_there objects (Want (Enter r)) q names all = subst (There objects) (sym names) (is_there (objects r) (all (Enter r) refl).1)
  monitor_there objects (Want (Exit r)) q names all = subst (There objects) (sym names) (is_there (objects r) (all (Exit r) refl).1)
  monitor_there objects (Want (Wait r)) q names all = subst (There objects) (sym names) (is_there (objects r) (all (Wait r) refl).1)
  monitor_there objects (Want (Rewake r)) q names all = subst (There objects) (sym names) (is_there (objects r) (all (Rewake r) refl).1)
  monitor_there objects (Want (Op.Notify r)) q names all = subst (There objects) (sym names) (is_there (objects r) (all (Op.Notify r) refl).1)
  monitor_there objects next q names all = absurd names

  -- a word of such an object, of which both is known
  pub placed : (objects : Objects) (r i at : ℕ) → IsSomeAnd (objects r) (λ o. i < o.words) → IsSomeAnd (objects r) (λ o. is_thread o.class ≡ true → i ≢ 1) → at ≡ word_place r i
      → IsWordPlace is_thread objects at
  placed objects r i at word start is =
      let such = is_such (objects r) word in
      let kept = is_such (objects r) start in
      record {
        r = r;
        i = i;
        o = such.0;
        there = such.1;
        low = such.2;
        place = is;
        kept = λ thread. kept.2 (ap (λ (x : Object). is_thread x.class) (same_Some kept.0 such.0 (sym kept.1 ∙ such.1)) ∙ thread);
      }

  pub write_there : {S : Type 0} (th : ThreadState S) (objects : Objects) (next : Next) (at new : ℕ) → NamesWrite th next at new → NextFits is_thread objects next → IsWordPlace is_thread objects at
  write_there th objects (Want (Write r i v)) at new names all = let fits = all (Write r i v) refl in placed objects r i at fits.1 fits.2 names.0
  write_there th objects next at new names all = absurd names

-- ---- what is so at a place of a run

-- how many words a new object is about to have, with its header and its monitor
abbrev pub size_of : {S : Type 0} → Code S → S → Next → ℕ
size_of code l (Want (New c n)) = words_asked code l c n
size_of code l next = 0

abbrev pub new_end : {S : Type 0} → Code S → ThreadState S → ℕ → ℕ
new_end code th r = r + size_of code th.local (code.next th.local)

abbrev pub new_object : {S : Type 0} → Code S → S → ℕ → ℕ → Object
new_object code l c n = record { class = c; length = n; words = code.words l c n }

-- there is room for the new object of thread u, which lies from r on
pub record HasRoom {S : Type 0} (code : Code S) (b : Bounds) (w : Words) (objects : Objects) (threads : Threads S) (u r last : ℕ) : Type 0 where
  pub low : last ≤ free_place b w
  pub within : last ≤ b.first + b.limits.heap
  pub high : b.first ≤ r
  pub some : r + 2 ≤ last
  pub objects_apart : (q : ℕ) (p : Object) → objects q ≡ Some p → (last ≤ q) ⊎ (object_end q p ≤ r)
  pub others_apart : (v q : ℕ) (vh : ThreadState S) → v ≢ u → threads v ≡ Some vh → new_place vh.attempt ≡ Some q → (last ≤ q) ⊎ (new_end code vh q ≤ r)

pub record Laid {S : Type 0} (code : Code S) (b : Bounds) (is_thread : ℕ → Bool) (begun : Objects) (w : Words) (objects : Objects) (threads : Threads S) : Type 0 where
  pub apart : (r q : ℕ) (o p : Object) → objects r ≡ Some o → objects q ≡ Some p → r ≢ q → (object_end r o ≤ q) ⊎ (object_end q p ≤ r)
  pub low : (r : ℕ) (o : Object) → objects r ≡ Some o → object_end r o ≤ free_place b w
  pub in_range : (r : ℕ) (o : Object) → objects r ≡ Some o → (o.class < 2 ^ 32) × (o.length < 2 ^ 32)
  pub from : (r : ℕ) (o : Object) → objects r ≡ Some o → (begun r ≡ Some o) ⊎ ((b.first ≤ r) × (object_end r o ≤ b.first + b.limits.heap))
  pub held : (u q : ℕ) (th : ThreadState S) → threads u ≡ Some th → Holds th.held q → There objects q
  pub marked : (u q : ℕ) (th : ThreadState S) → threads u ≡ Some th → WasMarked th.marks q → There objects q
  pub logged : (u : ℕ) (x : Noted) (th : ThreadState S) → threads u ≡ Some th → In x th.log → IsWordPlace is_thread objects x.at
  pub room : (u r : ℕ) (th : ThreadState S) → threads u ≡ Some th → new_place th.attempt ≡ Some r → HasRoom code b w objects threads u r (new_end code th r)

-- the count of words doesn't sink
pub more_taken : (step : Step) (w : Words) → w (Control 2) ≤ words_after step w (Control 2)
more_taken (TakeWords n) w = omega arith
more_taken (LoadThread which) w = omega arith
more_taken step w = let same = stays_at (effect_of step) w (place_of step) (Control 2) refl in omega (arith, same)

module _ {S : Type 0} (code : Code S) (b : Bounds) (is_thread : ℕ → Bool) (begun : Objects) (w : Words) (objects : Objects) (threads : Threads S)
    (laid : Laid code b is_thread begun w objects threads) (t : ℕ) (th : ThreadState S) (stands : threads t ≡ Some th) (step : Step) (a : StepAnswer)
    (fits : AttemptFits th (code.next th.local) th.attempt) (makes : next_move code b th ≡ Make step) (is : a ≡ answer_of w step) (all : NextFits is_thread objects (code.next th.local)) where
  abbrev after : Words
  after = words_after step w

  abbrev pub objects_after : Objects
  objects_after = objects_by code step th.local (code.next th.local) objects

  abbrev y : ThreadState S
  y = after_answer code b th step a

  owned : OwnedStep code b th (code.next th.local) step a (owned_by y)
  owned = owned_steps code b th w step a fits makes is

  taken : w (Control 2) ≤ after (Control 2)
  taken = more_taken step w

  -- the objects stay, or the new one is there
  pub data Made : Type 0 where
    no_more : ((r v : ℕ) → step ≡ SetHeader r v → ⊥) → objects_after ≡ objects → Made
    one_more : (r v c n : ℕ) → step ≡ SetHeader r v → new_place th.attempt ≡ Some r → code.next th.local ≡ Want (New c n)
        → objects_after ≡ set_at objects r (Some (new_object code th.local c n)) → Made

  abbrev IsHeader : Step → Type 0
  IsHeader (SetHeader r v) = Unit {0}
  IsHeader step = ⊥

  pub made : Made
  made = by_step step refl
    where
      by_step : (m : Step) → step ≡ m → Made
      by_step (SetHeader r v) same =
          let names = subst (Names th (code.next th.local) th.attempt) same (step_names code b th step fits makes) in
          let wants = names.1 in
          one_more r v wants.0 wants.1 same (ap new_place names.0) wants.2
          (ap (λ m. objects_by code m th.local (code.next th.local) objects) same ∙ ap (λ next. objects_by code (SetHeader r v) th.local next objects) wants.2)
      by_step m same = no_more (λ r v other. absurd (subst IsHeader (sym other ∙ same) tt)) (ap (λ s. objects_by code s th.local (code.next th.local) objects) same)

  -- the end of the new object
  same_end : (r c n : ℕ) → code.next th.local ≡ Want (New c n) → new_end code th r ≡ object_end r (new_object code th.local c n)
  same_end r c n wants = ap (λ next. r + size_of code th.local next) wants ∙ omega arith

  -- what is so of an object after the step
  pub with_objects : (P : ℕ → Object → Type 0) → ((q : ℕ) (p : Object) → objects q ≡ Some p → P q p)
      → ((r v c n : ℕ) → step ≡ SetHeader r v → new_place th.attempt ≡ Some r → code.next th.local ≡ Want (New c n) → P r (new_object code th.local c n))
      → (q : ℕ) (p : Object) → objects_after q ≡ Some p → P q p
  with_objects P old new q p there = elim made [
    | no_more none same ↦ old q p (ap (λ (f : Objects). f q) (sym same) ∙ there)
    | one_more r v c n sets at wants same ↦
        set_at-at (λ o. (x : Object) → o ≡ Some x → P q x) objects r (Some (new_object code th.local c n)) q
        (λ own x is_x. subst (P q) (same_Some (new_object code th.local c n) x is_x) (subst (λ m. P m (new_object code th.local c n)) (sym own) (new r v c n sets at wants)))
        (λ other x is_x. old q x is_x) p (ap (λ (f : Objects). f q) (sym same) ∙ there)
  ]

  not_there : (r : ℕ) (p : Object) → new_place th.attempt ≡ Some r → objects r ≡ Some p → ⊥
  not_there r p at there =
      let room = laid.room t r th stands at in
      let some = room.some in
      elim (room.objects_apart r p there) [
        | inl high ↦ omega (arith, some, high)
        | inr low ↦ omega (arith, low)
      ]

  -- an object stays
  pub grows : (q : ℕ) (p : Object) → objects q ≡ Some p → objects_after q ≡ Some p
  grows q p there = elim made [
    | no_more none same ↦ ap (λ (f : Objects). f q) same ∙ there
    | one_more r v c n sets at wants same ↦ elim (same_or_other q r) [
      | inl own ↦ absurd (not_there r p at (ap objects (sym own) ∙ there))
      | inr other ↦ ap (λ (f : Objects). f q) same ∙ set_at-other objects r (Some (new_object code th.local c n)) q other ∙ there
    ]
  ]

  there_after : (q : ℕ) → There objects q → There objects_after q
  there_after q so = (so.0, grows q so.0 so.1)

  placed_after : (at : ℕ) → IsWordPlace is_thread objects at → IsWordPlace is_thread objects_after at
  placed_after at so = record { r = so.r; i = so.i; o = so.o; there = grows so.r so.o so.there; low = so.low; place = so.place; kept = so.kept }

  apart_after : (r q : ℕ) (o p : Object) → objects_after r ≡ Some o → objects_after q ≡ Some p → r ≢ q → (object_end r o ≤ q) ⊎ (object_end q p ≤ r)
  apart_after r q o p there also = with_objects (λ m x. m ≢ q → (object_end m x ≤ q) ⊎ (object_end q p ≤ m))
      (λ m x old. with_objects (λ n z. m ≢ n → (object_end m x ≤ n) ⊎ (object_end n z ≤ m))
      (λ n z old_too other. laid.apart m n x z old old_too other)
      (λ n v c k sets at wants other. elim ((laid.room t n th stands at).objects_apart m x old) [
        | inl high ↦ inr (subst (λ e. e ≤ m) (same_end n c k wants) high)
        | inr low ↦ inl low
      ]) q p also)
      (λ m v c k sets at wants. with_objects (λ n z. m ≢ n → (object_end m (new_object code th.local c k) ≤ n) ⊎ (object_end n z ≤ m))
      (λ n z old other. elim ((laid.room t m th stands at).objects_apart n z old) [
        | inl high ↦ inl (subst (λ e. e ≤ n) (same_end m c k wants) high)
        | inr low ↦ inr low
      ])
      (λ n u d j sets_too at_too wants_too other. absurd (other (same_Some m n (sym at ∙ at_too)))) q p also)
      r o there

  low_after : (r : ℕ) (o : Object) → objects_after r ≡ Some o → object_end r o ≤ free_place b after
  low_after = with_objects (λ r o. object_end r o ≤ free_place b after)
      (λ r o old. let was = laid.low r o old in let up = taken in omega (arith, was, up))
      (λ r v c n sets at wants. let was = (laid.room t r th stands at).low in let up = taken in let ends = same_end r c n wants in omega (arith, was, up, ends))

  range_after : (r : ℕ) (o : Object) → objects_after r ≡ Some o → (o.class < 2 ^ 32) × (o.length < 2 ^ 32)
  range_after = with_objects (λ r o. (o.class < 2 ^ 32) × (o.length < 2 ^ 32)) (λ r o old. laid.in_range r o old) (λ r v c n sets at wants. (all (New c n) wants).0)

  from_after : (r : ℕ) (o : Object) → objects_after r ≡ Some o → (begun r ≡ Some o) ⊎ ((b.first ≤ r) × (object_end r o ≤ b.first + b.limits.heap))
  from_after = with_objects (λ r o. (begun r ≡ Some o) ⊎ ((b.first ≤ r) × (object_end r o ≤ b.first + b.limits.heap))) (λ r o old. laid.from r o old)
      (λ r v c n sets at wants. let room = laid.room t r th stands at in inr (room.high, subst (λ e. e ≤ b.first + b.limits.heap) (same_end r c n wants) room.within))

  held_own : (q : ℕ) → Holds y.held q → There objects_after q
  held_own q there = elim (owned.held q there) [
    | inl before ↦ there_after q (laid.held t q th stands before)
    | inr names ↦ there_after q (monitor_there is_thread objects (code.next th.local) q names all)
  ]

  marked_own : (q : ℕ) → WasMarked y.marks q → There objects_after q
  marked_own q (m, inside, holds) = elim (owned.marks m inside) [
    | inl before ↦ there_after q (laid.marked t q th stands (m, before, holds))
    | inr same ↦ there_after q (laid.held t q th stands (subst (λ held. Holds held q) same holds))
  ]

  logged_own : (x : Noted) → In x y.log → IsWordPlace is_thread objects_after x.at
  logged_own x there = elim (owned.log x there) [
    | inl before ↦ placed_after x.at (laid.logged t x th stands before)
    | inr logs ↦ placed_after x.at (write_there is_thread th objects (code.next th.local) x.at logs.new logs.names all)
  ]

  -- what is so where the own thread has words taken for a new object
  pub record TakesRoom (r : ℕ) : Type 0 where
    pub at : r ≡ free_place b w
    pub ends : new_end code y r ≡ free_place b after
    pub within : new_end code y r ≤ b.first + b.limits.heap
    pub some : r + 2 ≤ new_end code y r
    pub same : objects_after ≡ objects
    pub words : ℕ
    pub made : step ≡ TakeWords words

  pub takes_room : (r : ℕ) → new_place y.attempt ≡ Some r → TakesRoom r
  takes_room r new = elim owned.new [
    | inl none ↦ none_some r (sym none ∙ new)
    | inr takes ↦
        let asked : ℕ = words_asked code th.local takes.class takes.size in
        let count : takes.taken ≡ w (Control 2) = found_is takes.taken (w (Control 2)) (sym takes.answered ∙ is ∙ ap (answer_of w) takes.made) in
        let place : r ≡ takes.taken + b.first = same_Some r (takes.taken + b.first) (sym new ∙ takes.new) in
        let size : size_of code y.local (code.next y.local) ≡ asked =
        ap (λ l. size_of code l (code.next l)) takes.local ∙ ap (λ next. size_of code th.local next) takes.wants in
        let grown : after (Control 2) ≡ w (Control 2) + asked = ap (λ m. words_after m w (Control 2)) takes.made in
        let within = takes.within in
        record {
          at = omega (arith, count, place);
          ends = omega (arith, count, place, size, grown);
          within = omega (arith, place, size, within);
          some = omega (arith, size);
          same = ap (λ m. objects_by code m th.local (code.next th.local) objects) takes.made;
          words = asked;
          made = takes.made;
        }
  ]

  abbrev threads_now : Threads S
  threads_now = set_at threads t (Some y)

  room_own : (r : ℕ) → new_place y.attempt ≡ Some r → HasRoom code b after objects_after threads_now t r (new_end code y r)
  room_own r new =
      let takes = takes_room r new in
      record {
        low = let ends = takes.ends in omega (arith, ends);
        within = takes.within;
        high = let at = takes.at in omega (arith, at);
        some = takes.some;
        objects_apart = λ q p there.
            let low = laid.low q p (ap (λ (f : Objects). f q) (sym takes.same) ∙ there) in
            let at = takes.at in
            inr (omega (arith, low, at));
        others_apart = λ v q vh other there about. inr (each (λ (uh : ThreadState S). v ≢ t → new_place uh.attempt ≡ Some q → new_end code uh q ≤ r) threads t y v
            (λ own away new_too. absurd (away own))
            (λ uh away at away_too new_too. let low = (laid.room v q uh at new_too).low in let here = takes.at in omega (arith, low, here)) vh there other about);
      }

  room_other : (u r : ℕ) (uh : ThreadState S) → u ≢ t → threads u ≡ Some uh → new_place uh.attempt ≡ Some r → HasRoom code b after objects_after threads_now u r (new_end code uh r)
  room_other u r uh other at new =
      let room = laid.room u r uh at new in
      record {
        low = let was = room.low in let up = taken in omega (arith, was, up);
        within = room.within;
        high = room.high;
        some = room.some;
        objects_apart = with_objects (λ q p. (new_end code uh r ≤ q) ⊎ (object_end q p ≤ r)) (λ q p old. room.objects_apart q p old)
            (λ q v c n sets about wants. elim (room.others_apart t q th (λ own. other (sym own)) stands about) [
              | inl high ↦ inl high
              | inr low ↦ inr (subst (λ e. e ≤ r) (same_end q c n wants) low)
            ]);
        others_apart = λ v q vh away there about. each (λ (xh : ThreadState S). new_place xh.attempt ≡ Some q → (new_end code uh r ≤ q) ⊎ (new_end code xh q ≤ r)) threads t y v
            (λ own new_too. let takes = takes_room q new_too in let low = room.low in let here = takes.at in inl (omega (arith, low, here)))
            (λ xh away_too at_x new_too. room.others_apart v q xh away at_x new_too) vh there about;
      }

  pub step_laid : Laid code b is_thread begun after objects_after threads_now
  step_laid = record {
    apart = apart_after;
    low = low_after;
    in_range = range_after;
    from = from_after;
    held = λ u q. each (λ (uh : ThreadState S). Holds uh.held q → There objects_after q) threads t y u (λ own there. held_own q there) (λ uh other at there. there_after q (laid.held u q uh at there));
    marked = λ u q. each (λ (uh : ThreadState S). WasMarked uh.marks q → There objects_after q) threads t y u (λ own there. marked_own q there)
        (λ uh other at there. there_after q (laid.marked u q uh at there));
    logged = λ u x. each (λ (uh : ThreadState S). In x uh.log → IsWordPlace is_thread objects_after x.at) threads t y u (λ own there. logged_own x there)
        (λ uh other at there. placed_after x.at (laid.logged u x uh at there));
    room = λ u r. each (λ (uh : ThreadState S). new_place uh.attempt ≡ Some r → HasRoom code b after objects_after threads_now u r (new_end code uh r)) threads t y u
        (λ own new. subst (λ v. HasRoom code b after objects_after threads_now v r (new_end code y r)) (sym own) (room_own r new))
        (λ uh other at new. room_other u r uh other at new);
  }
