-- The lines of threads along a run, and their tickets.
use Rattle.std.proofs.Common.{◌≡◌, ◌⊎◌, inl, inr, ℕ, zero, suc, ◌+◌, ◌<◌, ◌≤◌, true, None, Some, List, [], ◌∷◌, ◌++◌, length, refl, sym, ◌∙◌, ap, subst, arith}
use Rattle.std.specs.Prelude.{slice_get}
use Rattle.std.proofs.lemmas.Bool.Decides.{leb_tells}
use Rattle.std.proofs.lemmas.Option.{same_Some, slice_get_within}
use Rattle.std.proofs.lemmas.List.{length_push}
use Rattle.op_core.specs.declared.Line.{Line}
use Rattle.op_core.specs.declared.Next.{Next}
use Rattle.op_core.specs.ThreadCode.{Code}
use Rattle.op_core.specs.OrdinaryState.{set_at}
use Rattle.op_core.proofs.PointwiseLemmas.{same_or_other, set_at-hit, set_at-other}
use Rattle.heap_words.specs.declared.areas.Area.TheVariants.{Control}
use Rattle.step_port.specs.declared.answer.StepAnswer.{StepAnswer}
use Rattle.step_port.specs.declared.step.Step.{Step}
use Rattle.step_port.specs.declared.step.Step.TheVariants.{Ticket, EndThread, LoadThread, Split, LoadStop, SetStop, LookMonitor, LookSection, BreakLevel}
use Rattle.step_port.specs.Steps.{place_of, effect_of}
use Rattle.step_port.specs.Words.{Words, answer_of, words_after}
use Rattle.thread_automaton.specs.declared.Bounds.{Bounds}
use Rattle.thread_automaton.specs.ThreadState.{Printed, ThreadState, first_state}
use Rattle.thread_automaton.specs.Told.{after_answer, after_quiet}
use Rattle.core_runs.specs.OwnParts.{is_beside}
use Rattle.core_runs.specs.Cores.{Core, threads_by, lines_by}
use Rattle.core_runs.specs.Acts.{Act, quiet, did, beside, DidAt, ActAt}
use Rattle.section_laws.specs.Runs.{IsRun}
use Rattle.section_laws.proofs.WordLemmas.{stays_at}
use Rattle.section_laws.proofs.ClaimLemmas.{none_some, found_is}
use Rattle.section_laws.proofs.FactLemmas.{Threads, each}
use Rattle.section_laws.proofs.RunLemmas.{along, facts_at}
use Rattle.section_laws.specs.Numbers.{AreNumbered}
use Rattle.section_laws.specs.Lines.{HasTicket, StandAtTickets, TicketsAreLines}
use Rattle.section_laws.proofs.run_threads.SeenLemmas.{IsQuiet, stays, prints_line, ends_thread, seen_steps}
use Rattle.section_laws.proofs.run_threads.NumberLemmas.{threads_are_new}

-- ---- lists

get_more : (lines : List Line) (x : Line) (i : ℕ) (y : Line) → slice_get lines i ≡ Some y → slice_get (lines ++ x ∷ []) i ≡ Some y
get_more [] x i y there = none_some y there
get_more (z ∷ lines) x zero y there = there
get_more (z ∷ lines) x (suc i) y there = get_more lines x i y there

get_last : (lines : List Line) (x : Line) → slice_get (lines ++ x ∷ []) (length lines) ≡ Some x
get_last [] x = refl
get_last (z ∷ lines) x = get_last lines x

placed_more : (m n : ℕ) (lines : List Line) (x : Line) (printed : List Printed) → m ≤ n → StandAtTickets m lines printed → StandAtTickets n (lines ++ x ∷ []) printed
placed_more m n lines x [] up placed = tt
placed_more m n lines x (p ∷ printed) up placed =
    let low = placed.0 in
    (omega (arith, low, up), get_more lines x p.ticket p.line placed.1, placed_more p.ticket p.ticket lines x printed (omega arith) placed.2)

placed_low : (n i : ℕ) (lines : List Line) (printed : List Printed) → StandAtTickets n lines printed → HasTicket i printed → i < n
placed_low n i lines [] placed has = absurd has
placed_low n i lines (p ∷ printed) placed (inl is) = let low = placed.0 in omega (arith, low, is)
placed_low n i lines (p ∷ printed) placed (inr later) =
    let low = placed.0 in let rest = placed_low p.ticket i lines printed placed.2 later in omega (arith, low, rest)

-- ---- steps

abbrev PrintsNone : Step → Type 0
PrintsNone Ticket = ⊥
PrintsNone step = Unit {0}

count_stays : (step : Step) (w : Words) → PrintsNone step → words_after step w (Control 3) ≡ w (Control 3)
count_stays (LoadThread which) w none = refl
count_stays Ticket w none = absurd none
count_stays step w none = stays_at (effect_of step) w (place_of step) (Control 3) refl

lines_stay : (step : Step) (next : Next) (lines : List Line) → PrintsNone step → lines_by step next lines ≡ lines
lines_stay Ticket next lines none = absurd none
lines_stay step next lines none = refl

quiet_prints_none : (step : Step) → IsQuiet step → PrintsNone step
quiet_prints_none Ticket is = is
quiet_prints_none (EndThread n) is = tt
quiet_prints_none step is = tt

beside_prints_none : (step : Step) → is_beside step ≡ true → PrintsNone step
beside_prints_none LoadStop is = tt
beside_prints_none SetStop is = tt
beside_prints_none (LookMonitor r) is = tt
beside_prints_none (LookSection s) is = tt
beside_prints_none (BreakLevel s old level) is = tt
beside_prints_none step is = cc

-- the same of parts of a core
record Have {S : Type 0} (w : Words) (threads : Threads S) (lines : List Line) : Type 0 where
  count : w (Control 3) ≡ length lines
  placed : (t : ℕ) (th : ThreadState S) → threads t ≡ Some th → StandAtTickets (length lines) lines th.lines
  all : (i : ℕ) → i < length lines → (t : ℕ) × (th : ThreadState S) × (threads t ≡ Some th) × HasTicket i th.lines
  one : (i t u : ℕ) (th uh : ThreadState S) → threads t ≡ Some th → threads u ≡ Some uh → HasTicket i th.lines → HasTicket i uh.lines → t ≡ u

module _ {S : Type 0} (w : Words) (threads : Threads S) (lines : List Line) (have : Have w threads lines) (t : ℕ) (th y : ThreadState S) (stands : threads t ≡ Some th) where
  abbrev now : Threads S
  now = set_at threads t (Some y)

  -- who has a ticket still
  still : (i : ℕ) → ((u : ℕ) (uh : ThreadState S) → threads u ≡ Some uh → HasTicket i uh.lines → u ≡ t → HasTicket i y.lines)
      → (u : ℕ) (uh : ThreadState S) → threads u ≡ Some uh → HasTicket i uh.lines → (v : ℕ) × (vh : ThreadState S) × (now v ≡ Some vh) × HasTicket i vh.lines
  still i own u uh there has = elim (same_or_other u t) [
    | inl same ↦ (t, y, set_at-hit threads t (Some y), own u uh there has same)
    | inr other ↦ (u, uh, set_at-other threads t (Some y) u other ∙ there, has)
  ]

  -- the thread has printed no more
  same_have : y.lines ≡ th.lines → (v : Words) → v (Control 3) ≡ w (Control 3) → Have v now lines
  same_have same v count = record {
    count = count ∙ have.count;
    placed = λ u. each (λ (uh : ThreadState S). StandAtTickets (length lines) lines uh.lines) threads t y u (λ own. subst (StandAtTickets (length lines) lines) (sym same) (have.placed t th stands))
        (λ uh other there. have.placed u uh there);
    all = λ i low. let was = have.all i low in still i (λ u uh there has own. subst (HasTicket i) (sym same) (own_has i u uh there has own)) was.0 was.1 was.2 was.3;
    one = λ i u v uh vh there at_v has also.
        let a = was_there i u uh there has in let b = was_there i v vh at_v also in
        have.one i u v a.0 b.0 a.1 b.1 a.2 b.2;
  }
    where
      own_has : (i u : ℕ) (uh : ThreadState S) → threads u ≡ Some uh → HasTicket i uh.lines → u ≡ t → HasTicket i th.lines
      own_has i u uh there has own = subst (λ (z : ThreadState S). HasTicket i z.lines) (same_Some uh th (sym there ∙ ap threads own ∙ stands)) has

      was_there : (i u : ℕ) (uh : ThreadState S) → now u ≡ Some uh → HasTicket i uh.lines → (z : ThreadState S) × (threads u ≡ Some z) × HasTicket i z.lines
      was_there i u = each (λ (uh : ThreadState S). HasTicket i uh.lines → (z : ThreadState S) × (threads u ≡ Some z) × HasTicket i z.lines) threads t y u
          (λ own has. (th, ap threads own ∙ stands, subst (HasTicket i) same has)) (λ uh other there has. (uh, there, has))

  -- it has printed one line more
  more_have : (x : Line) → y.lines ≡ record { ticket = length lines; line = x } ∷ th.lines → (v : Words) → v (Control 3) ≡ w (Control 3) + 1 → Have v now (lines ++ x ∷ [])
  more_have x is v count = record {
    count = (let was = have.count in let size = length_push lines x in omega (arith, count, was, size));
    placed = λ u. each (λ (uh : ThreadState S). StandAtTickets (length (lines ++ x ∷ [])) (lines ++ x ∷ []) uh.lines) threads t y u
        (λ own. subst (StandAtTickets (length (lines ++ x ∷ [])) (lines ++ x ∷ [])) (sym is)
        (up (length lines) (omega arith), get_last lines x, placed_more (length lines) (length lines) lines x th.lines (omega arith) (have.placed t th stands)))
        (λ uh other there. placed_more (length lines) (length (lines ++ x ∷ [])) lines x uh.lines (let size = length_push lines x in omega (arith, size)) (have.placed u uh there));
    all = λ i low. elim (leb_tells (length lines) i) [
      | inl high ↦ (t, y, set_at-hit threads t (Some y), subst (HasTicket i) (sym is) (inl (let size = length_push lines x in let top = high.1 in omega (arith, size, top, low))))
      | inr less ↦ let was = have.all i less.1 in still i (λ u uh there has own. subst (HasTicket i) (sym is) (inr (own_has i u uh there has own))) was.0 was.1 was.2 was.3
    ];
    one = λ i u v uh vh there at_v has also. both i u v (was_there i u uh there has) (was_there i v vh at_v also);
  }
    where
      up : (n : ℕ) → n < length lines + 1 → n < length (lines ++ x ∷ [])
      up n low = let size = length_push lines x in omega (arith, low, size)

      own_has : (i u : ℕ) (uh : ThreadState S) → threads u ≡ Some uh → HasTicket i uh.lines → u ≡ t → HasTicket i th.lines
      own_has i u uh there has own = subst (λ (z : ThreadState S). HasTicket i z.lines) (same_Some uh th (sym there ∙ ap threads own ∙ stands)) has

      Was : ℕ → ℕ → Type 0
      Was i u = ((u ≡ t) × (i ≡ length lines)) ⊎ ((z : ThreadState S) × (threads u ≡ Some z) × HasTicket i z.lines)

      was_there : (i u : ℕ) (uh : ThreadState S) → now u ≡ Some uh → HasTicket i uh.lines → Was i u
      was_there i u = each (λ (uh : ThreadState S). HasTicket i uh.lines → Was i u) threads t y u
          (λ own has. by_ticket own (subst (HasTicket i) is has)) (λ uh other there has. inr (uh, there, has))
        where
          by_ticket : u ≡ t → HasTicket i (record { ticket = length lines; line = x } ∷ th.lines) → Was i u
          by_ticket own (inl ticket) = inl (own, sym ticket)
          by_ticket own (inr later) = inr (th, ap threads own ∙ stands, later)

      low_of : (i u : ℕ) (z : ThreadState S) → threads u ≡ Some z → HasTicket i z.lines → i < length lines
      low_of i u z there has = placed_low (length lines) i lines z.lines (have.placed u z there) has

      not_new : {A : Type 0} (i n : ℕ) → i ≡ n → i < n → A
      not_new i n is low = absurd (no i n is low)
        where
          no : (i n : ℕ) → i ≡ n → i < n → ⊥
          no i n is low = omega (arith, is, low)

      both : (i u v : ℕ) → Was i u → Was i v → u ≡ v
      both i u v (inl (own, new)) (inl (also, new_too)) = own ∙ sym also
      both i u v (inl (own, new)) (inr (z, there, has)) = not_new i (length lines) new (low_of i v z there has)
      both i u v (inr (z, there, has)) (inl (own, new)) = not_new i (length lines) new (low_of i u z there has)
      both i u v (inr (z, there, has)) (inr (x, at_x, also)) = have.one i u v z x there at_x has also

-- a thread that begins has printed nothing
begun_have : {S : Type 0} (w : Words) (threads : Threads S) (lines : List Line) (n : ℕ) (y : ThreadState S) → Have w threads lines → threads n ≡ None → y.lines ≡ []
    → Have w (set_at threads n (Some y)) lines
begun_have {S} w threads lines n y have none new = record {
  count = have.count;
  placed = λ u. each (λ (uh : ThreadState S). StandAtTickets (length lines) lines uh.lines) threads n y u (λ own. subst (StandAtTickets (length lines) lines) (sym new) tt) (λ uh other there. have.placed u uh there);
  all = λ i low. let was = have.all i low in (was.0, was.1, set_at-other threads n (Some y) was.0 (λ same. none_some was.1 (sym none ∙ ap threads (sym same) ∙ was.2)) ∙ was.2, was.3);
  one = λ i u v uh vh there at_v has also.
      let a = was_there i u uh there has in let b = was_there i v vh at_v also in
      have.one i u v a.0 b.0 a.1 b.1 a.2 b.2;
}
  where
    was_there : (i u : ℕ) (uh : ThreadState S) → set_at threads n (Some y) u ≡ Some uh → HasTicket i uh.lines → (z : ThreadState S) × (threads u ≡ Some z) × HasTicket i z.lines
    was_there i u = each (λ (uh : ThreadState S). HasTicket i uh.lines → (z : ThreadState S) × (threads u ≡ Some z) × HasTicket i z.lines) threads n y u
        (λ own has. absurd (subst (HasTicket i) new has)) (λ uh other there has. (uh, there, has))

-- ---- along a run

module _ {S : Type 0} (code : Code S) (b : Bounds) (c : ℕ → Core S) (acts : List Act) (run : IsRun code b c acts) (numbered : AreNumbered (c 0)) where
  abbrev HaveAt : ℕ → Type 0
  HaveAt k = Have (c k).words (c k).threads (c k).lines

  module _ (k t : ℕ) (step : Step) (a : StepAnswer) (here : slice_get acts k ≡ Some (did t step a)) (at : DidAt code b c k t step a) (before : HaveAt k) where
    up : k ≤ length acts
    up = let within = slice_get_within acts k (did t step a) here in omega (arith, within)

    abbrev y : ThreadState S
    y = after_answer code b at.from step a

    abbrev then_lines : List Line
    then_lines = lines_by step (code.next at.from.local) (c k).lines

    abbrev Then : Type 0
    Then = Have (words_after step (c k).words) (set_at (c k).threads t (Some y)) then_lines

    quiet_then : PrintsNone step → y.lines ≡ at.from.lines → Then
    quiet_then none same = subst (Have (words_after step (c k).words) (set_at (c k).threads t (Some y))) (sym (lines_stay step (code.next at.from.local) (c k).lines none))
        (same_have (c k).words (c k).threads (c k).lines before t at.from y at.stands same (words_after step (c k).words) (count_stays step (c k).words none))

    step_have : Then
    step_have = elim (seen_steps code b at.from (c k).words step a ((facts_at code b c acts run k up).fit t at.from at.stands).attempt at.move at.answered) [
      | stays calm same ↦ quiet_then (quiet_prints_none step calm) (ap (λ v. v.lines) same)
      | ends_thread is same ↦ quiet_then (subst PrintsNone (sym is) tt) (ap (λ v. v.lines) same)
      | prints_line n x is found wants same ↦
          let ticket : n ≡ length (c k).lines = found_is n ((c k).words (Control 3)) (sym found ∙ at.answered ∙ ap (answer_of (c k).words) is) ∙ before.count in
          let lines : then_lines ≡ (c k).lines ++ x ∷ [] = ap (λ m. lines_by m (code.next at.from.local) (c k).lines) is ∙ ap (λ next. lines_by Ticket next (c k).lines) wants in
          subst (Have (words_after step (c k).words) (set_at (c k).threads t (Some y))) (sym lines)
          (more_have (c k).words (c k).threads (c k).lines before t at.from y at.stands x (ap (λ v. v.lines) same ∙ ap (λ m. record { ticket = m; line = x } ∷ at.from.lines) ticket)
          (words_after step (c k).words) (ap (λ m. words_after m (c k).words (Control 3)) is))
    ]

    handed : (m : Step) → step ≡ m → Have (words_after step (c k).words) (threads_by code m at.from.local (set_at (c k).threads t (Some y))) then_lines
    handed (Split n r p) is =
        let none : (c k).threads n ≡ None = threads_are_new code b c acts run numbered k t n r p a (here ∙ ap (λ m. Some (did t m a)) is) in
        begun_have (words_after step (c k).words) (set_at (c k).threads t (Some y)) then_lines n (first_state n p (code.child at.from.local r)) step_have
        (set_at-other (c k).threads t (Some y) n (λ same. none_some at.from (sym none ∙ ap (c k).threads same ∙ at.stands)) ∙ none) refl
    handed m is = step_have

    next_have : HaveAt (suc k)
    next_have = subst (λ (z : Core S). Have z.words z.threads z.lines) (sym at.leads) (handed step refl)

  act_have : (k : ℕ) (act : Act) → slice_get acts k ≡ Some act → ActAt code b c k act → HaveAt k → HaveAt (suc k)
  act_have k (quiet t) here at before = subst (λ (z : Core S). Have z.words z.threads z.lines) (sym at.leads)
      (same_have (c k).words (c k).threads (c k).lines before t at.from (after_quiet at.from at.local) at.stands refl (c k).words refl)
  act_have k (did t step a) here at before = next_have k t step a here at before
  act_have k (beside t step a) here at before = subst (λ (z : Core S). Have z.words z.threads z.lines) (sym at.leads) (record {
    count = count_stays step (c k).words (beside_prints_none step at.is) ∙ before.count;
    placed = before.placed;
    all = before.all;
    one = before.one;
  })

  first_have : (c 0).words (Control 3) ≡ 0 → (c 0).lines ≡ [] → HaveAt 0
  first_have count none = record {
    count = count ∙ ap length (sym none);
    placed = λ t th there. subst (StandAtTickets (length (c 0).lines) (c 0).lines) (sym (no_lines t th there)) tt;
    all = λ i low. absurd (too_low i (subst (λ lines. i < length lines) none low));
    one = λ i t u th uh there at_u has also. absurd (subst (HasTicket i) (no_lines t th there) has);
  }
    where
      no_lines : (t : ℕ) (th : ThreadState S) → (c 0).threads t ≡ Some th → th.lines ≡ []
      no_lines t th there = ap (λ (z : ThreadState S). z.lines) (run.begins.threads t th there).3

      too_low : (i : ℕ) → i < 0 → ⊥
      too_low i low = omega (arith, low)

pub tickets_are_lines : {S : Type 0} (code : Code S) → TicketsAreLines code
tickets_are_lines code b c acts run numbered count none k within =
    let have = along code b c acts run.leads (HaveAt code b c acts run numbered) (first_have code b c acts run numbered count none)
    (λ n act here at before. act_have code b c acts run numbered n act here at before) k within in
    record { count = have.count; placed = have.placed; all = have.all; one = have.one }
