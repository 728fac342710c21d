-- Silent steps of the code, one after another, are as many silent turns of its thread.
use Rattle.std.proofs.Common.{◌≡◌, ℕ, zero, suc, ◌+◌, ◌<◌, ◌≤◌, ◌&&◌, Bool, true, false, Option, None, Some, List, refl, sym, ◌∙◌, ap, subst, arith}
use Rattle.std.specs.Prelude.{nat_le, if◌then◌else◌}
use Rattle.std.specs.Option.{option_and_then}
use Rattle.std.proofs.lemmas.Grind.{common_steps}
use Rattle.std.proofs.lemmas.Bool.Decides.{nat_tests}
use Rattle.op_core.specs.declared.Limit.TheVariants.{Turns}
use Rattle.op_core.specs.declared.Next.{Next}
use Rattle.op_core.specs.declared.Next.TheVariants.{Silent, Want, Ended}
use Rattle.op_core.specs.ThreadCode.{Code, leaves_any, quiet_to, quiet_step, quiet_steps, LeavesNoSave}
use Rattle.step_port.specs.declared.step.Step.TheVariants.{LoadSection}
use Rattle.thread_automaton.specs.declared.Attempt.{Attempt}
use Rattle.thread_automaton.specs.declared.Attempt.TheVariants.{Begin, Checked}
use Rattle.thread_automaton.specs.declared.Bounds.{Bounds}
use Rattle.thread_automaton.specs.declared.Move.TheVariants.{Over, Quiet, Stop, Make}
use Rattle.thread_automaton.specs.ThreadState.{ThreadState, is_open}
use Rattle.thread_automaton.specs.NextMove.{own_pin, move_of, next_move}
use Rattle.thread_automaton.specs.Told.{after_quiet}
use Rattle.automaton_rows.specs.Fits.{IsFit}
use Rattle.thread_moves.specs.declared.thread.JThread.{JThread}
use Rattle.thread_moves.specs.Thread.{thread_of, without_opening, AreCounted}
use Rattle.rollback_core.specs.Quiet.{QuietTurns, StartsQuiet, MayBeQuiet, own_after}
use Rattle.rollback_core.proofs.CountLemmas.{quiet_within}
use Rattle.rollback_core.proofs.TurnLemmas.{silent_steps_keep}

-- ---- one turn

never_both : (t u : Bool) → u ≡ false → (t && u) ≡ false
never_both true u is = is
never_both false u is = refl

-- a silent step that leaves no save is the next move
quiet_by : {S : Type 0} (code : Code S) (th : ThreadState S) (attempt : Attempt) → StartsQuiet attempt → leaves_any code th.saved th.local ≡ false → move_of code th Silent attempt ≡ Quiet
quiet_by code th Begin starts stays = ap (λ t. if t then Make (LoadSection th.section) else Quiet) (never_both (is_open th) _ stays)
quiet_by code th Checked starts stays = ap (λ t. if t then Make (own_pin th) else Quiet) (never_both (is_open th) _ stays)
quiet_by code th attempt starts stays = absurd starts

quiet_next : {S : Type 0} (code : Code S) (b : Bounds) (th : ThreadState S) → th.over ≡ false → nat_le b.limits.turns th.counted ≡ false → StartsQuiet th.attempt
    → code.next th.local ≡ Silent → leaves_any code th.saved th.local ≡ false → next_move code b th ≡ Quiet
quiet_next code b th lives left starts silent stays =
    ap (λ over. if over then Over else if nat_le b.limits.turns th.counted then Stop Turns else move_of code th (code.next th.local) th.attempt) lives
    ∙ ap (λ full. if full then Stop Turns else move_of code th (code.next th.local) th.attempt) left
    ∙ ap (λ next. move_of code th next th.attempt) silent ∙ quiet_by code th th.attempt starts stays

-- a code that makes a silent step is silent
pub silent_by : {S : Type 0} (code : Code S) (to l : S) (next : Next) → quiet_to code to next ≡ Some l → next ≡ Silent
silent_by code to l Silent quiet = refl
silent_by code to l (Want op) quiet = absurd (cc)
silent_by code to l Ended quiet = absurd (cc)

not_full : (turns counted : ℕ) → counted < turns → nat_le turns counted ≡ false
not_full turns counted below = grind (arith, common_steps, nat_tests)

-- ---- n of them

-- the thread after n silent turns, the last of which led its code to l
abbrev pub after_turns : {S : Type 0} → ThreadState S → ℕ → S → ThreadState S
after_turns th zero l = record th { local = l }
after_turns th (suc n) l = record th { local = l; attempt = Begin; counted = th.counted + suc n; silents = th.silents + suc n }

and_then_some : {A : Type 0} (f : A → Option A) (x : Option A) (y : A) → option_and_then f x ≡ Some y → (m : A) × (x ≡ Some m) × (f m ≡ Some y)
and_then_some f None y is = absurd (cc)
and_then_some f (Some m) y is = (m, refl, is)

one_more : {S : Type 0} (th : ThreadState S) (n : ℕ) (m l : S) → after_turns th (suc n) l ≡ after_quiet (after_turns th n m) l
one_more th zero m l =
    let counted : th.counted + 1 ≡ suc th.counted = omega arith in
    let silents : th.silents + 1 ≡ suc th.silents = omega arith in
    λ i. record th { local = l; attempt = Begin; counted = counted i; silents = silents i }
one_more th (suc n) m l =
    let counted : th.counted + suc (suc n) ≡ suc (th.counted + suc n) = omega arith in
    let silents : th.silents + suc (suc n) ≡ suc (th.silents + suc n) = omega arith in
    λ i. record th { local = l; attempt = Begin; counted = counted i; silents = silents i }

module _ {S : Type 0} (code : Code S) (b : Bounds) (th : ThreadState S) (lives : th.over ≡ false) (starts : StartsQuiet th.attempt) where
  next_after : (n : ℕ) (m : S) → th.counted + n < b.limits.turns → code.next m ≡ Silent → leaves_any code th.saved m ≡ false → next_move code b (after_turns th n m) ≡ Quiet
  next_after zero m below silent stays = quiet_next code b (after_turns th zero m) lives (not_full b.limits.turns th.counted (omega (arith, below))) starts silent stays
  next_after (suc n) m below silent stays = quiet_next code b (after_turns th (suc n) m) lives (not_full b.limits.turns (th.counted + suc n) below) tt silent stays

  steps_turns : (n : ℕ) (l : S) → th.counted + n ≤ b.limits.turns → quiet_steps code n th.local ≡ Some l → LeavesNoSave code th.saved n th.local → QuietTurns code b n th (after_turns th n l)
  steps_turns zero l left steps stays = let same : th.local ≡ l = cc in ap (λ m. record th { local = m }) (sym same)
  steps_turns (suc n) l left steps stays =
      let (m, before, step) = and_then_some (quiet_step code) (quiet_steps code n th.local) l steps in (
        after_turns th n m,
        steps_turns n m (omega (arith, left)) before (λ k x below. stays k x (omega (arith, below))),
        record {
          moves = next_after n m (omega (arith, left)) (silent_by code (code.silent m) l (code.next m) step) (stays n m (omega arith) before);
          local = l;
          quiet = quiet_step_at n m step;
          goes = one_more th n m l;
        },
      )
    where
      quiet_step_at : (n : ℕ) (m : S) → quiet_step code m ≡ Some l → quiet_step code (after_turns th n m).local ≡ Some l
      quiet_step_at zero m step = step
      quiet_step_at (suc n) m step = step

-- ---- what they keep

module _ {S : Type 0} (code : Code S) (b : Bounds) (th : ThreadState S) where
  turns_keep : (P : ThreadState S → Type 0) → ((x : ThreadState S) (l : S) → P x → P (after_quiet x l)) → P th → (n : ℕ) (last : ThreadState S) → QuietTurns code b n th last → P last
  turns_keep P keeps has zero last turns = subst P (sym turns) has
  turns_keep P keeps has (suc n) last (before, turns, turn) = subst P (sym turn.goes) (keeps before turn.local (turns_keep P keeps has n before turns))

  pub turns_fit : IsFit code th → (n : ℕ) (last : ThreadState S) → QuietTurns code b n th last → IsFit code last
  turns_fit = turns_keep (IsFit code) (λ x l fits. silent_steps_keep code x l fits)

  pub turns_count : AreCounted th → (n : ℕ) (last : ThreadState S) → QuietTurns code b n th last → AreCounted last
  turns_count = turns_keep AreCounted quiet_within

-- ---- of a thread in memory

module _ {C S : Type 0} (state : C → S) (saved : C → List S) (code : Code S) (x : JThread C) (to : C) where
  abbrev moved : ℕ → JThread C
  moved n = record { code = to; own = own_after x.own n }

  moved_thread : (n : ℕ) → saved to ≡ saved x.code → thread_of state saved (moved n) ≡ after_turns (thread_of state saved x) n (state to)
  moved_thread zero same = ap (λ saves. record (thread_of state saved x) { local = state to; saved = without_opening x.own.opening saves }) same
  moved_thread (suc n) same = ap (λ saves. record (after_turns (thread_of state saved x) (suc n) (state to)) { saved = without_opening x.own.opening saves }) same

  turns_to : (n : ℕ) → x.own.opening ≡ None → (0 < n → MayBeQuiet x.own.bounds (thread_of state saved x) n) → quiet_steps code n (state x.code) ≡ Some (state to)
      → LeavesNoSave code (saved x.code) n (state x.code) → QuietTurns code x.own.bounds n (thread_of state saved x) (after_turns (thread_of state saved x) n (state to))
  turns_to zero settled may steps stays = let same : state x.code ≡ state to = cc in ap (λ m. record (thread_of state saved x) { local = m }) (sym same)
  turns_to (suc n) settled may steps stays =
      let can = may (omega arith) in
      steps_turns code x.own.bounds (thread_of state saved x) can.lives can.starts (suc n) (state to) can.left steps
      (subst (λ opening. LeavesNoSave code (without_opening opening (saved x.code)) (suc n) (state x.code)) (sym settled) stays)

  pub turns_made : (n : ℕ) (y : JThread C) → y ≡ moved n → x.own.opening ≡ None → (0 < n → MayBeQuiet x.own.bounds (thread_of state saved x) n) → quiet_steps code n (state x.code) ≡ Some (state to)
      → LeavesNoSave code (saved x.code) n (state x.code) → saved to ≡ saved x.code → QuietTurns code x.own.bounds n (thread_of state saved x) (thread_of state saved y)
  turns_made n y is settled may steps stays same =
      subst (QuietTurns code x.own.bounds n (thread_of state saved x)) (sym (ap (thread_of state saved) is ∙ moved_thread n same)) (turns_to n settled may steps stays)

-- as many turns as there is room for, or fewer
pub fewer_quiet : {S : Type 0} (b : Bounds) (th : ThreadState S) (n most : ℕ) → n ≤ most → (0 < most → MayBeQuiet b th most) → 0 < n → MayBeQuiet b th n
fewer_quiet b th n most fewer may some =
    let can = may (omega (arith, fewer, some)) in
    let left = can.left in
    record { lives = can.lives; starts = can.starts; left = omega (arith, left, fewer) }
