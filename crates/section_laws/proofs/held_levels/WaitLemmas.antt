-- Where the step that records a wait is made.
use Rattle.std.proofs.Common.{◌≡◌, ℕ, ◌<◌, ◌≤◌, true, false, List, [], ◌∷◌, nat_eq, sym, subst, arith}
use Rattle.std.specs.Prelude.{nat_lt}
use Rattle.std.proofs.lemmas.Grind.{common_steps}
use Rattle.std.proofs.lemmas.Bool.Decides.{nat_tests}
use Rattle.op_core.specs.declared.Op.TheVariants.{Wait, End}
use Rattle.op_core.specs.declared.Next.{Next}
use Rattle.op_core.specs.declared.Next.TheVariants.{Want}
use Rattle.op_core.specs.declared.Reply.{Reply}
use Rattle.op_core.specs.ThreadCode.{Code}
use Rattle.section_state.specs.SectionWord.{revoke_of}
use Rattle.write_log.specs.declared.Noted.{Noted}
use Rattle.step_port.specs.declared.step.Step.{Step}
use Rattle.step_port.specs.declared.step.Step.TheVariants.{LoadSection, LoadMonitor, Release, SetWait}
use Rattle.thread_automaton.specs.declared.Held.{Held}
use Rattle.thread_automaton.specs.declared.Move.{Move}
use Rattle.thread_automaton.specs.declared.Move.TheVariants.{Make}
use Rattle.thread_automaton.specs.declared.Attempt.{Attempt}
use Rattle.thread_automaton.specs.declared.Attempt.TheVariants.{Begin, Look, Checked, Fixed, Meets, Undoing, Full}
use Rattle.thread_automaton.specs.ThreadState.{ThreadState, is_open, mark_of, noted_since, from_level}
use Rattle.thread_automaton.specs.NextMove.{deepened_since, undo_step, move_of}
use Rattle.automaton_rows.proofs.RowLemmas.{by_if}

-- ---- tests

pub above : (n : ℕ) → nat_lt 0 n ≡ true → 0 < n
above n is = grind (arith, common_steps, nat_tests)

pub not_zero : (n : ℕ) → nat_eq n 0 ≡ false → 0 < n
not_zero n is = grind (arith, common_steps, nat_tests)

pub at_most : (m n : ℕ) → nat_lt m n ≡ false → n ≤ m
at_most m n is = grind (arith, common_steps, nat_tests)

pub same_size : (n : ℕ) → n ≤ n
same_size n = omega arith

-- ---- what is so of a thread

-- the last steps of a wait, in which its section is open
abbrev pub IsWaitStep : Attempt → Next → Type 0
IsWaitStep (Fixed (SetWait n w)) next = Unit {0}
IsWaitStep (Fixed (Release q)) (Want (Wait r)) = Unit {0}
IsWaitStep attempt next = ⊥

-- a reply that ends the thread's operation, and with it a wait or the thread
abbrev pub IsLastReply : Reply → Next → Type 0
IsLastReply Reply.Done (Want (Wait r)) = Unit {0}
IsLastReply Reply.Done (Want (End x)) = Unit {0}
IsLastReply reply next = ⊥

abbrev IsSetWait : Move → Type 0
IsSetWait (Make (SetWait n w)) = Unit {0}
IsSetWait move = ⊥

abbrev step_in : Move → Step
step_in (Make step) = step
step_in move = Step.DrawSection

undo_waits_none : (s w : ℕ) (log : List Noted) (deepened taken : List Held) → IsSetWait (Make (undo_step s w log deepened taken)) → ⊥
undo_waits_none s w (x ∷ log) deepened taken is = is
undo_waits_none s w [] (h ∷ deepened) taken is = is
undo_waits_none s w [] [] (h ∷ taken) is = is
undo_waits_none s w [] [] [] is = is

-- a thread records a wait where that step was fixed
pub set_wait : {S : Type 0} (code : Code S) (th : ThreadState S) (q w n : ℕ) (g : Attempt) → move_of code th (Want (Wait q)) g ≡ Make (SetWait n w) → IsWaitStep g (Want (Wait q))
set_wait code th q w n g makes = by_kind g makes
  where
    wait_of : {move : Move} → move ≡ Make (SetWait n w) → IsSetWait move
    wait_of is = subst IsSetWait (sym is) tt

    by_kind : (g : Attempt) → move_of code th (Want (Wait q)) g ≡ Make (SetWait n w) → IsWaitStep g (Want (Wait q))
    by_kind (Fixed step) is = subst (λ move. IsWaitStep (Fixed (step_in move)) (Want (Wait q))) (sym is) tt
    by_kind (Meets s level) is = wait_of is
    by_kind (Undoing x) is = undo_waits_none th.section x (noted_since (mark_of th (revoke_of x)).noted th.log) (deepened_since (mark_of th (revoke_of x)) th.held)
        (from_level (revoke_of x) th.held) (wait_of is)
    by_kind (Full limit) is = wait_of is
    by_kind Look is = wait_of is
    by_kind Begin is = by_if (λ move. move ≡ Make (SetWait n w) → ⊥) (is_open th) (Make (LoadSection th.section)) (Make (LoadMonitor q)) (λ yes same. wait_of same) (λ no same. wait_of same) is
    by_kind Checked is = wait_of is
