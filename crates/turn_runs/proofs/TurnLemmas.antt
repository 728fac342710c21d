-- Turns put end to end, and which turns pass by.
use Rattle.std.proofs.Common.{◌≡◌, ℕ, true, false, None, Some, List, [], ◌∷◌, ◌++◌, refl, sym, ◌∙◌, ap, subst}
use Rattle.std.proofs.lemmas.Bool.{true≢false}
use Rattle.op_core.specs.declared.Next.{Next}
use Rattle.op_core.specs.declared.Next.TheVariants.{Want, Ended}
use Rattle.op_core.specs.ThreadCode.{Code}
use Rattle.step_port.specs.declared.answer.StepAnswer.{StepAnswer}
use Rattle.step_port.specs.declared.step.Step.{Step}
use Rattle.thread_automaton.specs.declared.Bounds.{Bounds}
use Rattle.thread_automaton.specs.ThreadState.{ThreadState}
use Rattle.thread_automaton.specs.Told.{Told, probed, advanced, born, lost, blocked, after_answer, after_quiet}
use Rattle.thread_moves.specs.declared.thread.JThread.{JThread}
use Rattle.rollback_core.specs.declared.turned.Turn.{Turn}
use Rattle.rollback_core.specs.Turn.{SaysPlainly, Says}
use Rattle.turn_runs.specs.declared.looks.Looks.{Looks}
use Rattle.turn_runs.specs.Turns.{TurnMove, silent, made, Turns}
use Rattle.turn_runs.specs.Looks.{passes, passes_by}

-- ---- end to end

pub joined : {S P : Type 0} (code : Code S) (b : Bounds) (stepped : P → Step → StepAnswer → P → Type 0) (mid last : ThreadState S) (y z : P)
    (moves others : List TurnMove) (th : ThreadState S) (x : P)
    → Turns code b stepped th x moves mid y → Turns code b stepped mid y others last z → Turns code b stepped th x (moves ++ others) last z
joined code b stepped mid last y z [] others th x (same, port) further =
    subst (λ th. Turns code b stepped th x others last z) same (subst (λ x. Turns code b stepped mid x others last z) port further)
joined code b stepped mid last y z (silent ∷ moves) others th x (l, is, steps, turns) further =
    (l, is, steps, joined code b stepped mid last y z moves others (after_quiet th l) x turns further)
joined code b stepped mid last y z (made next step answer tells ∷ moves) others th x (port, wants, is, stepped_to, can, tells_is, turns) further =
    (port, wants, is, stepped_to, can, tells_is, joined code b stepped mid last y z moves others (after_answer code b th step answer) port turns further)

-- ---- what passes by

module _ {C Pass : Type 0} (looks : Looks) (k : ℕ) where
  -- what stops a call doesn't pass by
  pub stops : (r said : Turn C Pass) → r ≡ said → passes_by looks k said ≡ false → passes_by looks k r ≡ true → ⊥
  stops r said says stop pass = true≢false (sym pass ∙ ap (λ r. passes_by looks k r) says ∙ stop)

  plain_passes : (number silents : ℕ) (next : Next) (r : Turn C Pass) (tells : Told) → SaysPlainly number silents next r tells → passes_by looks k r ≡ true
      → passes looks k next tells ≡ true
  plain_passes number silents next r probed says pass = subst (λ r. passes_by looks k r ≡ true) says pass
  plain_passes number silents (Want op) r (advanced (Some reply)) says pass = subst (λ r. passes_by looks k r ≡ true) says pass
  plain_passes number silents (Want op) r (advanced None) says pass = subst (λ r. passes_by looks k r ≡ true) says pass
  plain_passes number silents Next.Silent r (advanced reply) says pass = subst (λ r. passes_by looks k r ≡ true) says pass
  plain_passes number silents Ended r (advanced reply) says pass = subst (λ r. passes_by looks k r ≡ true) says pass
  plain_passes number silents next r (lost v) says pass = absurd (stops r (Turn.Lost v) says refl pass)
  plain_passes number silents next r (blocked why) says pass = absurd (stops r (Turn.Blocked why) says refl pass)
  plain_passes number silents next r born says pass = absurd says

  -- where what a turn says passes by, so does what it reports
  pub says_passes : {S : Type 0} (meant : JThread C → ThreadState S) (code : Code S) (b : Bounds) (th : ThreadState S) (step : Step) (handed : Pass → Type 0) (r : Turn C Pass)
      (tells : Told) → Says meant code b th step handed r tells → passes_by looks k r ≡ true → passes looks k (code.next th.local) tells ≡ true
  says_passes meant code b th step handed r born says pass = absurd (stops r (Turn.Born says.child says.pass) says.says refl pass)
  says_passes meant code b th step handed r probed says pass = plain_passes th.number th.silents (code.next th.local) r probed says pass
  says_passes meant code b th step handed r (advanced reply) says pass = plain_passes th.number th.silents (code.next th.local) r (advanced reply) says pass
  says_passes meant code b th step handed r (lost v) says pass = plain_passes th.number th.silents (code.next th.local) r (lost v) says pass
  says_passes meant code b th step handed r (blocked why) says pass = plain_passes th.number th.silents (code.next th.local) r (blocked why) says pass
