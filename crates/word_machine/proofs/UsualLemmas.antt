-- Usual turns at a place are those of the thread that is there.
use Rattle.std.proofs.Common.{◌≡◌, ℕ, Option, None, Some, refl, sym, ◌∙◌, ap, subst}
use Rattle.std.specs.Option.{option_map}
use Rattle.op_core.specs.ThreadCode.{Code}
use Rattle.plain_words.specs.declared.plain.PlainWords.{PlainWords}
use Rattle.plain_words.specs.Table.{words_in, Stepped}
use Rattle.thread_automaton.specs.declared.Bounds.{Bounds}
use Rattle.thread_automaton.specs.ThreadState.{ThreadState}
use Rattle.thread_moves.specs.declared.thread.JThread.{JThread}
use Rattle.quick_turns.specs.Usual.{UsualTurns}
use Rattle.word_machine.specs.Turns.{KeepsBounds}
use Rattle.word_machine.specs.Usual.{UsualAt, MakesUsual}
use Rattle.word_machine.proofs.SeatLemmas.{some_same}

module _ {C S : Type 0} (code : Code S) (meant : JThread C → ThreadState S) (b : Bounds) (n : ℕ) (words new : PlainWords) where
  pub usual_keeps : (old next : Option (JThread C)) → UsualAt code meant words old n new next → KeepsBounds old next
  usual_keeps None next (none, same, is) = λ y here. absurd (cc)
  usual_keeps (Some x) next (z, is, same, usual) = λ y here. (x, refl, ap (λ (k : JThread C). k.own.bounds) (some_same y z (sym here ∙ is)) ∙ same)

  pub usual_made : (old next : Option (JThread C)) → ((x : JThread C) → old ≡ Some x → x.own.bounds ≡ b) → UsualAt code meant words old n new next
      → MakesUsual code b n words (option_map meant old) new (option_map meant next)
  usual_made None next bound (none, same, is) = (none, same, ap (option_map meant) is)
  usual_made (Some x) next bound (z, is, same, usual) = (
    meant z,
    ap (option_map meant) is,
    x.own.last_kind,
    z.own.last_kind,
    subst (λ k. UsualTurns code k Stepped words_in (meant x) words x.own.last_kind n (meant z) new z.own.last_kind) (bound x refl) usual,
  )
