use Rattle.class_texts.specs.Texts.{ProgramTexts}
use Rattle.link_implementations.specs.Tested.{AreTested}
use Rattle.link_implementations.proofs.memo.no_tests.Given as goal

abbrev pub invariant-loop : goal.invariant-loop
invariant-loop l = (p : ProgramTexts) → AreTested p l.tested.items
