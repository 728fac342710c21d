use Rattle.code_decode.proofs.UnitLaws.{AreCodesTo}
use Rattle.code_decode.proofs.unit.codes.Given as goal

abbrev pub invariant-loop-method : goal.invariant-loop-method
invariant-loop-method l = AreCodesTo l.file l.method l.codes
