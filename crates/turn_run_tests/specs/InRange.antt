-- Toy steps that stay in range.
use Rattle.std.specs.Prelude.{◌^◌, Bool, true, nat_lt}
use Rattle.op_core.specs.declared.Op.TheVariants.{Read, Write, New}
use Rattle.thread_automaton.specs.NextMove.{word_place}
use Rattle.toy_code.specs.declared.script.ToyStep.{ToyStep}
use Rattle.toy_code.specs.declared.script.ToyStep.TheVariants.{Do}

-- what the step wants is in range
abbrev pub is_in_range : ToyStep → Bool
is_in_range (Do (Read r i)) = nat_lt (word_place r i) (2 ^ 32)
is_in_range (Do (Write r i v)) = nat_lt (word_place r i) (2 ^ 32)
is_in_range (Do (New c n)) = nat_lt n (2 ^ 32)
is_in_range step = true
