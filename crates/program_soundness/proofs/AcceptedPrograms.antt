-- All that is asked of an accepted program.
use Rattle.std.proofs.Common.{ℕ, List}
use Rattle.code_decode.specs.declared.code.ClassUnit.{ClassUnit}
use Rattle.builtin_facts.specs.Facts.{HasCharArrays}
use Rattle.builtin_facts.proofs.CharArrays.{char_arrays}
use Rattle.builtin_facts.proofs.NativeLaws.{numbers, runs as run_facts}
use Rattle.builtin_facts.proofs.ThrowableLaws.{fit as natives_fit}
use Rattle.number_facts.proofs.NumberLaws.{fit as numbers_fit}
use Rattle.row_soundness.specs.Accepted.{Accepted}
use Rattle.program_soundness.specs.SoundPrograms.{IsSound}
use Rattle.program_soundness.proofs.ChosenMethods as chosen
use Rattle.program_soundness.proofs.ClassNumbers.{numbers_are, classes_are}
use Rattle.program_soundness.proofs.InstructionOperands as instructions
use Rattle.program_soundness.proofs.LiteralUnits.{literals_are_words}
use Rattle.program_soundness.proofs.Methods.{safe, inside, files}

pub accepted : (us : List ClassUnit) (order : List ℕ) → IsSound us order → Accepted us
accepted us order sound = record {
  safe = safe us sound.verified;
  inside = inside us sound.units;
  files = files us;
  built_in = numbers us;
  numbers = numbers_fit;
  pushed = instructions.pushed us sound.units sound.linked.rules;
  pushed_longs = instructions.pushed_longs us sound.units sound.linked.rules;
  constants = instructions.constants_are us sound.units sound.linked.rules;
  long_constants = instructions.long_constants us sound.units sound.linked.rules;
  fields = instructions.fields_are us sound.units sound.linked.rules;
  inherits = chosen.inherits us sound.units order sound.linked;
  classes = classes_are us;
  bodies = chosen.bodies_are us sound.units sound.linked.rules;
  calls = instructions.calls_are us sound.units sound.linked.rules;
  interface_calls = instructions.interface_calls_are us sound.units sound.linked.rules;
  statics = chosen.statics us sound.units;
  specials = chosen.specials us sound.units order sound.linked;
  owners = chosen.owners us sound.units order sound.linked;
  selects = chosen.selects us sound.units;
  finals = chosen.finals us sound.units;
  primitive_arrays = instructions.primitive_arrays us sound.units sound.linked.rules;
  arrays_of = instructions.arrays_of us sound.units sound.linked.rules;
  char_arrays = let facts : HasCharArrays us = char_arrays us in (facts.number, facts.named, facts.array, facts.class, facts.type);
  literals = literals_are_words us;
  initializers = chosen.initializers_are us sound.units sound.linked.rules;
  class_uses = instructions.class_uses us sound.units sound.linked.rules;
  numbers_are = numbers_are us;
  made = instructions.made us sound.units sound.linked.rules;
  made_classes = instructions.made_classes us sound.units sound.linked.rules;
  constructors = chosen.constructors us sound.units;
  constructs = chosen.constructs us sound.units;
  constructor_methods = chosen.constructor_methods us sound.units;
  natives = natives_fit us order sound.linked;
  native_constructors = chosen.native_constructors us sound.units;
  runs = chosen.runs us sound.units;
  run_takes = (run_facts us).thread;
  target_runs = chosen.target_runs us sound.units;
  target_takes = (run_facts us).target;
  target_void = (run_facts us).void;
}
