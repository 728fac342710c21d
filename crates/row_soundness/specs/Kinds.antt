-- What is known of the code of a thread alone: nothing, whatever fitting reply comes.
use Rattle.std.specs.Prelude.{◌≡◌, true, List}
use Rattle.code_decode.specs.declared.code.ClassUnit.{ClassUnit}
use Rattle.op_core.specs.declared.Op.{Op}
use Rattle.op_core.specs.declared.Op.TheVariants.{New, Init, InitDone}
use Rattle.op_core.specs.Replies.{Fits}
use Rattle.java_rows.specs.Program.{is_of_file}
use Rattle.java_rows.specs.Thread.{Local}
use Rattle.row_soundness.specs.Senses.{Sense, PlainSteps}
use Rattle.row_soundness.specs.Fits.{Preceding, LocalFits}
use Rattle.row_soundness.specs.Knowledge.{CanBeMade}

abbrev pub KindsWant : List ClassUnit → Op → Type 0
KindsWant us (New c n) = CanBeMade us c n
KindsWant us (Init c) = is_of_file us c ≡ true
KindsWant us (InitDone c ok) = is_of_file us c ≡ true
KindsWant us _ = Unit {0}

abbrev pub kinds : List ClassUnit → Sense (Unit {0})
kinds us = record {
  extends = λ h h'. Unit {0};
  exact = ⊥;
  is_priority = λ p. Unit {0};
  is_there = λ h r. Unit {0};
  is_raw = λ h r t. Unit {0};
  is_of = λ h r t. Unit {0};
  is_exactly = λ h r c n. Unit {0};
  is_thrown = λ h r c. Unit {0};
  has_word = λ h r i k. Unit {0};
  is_text = λ h r. Unit {0};
  may_want = λ h op. KindsWant us op;
  may_come = λ h op reply. Fits op reply;
  steps = PlainSteps (λ h h'. Unit {0}) (λ h op. KindsWant us op) (λ h op reply. Fits op reply);
}

abbrev pub KindsLocal : List ClassUnit → Preceding → Local → Type 0
KindsLocal us b l = LocalFits (kinds us) us b tt l
