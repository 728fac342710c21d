-- The code of a method that was accepted.
use Rattle.std.proofs.Common.{◌≡◌, ℕ, List, sym, subst}
use Rattle.std.specs.Prelude.{Option, Some, slice_get}
use Rattle.class_walk.specs.declared.class.Constant.{Constant}
use Rattle.class_read.specs.declared.class_file.ClassFile.{ClassFile}
use Rattle.class_read.specs.declared.class_file.CodeAttribute.{CodeAttribute}
use Rattle.code_frames.specs.StackMap.{IsStackMap}
use Rattle.code_decode.specs.declared.code.Code.{Code}
use Rattle.code_decode.specs.Code.{IsCode}
use Rattle.code_decode.specs.Method.{StandsForFile, IsCodeOf}
use Rattle.code_decode.specs.Unit.{AreCodes}
use Rattle.code_laws.specs.Accepted.{IsAcceptedCode}
use Rattle.code_laws.specs.Code.{IsRightCode}
use Rattle.code_laws.proofs.FileLaws.{uses}
use Rattle.code_laws.proofs.FrameLaws.{stands_at, right_stack, right_locals}
use Rattle.code_laws.proofs.HandlerLaws.{handlers_inside}
use Rattle.code_laws.proofs.StepLaws.{begins, few, leads, operands, stands}

pub right_code : (pool : List Constant) (entry : ℕ) (a : CodeAttribute) (code : Code) → IsCode pool entry a code → IsRightCode pool entry code
right_code pool entry a code is = record {
  begins = begins pool a.bytes code.steps is.steps;
  few = few pool a.bytes code.steps is.steps;
  numbers = λ k i there. (stands pool a.bytes code.steps is.steps k i there).numbered;
  order = λ k i there. (stands pool a.bytes code.steps is.steps k i there).next;
  names = λ k i there. (operands pool a.bytes code.steps is.steps k i there).names;
  targets = leads pool a.bytes code.steps is.steps;
  handlers = handlers_inside pool a.bytes code.steps a.handlers code.handlers is.steps is.handlers;
  frames = stands_at pool code.steps entry a.maps code.frames is.frames;
  stacks = right_stack pool code.steps entry a.maps code.frames is.frames;
  locals = λ types same. right_locals pool code.steps types a.maps code.frames (subst (λ (n : ℕ). IsStackMap pool code.steps n a.maps code.frames) (sym same) is.frames);
}

pub accepted : (file : ClassFile) (method : ℕ) (code : Code) → StandsForFile file → IsCodeOf file method code → IsAcceptedCode file method code
accepted file method code stands_for (m, a, there, (entry, count, is)) = record {
  member = m;
  there = there.0;
  entry = entry;
  count = count;
  right = right_code file.pool entry a code is;
  uses = uses file stands_for a.bytes code.steps is.steps;
}

pub all_accepted : (file : ClassFile) (codes : List (Option Code)) → StandsForFile file → AreCodes file codes
    → (method : ℕ) (code : Code) → slice_get codes method ≡ Some (Some code) → IsAcceptedCode file method code
all_accepted file codes stands_for are method code there = accepted file method code stands_for (are.each method (Some code) there)
