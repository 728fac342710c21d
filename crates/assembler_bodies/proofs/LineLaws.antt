-- Lines that are labels.
use Rattle.std.proofs.Common.{◌≡◌, ℕ, true, false, List, Option, Some, None, refl}
use Rattle.class_walk.specs.declared.class.Constant.{Constant}
use Rattle.assembler_lines.specs.declared.line.Line.{Line}
use Rattle.assembler_lines.specs.declared.line.Line.TheVariants.{Label}
use Rattle.assembler_bodies.specs.Labels.{Marks}
use Rattle.assembler_bodies.specs.Body.{MadeBody, is_first_at, step_of}

pub label_first : (marks : Marks) (number : ℕ) (line : Option Line) (name : List ℕ) (body : MadeBody) (pool : List Constant) → line ≡ Some (Label name) → is_first_at number (marks name) ≡ true → step_of marks number line body pool ≡ Some (pool, body)
label_first marks number line name body pool is first = rw (is, first) refl

pub label_again : (marks : Marks) (number : ℕ) (line : Option Line) (name : List ℕ) (body : MadeBody) (pool : List Constant) → line ≡ Some (Label name) → is_first_at number (marks name) ≡ false → step_of marks number line body pool ≡ None
label_again marks number line name body pool is again = rw (is, again) refl
