-- Bodies that are made, read again.
use Rattle.std.specs.Prelude.{◌≡◌, ℕ, ◌++◌, List, ◌∷◌, Some, true}
use Rattle.std.specs.List.{AllByRecursion}
use Rattle.class_walk.specs.declared.class.Constant.{Constant}
use Rattle.code_decode.specs.declared.code.Code.{Code}
use Rattle.code_decode.specs.Code.{IsCode}
use Rattle.assembler_lines.specs.declared.line.Room.{Room}
use Rattle.assembler_text.specs.declared.lines.Numbered.{Numbered}
use Rattle.assembler_pool.specs.Uses.{Extends}
use Rattle.assembler_bodies.specs.Labels.{is_end, marks_in}
use Rattle.assembler_bodies.specs.Body.{MadeBody, begun, steps}
use Rattle.assembler_laws.specs.BodyMeaning.Parts.{IsSaidAt}
use Rattle.assembler_laws.specs.BodyMeaning.Body.{IsBodyOf, attribute_of}

-- Where the code of a body is read, with a pool that the body's own has grown to, it is what the lines say.
abbrev pub BodiesAreReadAgain : Type 0
BodiesAreReadAgain =
    (room : Room) (lines rest : List Numbered) (end : Numbered) (body : MadeBody) (pool after last : List Constant) (entry : ℕ) (code : Code)
    → AllByRecursion IsSaidAt lines → is_end end.line ≡ true → steps (marks_in (lines ++ end ∷ rest)) lines (begun room) pool ≡ Some (after, body) → Extends after last
    → IsCode last entry (attribute_of body) code → IsBodyOf last room lines code
