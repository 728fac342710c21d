-- Where the code of a decoded method leads.
use Rattle.std.proofs.Common.{◌≡◌, ℕ, ◌<◌, Option, None, Some, List, [], ◌∷◌, length, refl, sym, subst, ◌∙◌, slice_get, option_map}
use Rattle.std.specs.List.{AllByRecursion}
use Rattle.std.proofs.lemmas.Option.{slice_get-map, slice_get_within, same_Some, none-some}
use Rattle.instructions.specs.declared.what.Instr.{Instr}
use Rattle.instructions.specs.declared.what.Target.{Target}
use Rattle.class_walk.specs.declared.class.Constant.{Constant}
use Rattle.code_decode.specs.declared.code.Handler.{Handler}
use Rattle.code_decode.specs.declared.code.ClassUnit.{ClassUnit}
use Rattle.code_laws.specs.Steps.{StandsAt, LeadsInside}
use Rattle.code_laws.specs.Handlers.{IsHandlerInside}
use Rattle.code_laws.proofs.CodeLaws.{all_accepted}
use Rattle.link_rules.specs.Classes.{number_of_file}
use Rattle.link_rules.specs.Operands.{operand}
use Rattle.link_types.specs.declared.operands.Operand.{Operand}
use Rattle.type_rules.specs.Environment.{TypedHandler}
use Rattle.type_rules.specs.Environments.{typed_handler}
use Rattle.type_laws.specs.Inside.{IsInside, MethodsStayInside}

stands_within : (steps : List (Instr Target)) (k at : ℕ) → StandsAt steps k at → k < length steps
stands_within steps k at stands = slice_get_within steps k stands.0 stands.1

all_within : (steps : List (Instr Target)) (targets : List Target) → AllByRecursion (LeadsInside steps) targets → AllByRecursion (λ t. t.step < length steps) targets
all_within steps [] all = record {}
all_within steps (t ∷ targets) all = (stands_within steps t.step t.at all.0, all_within steps targets all.1)

from_map : {A B : Type 0} (f : A → B) (o : Option A) (b : B) → option_map f o ≡ Some b → (a : A) × (o ≡ Some a) × (f a ≡ b)
from_map f None b e = absurd (none-some b e)
from_map f (Some a) b e = (a, refl, same_Some (f a) b e)

handler_inside : (pool : List Constant) (steps : List (Instr Target)) (operand_at : ℕ → Operand) (h : Handler) → IsHandlerInside pool steps h → IsInside (length steps) (typed_handler operand_at h)
handler_inside pool steps operand_at h inside =
    record { some = inside.some; end = inside.end; entry = stands_within steps h.entry h.at inside.entry }

pub stay_inside : (us : List ClassUnit) → MethodsStayInside us
stay_inside us file method u m code decoded is =
    let right = (all_accepted u.file u.codes decoded.file decoded.codes method code is.code_there).right in
    record {
      begins = stands_within code.steps 0 0 right.begins;
      targets = λ k i there. all_within code.steps _ (right.targets k i there);
      handlers = λ n h there.
          let from = from_map (typed_handler (operand us (number_of_file file))) (slice_get code.handlers n) h
          (sym (slice_get-map (typed_handler (operand us (number_of_file file))) code.handlers n) ∙ there) in
          subst (λ (x : TypedHandler). IsInside (length code.steps) x) from.2
          (handler_inside u.file.pool code.steps (operand us (number_of_file file)) from.0 (right.handlers n from.0 from.1));
    }
