-- The rules of linking refuse one thing at most, and nothing where they hold.
use Rattle.std.proofs.Common.{ℕ, List, Option, None, Some, slice_get}
use Rattle.rules.proofs.SharpLaws.{IsSharp, sharp_must, sharp_then, sharp_each, sharp_given}
use Rattle.rules.specs.Rules.{Rules, must, ◌then◌, each}
use Rattle.class_walk.specs.declared.class.Constant.{Constant}
use Rattle.class_walk.specs.declared.class.Constant.TheVariants as constants
use Rattle.class_pool.specs.Pool.{Reference}
use Rattle.instructions.specs.declared.operation.FieldAccess.{FieldAccess}
use Rattle.instructions.specs.declared.operation.Call.{Call}
use Rattle.instructions.specs.declared.operation.Call.TheVariants as calls
use Rattle.instructions.specs.declared.operation.ClassUse.{ClassUse}
use Rattle.instructions.specs.declared.operation.ClassUse.TheVariants as uses
use Rattle.instructions.specs.declared.what.What.{What}
use Rattle.instructions.specs.declared.what.What.TheVariants as whats
use Rattle.instructions.specs.declared.what.Instr.{Instr}
use Rattle.instructions.specs.declared.what.Target.{Target}
use Rattle.code_decode.specs.declared.code.Code.{Code}
use Rattle.code_decode.specs.declared.code.ClassUnit.{ClassUnit}
use Rattle.link_rules.specs.Classes.{NamedClass, NamedMember, class_of_unit, classes_of, class_name_at, reference_at}
use Rattle.link_rules.specs.Members.{found_field, found_method}
use Rattle.link_rules.specs.LinkRules.{nothing_asked, named_class_rules, named_interface_rules, supers_rules, declared_field_rules, declared_method_rules, members_rules, implementation_rules, class_use_rules, constant_rules, field_use_rules, found_rules, call_rules, interface_call_rules, what_rules, caught_rules, code_use_rules, uses_rules, twice_rules, rules_over, link_rules}

-- rules after one rule
after_must : {E : Type 0} (Rule : Type 0) (e : E) (rules : Rules E) → IsSharp rules → IsSharp (must Rule e then rules)
after_must Rule e rules sharp = sharp_then (must Rule e) rules (sharp_must Rule e) sharp

sharp_nothing : IsSharp nothing_asked
sharp_nothing = record { apart = λ e holds broken. broken; one = λ e d f g. absurd f }

module _ (cs : List NamedClass) (k : ℕ) where
  pub sharp_supers : (u : ClassUnit) → IsSharp (supers_rules cs k u)
  sharp_supers u =
      after_must _ _ _
      (sharp_then (each (λ i at. named_class_rules cs k u.file.pool at) u.file.interfaces) _
      (sharp_each (λ i at. named_class_rules cs k u.file.pool at) u.file.interfaces (λ i at. sharp_must _ _))
      (after_must _ _ _
      (sharp_then (each (λ i at. named_interface_rules cs k u.file.pool at) u.file.interfaces) _
      (sharp_each (λ i at. named_interface_rules cs k u.file.pool at) u.file.interfaces (λ i at. sharp_must _ _))
      (after_must _ _ _ (sharp_must _ _)))))

  sharp_field : (f : NamedMember) → IsSharp (declared_field_rules cs k f)
  sharp_field f = after_must _ _ _ (sharp_must _ _)

  sharp_method : (interface : Rattle.std.specs.Prelude.Bool) (m : NamedMember) → IsSharp (declared_method_rules cs k interface m)
  sharp_method interface m = after_must _ _ _ (after_must _ _ _ (after_must _ _ _ (sharp_must _ _)))

  sharp_members : (c : NamedClass) → IsSharp (members_rules cs k c)
  sharp_members c =
      sharp_then _ _
      (sharp_each (λ i f. declared_field_rules cs k f) c.fields (λ i f. sharp_field f))
      (sharp_each (λ i m. declared_method_rules cs k (Rattle.access_flags.specs.Flags.has c.flags 512) m) c.methods (λ i m. sharp_method (Rattle.access_flags.specs.Flags.has c.flags 512) m))

  sharp_implementation : (flags : ℕ) → IsSharp (implementation_rules cs k flags)
  sharp_implementation flags = after_must _ _ _ (sharp_must _ _)

  sharp_class_use : (purpose : ClassUse) (at : ℕ) (name : List ℕ) → IsSharp (class_use_rules cs k purpose at name)
  sharp_class_use uses.New at name = after_must _ _ _ (sharp_must _ _)
  sharp_class_use uses.NewArray at name = sharp_must _ _
  sharp_class_use uses.CheckCast at name = sharp_must _ _
  sharp_class_use uses.InstanceOf at name = sharp_must _ _

  sharp_constant : (pool : List Constant) (at : ℕ) (o : Option Constant) → IsSharp (constant_rules cs k pool at o)
  sharp_constant pool at (Some (constants.Class name)) = sharp_must _ _
  sharp_constant pool at _ = sharp_nothing

  sharp_field_use : (access : FieldAccess) (at : ℕ) (r : Reference) → IsSharp (field_use_rules cs k access at r)
  sharp_field_use access at r =
      after_must _ _ _ (sharp_given (found_field cs r) _ _ (λ d. after_must _ _ _ (after_must _ _ _ (sharp_must _ _))))

  sharp_found : (call : Call) (at : ℕ) (r : Reference) → IsSharp (found_rules cs k call at r)
  sharp_found call at r =
      sharp_given (found_method cs r) _ _ (λ d. after_must _ _ _ (after_must _ _ _ (sharp_must _ _)))

  sharp_call : (call : Call) (at : ℕ) (r : Reference) → IsSharp (call_rules cs k call at r)
  sharp_call call at r = after_must _ _ _ (after_must _ _ _ (sharp_found call at r))

  sharp_interface_call : (at : ℕ) (r : Reference) → IsSharp (interface_call_rules cs k at r)
  sharp_interface_call at r = after_must _ _ _ (after_must _ _ _ (sharp_found calls.Virtual at r))

  sharp_what : (pool : List Constant) (w : What Target) → IsSharp (what_rules cs k pool w)
  sharp_what pool (whats.Constant at) = sharp_constant pool at (slice_get pool at)
  sharp_what pool (whats.Class purpose at) = sharp_class_use purpose at (class_name_at pool at)
  sharp_what pool (whats.Field access at) = sharp_field_use access at (reference_at pool at)
  sharp_what pool (whats.Call call at) = sharp_call call at (reference_at pool at)
  sharp_what pool (whats.InterfaceCall at) = sharp_interface_call at (reference_at pool at)
  sharp_what pool _ = sharp_nothing

  sharp_code : (pool : List Constant) (o : Option Code) → IsSharp (code_use_rules cs k pool o)
  sharp_code pool None = sharp_nothing
  sharp_code pool (Some code) =
      sharp_then _ _
      (sharp_each (λ i (s : Instr Target). what_rules cs k pool s.what) code.steps (λ i s. sharp_what pool s.what))
      (sharp_each (λ i h. caught_rules cs k pool h) code.handlers (λ i h. sharp_must _ _))

  sharp_uses : (u : ClassUnit) → IsSharp (uses_rules cs k u)
  sharp_uses u = sharp_each (λ j code. code_use_rules cs k u.file.pool code) u.codes (λ j code. sharp_code u.file.pool code)

sharp_rules_over : (cs : List NamedClass) (us : List ClassUnit) → IsSharp (rules_over cs us)
sharp_rules_over cs us =
    after_must _ _ _
    (sharp_then _ _ (sharp_each (λ k u. twice_rules cs k (class_of_unit u)) us (λ k u. sharp_must _ _))
    (sharp_then _ _ (sharp_each (supers_rules cs) us (λ k u. sharp_supers cs k u))
    (sharp_then _ _ (sharp_each (λ k u. members_rules cs k (class_of_unit u)) us (λ k u. sharp_members cs k (class_of_unit u)))
    (sharp_then _ _ (sharp_each (λ k u. implementation_rules cs k u.file.flags) us (λ k u. sharp_implementation cs k u.file.flags))
    (sharp_each (uses_rules cs) us (λ k u. sharp_uses cs k u))))))

pub sharp_link : (us : List ClassUnit) → IsSharp (link_rules us)
sharp_link us = sharp_rules_over (classes_of us) us
