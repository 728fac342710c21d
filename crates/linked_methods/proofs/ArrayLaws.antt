-- The arrays that a method makes.
use Rattle.std.proofs.Common.{◌≡◌, ℕ, ◌<◌, ◌≤◌, false, List, [], slice_get, unwrap_or, Some, inl, inr, refl, sym, ap, subst, ◌∙◌, arith}
use Rattle.std.specs.Option.{option_map_or}
use Rattle.std.proofs.lemmas.Bool.{cases_lt, true≢false}
use Rattle.array_kinds.proofs.Names.{begins_with, type_spells}
use Rattle.array_order.specs.Order.{array_text}
use Rattle.class_names.specs.Descriptor.{base_text}
use Rattle.class_pool.proofs.LookupLaws.{class_again}
use Rattle.code_decode.specs.declared.code.Code.{Code}
use Rattle.code_decode.specs.declared.code.ClassUnit.{ClassUnit}
use Rattle.code_laws.proofs.CodeLaws.{all_accepted}
use Rattle.code_laws.specs.Uses.{UsesClass, UsesRightly}
use Rattle.code_steps.specs.Operands.{has_dimensions}
use Rattle.instructions.specs.declared.operation.ClassUse.{ClassUse}
use Rattle.instructions.specs.declared.operation.ClassUse.TheVariants as uses
use Rattle.instructions.specs.declared.what.What.{What}
use Rattle.instructions.specs.declared.what.What.TheVariants as whats
use Rattle.instructions.specs.declared.what.Instr.{Instr}
use Rattle.instructions.specs.declared.what.Target.{Target}
use Rattle.link_types.specs.declared.operands.MethodId.{MethodId}
use Rattle.link_types.specs.declared.operands.Operand.TheVariants as operands
use Rattle.link_types.specs.declared.types.ObjectType.{ObjectType}
use Rattle.link_types.specs.declared.types.ObjectType.TheVariants.{Class, Other, Array}
use Rattle.link_rules.specs.Classes.{unit_numbered}
use Rattle.link_rules.specs.Methods.{method_code}
use Rattle.link_rules.specs.Names.{ProgramNames, program_names, type_named}
use Rattle.link_rules.specs.Operands.{class_operand, operand, operand_of}
use Rattle.link_rules.specs.Units.{AreUnits}
use Rattle.type_rules.specs.Environment.{Environment}
use Rattle.step_frames.specs.Arrays.{dimensions_of, HasRoomForOne, MayMake, MakesArray}
use Rattle.linked_methods.proofs.MethodLaws.{HasCode, has_code, IsOfFile, of_file}

-- a name that doesn't begin with 255 brackets is of a type of fewer dimensions
few_dimensions : (p : ProgramNames) (name : List ℕ) → has_dimensions 255 name ≡ false → dimensions_of (type_named p name) < 255
few_dimensions p name less = go (type_named p name) refl
  where
    go : (t : ObjectType) → type_named p name ≡ t → dimensions_of t < 255
    go (Class c) is = omega arith
    go (Other n) is = omega arith
    go (Array d base) is =
        let s = type_spells p name d base is in
        elim (cases_lt d 255) [
          | inl fewer ↦ fewer
          | inr more ↦
              let few : d ≤ 255 = s.few in
              let most : d ≡ 255 = omega arith in
              absurd (true≢false (sym (ap (has_dimensions 255) (s.spelled ∙ ap (λ n. array_text n (base_text s.base)) most) ∙ begins_with 255 (base_text s.base)) ∙ less))
        ]

-- what is at the index of a Class entry
class_operand_is : (us : List ClassUnit) (c : ℕ) (u : ClassUnit) (index : ℕ) (purpose : ClassUse) (named : UsesClass u.file.pool purpose index) → unit_numbered us c ≡ Some u
    → operand us c index ≡ operands.Class (class_operand (program_names us) named.0)
class_operand_is us c u index purpose named at =
    let p = program_names us in
    ap (λ o. option_map_or (λ (v : ClassUnit). operand_of p c v.file.pool index (slice_get v.file.pool index)) o operands.Nothing) at
    ∙ ap (operand_of p c u.file.pool index) named.1.1
    ∙ ap (λ o. operands.Class (class_operand p (unwrap_or o []))) (class_again u.file.pool index named.0 named.1)

may_make : (us : List ClassUnit) (c : ℕ) (u : ClassUnit) (index : ℕ) (purpose : ClassUse) → UsesClass u.file.pool purpose index → unit_numbered us c ≡ Some u
    → MayMake purpose (operand us c index)
may_make us c u index uses.NewArray named at =
    subst HasRoomForOne (sym (class_operand_is us c u index uses.NewArray named at)) (few_dimensions (program_names us) named.0 named.3)
may_make us c u index uses.New named at = tt
may_make us c u index uses.CheckCast named at = tt
may_make us c u index uses.InstanceOf named at = tt

pub makes_array : (us : List ClassUnit) (c : ℕ) (u : ClassUnit) (env : Environment) → unit_numbered us c ≡ Some u → env.operand ≡ operand us c
    → (what : What Target) → UsesRightly u.file.pool what → MakesArray env what
makes_array us c u env at same (whats.Class purpose index) right = subst (λ f. MayMake purpose (f index)) (sym same) (may_make us c u index purpose right at)
makes_array us c u env at same _ right = tt

pub arrays_have_room : (us : List ClassUnit) (id : MethodId) (code : Code) (env : Environment) → AreUnits us → method_code us id ≡ Some code → env.operand ≡ operand us id.class
    → (k : ℕ) (i : Instr Target) → slice_get code.steps k ≡ Some i → MakesArray env i.what
arrays_have_room us id code env decoded coded same k i there =
    let has : HasCode us id code = has_code us id code coded in
    let of : IsOfFile us id.class has.unit = of_file us id.class has.unit has.unit_there in
    let unit = decoded of.place has.unit of.there in
    makes_array us id.class has.unit env has.unit_there same i.what ((all_accepted has.unit.file has.unit.codes unit.file unit.codes id.method code has.code_there).uses k i there)
