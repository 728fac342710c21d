-- What is known of what an index of a constant pool stands for.
use Rattle.std.proofs.Common.{◌≡◌, ℕ, ◌==◌, Bool, true, false, cond, List, slice_get, Option, None, Some, refl}
use Rattle.std.specs.Option.{option_map_or, option_and_then}
use Rattle.builtin_world.specs.declared.number.TheConstants.{SYSTEM}
use Rattle.class_names.specs.Kinds.{field_kind}
use Rattle.class_pool.specs.Pool.{Reference}
use Rattle.class_walk.specs.declared.class.Constant.{Constant}
use Rattle.class_walk.specs.declared.class.Constant.TheVariants as constants
use Rattle.code_decode.specs.declared.code.ClassUnit.{ClassUnit}
use Rattle.link_types.specs.declared.operands.FieldOperand.{FieldOperand}
use Rattle.link_types.specs.declared.operands.Operand.{Operand}
use Rattle.link_types.specs.declared.operands.Operand.TheVariants as operands
use Rattle.link_types.specs.declared.types.ValueType.{ValueType}
use Rattle.link_rules.specs.Classes.{NamedClass, NamedMember, class_name_at, fields_of, reference_at, unit_numbered, utf8_at}
use Rattle.link_rules.specs.Layout.{field_place}
use Rattle.link_rules.specs.Members.{Declared, found_field, found_method}
use Rattle.link_rules.specs.Names.{ProgramNames, program_names, string_number, value_type}
use Rattle.link_rules.specs.Operands.{operand, operand_of, class_operand, field_operand, field_named, method_found}
use Rattle.link_rules.specs.Strings.{literal_text}
use Rattle.link_rules.proofs.Looked.{field_fits}

-- a field is one of its owner's
pub record IsFieldOf (cs : List NamedClass) (f : FieldOperand) : Type 0 where
  pub index : ℕ
  pub member : NamedMember
  pub there : slice_get (fields_of cs f.owner) index ≡ Some member
  pub place : f.place ≡ field_place cs f.owner index member

-- a literal and a class have numbers by their texts and names
abbrev pub IsOperandOf : ProgramNames → Operand → Type 0
IsOperandOf p (operands.Text n) = (text : List ℕ) × (string_number p text ≡ n)
IsOperandOf p (operands.Class k) = (name : List ℕ) × (class_operand p name ≡ k)
IsOperandOf p (operands.Field f) = IsFieldOf p.classes f
IsOperandOf p _ = Unit {0}

module _ (p : ProgramNames) where
  of_field : (r : Reference) (o : Option Declared) → ((d : Declared) → o ≡ Some d → slice_get (fields_of p.classes d.class) d.place ≡ Some d.member)
      → IsOperandOf p (field_named p r o)
  of_field r None fits = tt
  of_field r (Some d) fits = go (d.class == SYSTEM) (option_and_then (value_type p) (field_kind d.member.descriptor))
    where
      go : (b : Bool) (o : Option ValueType) → IsOperandOf p (cond b operands.Out (option_map_or (λ kind. operands.Field (field_operand p r d kind)) o operands.Nothing))
      go true o = tt
      go false None = tt
      go false (Some kind) = record { index = d.place; member = d.member; there = fits d refl; place = refl }

  of_method : (this : ℕ) (r : Reference) (o : Option Declared) → IsOperandOf p (method_found p this r o)
  of_method this r None = tt
  of_method this r (Some d) = tt

  of_entry : (this : ℕ) (pool : List Constant) (at : ℕ) (o : Option Constant) → IsOperandOf p (operand_of p this pool at o)
  of_entry this pool at (Some (constants.Str text)) = (literal_text (utf8_at pool text), refl)
  of_entry this pool at (Some (constants.Class name)) = (class_name_at pool at, refl)
  of_entry this pool at (Some (constants.Field class member)) =
      of_field (reference_at pool at) (found_field p.classes (reference_at pool at)) (λ d found. (field_fits p.classes (reference_at pool at) d found).found.there)
  of_entry this pool at (Some (constants.Method class member)) = of_method this (reference_at pool at) (found_method p.classes (reference_at pool at))
  of_entry this pool at (Some (constants.IfaceMethod class member)) = of_method this (reference_at pool at) (found_method p.classes (reference_at pool at))
  of_entry this pool at _ = tt

pub operand_is : (us : List ClassUnit) (c at : ℕ) → IsOperandOf (program_names us) (operand us c at)
operand_is us c at = go (unit_numbered us c)
  where
    go : (o : Option ClassUnit)
        → IsOperandOf (program_names us) (option_map_or (λ (u : ClassUnit). operand_of (program_names us) c u.file.pool at (slice_get u.file.pool at)) o operands.Nothing)
    go None = tt
    go (Some u) = of_entry (program_names us) c u.file.pool at (slice_get u.file.pool at)
