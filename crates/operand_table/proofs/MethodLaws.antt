-- Operands of methods that are found.
use Rattle.std.proofs.Common.{◌≡◌, ◌≢◌, ◌≤◌, ℕ, Bool, List, length, Option, None, Some, refl, sym, subst}
use Rattle.std.specs.Option.{option_map}
use Rattle.std.proofs.lemmas.Option.{same_Some}
use Rattle.code_decode.specs.declared.code.ClassUnit.{ClassUnit}
use Rattle.link_types.specs.declared.operands.MethodId.{MethodId}
use Rattle.link_types.specs.declared.operands.Operand.TheVariants.{Method}
use Rattle.link_types.specs.declared.types.ObjectType.{ObjectType}
use Rattle.link_rules.specs.Members.{Declared, method_id, is_initializer}
use Rattle.link_rules.specs.Names.{program_names, type_named}
use Rattle.link_rules.specs.Operands.{special_id, method_found}
use Rattle.member_lookup.specs.declared.found.Found.{Found}
use Rattle.class_pool.specs.Pool.{Reference}
use Rattle.class_texts.specs.Texts.{ProgramTexts}
use Rattle.link_rules.specs.Classes.{classes_of}
use Rattle.member_lookup.specs.declared.found.ReferenceNumbers.{ReferenceNumbers}
use Rattle.member_lookup.specs.Found.{found_of, AreNumbers, AreNumbersOf}

-- what is known of the numbers of a reference
pub record IsNumbered (p : ProgramTexts) (n : ReferenceNumbers) : Type 0 where
  pub holder : n.holder ≤ length (classes_of p.units)
  pub descriptor : n.descriptor ≢ 0

pub numbered : (p : ProgramTexts) (o : Option Reference) (n : ReferenceNumbers) → AreNumbersOf p o (Some n) → IsNumbered p n
numbered p None n are = absurd are
numbered p (Some r) n are = record {
  holder = are.1;
  descriptor = subst (λ (m : ReferenceNumbers). m.descriptor ≢ 0) (sym are.0.are) are.0.descriptor;
}

pub numbers_are : (p : ProgramTexts) (o : Option Reference) (r : Reference) (n : ReferenceNumbers) → o ≡ Some r → AreNumbersOf p o (Some n) → AreNumbers p n r
numbers_are p o r n is are = (subst (λ x. AreNumbersOf p x (Some n)) is are).0

pub numbers_are_there : (p : ProgramTexts) (o : Option Reference) (r : Reference) → o ≡ Some r → AreNumbersOf p o None → ⊥
numbers_are_there p o r is are = subst (λ x. AreNumbersOf p x None) is are

-- what is found, by numbers
pub found_is : (o : Option Declared) (f : Found) → option_map found_of o ≡ Some f → (d : Declared) × (o ≡ Some d) × (f ≡ found_of d)
found_is None f e = absurd cc
found_is (Some d) f e = (d, refl, sym (same_Some (found_of d) f e))

pub method_is : (us : List ClassUnit) (this : ℕ) (r : Reference) (d : Declared) (named : ObjectType) (id : MethodId) (called : Option MethodId) (constructs : Bool)
    → named ≡ type_named (program_names us) r.class → id ≡ method_id d → called ≡ special_id (program_names us) this r d → constructs ≡ is_initializer r
    → Method (record { named = named; method = id; special = called; constructs = constructs }) ≡ method_found (program_names us) this r (Some d)
method_is us this r d named id called constructs n i s k = rw (n, i, s, k) refl
