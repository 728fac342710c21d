-- What an instruction names as an array.
use Rattle.std.proofs.Common.{◌≡◌, ℕ, List, [], ◌∷◌, Option, None, Some, slice_get, unwrap_or, refl, sym, ap, subst, ◌∙◌}
use Rattle.std.specs.Option.{option_map}
use Rattle.std.proofs.lemmas.Option.{same_Some}
use Rattle.class_walk.specs.declared.class.Constant.{Constant}
use Rattle.class_pool.specs.Pool.{Reference, reference_of}
use Rattle.class_pool.specs.Lookup.{class_name_of, reference_in}
use Rattle.class_pool.proofs.LookupLaws.{class_again}
use Rattle.code_decode.specs.declared.code.ClassUnit.{ClassUnit}
use Rattle.code_laws.specs.File.{IsClassOrArray}
use Rattle.code_laws.specs.Uses.{UsesClass, UsesRightly}
use Rattle.instructions.specs.declared.operation.Call.{Call}
use Rattle.instructions.specs.declared.operation.FieldAccess.{FieldAccess}
use Rattle.instructions.specs.declared.operation.PrimitiveType.{PrimitiveType}
use Rattle.instructions.specs.declared.operation.ClassUse.{ClassUse}
use Rattle.instructions.specs.declared.operation.ClassUse.TheVariants as uses
use Rattle.instructions.specs.declared.what.What.{What}
use Rattle.instructions.specs.declared.what.What.TheVariants as whats
use Rattle.instructions.specs.declared.what.Target.{Target}
use Rattle.link_types.specs.declared.types.ObjectType.{ObjectType}
use Rattle.link_rules.specs.Classes.{classes_of, class_name_at, reference_at}
use Rattle.link_rules.specs.LinkRules.{IsClassThere, class_use_rules, what_rules}
use Rattle.link_rules.specs.Arrays.{where_array, array_of, arrays_of_class_use, arrays_of_what}
use Rattle.link_rules.specs.Names.{ProgramNames, program_names, type_named}
use Rattle.base_order.specs.Bases.{IsBase}
use Rattle.array_kinds.specs.declared.kind.ArrayKind.{ArrayKind}
use Rattle.array_kinds.specs.Kinds.{array_itself, array_of_type, primitive_kind, SpellKind}
use Rattle.array_kinds.proofs.Names.{itself_spells, made_spells, primitive_spells}
use Rattle.array_kinds.proofs.Bases.{spelled_here, type_there, itself_there, of_there}
use Rattle.array_uses.specs.Most.{AreUsed}
use Rattle.array_uses.specs.Uses.{class_use}

kind_used : (p : ProgramNames) (o : Option ArrayKind) (texts : List (List ℕ)) → SpellKind p o texts → ((a : ArrayKind) → o ≡ Some a → IsBase p.classes a.base) → AreUsed p.classes o texts
kind_used p None texts spell there = spell
kind_used p (Some a) texts (text, is, spells) there = (
  text,
  is,
  record { base = there a refl; spelled = spelled_here p a text spells (there a refl); some = spells.some; few = spells.few },
)

module _ (us : List ClassUnit) (k : ℕ) (pool : List Constant) where
  itself_used : (name : List ℕ) → IsClassOrArray name → IsClassThere (classes_of us) k name → AreUsed (classes_of us) (array_itself (type_named (program_names us) name)) (where_array name)
  itself_used name is there =
      kind_used (program_names us) (array_itself (type_named (program_names us) name)) (where_array name) (itself_spells (program_names us) name is)
      (λ a e. itself_there (classes_of us) (type_named (program_names us) name) a (type_there (program_names us) k name is there) e)

  use_of : (purpose : ClassUse) (at : ℕ) (name : List ℕ) → IsClassOrArray name → Rattle.code_steps.specs.Operands.MayUse purpose name → (class_use_rules (classes_of us) k purpose at name).Hold
      → AreUsed (classes_of us) (class_use purpose (type_named (program_names us) name)) (arrays_of_class_use purpose name)
  use_of uses.New at name is may hold = refl
  use_of uses.NewArray at name is may hold =
      kind_used (program_names us) (array_of_type (type_named (program_names us) name)) (array_of name ∷ []) (made_spells (program_names us) name is may)
      (λ a e. of_there (classes_of us) (type_named (program_names us) name) a (type_there (program_names us) k name is hold) e)
  use_of uses.CheckCast at name is may hold = itself_used name is hold
  use_of uses.InstanceOf at name is may hold = itself_used name is hold

  class_used : (purpose : ClassUse) (at : ℕ) (t : ObjectType) → Some t ≡ option_map (type_named (program_names us)) (class_name_of pool (slice_get pool at)) → UsesClass pool purpose at
      → (class_use_rules (classes_of us) k purpose at (class_name_at pool at)).Hold → AreUsed (classes_of us) (class_use purpose t) (arrays_of_class_use purpose (class_name_at pool at))
  class_used purpose at t typed (name, here, is, may) hold =
      let found : class_name_of pool (slice_get pool at) ≡ Some name = class_again pool at name here in
      let name_is : class_name_at pool at ≡ name = ap (λ o. unwrap_or o []) found in
      let type_is : t ≡ type_named (program_names us) name = same_Some t (type_named (program_names us) name) (typed ∙ ap (option_map (type_named (program_names us))) found) in
      subst (λ n. AreUsed (classes_of us) (class_use purpose t) (arrays_of_class_use purpose n)) (sym name_is)
      (subst (λ x. AreUsed (classes_of us) (class_use purpose x) (arrays_of_class_use purpose name)) (sym type_is)
      (use_of purpose at name is may (subst (λ n. (class_use_rules (classes_of us) k purpose at n).Hold) name_is hold)))

  pub class_what : (w : What Target) (purpose : ClassUse) (at : ℕ) (t : ObjectType) (o : Option ArrayKind) → w ≡ whats.Class purpose at → o ≡ class_use purpose t
      → Some t ≡ option_map (type_named (program_names us)) (class_name_of pool (slice_get pool at)) → UsesRightly pool w → (what_rules (classes_of us) k pool w).Hold → AreUsed (classes_of us) o (arrays_of_what pool w)
  class_what w purpose at t o is gives typed uses hold =
      subst (λ x. AreUsed (classes_of us) o (arrays_of_what pool x)) (sym is)
      (subst (λ x. AreUsed (classes_of us) x (arrays_of_class_use purpose (class_name_at pool at))) (sym gives)
      (class_used purpose at t typed (subst (UsesRightly pool) is uses) (subst (λ x. (what_rules (classes_of us) k pool x).Hold) is hold)))

  -- the type that the owner in a member's entry stands for
  abbrev pub IsOwnerType : ℕ → ObjectType → Type 0
  IsOwnerType at t = (r : Reference) → reference_in pool (slice_get pool at) ≡ Some r → Some t ≡ Some (type_named (program_names us) r.class)

  owner_used : (at : ℕ) (t : ObjectType) (o : Option ArrayKind) (r : Reference) → reference_in pool (slice_get pool at) ≡ Some r → IsClassOrArray r.class → IsClassThere (classes_of us) k (reference_at pool at).class
      → IsOwnerType at t → o ≡ array_itself t → AreUsed (classes_of us) o (where_array (reference_at pool at).class)
  owner_used at t o r found is there typed gives =
      let reference_is : reference_at pool at ≡ r = ap (λ x. unwrap_or x (reference_of [] [] [])) found in
      let type_is : t ≡ type_named (program_names us) r.class = same_Some t (type_named (program_names us) r.class) (typed r found) in
      subst (λ (x : Reference). AreUsed (classes_of us) o (where_array x.class)) (sym reference_is)
      (subst (λ x. AreUsed (classes_of us) x (where_array r.class)) (sym (gives ∙ ap array_itself type_is))
      (itself_used r.class is (subst (λ (x : Reference). IsClassThere (classes_of us) k x.class) reference_is there)))

  pub field_what : (w : What Target) (access : FieldAccess) (at : ℕ) (t : ObjectType) (o : Option ArrayKind) → w ≡ whats.Field access at → o ≡ array_itself t → IsOwnerType at t
      → UsesRightly pool w → (what_rules (classes_of us) k pool w).Hold → AreUsed (classes_of us) o (arrays_of_what pool w)
  field_what w access at t o is gives typed uses hold =
      let named = subst (UsesRightly pool) is uses in
      let rules = subst (λ x. (what_rules (classes_of us) k pool x).Hold) is hold in
      subst (λ x. AreUsed (classes_of us) o (arrays_of_what pool x)) (sym is) (owner_used at t o named.0 named.1 named.2.class rules.0 typed gives)

  pub call_what : (w : What Target) (call : Call) (at : ℕ) (t : ObjectType) (o : Option ArrayKind) → w ≡ whats.Call call at → o ≡ array_itself t → IsOwnerType at t
      → UsesRightly pool w → (what_rules (classes_of us) k pool w).Hold → AreUsed (classes_of us) o (arrays_of_what pool w)
  call_what w call at t o is gives typed uses hold =
      let named = subst (UsesRightly pool) is uses in
      let rules = subst (λ x. (what_rules (classes_of us) k pool x).Hold) is hold in
      subst (λ x. AreUsed (classes_of us) o (arrays_of_what pool x)) (sym is) (owner_used at t o named.0 named.1 named.2.class rules.0 typed gives)

  pub interface_what : (w : What Target) (at : ℕ) (t : ObjectType) (o : Option ArrayKind) → w ≡ whats.InterfaceCall at → o ≡ array_itself t → IsOwnerType at t
      → UsesRightly pool w → (what_rules (classes_of us) k pool w).Hold → AreUsed (classes_of us) o (arrays_of_what pool w)
  interface_what w at t o is gives typed uses hold =
      let named = subst (UsesRightly pool) is uses in
      let rules = subst (λ x. (what_rules (classes_of us) k pool x).Hold) is hold in
      subst (λ x. AreUsed (classes_of us) o (arrays_of_what pool x)) (sym is) (owner_used at t o named.0 named.1 named.2.class rules.0 typed gives)

  pub primitive_what : (w : What Target) (kind : PrimitiveType) (a : ArrayKind) → w ≡ whats.NewArray kind → a ≡ primitive_kind kind → AreUsed (classes_of us) (Some a) (arrays_of_what pool w)
  primitive_what w kind a is gives =
      subst (λ x. AreUsed (classes_of us) (Some a) (arrays_of_what pool x)) (sym is)
      (subst (λ x. AreUsed (classes_of us) (Some x) (arrays_of_what pool (whats.NewArray kind))) (sym gives)
      (kind_used (program_names us) (Some (primitive_kind kind)) (arrays_of_what pool (whats.NewArray kind)) (Rattle.link_rules.specs.Arrays.primitive_array kind, refl, primitive_spells (program_names us) kind)
      (λ a e. there kind a e)))
    where
      there : (kind : PrimitiveType) (a : ArrayKind) → Some (primitive_kind kind) ≡ Some a → IsBase (classes_of us) a.base
      there kind a e = subst (λ (x : ArrayKind). IsBase (classes_of us) x.base) (same_Some (primitive_kind kind) a e) (of kind)
        where
          of : (kind : PrimitiveType) → IsBase (classes_of us) (primitive_kind kind).base
          of Rattle.instructions.specs.declared.operation.PrimitiveType.TheVariants.Boolean = tt
          of Rattle.instructions.specs.declared.operation.PrimitiveType.TheVariants.Char = tt
          of Rattle.instructions.specs.declared.operation.PrimitiveType.TheVariants.Byte = tt
          of Rattle.instructions.specs.declared.operation.PrimitiveType.TheVariants.Short = tt
          of Rattle.instructions.specs.declared.operation.PrimitiveType.TheVariants.Int = tt
          of Rattle.instructions.specs.declared.operation.PrimitiveType.TheVariants.Long = tt
