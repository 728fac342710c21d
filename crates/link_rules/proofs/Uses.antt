-- What the operands of instructions are.
use Rattle.std.proofs.Common.{◌≡◌, ◌≢◌, ℕ, ◌&&◌, ◌||◌, Bool, true, false, cond, not, is_some, nat_eq, List, ◌∷◌, [], ◌++◌, Contains, Option, None, Some, IsSome, IsSomeAnd, IfSome, IsTrue, slice_get, flat_map, option_map, unwrap_or, refl, sym, ap, subst, ◌∙◌}
use Rattle.std.specs.Prelude.{◌==◌}
use Rattle.std.specs.List.{list_any}
use Rattle.std.specs.Option.{option_map_or}
use Rattle.std.proofs.lemmas.Option.{same_Some}
use Rattle.std.proofs.lemmas.Bool.{or_parts, ne_eqb}
use Rattle.rules.specs.Rules.{must, given, ◌then◌}
use Rattle.class_walk.specs.declared.class.Constant.TheVariants as constants
use Rattle.class_names.specs.declared.kind.BaseKind.TheVariants as bases
use Rattle.class_names.specs.declared.kind.Kind.{Kind}
use Rattle.class_names.specs.declared.kind.Kind.TheVariants.{Base}
use Rattle.class_pool.specs.Pool.{Reference}
use Rattle.instructions.specs.declared.operation.Call.{Call}
use Rattle.instructions.specs.declared.operation.Call.TheVariants as calls
use Rattle.instructions.specs.declared.operation.ClassUse.{ClassUse}
use Rattle.instructions.specs.declared.operation.ClassUse.TheVariants as uses
use Rattle.instructions.specs.declared.what.What.{What}
use Rattle.instructions.specs.declared.what.What.TheVariants as whats
use Rattle.instructions.specs.declared.what.Instr.{Instr}
use Rattle.instructions.specs.declared.what.Target.{Target}
use Rattle.code_decode.specs.declared.code.ClassUnit.{ClassUnit}
use Rattle.link_types.specs.declared.operands.Operand.TheVariants as operands
use Rattle.link_types.specs.declared.types.ObjectType.TheVariants.{Class, Other}
use Rattle.link_types.specs.declared.refusal.LinkRefusal.TheVariants.{At}
use Rattle.link_types.specs.declared.refusal.LinkKind.TheVariants.{NoMethod, StaticMismatch, Private}
use Rattle.access_flags.specs.declared.TheConstants.{PRIVATE, STATIC, ABSTRACT, INTERFACE}
use Rattle.access_flags.specs.Flags.{has}
use Rattle.link_rules.specs.Classes.{NamedClass, NamedMember, classes_of, superclass_of, class_number, class_has, methods_of, number_of_file, class_name_at, reference_at, is_array_name}
use Rattle.link_rules.specs.Members.{Declared, found_method, special, selected, holder, is_initializer, is_virtual, method_id}
use Rattle.link_rules.specs.Supers.{superclasses}
use Rattle.link_rules.specs.Methods.{method_named}
use Rattle.class_names.specs.Kinds.{field_kind}
use Rattle.link_rules.specs.Descriptors.{named_kind, class_of_kind}
use Rattle.link_rules.specs.Arrays.{where_array, array_of, arrays_of_what, arrays_of_unit, steps_of_code}
use Rattle.link_rules.specs.Names.{ProgramNames, program_names, array_number, array_numbered, number_named, other_number, kind_object, type_named}
use Rattle.link_rules.specs.Operands.{operand_of, operand, class_operand, method_operand, method_found}
use Rattle.link_rules.specs.LinkRules.{link_rules, what_rules, class_use_rules, constant_rules, IsClassThere, is_static_call, MayBeCalled, MayAccess}
use Rattle.link_rules.specs.Laws.{IsFoundMethod}
use Rattle.link_rules.specs.Uses.{IsInstruction, FitsClassUse, IsClassOperand, FitsSpecial, IsMethodOperand, IsKnownClass, ClassLiteralsResolve, HandlersResolve, ClassUsesResolve, CallsResolve, InterfaceCallsResolve}
use Rattle.link_rules.proofs.Lists.{contains_head, contains_at, contains_flat_map}
use Rattle.link_rules.proofs.Looked.{method_fits, selected_fits}
use Rattle.link_rules.proofs.Objects.{unit_of_file}
use Rattle.link_rules.proofs.Arrays.{arrays, begins_array}

-- ---- an instruction keeps its rules, and what it names is among what is named

pub rules_of : (us : List ClassUnit) → (link_rules us).Hold → (k : ℕ) (u : ClassUnit) (w : What Target) → IsInstruction us k u w → (what_rules (classes_of us) k u.file.pool w).Hold
rules_of us hold k u w i =
    subst (λ x. (what_rules (classes_of us) k u.file.pool x).Hold) i.same
    ((hold.1.1.1.1.1 k u i.unit i.method (Some i.code) i.there).0 i.place i.step i.at)

arrays_of : (us : List ClassUnit) (k : ℕ) (u : ClassUnit) (w : What Target) → IsInstruction us k u w → (name : List ℕ) → Contains (arrays_of_what u.file.pool w) name → Contains (arrays_of_unit u) name
arrays_of us k u w i name h =
    let steps : Contains (flat_map steps_of_code u.codes) i.step =
    contains_flat_map steps_of_code u.codes (Some i.code) i.step (contains_at u.codes i.method (Some i.code) i.there) (contains_at i.code.steps i.place i.step i.at) in
    contains_flat_map (λ (s : Instr Target). arrays_of_what u.file.pool s.what) (flat_map steps_of_code u.codes) i.step name steps
    (subst (λ x. Contains (arrays_of_what u.file.pool x) name) (sym i.same) h)

array_there : (us : List ClassUnit) (k : ℕ) (u : ClassUnit) (w : What Target) → IsInstruction us k u w → (name : List ℕ) → Contains (arrays_of_what u.file.pool w) name → is_array_name name ≡ true → IsSome (array_number (program_names us) name)
array_there us k u w i name h is = go (array_number (program_names us) name) ((arrays us).used k u name i.unit (arrays_of us k u w i name h) is)
  where
    go : (o : Option ℕ) → IsSomeAnd o (λ c. array_numbered (program_names us) c ≡ Some name) → IsSome o
    go None h = absurd h
    go (Some c) h = refl

pub operand_at : (us : List ClassUnit) (k : ℕ) (u : ClassUnit) → slice_get us k ≡ Some u → (at : ℕ) → operand us (number_of_file k) at ≡ operand_of (program_names us) (number_of_file k) u.file.pool at (slice_get u.file.pool at)
operand_at us k u here at =
    ap (λ o. option_map_or (λ (x : ClassUnit). operand_of (program_names us) (number_of_file k) x.file.pool at (slice_get x.file.pool at)) o operands.Nothing) (unit_of_file us k ∙ here)

-- ---- classes

module _ (p : ProgramNames) (name : List ℕ) (no_array : is_array_name name ≡ false) where
  kind_is : named_kind name ≡ Base (bases.Class name)
  kind_is = ap (λ b. cond b (unwrap_or (field_kind name) (Base (bases.Class name))) (Base (bases.Class name))) no_array

  module _ (k : ℕ) (there : IsClassThere p.classes k name) where
    some_number : class_number p.classes name ≢ 0
    some_number = subst (λ (x : Kind). IfSome (class_of_kind x) (λ n. class_number p.classes n ≢ 0)) kind_is there

    is_zero : nat_eq (class_number p.classes name) 0 ≡ false
    is_zero = ne_eqb (class_number p.classes name) 0 some_number

    type_is : type_named p name ≡ Class (class_number p.classes name)
    type_is =
        ap (kind_object p name) kind_is
        ∙ ap (λ b. cond b (Other (other_number p name)) (Class (class_number p.classes name))) is_zero

    number_is : number_named p name ≡ Some (class_number p.classes name)
    number_is =
        ap (λ b. cond b (array_number p name) (cond (nat_eq (class_number p.classes name) 0) None (Some (class_number p.classes name)))) no_array
        ∙ ap (λ b. cond b None (Some (class_number p.classes name))) is_zero

  has_class_number : (k : ℕ) → IsClassThere p.classes k name → IsSome (number_named p name)
  has_class_number k there = ap is_some (number_is k there)

array_of_is : (name : List ℕ) → is_array_name (array_of name) ≡ true
array_of_is name =
    elim (is_array_name name) as (λ b. is_array_name (cond b (91 ∷ name) (91 ∷ 76 ∷ (name ++ 59 ∷ []))) ≡ true) [ true ↦ begins_array name | false ↦ begins_array (76 ∷ (name ++ 59 ∷ [])) ]

where_array_has : (name : List ℕ) → is_array_name name ≡ true → Contains (where_array name) name
where_array_has name is = subst (λ b. Contains (cond b (name ∷ []) []) name) (sym is) (contains_head name [])

tested : (us : List ClassUnit) (k : ℕ) (u : ClassUnit) (w : What Target) → IsInstruction us k u w → (name : List ℕ) → (is_array_name name ≡ true → Contains (arrays_of_what u.file.pool w) name) → IsClassThere (classes_of us) k name → IsSome (number_named (program_names us) name)
tested us k u w i name listed there = go (is_array_name name) refl
  where
    p : ProgramNames
    p = program_names us

    go : (b : Bool) → is_array_name name ≡ b → IsSome (number_named (program_names us) name)
    go true is =
        subst (λ t. IsSome (cond t (array_number (program_names us) name) (cond (nat_eq (class_number (classes_of us) name) 0) None (Some (class_number (classes_of us) name))))) (sym is)
        (array_there us k u w i name (listed is) is)
    go false is = has_class_number (program_names us) name is k there

class_fits : (us : List ClassUnit) (k at : ℕ) (u : ClassUnit) (purpose : ClassUse) → IsInstruction us k u (whats.Class purpose at)
    → (class_use_rules (classes_of us) k purpose at (class_name_at u.file.pool at)).Hold → FitsClassUse (classes_of us) purpose (class_operand (program_names us) (class_name_at u.file.pool at))
class_fits us k at u uses.New i hold =
    let name : List ℕ = class_name_at u.file.pool at in
    let cs : List NamedClass = classes_of us in
    let made : (is_array_name name ≡ false) × ((class_has cs (class_number cs name) ABSTRACT || class_has cs (class_number cs name) INTERFACE) ≡ false) =
    or_parts (is_array_name name) (class_has cs (class_number cs name) ABSTRACT || class_has cs (class_number cs name) INTERFACE) hold.1 in
    let parts : (class_has cs (class_number cs name) ABSTRACT ≡ false) × (class_has cs (class_number cs name) INTERFACE ≡ false) =
    or_parts (class_has cs (class_number cs name) ABSTRACT) (class_has cs (class_number cs name) INTERFACE) made.1 in
    (class_number cs name, type_is (program_names us) name made.0 k hold.0, number_is (program_names us) name made.0 k hold.0, parts.0, parts.1)
class_fits us k at u uses.NewArray i hold =
    array_there us k u (whats.Class uses.NewArray at) i (array_of (class_name_at u.file.pool at)) (contains_head (array_of (class_name_at u.file.pool at)) []) (array_of_is (class_name_at u.file.pool at))
class_fits us k at u uses.CheckCast i hold =
    tested us k u (whats.Class uses.CheckCast at) i (class_name_at u.file.pool at) (where_array_has (class_name_at u.file.pool at)) hold
class_fits us k at u uses.InstanceOf i hold =
    tested us k u (whats.Class uses.InstanceOf at) i (class_name_at u.file.pool at) (where_array_has (class_name_at u.file.pool at)) hold

pub classes_resolve : (us : List ClassUnit) → (link_rules us).Hold → ClassUsesResolve us
classes_resolve us hold k at n u purpose i entry =
    let fits : FitsClassUse (classes_of us) purpose (class_operand (program_names us) (class_name_at u.file.pool at)) =
    class_fits us k at u purpose i (rules_of us hold k u (whats.Class purpose at) i) in
    let is : operand us (number_of_file k) at ≡ operands.Class (class_operand (program_names us) (class_name_at u.file.pool at)) =
    operand_at us k u i.unit at ∙ ap (operand_of (program_names us) (number_of_file k) u.file.pool at) entry in
    subst (IsClassOperand (classes_of us) purpose) (sym is) fits

-- ---- class literals and handlers

known_at : (us : List ClassUnit) (k : ℕ) (u : ClassUnit) → slice_get us k ≡ Some u → (at n : ℕ) → slice_get u.file.pool at ≡ Some (constants.Class n) → is_array_name (class_name_at u.file.pool at) ≡ false
    → IsClassThere (classes_of us) k (class_name_at u.file.pool at) → IsKnownClass (operand us (number_of_file k) at)
known_at us k u here at n entry no_array there =
    let name : List ℕ = class_name_at u.file.pool at in
    let is : operand us (number_of_file k) at ≡ operands.Class (class_operand (program_names us) name) =
    operand_at us k u here at ∙ ap (operand_of (program_names us) (number_of_file k) u.file.pool at) entry in
    subst IsKnownClass (sym is) (class_number (classes_of us) name, type_is (program_names us) name no_array k there, number_is (program_names us) name no_array k there)

pub literals_resolve : (us : List ClassUnit) → (link_rules us).Hold → ClassLiteralsResolve us
literals_resolve us hold k at n u i entry no_array =
    let rules : (constant_rules (classes_of us) k u.file.pool at (slice_get u.file.pool at)).Hold = rules_of us hold k u (whats.Constant at) i in
    let there : IsClassThere (classes_of us) k (class_name_at u.file.pool at) = subst (λ o. (constant_rules (classes_of us) k u.file.pool at o).Hold) entry rules in
    known_at us k u i.unit at n entry no_array there

pub handlers_resolve : (us : List ClassUnit) → (link_rules us).Hold → HandlersResolve us
handlers_resolve us hold k method i n u code h here there at some entry no_array =
    known_at us k u here h.kind n entry no_array ((hold.1.1.1.1.1 k u here method (Some code) there).1 i h at some)

-- ---- calls

-- what invokespecial calls is declared where it is said to be
special_named : (cs : List NamedClass) (this : ℕ) (r : Reference) (d m : Declared) → slice_get (methods_of cs d.class) d.place ≡ Some d.member → special cs this r d ≡ Some m → slice_get (methods_of cs m.class) m.place ≡ Some m.member
special_named cs this r d m there e =
    go (not (is_initializer r) && (is_virtual d.member && list_any (λ c. c == holder cs r) (superclasses cs (superclass_of cs this)))) e
  where
    go : (b : Bool) → cond b (selected cs (superclass_of cs this) r) (Some d) ≡ Some m → slice_get (methods_of cs m.class) m.place ≡ Some m.member
    go true e = (selected_fits cs (superclass_of cs this) r m e).there
    go false e = subst (λ (x : Declared). slice_get (methods_of cs x.class) x.place ≡ Some x.member) (same_Some d m e) there

at_member : (cs : List NamedClass) (d : Declared) (P : NamedMember → Type 0) → slice_get (methods_of cs d.class) d.place ≡ Some d.member → P d.member → IsSomeAnd (method_named cs (method_id d)) P
at_member cs d P there holds = subst (λ o. IsSomeAnd o P) (sym there) holds

module _ (us : List ClassUnit) (k : ℕ) (r : Reference) where
  special_fits : (call : Call) (d : Declared) → slice_get (methods_of (classes_of us) d.class) d.place ≡ Some d.member → has d.member.flags STATIC ≡ is_static_call call → MayBeCalled (classes_of us) k call r d
      → FitsSpecial (classes_of us) call (method_operand (program_names us) (number_of_file k) r d)
  special_fits calls.Virtual d there static may = tt
  special_fits calls.Static d there static may = tt
  special_fits calls.Special d there static may =
      subst (λ b. IsSomeAnd (cond b None (option_map method_id (special (classes_of us) (number_of_file k) r d))) (λ id. IsSomeAnd (method_named (classes_of us) id) (λ m. has m.flags ABSTRACT ≡ false))) (sym static)
      (go (special (classes_of us) (number_of_file k) r d) refl (may static))
    where
      go : (o : Option Declared) → special (classes_of us) (number_of_file k) r d ≡ o → IsSomeAnd o (λ m. has m.member.flags ABSTRACT ≡ false)
          → IsSomeAnd (option_map method_id o) (λ id. IsSomeAnd (method_named (classes_of us) id) (λ m. has m.flags ABSTRACT ≡ false))
      go None e h = absurd h
      go (Some m) e h = at_member (classes_of us) m (λ n. has n.flags ABSTRACT ≡ false) (special_named (classes_of us) (number_of_file k) r d m there e) h

  call_fits : (call : Call) (at : ℕ) (o : Option Declared) → found_method (classes_of us) r ≡ o
      → (given o (At NoMethod k at) (λ d.
      must (MayBeCalled (classes_of us) k call r d) (At NoMethod k at)
      then must (has d.member.flags STATIC ≡ is_static_call call) (At StaticMismatch k at)
      then must (MayAccess (classes_of us) k d) (At Private k at))).Hold
      → IsMethodOperand (classes_of us) (number_of_file k) call (method_found (program_names us) (number_of_file k) r o)
  call_fits call at None e h = absurd h
  call_fits call at (Some d) e h =
      let f : IsFoundMethod (classes_of us) r d = method_fits (classes_of us) r d e in
      record {
        method = at_member (classes_of us) d (λ m. has m.flags STATIC ≡ is_static_call call) f.found.there h.1.0;
        private = at_member (classes_of us) d (λ m. IsTrue (has m.flags PRIVATE) → d.class ≡ number_of_file k) f.found.there h.1.1;
        special = special_fits call d f.found.there h.1.0 h.0;
      }

pub calls_resolve : (us : List ClassUnit) → (link_rules us).Hold → CallsResolve us
calls_resolve us hold k at c n u call i entry =
    let r : Reference = reference_at u.file.pool at in
    let fits : IsMethodOperand (classes_of us) (number_of_file k) call (method_found (program_names us) (number_of_file k) r (found_method (classes_of us) r)) =
    call_fits us k r call at (found_method (classes_of us) r) refl (rules_of us hold k u (whats.Call call at) i).1.1 in
    let is : operand us (number_of_file k) at ≡ method_found (program_names us) (number_of_file k) r (found_method (classes_of us) r) =
    operand_at us k u i.unit at ∙ ap (operand_of (program_names us) (number_of_file k) u.file.pool at) entry in
    subst (IsMethodOperand (classes_of us) (number_of_file k) call) (sym is) fits

pub interface_calls_resolve : (us : List ClassUnit) → (link_rules us).Hold → InterfaceCallsResolve us
interface_calls_resolve us hold k at c n u i entry =
    let r : Reference = reference_at u.file.pool at in
    let fits : IsMethodOperand (classes_of us) (number_of_file k) calls.Virtual (method_found (program_names us) (number_of_file k) r (found_method (classes_of us) r)) =
    call_fits us k r calls.Virtual at (found_method (classes_of us) r) refl (rules_of us hold k u (whats.InterfaceCall at) i).1.1 in
    let is : operand us (number_of_file k) at ≡ method_found (program_names us) (number_of_file k) r (found_method (classes_of us) r) =
    operand_at us k u i.unit at ∙ ap (operand_of (program_names us) (number_of_file k) u.file.pool at) entry in
    subst (IsMethodOperand (classes_of us) (number_of_file k) calls.Virtual) (sym is) fits
