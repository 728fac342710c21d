-- The rules of linking, in the order in which they are looked at (JVMS 5.3.5, 5.4). Groups of rules go through all
-- classes before the next group begins.
use Rattle.std.specs.Prelude.{◌≡◌, ◌≢◌, ℕ, ◌+◌, ◌≤◌, ◌&&◌, ◌||◌, Bool, true, false, not, Option, None, Some, List, length, take, filter, flat_map, codes, bytes_eq, slice_get, IsTrue, IfSome, IsSomeAnd, All, ⊤}
use Rattle.std.specs.List.{list_any}
use Rattle.builtin_world.specs.declared.number.TheConstants.{COUNT, OBJECT, SYSTEM}
use Rattle.class_walk.specs.declared.class.Constant.{Constant}
use Rattle.class_walk.specs.declared.class.Constant.TheVariants as constants
use Rattle.class_pool.specs.Pool.{Reference}
use Rattle.instructions.specs.declared.operation.FieldAccess.{FieldAccess}
use Rattle.instructions.specs.declared.operation.FieldAccess.TheVariants as fields
use Rattle.instructions.specs.declared.operation.Call.{Call}
use Rattle.instructions.specs.declared.operation.Call.TheVariants as calls
use Rattle.instructions.specs.declared.operation.ClassUse.{ClassUse}
use Rattle.instructions.specs.declared.operation.ClassUse.TheVariants as uses
use Rattle.instructions.specs.declared.what.What.{What}
use Rattle.instructions.specs.declared.what.What.TheVariants as whats
use Rattle.instructions.specs.declared.what.Instr.{Instr}
use Rattle.instructions.specs.declared.what.Target.{Target}
use Rattle.code_decode.specs.declared.code.Code.{Code}
use Rattle.code_decode.specs.declared.code.Handler.{Handler}
use Rattle.code_decode.specs.declared.code.ClassUnit.{ClassUnit}
use Rattle.rules.specs.Rules.{Rules, must, ◌then◌, each, given}
use Rattle.link_types.specs.declared.refusal.LinkRefusal.{LinkRefusal}
use Rattle.link_types.specs.declared.refusal.LinkRefusal.TheVariants.{At}
use Rattle.link_types.specs.declared.refusal.LinkKind.TheVariants.{Twice, Missing, Cycle, FinalSuper, NotInterface, NoField, NoMethod, StaticMismatch, Private, VolatileLong, Native, DefaultMethod, TooMany, FloatUse, FinalMethod, NotClass}
use Rattle.access_flags.specs.declared.TheConstants.{PUBLIC, PRIVATE, STATIC, FINAL, VOLATILE, NATIVE, INTERFACE, ABSTRACT}
use Rattle.access_flags.specs.Flags.{has}
use Rattle.link_rules.specs.Classes.{NamedClass, NamedMember, class_of_unit, classes_of, class_number, class_has, superclass_of, methods_of, number_of_file, class_name_at, reference_at, is_array_name}
use Rattle.link_rules.specs.Supers.{IsAbove, superclasses, superinterfaces, method_order}
use Rattle.link_rules.specs.Members.{Declared, is_member, is_virtual, signature_of, holder, found_field, found_method, selected, special}
use Rattle.link_rules.specs.Descriptors.{has_float, named_kind, class_of_kind}

-- nothing is asked
abbrev pub nothing_asked : Rules LinkRefusal
nothing_asked = record { Hold = ⊤; Refuse = λ e. ⊥ }

abbrev pub wants_static : FieldAccess → Bool
wants_static fields.GetStatic = true
wants_static fields.PutStatic = true
wants_static fields.GetField = false
wants_static fields.PutField = false

-- System's `out`, the only field of a built-in class, is only read
abbrev pub MaySet : FieldAccess → Declared → Type 0
MaySet fields.PutStatic d = d.class ≢ SYSTEM
MaySet fields.GetStatic d = ⊤
MaySet fields.GetField d = ⊤
MaySet fields.PutField d = ⊤

abbrev pub is_static_call : Call → Bool
is_static_call calls.Static = true
is_static_call calls.Virtual = false
is_static_call calls.Special = false

-- The rules of the class of the file at a place, among the classes of the program. A refusal names the file's place,
-- and an index of its pool.
module _ (cs : List NamedClass) (k : ℕ) where
  abbrev pub is_interface : ℕ → Bool
  is_interface c = class_has cs c INTERFACE

  -- ---- the superclass and the interfaces, by their indices (JVMS 5.3.5)

  abbrev pub named_class_rules : List Constant → ℕ → Rules LinkRefusal
  named_class_rules pool at = must (class_number cs (class_name_at pool at) ≢ 0) (At Missing k at)

  abbrev pub named_interface_rules : List Constant → ℕ → Rules LinkRefusal
  named_interface_rules pool at = must (IsTrue (is_interface (class_number cs (class_name_at pool at)))) (At NotInterface k at)

  -- a superclass is no interface, and that of an interface is java/lang/Object
  abbrev pub MayExtend : ℕ → ℕ → Type 0
  MayExtend flags super = (is_interface super ≡ false) × (IsTrue (has flags INTERFACE) → super ≡ OBJECT)

  abbrev pub supers_rules : ClassUnit → Rules LinkRefusal
  supers_rules u =
      must (superclass_of cs (number_of_file k) ≢ 0) (At Missing k u.file.super_class)
      then each (λ i at. named_class_rules u.file.pool at) u.file.interfaces
      then must (MayExtend u.file.flags (superclass_of cs (number_of_file k))) (At NotClass k u.file.super_class)
      then each (λ i at. named_interface_rules u.file.pool at) u.file.interfaces
      then must (class_has cs (superclass_of cs (number_of_file k)) FINAL ≡ false) (At FinalSuper k u.file.super_class)
      then must (¬ IsAbove cs (number_of_file k) (number_of_file k)) (At Cycle k 0)

  -- ---- fields and methods

  abbrev pub declared_field_rules : NamedMember → Rules LinkRefusal
  declared_field_rules f =
      must (has_float f.descriptor ≡ false) (At FloatUse k f.name_at)
      then must ((has f.flags VOLATILE && bytes_eq f.descriptor (codes "J")) ≡ false) (At VolatileLong k f.name_at)

  -- a class has a method of this name and descriptor that is final and neither static nor private
  abbrev pub is_closed : NamedMember → ℕ → Bool
  is_closed m d = list_any (λ n. is_member (signature_of m) n && (is_virtual n && has n.flags FINAL)) (methods_of cs d)

  -- a method overrides a final one of a superclass (JVMS 5.4.5)
  abbrev pub overrides_final : NamedMember → Bool
  overrides_final m = is_virtual m && list_any (is_closed m) (superclasses cs (superclass_of cs (number_of_file k)))

  abbrev pub is_default : NamedMember → Bool
  is_default m = not (has m.flags ABSTRACT) && not (bytes_eq m.name (codes "<clinit>"))

  abbrev pub declared_method_rules : Bool → NamedMember → Rules LinkRefusal
  declared_method_rules interface m =
      must (has_float m.descriptor ≡ false) (At FloatUse k m.name_at)
      then must (has m.flags NATIVE ≡ false) (At Native k m.name_at)
      then must ((interface && is_default m) ≡ false) (At DefaultMethod k m.name_at)
      then must (overrides_final m ≡ false) (At FinalMethod k m.name_at)

  abbrev pub members_rules : NamedClass → Rules LinkRefusal
  members_rules c =
      each (λ i f. declared_field_rules f) c.fields then each (λ i m. declared_method_rules (has c.flags INTERFACE) m) c.methods

  -- ---- implementations of abstract methods

  -- the abstract methods that classes declare
  abbrev pub abstract_methods : List ℕ → List NamedMember
  abstract_methods ds = filter (λ (m : NamedMember). has m.flags ABSTRACT) (flat_map (methods_of cs) ds)

  abbrev pub IsImplemented : NamedMember → Type 0
  IsImplemented m = IsSomeAnd (selected cs (number_of_file k) (signature_of m)) (λ d. has d.member.flags ABSTRACT ≡ false)

  abbrev pub IsPublicWhereImplemented : NamedMember → Type 0
  IsPublicWhereImplemented m =
      IfSome (selected cs (number_of_file k) (signature_of m)) (λ d. has d.member.flags ABSTRACT ≡ false → IsTrue (has d.member.flags PUBLIC))

  -- a class that isn't abstract implements the abstract methods of itself and of all above it; what implements a
  -- method of an interface is public, in each class
  abbrev pub implementation_rules : ℕ → Rules LinkRefusal
  implementation_rules flags =
      must (has flags ABSTRACT ≡ false → All IsImplemented (abstract_methods (method_order cs (number_of_file k)))) (At NoMethod k 0)
      then must (All IsPublicWhereImplemented (abstract_methods (flat_map (superinterfaces cs) (superclasses cs (number_of_file k))))) (At Private k 0)

  -- ---- what instructions and handlers name

  -- a class is there; of an array class, the class of its innermost elements, if they have one
  abbrev pub IsClassThere : List ℕ → Type 0
  IsClassThere name = IfSome (class_of_kind (named_kind name)) (λ n. class_number cs n ≢ 0)

  abbrev pub there_rules : ℕ → List ℕ → Rules LinkRefusal
  there_rules at name = must (IsClassThere name) (At Missing k at)

  -- an array class, an abstract class or an interface has no object that `new` could make
  abbrev pub cannot_be_made : List ℕ → Bool
  cannot_be_made name =
      is_array_name name || (class_has cs (class_number cs name) ABSTRACT || is_interface (class_number cs name))

  abbrev pub class_use_rules : ClassUse → ℕ → List ℕ → Rules LinkRefusal
  class_use_rules uses.New at name = there_rules at name then must (cannot_be_made name ≡ false) (At NotClass k at)
  class_use_rules uses.NewArray at name = there_rules at name
  class_use_rules uses.CheckCast at name = there_rules at name
  class_use_rules uses.InstanceOf at name = there_rules at name

  abbrev pub constant_rules : List Constant → ℕ → Option Constant → Rules LinkRefusal
  constant_rules pool at (Some (constants.Class name)) = there_rules at (class_name_at pool at)
  constant_rules pool at _ = nothing_asked

  -- a private member is named by its class alone
  abbrev pub MayAccess : Declared → Type 0
  MayAccess d = IsTrue (has d.member.flags PRIVATE) → d.class ≡ number_of_file k

  abbrev pub field_use_rules : FieldAccess → ℕ → Reference → Rules LinkRefusal
  field_use_rules access at r =
      there_rules at r.class
      then given (found_field cs r) (At NoField k at) (λ d.
      must (MaySet access d) (At NoField k at)
      then must (has d.member.flags STATIC ≡ wants_static access) (At StaticMismatch k at)
      then must (MayAccess d) (At Private k at))

  -- invokespecial of a method that isn't static calls one that isn't abstract
  abbrev pub MayBeCalled : Call → Reference → Declared → Type 0
  MayBeCalled calls.Special r d =
      has d.member.flags STATIC ≡ false → IsSomeAnd (special cs (number_of_file k) r d) (λ m. has m.member.flags ABSTRACT ≡ false)
  MayBeCalled calls.Virtual r d = ⊤
  MayBeCalled calls.Static r d = ⊤

  abbrev pub found_rules : Call → ℕ → Reference → Rules LinkRefusal
  found_rules call at r =
      given (found_method cs r) (At NoMethod k at) (λ d.
      must (MayBeCalled call r d) (At NoMethod k at)
      then must (has d.member.flags STATIC ≡ is_static_call call) (At StaticMismatch k at)
      then must (MayAccess d) (At Private k at))

  abbrev pub call_rules : Call → ℕ → Reference → Rules LinkRefusal
  call_rules call at r =
      there_rules at r.class
      then must (is_interface (holder cs r) ≡ false) (At NotClass k at)
      then found_rules call at r

  abbrev pub interface_call_rules : ℕ → Reference → Rules LinkRefusal
  interface_call_rules at r =
      there_rules at r.class
      then must (IsTrue (is_interface (holder cs r))) (At NotInterface k at)
      then found_rules calls.Virtual at r

  abbrev pub what_rules : List Constant → What Target → Rules LinkRefusal
  what_rules pool (whats.Constant at) = constant_rules pool at (slice_get pool at)
  what_rules pool (whats.Class purpose at) = class_use_rules purpose at (class_name_at pool at)
  what_rules pool (whats.Field access at) = field_use_rules access at (reference_at pool at)
  what_rules pool (whats.Call call at) = call_rules call at (reference_at pool at)
  what_rules pool (whats.InterfaceCall at) = interface_call_rules at (reference_at pool at)
  what_rules pool _ = nothing_asked

  -- a handler names the class that it catches, or none
  abbrev pub caught_rules : List Constant → Handler → Rules LinkRefusal
  caught_rules pool h = must (h.kind ≢ 0 → IsClassThere (class_name_at pool h.kind)) (At Missing k h.kind)

  abbrev pub code_use_rules : List Constant → Option Code → Rules LinkRefusal
  code_use_rules pool None = nothing_asked
  code_use_rules pool (Some code) =
      each (λ i (s : Instr Target). what_rules pool s.what) code.steps then each (λ i h. caught_rules pool h) code.handlers

  abbrev pub uses_rules : ClassUnit → Rules LinkRefusal
  uses_rules u = each (λ j code. code_use_rules u.file.pool code) u.codes

-- the class has another name than the built-in classes and those of the files before it
abbrev pub twice_rules : List NamedClass → ℕ → NamedClass → Rules LinkRefusal
twice_rules cs k c = must (class_number (take (COUNT + k) cs) c.name ≡ 0) (At Twice k 0)

-- there are few enough files, each defines a class of its own, and what is above these classes may be there
abbrev pub count_rules : List ClassUnit → Rules LinkRefusal
count_rules us = must (length us ≤ 1024) (At TooMany 1024 0)

abbrev pub all_twice_rules : List NamedClass → List ClassUnit → Rules LinkRefusal
all_twice_rules cs us = each (λ k u. twice_rules cs k (class_of_unit u)) us

abbrev pub all_supers_rules : List NamedClass → List ClassUnit → Rules LinkRefusal
all_supers_rules cs us = each (supers_rules cs) us

abbrev pub hierarchy_rules : List ClassUnit → Rules LinkRefusal
hierarchy_rules us = count_rules us then all_twice_rules (classes_of us) us then all_supers_rules (classes_of us) us

-- the rules of linking, over the classes of the program
abbrev pub rules_over : List NamedClass → List ClassUnit → Rules LinkRefusal
rules_over cs us =
    count_rules us
    then all_twice_rules cs us
    then all_supers_rules cs us
    then each (λ k u. members_rules cs k (class_of_unit u)) us
    then each (λ k u. implementation_rules cs k u.file.flags) us
    then each (uses_rules cs) us

abbrev pub link_rules : List ClassUnit → Rules LinkRefusal
link_rules us = rules_over (classes_of us) us
