-- Methods with code, by number.
use Rattle.std.proofs.Common.{◌≡◌, ℕ, suc, ◌-◌, ◌<◌, ◌≤◌, ◌&&◌, ◌⊎◌, Bool, true, false, not, cond, List, [], length, map, slice_get, codes, bytes_eq, unwrap_or, Option, None, Some, inl, inr, refl, sym, ap, ◌∙◌, arith}
use Rattle.std.specs.Option.{option_map, option_map_or, option_and_then, option_flatten}
use Rattle.std.proofs.lemmas.Bool.{cases_lt, le-leb, lt-leb}
use Rattle.std.proofs.lemmas.Option.{slice_get-map, same_Some, none-some}
use Rattle.access_flags.specs.declared.TheConstants.{STATIC}
use Rattle.access_flags.specs.Flags.{has}
use Rattle.builtin_world.specs.declared.number.TheConstants.{OBJECT}
use Rattle.class_walk.specs.declared.class.Constant.{Constant}
use Rattle.class_walk.specs.declared.class.Constant.TheVariants.{Utf8}
use Rattle.class_pool.specs.Lookup.{utf8_of}
use Rattle.class_pool.specs.PoolTest.{is_text}
use Rattle.class_read.specs.declared.class_file.Member.{Member}
use Rattle.code_decode.specs.declared.code.Code.{Code}
use Rattle.code_decode.specs.declared.code.ClassUnit.{ClassUnit}
use Rattle.link_types.specs.declared.methods.Method.{Method}
use Rattle.link_types.specs.declared.operands.MethodId.{MethodId}
use Rattle.link_rules.specs.Classes.{NamedMember, classes_of, member_of_file, methods_of, number_of_file, superclass_of, unit_numbered}
use Rattle.link_rules.specs.Members.{is_initializer, signature_of}
use Rattle.link_rules.specs.Methods.{method_named, method_code, parameter_types, result_type}
use Rattle.link_rules.specs.Names.{program_names, super_number}
use Rattle.link_rules.specs.Operands.{operand}
use Rattle.named_types.specs.Methods.{method_type}
use Rattle.class_layout.proofs.RowLaws.{unit_is_read}
use Rattle.member_lookup.proofs.FoundLaws.{no_methods}
use Rattle.member_lookup.proofs.SourceLaws.{file_methods}
use Rattle.method_table.specs.Called.{called, called_member, shown}
use Rattle.code_frames.specs.declared.types.VType.{VType}
use Rattle.code_frames.specs.declared.types.MapFrame.{MapFrame}
use Rattle.type_rules.specs.declared.types.VerificationType.{VerificationType}
use Rattle.type_rules.specs.Environments.{environment, environment_of, is_constructor, parameters_of_method, result_of_method, words_of_values}
use Rattle.type_rules.specs.MapFrames.{map_frame_at}
use Rattle.linked_methods.specs.Members.{nameless, member_numbered, is_named_init}

-- ---- the file of a class

pub record IsOfFile (us : List ClassUnit) (c : ℕ) (u : ClassUnit) : Type 0 where
  pub place : ℕ
  pub there : slice_get us place ≡ Some u
  pub number : c ≡ number_of_file place

pub of_file : (us : List ClassUnit) (c : ℕ) (u : ClassUnit) → unit_numbered us c ≡ Some u → IsOfFile us c u
of_file us c u at =
    let high : 28 < c = unit_is_read us c u at in
    record {
      place = c - 29;
      there = sym (ap (λ b. cond b None (slice_get us (c - 29))) (lt-leb c 28 high)) ∙ at;
      number = omega arith;
    }

methods_of_unit : (us : List ClassUnit) (c : ℕ) (u : ClassUnit) → unit_numbered us c ≡ Some u → methods_of (classes_of us) c ≡ map (member_of_file u.file.pool) u.file.methods
methods_of_unit us c u at =
    let of : IsOfFile us c u = of_file us c u at in
    ap (methods_of (classes_of us)) of.number ∙ file_methods us of.place u of.there

pub record HasCode (us : List ClassUnit) (id : MethodId) (code : Code) : Type 0 where
  pub unit : ClassUnit
  pub unit_there : unit_numbered us id.class ≡ Some unit
  pub code_there : slice_get unit.codes id.method ≡ Some (Some code)

unwrapped : (o : Option (Option Code)) (code : Code) → option_flatten o ≡ Some code → o ≡ Some (Some code)
unwrapped None code e = absurd (none-some code e)
unwrapped (Some o) code e = ap (λ x. Some x) e

pub has_code : (us : List ClassUnit) (id : MethodId) (code : Code) → method_code us id ≡ Some code → HasCode us id code
has_code us id code e = go (unit_numbered us id.class) refl e
  where
    go : (o : Option ClassUnit) → unit_numbered us id.class ≡ o → option_flatten (option_and_then (λ (u : ClassUnit). slice_get u.codes id.method) o) ≡ Some code → HasCode us id code
    go None at e = absurd (none-some code e)
    go (Some u) at e = record { unit = u; unit_there = at; code_there = unwrapped (slice_get u.codes id.method) code e }

-- ---- constructors

text_is : (o : Option Constant) → is_text (codes "<init>") o ≡ bytes_eq (unwrap_or (utf8_of o) []) (codes "<init>")
text_is None = refl
text_is (Some (Utf8 bytes)) = refl
text_is (Some _) = refl

named_is : (us : List ClassUnit) (id : MethodId) (code : Code) (m : NamedMember) → method_code us id ≡ Some code → method_named (classes_of us) id ≡ Some m
    → is_named_init us id ≡ is_initializer (signature_of m)
named_is us id code m coded named =
    ap (λ o. option_map_or (λ (v : ClassUnit). option_map_or (λ (x : Member). is_text (codes "<init>") (slice_get v.file.pool x.name)) (slice_get v.file.methods id.method) false) o false) h.unit_there
    ∙ go (slice_get u.file.methods id.method) (sym (slice_get-map (member_of_file u.file.pool) u.file.methods id.method) ∙ sym (ap (λ ms. slice_get ms id.method) (methods_of_unit us id.class u h.unit_there)) ∙ named)
  where
    h : HasCode us id code
    h = has_code us id code coded

    u : ClassUnit
    u = h.unit

    go : (o : Option Member) → option_map (member_of_file u.file.pool) o ≡ Some m
        → option_map_or (λ (x : Member). is_text (codes "<init>") (slice_get u.file.pool x.name)) o false ≡ bytes_eq m.name (codes "<init>")
    go None e = absurd (none-some m e)
    go (Some x) e = text_is (slice_get u.file.pool x.name) ∙ ap (λ (n : NamedMember). bytes_eq n.name (codes "<init>")) (same_Some (member_of_file u.file.pool x) m e)

pub constructs_is : (us : List ClassUnit) (id : MethodId) (code : Code) (m : NamedMember) (init static constructs : Bool) → method_code us id ≡ Some code → method_named (classes_of us) id ≡ Some m
    → init ≡ is_named_init us id → static ≡ has m.flags STATIC → ((init ≡ true) × (constructs ≡ not static)) ⊎ ((init ≡ false) × (constructs ≡ false)) → constructs ≡ is_constructor m
constructs_is us id code m init static constructs coded named init_is static_is both =
    both_is both ∙ ap (λ b. b && not static) (init_is ∙ named_is us id code m coded named) ∙ ap (λ b. is_initializer (signature_of m) && not b) static_is
  where
    both_is : ((init ≡ true) × (constructs ≡ not static)) ⊎ ((init ≡ false) × (constructs ≡ false)) → constructs ≡ (init && not static)
    both_is (inl (e, is)) = is ∙ ap (λ b. b && not static) (sym e)
    both_is (inr (e, is)) = is ∙ ap (λ b. b && not static) (sym e)

-- ---- what is called

pub record IsCalled (us : List ClassUnit) (id : MethodId) (method : Method) (m : NamedMember) : Type 0 where
  pub there : method_named (classes_of us) id ≡ Some m
  pub flags : method.flags ≡ m.flags
  pub kind : method.kind.now ≡ method_type (program_names us) m.descriptor

pub is_called : (us : List ClassUnit) (id : MethodId) (method : Method) → Some (shown method) ≡ called us id → IsCalled us id method (member_numbered us id)
is_called us id method e = go (method_named (classes_of us) id) refl e
  where
    go : (o : Option NamedMember) → method_named (classes_of us) id ≡ o → Some (shown method) ≡ option_map (called_member (program_names us) id) o
        → IsCalled us id method (unwrap_or o nameless)
    go None at e = absurd (none-some (shown method) (sym e))
    go (Some m) at e =
        let same = same_Some (shown method) (called_member (program_names us) id m) e in
        record { there = at; flags = ap (λ c. c.flags) same; kind = ap (λ c. c.kind) same }

pub not_called : (us : List ClassUnit) (id : MethodId) → None ≡ called us id → method_named (classes_of us) id ≡ None
not_called us id e = go (method_named (classes_of us) id) e
  where
    go : (o : Option NamedMember) → None ≡ option_map (called_member (program_names us) id) o → o ≡ None
    go None e = refl
    go (Some m) e = absurd (none-some (called_member (program_names us) id m) e)

pub parameters_are : (us : List ClassUnit) (id : MethodId) (method : Method) (m : NamedMember) → IsCalled us id method m → parameters_of_method (program_names us) id ≡ method.kind.now.parameters
parameters_are us id method m is =
    ap (λ o. option_map_or (λ (n : NamedMember). parameter_types (program_names us) n.descriptor) o []) is.there ∙ sym (ap (λ k. k.parameters) is.kind)

pub no_parameters : (us : List ClassUnit) (id : MethodId) → method_named (classes_of us) id ≡ None → parameters_of_method (program_names us) id ≡ []
no_parameters us id none = ap (λ o. option_map_or (λ (n : NamedMember). parameter_types (program_names us) n.descriptor) o []) none

pub result_is : (us : List ClassUnit) (id : MethodId) (method : Method) (m : NamedMember) → IsCalled us id method m → result_of_method (program_names us) id ≡ method.kind.now.result
result_is us id method m is =
    ap (option_and_then (λ (n : NamedMember). result_type (program_names us) n.descriptor)) is.there ∙ sym (ap (λ k. k.result) is.kind)

pub no_result : (us : List ClassUnit) (id : MethodId) → method_named (classes_of us) id ≡ None → result_of_method (program_names us) id ≡ None
no_result us id none = ap (option_and_then (λ (n : NamedMember). result_type (program_names us) n.descriptor)) none

-- ---- environments

pub no_code : (us : List ClassUnit) (id : MethodId) → method_code us id ≡ None → environment_of us id ≡ None
no_code us id none =
    ap (λ o. option_and_then (λ (m : NamedMember). option_map (environment (program_names us) (operand us id.class) id.class m) o) (method_named (classes_of us) id)) none
    ∙ go (method_named (classes_of us) id)
  where
    go : (o : Option NamedMember) → option_and_then (λ (m : NamedMember). option_map (environment (program_names us) (operand us id.class) id.class m) None) o ≡ None
    go None = refl
    go (Some m) = refl

pub no_member : (us : List ClassUnit) (id : MethodId) → method_named (classes_of us) id ≡ None → environment_of us id ≡ None
no_member us id none = ap (option_and_then (λ (m : NamedMember). option_map (environment (program_names us) (operand us id.class) id.class m) (method_code us id))) none

pub environment_is : (us : List ClassUnit) (id : MethodId) (m : NamedMember) (code : Code) → method_named (classes_of us) id ≡ Some m → method_code us id ≡ Some code
    → Some (environment (program_names us) (operand us id.class) id.class m code) ≡ environment_of us id
environment_is us id m code named coded =
    sym (ap (option_and_then (λ (n : NamedMember). option_map (environment (program_names us) (operand us id.class) id.class n) (method_code us id))) named
    ∙ ap (option_map (environment (program_names us) (operand us id.class) id.class m)) coded)

-- ---- superclasses

-- a method is in a class that is no array class
class_within : (us : List ClassUnit) (id : MethodId) (m : NamedMember) → method_named (classes_of us) id ≡ Some m → id.class ≤ length (classes_of us)
class_within us id m named = elim (cases_lt (length (classes_of us)) id.class) [
  | inl past ↦ absurd (none-some m (sym (ap (λ ms. slice_get ms id.method) (no_methods (classes_of us) id.class past)) ∙ named))
  | inr within ↦ within
]

pub super_is : (us : List ClassUnit) (id : MethodId) (m : NamedMember) → method_named (classes_of us) id ≡ Some m
    → super_number (program_names us) id.class ≡ superclass_of (classes_of us) id.class
super_is us id m named =
    let p = program_names us in
    ap (λ b. option_map_or (λ name. OBJECT) (cond b None (slice_get p.arrays (id.class - suc (length (classes_of us))))) (superclass_of (classes_of us) id.class))
    (le-leb id.class (length (classes_of us)) (class_within us id m named))

-- ---- map frames

-- equal values have equal map frames
pub frames_are : (item : List VerificationType → VType → VerificationType) (constructs flag : Bool) (values kept words : List VerificationType) (frames : List MapFrame)
    → kept ≡ values → words ≡ words_of_values kept → flag ≡ constructs
    → map_frame_at (item (words_of_values values)) constructs values frames ≡ map_frame_at (item words) flag kept frames
frames_are item constructs flag values kept words frames values_are words_are flag_is =
    ap (λ vs. map_frame_at (item (words_of_values vs)) constructs vs frames) (sym values_are)
    ∙ ap (λ ws. map_frame_at (item ws) constructs kept frames) (sym words_are)
    ∙ ap (λ b. map_frame_at (item words) b kept frames) (sym flag_is)
