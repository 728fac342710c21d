-- What is looked up in the pool is what is there.
use Rattle.std.proofs.Common.{◌≡◌, ◌≢◌, ℕ, Bool, true, false, cond, List, Option, Some, None, Result, Ok, Err, refl, sym, ap, ◌∙◌, ◌+◌, arith, inl, inr}
use Rattle.std.specs.Prelude.{ℤ, ◌↔◌, slice_get, not, ◌==◌, codes, bytes_eq, IsTrue, ◌⊎◌}
use Rattle.std.proofs.lemmas.Bool.{not-true, not_from_false, false_from_ne_true, eqb-true, eq-eqb, and_parts}
use Rattle.std.proofs.lemmas.Slice.Eq.{bytes_eq-Decides}
use Rattle.std.proofs.lemmas.Option.{same_Some}
use Rattle.class_walk.specs.declared.class.Constant.{Constant}
use Rattle.class_walk.specs.declared.class.Constant.TheVariants as constants
use Rattle.class_names.specs.declared.kind.ParameterSize.{ParameterSize}
use Rattle.class_names.specs.Descriptor.{parameter_words_of, size_of}
use Rattle.class_pool.specs.PoolRules.{IsText}
use Rattle.class_pool.specs.TextUses.{IsUseOf, IsUseAt}
use Rattle.class_pool.specs.declared.text_uses.TextUse.{TextUse}
use Rattle.instructions.specs.declared.operation.Call.{Call as CallKind}
use Rattle.instructions.specs.declared.operation.Call.TheVariants as calls
use Rattle.instructions.specs.declared.operation.ClassUse.{ClassUse}
use Rattle.instructions.specs.declared.operation.ClassUse.TheVariants as uses
use Rattle.instructions.specs.declared.operation.FieldAccess.{FieldAccess}
use Rattle.instructions.specs.declared.what.What.{What}
use Rattle.instructions.specs.declared.what.What.TheVariants.{Constant as Loaded, LongConstant, Field, Call, Class}
use Rattle.code_steps.specs.declared.fault.StepFault.{StepFault}
use Rattle.code_steps.specs.declared.fault.StepFault.TheVariants.{Unsupported, Operand}
use Rattle.code_steps.specs.Operands.{has_dimensions, IsCount, IsLoadable, IsLong, IsField, MayCall, IsMethodFor, IsInterfaceCall, MayUse, IsClassFor, IsElementCode}
use Rattle.class_pool.specs.Lookup.{utf8_of, class_name_of, name_and_type_of, both_texts}
use Rattle.class_pool.proofs.LookupLaws.{text_is, class_is, class_again, name_and_type_is, name_and_type_again}
use Rattle.code_steps.specs.Reading.{loaded_class, constant_in, constant_of, long_constant_in, long_constant_of, field_in, field_of, may_call, named_call, call_in, call_of, may_use, class_named, class_of, new_array_of, interface_pair_in, has_words, IsCountIn, IsInterfaceMember}
use Rattle.class_walk.proofs.Fields.{ok_is, guard_ok}
use Rattle.code_steps.proofs.Fields.{passes_ok}

-- ---- names that are called

other_name : (name text : List ℕ) → not (bytes_eq name text) ≡ true → name ≢ text
other_name name text e same =
    let differs = not-true (bytes_eq name text) e in
    let equal = (bytes_eq-Decides name text).1 same in
    absurd cc

other_again : (name text : List ℕ) → name ≢ text → not (bytes_eq name text) ≡ true
other_again name text differs = not_from_false (bytes_eq name text) (false_from_ne_true (bytes_eq name text) (λ e. differs ((bytes_eq-Decides name text).0 e)))

callable : (call : CallKind) (name : List ℕ) → may_call call name ≡ true → MayCall call name
callable calls.Special name e = other_name name (codes "<clinit>") e
callable calls.Virtual name e = let h = and_parts _ _ e in (other_name name (codes "<clinit>") h.0, other_name name (codes "<init>") h.1)
callable calls.Static name e = let h = and_parts _ _ e in (other_name name (codes "<clinit>") h.0, other_name name (codes "<init>") h.1)

callable_again : (call : CallKind) (name : List ℕ) → MayCall call name → may_call call name ≡ true
callable_again calls.Special name may = other_again name (codes "<clinit>") may
callable_again calls.Virtual name may = rw (other_again name (codes "<clinit>") may.0, other_again name (codes "<init>") may.1) refl
callable_again calls.Static name may = rw (other_again name (codes "<clinit>") may.0, other_again name (codes "<init>") may.1) refl

usable : (purpose : ClassUse) (name : List ℕ) → may_use purpose name ≡ true → MayUse purpose name
usable uses.NewArray name e = not-true (has_dimensions 255 name) e
usable uses.New name e = tt
usable uses.CheckCast name e = tt
usable uses.InstanceOf name e = tt

usable_again : (purpose : ClassUse) (name : List ℕ) → MayUse purpose name → may_use purpose name ≡ true
usable_again uses.NewArray name may = not_from_false (has_dimensions 255 name) may
usable_again uses.New name may = refl
usable_again uses.CheckCast name may = refl
usable_again uses.InstanceOf name may = refl

-- ---- what an index makes of an instruction

-- what is made of an index is this exactly where the rule holds
pub record Rule (made : ℕ → Result (What ℤ) StepFault) (want : ℕ → What ℤ) (IsRight : ℕ → Type 0) : Type 0 where
  pub takes : (index : ℕ) (what : What ℤ) → made index ≡ Ok what → (what ≡ want index) × IsRight index
  pub again : (index : ℕ) → IsRight index → made index ≡ Ok (want index)

constant_takes : (pool : List Constant) (at index : ℕ) (c : Option Constant) (what : What ℤ) → slice_get pool index ≡ c → constant_in pool at index c ≡ Ok what → (what ≡ Loaded index) × IsLoadable pool index
constant_takes pool at index (Some (constants.Integer n)) what is e = (sym (ok_is (Loaded index) what e), inl (n, is))
constant_takes pool at index (Some (constants.Str n)) what is e = (sym (ok_is (Loaded index) what e), inr (inl (n, is)))
constant_takes pool at index (Some (constants.Class n)) what is e = named (utf8_of (slice_get pool n)) refl e
  where
    named : (o : Option (List ℕ)) → utf8_of (slice_get pool n) ≡ o → loaded_class at index o ≡ Ok what → (what ≡ Loaded index) × IsLoadable pool index
    named None t e = absurd cc
    named (Some name) t e =
        let g = guard_ok (has_dimensions 1 name) (Unsupported at) (Ok (Loaded index)) what e in
        (sym (ok_is (Loaded index) what g.1), inr (inr (name, (n, is, text_is (slice_get pool n) name t), g.0)))
constant_takes pool at index _ what is e = absurd cc

pub constant_rule : (pool : List Constant) (at : ℕ) → Rule (constant_of pool at) (λ index. Loaded index) (IsLoadable pool)
unfolding constant_of
constant_rule pool at = record { takes = λ index what e. constant_takes pool at index (slice_get pool index) what refl e; again = again }
  where
    again : (index : ℕ) → IsLoadable pool index → constant_in pool at index (slice_get pool index) ≡ Ok (Loaded index)
    again index (inl n) = rw n.1 refl
    again index (inr (inl n)) = rw n.1 refl
    again index (inr (inr n)) = rw (n.1.1, n.1.2, n.2) refl

long_takes : (pool : List Constant) (at index : ℕ) (c : Option Constant) (what : What ℤ) → slice_get pool index ≡ c → long_constant_in at index c ≡ Ok what → (what ≡ LongConstant index) × IsLong pool index
long_takes pool at index (Some (constants.Long n)) what is e = (sym (ok_is (LongConstant index) what e), (n, is))
long_takes pool at index _ what is e = absurd cc

pub long_constant_rule : (pool : List Constant) (at : ℕ) → Rule (long_constant_of pool at) (λ index. LongConstant index) (IsLong pool)
unfolding long_constant_of
long_constant_rule pool at = record { takes = λ index what e. long_takes pool at index (slice_get pool index) what refl e; again = λ index n. rw n.1 refl }

field_takes : (pool : List Constant) (access : FieldAccess) (at index : ℕ) (c : Option Constant) (what : What ℤ) → slice_get pool index ≡ c → field_in access at index c ≡ Ok what → (what ≡ Field access index) × IsField pool index
field_takes pool access at index (Some (constants.Field a b)) what is e = (sym (ok_is (Field access index) what e), (a, b, is))
field_takes pool access at index _ what is e = absurd cc

pub field_rule : (pool : List Constant) (access : FieldAccess) (at : ℕ) → Rule (field_of pool access at) (λ index. Field access index) (IsField pool)
unfolding field_of
field_rule pool access at = record { takes = λ index what e. field_takes pool access at index (slice_get pool index) what refl e; again = λ index n. rw n.2 refl }

call_takes : (pool : List Constant) (call : CallKind) (at index : ℕ) (c : Option Constant) (what : What ℤ) → slice_get pool index ≡ c → call_in pool call at index c ≡ Ok what → (what ≡ Call call index) × IsMethodFor pool call index
call_takes pool call at index (Some (constants.Method class pair)) what is e = named (name_and_type_of pool (slice_get pool pair)) refl e
  where
    named : (o : Option (List ℕ × List ℕ)) → name_and_type_of pool (slice_get pool pair) ≡ o → named_call call at index o ≡ Ok what → (what ≡ Call call index) × IsMethodFor pool call index
    named None t e = absurd cc
    named (Some x) t e =
        let g = passes_ok (may_call call x.0) (Operand at) (Ok (Call call index)) what e in
        (sym (ok_is (Call call index) what g.1), record { class = class; pair = pair; name = x.0; descriptor = x.1; entry = is; named = name_and_type_is pool pair x t; callable = callable call x.0 g.0 })
call_takes pool call at index _ what is e = absurd cc

pub call_rule : (pool : List Constant) (call : CallKind) (at : ℕ) → Rule (call_of pool call at) (λ index. Call call index) (IsMethodFor pool call)
unfolding call_of
call_rule pool call at = record {
  takes = λ index what e. call_takes pool call at index (slice_get pool index) what refl e;
  again = λ index m. rw (m.entry, name_and_type_again pool m.pair m.name m.descriptor m.named, callable_again call m.name m.callable) refl;
}

class_takes : (pool : List Constant) (purpose : ClassUse) (at index : ℕ) (o : Option (List ℕ)) (what : What ℤ) → class_name_of pool (slice_get pool index) ≡ o → class_named purpose at index o ≡ Ok what → (what ≡ Class purpose index) × IsClassFor pool purpose index
class_takes pool purpose at index None what t e = absurd cc
class_takes pool purpose at index (Some name) what t e =
    let g = passes_ok (may_use purpose name) (Operand at) (Ok (Class purpose index)) what e in
    (sym (ok_is (Class purpose index) what g.1), (name, class_is pool index name t, usable purpose name g.0))

pub class_rule : (pool : List Constant) (purpose : ClassUse) (at : ℕ) → Rule (class_of pool purpose at) (λ index. Class purpose index) (IsClassFor pool purpose)
unfolding class_of
class_rule pool purpose at = record {
  takes = λ index what e. class_takes pool purpose at index (class_name_of pool (slice_get pool index)) what refl e;
  again = λ index c. rw (class_again pool index c.0 c.1, usable_again purpose c.0 c.2) refl;
}

-- ---- newarray

choice : (b : Bool) (x y : Result (What ℤ) StepFault) (what : What ℤ) → cond b x y ≡ Ok what → ((b ≡ true) × (x ≡ Ok what)) ⊎ ((b ≡ false) × (y ≡ Ok what))
choice true x y what e = inl (refl, e)
choice false x y what e = inr (refl, e)

pub element_takes : (at code : ℕ) (what : What ℤ) → new_array_of at code ≡ Ok what → IsElementCode code what
unfolding new_array_of
element_takes at code what e =
    elim (choice (code == 4) _ _ what e) [
      | inl a ↦ inl (eqb-true code 4 a.0, sym (ok_is _ what a.1))
      | inr a ↦ elim (choice (code == 5) _ _ what a.1) [
        | inl b ↦ inr (inl (eqb-true code 5 b.0, sym (ok_is _ what b.1)))
        | inr b ↦ elim (choice (code == 6) _ _ what b.1) [
          | inl c ↦ absurd (never (Unsupported at) what c.1)
          | inr c ↦ elim (choice (code == 7) _ _ what c.1) [
            | inl d ↦ absurd (never (Unsupported at) what d.1)
            | inr d ↦ elim (choice (code == 8) _ _ what d.1) [
              | inl f ↦ inr (inr (inl (eqb-true code 8 f.0, sym (ok_is _ what f.1))))
              | inr f ↦ elim (choice (code == 9) _ _ what f.1) [
                | inl g ↦ inr (inr (inr (inl (eqb-true code 9 g.0, sym (ok_is _ what g.1)))))
                | inr g ↦ elim (choice (code == 10) _ _ what g.1) [
                  | inl h ↦ inr (inr (inr (inr (inl (eqb-true code 10 h.0, sym (ok_is _ what h.1))))))
                  | inr h ↦ elim (choice (code == 11) _ _ what h.1) [
                    | inl k ↦ inr (inr (inr (inr (inr (eqb-true code 11 k.0, sym (ok_is _ what k.1))))))
                    | inr k ↦ absurd (never (Operand at) what k.1)
                  ]
                ]
              ]
            ]
          ]
        ]
      ]
    ]
  where
    never : (f : StepFault) (what : What ℤ) → Err f ≡ Ok what → ⊥
    never f what e = cc

pub element_again : (at code : ℕ) (what : What ℤ) → IsElementCode code what → new_array_of at code ≡ Ok what
unfolding new_array_of
element_again at code what (inl a) = rw (a.0, a.1) refl
element_again at code what (inr (inl a)) = rw (a.0, a.1) refl
element_again at code what (inr (inr (inl a))) = rw (a.0, a.1) refl
element_again at code what (inr (inr (inr (inl a)))) = rw (a.0, a.1) refl
element_again at code what (inr (inr (inr (inr (inl a))))) = rw (a.0, a.1) refl
element_again at code what (inr (inr (inr (inr (inr a))))) = rw (a.0, a.1) refl

-- ---- invokeinterface

has_so_many : (text : List ℕ) (u : TextUse) (count : ℕ) (o : Option ParameterSize) → IsUseOf text u → u.parameters ≡ o → IsTrue (has_words o count) → IsCount text count
has_so_many text u count None is e t = absurd cc
has_so_many text u count (Some size) is e t =
    let p = is.parameters size e in
    let words : size.words ≡ parameter_words_of p.0 = ap (λ (s : ParameterSize). s.words) p.3 in
    (p.0, p.1, p.2, omega (arith, eqb-true count (size.words + 1) t, words))

so_many_again : (text : List ℕ) (u : TextUse) (count : ℕ) → IsUseOf text u → IsCount text count → IsTrue (has_words u.parameters count)
so_many_again text u count is m =
    let found : u.parameters ≡ Some (size_of m.0) = is.only (size_of m.0) (m.0, m.1, m.2, refl) in
    rw found (eq-eqb count (parameter_words_of m.0 + 1) m.3)

-- the words of the descriptor at an index
pub counted : (pool : List Constant) (index count : ℕ) (u : TextUse) → IsUseAt pool index u → IsTrue (has_words u.parameters count) ↔ IsCountIn (utf8_of (slice_get pool index)) count
counted pool index count u at =
    rw (at.1) (has_so_many at.0 u count u.parameters at.2 refl, so_many_again at.0 u count at.2)

pub not_counted : (pool : List Constant) (index count : ℕ) → (IsText pool index → ⊥) → IsTrue false ↔ IsCountIn (utf8_of (slice_get pool index)) count
not_counted pool index count none = (λ t. absurd cc, λ m. absurd (none (there (utf8_of (slice_get pool index)) refl m)))
  where
    there : (o : Option (List ℕ)) → utf8_of (slice_get pool index) ≡ o → IsCountIn o count → IsText pool index
    there None e m = absurd m
    there (Some text) e m = (text, text_is (slice_get pool index) text e)

-- a member whose name is there
pub named_member : (name : List ℕ) (descriptor : Option (List ℕ)) (count last : ℕ) → (IsTrue (may_call calls.Virtual name) × IsCountIn descriptor count × (last ≡ 0)) ↔ IsInterfaceMember (both_texts (Some name) descriptor) count last
named_member name None count last = (λ m. m.1, λ m. absurd m)
named_member name (Some descriptor) count last = (λ m. m, λ m. m)

interface_found : (pool : List Constant) (index class pair count last : ℕ) (o : Option (List ℕ × List ℕ)) → slice_get pool index ≡ Some (constants.IfaceMethod class pair) → name_and_type_of pool (slice_get pool pair) ≡ o
    → IsInterfaceMember o count last → IsInterfaceCall pool index count last
interface_found pool index class pair count last None is t m = absurd m
interface_found pool index class pair count last (Some x) is t m = record {
  class = class;
  pair = pair;
  name = x.0;
  descriptor = x.1;
  entry = is;
  named = name_and_type_is pool pair x t;
  callable = callable calls.Virtual x.0 m.0;
  words = m.1;
  zero = m.2;
}

pair_in_is : (c : Option Constant) (pair : ℕ) → interface_pair_in c ≡ Some pair → (class : ℕ) × (c ≡ Some (constants.IfaceMethod class pair))
pair_in_is (Some (constants.IfaceMethod class p)) pair e = (class, ap (λ (n : ℕ). Some (constants.IfaceMethod class n)) (same_Some p pair e))
pair_in_is _ pair e = absurd cc

pair_again : (pool : List Constant) (index count last : ℕ) (o : Option ℕ) → o ≡ interface_pair_in (slice_get pool index) → (m : IsInterfaceCall pool index count last) → o ≡ Some m.pair
pair_again pool index count last o is m = is ∙ ap interface_pair_in m.entry

interface_again : (pool : List Constant) (index pair count last : ℕ) → Some pair ≡ interface_pair_in (slice_get pool index) → IsInterfaceCall pool index count last
    → IsInterfaceMember (name_and_type_of pool (slice_get pool pair)) count last
interface_again pool index pair count last is m =
    let same : pair ≡ m.pair = same_Some pair m.pair (pair_again pool index count last (Some pair) is m) in
    let found : name_and_type_of pool (slice_get pool pair) ≡ Some (m.name, m.descriptor) = ap (λ (p : ℕ). name_and_type_of pool (slice_get pool p)) same ∙ name_and_type_again pool m.pair m.name m.descriptor m.named in
    rw found (callable_again calls.Virtual m.name m.callable, m.words, m.zero)

pub interface_member : (pool : List Constant) (index pair count last : ℕ) (b : Bool) → Some pair ≡ interface_pair_in (slice_get pool index)
    → (IsTrue b ↔ IsInterfaceMember (name_and_type_of pool (slice_get pool pair)) count last) → IsTrue b ↔ IsInterfaceCall pool index count last
interface_member pool index pair count last b is h =
    let entry = pair_in_is (slice_get pool index) pair (sym is) in
    (λ t. interface_found pool index entry.0 pair count last (name_and_type_of pool (slice_get pool pair)) entry.1 refl (h.0 t), λ m. h.1 (interface_again pool index pair count last is m))

-- an entry of another kind is called by no invokeinterface
pub no_interface : (pool : List Constant) (index count last : ℕ) → None ≡ interface_pair_in (slice_get pool index) → IsTrue false ↔ IsInterfaceCall pool index count last
no_interface pool index count last is = (λ t. absurd cc, λ m. let e = pair_again pool index count last None is m in absurd cc)
