-- What bytes are the descriptor of, as a function of them, is what the grammar says.
use Rattle.std.proofs.Common.{◌≡◌, ◌↔◌, ℕ, zero, suc, ◌≤◌, false, List, [], ◌∷◌, ◌++◌, length, Option, Some, None, option_map, ◌&&◌, eqb, leb, refl, sym, ap, ◌∙◌, subst, append_assoc, flat_map, arith, inl, inr, length-append}
use Rattle.std.specs.Prelude.{codes, bytes_eq}
use Rattle.std.specs.List.{AllByRecursion}
use Rattle.std.specs.Option.{option_map_or}
use Rattle.std.proofs.lemmas.Bool.{eqb-true, leb-true, le-leb, and_parts, false_from_ne_true}
use Rattle.std.proofs.lemmas.Slice.Eq.{bytes_eq-Decides}
use Rattle.std.proofs.lemmas.Option.{same_Some}
use Rattle.class_names.specs.declared.kind.Kind.{Kind}
use Rattle.class_names.specs.Descriptor.{kind_text, IsKind, parameter_words_of, return_text, IsFieldDescriptor, IsMethodDescriptor, KindsAt, ParametersAt, IsReturn}
use Rattle.class_names.specs.Reading.{base_at, kind_at}
use Rattle.class_names.specs.Kinds.{lone, field_kind, result_kind, behind_first, kinds_within, kinds_at, closed, method_kinds}
use Rattle.class_names.proofs.Cases.{chosen, mapped}
use Rattle.class_names.proofs.KindLaws.{kind_takes, kind_again, no_kind_at_close, no_kind_at_void}
use Rattle.class_names.proofs.ParameterLaws.{kind_full, behind_shorter}
use Rattle.class_names.proofs.DescriptorLaws.{field_read, read_field, method_parts, method_made}

-- ---- fields

no_bytes : (bytes : List ℕ) → length bytes ≡ 0 → bytes ≡ []
no_bytes [] e = refl
no_bytes (b ∷ bytes) e = absurd (omega arith)

lone_is : (bytes : List ℕ) (read : Option (Kind × List ℕ)) (kind : Kind) → kind_at bytes ≡ read → lone read ≡ Some kind → IsFieldDescriptor bytes kind
lone_is bytes None kind is e = absurd cc
lone_is bytes (Some x) kind is e =
    elim (chosen (eqb (length x.1) 0) (Some x.0) None (Some kind) e) [
      | inl t ↦ subst (λ (k : Kind). IsFieldDescriptor bytes k) (same_Some x.0 kind t.1) (field_read bytes x.0 x.1 is (no_bytes x.1 (eqb-true (length x.1) 0 t.0)))
      | inr t ↦ absurd (let no = t.1 in cc)
    ]

pub field_kind_again : (bytes : List ℕ) (kind : Kind) → IsFieldDescriptor bytes kind → field_kind bytes ≡ Some kind
field_kind_again bytes kind d = ap lone (read_field bytes kind d)

pub field_kind_is : (bytes : List ℕ) (kind : Kind) → (field_kind bytes ≡ Some kind) ↔ IsFieldDescriptor bytes kind
field_kind_is bytes kind = (lone_is bytes (kind_at bytes) kind refl, field_kind_again bytes kind)

-- ---- what is returned

void_is : (bytes : List ℕ) (returned : Option Kind) → Some None ≡ Some returned → bytes ≡ codes "V" → IsReturn bytes returned
void_is bytes returned e is = subst (λ (r : Option Kind). IsReturn bytes r) (same_Some None returned e) (record { good = tt; spelled = is })

kind_is : (bytes : List ℕ) (returned : Option Kind) → option_map (λ (kind : Kind). Some kind) (field_kind bytes) ≡ Some returned → IsReturn bytes returned
kind_is bytes returned e =
    let m = mapped (λ (kind : Kind). Some kind) (field_kind bytes) returned e in
    let d = (field_kind_is bytes m.0).0 m.1 in
    subst (λ (r : Option Kind). IsReturn bytes r) m.2 (record { good = d.good; spelled = d.spelled })

result_takes : (bytes : List ℕ) (returned : Option Kind) → result_kind bytes ≡ Some returned → IsReturn bytes returned
result_takes bytes returned e =
    elim (chosen (bytes_eq bytes (codes "V")) (Some None) (option_map (λ (kind : Kind). Some kind) (field_kind bytes)) (Some returned) e) [
      | inl t ↦ void_is bytes returned t.1 ((bytes_eq-Decides bytes (codes "V")).0 t.0)
      | inr t ↦ kind_is bytes returned t.1
    ]

kind_or_void : (bytes : List ℕ) (kind : Kind) → IsFieldDescriptor bytes kind → bytes_eq bytes (codes "V") ≡ false
kind_or_void bytes kind d =
    false_from_ne_true (bytes_eq bytes (codes "V"))
    (λ same.
    let read = read_field bytes kind d in
    let none : kind_at bytes ≡ None = ap kind_at ((bytes_eq-Decides bytes (codes "V")).0 same) ∙ no_kind_at_void in
    cc)

result_again : (bytes : List ℕ) (returned : Option Kind) → IsReturn bytes returned → result_kind bytes ≡ Some returned
result_again bytes None r = rw ((bytes_eq-Decides bytes (codes "V")).1 r.spelled) refl
result_again bytes (Some kind) r =
    let d : IsFieldDescriptor bytes kind = record { good = r.good; spelled = r.spelled } in
    rw (kind_or_void bytes kind d, field_kind_again bytes kind d) refl

pub result_kind_is : (bytes : List ℕ) (returned : Option Kind) → (result_kind bytes ≡ Some returned) ↔ IsReturn bytes returned
result_kind_is bytes returned = (result_takes bytes returned, result_again bytes returned)

-- ---- kinds one after the other

no_kind_in_nothing : kind_at [] ≡ None
unfolding kind_at base_at
no_kind_in_nothing = refl

first_kind : (bytes : List ℕ) (kind : Kind) (rest : List ℕ) (others : List Kind × List ℕ) → kind_at bytes ≡ Some (kind, rest) → KindsAt rest others.0 others.1 → KindsAt bytes (kind ∷ others.0) others.1
first_kind bytes kind rest others some is =
    let t = kind_takes bytes kind rest some in
    record {
      each = (t.good, is.each);
      spelled = t.spelled ∙ (ap (λ (xs : List ℕ). kind_text kind ++ xs) is.spelled ∙ sym (append_assoc (kind_text kind) (flat_map kind_text others.0) others.1));
    }

-- what is read, with a kind at the front or without one
abbrev going_on : ℕ → List ℕ → Option (Kind × List ℕ) → List Kind × List ℕ
going_on n bytes read = option_map_or (λ x. behind_first x.0 (kinds_within n x.1)) read ([], bytes)

kinds_by : (n : ℕ) (bytes : List ℕ) (read : Option (Kind × List ℕ)) → kind_at bytes ≡ read → ((rest : List ℕ) → KindsAt rest (kinds_within n rest).0 (kinds_within n rest).1)
    → KindsAt bytes (going_on n bytes read).0 (going_on n bytes read).1
kinds_by n bytes None e behind = record { each = tt; spelled = refl }
kinds_by n bytes (Some x) e behind = first_kind bytes x.0 x.1 (kinds_within n x.1) e (behind x.1)

kinds_take : (n : ℕ) (bytes : List ℕ) → KindsAt bytes (kinds_within n bytes).0 (kinds_within n bytes).1
unfolding kinds_within
kinds_take zero bytes = record { each = tt; spelled = refl }
kinds_take (suc n) bytes = kinds_by n bytes (kind_at bytes) refl (kinds_take n)

-- where there is no kind, the list ends
kinds_end : (n : ℕ) (bytes : List ℕ) → kind_at bytes ≡ None → kinds_within n bytes ≡ ([], bytes)
unfolding kinds_within
kinds_end zero bytes none = refl
kinds_end (suc n) bytes none = rw none refl

kinds_on : (n : ℕ) (bytes : List ℕ) (kind : Kind) (rest : List ℕ) → kind_at bytes ≡ Some (kind, rest) → kinds_within (suc n) bytes ≡ behind_first kind (kinds_within n rest)
unfolding kinds_within
kinds_on n bytes kind rest some = rw some refl

kinds_again : (kinds : List Kind) (n : ℕ) (rest : List ℕ) → AllByRecursion IsKind kinds → kind_at rest ≡ None → length kinds ≤ n → kinds_within n (flat_map kind_text kinds ++ rest) ≡ (kinds, rest)
kinds_again [] n rest each none few = kinds_end n rest none
kinds_again (kind ∷ kinds) zero rest each none few = absurd (omega arith)
kinds_again (kind ∷ kinds) (suc n) rest each none few =
    let text : flat_map kind_text (kind ∷ kinds) ++ rest ≡ kind_text kind ++ (flat_map kind_text kinds ++ rest) = append_assoc (kind_text kind) (flat_map kind_text kinds) rest in
    let here = kind_again kind (flat_map kind_text kinds ++ rest) each.0 in
    let more = kinds_again kinds n rest each.1 none (omega arith) in
    ap (kinds_within (suc n)) text ∙ (kinds_on n (kind_text kind ++ (flat_map kind_text kinds ++ rest)) kind (flat_map kind_text kinds ++ rest) here ∙ ap (behind_first kind) more)

-- no more kinds than bytes
few_kinds : (kinds : List Kind) → length kinds ≤ length (flat_map kind_text kinds)
few_kinds [] = omega arith
few_kinds (kind ∷ kinds) = omega (arith, kind_full kind, few_kinds kinds, length-append (kind_text kind) (flat_map kind_text kinds))

nothing_same : (n m : ℕ) (bytes : List ℕ) → length bytes ≡ 0 → kinds_within n bytes ≡ kinds_within m bytes
nothing_same n m bytes empty =
    let none : kind_at bytes ≡ None = ap kind_at (no_bytes bytes empty) ∙ no_kind_in_nothing in
    kinds_end n bytes none ∙ sym (kinds_end m bytes none)

same_by : (n m : ℕ) (bytes : List ℕ) (read : Option (Kind × List ℕ)) → kind_at bytes ≡ read → length bytes ≤ suc n → length bytes ≤ suc m
    → ((rest : List ℕ) → length rest ≤ n → length rest ≤ m → kinds_within n rest ≡ kinds_within m rest) → kinds_within (suc n) bytes ≡ kinds_within (suc m) bytes
same_by n m bytes None e enough more behind = kinds_end (suc n) bytes e ∙ sym (kinds_end (suc m) bytes e)
same_by n m bytes (Some x) e enough more behind =
    let shorter = behind_shorter bytes x.0 x.1 e in
    let rest = behind x.1 (omega arith) (omega arith) in
    kinds_on n bytes x.0 x.1 e ∙ (ap (behind_first x.0) rest ∙ sym (kinds_on m bytes x.0 x.1 e))

-- as many as there are bytes are all
kinds_same : (n m : ℕ) (bytes : List ℕ) → length bytes ≤ n → length bytes ≤ m → kinds_within n bytes ≡ kinds_within m bytes
kinds_same zero m bytes enough more = nothing_same zero m bytes (omega arith)
kinds_same (suc n) zero bytes enough more = nothing_same (suc n) zero bytes (omega arith)
kinds_same (suc n) (suc m) bytes enough more = same_by n m bytes (kind_at bytes) refl enough more (kinds_same n m)

-- the first of the kinds, and the others
pub kinds_first : (bytes : List ℕ) (kind : Kind) (rest : List ℕ) → kind_at bytes ≡ Some (kind, rest) → kinds_at bytes ≡ behind_first kind (kinds_at rest)
kinds_first bytes kind rest some =
    let shorter = behind_shorter bytes kind rest some in
    let n = length bytes in
    kinds_same n (suc n) bytes (omega arith) (omega arith) ∙ (kinds_on n bytes kind rest some ∙ ap (behind_first kind) (kinds_same n (length rest) rest (omega arith) (omega arith)))

pub kinds_none : (bytes : List ℕ) → kind_at bytes ≡ None → kinds_at bytes ≡ ([], bytes)
kinds_none bytes none = kinds_end (length bytes) bytes none

-- the parameters that are there are the ones that are read
pub parameters_again : (bytes : List ℕ) (kinds : List Kind) (rest : List ℕ) → ParametersAt bytes kinds rest → kinds_at bytes ≡ (kinds, 41 ∷ rest)
parameters_again bytes kinds rest p =
    let enough : length kinds ≤ length bytes = omega (arith, ap length p.spelled, length-append (flat_map kind_text kinds) (41 ∷ rest), few_kinds kinds) in
    ap (kinds_within (length bytes)) p.spelled ∙ kinds_again kinds (length bytes) (41 ∷ rest) p.each (no_kind_at_close rest) enough

-- ---- methods

closed_takes : (kinds : List Kind) (after bytes : List ℕ) (x : List Kind × Option Kind) → KindsAt bytes kinds after → closed kinds after ≡ Some x
    → (rest : List ℕ) × ParametersAt bytes x.0 rest × IsReturn rest x.1
closed_takes kinds [] bytes x is e = absurd cc
closed_takes kinds (b ∷ rest) bytes x is e =
    elim (chosen (eqb b 41 && leb (parameter_words_of kinds) 255) (option_map (λ (returned : Option Kind). (kinds, returned)) (result_kind rest)) None (Some x) e) [
      | inl t ↦
          let both = and_parts (eqb b 41) (leb (parameter_words_of kinds) 255) t.0 in
          let m = mapped (λ (returned : Option Kind). (kinds, returned)) (result_kind rest) x t.1 in
          let here : ParametersAt bytes kinds rest = record {
            each = is.each;
            words = leb-true (parameter_words_of kinds) 255 both.1;
            spelled = is.spelled ∙ ap (λ (c : ℕ). flat_map kind_text kinds ++ c ∷ rest) (eqb-true b 41 both.0);
          } in
          subst (λ (y : List Kind × Option Kind). (after : List ℕ) × ParametersAt bytes y.0 after × IsReturn after y.1) m.2 (rest, here, result_takes rest m.0 m.1)
      | inr t ↦ absurd (let no = t.1 in cc)
    ]

method_takes : (bytes : List ℕ) (x : List Kind × Option Kind) → method_kinds bytes ≡ Some x → IsMethodDescriptor bytes x.0 x.1
method_takes [] x e = absurd cc
method_takes (b ∷ bytes) x e =
    elim (chosen (eqb b 40) (closed (kinds_at bytes).0 (kinds_at bytes).1) None (Some x) e) [
      | inl t ↦
          let c = closed_takes (kinds_at bytes).0 (kinds_at bytes).1 bytes x (kinds_take (length bytes) bytes) t.1 in
          method_made (b ∷ bytes) bytes c.0 x.0 x.1 (ap (λ (a : ℕ). a ∷ bytes) (eqb-true b 40 t.0)) c.1 c.2
      | inr t ↦ absurd (let no = t.1 in cc)
    ]

closed_again : (kinds : List Kind) (rest : List ℕ) (returned : Option Kind) → parameter_words_of kinds ≤ 255 → IsReturn rest returned → closed kinds (41 ∷ rest) ≡ Some (kinds, returned)
closed_again kinds rest returned few is = rw (le-leb (parameter_words_of kinds) 255 few, result_again rest returned is) refl

opened : (bytes : List ℕ) → method_kinds (40 ∷ bytes) ≡ closed (kinds_at bytes).0 (kinds_at bytes).1
opened bytes = refl

pub method_again : (bytes : List ℕ) (parameters : List Kind) (returned : Option Kind) → IsMethodDescriptor bytes parameters returned → method_kinds bytes ≡ Some (parameters, returned)
method_again bytes parameters returned d =
    let text = flat_map kind_text parameters ++ 41 ∷ return_text returned in
    let p = method_parts bytes text parameters returned d.spelled d in
    let read = parameters_again text parameters (return_text returned) p in
    ap method_kinds d.spelled ∙ (opened text ∙ (ap (λ (x : List Kind × List ℕ). closed x.0 x.1) read
    ∙ closed_again parameters (return_text returned) returned d.good.words (record { good = d.good.result; spelled = refl })))

pub method_kinds_are : (bytes : List ℕ) (parameters : List Kind) (returned : Option Kind) → (method_kinds bytes ≡ Some (parameters, returned)) ↔ IsMethodDescriptor bytes parameters returned
method_kinds_are bytes parameters returned = (method_takes bytes (parameters, returned), method_again bytes parameters returned)

-- where nothing is described, the functions give nothing
pub field_kind_none : (bytes : List ℕ) → ((kind : Kind) → IsFieldDescriptor bytes kind → ⊥) → field_kind bytes ≡ None
field_kind_none bytes none = by_answer (field_kind bytes) (λ kind e. none kind ((field_kind_is bytes kind).0 e))
  where
    by_answer : (o : Option Kind) → ((kind : Kind) → o ≡ Some kind → ⊥) → o ≡ None
    by_answer None never = refl
    by_answer (Some kind) never = absurd (never kind refl)

pub method_kinds_none : (bytes : List ℕ) → ((parameters : List Kind) (returned : Option Kind) → IsMethodDescriptor bytes parameters returned → ⊥) → method_kinds bytes ≡ None
method_kinds_none bytes none = by_answer (method_kinds bytes) (λ x e. none x.0 x.1 (method_takes bytes x e))
  where
    by_answer : (o : Option (List Kind × Option Kind)) → ((x : List Kind × Option Kind) → o ≡ Some x → ⊥) → o ≡ None
    by_answer None never = refl
    by_answer (Some x) never = absurd (never x refl)

-- the parameters up to their ) and what is returned are the descriptor
pub shape_made : (bytes text after : List ℕ) (kinds parameters : List Kind) (returned : Option Kind) → bytes ≡ 40 ∷ text → ParametersAt text kinds after → IsReturn after returned → parameters ≡ (kinds_at text).0
    → (parameters ≡ kinds) × IsMethodDescriptor bytes parameters returned
shape_made bytes text after kinds parameters returned is p r read =
    let same : parameters ≡ kinds = read ∙ ap (λ (x : List Kind × List ℕ). x.0) (parameters_again text kinds after p) in
    (same, subst (λ (ks : List Kind). IsMethodDescriptor bytes ks returned) (sym same) (method_made bytes text after kinds returned is p r))
