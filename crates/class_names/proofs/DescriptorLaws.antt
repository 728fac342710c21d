-- Whole descriptors.
use Rattle.std.proofs.Common.{◌≡◌, ◌≢◌, ℕ, zero, suc, ◌<◌, List, [], ◌∷◌, ◌++◌, Option, Some, None, refl, sym, ap, ◌∙◌, flat_map, arith}
use Rattle.std.proofs.lemmas.List.{append-nil}
use Rattle.class_names.specs.declared.kind.BaseKind.{BaseKind}
use Rattle.class_names.specs.declared.kind.Kind.{Kind}
use Rattle.class_names.specs.declared.kind.Kind.TheVariants.{Array}
use Rattle.class_names.specs.declared.kind.Descriptor.{Descriptor}
use Rattle.class_names.specs.declared.kind.Descriptor.TheVariants.{Field, Method}
use Rattle.class_names.specs.Descriptor.{kind_text, kind_of_dimensions, return_text, IsFieldDescriptor, IsMethodDescriptor, IsDescriptorOf, ParametersAt, IsReturn}
use Rattle.class_names.specs.Reading.{kind_at}
use Rattle.class_names.proofs.Cases.{first_same, second_same}
use Rattle.class_names.proofs.KindLaws.{kind_takes, kind_again, no_kind_at_void, no_kind_at_open}
use Rattle.class_names.proofs.ParameterLaws.{one_list}

pub field_read : (bytes : List ℕ) (kind : Kind) (rest : List ℕ) → kind_at bytes ≡ Some (kind, rest) → rest ≡ [] → IsFieldDescriptor bytes kind
field_read bytes kind rest some empty =
    let t = kind_takes bytes kind rest some in
    record { good = t.good; spelled = t.spelled ∙ (ap (λ (xs : List ℕ). kind_text kind ++ xs) empty ∙ append-nil (kind_text kind)) }

pub read_field : (bytes : List ℕ) (kind : Kind) → IsFieldDescriptor bytes kind → kind_at bytes ≡ Some (kind, [])
read_field bytes kind d = ap kind_at (d.spelled ∙ sym (append-nil (kind_text kind))) ∙ kind_again kind [] d.good

pub field_none : (bytes : List ℕ) (kind : Kind) → kind_at bytes ≡ None → IsFieldDescriptor bytes kind → ⊥
field_none bytes kind none d = let some = read_field bytes kind d in cc

pub field_longer : (bytes : List ℕ) (other : Kind) (rest : List ℕ) (kind : Kind) → kind_at bytes ≡ Some (other, rest) → rest ≢ [] → IsFieldDescriptor bytes kind → ⊥
field_longer bytes other rest kind some full d = full (second_same (other, rest) (kind, []) (sym some ∙ read_field bytes kind d))

-- one text describes one kind
pub one_field : (bytes : List ℕ) (kind other : Kind) → IsFieldDescriptor bytes kind → IsFieldDescriptor bytes other → kind ≡ other
one_field bytes kind other d e = first_same (kind, []) (other, []) (sym (read_field bytes kind d) ∙ read_field bytes other e)

-- ---- arrays

pub array_read : (n : ℕ) (bytes : List ℕ) (base : BaseKind) → 0 < n → IsFieldDescriptor bytes (kind_of_dimensions n base) → (dimensions : ℕ) × (other : BaseKind) × IsFieldDescriptor bytes (Array dimensions other)
array_read zero bytes base lt d = absurd (omega arith)
array_read (suc n) bytes base lt d = (suc n, base, d)

pub array_dimensions : (n : ℕ) (base : BaseKind) (dimensions : ℕ) (other : BaseKind) → kind_of_dimensions n base ≡ Array dimensions other → 0 < n
array_dimensions zero base dimensions other e = absurd cc
array_dimensions (suc n) base dimensions other e = omega arith

pub read_array : (n : ℕ) (bytes : List ℕ) (base : BaseKind) → IsFieldDescriptor bytes (kind_of_dimensions n base) → (x : (dimensions : ℕ) × (other : BaseKind) × IsFieldDescriptor bytes (Array dimensions other)) → 0 < n
read_array n bytes base d x = array_dimensions n base x.0 x.1 (one_field bytes (kind_of_dimensions n base) (Array x.0 x.1) d x.2)

-- ---- what is returned

pub return_void : (bytes : List ℕ) → bytes ≡ 86 ∷ [] → IsReturn bytes None
return_void bytes is = record { good = tt; spelled = is }

pub return_kind : (bytes : List ℕ) (kind : Kind) → IsFieldDescriptor bytes kind → IsReturn bytes (Some kind)
return_kind bytes kind d = record { good = d.good; spelled = d.spelled }

pub return_none : (bytes : List ℕ) → bytes ≢ 86 ∷ [] → ((kind : Kind) → IsFieldDescriptor bytes kind → ⊥) → (returned : Option Kind) → IsReturn bytes returned → ⊥
return_none bytes void none None r = void r.spelled
return_none bytes void none (Some kind) r = none kind (record { good = r.good; spelled = r.spelled })

-- ---- methods

pub method_parts : (bytes rest : List ℕ) (parameters : List Kind) (returned : Option Kind) → bytes ≡ 40 ∷ rest → IsMethodDescriptor bytes parameters returned → ParametersAt rest parameters (return_text returned)
method_parts bytes rest parameters returned is d =
    record { each = d.good.each; words = d.good.words; spelled = let e = sym is ∙ d.spelled in cc }

pub method_made : (bytes rest after : List ℕ) (parameters : List Kind) (returned : Option Kind) → bytes ≡ 40 ∷ rest → ParametersAt rest parameters after → IsReturn after returned → IsMethodDescriptor bytes parameters returned
method_made bytes rest after parameters returned is p r =
    record {
      good = record { each = p.each; words = p.words; result = r.good };
      spelled = is ∙ ap (λ (xs : List ℕ). 40 ∷ xs) (p.spelled ∙ ap (λ (xs : List ℕ). flat_map kind_text parameters ++ 41 ∷ xs) r.spelled);
    }

pub method_return : (bytes rest after : List ℕ) (kinds parameters : List Kind) (returned : Option Kind) → bytes ≡ 40 ∷ rest → ParametersAt rest kinds after → IsMethodDescriptor bytes parameters returned → (parameters ≡ kinds) × IsReturn after returned
method_return bytes rest after kinds parameters returned is p d =
    let one = one_list rest kinds parameters after (return_text returned) p (method_parts bytes rest parameters returned is d) in
    (one.0, record { good = d.good.result; spelled = one.1 })

void_or_kind : (bytes : List ℕ) (kind : Kind) → bytes ≡ 86 ∷ [] → IsFieldDescriptor bytes kind → ⊥
void_or_kind bytes kind is d =
    let some = read_field bytes kind d in
    let none : kind_at bytes ≡ None = ap kind_at is ∙ no_kind_at_void in
    cc

opens : (bytes rest : List ℕ) (kind : Kind) → IsFieldDescriptor bytes kind → bytes ≡ 40 ∷ rest → ⊥
opens bytes rest kind d is =
    let some = read_field bytes kind d in
    let none : kind_at bytes ≡ None = ap kind_at is ∙ no_kind_at_open rest in
    cc

one_return : (bytes : List ℕ) (returned other : Option Kind) → IsReturn bytes returned → IsReturn bytes other → returned ≡ other
one_return bytes None None r s = refl
one_return bytes None (Some kind) r s = absurd (void_or_kind bytes kind r.spelled (record { good = s.good; spelled = s.spelled }))
one_return bytes (Some kind) None r s = absurd (void_or_kind bytes kind s.spelled (record { good = r.good; spelled = r.spelled }))
one_return bytes (Some kind) (Some other) r s = ap (λ (k : Kind). Some k) (one_field bytes kind other (record { good = r.good; spelled = r.spelled }) (record { good = s.good; spelled = s.spelled }))

pub method_opens : (bytes : List ℕ) (parameters : List Kind) (returned : Option Kind) → ((rest : List ℕ) → bytes ≡ 40 ∷ rest → ⊥) → IsMethodDescriptor bytes parameters returned → ⊥
method_opens bytes parameters returned none d = none _ d.spelled

pub one_method : (bytes : List ℕ) (parameters others : List Kind) (returned other : Option Kind) → IsMethodDescriptor bytes parameters returned → IsMethodDescriptor bytes others other → (parameters ≡ others) × (returned ≡ other)
one_method bytes parameters others returned other d e =
    let p = method_parts bytes _ parameters returned d.spelled d in
    let q = method_return bytes _ (return_text returned) parameters others other d.spelled p e in
    (sym q.0, one_return (return_text returned) returned other (record { good = d.good.result; spelled = refl }) q.1)

field_or_method : (bytes : List ℕ) (kind : Kind) (parameters : List Kind) (returned : Option Kind) → IsFieldDescriptor bytes kind → IsMethodDescriptor bytes parameters returned → ⊥
field_or_method bytes kind parameters returned d e = opens bytes _ kind d e.spelled

-- no text describes two things
pub one_descriptor : (bytes : List ℕ) (d e : Descriptor) → IsDescriptorOf bytes d → IsDescriptorOf bytes e → d ≡ e
one_descriptor bytes (Field kind) (Field other) d e = ap (λ (k : Kind). Field k) (one_field bytes kind other d e)
one_descriptor bytes (Field kind) (Method parameters returned) d e = absurd (field_or_method bytes kind parameters returned d e)
one_descriptor bytes (Method parameters returned) (Field kind) d e = absurd (field_or_method bytes kind parameters returned e d)
one_descriptor bytes (Method parameters returned) (Method others other) d e =
    let one = one_method bytes parameters others returned other d e in
    rw (one.0, one.1) refl

pub none_described : (bytes : List ℕ) → ((kind : Kind) → IsFieldDescriptor bytes kind → ⊥) → ((parameters : List Kind) (returned : Option Kind) → IsMethodDescriptor bytes parameters returned → ⊥) → (d : Descriptor) → IsDescriptorOf bytes d → ⊥
none_described bytes field method (Field kind) d = field kind d
none_described bytes field method (Method parameters returned) d = method parameters returned d
