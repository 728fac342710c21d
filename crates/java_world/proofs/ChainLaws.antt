-- The classes that are initialized with a class.
use Rattle.std.proofs.Common.{◌≡◌, ℕ, zero, suc, ◌-◌, ◌^◌, ◌<◌, ◌≤◌, Bool, true, false, cond, ◌&&◌, nat_lt, nat_le, List, [], ◌∷◌, length, slice_get, None, Some, refl, ap, ◌∙◌, arith}
use Rattle.std.specs.List.{filter}
use Rattle.std.specs.Option.{option_map_or}
use Rattle.std.proofs.lemmas.Bool.{le-ltb, lt-ltb, le-leb, lt-leb}
use Rattle.std.proofs.lemmas.Option.{slice_get_within}
use Rattle.std.proofs.Math.Bool.{and-false}
use Rattle.builtin_world.specs.declared.number.TheConstants.{OBJECT}
use Rattle.code_decode.specs.declared.code.ClassUnit.{ClassUnit}
use Rattle.link_rules.specs.Classes.{NamedClass, classes_of, superclass_of}
use Rattle.link_rules.specs.Names.{program_names, super_number}
use Rattle.link_rules.specs.Supers.{PutsSupersFirst, superclasses_within}
use Rattle.link_rules.proofs.Fields.{library_stays}
use Rattle.link_rules.proofs.Numbers.{class_count_is, past_super}
use Rattle.link_rules.proofs.Upward.{superclasses_step, up_none}
use Rattle.java_rows.specs.Program.{initialized_with, is_of_file}

with_class : Bool → ℕ → List ℕ → List ℕ
with_class b c above = cond b (c ∷ above) above

-- ---- classes of files

-- such a class, then those of its superclass
pub class_of_file : (us : List ClassUnit) (order : List ℕ) → PutsSupersFirst (classes_of us) order → (c : ℕ) → 28 < c → c ≤ length (classes_of us)
    → initialized_with us c ≡ c ∷ initialized_with us (superclass_of (classes_of us) c)
unfolding with_class
class_of_file us order first c high within =
    let cs : List NamedClass = classes_of us in
    let above : List ℕ = initialized_with us (superclass_of cs c) in
    ap (filter (is_of_file us)) (superclasses_step cs order first c (λ e. omega (arith, e)) within)
    ∙ ap (λ b. with_class (b && nat_le c (length cs)) c above) (lt-ltb 28 c high)
    ∙ ap (λ b. with_class b c above) (le-leb c (length cs) within)

-- ---- others

built_in : (us : List ClassUnit) (n c : ℕ) → c ≤ 28 → filter (is_of_file us) (superclasses_within (classes_of us) n c) ≡ []
unfolding with_class
built_in us zero c low = refl
built_in us (suc n) zero low = refl
built_in us (suc n) (suc c) low =
    let cs : List NamedClass = classes_of us in
    let above : List ℕ = filter (is_of_file us) (superclasses_within cs n (superclass_of cs (suc c))) in
    ap (λ b. with_class (b && nat_le (suc c) (length cs)) (suc c) above) (le-ltb 28 (suc c) low)
    ∙ built_in us n (superclass_of cs (suc c)) (library_stays us (suc c) low)

pub class_built_in : (us : List ClassUnit) (c : ℕ) → c ≤ 28 → initialized_with us c ≡ []
class_built_in us c low = built_in us (length (classes_of us)) c low

no_class : (us : List ClassUnit) (n c : ℕ) → length (classes_of us) < c → filter (is_of_file us) (superclasses_within (classes_of us) n c) ≡ []
unfolding with_class
no_class us zero c past = refl
no_class us (suc n) zero past = refl
no_class us (suc n) (suc c) past =
    let cs : List NamedClass = classes_of us in
    let above : List ℕ = filter (is_of_file us) (superclasses_within cs n (superclass_of cs (suc c))) in
    ap (λ b. with_class (nat_lt 28 (suc c) && b) (suc c) above) (lt-leb (suc c) (length cs) past)
    ∙ ap (λ b. with_class b (suc c) above) (and-false (nat_lt 28 (suc c)))
    ∙ ap (λ s. filter (is_of_file us) (superclasses_within cs n s)) (past_super cs (suc c) past)
    ∙ ap (filter (is_of_file us)) (up_none cs n)

pub past_classes : (us : List ClassUnit) (c : ℕ) → length (classes_of us) < c → initialized_with us c ≡ []
past_classes us c past = no_class us (length (classes_of us)) c past

-- ---- how many

within_few : (cs : List NamedClass) (n c : ℕ) → length (superclasses_within cs n c) ≤ n
within_few cs zero c = omega arith
within_few cs (suc n) zero = omega arith
within_few cs (suc n) (suc c) = omega (arith, within_few cs n (superclass_of cs (suc c)))

filter_few : (test : ℕ → Bool) (xs : List ℕ) → length (filter test xs) ≤ length xs
filter_few test [] = omega arith
filter_few test (x ∷ xs) = go (test x) (filter_few test xs)
  where
    go : (b : Bool) → length (filter test xs) ≤ length xs → length (cond b (x ∷ filter test xs) (filter test xs)) ≤ suc (length xs)
    go true few = omega (arith, few)
    go false few = omega (arith, few)

-- at most as many as there are classes
pub chain_few : (us : List ClassUnit) (c i d : ℕ) → length us ≤ 1024 → slice_get (initialized_with us c) i ≡ Some d → i < 2 ^ 16
chain_few us c i d few at =
    let cs : List NamedClass = classes_of us in
    let lt : i < length (initialized_with us c) = slice_get_within (initialized_with us c) i d at in
    omega (arith, class_count_is us, lt, few, filter_few (is_of_file us) (superclasses_within cs (length cs) c), within_few cs (length cs) c)

-- ---- upward

pub super_of_named : (us : List ClassUnit) (c : ℕ) → c ≤ length (classes_of us) → super_number (program_names us) c ≡ superclass_of (classes_of us) c
super_of_named us c within =
    ap (λ b. option_map_or (λ (name : List ℕ). OBJECT) (cond b None (slice_get (program_names us).arrays (c - suc (length (classes_of us))))) (superclass_of (classes_of us) c))
    (le-leb c (length (classes_of us)) within)
