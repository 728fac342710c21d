-- Members by the numbers of their references.
use Rattle.std.proofs.Common.{min, inl, inr, ◌++◌, ◌∷◌, ◌≡◌, ◌≢◌, ◌≤◌, ℕ, Bool, true, false, not, List, [], length, slice_get, Option, None, Some, refl, sym, ◌∙◌, ap, subst, arith, unwrap_or, IfSome, ◌==◌}
use Rattle.std.specs.Option.{option_map, option_map_or}
use Rattle.std.proofs.lemmas.Option.{same_Some, slice_get_past, slice_get-get_or}
use Rattle.std.proofs.lemmas.Bool.{ne_eqb, cases_lt}
use Rattle.access_flags.specs.declared.TheConstants.{ABSTRACT}
use Rattle.access_flags.specs.Flags.{has}
use Rattle.class_walk.specs.declared.class.Constant.{Constant}
use Rattle.class_walk.specs.declared.class.Constant.TheVariants.{Field, Method, IfaceMethod}
use Rattle.class_pool.specs.Pool.{Reference, reference_of}
use Rattle.class_pool.specs.Lookup.{class_name_of, class_and_member, reference_in}
use Rattle.class_pool.proofs.Lists.{slice_get-push}
use Rattle.class_texts.specs.Texts.{ProgramTexts}
use Rattle.link_rules.specs.Classes.{NamedClass, classes_of, class_number, class_name_at, reference_at}
use Rattle.link_rules.specs.Descriptors.{named_kind, class_of_kind}
use Rattle.link_rules.specs.LinkRules.{IsClassThere}
use Rattle.link_rules.specs.Members.{Declared}
use Rattle.member_lookup.specs.declared.found.Found.{Found}
use Rattle.member_lookup.specs.declared.found.ReferenceNumbers.{ReferenceNumbers}
use Rattle.member_lookup.specs.Found.{found_of, AreNumbers, AreNumbersOf}
use Rattle.use_rules.specs.declared.classes.ClassFacts.{ClassFacts}
use Rattle.use_rules.specs.Facts.{class_entry, class_facts, is_class_there, AreFactsOf, or_none}
use Rattle.use_rules.specs.declared.members.MemberFacts.{MemberFacts}

class_and : (class : Option (List ℕ)) (member : Option (List ℕ × List ℕ)) (r : Reference) → class_and_member class member ≡ Some r → class ≡ Some r.class
class_and None m r e = absurd cc
class_and (Some c) None r e = absurd cc
class_and (Some c) (Some m) r e = ap (λ (x : Reference). Some x.class) (same_Some _ r e)

-- the entry of a reference has the Class entry of its class
pub class_is : (pool : List Constant) (o : Option Constant) (r : Reference) → reference_in pool o ≡ Some r → class_name_of pool (slice_get pool (class_entry o)) ≡ Some r.class
class_is pool (Some (Field c p)) r e = class_and _ _ r e
class_is pool (Some (Method c p)) r e = class_and _ _ r e
class_is pool (Some (IfaceMethod c p)) r e = class_and _ _ r e
class_is pool _ r e = absurd cc

pub concrete_is : (o : Option Declared) → option_map_or (λ (m : Found). not (has m.flags ABSTRACT)) (option_map found_of o) false ≡ option_map_or (λ (m : Declared). not (has m.member.flags ABSTRACT)) o false
concrete_is None = refl
concrete_is (Some d) = refl

-- a class is there where the test says so

go_there : (cs : List NamedClass) (o : Option (List ℕ)) → option_map_or (λ n. not (class_number cs n == 0)) o true ≡ true → IfSome o (λ n. class_number cs n ≢ 0)
go_there cs None e = tt
go_there cs (Some n) e = λ z. cc

pub class_there : (cs : List NamedClass) (k : ℕ) (name : List ℕ) → is_class_there cs name ≡ true → IsClassThere cs k name
class_there cs k name e = go_there cs (class_of_kind (named_kind name)) e

go_missing : (cs : List NamedClass) (o : Option (List ℕ)) → option_map_or (λ n. not (class_number cs n == 0)) o true ≡ false → ¬ IfSome o (λ n. class_number cs n ≢ 0)
go_missing cs None e = absurd cc
go_missing cs (Some n) e = λ some. let f = ne_eqb (class_number cs n) 0 some in cc

pub class_missing : (cs : List NamedClass) (k : ℕ) (name : List ℕ) → is_class_there cs name ≡ false → ¬ IsClassThere cs k name
class_missing cs k name e = go_missing cs (class_of_kind (named_kind name)) e

-- a reference that has numbers is there
pub record IsNumbered (p : ProgramTexts) (o : Option Reference) (n : ReferenceNumbers) : Type 0 where
  pub reference : Reference
  pub is : o ≡ Some reference
  pub numbers : AreNumbers p n reference
  pub within : n.holder ≤ length (classes_of p.units)

pub numbered : (p : ProgramTexts) (o : Option Reference) (n : ReferenceNumbers) → AreNumbersOf p o (Some n) → IsNumbered p o n
numbered p None n are = absurd are
numbered p (Some r) n are = record { reference = r; is = refl; numbers = are.0; within = are.1 }

-- where there is no reference, its class isn't there
pub no_class : (cs : List NamedClass) (k : ℕ) → class_number cs [] ≡ 0 → ¬ IsClassThere cs k []
no_class cs k none = λ there. there none

-- the class of a reference is there as the class is that its entry has
pub there_is : (cs : List NamedClass) (pool : List Constant) (at i : ℕ) (r : Reference) (f : ClassFacts) → reference_in pool (slice_get pool at) ≡ Some r → i ≡ class_entry (slice_get pool at)
    → f ≡ class_facts cs (class_name_at pool i) → f.is_there ≡ is_class_there cs (reference_at pool at).class
there_is cs pool at i r f is entry known =
    ap (λ (x : ClassFacts). x.is_there) known
    ∙ ap (λ j. is_class_there cs (class_name_at pool j)) entry
    ∙ ap (λ o. is_class_there cs (unwrap_or o [])) (class_is pool (slice_get pool at) r is)
    ∙ sym (ap (λ o. is_class_there cs (unwrap_or o (reference_of [] [] [])).class) is)

pub not_false : (b : Bool) → not b ≡ false → b ≡ true
not_false true e = refl
not_false false e = absurd cc

-- what holds of each item, and of one more after them
pub pushed : {X : Type 0} (P : ℕ → X → Type 0) (xs : List X) (x : X) → ((i : ℕ) (y : X) → slice_get xs i ≡ Some y → P i y) → P (length xs) x
    → (i : ℕ) (y : X) → slice_get (xs ++ x ∷ []) i ≡ Some y → P i y
pushed P xs x all here i y at =
    elim (slice_get-push xs x y i at) [
      | inl old ↦ all i y old
      | inr last ↦ subst (λ z. P i z) last.1 (subst (λ j. P j x) (sym last.0) here)
    ]

-- facts of the first entries are those of all that an index can name
pub table_is : (cs : List NamedClass) (k : ℕ) (pool : List Constant) (table : List (Option MemberFacts)) → class_number cs [] ≡ 0
    → ((i : ℕ) (x : Option MemberFacts) → slice_get table i ≡ Some x → AreFactsOf cs k (reference_at pool i) x)
    → ((i : ℕ) → length table ≤ i → i ≤ 65535 → length pool ≤ i)
    → (i : ℕ) → i ≤ 65535 → AreFactsOf cs k (reference_at pool i) (or_none (slice_get table i))
table_is cs k pool table none all short i le = go (slice_get table i) refl
  where
    past : length table ≤ i → AreFactsOf cs k (reference_at pool i) None
    past ge = subst (λ o. ¬ IsClassThere cs k (unwrap_or (reference_in pool o) (reference_of [] [] [])).class) (sym (slice_get_past pool i (short i ge le))) (no_class cs k none)

    go : (o : Option (Option MemberFacts)) → slice_get table i ≡ o → AreFactsOf cs k (reference_at pool i) (or_none o)
    go (Some x) e = all i x e
    go None e = elim (cases_lt i (length table)) [
      | inl lt ↦ let some = slice_get-get_or table i None lt in cc
      | inr ge ↦ past ge
    ]

pub within_min : (n end i : ℕ) → end ≡ min n 65536 → end ≤ i → i ≤ 65535 → n ≤ i
within_min n end i is ge le = elim (cases_lt n 65536) [
  | inl lt ↦ omega (arith, is, ge, le, lt)
  | inr more ↦ omega (arith, is, ge, le, more)
]
