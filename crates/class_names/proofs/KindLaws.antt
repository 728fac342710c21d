-- The kind that is read from the front is the one that is there.
use Rattle.std.proofs.Common.{◌≡◌, ℕ, zero, suc, ◌≤◌, false, cond, List, [], ◌∷◌, ◌++◌, length, take, drop, replicate, Option, Some, None, option_map, eqb, leb, refl, sym, ap, ◌∙◌, subst, append_assoc, arith, ◌+◌, ◌<◌, get_or, add-one, drop-cons, inl, inr}
use Rattle.std.proofs.lemmas.Bool.{cases_Bool, eqb-true, leb-true, le-leb}
use Rattle.std.proofs.lemmas.Option.{same_Some}
use Rattle.std.proofs.lemmas.List.{take_more, append-nil, drop_all}
use Rattle.std.specs.List.{AllByRecursion, prefix_len}
use Rattle.class_names.specs.declared.kind.BaseKind.{BaseKind}
use Rattle.class_names.specs.declared.kind.BaseKind.TheVariants.{Int, Byte, Char, Short, Boolean, Long, Float, Double, Class}
use Rattle.class_names.specs.declared.kind.Kind.{Kind}
use Rattle.class_names.specs.declared.kind.Kind.TheVariants.{Base, Array}
use Rattle.class_names.specs.Descriptor.{base_text, kind_text, IsBaseKind, IsKind, kind_of_dimensions}
use Rattle.class_names.specs.Reading.{spells_class_name, split_at_semicolon, class_from, base_at, is_bracket, kind_at}
use Rattle.class_names.proofs.Cases.{chosen, mapped}
use Rattle.class_names.proofs.NameLaws.{spells_name, name_spelled, other_than_semicolon}

split_takes : (bs : List ℕ) (x : List ℕ × List ℕ) → split_at_semicolon bs ≡ Some x → bs ≡ x.0 ++ 59 ∷ x.1
unfolding split_at_semicolon
split_takes [] x e = absurd cc
split_takes (b ∷ bs) x e =
    elim (chosen (eqb b 59) (Some ([], bs)) (option_map (λ (y : List ℕ × List ℕ). (b ∷ y.0, y.1)) (split_at_semicolon bs)) (Some x) e) [
      | inl t ↦ subst (λ (y : List ℕ × List ℕ). b ∷ bs ≡ y.0 ++ 59 ∷ y.1) (same_Some ([], bs) x t.1) (ap (λ (c : ℕ). c ∷ bs) (eqb-true b 59 t.0))
      | inr t ↦
          let m = mapped (λ (y : List ℕ × List ℕ). (b ∷ y.0, y.1)) (split_at_semicolon bs) x t.1 in
          subst (λ (y : List ℕ × List ℕ). b ∷ bs ≡ y.0 ++ 59 ∷ y.1) m.2 (ap (λ (xs : List ℕ). b ∷ xs) (split_takes bs m.0 m.1))
    ]

split_again : (name rest : List ℕ) → AllByRecursion (λ b. eqb b 59 ≡ false) name → split_at_semicolon (name ++ 59 ∷ rest) ≡ Some (name, rest)
unfolding split_at_semicolon
split_again [] rest h = refl
split_again (b ∷ bs) rest h = rw (h.0, split_again bs rest h.1) refl

-- what was gone over, before what a split of the rest gives
abbrev pub before : List ℕ → Option (List ℕ × List ℕ) → Option (List ℕ × List ℕ)
before front read = option_map (λ (x : List ℕ × List ℕ). (front ++ x.0, x.1)) read

regroup : (front : List ℕ) (b : ℕ) (read : Option (List ℕ × List ℕ)) → before front (option_map (λ (x : List ℕ × List ℕ). (b ∷ x.0, x.1)) read) ≡ before (front ++ b ∷ []) read
regroup front b None = refl
regroup front b (Some x) = ap (λ (xs : List ℕ). Some (xs, x.1)) (sym (append_assoc front (b ∷ []) x.0))

pub split_here : (bs : List ℕ) (i : ℕ) → i < length bs → get_or bs i 0 ≡ 59 → before (take i bs) (split_at_semicolon (drop i bs)) ≡ Some (take i bs, drop (i + 1) bs)
unfolding split_at_semicolon
split_here bs i lt is = rw (add-one, drop-cons bs i 0 lt, is, append-nil) refl

pub split_on : (bs : List ℕ) (i : ℕ) → i < length bs → eqb (get_or bs i 0) 59 ≡ false
    → before (take i bs) (split_at_semicolon (drop i bs)) ≡ before (take (i + 1) bs) (split_at_semicolon (drop (i + 1) bs))
unfolding split_at_semicolon
split_on bs i lt isnt =
    let one : split_at_semicolon (drop i bs) ≡ option_map (λ (x : List ℕ × List ℕ). (get_or bs i 0 ∷ x.0, x.1)) (split_at_semicolon (drop (i + 1) bs)) = rw (add-one, drop-cons bs i 0 lt, isnt) refl in
    rw (one, take_more bs i 0 lt) (regroup (take i bs) (get_or bs i 0) (split_at_semicolon (drop (i + 1) bs)))

pub split_end : (bs : List ℕ) (i : ℕ) → length bs ≤ i → before (take i bs) (split_at_semicolon (drop i bs)) ≡ None
unfolding split_at_semicolon
split_end bs i le = rw (drop_all i bs le) refl

-- what is at the front of the bytes, and what comes after it
record TakesBase (bytes : List ℕ) (x : BaseKind × List ℕ) : Type 0 where
  good : IsBaseKind x.0
  spelled : bytes ≡ base_text x.0 ++ x.1

letter : (b n : ℕ) (bs : List ℕ) (kind : BaseKind) (other : Option (BaseKind × List ℕ)) (x : BaseKind × List ℕ) → IsBaseKind kind → base_text kind ≡ n ∷ []
    → (other ≡ Some x → TakesBase (b ∷ bs) x) → cond (eqb b n) (Some (kind, bs)) other ≡ Some x → TakesBase (b ∷ bs) x
letter b n bs kind other x good text go e =
    elim (chosen (eqb b n) (Some (kind, bs)) other (Some x) e) [
      | inl t ↦
          let is : b ≡ n = eqb-true b n t.0 in
          let here : TakesBase (b ∷ bs) (kind, bs) = record { good = good; spelled = rw (text, is) refl } in
          subst (λ (y : BaseKind × List ℕ). TakesBase (b ∷ bs) y) (same_Some (kind, bs) x t.1) here
      | inr t ↦ go t.1
    ]

class_takes : (bs : List ℕ) (read : Option (List ℕ × List ℕ)) (x : BaseKind × List ℕ) → split_at_semicolon bs ≡ read → class_from read ≡ Some x → TakesBase (76 ∷ bs) x
class_takes bs None x is e = absurd cc
class_takes bs (Some y) x is e =
    elim (chosen (spells_class_name false y.0) (Some (Class y.0, y.1)) None (Some x) e) [
      | inl t ↦
          let here : TakesBase (76 ∷ bs) (Class y.0, y.1) = record { good = name_spelled y.0 t.0; spelled = ap (λ (xs : List ℕ). 76 ∷ xs) (split_takes bs y is ∙ sym (append_assoc y.0 (59 ∷ []) y.1)) } in
          subst (λ (z : BaseKind × List ℕ). TakesBase (76 ∷ bs) z) (same_Some (Class y.0, y.1) x t.1) here
      | inr t ↦ absurd (let no = t.1 in cc)
    ]

class_letter : (b : ℕ) (bs : List ℕ) (x : BaseKind × List ℕ) → cond (eqb b 76) (class_from (split_at_semicolon bs)) None ≡ Some x → TakesBase (b ∷ bs) x
class_letter b bs x e =
    elim (chosen (eqb b 76) (class_from (split_at_semicolon bs)) None (Some x) e) [
      | inl t ↦ subst (λ (c : ℕ). TakesBase (c ∷ bs) x) (sym (eqb-true b 76 t.0)) (class_takes bs (split_at_semicolon bs) x refl t.1)
      | inr t ↦ absurd (let no = t.1 in cc)
    ]

base_takes : (bs : List ℕ) (x : BaseKind × List ℕ) → base_at bs ≡ Some x → TakesBase bs x
unfolding base_at
base_takes [] x e = absurd cc
base_takes (b ∷ bs) x e =
    letter b 73 bs Int _ x tt refl (letter b 66 bs Byte _ x tt refl (letter b 67 bs Char _ x tt refl (letter b 83 bs Short _ x tt refl
    (letter b 90 bs Boolean _ x tt refl (letter b 74 bs Long _ x tt refl (letter b 70 bs Float _ x tt refl (letter b 68 bs Double _ x tt refl (class_letter b bs x)))))))) e

base_again : (base : BaseKind) (rest : List ℕ) → IsBaseKind base → base_at (base_text base ++ rest) ≡ Some (base, rest)
unfolding base_at
base_again Int rest h = refl
base_again Byte rest h = refl
base_again Char rest h = refl
base_again Short rest h = refl
base_again Boolean rest h = refl
base_again Long rest h = refl
base_again Float rest h = refl
base_again Double rest h = refl
base_again (Class name) rest h =
    let good = spells_name name h in
    rw (append_assoc name (59 ∷ []) rest, split_again name rest (other_than_semicolon false name good), good) refl

-- ---- dimensions

more_brackets : (n : ℕ) (bs : List ℕ) → bs ≡ replicate n 91 ++ drop n bs → 91 ∷ bs ≡ replicate (1 + n) 91 ++ drop (1 + n) (91 ∷ bs)
more_brackets n bs h =
    let e : 1 + n ≡ suc n = omega arith in
    rw e (ap (λ (xs : List ℕ). 91 ∷ xs) h)

brackets_front : (bs : List ℕ) → bs ≡ replicate (prefix_len is_bracket bs) 91 ++ drop (prefix_len is_bracket bs) bs
brackets_front [] = refl
brackets_front (b ∷ bs) =
    elim (cases_Bool (is_bracket b)) [
      | inl is_one ↦ let is : b ≡ 91 = eqb-true b 91 is_one in rw is (more_brackets (prefix_len is_bracket bs) bs (brackets_front bs))
      | inr isnt ↦ rw isnt refl
    ]

brackets_again : (n : ℕ) (base : BaseKind) (rest : List ℕ) → prefix_len is_bracket (replicate n 91 ++ (base_text base ++ rest)) ≡ n
brackets_again zero Int rest = refl
brackets_again zero Byte rest = refl
brackets_again zero Char rest = refl
brackets_again zero Short rest = refl
brackets_again zero Boolean rest = refl
brackets_again zero Long rest = refl
brackets_again zero Float rest = refl
brackets_again zero Double rest = refl
brackets_again zero (Class name) rest = refl
brackets_again (suc n) base rest = rw (brackets_again n base rest) (omega arith)

drop_brackets : (n : ℕ) (rest : List ℕ) → drop n (replicate n 91 ++ rest) ≡ rest
drop_brackets zero rest = refl
drop_brackets (suc n) rest = drop_brackets n rest

text_of_dimensions : (n : ℕ) (base : BaseKind) → kind_text (kind_of_dimensions n base) ≡ replicate n 91 ++ base_text base
text_of_dimensions zero base = refl
text_of_dimensions (suc n) base = refl

good_of_dimensions : (n : ℕ) (base : BaseKind) → n ≤ 255 → IsBaseKind base → IsKind (kind_of_dimensions n base)
good_of_dimensions zero base le good = good
good_of_dimensions (suc n) base le good = (omega arith, le, good)

pub record TakesKind (bytes : List ℕ) (kind : Kind) (rest : List ℕ) : Type 0 where
  pub good : IsKind kind
  pub spelled : bytes ≡ kind_text kind ++ rest

pub kind_takes : (bs : List ℕ) (kind : Kind) (rest : List ℕ) → kind_at bs ≡ Some (kind, rest) → TakesKind bs kind rest
unfolding kind_at
kind_takes bs kind rest e =
    let n = prefix_len is_bracket bs in
    let shape : BaseKind × List ℕ → Kind × List ℕ = λ x. (kind_of_dimensions n x.0, x.1) in
    elim (chosen (leb n 255) (option_map shape (base_at (drop n bs))) None (Some (kind, rest)) e) [
      | inl t ↦
          let m = mapped shape (base_at (drop n bs)) (kind, rest) t.1 in
          let base = base_takes (drop n bs) m.0 m.1 in
          let here : TakesKind bs (kind_of_dimensions n m.0.0) m.0.1 = record {
            good = good_of_dimensions n m.0.0 (leb-true n 255 t.0) base.good;
            spelled = brackets_front bs ∙ (ap (λ (xs : List ℕ). replicate n 91 ++ xs) base.spelled ∙ (sym (append_assoc (replicate n 91) (base_text m.0.0) m.0.1) ∙ ap (λ (xs : List ℕ). xs ++ m.0.1) (sym (text_of_dimensions n m.0.0))));
          } in
          subst (λ (y : Kind × List ℕ). TakesKind bs y.0 y.1) m.2 here
      | inr t ↦ absurd (let no = t.1 in cc)
    ]

dimensions_again : (n : ℕ) (base : BaseKind) (rest : List ℕ) → n ≤ 255 → IsBaseKind base → kind_at (replicate n 91 ++ (base_text base ++ rest)) ≡ Some (kind_of_dimensions n base, rest)
unfolding kind_at
dimensions_again n base rest le good =
    rw (brackets_again n base rest, le-leb n 255 le, drop_brackets n (base_text base ++ rest), base_again base rest good) refl

pub kind_again : (kind : Kind) (rest : List ℕ) → IsKind kind → kind_at (kind_text kind ++ rest) ≡ Some (kind, rest)
kind_again (Base base) rest good = dimensions_again 0 base rest (omega arith) good
kind_again (Array zero base) rest good = absurd (omega (arith, good.0))
kind_again (Array (suc n) base) rest good = rw (append_assoc (replicate (suc n) 91) (base_text base) rest) (dimensions_again (suc n) base rest good.1 good.2)

-- no kind begins with a )
pub no_kind_at_close : (rest : List ℕ) → kind_at (41 ∷ rest) ≡ None
unfolding kind_at base_at
no_kind_at_close rest = refl

-- no kind begins with a (
pub no_kind_at_open : (rest : List ℕ) → kind_at (40 ∷ rest) ≡ None
unfolding kind_at base_at
no_kind_at_open rest = refl

-- a V is no kind
pub no_kind_at_void : kind_at (86 ∷ []) ≡ None
unfolding kind_at base_at
no_kind_at_void = refl
