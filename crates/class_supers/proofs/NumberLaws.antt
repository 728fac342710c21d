-- Numbers of classes, one class after the other.
use Rattle.std.proofs.Common.{◌≡◌, ◌⊎◌, ◌<◌, map, take, get_or, ℕ, suc, ◌+◌, ◌==◌, ◌&&◌, Bool, true, false, cond, if◌then◌else◌, List, [], ◌∷◌, ◌++◌, length, Option, None, Some, refl, sym, ◌∙◌, ap, subst, arith, inl, inr, bytes_eq, unwrap_or}
use Rattle.std.specs.List.{position_from}
use Rattle.std.specs.Option.{option_map_or}
use Rattle.std.specs.Map.{update}
use Rattle.std.proofs.lemmas.Bool.{cases_Bool}
use borrow.Author.Tests.{eqb-true}
use Rattle.std.proofs.lemmas.Slice.Eq.{bytes_eq-Decides}
use Rattle.std.proofs.lemmas.Option.{slice_get-get_or}
use Rattle.builtin_world.specs.BuiltinClass.{ClassRow, rows, shown_class}
use Rattle.builtin_world.specs.Library.{library}
use Rattle.builtin_world.specs.declared.BuiltinClass.{BuiltinClass}
use Rattle.class_supers.proofs.ClassLaws.{Shows, shows, library_more, library_count}
use Rattle.link_rules.proofs.Lists.{next, position_next}
use Rattle.link_rules.specs.Classes.{NamedClass, class_number, library_class}
use Rattle.class_supers.specs.Numbers.{with_number, AreNumbersOf}

abbrev number_or : (List ℕ → Option ℕ) → List ℕ → ℕ
number_or f name = unwrap_or (f name) 0

never : (n m : ℕ) → (if m == 0 && false then n else m) ≡ m
never n m = elim (cases_Bool (m == 0)) [ inl e ↦ rw e refl | inr e ↦ rw e refl ]

pub added : (old new : List ℕ → Option ℕ) (text : List ℕ) (n : ℕ) → ((q : List ℕ) → new q ≡ update bytes_eq old text (Some n) q) → unwrap_or (old text) 0 ≡ 0 → (q : List ℕ) → unwrap_or (new q) 0 ≡ with_number (λ t. unwrap_or (old t) 0) text n q
added old new text n changes none q = by_cases (cases_Bool (bytes_eq text q))
  where
    by_cases : (bytes_eq text q ≡ true) ⊎ (bytes_eq text q ≡ false) → unwrap_or (new q) 0 ≡ with_number (λ t. unwrap_or (old t) 0) text n q
    by_cases (inl same) =
        let e : text ≡ q = (bytes_eq-Decides text q).0 same in
        let nothing : unwrap_or (old q) 0 ≡ 0 = subst (λ t. unwrap_or (old t) 0 ≡ 0) e none in
        let here : new q ≡ Some n = rw same at (changes q) in
        rw (here, nothing, same) refl
    by_cases (inr other) =
        let stays : new q ≡ old q = rw other at (changes q) in
        rw (stays, other) (sym (never n (unwrap_or (old q) 0)))

abbrev number_from : Option ℕ → ℕ
number_from o = option_map_or (λ i. suc i) o 0

number_next : (o : Option ℕ) (passes : Bool) (n : ℕ) → number_from (next o passes n) ≡ (if number_from o == 0 && passes then suc n else number_from o)
number_next None true n = refl
number_next None false n = refl
number_next (Some m) passes n = elim (cases_Bool (suc m == 0)) [
  | inl e ↦ absurd (let z : suc m ≡ 0 = eqb-true (suc m) 0 e in omega arith)
  | inr e ↦ rw e refl
]

-- one class more
pub class_number_push : (cs : List NamedClass) (c : NamedClass) (q : List ℕ) → class_number (cs ++ c ∷ []) q ≡ with_number (class_number cs) c.name (suc (length cs)) q
class_number_push cs c q =
    let sum : 0 + length cs ≡ length cs = omega arith in
    ap number_from (position_next (λ (k : NamedClass). bytes_eq k.name q) 0 cs c)
    ∙ number_next (position_from (λ (k : NamedClass). bytes_eq k.name q) 0 cs) (bytes_eq c.name q) (0 + length cs)
    ∙ ap (λ n. with_number (class_number cs) c.name (suc n) q) sum

-- one class more has a number of its own
pub numbers_more : (old new : List ℕ → ℕ) (cs : List NamedClass) (c : NamedClass) (name : List ℕ) (n : ℕ) → AreNumbersOf old cs → ((q : List ℕ) → new q ≡ with_number old name n q) → name ≡ c.name → n ≡ suc (length cs) → AreNumbersOf new (cs ++ c ∷ [])
numbers_more old new cs c name n known changes named count q =
    changes q
    ∙ ap (λ (m : ℕ). if m == 0 && bytes_eq name q then n else m) (known q)
    ∙ ap (λ (x : List ℕ). with_number (class_number cs) x n q) named
    ∙ ap (λ (m : ℕ). with_number (class_number cs) c.name m q) count
    ∙ sym (class_number_push cs c q)

-- one built-in class more
pub builtins_more : (old new : List ℕ → ℕ) (bs : List BuiltinClass) (i : ℕ) (d : BuiltinClass) (name : List ℕ) (n : ℕ) → map shown_class bs ≡ rows → i < length bs → AreNumbersOf old (map library_class (take i library)) → ((q : List ℕ) → new q ≡ with_number old name n q) → name ≡ (get_or bs i d).name.now → n ≡ i + 1 → AreNumbersOf new (map library_class (take (i + 1) library))
builtins_more old new bs i d name n all within known changes named count =
    let shown : Shows i (get_or bs i d) = shows bs i (get_or bs i d) all (slice_get-get_or bs i d within) in
    let its : (get_or bs i d).name.now ≡ shown.row.name = sym (ap (λ (r : ClassRow). r.name) shown.shown) in
    let many = library_count i shown.row shown.there in
    subst (AreNumbersOf new) (sym (library_more i shown.row shown.there))
    (numbers_more old new (map library_class (take i library)) (library_class shown.row) name n known changes (named ∙ its) (omega (arith, many, count)))
