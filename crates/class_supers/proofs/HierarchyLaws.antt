-- What the tables of the classes of a program say.
use Rattle.std.proofs.Common.{◌≡◌, ◌≢◌, ◌↔◌, ◌⊎◌, ℕ, zero, suc, ◌+◌, ◌<◌, ◌≤◌, ◌==◌, ◌||◌, Bool, true, false, not, List, [], ◌∷◌, length, map, slice_get, slice_index_or, Option, None, Some, Contains, inl, inr, refl, sym, ◌∙◌, ap, subst, arith}
use Rattle.std.specs.Option.{option_map, option_map_or}
use borrow.Author.Tests.{eqb-true, eqb-false, not-true, eq-eqb, ne_eqb}
use Rattle.std.proofs.lemmas.List.{length-map}
use Rattle.std.proofs.lemmas.List.Elements.{All-map}
use Rattle.transitive_closure.specs.Relation.{relates, Relates, IsWay, IsClosure}
use Rattle.link_rules.proofs.Lists.{contains_head, contains_tail, contains_cases, contains_none}
use Rattle.link_rules.proofs.Numbers.{class_number_within}
use Rattle.std.specs.List.{list_any}
use Rattle.std.proofs.lemmas.Option.{slice_get-map, same_Some}
use Rattle.std.proofs.lemmas.Bool.{and_parts, or_cases}
use Rattle.link_rules.specs.Classes.{NamedClass, class_number, class_numbered}
use Rattle.link_rules.specs.Supers.{HasSuper, IsWayUp, IsAbove}
use Rattle.class_supers.specs.Headers.{header_by}
use Rattle.class_supers.specs.Above.{is_named, names, names_at, header_numbered, IsWithin, AreWithin}
use Rattle.class_supers.specs.declared.headers.ClassHeader.{ClassHeader}

-- the headers of some classes
abbrev pub AreHeaders : List NamedClass → List ClassHeader → Type 0
AreHeaders cs hs = hs ≡ map (header_by (class_number cs)) cs

pub header_is : (cs : List NamedClass) (hs : List ClassHeader) → AreHeaders cs hs → (c : ℕ) → header_numbered hs c ≡ option_map (header_by (class_number cs)) (class_numbered cs c)
header_is cs hs are zero = refl
header_is cs hs are (suc i) = ap (λ xs. slice_get xs i) are ∙ slice_get-map (header_by (class_number cs)) cs i

named_inside : (cs : List NamedClass) (size : ℕ) (o : Option (List ℕ)) → length cs < size → option_map_or (class_number cs) o 0 < size
named_inside cs size None lt = omega arith
named_inside cs size (Some name) lt = let le : class_number cs name ≤ length cs = class_number_within cs name in omega arith

within_by : (cs : List NamedClass) (size : ℕ) (o : Option NamedClass) (h : ClassHeader) → option_map (header_by (class_number cs)) o ≡ Some h → length cs < size → IsWithin size h
within_by cs size None h e lt = absurd cc
within_by cs size (Some k) h e lt =
    subst (IsWithin size) (same_Some (header_by (class_number cs) k) h e) (record {
      superclass = named_inside cs size k.super lt;
      interfaces = All-map (λ n. n < size) (class_number cs) k.interfaces (λ i d less. named_inside cs size (Some (slice_index_or k.interfaces i d)) lt);
    })

pub headers_are_within : (cs : List NamedClass) (hs : List ClassHeader) → AreHeaders cs hs → AreWithin (length hs + 1) hs
headers_are_within cs hs are i h at =
    let many : length hs ≡ length cs = ap length are ∙ length-map cs (header_by (class_number cs)) in
    within_by cs (length hs + 1) (class_numbered cs (suc i)) h (sym (header_is cs hs are (suc i)) ∙ at) (omega arith)

-- ---- what is named

is_named_true : (n d : ℕ) → is_named n d ≡ true → (d ≢ 0) × (n ≡ d)
is_named_true n d e =
    let both = and_parts (d == n) (not (n == 0)) e in
    let same : d ≡ n = eqb-true d n both.0 in
    let some : n ≡ 0 → ⊥ = eqb-false n 0 (not-true (n == 0) both.1) in
    (λ z. some (sym same ∙ z), sym same)

true_is_named : (n d : ℕ) → d ≢ 0 → n ≡ d → is_named n d ≡ true
true_is_named n d some same =
    let equal : (d == n) ≡ true = eq-eqb d n (sym same) in
    let other : (n == 0) ≡ false = ne_eqb n 0 (λ z. some (sym same ∙ z)) in
    rw (equal, other) refl

any_named : (xs : List ℕ) (d : ℕ) → list_any (λ n. is_named n d) xs ≡ true → (d ≢ 0) × Contains xs d
any_named [] d e = absurd cc
any_named (x ∷ xs) d e = elim (or_cases (is_named x d) (list_any (λ n. is_named n d) xs) e) [
  | inl here ↦ let h = is_named_true x d here in (h.0, subst (λ y. Contains (y ∷ xs) d) (sym h.1) (contains_head d xs))
  | inr there ↦ let h = any_named xs d there in (h.0, contains_tail x xs d h.1)
]

named_any : (xs : List ℕ) (d : ℕ) → d ≢ 0 → Contains xs d → list_any (λ n. is_named n d) xs ≡ true
named_any [] d some h = absurd (contains_none d h)
named_any (x ∷ xs) d some h = elim (contains_cases x xs d h) [
  | inl here ↦ ap (λ b. b || list_any (λ n. is_named n d) xs) (true_is_named x d some here)
  | inr there ↦ ap (λ b. is_named x d || b) (named_any xs d some there) ∙ or_true (is_named x d)
]
  where
    or_true : (b : Bool) → (b || true) ≡ true
    or_true true = refl
    or_true false = refl

names_by : (f : List ℕ → ℕ) (o : Option NamedClass) (d : ℕ) → (option_map_or (λ h. names h d) (option_map (header_by f) o) false ≡ true) ↔ ((d ≢ 0) × ((option_map_or (λ (k : NamedClass). option_map_or f k.super 0) o 0 ≡ d) ⊎ Contains (option_map_or (λ (k : NamedClass). map f k.interfaces) o []) d))
names_by f None d = (
  λ e. absurd cc,
  λ h. elim h.1 [ inl zero_is ↦ absurd (h.0 (sym zero_is)) | inr there ↦ absurd (contains_none d there) ],
)
names_by f (Some k) d = (
  λ e. elim (or_cases (is_named (option_map_or f k.super 0) d) (list_any (λ n. is_named n d) (map f k.interfaces)) e) [
    | inl super ↦ let h = is_named_true (option_map_or f k.super 0) d super in (h.0, inl h.1)
    | inr interface ↦ let h = any_named (map f k.interfaces) d interface in (h.0, inr h.1)
  ],
  λ h. elim h.1 [
    | inl super ↦ ap (λ b. b || list_any (λ n. is_named n d) (map f k.interfaces)) (true_is_named (option_map_or f k.super 0) d h.0 super)
    | inr interface ↦ ap (λ b. is_named (option_map_or f k.super 0) d || b) (named_any (map f k.interfaces) d h.0 interface) ∙ or_true (is_named (option_map_or f k.super 0) d)
  ],
)
  where
    or_true : (b : Bool) → (b || true) ≡ true
    or_true true = refl
    or_true false = refl

names_are_supers : (cs : List NamedClass) (hs : List ClassHeader) → AreHeaders cs hs → (c d : ℕ) → (names_at hs c d ≡ true) ↔ HasSuper cs c d
names_are_supers cs hs are c d =
    let same : names_at hs c d ≡ option_map_or (λ h. names h d) (option_map (header_by (class_number cs)) (class_numbered cs c)) false = ap (λ o. option_map_or (λ h. names h d) o false) (header_is cs hs are c) in
    let by = names_by (class_number cs) (class_numbered cs c) d in
    (λ e. by.0 (sym same ∙ e), λ h. same ∙ by.1 h)

-- ---- what is above

ways_up : (cs : List NamedClass) (R : ℕ → ℕ → Type 0) → ((c d : ℕ) → R c d ↔ HasSuper cs c d) → (c : ℕ) (way : List ℕ) (d : ℕ) → IsWay R c way d ↔ IsWayUp cs c way d
ways_up cs R same c [] d = same c d
ways_up cs R same c (e ∷ way) d = (
  λ w. ((same c e).0 w.0, (ways_up cs R same e way d).0 w.1),
  λ w. ((same c e).1 w.0, (ways_up cs R same e way d).1 w.1),
)

pub above_is : (cs : List NamedClass) (hs : List ClassHeader) (rows closed : List (List Bool)) → AreHeaders cs hs
    → ((c d : ℕ) → relates rows c d ≡ names_at hs c d) → IsClosure rows closed → (c d : ℕ) → Relates closed c d ↔ IsAbove cs c d
above_is cs hs rows closed are named closes c d =
    let step : (c d : ℕ) → Relates rows c d ↔ HasSuper cs c d = λ c d. (λ e. (names_are_supers cs hs are c d).0 (sym (named c d) ∙ e), λ h. named c d ∙ (names_are_supers cs hs are c d).1 h) in
    let ways = ways_up cs (Relates rows) step c in (
      λ e. let w = (closes c d).0 e in (w.0, (ways w.0 d).0 w.1),
      λ w. (closes c d).1 (w.0, (ways w.0 d).1 w.1),
    )
