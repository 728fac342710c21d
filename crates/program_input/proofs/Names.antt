-- Sorted texts are sorted as bytes, and a class file is one of the names.
use Rattle.std.proofs.Common.{◌++◌, take, drop, ◌≡◌, ℕ, suc, ◌+◌, ◌<◌, Bool, true, false, List, [], ◌∷◌, length, map, filter, get_or, Contains, String, string_bytes, arith, sym, ◌∙◌, ap, subst, Option, Some, zero, cond, IfSome}
use Rattle.std.specs.List.{All}
use Rattle.jr_ports.specs.Folder.{File, Asked, IsListed, IsRead}
use Rattle.jr_ports.specs.Stream.{Gains}
use Rattle.program_input.specs.Folder.{AreRead, ReadsFront, is_class_file}
use Rattle.std.specs.declared.alloc.Global.{Global}
use Rattle.std.specs.List.Sorted.{IsPermutation, IsSorted}
use Rattle.std.specs.String.{string_cmp}
use Rattle.std.specs.Cmp.Lexicographic.{slice_cmp}
use Rattle.std.specs.Ordering.{nat_cmp}
use Rattle.std.proofs.lemmas.List.{get_or-map, length-map, take-append-drop, take-map}
use Rattle.std.proofs.lemmas.List.Sorted.{Contains-permutation, IsPermutation-sym}

pub IsSorted-bytes : (xs : List (String Global)) → IsSorted string_cmp xs → IsSorted (slice_cmp nat_cmp) (map string_bytes xs)
IsSorted-bytes [] sorted k d low below = absurd (let h = below in omega arith)
IsSorted-bytes (x ∷ xs) sorted k d low below =
    let long : length (map string_bytes (x ∷ xs)) ≡ length (x ∷ xs) = simp length-map in
    let inside : k + 1 < length (x ∷ xs) = omega (arith, long) in
    let here : get_or (map string_bytes (x ∷ xs)) k d ≡ string_bytes (get_or (x ∷ xs) k x) = get_or-map string_bytes (x ∷ xs) k x d (omega arith) in
    let next : get_or (map string_bytes (x ∷ xs)) (k + 1) d ≡ string_bytes (get_or (x ∷ xs) (k + 1) x) = get_or-map string_bytes (x ∷ xs) (k + 1) x d inside in
    rw (next, here) (sorted k x low inside)

later : (n : List ℕ) (names : List (List ℕ)) (name : List ℕ) → Contains names name → Contains (n ∷ names) name
later n names name found = (suc found.0, omega (arith, found.1), found.2)

kept : (n : List ℕ) (some names : List (List ℕ)) (name : List ℕ) → (Contains some name → Contains names name) → (b : Bool) → Contains (cond b (n ∷ some) some) name → Contains (n ∷ names) name
kept n some names name keep false found = later n names name (keep found)
kept n some names name keep true (zero, below, found) = (0, omega arith, found)
kept n some names name keep true (suc k, below, found) = later n names name (keep (k, omega arith, found))

filtered : (test : List ℕ → Bool) (names : List (List ℕ)) (name : List ℕ) → Contains (filter test names) name → Contains names name
filtered test [] name is = is
filtered test (n ∷ names) name is = kept n (filter test names) names name (filtered test names name) (test n) is

-- a name among the class files in order is one of the names
pub Contains-sorted : (test : List ℕ → Bool) (names sorted : List (List ℕ)) (name : List ℕ) → IsPermutation (filter test names) sorted → Contains sorted name → Contains names name
Contains-sorted test names sorted name same is = filtered test names name (Contains-permutation sorted (filter test names) name (IsPermutation-sym (filter test names) sorted same) is)

-- the names of the files that are read so far
pub AreRead-more : (told : Option (List File)) (names files : List (List ℕ)) (name bytes : List ℕ) → AreRead told names files → IfSome told (λ all. IsRead all name bytes)
    → AreRead told (names ++ name ∷ []) (files ++ bytes ∷ [])
AreRead-more told [] [] name bytes are is = (is, tt)
AreRead-more told (n ∷ names) (f ∷ files) name bytes are is = (are.0, AreRead-more told names files name bytes are.1 is)
AreRead-more told [] (f ∷ files) name bytes are is = absurd are
AreRead-more told (n ∷ names) [] name bytes are is = absurd are

-- the first names come before the rest
pub ReadsFront-take : (names : List (List ℕ)) (i : ℕ) (before after : Option (List (List ℕ))) → Gains before after (take i names) → ReadsFront names before after
ReadsFront-take names i before after gains = (take i names, drop i names, sym (take-append-drop i names), gains)

-- one name more
pub names-more : (names : List (String Global)) (i : ℕ) (name : String Global) → i < length names → get_or names i name ≡ name
    → map string_bytes (take (i + 1) names) ≡ map string_bytes (take i names) ++ string_bytes name ∷ []
names-more [] i name below at = absurd (omega arith)
names-more (n ∷ names) zero name below at = ap (λ s. string_bytes s ∷ []) at
names-more (n ∷ names) (suc i) name below at =
    let next : suc i + 1 ≡ suc (i + 1) = omega arith in
    rw next (ap (λ l. string_bytes n ∷ l) (names-more names i name (omega arith) at))

pub Gains-front : (names : List (String Global)) (i : ℕ) (before after : Option (List (List ℕ))) → Gains before after (map string_bytes (take i names)) → ReadsFront (map string_bytes names) before after
Gains-front names i before after gains = ReadsFront-take (map string_bytes names) i before after (rw (take-map string_bytes i names) gains)

pub Gains-same : (before now after : Option (List (List ℕ))) (names : List (List ℕ)) → after ≡ now → Gains before now names → Gains before after names
Gains-same before now after names same gains = same ∙ gains

pub read-same : (told now : Option (List File)) (name bytes : List ℕ) → now ≡ told → IfSome now (λ all. IsRead all name bytes) → IfSome told (λ all. IsRead all name bytes)
read-same told now name bytes same is = subst (λ (o : Option (List File)). IfSome o (λ all. IsRead all name bytes)) same is

-- each name among the class files is one that the folder gave
pub listed : (asked : Option Asked) (dir : List ℕ) (names : List (List ℕ)) (sorted : List (String Global)) → asked ≡ Some (record { dir = dir; names = names })
    → IsPermutation (filter is_class_file names) (map string_bytes sorted) → All (λ name. IsListed asked dir (string_bytes name)) sorted
listed asked dir names sorted told are k d below =
    let long : length (map string_bytes sorted) ≡ length sorted = simp length-map in
    let here : Contains (map string_bytes sorted) (string_bytes (get_or sorted k d)) = (k, omega (arith, long, below), get_or-map string_bytes sorted k d _ below) in
    (names, told, Contains-sorted is_class_file names (map string_bytes sorted) (string_bytes (get_or sorted k d)) are here)
