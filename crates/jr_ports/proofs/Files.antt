-- Files in memory: the one at an index is one of them, and a name that none has so far.
use Rattle.std.proofs.Common.{◌≡◌, ℕ, zero, suc, ◌+◌, ◌<◌, List, [], ◌∷◌, ◌++◌, Option, Some, length, take, drop, map, get_or, Contains, String, string_bytes, Vec, min, subst, inl, inr, refl, sym, ◌∙◌, ap, IsTrue, false}
use Rattle.std.proofs.lemmas.List.{get_or-map, take_min, take_more, map-append, length-map, drop-map}
use Rattle.std.proofs.lemmas.List.Elements.{Contains-push_cases}
use Rattle.std.proofs.Math.Seq.{drop-cons}
use Rattle.std.specs.declared.alloc.Global.{Global}
use Rattle.jr_ports.specs.Folder.{File, Asked, AreDifferent, IsListed, IsOneOf, names_of}
use Rattle.jr_ports.specs.Memory.{files_of}

pub IsOneOf-at : (files : List (String Global × Vec ℕ Global)) (i : ℕ) (f : String Global × Vec ℕ Global) (name : List ℕ) → i < length files → f ≡ get_or files i f → string_bytes f.0 ≡ name → IsOneOf (files_of files) name f.1.items
IsOneOf-at files i f name below at same = (
  record { name = string_bytes f.0; bytes = f.1.items },
  (i, rw length-map below, get_or-map (λ (g : String Global × Vec ℕ Global). let file : File = record { name = string_bytes g.0; bytes = g.1.items } in file) files i f _ below ∙ ap (λ (g : String Global × Vec ℕ Global). let file : File = record { name = string_bytes g.0; bytes = g.1.items } in file) (sym at)),
  same,
  refl,
)

pub names-none_more : (files : List (String Global × Vec ℕ Global)) (i : ℕ) (f : String Global × Vec ℕ Global) (name : List ℕ) → i < length files → f ≡ get_or files i f → (Contains (names_of (files_of (take i files))) name → ⊥) → (string_bytes f.0 ≡ name → ⊥) → Contains (names_of (files_of (take (i + 1) files))) name → ⊥
names-none_more files i f name below at none other more =
    let made : File = record { name = string_bytes f.0; bytes = f.1.items } in
    let taken : take (i + 1) files ≡ take i files ++ f ∷ [] = take_more files i f below ∙ ap (λ g. take i files ++ g ∷ []) (sym at) in
    let split : names_of (files_of (take (i + 1) files)) ≡ names_of (files_of (take i files)) ++ string_bytes f.0 ∷ [] = rw taken (simp map-append) in
    let Had : List (List ℕ) → Type 0 = λ names. Contains names name in
    elim (Contains-push_cases (names_of (files_of (take i files))) (string_bytes f.0) name (subst Had split more)) as (λ _. ⊥) [
      | inl earlier ↦ none earlier
      | inr same ↦ other same
    ]

-- the front of a list, as long as the lesser of two lengths
pub take-lesser : (most count given : ℕ) (xs : List ℕ) → most ≡ given → count ≡ min given (length xs) → take count xs ≡ take most xs
take-lesser most count given xs same lesser = rw (same, lesser) (take_min given xs)

-- a name that a folder gave is listed
pub IsListed-at : (asked : Option Asked) (dir : List ℕ) (names : List (String Global)) (i : ℕ) (name : String Global) → asked ≡ Some (record { dir = dir; names = map string_bytes names }) → i < length names → name ≡ get_or names i name → IsListed asked dir (string_bytes name)
IsListed-at asked dir names i name told below at =
    (map string_bytes names, told, (i, rw length-map below, get_or-map string_bytes names i name _ below ∙ ap string_bytes (sym at)))

Contains-name : (files : List File) (name bytes : List ℕ) (f : String Global × Vec ℕ Global) → name ≡ string_bytes f.0 → IsOneOf files name bytes → Contains (names_of files) (string_bytes f.0)
Contains-name files name bytes f same found =
    (found.1.0, rw length-map found.1.1, get_or-map (λ (g : File). g.name) files found.1.0 found.0 _ found.1.1 ∙ ap (λ (g : File). g.name) found.1.2 ∙ found.2 ∙ same)

-- one more name in front, which none of the others is
pub AreDifferent-more : (files : List (String Global × Vec ℕ Global)) (i j : ℕ) (f : String Global × Vec ℕ Global) (name : List ℕ) → suc i ≡ j → i < length files → f ≡ get_or files i f → name ≡ string_bytes f.0 → (Contains (names_of (files_of (drop j files))) name → ⊥) → AreDifferent (names_of (files_of (drop j files))) → AreDifferent (names_of (files_of (drop i files)))
AreDifferent-more files i j f name next below at same other different =
    let Is : List (String Global × Vec ℕ Global) → Type 0 = λ rest. AreDifferent (names_of (files_of rest)) in
    let Other : ℕ → Type 0 = λ n. Contains (names_of (files_of (drop n files))) name → ⊥ in
    let Rest : ℕ → Type 0 = λ n. AreDifferent (names_of (files_of (drop n files))) in
    let Misses : List ℕ → Type 0 = λ n. Contains (names_of (files_of (drop (suc i) files))) n → ⊥ in
    let split : drop i files ≡ f ∷ drop (suc i) files = drop-cons files i f below ∙ ap (λ g. g ∷ drop (suc i) files) (sym at) in
    subst Is (sym split) (subst Misses same (subst Other (sym next) other), subst Rest (sym next) different)

AreDifferent-drop : (names : List (List ℕ)) (i : ℕ) → AreDifferent names → AreDifferent (drop i names)
AreDifferent-drop names zero all = all
AreDifferent-drop [] (suc i) all = tt
AreDifferent-drop (name ∷ names) (suc i) all = AreDifferent-drop names i all.1

-- a name that occurs again after its place
pub AreDifferent-not : (files : List (String Global × Vec ℕ Global)) (i j : ℕ) (f : String Global × Vec ℕ Global) (name bytes : List ℕ) → suc i ≡ j → i < length files → f ≡ get_or files i f → name ≡ string_bytes f.0 → IsOneOf (files_of (drop j files)) name bytes → AreDifferent (names_of (files_of files)) → ⊥
AreDifferent-not files i j f name bytes next below at same found all =
    let split : drop i files ≡ f ∷ drop (suc i) files = drop-cons files i f below ∙ ap (λ g. g ∷ drop (suc i) files) (sym at) in
    let Is : List (String Global × Vec ℕ Global) → Type 0 = λ rest. AreDifferent (names_of (files_of rest)) in
    let dropped : drop i (names_of (files_of files)) ≡ names_of (files_of (drop i files)) = simp drop-map in
    let Different : List (List ℕ) → Type 0 = AreDifferent in
    let rest : AreDifferent (names_of (files_of (drop i files))) = subst Different dropped (AreDifferent-drop (names_of (files_of files)) i all) in
    let here : AreDifferent (names_of (files_of (f ∷ drop (suc i) files))) = subst Is split rest in
    let Found : ℕ → Type 0 = λ n. IsOneOf (files_of (drop n files)) name bytes in
    here.0 (Contains-name (files_of (drop (suc i) files)) name bytes f same (subst Found (sym next) found))

pub any-from_false : (P : Type 0) → IsTrue false → P
any-from_false P h = absurd (cc)
