-- Reading each of some words, as a loop does.
use Rattle.std.proofs.Common.{◌≡◌, ℕ, suc, ◌+◌, ◌<◌, ◌≤◌, List, [], ◌∷◌, ◌++◌, length, drop, get_or, Option, Some, None, refl, sym, ap, ◌∙◌, append_assoc, add-one, drop-cons}
use Rattle.std.proofs.lemmas.List.{append-nil, drop_all}
use Rattle.assembler_lines.specs.declared.word.LineRefusal.{LineRefusal}
use Rattle.assembler_lines.specs.declared.word.LineRefusal.TheVariants.{Malformed, NoMemory}
use Rattle.assembler_lines.specs.declared.word.Word.{Word}
use Rattle.assembler_lines.specs.Front.{◌>>=◌, Fails, each}

-- what was read before, and what is still read
abbrev pub with_front : {X : Type 0} → List X → Option (List X) → Option (List X)
with_front front read = read >>= λ others. Some (front ++ others)

pub regroup : {X : Type 0} (front : List X) (x : X) (read : Option (List X)) → with_front front (read >>= λ others. Some (x ∷ others)) ≡ with_front (front ++ x ∷ []) read
regroup front x None = refl
regroup {X = X} front x (Some others) = ap (λ (xs : List X). Some xs) (simp append_assoc)

pub each_on : {X : Type 0} (read : Word → Option X) (front : List X) (words : List Word) (i : ℕ) (said : Word) (x : X) (total : Option (List X))
    → i < length words → said ≡ get_or words i said → read said ≡ Some x → with_front front (each read (drop i words)) ≡ total → with_front (front ++ x ∷ []) (each read (drop (i + 1) words)) ≡ total
each_on read front words i said x total lt is e so_far =
    let one : with_front front (each read (drop i words)) ≡ with_front (front ++ x ∷ []) (each read (drop (i + 1) words)) = rw (add-one, drop-cons words i said lt, ← is, e) (regroup front x (each read (drop (suc i) words))) in
    sym one ∙ so_far

pub each_fails : {X : Type 0} (read : Word → Option X) (front : List X) (words : List Word) (i : ℕ) (said : Word) (refusal : LineRefusal) (total : Option (List X))
    → i < length words → said ≡ get_or words i said → Fails refusal (read said) → with_front front (each read (drop i words)) ≡ total → Fails refusal total
each_fails read front words i said NoMemory total lt is e so_far = tt
each_fails read front words i said Malformed total lt is e so_far =
    let one : with_front front (each read (drop i words)) ≡ None = rw (drop-cons words i said lt, ← is, e) refl in
    sym so_far ∙ one

pub each_done : {X : Type 0} (read : Word → Option X) (front : List X) (words : List Word) (i : ℕ) (total : Option (List X))
    → length words ≤ i → with_front front (each read (drop i words)) ≡ total → total ≡ Some front
each_done {X = X} read front words i total le so_far =
    let one : with_front front (each read (drop i words)) ≡ Some front = rw (drop_all i words le) (ap (λ (xs : List X). Some xs) (append-nil front)) in
    sym so_far ∙ one
