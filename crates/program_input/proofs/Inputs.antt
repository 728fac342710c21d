-- Reading a source piece by piece.
use Rattle.std.proofs.Common.{◌≡◌, ℕ, ◌+◌, ◌-◌, ◌<◌, ◌≤◌, List, [], ◌++◌, length, take, drop, Option, None, Some, IfSome, refl, sym, ap, ◌∙◌, subst, arith, append-nil, length-append}
use Rattle.std.proofs.Math.Seq.{take-add}
use Rattle.std.proofs.lemmas.List.{take_all, take-append-drop, drop-drop}
use Rattle.jr_ports.specs.Stream.{IsNext, Taken}
use Rattle.program_input.specs.Input.{TakesAtMost}
use Rattle.program_input.proofs.Takes.{CalledSoFar}

-- what was read from a source that had all of this at first, and now has what is left
pub record IsReadSoFar (all left : List ℕ) (bytes : List ℕ) : Type 0 where
  pub front : bytes ≡ take (length bytes) all
  pub rest : left ≡ drop (length bytes) all

abbrev pub ReadSoFar : Option (List ℕ) → Option (List ℕ) → List ℕ → Type 0
ReadSoFar None now bytes = Unit {0}
ReadSoFar (Some all) now bytes = (left : List ℕ) × (now ≡ Some left) × IsReadSoFar all left bytes

more_of : (all left after bytes piece : List ℕ) → IsReadSoFar all left bytes → IsNext left piece → after ≡ drop (length piece) left → IsReadSoFar all after (bytes ++ piece)
more_of all left after bytes piece so_far next rest =
    let n = length bytes in
    let m = length piece in
    let size : length (bytes ++ piece) ≡ n + m = length-append bytes piece in
    let part : piece ≡ take m (drop n all) = next.begins ∙ ap (take m) so_far.rest in
    record {
      front = ap (λ (b : List ℕ). b ++ piece) so_far.front ∙ (ap (λ (p : List ℕ). take n all ++ p) part ∙ (sym (take-add n m all) ∙ ap (λ (k : ℕ). take k all) (sym size)));
      rest = rest ∙ (ap (drop m) so_far.rest ∙ (drop-drop m n all ∙ ap (λ (k : ℕ). drop k all) (sym size)));
    }

pub none_read : (told : Option (List ℕ)) → ReadSoFar told told []
none_read None = tt
none_read (Some all) = (all, refl, record { front = refl; rest = refl })

abbrev Gives : Option (List ℕ) → Option (List ℕ) → List ℕ → Type 0
Gives now after piece = IfSome now (λ left. IsNext left piece × (after ≡ Some (drop (length piece) left)))

given_at : (now after : Option (List ℕ)) (left piece : List ℕ) → now ≡ Some left → Gives now after piece → IsNext left piece × (after ≡ Some (drop (length piece) left))
given_at now after left piece is given = subst (λ (o : Option (List ℕ)). Gives o after piece) is given

-- one piece more
pub more_read : (told now after : Option (List ℕ)) (bytes piece : List ℕ) → ReadSoFar told now bytes → Gives now after piece → ReadSoFar told after (bytes ++ piece)
more_read None now after bytes piece so_far given = tt
more_read (Some all) now after bytes piece so_far given =
    let next = given_at now after so_far.0 piece so_far.1 given in
    (drop (length piece) so_far.0, next.1, more_of all so_far.0 (drop (length piece) so_far.0) bytes piece so_far.2 next.0 refl)

whole : (all left bytes : List ℕ) (most : ℕ) → IsReadSoFar all left bytes → left ≡ [] → length bytes ≤ most → bytes ≡ take most all
whole all left bytes most so_far none few =
    let n = length bytes in
    let rest : drop n all ≡ [] = sym so_far.rest ∙ none in
    let same : all ≡ bytes = sym (take-append-drop n all) ∙ (ap (λ (r : List ℕ). take n all ++ r) rest ∙ (append-nil (take n all) ∙ sym so_far.front)) in
    sym (take_all most bytes few) ∙ ap (take most) (sym same)

-- the source has come to its end
pub all_read : (told now after : Option (List ℕ)) (bytes piece : List ℕ) (most : ℕ) → ReadSoFar told now bytes → Gives now after piece → piece ≡ [] → length bytes ≤ most
    → IfSome told (λ left. bytes ≡ take most left)
all_read None now after bytes piece most so_far given none few = tt
all_read (Some all) now after bytes piece most so_far given none few =
    let next = given_at now after so_far.0 piece so_far.1 given in
    whole all so_far.0 bytes most so_far.2 (next.0.ends none) few

-- as much was read as is wanted
pub most_read : (told now : Option (List ℕ)) (bytes : List ℕ) (most : ℕ) → ReadSoFar told now bytes → length bytes ≤ most → ¬ (length bytes < most) → IfSome told (λ left. bytes ≡ take most left)
most_read None now bytes most so_far few enough = tt
most_read (Some all) now bytes most so_far few enough =
    let full : length bytes ≡ most = omega arith in
    so_far.2.front ∙ ap (λ (k : ℕ). take k all) full

-- what the loop keeps
pub record Reads (told now : Option (List ℕ)) (told_calls calls : Option (List Taken)) (bytes : List ℕ) (most faults_before faults_now : ℕ) : Type 0 where
  pub so_far : ReadSoFar told now bytes
  pub called : CalledSoFar told_calls calls most (most - length bytes)
  pub few : length bytes ≤ most
  pub faults : faults_now ≡ faults_before

-- no more was taken than was read
pub taken : (told now : Option (List ℕ)) (bytes : List ℕ) (most : ℕ) → ReadSoFar told now bytes → length bytes ≤ most → TakesAtMost most told now
taken None now bytes most so_far few = tt
taken (Some all) now bytes most so_far few = (length bytes, few, so_far.1 ∙ ap (λ (l : List ℕ). let o : Option (List ℕ) = Some l in o) so_far.2.rest)

pub taken_nothing : (told now : Option (List ℕ)) (most : ℕ) → now ≡ told → TakesAtMost most told now
taken_nothing None now most same = tt
taken_nothing (Some all) now most same = (0, omega arith, same)
