-- What is read of files whose names differ.
use Rattle.std.proofs.Common.{◌≡◌, ℕ, zero, suc, List, [], ◌∷◌, take, Contains, Some, refl, sym, ◌∙◌, ap, subst, arith}
use Rattle.std.proofs.lemmas.List.{get_or-map, length-map}
use Rattle.jr_ports.specs.Folder.{File, AreDifferent, IsRead, names_of, most_read}
use Rattle.program_input.specs.Folder.{AreRead}

name_there : (files : List File) (f : File) (name : List ℕ) → Contains files f → f.name ≡ name → Contains (names_of files) name
name_there files f name there is =
    let at : Contains (names_of files) f.name =
    (there.0, rw length-map there.1, get_or-map (λ (g : File). g.name) files there.0 f _ there.1 ∙ ap (λ (g : File). g.name) there.2)
    in
    subst (Contains (names_of files)) is at

-- two files of one name are one
one_file : (files : List File) (f g : File) → AreDifferent (names_of files) → Contains files f → Contains files g → g.name ≡ f.name → g ≡ f
one_file [] f g different there also same = let none = there.1 in absurd (omega (arith, none))
one_file (h ∷ files) f g different (zero, below, at) (zero, under, is) same = sym is ∙ at
one_file (h ∷ files) f g different (zero, below, at) (suc k, under, is) same =
    absurd (different.0 (name_there files g h.name (k, omega (arith, under), is) (same ∙ ap (λ (e : File). e.name) (sym at))))
one_file (h ∷ files) f g different (suc k, below, at) (zero, under, is) same =
    absurd (different.0 (name_there files f h.name (k, omega (arith, below), at) (sym same ∙ ap (λ (e : File). e.name) (sym is))))
one_file (h ∷ files) f g different (suc j, below, at) (suc k, under, is) same =
    one_file files f g different.1 (j, omega (arith, below), at) (k, omega (arith, under), is) same

one_reading : (files : List File) (name bytes others : List ℕ) → AreDifferent (names_of files) → IsRead files name bytes → IsRead files name others → others ≡ bytes
one_reading files name bytes others different one two =
    let same = one_file files one.0 two.0 different one.1 two.1 (two.2 ∙ sym one.2) in
    two.3 ∙ ap (λ (f : File). take most_read f.bytes) same ∙ sym one.3

pub one_content : (files : List File) (names read others : List (List ℕ)) → AreDifferent (names_of files) → AreRead (Some files) names read → AreRead (Some files) names others → others ≡ read
one_content files [] [] [] different one two = refl
one_content files [] [] (o ∷ others) different one two = absurd two
one_content files [] (r ∷ read) others different one two = absurd one
one_content files (n ∷ names) [] others different one two = absurd one
one_content files (n ∷ names) (r ∷ read) [] different one two = absurd two
one_content files (n ∷ names) (r ∷ read) (o ∷ others) different one two =
    ap (λ z. z ∷ others) (one_reading files n r o different one.0 two.0) ∙ ap (λ zs. r ∷ zs) (one_content files names read others different one.1 two.1)
