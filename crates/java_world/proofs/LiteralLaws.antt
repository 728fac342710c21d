-- String literals that indices of constant pools stand for.
use Rattle.std.proofs.Common.{◌≡◌, ℕ, suc, ◌+◌, ◌*◌, ◌^◌, ◌<◌, ◌≤◌, Bool, true, false, cond, List, [], ◌∷◌, ◌++◌, length, fold, flat_map, filter_map, slice_get, bytes_eq, unwrap_or, Option, None, Some, refl, length-append, arith}
use Rattle.std.specs.List.{cons_option, list_any, position_from}
use Rattle.std.proofs.lemmas.Option.{slice_get_within}
use Rattle.class_walk.specs.declared.class.Constant.{Constant}
use Rattle.code_decode.specs.declared.code.ClassUnit.{ClassUnit}
use Rattle.code_laws.proofs.FileLaws.{small}
use Rattle.link_rules.specs.Names.{program_names, string_number}
use Rattle.link_rules.specs.Strings.{each_once, literal_in, string_texts}
use Rattle.link_rules.specs.Units.{AreUnits}
use Rattle.link_rules.proofs.Lists.{Found, found_at}

put : List (List ℕ) → List ℕ → List (List ℕ)
put known text = cond (list_any (bytes_eq text) known) known (known ++ text ∷ [])

put_one : (known : List (List ℕ)) (text : List ℕ) → length (put known text) ≤ length known + 1
unfolding put
put_one known text = go (list_any (bytes_eq text) known)
  where
    go : (b : Bool) → length (cond b known (known ++ text ∷ [])) ≤ length known + 1
    go true = omega arith
    go false = omega (arith, length-append known (text ∷ []))

put_all : (texts known : List (List ℕ)) → length (fold put known texts) ≤ length known + length texts
put_all [] known = omega arith
put_all (text ∷ texts) known = omega (arith, put_all texts (put known text), put_one known text)

once_few : (texts : List (List ℕ)) → length (each_once texts) ≤ length texts
unfolding put
once_few texts = omega (arith, put_all texts [])

literals_few : (pool rest : List Constant) → length (filter_map (literal_in pool) rest) ≤ length rest
literals_few pool [] = omega arith
literals_few pool (c ∷ rest) = go (literal_in pool c) (literals_few pool rest)
  where
    go : (o : Option (List ℕ)) → length (filter_map (literal_in pool) rest) ≤ length rest
        → length (cons_option o (filter_map (literal_in pool) rest)) ≤ suc (length rest)
    go None few = omega (arith, few)
    go (Some text) few = omega (arith, few)

literals_of : ClassUnit → List (List ℕ)
literals_of u = filter_map (literal_in u.file.pool) u.file.pool

all_few : (us : List ClassUnit) → ((k : ℕ) (u : ClassUnit) → slice_get us k ≡ Some u → length u.file.pool < 2 ^ 16) → length (flat_map literals_of us) ≤ 65536 * length us
unfolding literals_of
all_few [] each = omega arith
all_few (u ∷ us) each =
    omega (arith, length-append (literals_of u) (flat_map literals_of us), each 0 u refl, literals_few u.file.pool u.file.pool, all_few us (λ k v at. each (suc k) v at))

texts_few : (us : List ClassUnit) → AreUnits us → length us ≤ 1024 → length (string_texts us) ≤ 2 ^ 26
unfolding literals_of
texts_few us decoded few =
    omega (arith, few, once_few (flat_map literals_of us), all_few us (λ k u at. (small u.file (decoded k u at).file).pool))

pub number_small : (us : List ClassUnit) (text : List ℕ) → AreUnits us → length us ≤ 1024 → string_number (program_names us) text < 2 ^ 30
number_small us text decoded few = go (position_from (bytes_eq text) 0 (string_texts us)) refl
  where
    go : (o : Option ℕ) → position_from (bytes_eq text) 0 (string_texts us) ≡ o → unwrap_or o 0 < 2 ^ 30
    go None e = omega arith
    go (Some i) e =
        let f : Found (bytes_eq text) (string_texts us) i = found_at (bytes_eq text) (string_texts us) i e in
        let lt : i < length (string_texts us) = slice_get_within (string_texts us) i f.item f.there in
        omega (arith, lt, texts_few us decoded few)
