-- The only units that files can have.
use Rattle.std.proofs.Common.{◌≡◌, ℕ, zero, suc, ◌+◌, List, [], ◌∷◌, ◌++◌, length, map, Some, slice_get, inl, inr, refl, sym, ◌∙◌, ap, subst, length-append, arith}
use Rattle.std.specs.Option.{option_map}
use Rattle.std.proofs.lemmas.Option.{same_Some, slice_get-map}
use Rattle.class_pool.proofs.Lists.{slice_get-push}
use Rattle.code_decode.specs.declared.code.ClassUnit.{ClassUnit}
use Rattle.link_rules.specs.Units.{AreUnits, IsDecoded}
use Rattle.program_accept.specs.Accepted.{AreUnitsOf}
use Rattle.program_accept.specs.Only.{AreOnlyBefore, IsOnlyUnit, AreOnlyUnits}

pub item_at : {X : Type 0} (f : X → List ℕ) (xs : List X) (k : ℕ) (x : X) → slice_get xs k ≡ Some x → slice_get (map f xs) k ≡ Some (f x)
item_at f xs k x at = slice_get-map f xs k ∙ ap (option_map f) at

pub none_made : (files : List (List ℕ)) → AreOnlyBefore files [] 0
none_made files = record { many = refl; each = λ k bytes u at made. cc }

pub one_made : (files : List (List ℕ)) (made : List ClassUnit) (n : ℕ) (bytes : List ℕ) (u : ClassUnit) → AreOnlyBefore files made n → slice_get files n ≡ Some bytes → IsOnlyUnit bytes u → AreOnlyBefore files (made ++ u ∷ []) (n + 1)
one_made files made n bytes u are at is = record {
  many = omega (arith, are.many, length-append made (u ∷ []));
  each = λ k other v there pushed. elim (slice_get-push made u v k pushed) [
    | inl before ↦ are.each k other v there before
    | inr last ↦
        let same : n ≡ k = sym are.many ∙ sym last.0 in
        let P : ℕ → Type 0 = λ j. slice_get files j ≡ Some bytes in
        let Q : List ℕ → Type 0 = λ b. IsOnlyUnit b v in
        subst Q (same_Some bytes other (sym (subst P same at) ∙ there)) (subst (IsOnlyUnit bytes) last.1 is)
  ];
}

pub all_made : (files : List (List ℕ)) (made : List ClassUnit) (n : ℕ) → n ≡ length files → AreOnlyBefore files made n → AreOnlyUnits files made
all_made files made n same are = subst (AreOnlyBefore files made) same are

same_pair : {X : Type 0} (x y : X) (xs ys : List X) → x ≡ y → xs ≡ ys → x ∷ xs ≡ y ∷ ys
same_pair x y xs ys a b = cc

units_agree : {X : Type 0} (files : List (List ℕ)) (us vs : List X) → length us ≡ length files → length vs ≡ length files
    → ((k : ℕ) (bytes : List ℕ) (u v : X) → slice_get files k ≡ Some bytes → slice_get us k ≡ Some u → slice_get vs k ≡ Some v → u ≡ v) → us ≡ vs
units_agree files [] [] m n same = refl
units_agree [] (u ∷ us) vs m n same = absurd (omega (arith, m))
units_agree [] us (v ∷ vs) m n same = absurd (omega (arith, n))
units_agree (b ∷ files) [] (v ∷ vs) m n same = absurd (omega (arith, m))
units_agree (b ∷ files) (u ∷ us) [] m n same = absurd (omega (arith, n))
units_agree (b ∷ files) (u ∷ us) (v ∷ vs) m n same =
    same_pair u v us vs (same 0 b u v refl refl refl)
    (units_agree files us vs (omega (arith, m)) (omega (arith, n)) (λ k bytes x y. same (suc k) bytes x y))

pub units_are : (files : List (List ℕ)) (us : List ClassUnit) → AreOnlyUnits files us → AreUnitsOf files us
units_are files us only = record { count = only.many; each = λ k bytes u there at. (only.each k bytes u there at).is }

pub no_other_units : (files : List (List ℕ)) (us vs : List ClassUnit) → AreOnlyUnits files us → AreUnitsOf files vs → us ≡ vs
no_other_units files us vs only are =
    units_agree files us vs only.many are.count (λ k bytes u v there a b. (only.each k bytes u there a).only v (are.each k bytes v there b))

-- ---- they were decoded

is_decoded : (bytes : List ℕ) (u : ClassUnit) → IsOnlyUnit bytes u → IsDecoded u
is_decoded bytes u one = record { file = (bytes, one.are, one.is.read); codes = one.is.decoded.codes }

decoded_of : (files : List (List ℕ)) (us : List ClassUnit) → length us ≡ length files
    → ((k : ℕ) (bytes : List ℕ) (u : ClassUnit) → slice_get files k ≡ Some bytes → slice_get us k ≡ Some u → IsOnlyUnit bytes u)
    → (k : ℕ) (u : ClassUnit) → slice_get us k ≡ Some u → IsDecoded u
decoded_of files [] m all k u at = absurd cc
decoded_of [] (v ∷ us) m all k u at = absurd (omega (arith, m))
decoded_of (b ∷ files) (v ∷ us) m all zero u at = is_decoded b u (all 0 b u refl at)
decoded_of (b ∷ files) (v ∷ us) m all (suc k) u at = decoded_of files us (omega (arith, m)) (λ j bytes w. all (suc j) bytes w) k u at

pub are_decoded : (files : List (List ℕ)) (us : List ClassUnit) → AreOnlyUnits files us → AreUnits us
are_decoded files us only = decoded_of files us only.many only.each
