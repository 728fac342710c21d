-- Entries that are the same are equal.
use Rattle.std.proofs.Common.{◌≡◌, ℕ, true, false, ◌&&◌, ◌==◌, refl, sym, ap, ◌∙◌, eqb-true, eq-eqb, true≢false, List}
use Rattle.std.proofs.lemmas.Bool.{and_parts, and_from, false≢true}
use Rattle.std.proofs.lemmas.Bool.Decides.{Decides-int_eq}
use Rattle.std.proofs.lemmas.Slice.Eq.{bytes_eq-Decides}
use Rattle.std.specs.Ordering.{is_eq}
use Rattle.class_walk.specs.declared.class.Constant.{Constant}
use Rattle.class_walk.specs.declared.class.Constant.TheVariants.{Gap, Utf8, Integer, Float, Long, Double, Class, Str, Field, Method, IfaceMethod, Pair, Handle, MethodType, Dynamic}
use Rattle.class_walk.specs.Layout.{is_gap}
use Rattle.assembler_pool.specs.declared.key.Key.{Key}
use Rattle.assembler_pool.specs.declared.key.Key.TheVariants as keys
use Rattle.assembler_pool.specs.Key.{constant_of}
use Rattle.assembler_pool.specs.contracts.key.KeyPartialEq.TheImpl as key_eq
use Rattle.assembler_pool.specs.contracts.key.KeyOrd.TheImpl as key_ord
use Rattle.assembler_pool.specs.contracts.key.KeyOrd.TheImpl.Laws as key_laws
use Rattle.assembler_pool.specs.Uses.{is_same}

-- two numbers that are the same, in an entry of two
both_are : (make : ℕ → ℕ → Constant) (a b c d : ℕ) → (a == c && b == d) ≡ true → make a b ≡ make c d
both_are make a b c d e =
    let parts = and_parts (a == c) (b == d) e in
    let first : a ≡ c = eqb-true a c parts.0 in
    let second : b ≡ d = eqb-true b d parts.1 in
    cc

both_same : (a b : ℕ) → (a == a && b == b) ≡ true
both_same a b = and_from (a == a) (b == b) (eq-eqb a a refl) (eq-eqb b b refl)

pub same_are_equal : (a b : Constant) → is_same a b ≡ true → a ≡ b
same_are_equal (Utf8 a) (Utf8 b) e = ap (λ x. Utf8 x) ((bytes_eq-Decides a b).0 e)
same_are_equal (Integer a) (Integer b) e = ap (λ x. Integer x) ((Decides-int_eq a b).0 e)
same_are_equal (Float a) (Float b) e = ap (λ x. Float x) (eqb-true a b e)
same_are_equal (Long a) (Long b) e = ap (λ x. Long x) ((Decides-int_eq a b).0 e)
same_are_equal (Double a) (Double b) e = ap (λ x. Double x) (eqb-true a b e)
same_are_equal (Class a) (Class b) e = ap (λ x. Class x) (eqb-true a b e)
same_are_equal (Str a) (Str b) e = ap (λ x. Str x) (eqb-true a b e)
same_are_equal (Field a b) (Field c d) e = both_are (λ x y. Field x y) a b c d e
same_are_equal (Method a b) (Method c d) e = both_are (λ x y. Method x y) a b c d e
same_are_equal (IfaceMethod a b) (IfaceMethod c d) e = both_are (λ x y. IfaceMethod x y) a b c d e
same_are_equal (Pair a b) (Pair c d) e = both_are (λ x y. Pair x y) a b c d e
same_are_equal (Handle a b) (Handle c d) e = both_are (λ x y. Handle x y) a b c d e
same_are_equal (MethodType a) (MethodType b) e = ap (λ x. MethodType x) (eqb-true a b e)
same_are_equal (Dynamic a b) (Dynamic c d) e = both_are (λ x y. Dynamic x y) a b c d e
same_are_equal _ _ e = absurd (false≢true e)

-- each entry is the same as itself
pub same_as_itself : (c : Constant) → is_gap c ≡ false → is_same c c ≡ true
same_as_itself Gap e = absurd (true≢false e)
same_as_itself (Utf8 a) e = (bytes_eq-Decides a a).1 refl
same_as_itself (Integer a) e = (Decides-int_eq a a).1 refl
same_as_itself (Float a) e = eq-eqb a a refl
same_as_itself (Long a) e = (Decides-int_eq a a).1 refl
same_as_itself (Double a) e = eq-eqb a a refl
same_as_itself (Class a) e = eq-eqb a a refl
same_as_itself (Str a) e = eq-eqb a a refl
same_as_itself (Field a b) e = both_same a b
same_as_itself (Method a b) e = both_same a b
same_as_itself (IfaceMethod a b) e = both_same a b
same_as_itself (Pair a b) e = both_same a b
same_as_itself (Handle a b) e = both_same a b
same_as_itself (MethodType a) e = eq-eqb a a refl
same_as_itself (Dynamic a b) e = both_same a b

-- no entry is the same as a gap
pub gap_is_other : (c : Constant) → is_same Gap c ≡ false
gap_is_other Gap = refl
gap_is_other _ = refl

-- no text is an entry of another kind
pub text_is_other : (text : List ℕ) (key : Key) → is_same (Utf8 text) (constant_of key) ≡ false
text_is_other text (keys.Integer _) = refl
text_is_other text _ = refl

pub key_is_other : (key : Key) (text : List ℕ) → is_same (constant_of key) (Utf8 text) ≡ false
key_is_other (keys.Integer _) text = refl
key_is_other _ text = refl

pub key_is_no_gap : (key : Key) → is_gap (constant_of key) ≡ false
key_is_no_gap (keys.Integer _) = refl
key_is_no_gap _ = refl

-- keys are equal where their entries are the same
key_eq_is : (a b : Key) → (key_eq.ghosts).eq a b ≡ is_same (constant_of a) (constant_of b)
key_eq_is (keys.Integer a) (keys.Integer b) = refl
key_eq_is (keys.Long a) (keys.Long b) = refl
key_eq_is (keys.Class a) (keys.Class b) = refl
key_eq_is (keys.Str a) (keys.Str b) = refl
key_eq_is (keys.Field a b) (keys.Field c d) = refl
key_eq_is (keys.Method a b) (keys.Method c d) = refl
key_eq_is (keys.IfaceMethod a b) (keys.IfaceMethod c d) = refl
key_eq_is (keys.Pair a b) (keys.Pair c d) = refl
key_eq_is _ _ = refl

pub key_cmp_is : (a b : Key) → is_eq ((key_ord.ghosts).cmp a b) ≡ is_same (constant_of a) (constant_of b)
key_cmp_is a b = sym (key_laws.matches_eq-law a b) ∙ key_eq_is a b
