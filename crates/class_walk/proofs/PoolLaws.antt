-- The two laws of the constant pool.
use Rattle.std.proofs.Common.{◌≡◌, ℕ, zero, suc, ◌+◌, ◌^◌, ◌<◌, Bool, true, false, cond, List, [], ◌∷◌, ◌++◌, length, drop, Option, Some, None, Ok, refl, sym, ap, subst, ◌∙◌, arith, ℤ}
use Rattle.std.specs.Prelude.{◌==◌, FitsSigned}
use Rattle.std.specs.Int.{Width, w32, w64, cast_signed, cast_unsigned}
use Rattle.std.specs.List.{flat_map}
use Rattle.std.proofs.lemmas.Bool.{eqb-true, eqb-false, ne_eqb}
use Rattle.std.proofs.lemmas.List.Concat.{flat_map-cons}
use Rattle.std.proofs.lemmas.Int.{of_z-to_z, to_z-of_z}
use mir.Val.{bits}
use mir.Facts.{sfits_to_z, Fits-of_z}
use Rattle.byteorder.specs.Endian.{big_bytes}
use Rattle.class_walk.specs.declared.class.Constant.{Constant}
use Rattle.class_walk.specs.declared.class.Constant.TheVariants.{Gap, Utf8, Integer, Float, Long, Double, Class, Str, Field, Method, IfaceMethod, Pair, Handle, MethodType, Dynamic}
use Rattle.class_walk.specs.declared.pool.Tag.{Tag}
use Rattle.class_walk.specs.declared.pool.Tag.TheVariants as tags
use Rattle.class_walk.specs.declared.refusal.WalkFault.TheVariants.{PoolTag}
use Rattle.class_walk.specs.Place.{Place}
use Rattle.class_walk.specs.Layout.{IsBytes, u1, u2, u4, u8, constant, Fits, is_gap, is_wide, IsGapped, IsPool, pool_table}
use Rattle.class_walk.specs.Reading.{bytes_at, number_at, items_at, tag_of, one_at, two_at, utf8_at, content_at, tagged, tag_at, entry_at, PoolPlace, slot_at, next_slot, slots_at, count_at, pool_at}
use Rattle.class_walk.proofs.Fields.{Takes, Takes-nothing, Takes-then, Takes-first, Takes-second, between, bytes_after, bind_ok, bind_then, guard_ok, ok_is, bytes_take, bytes_again, IsWide, wide1, wide2, wide4, wide8, number_takes, number_again}
use Rattle.class_walk.proofs.Laws.{Law, place_is}

-- ---- tags

abbrev number_of : Tag → ℕ
number_of tags.Utf8 = 1
number_of tags.Integer = 3
number_of tags.Float = 4
number_of tags.Long = 5
number_of tags.Double = 6
number_of tags.Class = 7
number_of tags.Str = 8
number_of tags.Field = 9
number_of tags.Method = 10
number_of tags.IfaceMethod = 11
number_of tags.Pair = 12
number_of tags.Handle = 15
number_of tags.MethodType = 16
number_of tags.Dynamic = 18

chosen : (n k : ℕ) (own : Tag) (others : Option Tag) (t : Tag) → number_of own ≡ k → (others ≡ Some t → n ≡ number_of t) → cond (n == k) (Some own) others ≡ Some t → n ≡ number_of t
chosen n k own others t is next e = by (n == k) refl e
  where
    by : (b : Bool) → (n == k) ≡ b → cond b (Some own) others ≡ Some t → n ≡ number_of t
    by true at f = let same : own ≡ t = cc in eqb-true n k at ∙ sym is ∙ ap number_of same
    by false at f = next f

tag_number : (n : ℕ) (t : Tag) → tag_of n ≡ Some t → n ≡ number_of t
unfolding tag_of
tag_number n t e =
    chosen n 1 tags.Utf8 _ t refl (
    chosen n 3 tags.Integer _ t refl (
    chosen n 4 tags.Float _ t refl (
    chosen n 5 tags.Long _ t refl (
    chosen n 6 tags.Double _ t refl (
    chosen n 7 tags.Class _ t refl (
    chosen n 8 tags.Str _ t refl (
    chosen n 9 tags.Field _ t refl (
    chosen n 10 tags.Method _ t refl (
    chosen n 11 tags.IfaceMethod _ t refl (
    chosen n 12 tags.Pair _ t refl (
    chosen n 15 tags.Handle _ t refl (
    chosen n 16 tags.MethodType _ t refl (
    chosen n 18 tags.Dynamic _ t refl (λ none. absurd cc)))))))))))))) e

tag_again : (t : Tag) → tag_of (number_of t) ≡ Some t
unfolding tag_of
tag_again tags.Utf8 = refl
tag_again tags.Integer = refl
tag_again tags.Float = refl
tag_again tags.Long = refl
tag_again tags.Double = refl
tag_again tags.Class = refl
tag_again tags.Str = refl
tag_again tags.Field = refl
tag_again tags.Method = refl
tag_again tags.IfaceMethod = refl
tag_again tags.Pair = refl
tag_again tags.Handle = refl
tag_again tags.MethodType = refl
tag_again tags.Dynamic = refl

tag_fits : (t : Tag) → number_of t < 256
tag_fits tags.Utf8 = omega arith
tag_fits tags.Integer = omega arith
tag_fits tags.Float = omega arith
tag_fits tags.Long = omega arith
tag_fits tags.Double = omega arith
tag_fits tags.Class = omega arith
tag_fits tags.Str = omega arith
tag_fits tags.Field = omega arith
tag_fits tags.Method = omega arith
tag_fits tags.IfaceMethod = omega arith
tag_fits tags.Pair = omega arith
tag_fits tags.Handle = omega arith
tag_fits tags.MethodType = omega arith
tag_fits tags.Dynamic = omega arith

-- ---- what comes after a tag

abbrev behind : Constant → List ℕ
behind c = drop 1 (constant c)

record IsBehind (t : Tag) (p : Place) (c : Constant) (q : Place) : Type 0 where
  pub takes : Takes p (behind c) q
  pub tagged : constant c ≡ u1 (number_of t) ++ behind c
  pub fits : Fits c
  pub entry : is_gap c ≡ false

one_takes : (n : ℕ) (wide : IsWide n) (make : ℕ → Constant) (p : Place) (c : Constant) (q : Place) → IsBytes p.left → one_at n make p ≡ Ok (c, q)
    → (x : ℕ) × (make x ≡ c) × Takes p (big_bytes n x) q × (x < 256 ^ n)
one_takes n wide make p c q fits e =
    let a = bind_ok (number_at n p) _ _ e in
    let same = ok_is (make a.0.0, a.0.1) (c, q) a.2 in
    let t = number_takes n wide p a.0.0 a.0.1 fits a.1 in
    (a.0.0, ap (λ (y : Constant × Place). y.0) same, subst (λ (r : Place). Takes p (big_bytes n a.0.0) r) (ap (λ (y : Constant × Place). y.1) same) t.0, t.1)

two_takes : (n : ℕ) (wide : IsWide n) (make : ℕ → ℕ → Constant) (p : Place) (c : Constant) (q : Place) → IsBytes p.left → two_at n make p ≡ Ok (c, q)
    → (x : ℕ) × (y : ℕ) × (make x y ≡ c) × Takes p (big_bytes n x ++ u2 y) q × (x < 256 ^ n) × (y < 2 ^ 16)
two_takes n wide make p c q fits e =
    let a = bind_ok (number_at n p) _ _ e in
    let b = bind_ok (number_at 2 a.0.1) _ _ a.2 in
    let same = ok_is (make a.0.0 b.0.0, b.0.1) (c, q) b.2 in
    let t = number_takes n wide p a.0.0 a.0.1 fits a.1 in
    let u = number_takes 2 wide2 a.0.1 b.0.0 b.0.1 (bytes_after fits t.0) b.1 in
    (a.0.0, b.0.0, ap (λ (y : Constant × Place). y.0) same, subst (λ (r : Place). Takes p (big_bytes n a.0.0 ++ u2 b.0.0) r) (ap (λ (y : Constant × Place). y.1) same) (Takes-then t.0 u.0), t.1, u.1)

one_again : (n : ℕ) (make : ℕ → Constant) (p : Place) (x : ℕ) (q : Place) → x < 256 ^ n → Takes p (big_bytes n x) q → one_at n make p ≡ Ok (make x, q)
one_again n make p x q lt t = rw (number_again n p x q lt t) refl

two_again : (n : ℕ) (make : ℕ → ℕ → Constant) (p : Place) (x y : ℕ) (q : Place) → x < 256 ^ n → y < 2 ^ 16 → Takes p (big_bytes n x ++ u2 y) q → two_at n make p ≡ Ok (make x y, q)
two_again n make p x y q lx ly t =
    rw (number_again n p x _ lx (Takes-first p (big_bytes n x) (u2 y) q t), number_again 2 _ y q ly (Takes-second p (big_bytes n x) (u2 y) q t)) refl

signed_bits : (w : Width) (n : ℕ) → n < 2 ^ bits w → FitsSigned w (cast_signed w n)
signed_bits w n lt = sfits_to_z (record { fits = lt })

bits_below : (w : Width) (z : ℤ) → FitsSigned w z → cast_unsigned w z < 2 ^ bits w
bits_below w z fits = (Fits-of_z fits).fits

utf8_takes : (p : Place) (c : Constant) (q : Place) → IsBytes p.left → utf8_at p ≡ Ok (c, q) → IsBehind tags.Utf8 p c q
utf8_takes p c q fits e =
    let a = bind_ok (number_at 2 p) _ _ e in
    let b = bind_ok (bytes_at a.0.0 a.0.1) _ _ a.2 in
    let t = number_takes 2 wide2 p a.0.0 a.0.1 fits a.1 in
    let u = bytes_take a.0.0 a.0.1 b.0.0 b.0.1 b.1 in
    let whole : Takes p (u2 (length b.0.0) ++ b.0.0) b.0.1 = subst (λ (n : ℕ). Takes p (u2 n ++ b.0.0) b.0.1) (sym u.1) (Takes-then t.0 u.0) in
    subst (λ (y : Constant × Place). IsBehind tags.Utf8 p y.0 y.1) (ok_is (Utf8 b.0.0, b.0.1) (c, q) b.2)
    (record { takes = whole; tagged = refl; fits = omega (arith, t.1, u.1); entry = refl })

utf8_again : (p : Place) (bytes : List ℕ) (q : Place) → length bytes < 2 ^ 16 → Takes p (u2 (length bytes) ++ bytes) q → utf8_at p ≡ Ok (Utf8 bytes, q)
utf8_again p bytes q lt t =
    rw (number_again 2 p (length bytes) _ lt (Takes-first p (u2 (length bytes)) bytes q t), bytes_again _ bytes q (Takes-second p (u2 (length bytes)) bytes q t)) refl

-- a constant of one number, or of two
one_behind : (t : Tag) (n : ℕ) (wide : IsWide n) (make : ℕ → Constant) (p : Place) (c : Constant) (q : Place) → IsBytes p.left
    → ((x : ℕ) → x < 256 ^ n → Takes p (big_bytes n x) q → IsBehind t p (make x) q) → one_at n make p ≡ Ok (c, q) → IsBehind t p c q
one_behind t n wide make p c q fits is e =
    let o = one_takes n wide make p c q fits e in
    subst (λ (y : Constant). IsBehind t p y q) o.1 (is o.0 o.3 o.2)

two_behind : (t : Tag) (n : ℕ) (wide : IsWide n) (make : ℕ → ℕ → Constant) (p : Place) (c : Constant) (q : Place) → IsBytes p.left
    → ((x y : ℕ) → x < 256 ^ n → y < 2 ^ 16 → Takes p (big_bytes n x ++ u2 y) q → IsBehind t p (make x y) q) → two_at n make p ≡ Ok (c, q) → IsBehind t p c q
two_behind t n wide make p c q fits is e =
    let o = two_takes n wide make p c q fits e in
    subst (λ (y : Constant). IsBehind t p y q) o.2 (is o.0 o.1 o.4 o.5 o.3)

content_takes : (t : Tag) (p : Place) (c : Constant) (q : Place) → IsBytes p.left → content_at t p ≡ Ok (c, q) → IsBehind t p c q
unfolding content_at
content_takes tags.Utf8 p c q fits e = utf8_takes p c q fits e
content_takes tags.Integer p c q fits e = one_behind tags.Integer 4 wide4 _ p c q fits (λ x lt u. record {
  takes = subst (λ (n : ℕ). Takes p (u4 n) q) (sym (of_z-to_z w32 x lt)) u;
  tagged = refl;
  fits = signed_bits w32 x lt;
  entry = refl;
}) e
content_takes tags.Float p c q fits e = one_behind tags.Float 4 wide4 _ p c q fits (λ x lt u. record { takes = u; tagged = refl; fits = lt; entry = refl }) e
content_takes tags.Long p c q fits e = one_behind tags.Long 8 wide8 _ p c q fits (λ x lt u. record {
  takes = subst (λ (n : ℕ). Takes p (u8 n) q) (sym (of_z-to_z w64 x lt)) u;
  tagged = refl;
  fits = signed_bits w64 x lt;
  entry = refl;
}) e
content_takes tags.Double p c q fits e = one_behind tags.Double 8 wide8 _ p c q fits (λ x lt u. record { takes = u; tagged = refl; fits = lt; entry = refl }) e
content_takes tags.Class p c q fits e = one_behind tags.Class 2 wide2 _ p c q fits (λ x lt u. record { takes = u; tagged = refl; fits = lt; entry = refl }) e
content_takes tags.Str p c q fits e = one_behind tags.Str 2 wide2 _ p c q fits (λ x lt u. record { takes = u; tagged = refl; fits = lt; entry = refl }) e
content_takes tags.Field p c q fits e = two_behind tags.Field 2 wide2 _ p c q fits (λ x y lx ly u. record { takes = u; tagged = refl; fits = (lx, ly); entry = refl }) e
content_takes tags.Method p c q fits e = two_behind tags.Method 2 wide2 _ p c q fits (λ x y lx ly u. record { takes = u; tagged = refl; fits = (lx, ly); entry = refl }) e
content_takes tags.IfaceMethod p c q fits e = two_behind tags.IfaceMethod 2 wide2 _ p c q fits (λ x y lx ly u. record { takes = u; tagged = refl; fits = (lx, ly); entry = refl }) e
content_takes tags.Pair p c q fits e = two_behind tags.Pair 2 wide2 _ p c q fits (λ x y lx ly u. record { takes = u; tagged = refl; fits = (lx, ly); entry = refl }) e
content_takes tags.Handle p c q fits e = two_behind tags.Handle 1 wide1 _ p c q fits (λ x y lx ly u. record { takes = u; tagged = refl; fits = (lx, ly); entry = refl }) e
content_takes tags.MethodType p c q fits e = one_behind tags.MethodType 2 wide2 _ p c q fits (λ x lt u. record { takes = u; tagged = refl; fits = lt; entry = refl }) e
content_takes tags.Dynamic p c q fits e = two_behind tags.Dynamic 2 wide2 _ p c q fits (λ x y lx ly u. record { takes = u; tagged = refl; fits = (lx, ly); entry = refl }) e

-- the tag of a constant that is an entry
record IsTagged (c : Constant) (t : Tag) : Type 0 where
  pub parts : constant c ≡ u1 (number_of t) ++ behind c
  pub again : (p q : Place) → Takes p (behind c) q → content_at t p ≡ Ok (c, q)

entry_tag : (c : Constant) → is_gap c ≡ false → Fits c → (t : Tag) × IsTagged c t
unfolding content_at
entry_tag Gap e fits = absurd cc
entry_tag (Utf8 bytes) e fits = (tags.Utf8, record { parts = refl; again = λ p q t. utf8_again p bytes q fits t })
entry_tag (Integer value) e fits = (
  tags.Integer,
  record {
    parts = refl;
    again = λ p q t.
        one_again 4 (λ n. Integer (cast_signed w32 n)) p (cast_unsigned w32 value) q (bits_below w32 value fits) t ∙ ap (λ (z : ℤ). Ok (Integer z, q)) (to_z-of_z w32 value fits);
  },
)
entry_tag (Float bits) e fits = (tags.Float, record { parts = refl; again = λ p q t. one_again 4 (λ n. Float n) p bits q fits t })
entry_tag (Long value) e fits = (
  tags.Long,
  record {
    parts = refl;
    again = λ p q t.
        one_again 8 (λ n. Long (cast_signed w64 n)) p (cast_unsigned w64 value) q (bits_below w64 value fits) t ∙ ap (λ (z : ℤ). Ok (Long z, q)) (to_z-of_z w64 value fits);
  },
)
entry_tag (Double bits) e fits = (tags.Double, record { parts = refl; again = λ p q t. one_again 8 (λ n. Double n) p bits q fits t })
entry_tag (Class name) e fits = (tags.Class, record { parts = refl; again = λ p q t. one_again 2 (λ n. Class n) p name q fits t })
entry_tag (Str text) e fits = (tags.Str, record { parts = refl; again = λ p q t. one_again 2 (λ n. Str n) p text q fits t })
entry_tag (Field m n) e fits = (tags.Field, record { parts = refl; again = λ p q t. two_again 2 (λ m n. Field m n) p m n q fits.0 fits.1 t })
entry_tag (Method m n) e fits = (tags.Method, record { parts = refl; again = λ p q t. two_again 2 (λ m n. Method m n) p m n q fits.0 fits.1 t })
entry_tag (IfaceMethod m n) e fits = (tags.IfaceMethod, record { parts = refl; again = λ p q t. two_again 2 (λ m n. IfaceMethod m n) p m n q fits.0 fits.1 t })
entry_tag (Pair m n) e fits = (tags.Pair, record { parts = refl; again = λ p q t. two_again 2 (λ m n. Pair m n) p m n q fits.0 fits.1 t })
entry_tag (Handle m n) e fits = (tags.Handle, record { parts = refl; again = λ p q t. two_again 1 (λ m n. Handle m n) p m n q fits.0 fits.1 t })
entry_tag (MethodType n) e fits = (tags.MethodType, record { parts = refl; again = λ p q t. one_again 2 (λ n. MethodType n) p n q fits t })
entry_tag (Dynamic m n) e fits = (tags.Dynamic, record { parts = refl; again = λ p q t. two_again 2 (λ m n. Dynamic m n) p m n q fits.0 fits.1 t })

-- ---- entries

tagged_ok : (o : Option Tag) (index : ℕ) (p : Place) (y : Tag × Place) → tagged o index p ≡ Ok y → (t : Tag) × (o ≡ Some t) × ((t, p) ≡ y)
tagged_ok None index p y e = absurd cc
tagged_ok (Some t) index p y e = (t, refl, ok_is (t, p) y e)

record IsSlot (due : Bool) (p : Place) (c : Constant) (q : Place) : Type 0 where
  pub takes : Takes p (constant c) q
  pub gap : is_gap c ≡ due
  pub fits : Fits c

entry_takes : (index : ℕ) (p : Place) (c : Constant) (q : Place) → IsBytes p.left → entry_at index p ≡ Ok (c, q) → IsSlot false p c q
unfolding entry_at tag_at
entry_takes index p c q fits e =
    let b = bind_ok (tag_at index p) _ _ e in
    let a = bind_ok (number_at 1 p) _ _ b.1 in
    let o = tagged_ok (tag_of a.0.0) index a.0.1 b.0 a.2 in
    let read = subst (λ (y : Tag × Place). content_at y.0 y.1 ≡ Ok (c, q)) (sym o.2) b.2 in
    let u = number_takes 1 wide1 p a.0.0 a.0.1 fits a.1 in
    let is = content_takes o.0 a.0.1 c q (bytes_after fits u.0) read in
    let number : u1 a.0.0 ++ behind c ≡ constant c = ap (λ (n : ℕ). u1 n ++ behind c) (tag_number a.0.0 o.0 o.1) ∙ sym is.tagged in
    record { takes = subst (λ (text : List ℕ). Takes p text q) number (Takes-then u.0 is.takes); gap = is.entry; fits = is.fits }

entry_again : (index : ℕ) (p : Place) (c : Constant) (q : Place) → is_gap c ≡ false → Fits c → Takes p (constant c) q → entry_at index p ≡ Ok (c, q)
unfolding entry_at tag_at
entry_again index p c q entry fits t =
    let tag = entry_tag c entry fits in
    let whole : Takes p (u1 (number_of tag.0) ++ behind c) q = subst (λ (text : List ℕ). Takes p text q) tag.1.parts t in
    let number = number_again 1 p (number_of tag.0) _ (tag_fits tag.0) (Takes-first p (u1 (number_of tag.0)) (behind c) q whole) in
    let r = between p (u1 (number_of tag.0)) (behind c) q in
    rw (number, tag_again tag.0) (tag.1.again r q (Takes-second p (u1 (number_of tag.0)) (behind c) q whole))

slot_takes : (due : Bool) (index : ℕ) (p : Place) (c : Constant) (q : Place) → IsBytes p.left → slot_at due index p ≡ Ok (c, q) → IsSlot due p c q
slot_takes true index p c q fits e =
    subst (λ (y : Constant × Place). IsSlot true p y.0 y.1) (ok_is (Gap, p) (c, q) e) (record { takes = Takes-nothing p; gap = refl; fits = tt })
slot_takes false index p c q fits e = entry_takes index p c q fits e

gap_is : (c : Constant) → is_gap c ≡ true → c ≡ Gap
gap_is Gap e = refl
gap_is (Utf8 _) e = absurd cc
gap_is (Integer _) e = absurd cc
gap_is (Float _) e = absurd cc
gap_is (Long _) e = absurd cc
gap_is (Double _) e = absurd cc
gap_is (Class _) e = absurd cc
gap_is (Str _) e = absurd cc
gap_is (Field _ _) e = absurd cc
gap_is (Method _ _) e = absurd cc
gap_is (IfaceMethod _ _) e = absurd cc
gap_is (Pair _ _) e = absurd cc
gap_is (Handle _ _) e = absurd cc
gap_is (MethodType _) e = absurd cc
gap_is (Dynamic _ _) e = absurd cc

slot_again : (due : Bool) (index : ℕ) (p : Place) (c : Constant) (q : Place) → is_gap c ≡ due → Fits c → Takes p (constant c) q → slot_at due index p ≡ Ok (c, q)
slot_again true index p c q gap fits t =
    let none : c ≡ Gap = gap_is c gap in
    let u : Takes p [] q = subst (λ (y : Constant). Takes p (constant y) q) none t in
    rw (place_is p q (omega (arith, u.at)) u.parts, none) refl
slot_again false index p c q gap fits t = entry_again index p c q gap fits t

-- ---- the pool

record SlotsTaken (n : ℕ) (s : PoolPlace) (cs : List Constant) (s' : PoolPlace) : Type 0 where
  pub takes : Takes s.place (flat_map constant cs) s'.place
  pub count : length cs ≡ n
  pub gaps : IsGapped s.due cs

slots_more : (n : ℕ) (s : PoolPlace) (c : Constant) (p : Place) (cs : List Constant) (s' : PoolPlace) → IsSlot s.due s.place c p
    → SlotsTaken n (record { due = is_wide c; index = s.index + 1; place = p }) cs s' → SlotsTaken (suc n) s (c ∷ cs) s'
slots_more n s c p cs s' one others = record {
  takes = rw flat_map-cons (Takes-then one.takes others.takes);
  count = ap suc others.count;
  gaps = (one.gap, one.fits, others.gaps);
}

slots_take : (n : ℕ) (s : PoolPlace) (cs : List Constant) (s' : PoolPlace) → IsBytes s.place.left → items_at next_slot n s ≡ Ok (cs, s') → SlotsTaken n s cs s'
unfolding items_at
slots_take zero s cs s' fits e =
    subst (λ (y : List Constant × PoolPlace). SlotsTaken 0 s y.0 y.1) (ok_is ([], s) (cs, s') e) (record { takes = Takes-nothing s.place; count = refl; gaps = tt })
slots_take (suc n) s cs s' fits e =
    bind_then (next_slot s) _ _ _ e (λ a ea e.
    bind_then (slot_at s.due s.index s.place) _ _ _ ea (λ slot es et.
    bind_then (items_at next_slot n a.1) _ _ _ e (λ b eb e.
    let next : Constant × PoolPlace = (slot.0, record { due = is_wide slot.0; index = s.index + 1; place = slot.1 }) in
    let same : next ≡ a = ok_is next a et in
    let one = slot_takes s.due s.index s.place slot.0 slot.1 fits es in
    let read : items_at next_slot n next.1 ≡ Ok b = subst (λ (y : Constant × PoolPlace). items_at next_slot n y.1 ≡ Ok b) (sym same) eb in
    let others = slots_take n next.1 b.0 b.1 (bytes_after fits one.takes) read in
    let is : (next.0 ∷ b.0, b.1) ≡ (cs, s') = ap (λ (y : Constant × PoolPlace). (y.0 ∷ b.0, b.1)) same ∙ ok_is (a.0 ∷ b.0, b.1) (cs, s') e in
    subst (λ (y : List Constant × PoolPlace). SlotsTaken (suc n) s y.0 y.1) {x = (next.0 ∷ b.0, b.1)} is (slots_more n s slot.0 slot.1 b.0 b.1 one others))))

record Slots (s : PoolPlace) (cs : List Constant) (q : Place) : Type 0 where
  pub end : PoolPlace
  pub read : items_at next_slot (length cs) s ≡ Ok (cs, end)
  pub place : end.place ≡ q

slots_again : (s : PoolPlace) (cs : List Constant) (q : Place) → IsGapped s.due cs → Takes s.place (flat_map constant cs) q → Slots s cs q
unfolding items_at
slots_again s [] q right t = record { end = s; read = refl; place = place_is s.place q (omega (arith, t.at)) t.parts }
slots_again s (c ∷ cs) q right t =
    let whole : Takes s.place (constant c ++ flat_map constant cs) q = subst (λ (text : List ℕ). Takes s.place text q) (flat_map-cons constant c cs) t in
    let r = between s.place (constant c) (flat_map constant cs) q in
    let one = slot_again s.due s.index s.place c r right.0 right.1 (Takes-first s.place (constant c) (flat_map constant cs) q whole) in
    let next : PoolPlace = record { due = is_wide c; index = s.index + 1; place = r } in
    let others = slots_again next cs q right.2 (Takes-second s.place (constant c) (flat_map constant cs) q whole) in
    record { end = others.end; read = rw (one, others.read) refl; place = others.place }

count_takes : (p : Place) (n : ℕ) (q : Place) → IsBytes p.left → count_at p ≡ Ok (n, q) → Takes p (u2 n) q × (n < 2 ^ 16) × ((n == 0) ≡ false)
unfolding count_at
count_takes p n q fits e =
    let a = bind_ok (number_at 2 p) _ _ e in
    let g = guard_ok (a.0.0 == 0) (PoolTag 0) _ _ a.2 in
    let t = number_takes 2 wide2 p a.0.0 a.0.1 fits a.1 in
    subst (λ (y : ℕ × Place). Takes p (u2 y.0) y.1 × (y.0 < 2 ^ 16) × ((y.0 == 0) ≡ false)) {x = a.0} (ok_is a.0 (n, q) g.1) (t.0, t.1, g.0)

pool_takes : (p : Place) (pool : List Constant) (q : Place) → IsBytes p.left → pool_at p ≡ Ok (pool, q) → Takes p (pool_table pool) q × IsPool pool
unfolding pool_at slots_at
pool_takes p pool q fits e =
    let a = bind_ok (count_at p) _ _ e in
    let b = bind_ok (items_at next_slot a.0.0 (record { due = true; index = 0; place = a.0.1 })) _ _ a.2 in
    let t = count_takes p a.0.0 a.0.1 fits a.1 in
    let u = slots_take a.0.0 (record { due = true; index = 0; place = a.0.1 }) b.0.0 b.0.1 (bytes_after fits t.0) b.1 in
    let made : List Constant × Place = (b.0.0, b.0.1.place) in
    let some = eqb-false a.0.0 0 t.2 in
    subst (λ (y : List Constant × Place). Takes p (pool_table y.0) y.1 × IsPool y.0) {x = made} (ok_is made (pool, q) b.2)
    (subst (λ (n : ℕ). Takes p (u2 n ++ flat_map constant b.0.0) b.0.1.place) (sym u.count) (Takes-then t.0 u.takes), record { above = omega (arith, u.count, some); count = omega (arith, t.1, u.count); gaps = u.gaps })

pool_again : (p : Place) (pool : List Constant) (q : Place) → IsPool pool → Takes p (pool_table pool) q → pool_at p ≡ Ok (pool, q)
unfolding pool_at count_at slots_at
pool_again p pool q right t =
    let count = number_again 2 p (length pool) _ right.count (Takes-first p (u2 (length pool)) (flat_map constant pool) q t) in
    let some : (length pool == 0) ≡ false = ne_eqb (length pool) 0 (omega (arith, right.above)) in
    let start : PoolPlace = record { due = true; index = 0; place = between p (u2 (length pool)) (flat_map constant pool) q } in
    let slots = slots_again start pool q right.gaps (Takes-second p (u2 (length pool)) (flat_map constant pool) q t) in
    rw (count, some, slots.read, slots.place) refl

pub pool_law : Law pool_at pool_table (λ at pool. IsPool pool)
pool_law = record { takes = pool_takes; again = pool_again }
