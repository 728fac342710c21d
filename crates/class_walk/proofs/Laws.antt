-- The two laws of each part of the file: what is read of it is what the layout puts there, and what the layout puts there is read.
use Rattle.std.proofs.Common.{◌≡◌, ℕ, zero, suc, ◌+◌, ◌^◌, ◌<◌, List, [], ◌∷◌, ◌++◌, length, Result, Ok, refl, sym, ap, subst, ◌∙◌, arith}
use Rattle.std.specs.List.{flat_map, AllByRecursion}
use Rattle.std.proofs.lemmas.List.Concat.{flat_map-cons}
use Rattle.byteorder.specs.Endian.{big_bytes}
use Rattle.class_walk.specs.declared.class.RawAttribute.{RawAttribute}
use Rattle.class_walk.specs.declared.class.RawMember.{RawMember}
use Rattle.class_walk.specs.declared.class.RawHandler.{RawHandler}
use Rattle.class_walk.specs.declared.refusal.WalkFault.{WalkFault}
use Rattle.class_walk.specs.Place.{Place}
use Rattle.class_walk.specs.Layout.{IsBytes, u2, u4, table, AllPlaced, IsTable, IsCounted, attribute, IsAttribute, member, IsMember, handler, IsRawHandler}
use Rattle.class_walk.specs.Reading.{bytes_at, number_at, items_at, table_at, attribute_at, member_at, handler_at}
use Rattle.class_walk.proofs.Fields.{Takes, Takes-nothing, Takes-then, Takes-first, Takes-second, between, bytes_after, bind_ok, bind_then, ok_is, bytes_take, bytes_again, IsWide, wide2, wide4, number_takes, number_again}

-- a reader reads a spelling
pub record Law {X : Type 0} (read : Place → Result (X × Place) WalkFault) (spell : X → List ℕ) (IsRight : ℕ → X → Type 0) : Type 0 where
  pub takes : (p : Place) (x : X) (q : Place) → IsBytes p.left → read p ≡ Ok (x, q) → Takes p (spell x) q × IsRight p.at x
  pub again : (p : Place) (x : X) (q : Place) → IsRight p.at x → Takes p (spell x) q → read p ≡ Ok (x, q)

pub number_law : (n : ℕ) → IsWide n → Law (number_at n) (big_bytes n) (λ at x. x < 256 ^ n)
number_law n wide = record { takes = λ p x q fits e. number_takes n wide p x q fits e; again = λ p x q lt t. number_again n p x q lt t }

-- ---- items

pub place_is : (p q : Place) → p.at ≡ q.at → p.left ≡ q.left → p ≡ q
place_is p q a l = ap (λ (n : ℕ). made n p.left) a ∙ ap (made q.at) l
  where
    made : ℕ → List ℕ → Place
    made n bytes = record { at = n; left = bytes }

pub items_take : {X : Type 0} (read : Place → Result (X × Place) WalkFault) (spell : X → List ℕ) (IsRight : ℕ → X → Type 0) → Law read spell IsRight
    → (n : ℕ) (p : Place) (xs : List X) (q : Place) → IsBytes p.left → items_at read n p ≡ Ok (xs, q)
    → Takes p (flat_map spell xs) q × (length xs ≡ n) × AllPlaced spell IsRight p.at xs
unfolding items_at
items_take {X = X} read spell IsRight law zero p xs q fits e =
    subst (λ (y : List X × Place). Takes p (flat_map spell y.0) y.1 × (length y.0 ≡ 0) × AllPlaced spell IsRight p.at y.0) (ok_is ([], p) (xs, q) e) (Takes-nothing p, refl, tt)
items_take {X = X} read spell IsRight law (suc n) p xs q fits e =
    let a = bind_ok (read p) _ _ e in
    let b = bind_ok (items_at read n a.0.1) _ _ a.2 in
    let t = law.takes p a.0.0 a.0.1 fits a.1 in
    let u = items_take read spell IsRight law n a.0.1 b.0.0 b.0.1 (bytes_after fits t.0) b.1 in
    subst (λ (y : List X × Place). Takes p (flat_map spell y.0) y.1 × (length y.0 ≡ suc n) × AllPlaced spell IsRight p.at y.0) (ok_is (a.0.0 ∷ b.0.0, b.0.1) (xs, q) b.2)
    (rw flat_map-cons (Takes-then t.0 u.0), ap suc u.1, (t.1, subst (λ (at : ℕ). AllPlaced spell IsRight at b.0.0) t.0.at u.2))

pub items_again : {X : Type 0} (read : Place → Result (X × Place) WalkFault) (spell : X → List ℕ) (IsRight : ℕ → X → Type 0) → Law read spell IsRight
    → (p : Place) (xs : List X) (q : Place) → AllPlaced spell IsRight p.at xs → Takes p (flat_map spell xs) q → items_at read (length xs) p ≡ Ok (xs, q)
unfolding items_at
items_again {X = X} read spell IsRight law p [] q right t = let same : p ≡ q = place_is p q (omega (arith, t.at)) t.parts in ap (λ (r : Place). Ok ([], r)) same
items_again {X = X} read spell IsRight law p (x ∷ xs) q right t =
    let whole : Takes p (spell x ++ flat_map spell xs) q = subst (λ (text : List ℕ). Takes p text q) (flat_map-cons spell x xs) t in
    let first = law.again p x _ right.0 (Takes-first p (spell x) (flat_map spell xs) q whole) in
    let others = items_again read spell IsRight law (between p (spell x) (flat_map spell xs) q) xs q right.1 (Takes-second p (spell x) (flat_map spell xs) q whole) in
    rw (first, others) refl

pub table_law : {X : Type 0} (read : Place → Result (X × Place) WalkFault) (spell : X → List ℕ) (IsRight : ℕ → X → Type 0) → Law read spell IsRight → Law (table_at read) (table spell) (IsTable spell IsRight)
unfolding table_at
table_law {X = X} read spell IsRight law = record { takes = takes; again = again }
  where
    takes : (p : Place) (xs : List X) (q : Place) → IsBytes p.left → table_at read p ≡ Ok (xs, q) → Takes p (table spell xs) q × IsTable spell IsRight p.at xs
    takes p xs q fits e =
        let a = bind_ok (number_at 2 p) _ _ e in
        let t = number_takes 2 wide2 p a.0.0 a.0.1 fits a.1 in
        let u = items_take read spell IsRight law a.0.0 a.0.1 xs q (bytes_after fits t.0) a.2 in
        (subst (λ (n : ℕ). Takes p (u2 n ++ flat_map spell xs) q) (sym u.1) (Takes-then t.0 u.0), (omega (arith, t.1, u.1), subst (λ (at : ℕ). AllPlaced spell IsRight at xs) t.0.at u.2))

    again : (p : Place) (xs : List X) (q : Place) → IsTable spell IsRight p.at xs → Takes p (table spell xs) q → table_at read p ≡ Ok (xs, q)
    again p xs q right t =
        let count = number_again 2 p (length xs) _ right.0 (Takes-first p (u2 (length xs)) (flat_map spell xs) q t) in
        let items = items_again read spell IsRight law (between p (u2 (length xs)) (flat_map spell xs) q) xs q right.1 (Takes-second p (u2 (length xs)) (flat_map spell xs) q t) in
        rw count items

-- items that don't look at their place
pub counted : {X : Type 0} (spell : X → List ℕ) (IsRight : X → Type 0) (at : ℕ) (xs : List X) → IsTable spell (λ n x. IsRight x) at xs → IsCounted IsRight xs
counted {X = X} spell IsRight at xs h = (h.0, each (at + 2) xs h.1)
  where
    each : (n : ℕ) (xs : List X) → AllPlaced spell (λ n x. IsRight x) n xs → AllByRecursion IsRight xs
    each n [] h = tt
    each n (x ∷ xs) h = (h.0, each (n + length (spell x)) xs h.1)

pub placed : {X : Type 0} (spell : X → List ℕ) (IsRight : X → Type 0) (at : ℕ) (xs : List X) → IsCounted IsRight xs → IsTable spell (λ n x. IsRight x) at xs
placed {X = X} spell IsRight at xs h = (h.0, each (at + 2) xs h.1)
  where
    each : (n : ℕ) (xs : List X) → AllByRecursion IsRight xs → AllPlaced spell (λ n x. IsRight x) n xs
    each n [] h = tt
    each n (x ∷ xs) h = (h.0, each (n + length (spell x)) xs h.1)

-- ---- attributes

attribute_takes : (p : Place) (x : RawAttribute) (q : Place) → IsBytes p.left → attribute_at p ≡ Ok (x, q) → Takes p (attribute x) q × IsAttribute p.at x
unfolding attribute_at
attribute_takes p x q fits e =
    let a = bind_ok (number_at 2 p) _ _ e in
    let b = bind_ok (number_at 4 a.0.1) _ _ a.2 in
    let c = bind_ok (bytes_at b.0.0 b.0.1) _ _ b.2 in
    let t = number_takes 2 wide2 p a.0.0 a.0.1 fits a.1 in
    let u = number_takes 4 wide4 a.0.1 b.0.0 b.0.1 (bytes_after fits t.0) b.1 in
    let v = bytes_take b.0.0 b.0.1 c.0.0 c.0.1 c.1 in
    let whole = Takes-then (Takes-then t.0 u.0) v.0 in
    let made : RawAttribute × Place = (record { at = p.at; name = a.0.0; content = c.0.0 }, c.0.1) in
    subst (λ (y : RawAttribute × Place). Takes p (attribute y.0) y.1 × IsAttribute p.at y.0) {x = made} (ok_is made (x, q) c.2)
    (subst (λ (n : ℕ). Takes p (u2 a.0.0 ++ u4 n ++ c.0.0) c.0.1) (sym v.1) whole, record { place = refl; name = t.1; size = omega (arith, u.1, v.1) })

attribute_again : (p : Place) (x : RawAttribute) (q : Place) → IsAttribute p.at x → Takes p (attribute x) q → attribute_at p ≡ Ok (x, q)
unfolding attribute_at
attribute_again p x q right t =
    let text : List ℕ = u2 x.name ++ u4 (length x.content) in
    let front = Takes-first p text x.content q t in
    let r = between p text x.content q in
    let name = number_again 2 p x.name _ right.name (Takes-first p (u2 x.name) (u4 (length x.content)) r front) in
    let size = number_again 4 _ (length x.content) r right.size (Takes-second p (u2 x.name) (u4 (length x.content)) r front) in
    let content = bytes_again r x.content q (Takes-second p text x.content q t) in
    rw (name, size, content, ← right.place) refl

pub attribute_law : Law attribute_at attribute IsAttribute
attribute_law = record { takes = attribute_takes; again = attribute_again }

-- ---- fields and methods

abbrev member_front : RawMember → List ℕ
member_front m = u2 m.flags ++ u2 m.name ++ u2 m.descriptor

abbrev member_done : ℕ → ℕ × Place → ℕ × Place → ℕ × Place → List RawAttribute × Place → RawMember × Place
member_done at a b c d = (record { at = at; flags = a.0; name = b.0; descriptor = c.0; attributes = d.0 }, d.1)

record MemberTaken (p : Place) (x : RawMember) (q : Place) : Type 0 where
  pub takes : Takes p (member x) q
  pub right : IsMember p.at x

member_parts : (p : Place) (x : RawMember) (q : Place) → IsBytes p.left → (a b c : ℕ × Place) (d : List RawAttribute × Place)
    → number_at 2 p ≡ Ok a → number_at 2 a.1 ≡ Ok b → number_at 2 b.1 ≡ Ok c → table_at attribute_at c.1 ≡ Ok d
    → member_done p.at a b c d ≡ (x, q) → MemberTaken p x q
member_parts p x q fits a b c d ea eb ec ed e =
    let attributes = table_law attribute_at attribute IsAttribute attribute_law in
    let ta = number_takes 2 wide2 p a.0 a.1 fits ea in
    let tb = number_takes 2 wide2 a.1 b.0 b.1 (bytes_after fits ta.0) eb in
    let sb = Takes-then ta.0 tb.0 in
    let tc = number_takes 2 wide2 b.1 c.0 c.1 (bytes_after fits sb) ec in
    let sc = Takes-then sb tc.0 in
    let td = attributes.takes c.1 d.0 d.1 (bytes_after fits sc) ed in
    let right : IsTable attribute IsAttribute (p.at + 6) d.0 = subst (λ (at : ℕ). IsTable attribute IsAttribute at d.0) sc.at td.1 in
    subst (λ (y : RawMember × Place). MemberTaken p y.0 y.1) {x = member_done p.at a b c d} e (record {
      takes = Takes-then sc td.0;
      right = record { place = refl; flags = ta.1; name = tb.1; descriptor = tc.1; attributes = right };
    })

member_takes : (p : Place) (x : RawMember) (q : Place) → IsBytes p.left → member_at p ≡ Ok (x, q) → Takes p (member x) q × IsMember p.at x
unfolding member_at
member_takes p x q fits e =
    let taken : MemberTaken p x q =
    bind_then (number_at 2 p) _ _ _ e (λ a ea e.
    bind_then (number_at 2 a.1) _ _ _ e (λ b eb e.
    bind_then (number_at 2 b.1) _ _ _ e (λ c ec e.
    bind_then (table_at attribute_at c.1) _ _ _ e (λ d ed e.
    member_parts p x q fits a b c d ea eb ec ed (ok_is _ (x, q) e))))) in
    (taken.takes, taken.right)

member_again : (p : Place) (x : RawMember) (q : Place) → IsMember p.at x → Takes p (member x) q → member_at p ≡ Ok (x, q)
unfolding member_at
member_again p x q right t =
    let law = table_law attribute_at attribute IsAttribute attribute_law in
    let r3 = between p (member_front x) (table attribute x.attributes) q in
    let t3 = Takes-first p (member_front x) (table attribute x.attributes) q t in
    let r2 = between p (u2 x.flags ++ u2 x.name) (u2 x.descriptor) r3 in
    let t2 = Takes-first p (u2 x.flags ++ u2 x.name) (u2 x.descriptor) r3 t3 in
    let flags = number_again 2 p x.flags _ right.flags (Takes-first p (u2 x.flags) (u2 x.name) r2 t2) in
    let name = number_again 2 _ x.name r2 right.name (Takes-second p (u2 x.flags) (u2 x.name) r2 t2) in
    let descriptor = number_again 2 r2 x.descriptor r3 right.descriptor (Takes-second p (u2 x.flags ++ u2 x.name) (u2 x.descriptor) r3 t3) in
    let attributes = law.again r3 x.attributes q right.attributes (Takes-second p (member_front x) (table attribute x.attributes) q t) in
    rw (flags, name, descriptor, attributes, ← right.place) refl

pub member_law : Law member_at member IsMember
member_law = record { takes = member_takes; again = member_again }

-- ---- handlers

handler_takes : (p : Place) (x : RawHandler) (q : Place) → IsBytes p.left → handler_at p ≡ Ok (x, q) → Takes p (handler x) q × IsRawHandler x
unfolding handler_at
handler_takes p x q fits e =
    let a = bind_ok (number_at 2 p) _ _ e in
    let b = bind_ok (number_at 2 a.0.1) _ _ a.2 in
    let c = bind_ok (number_at 2 b.0.1) _ _ b.2 in
    let d = bind_ok (number_at 2 c.0.1) _ _ c.2 in
    let t = number_takes 2 wide2 p a.0.0 a.0.1 fits a.1 in
    let u = number_takes 2 wide2 a.0.1 b.0.0 b.0.1 (bytes_after fits t.0) b.1 in
    let tu = Takes-then t.0 u.0 in
    let v = number_takes 2 wide2 b.0.1 c.0.0 c.0.1 (bytes_after fits tu) c.1 in
    let tuv = Takes-then tu v.0 in
    let w = number_takes 2 wide2 c.0.1 d.0.0 d.0.1 (bytes_after fits tuv) d.1 in
    let made : RawHandler × Place = (record { from = a.0.0; to = b.0.0; at = c.0.0; kind = d.0.0 }, d.0.1) in
    subst (λ (y : RawHandler × Place). Takes p (handler y.0) y.1 × IsRawHandler y.0) {x = made} (ok_is made (x, q) d.2)
    (Takes-then tuv w.0, record { from = t.1; to = u.1; at = v.1; kind = w.1 })

handler_again : (p : Place) (x : RawHandler) (q : Place) → IsRawHandler x → Takes p (handler x) q → handler_at p ≡ Ok (x, q)
unfolding handler_at
handler_again p x q right t =
    let front : List ℕ = u2 x.from ++ u2 x.to ++ u2 x.at in
    let r3 = between p front (u2 x.kind) q in
    let t3 = Takes-first p front (u2 x.kind) q t in
    let r2 = between p (u2 x.from ++ u2 x.to) (u2 x.at) r3 in
    let t2 = Takes-first p (u2 x.from ++ u2 x.to) (u2 x.at) r3 t3 in
    let from = number_again 2 p x.from _ right.from (Takes-first p (u2 x.from) (u2 x.to) r2 t2) in
    let to = number_again 2 _ x.to r2 right.to (Takes-second p (u2 x.from) (u2 x.to) r2 t2) in
    let at = number_again 2 r2 x.at r3 right.at (Takes-second p (u2 x.from ++ u2 x.to) (u2 x.at) r3 t3) in
    let kind = number_again 2 r3 x.kind q right.kind (Takes-second p front (u2 x.kind) q t) in
    rw (from, to, at, kind) refl

pub handler_law : Law handler_at handler (λ at h. IsRawHandler h)
handler_law = record { takes = handler_takes; again = handler_again }
