-- The places of attributes lie inside the bytes that they are spelled in.
use Rattle.std.proofs.Common.{◌≡◌, ℕ, zero, suc, ◌+◌, ◌<◌, ◌≤◌, List, [], ◌∷◌, ◌++◌, length, slice_get, Some, flat_map, refl, ◌∙◌, ap, subst, arith}
use Rattle.std.proofs.lemmas.Option.{same_Some}
use Rattle.std.proofs.lemmas.List.{length-append}
use Rattle.class_walk.specs.declared.class.RawAttribute.{RawAttribute}
use Rattle.class_walk.specs.declared.class.RawMember.{RawMember}
use Rattle.class_walk.specs.declared.class.RawClass.{RawClass}
use Rattle.class_walk.specs.declared.class.RawCode.{RawCode}
use Rattle.class_walk.specs.Layout.{u2, u4, table, attribute, member, front, code_front, AllPlaced, IsAttribute, IsMember, IsClassFile, IsCodeContent}
use Rattle.class_read.specs.AttributeRules.{AllEndBelow}

pub length-u2 : (n : ℕ) → length (u2 n) ≡ 2
length-u2 n = refl

pub length-u4 : (n : ℕ) → length (u4 n) ≡ 4
length-u4 n = refl

-- an item of a row is at a place of its own, and ends at the latest where the row ends
pub record StandsIn {X : Type 0} (item : X → List ℕ) (IsRight : ℕ → X → Type 0) (x : X) (end : ℕ) : Type 0 where
  pub place : ℕ
  pub right : IsRight place x
  pub inside : place + length (item x) ≤ end

pub stands_in : {X : Type 0} (item : X → List ℕ) (IsRight : ℕ → X → Type 0) (at : ℕ) (xs : List X) (i : ℕ) (x : X) → AllPlaced item IsRight at xs → slice_get xs i ≡ Some x → StandsIn item IsRight x (at + length (flat_map item xs))
stands_in item IsRight at [] i x placed e = absurd cc
stands_in {X} item IsRight at (y ∷ ys) zero x placed e =
    let same : y ≡ x = same_Some y x e in
    let long = length-append (item y) (flat_map item ys) in
    let here : StandsIn item IsRight y (at + length (flat_map item (y ∷ ys))) = record { place = at; right = placed.0; inside = omega arith } in
    let P : X → Type 0 = λ z. StandsIn item IsRight z (at + length (flat_map item (y ∷ ys))) in
    subst P same here
stands_in item IsRight at (y ∷ ys) (suc i) x placed e =
    let later = stands_in item IsRight (at + length (item y)) ys i x placed.1 e in
    let long = length-append (item y) (flat_map item ys) in
    let within = later.inside in
    record { place = later.place; right = later.right; inside = omega arith }

-- the attributes of a Code begin inside its content
pub begins_inside : (content : List ℕ) (code : RawCode) → IsCodeContent content code → (i : ℕ) (a : RawAttribute) → slice_get code.attributes i ≡ Some a → a.at ≤ length content
begins_inside content code is i a e =
    let stands = stands_in attribute IsAttribute (length (code_front code) + 2) code.attributes i a is.holds.attributes.1 e in
    let whole = ap length is.spelled in
    let parts = length-append (code_front code) (table attribute code.attributes) in
    let counted = length-append (u2 (length code.attributes)) (flat_map attribute code.attributes) in
    let two = length-u2 (length code.attributes) in
    let within = stands.inside in
    let place = stands.right.place in
    omega arith

length-attribute : (a : RawAttribute) → length (attribute a) ≡ 6 + length a.content
length-attribute a =
    let x = length-append (u2 a.name) (u4 (length a.content) ++ a.content) in
    let y = length-append (u4 (length a.content)) a.content in
    let two = length-u2 a.name in
    let four = length-u4 (length a.content) in
    omega arith

-- the attributes of a member end where it ends at the latest
pub ends_inside : (at : ℕ) (m : RawMember) → IsMember at m → (i : ℕ) (a : RawAttribute) → slice_get m.attributes i ≡ Some a → a.at + 6 + length a.content ≤ at + length (member m)
ends_inside at m is i a e =
    let stands = stands_in attribute IsAttribute (at + 6 + 2) m.attributes i a is.attributes.1 e in
    let x = length-append (u2 m.flags) (u2 m.name ++ u2 m.descriptor ++ table attribute m.attributes) in
    let y = length-append (u2 m.name) (u2 m.descriptor ++ table attribute m.attributes) in
    let z = length-append (u2 m.descriptor) (table attribute m.attributes) in
    let counted = length-append (u2 (length m.attributes)) (flat_map attribute m.attributes) in
    let flags = length-u2 m.flags in
    let name = length-u2 m.name in
    let descriptor = length-u2 m.descriptor in
    let count = length-u2 (length m.attributes) in
    let within = stands.inside in
    let place = stands.right.place in
    let long = length-attribute a in
    omega arith

length_of_four : (f x y z : List ℕ) → length (f ++ x ++ y ++ z) ≡ length (f ++ x) + (length y + length z)
length_of_four f x y z = simp (length-append) (omega arith)

counted_length : {X : Type 0} (item : X → List ℕ) (xs : List X) → length (table item xs) ≡ 2 + length (flat_map item xs)
counted_length item xs =
    let a = length-append (u2 (length xs)) (flat_map item xs) in
    let two = length-u2 (length xs) in
    omega arith

small : (a total before methods others flat end : ℕ) → a ≤ end → end ≤ before + 2 + flat → total ≡ before + (methods + others) → methods ≡ 2 + flat → total ≤ 1048576 → a < 4294967296
small a total before methods others flat end h i j k l = omega arith

-- the attributes of methods end inside the file
pub methods_end_inside : (bytes : List ℕ) (c : RawClass) → IsClassFile bytes c → (j : ℕ) (m : RawMember) → slice_get c.methods j ≡ Some m → AllEndBelow m.attributes 4294967296
methods_end_inside bytes c is j m e i a at =
    let stands = stands_in member IsMember (length (front c ++ table member c.fields) + 2) c.methods j m is.holds.methods.1 e in
    small _ (length bytes) (length (front c ++ table member c.fields)) (length (table member c.methods)) (length (table attribute c.attributes)) (length (flat_map member c.methods)) _
    (ends_inside stands.place m stands.right i a at) stands.inside
    (ap length is.spelled ∙ length_of_four (front c) (table member c.fields) (table member c.methods) (table attribute c.attributes))
    (counted_length member c.methods) is.size
