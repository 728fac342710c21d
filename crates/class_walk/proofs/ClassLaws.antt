-- The two laws of a class file.
use Rattle.std.proofs.Common.{◌≡◌, ℕ, ◌^◌, ◌<◌, ◌≤◌, Bool, true, false, cond, List, [], ◌++◌, length, Result, Ok, Err, refl, sym, ap, subst, ◌∙◌, arith, zero-add}
use Rattle.std.specs.Prelude.{◌==◌, ◌&&◌, nat_le, nat_lt, IfOk}
use Rattle.std.proofs.lemmas.Bool.{and_parts, eqb-true, leb-true, le-leb, ltb-false, le-ltb}
use Rattle.std.proofs.lemmas.List.{append-nil, nil_from_length}
use Rattle.class_walk.specs.declared.class.Constant.{Constant}
use Rattle.class_walk.specs.declared.class.RawAttribute.{RawAttribute}
use Rattle.class_walk.specs.declared.class.RawMember.{RawMember}
use Rattle.class_walk.specs.declared.class.RawClass.{RawClass}
use Rattle.class_walk.specs.declared.refusal.WalkFault.{WalkFault}
use Rattle.class_walk.specs.declared.refusal.WalkFault.TheVariants.{TooLong}
use Rattle.class_walk.specs.declared.refusal.WalkRefusal.{WalkRefusal}
use Rattle.class_walk.specs.Place.{Place}
use Rattle.class_walk.specs.Layout.{IsBytes, u2, u4, table, IsTable, attribute, IsAttribute, member, IsMember, pool_table, front, spelling, IsClass, IsClassFile}
use Rattle.class_walk.specs.Reading.{Gives, number_at, table_at, attribute_at, member_at, pool_at, magic_at, versions_at, head_at, rest_at, class_at, start_of, end_at, ended, walk_of}
use Rattle.class_walk.proofs.Fields.{Takes, Takes-then, Takes-first, Takes-second, split_then, bytes_after, bind_ok, bind_then, guard_ok, ok_is, wide2, wide4, number_takes, number_again}
use Rattle.class_walk.proofs.Laws.{Law, counted, placed, number_law, table_law, attribute_law, member_law}
use Rattle.class_walk.proofs.PoolLaws.{pool_law}

-- a test that was met
pub met_ok : {A : Type 0} (b : Bool) (r : Result A WalkFault) (d : WalkFault) (y : A) → cond b r (Err d) ≡ Ok y → (b ≡ true) × (r ≡ Ok y)
met_ok true r d y e = (refl, e)
met_ok false r d y e = absurd cc

magic_takes : (p q : Place) → IsBytes p.left → magic_at p ≡ Ok q → Takes p (u4 0xCAFEBABE) q
unfolding magic_at
magic_takes p q fits e =
    let a = bind_ok (number_at 4 p) _ _ e in
    let g = met_ok (a.0.0 == 0xCAFEBABE) _ _ _ a.2 in
    let t = number_takes 4 wide4 p a.0.0 a.0.1 fits a.1 in
    let u : Takes p (u4 0xCAFEBABE) a.0.1 = subst (λ (n : ℕ). Takes p (u4 n) a.0.1) (eqb-true a.0.0 0xCAFEBABE g.0) t.0 in
    subst (λ (r : Place). Takes p (u4 0xCAFEBABE) r) (ok_is a.0.1 q g.1) u

magic_again : (p q : Place) → Takes p (u4 0xCAFEBABE) q → magic_at p ≡ Ok q
unfolding magic_at
magic_again p q t = rw (number_again 4 p 0xCAFEBABE q (omega arith) t) refl

record IsVersion (p : Place) (minor major : ℕ) (q : Place) : Type 0 where
  pub takes : Takes p (u2 minor ++ u2 major) q
  pub minor_fits : minor < 2 ^ 16
  pub oldest : 50 ≤ major
  pub newest : major ≤ 52

versions_take : (p : Place) (v : ℕ × ℕ) (q : Place) → IsBytes p.left → versions_at p ≡ Ok (v, q) → IsVersion p v.0 v.1 q
unfolding versions_at
versions_take p v q fits e =
    let a = bind_ok (number_at 2 p) _ _ e in
    let b = bind_ok (number_at 2 a.0.1) _ _ a.2 in
    let g = met_ok (nat_le 50 b.0.0 && nat_le b.0.0 52) _ _ _ b.2 in
    let both = and_parts (nat_le 50 b.0.0) (nat_le b.0.0 52) g.0 in
    let t = number_takes 2 wide2 p a.0.0 a.0.1 fits a.1 in
    let u = number_takes 2 wide2 a.0.1 b.0.0 b.0.1 (bytes_after fits t.0) b.1 in
    let made : (ℕ × ℕ) × Place = ((a.0.0, b.0.0), b.0.1) in
    subst (λ (y : (ℕ × ℕ) × Place). IsVersion p y.0.0 y.0.1 y.1) {x = made} (ok_is made (v, q) g.1)
    (record { takes = Takes-then t.0 u.0; minor_fits = t.1; oldest = leb-true 50 b.0.0 both.0; newest = leb-true b.0.0 52 both.1 })

versions_again : (p : Place) (minor major : ℕ) (q : Place) → IsVersion p minor major q → versions_at p ≡ Ok ((minor, major), q)
unfolding versions_at
versions_again p minor major q is =
    let first = number_again 2 p minor _ is.minor_fits (Takes-first p (u2 minor) (u2 major) q is.takes) in
    let second = number_again 2 _ major q (omega (arith, is.newest)) (Takes-second p (u2 minor) (u2 major) q is.takes) in
    rw (first, second, le-leb 50 major is.oldest, le-leb major 52 is.newest) refl

members : Law (table_at member_at) (table member) (IsTable member IsMember)
members = table_law member_at member IsMember member_law

pub attributes : Law (table_at attribute_at) (table attribute) (IsTable attribute IsAttribute)
attributes = table_law attribute_at attribute IsAttribute attribute_law

indices : Law (table_at (number_at 2)) (table u2) (IsTable u2 (λ at index. index < 2 ^ 16))
indices = table_law (number_at 2) u2 (λ at index. index < 2 ^ 16) (number_law 2 wide2)

record IsAtFront (bytes : List ℕ) (c : RawClass) (q : Place) : Type 0 where
  pub takes : Takes (start_of bytes) (spelling c) q
  pub holds : IsClass c

abbrev done_with : (ℕ × ℕ) × Place → List Constant × Place → ℕ × Place → ℕ × Place → ℕ × Place → List ℕ × Place → List RawMember × Place → List RawMember × Place → List RawAttribute × Place → RawClass × Place
done_with b d f g h i j k l = (
  record {
    minor = b.0.0;
    major = b.0.1;
    pool = d.0;
    flags = f.0;
    this_class = g.0;
    super_class = h.0;
    interfaces = i.0;
    fields = j.0;
    methods = k.0;
    attributes = l.0;
  },
  l.1,
)

parts_take : (bytes : List ℕ) (c : RawClass) (q : Place) → IsBytes bytes
    → (a : Place) (b : (ℕ × ℕ) × Place) (d : List Constant × Place) (f g h : ℕ × Place) (i : List ℕ × Place) (j k : List RawMember × Place) (l : List RawAttribute × Place)
    → magic_at (start_of bytes) ≡ Ok a → versions_at a ≡ Ok b → pool_at b.1 ≡ Ok d → number_at 2 d.1 ≡ Ok f → number_at 2 f.1 ≡ Ok g → number_at 2 g.1 ≡ Ok h
    → table_at (number_at 2) h.1 ≡ Ok i → table_at member_at i.1 ≡ Ok j → table_at member_at j.1 ≡ Ok k → table_at attribute_at k.1 ≡ Ok l
    → done_with b d f g h i j k l ≡ (c, q) → IsAtFront bytes c q
parts_take bytes c q fits a b d f g h i j k l ea eb ed ef eg eh ei ej ek el e =
    let ta = magic_takes (start_of bytes) a fits ea in
    let tb = versions_take a b.0 b.1 (bytes_after fits ta) eb in
    let sb = Takes-then ta tb.takes in
    let td = pool_law.takes b.1 d.0 d.1 (bytes_after fits sb) ed in
    let sd = Takes-then sb td.0 in
    let tf = number_takes 2 wide2 d.1 f.0 f.1 (bytes_after fits sd) ef in
    let sf = Takes-then sd tf.0 in
    let tg = number_takes 2 wide2 f.1 g.0 g.1 (bytes_after fits sf) eg in
    let sg = Takes-then sf tg.0 in
    let th = number_takes 2 wide2 g.1 h.0 h.1 (bytes_after fits sg) eh in
    let sh = Takes-then sg th.0 in
    let ti = indices.takes h.1 i.0 i.1 (bytes_after fits sh) ei in
    let si = Takes-then sh ti.0 in
    let tj = members.takes i.1 j.0 j.1 (bytes_after fits si) ej in
    let sj = Takes-then si tj.0 in
    let tk = members.takes j.1 k.0 k.1 (bytes_after fits sj) ek in
    let sk = Takes-then sj tk.0 in
    let tl = attributes.takes k.1 l.0 l.1 (bytes_after fits sk) el in
    let x : RawClass = (done_with b d f g h i j k l).0 in
    subst (λ (y : RawClass × Place). IsAtFront bytes y.0 y.1) {x = done_with b d f g h i j k l} e (record {
      takes = Takes-then sk tl.0;
      holds = record {
        minor = tb.minor_fits;
        oldest = tb.oldest;
        newest = tb.newest;
        pool = td.1;
        flags = tf.1;
        this_class = tg.1;
        super_class = th.1;
        interfaces = counted u2 (λ index. index < 2 ^ 16) h.1.at i.0 ti.1;
        fields = subst (λ (at : ℕ). IsTable member IsMember at j.0) (si.at ∙ zero-add (length (front x))) tj.1;
        methods = subst (λ (at : ℕ). IsTable member IsMember at k.0) (sj.at ∙ zero-add (length (front x ++ table member x.fields))) tk.1;
        attributes = subst (λ (at : ℕ). IsTable attribute IsAttribute at l.0) (sk.at ∙ zero-add (length (front x ++ table member x.fields ++ table member x.methods))) tl.1;
      };
    })

class_takes : (bytes : List ℕ) (c : RawClass) (q : Place) → IsBytes bytes → class_at (start_of bytes) ≡ Ok (c, q) → IsAtFront bytes c q
unfolding class_at head_at rest_at
class_takes bytes c q fits e =
    bind_then (head_at (start_of bytes)) _ _ _ e (λ b eh e.
    bind_then (magic_at (start_of bytes)) _ _ _ eh (λ a ea eb.
    bind_then (pool_at b.1) _ _ _ e (λ d ed e.
    bind_then (number_at 2 d.1) _ _ _ e (λ f ef e.
    bind_then (number_at 2 f.1) _ _ _ e (λ g eg e.
    bind_then (number_at 2 g.1) _ _ _ e (λ h eh e.
    bind_then (table_at (number_at 2) h.1) _ _ _ e (λ i ei e.
    bind_then (table_at member_at i.1) _ _ _ e (λ j ej e.
    bind_then (table_at member_at j.1) _ _ _ e (λ k ek e.
    bind_then (table_at attribute_at k.1) _ _ _ e (λ l el e.
    parts_take bytes c q fits a b d f g h i j k l ea eb ed ef eg eh ei ej ek el (ok_is _ (c, q) e)))))))))))

-- the file up to its versions, its pool, its flags and so on
abbrev to_versions : RawClass → List ℕ
to_versions c = u4 0xCAFEBABE ++ u2 c.minor ++ u2 c.major

abbrev to_pool : RawClass → List ℕ
to_pool c = to_versions c ++ pool_table c.pool

abbrev to_flags : RawClass → List ℕ
to_flags c = to_pool c ++ u2 c.flags

abbrev to_this : RawClass → List ℕ
to_this c = to_flags c ++ u2 c.this_class

abbrev to_super : RawClass → List ℕ
to_super c = to_this c ++ u2 c.super_class

abbrev to_fields : RawClass → List ℕ
to_fields c = front c ++ table member c.fields

abbrev to_methods : RawClass → List ℕ
to_methods c = to_fields c ++ table member c.methods

parts_again : (bytes : List ℕ) (c : RawClass) (a b d f g h i j k q : Place) → IsClass c
    → Takes (start_of bytes) (u4 0xCAFEBABE) a → Takes a (u2 c.minor ++ u2 c.major) b → Takes b (pool_table c.pool) d
    → Takes d (u2 c.flags) f → Takes f (u2 c.this_class) g → Takes g (u2 c.super_class) h → Takes h (table u2 c.interfaces) i
    → Takes i (table member c.fields) j → Takes j (table member c.methods) k → Takes k (table attribute c.attributes) q
    → Takes (start_of bytes) (front c) i → Takes (start_of bytes) (to_fields c) j → Takes (start_of bytes) (to_methods c) k
    → class_at (start_of bytes) ≡ Ok (c, q)
unfolding class_at head_at rest_at
parts_again bytes c a b d f g h i j k q right ta tb td tf tg th ti tj tk tl si sj sk =
    let versions = versions_again a c.minor c.major b (record { takes = tb; minor_fits = right.minor; oldest = right.oldest; newest = right.newest }) in
    let interfaces = indices.again h c.interfaces i (placed u2 (λ index. index < 2 ^ 16) h.at c.interfaces right.interfaces) ti in
    let fields = members.again i c.fields j (subst (λ (at : ℕ). IsTable member IsMember at c.fields) (sym (si.at ∙ zero-add (length (front c)))) right.fields) tj in
    let methods = members.again j c.methods k (subst (λ (at : ℕ). IsTable member IsMember at c.methods) (sym (sj.at ∙ zero-add (length (to_fields c)))) right.methods) tk in
    let last = attributes.again k c.attributes q (subst (λ (at : ℕ). IsTable attribute IsAttribute at c.attributes) (sym (sk.at ∙ zero-add (length (to_methods c)))) right.attributes) tl in
    rw (
      magic_again (start_of bytes) a ta,
      versions,
      pool_law.again b c.pool d right.pool td,
      number_again 2 d c.flags f right.flags tf,
      number_again 2 f c.this_class g right.this_class tg,
      number_again 2 g c.super_class h right.super_class th,
      interfaces,
      fields,
      methods,
      last,
    ) refl

class_again : (bytes : List ℕ) (c : RawClass) (q : Place) → IsClass c → Takes (start_of bytes) (spelling c) q → class_at (start_of bytes) ≡ Ok (c, q)
class_again bytes c q right t =
    let p : Place = start_of bytes in
    split_then p (to_methods c) (table attribute c.attributes) q _ t (λ k sk tl.
    split_then p (to_fields c) (table member c.methods) k _ sk (λ j sj tk.
    split_then p (front c) (table member c.fields) j _ sj (λ i si tj.
    split_then p (to_super c) (table u2 c.interfaces) i _ si (λ h sh ti.
    split_then p (to_this c) (u2 c.super_class) h _ sh (λ g sg th.
    split_then p (to_flags c) (u2 c.this_class) g _ sg (λ f sf tg.
    split_then p (to_pool c) (u2 c.flags) f _ sf (λ d sd tf.
    split_then p (to_versions c) (pool_table c.pool) d _ sd (λ b sb td.
    split_then p (u4 0xCAFEBABE) (u2 c.minor ++ u2 c.major) b _ sb (λ a ta tb.
    parts_again bytes c a b d f g h i j k q right ta tb td tf tg th ti tj tk tl si sj sk)))))))))

-- ---- the file

pub walk_takes : (bytes : List ℕ) (c : RawClass) → IsBytes bytes → walk_of bytes ≡ Ok c → IsClassFile bytes c
unfolding walk_of ended
walk_takes bytes c fits e =
    let g = guard_ok (nat_lt 1048576 (length bytes)) TooLong _ _ e in
    let a = bind_ok (class_at (start_of bytes)) _ _ g.1 in
    let b = bind_ok (end_at a.0.1) _ _ a.2 in
    let m = met_ok (length a.0.1.left == 0) _ _ _ b.1 in
    let t = class_takes bytes a.0.0 a.0.1 fits a.1 in
    let nothing : a.0.1.left ≡ [] = nil_from_length a.0.1.left (eqb-true _ _ m.0) in
    let whole : bytes ≡ spelling a.0.0 = t.takes.parts ∙ ap (λ (r : List ℕ). spelling a.0.0 ++ r) nothing ∙ append-nil (spelling a.0.0) in
    subst (λ (y : RawClass). IsClassFile bytes y) (ok_is a.0.0 c b.2) (record { holds = t.holds; spelled = whole; size = ltb-false _ _ g.0 })

pub walk_again : (bytes : List ℕ) (c : RawClass) → IsClassFile bytes c → walk_of bytes ≡ Ok c
unfolding walk_of ended
walk_again bytes c is =
    let q : Place = record { at = length (spelling c); left = [] } in
    let t : Takes (start_of bytes) (spelling c) q = record { parts = is.spelled ∙ sym (append-nil (spelling c)); at = sym (zero-add (length (spelling c))) } in
    rw (le-ltb 1048576 (length bytes) is.size, class_again bytes c q is.holds t) refl

pub walk_found : (bytes : List ℕ) (r : Result RawClass WalkRefusal) → IsBytes bytes → Gives r (walk_of bytes) → IfOk r (λ c. IsClassFile bytes c)
walk_found bytes (Ok c) fits given = walk_takes bytes c fits given
walk_found bytes (Err e) fits given = tt
