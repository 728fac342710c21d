-- What look-up and selection find.
use Rattle.std.proofs.Common.{◌≡◌, ℕ, Bool, true, false, cond, List, Contains, Option, Some, slice_get, option_map, refl, sym, ◌∙◌, subst, ◌&&◌, bytes_eq}
use Rattle.std.specs.List.{position_from}
use Rattle.std.proofs.lemmas.Option.{same_Some, option_and_then_some}
use Rattle.std.proofs.lemmas.Bool.{and_parts, true≢false}
use Rattle.std.proofs.lemmas.Slice.Eq.{bytes_eq-Decides}
use Rattle.class_pool.specs.Pool.{Reference}
use Rattle.link_rules.specs.Classes.{NamedClass, NamedMember, fields_of, methods_of}
use Rattle.link_rules.specs.Supers.{superclasses, field_order, method_order}
use Rattle.link_rules.specs.Members.{Declared, declared, declared_at, first_some, is_member, is_virtual, is_initializer, holder, selected, found_field, found_method}
use Rattle.link_rules.specs.Laws.{IsSelected, IsFound, IsFoundField, IsFoundMethod}
use Rattle.link_rules.proofs.Lists.{Found, found_at, first_some_found}

-- a member that a class declares and that passes a test
pub record IsDeclared (members : ℕ → List NamedMember) (test : NamedMember → Bool) (c : ℕ) (d : Declared) : Type 0 where
  pub owner : d.class ≡ c
  pub there : slice_get (members d.class) d.place ≡ Some d.member
  pub passes : test d.member ≡ true

pub declared_found : (members : ℕ → List NamedMember) (test : NamedMember → Bool) (c : ℕ) (d : Declared) → declared members test c ≡ Some d → IsDeclared members test c d
declared_found members test c d e =
    option_and_then_some (declared_at (members c) c) (position_from test 0 (members c)) d e
    (λ i at made.
    let f : Found test (members c) i = found_at test (members c) i at in
    let x : Declared = record { class = c; place = i; member = f.item } in
    let P : Option NamedMember → Type 0 = λ o. option_map (λ m. record { class = c; place = i; member = m }) o ≡ Some d in
    let same : x ≡ d = same_Some x d (subst P f.there made) in
    let here : IsDeclared members test c x = record { owner = refl; there = f.there; passes = f.passes } in
    subst (IsDeclared members test c) same here)

-- a member of a name and a descriptor
pub same_name : (r : Reference) (m : NamedMember) → is_member r m ≡ true → m.name ≡ r.name
same_name r m e = (bytes_eq-Decides m.name r.name).0 (and_parts (bytes_eq m.name r.name) (bytes_eq m.descriptor r.descriptor) e).0

pub same_descriptor : (r : Reference) (m : NamedMember) → is_member r m ≡ true → m.descriptor ≡ r.descriptor
same_descriptor r m e = (bytes_eq-Decides m.descriptor r.descriptor).0 (and_parts (bytes_eq m.name r.name) (bytes_eq m.descriptor r.descriptor) e).1

pub selected_fits : (cs : List NamedClass) (c : ℕ) (r : Reference) (d : Declared) → selected cs c r ≡ Some d → IsSelected cs c r d
selected_fits cs c r d e =
    let test : NamedMember → Bool = λ m. is_member r m && is_virtual m in
    let f : (x : ℕ) × Contains (superclasses cs c) x × (declared (methods_of cs) test x ≡ Some d) =
    first_some_found (declared (methods_of cs) test) (superclasses cs c) d e in
    let g : IsDeclared (methods_of cs) test f.0 d = declared_found (methods_of cs) test f.0 d f.2 in
    let parts : (is_member r d.member ≡ true) × (is_virtual d.member ≡ true) = and_parts (is_member r d.member) (is_virtual d.member) g.passes in
    record {
      above = subst (Contains (superclasses cs c)) (sym g.owner) f.1;
      there = g.there;
      name = same_name r d.member parts.0;
      descriptor = same_descriptor r d.member parts.0;
      virtual = parts.1;
    }

found_of : (members : ℕ → List NamedMember) (r : Reference) (c : ℕ) (d : Declared) → IsDeclared members (is_member r) c d → IsFound members r d
found_of members r c d g = record {
  there = g.there;
  name = same_name r d.member g.passes;
  descriptor = same_descriptor r d.member g.passes;
}

pub field_fits : (cs : List NamedClass) (r : Reference) (d : Declared) → found_field cs r ≡ Some d → IsFoundField cs r d
field_fits cs r d e =
    let order : List ℕ = field_order cs (holder cs r) in
    let f : (x : ℕ) × Contains order x × (declared (fields_of cs) (is_member r) x ≡ Some d) =
    first_some_found (declared (fields_of cs) (is_member r)) order d e in
    let g : IsDeclared (fields_of cs) (is_member r) f.0 d = declared_found (fields_of cs) (is_member r) f.0 d f.2 in
    record { found = found_of (fields_of cs) r f.0 d g; above = subst (Contains order) (sym g.owner) f.1 }

pub method_fits : (cs : List NamedClass) (r : Reference) (d : Declared) → found_method cs r ≡ Some d → IsFoundMethod cs r d
method_fits cs r d e = go (is_initializer r) refl e
  where
    order : List ℕ
    order = method_order cs (holder cs r)

    go : (b : Bool) → is_initializer r ≡ b
        → cond b (declared (methods_of cs) (is_member r) (holder cs r)) (first_some (declared (methods_of cs) (is_member r)) (method_order cs (holder cs r))) ≡ Some d
        → IsFoundMethod cs r d
    go true is e =
        let g : IsDeclared (methods_of cs) (is_member r) (holder cs r) d = declared_found (methods_of cs) (is_member r) (holder cs r) d e in
        record {
          found = found_of (methods_of cs) r (holder cs r) d g;
          constructor = λ _. g.owner;
          above = λ no_constructor. absurd (true≢false (sym is ∙ no_constructor));
        }
    go false is e =
        let f : (x : ℕ) × Contains (method_order cs (holder cs r)) x × (declared (methods_of cs) (is_member r) x ≡ Some d) =
        first_some_found (declared (methods_of cs) (is_member r)) (method_order cs (holder cs r)) d e in
        let g : IsDeclared (methods_of cs) (is_member r) f.0 d = declared_found (methods_of cs) (is_member r) f.0 d f.2 in
        record {
          found = found_of (methods_of cs) r f.0 d g;
          constructor = λ a_constructor. absurd (true≢false (sym a_constructor ∙ is));
          above = λ _. subst (Contains (method_order cs (holder cs r))) (sym g.owner) f.1;
        }
