-- Parts at their places are spelled as they were, and are where they say.
use Rattle.std.proofs.Common.{◌≡◌, ◌+◌, ◌<◌, ◌≤◌, ◌^◌, ℕ, suc, List, [], ◌∷◌, ◌++◌, length, refl, sym, ap, subst, ◌∙◌}
use Rattle.std.specs.List.{flat_map, AllByRecursion}
use Rattle.class_walk.specs.declared.class.Constant.{Constant}
use Rattle.class_walk.specs.declared.class.Constant.TheVariants.{Gap, Utf8, Integer, Float, Long, Double, Class, Str, Field, Method, IfaceMethod, Pair, Handle, MethodType, Dynamic}
use Rattle.class_walk.specs.declared.class.RawAttribute.{RawAttribute}
use Rattle.class_walk.specs.declared.class.RawMember.{RawMember}
use Rattle.class_walk.specs.declared.class.RawClass.{RawClass}
use Rattle.class_walk.specs.declared.class.RawCode.{RawCode}
use Rattle.class_walk.specs.Layout.{attribute, member, table, front, spelling, code_spelling, code_front, u2, is_wide, Fits, IsGapped, IsAttribute, IsMember, IsClass, IsClassFile, IsCode, IsCodeContent, IsTable, AllPlaced, IsCounted}
use Rattle.class_write.specs.Placed.{placed_attributes, placed_member, placed_members, placed, placed_code, IsAttributeButPlace, IsMemberButPlaces, IsClassButPlaces, IsCodeButPlaces}
use Rattle.class_write.specs.Writable.{IsWritable, IsWritableCode, IsWritableConstant, IsWritableAttribute, IsWritableMember}

count-attributes : (at : ℕ) (xs : List RawAttribute) → length (placed_attributes at xs) ≡ length xs
count-attributes at [] = refl
count-attributes at (a ∷ others) = ap suc (count-attributes (at + length (attribute a)) others)

text-attributes : (at : ℕ) (xs : List RawAttribute) → flat_map attribute (placed_attributes at xs) ≡ flat_map attribute xs
text-attributes at [] = refl
text-attributes at (a ∷ others) = ap (λ bytes. attribute a ++ bytes) (text-attributes (at + length (attribute a)) others)

table-attributes : (at : ℕ) (xs : List RawAttribute) → table attribute (placed_attributes at xs) ≡ table attribute xs
table-attributes at xs = rw (count-attributes at xs, text-attributes at xs) refl

all-attributes : (at : ℕ) (xs : List RawAttribute) → AllByRecursion IsAttributeButPlace xs → AllPlaced attribute IsAttribute at (placed_attributes at xs)
all-attributes at [] all = tt
all-attributes at (a ∷ others) all =
    (record { place = refl; name = all.0.0; size = all.0.1 }, all-attributes (at + length (attribute a)) others all.1)

pub are-attributes : (at : ℕ) (xs : List RawAttribute) → IsCounted IsAttributeButPlace xs → IsTable attribute IsAttribute at (placed_attributes (at + 2) xs)
are-attributes at xs (count, all) = (rw (count-attributes (at + 2) xs) count, all-attributes (at + 2) xs all)

text-member : (at : ℕ) (m : RawMember) → member (placed_member at m) ≡ member m
text-member at m = ap (λ bytes. u2 m.flags ++ u2 m.name ++ u2 m.descriptor ++ bytes) (table-attributes (at + 6 + 2) m.attributes)

count-members : (at : ℕ) (xs : List RawMember) → length (placed_members at xs) ≡ length xs
count-members at [] = refl
count-members at (m ∷ others) = ap suc (count-members (at + length (member m)) others)

text-members : (at : ℕ) (xs : List RawMember) → flat_map member (placed_members at xs) ≡ flat_map member xs
text-members at [] = refl
text-members at (m ∷ others) =
    ap (λ bytes. bytes ++ flat_map member (placed_members (at + length (member m)) others)) (text-member at m)
    ∙ ap (λ bytes. member m ++ bytes) (text-members (at + length (member m)) others)

table-members : (at : ℕ) (xs : List RawMember) → table member (placed_members at xs) ≡ table member xs
table-members at xs = rw (count-members at xs, text-members at xs) refl

is-member : (at : ℕ) (m : RawMember) → IsMemberButPlaces m → IsMember at (placed_member at m)
is-member at m is = record {
  place = refl;
  flags = is.flags;
  name = is.name;
  descriptor = is.descriptor;
  attributes = are-attributes (at + 6) m.attributes is.attributes;
}

all-members : (at : ℕ) (xs : List RawMember) → AllByRecursion IsMemberButPlaces xs → AllPlaced member IsMember at (placed_members at xs)
all-members at [] all = tt
all-members at (m ∷ others) all =
    let Behind : ℕ → Type 0 = λ n. AllPlaced member IsMember (at + n) (placed_members (at + length (member m)) others) in
    (is-member at m all.0, subst Behind (ap length (sym (text-member at m))) (all-members (at + length (member m)) others all.1))

are-members : (at : ℕ) (xs : List RawMember) → IsCounted IsMemberButPlaces xs → IsTable member IsMember at (placed_members (at + 2) xs)
are-members at xs (count, all) = (rw (count-members (at + 2) xs) count, all-members (at + 2) xs all)

-- the bytes of a class don't depend on the places in it
pub spelling-placed : (c : RawClass) → spelling (placed c) ≡ spelling c
spelling-placed c =
    let fields : List RawMember = placed_members (length (front c) + 2) c.fields in
    let methods : List RawMember = placed_members (length (front c ++ table member c.fields) + 2) c.methods in
    let attributes : List RawAttribute = placed_attributes (length (front c ++ table member c.fields ++ table member c.methods) + 2) c.attributes in
    ap (λ bytes. front c ++ bytes ++ table member methods ++ table attribute attributes) (table-members (length (front c) + 2) c.fields)
    ∙ ap (λ bytes. front c ++ table member c.fields ++ bytes ++ table attribute attributes) (table-members (length (front c ++ table member c.fields) + 2) c.methods)
    ∙ ap (λ bytes. front c ++ table member c.fields ++ table member c.methods ++ bytes) (table-attributes (length (front c ++ table member c.fields ++ table member c.methods) + 2) c.attributes)

is-class : (c : RawClass) → IsClassButPlaces c → IsClass (placed c)
is-class c is =
    let fields : List RawMember = placed_members (length (front c) + 2) c.fields in
    let methods : List RawMember = placed_members (length (front c ++ table member c.fields) + 2) c.methods in
    let attributes : List RawAttribute = placed_attributes (length (front c ++ table member c.fields ++ table member c.methods) + 2) c.attributes in
    let same_fields : table member fields ≡ table member c.fields = table-members (length (front c) + 2) c.fields in
    let same_methods : table member methods ≡ table member c.methods = table-members (length (front c ++ table member c.fields) + 2) c.methods in
    let behind_fields : length (front c ++ table member fields) ≡ length (front c ++ table member c.fields) = ap (λ bytes. length (front c ++ bytes)) same_fields in
    let behind_methods : length (front c ++ table member fields ++ table member methods) ≡ length (front c ++ table member c.fields ++ table member c.methods) =
    ap (λ bytes. length (front c ++ bytes ++ table member methods)) same_fields ∙ ap (λ bytes. length (front c ++ table member c.fields ++ bytes)) same_methods in
    let Methods : ℕ → Type 0 = λ at. IsTable member IsMember at methods in
    let Attributes : ℕ → Type 0 = λ at. IsTable attribute IsAttribute at attributes in
    record {
      minor = is.minor;
      oldest = is.oldest;
      newest = is.newest;
      pool = is.pool;
      flags = is.flags;
      this_class = is.this_class;
      super_class = is.super_class;
      interfaces = is.interfaces;
      fields = are-members (length (front c)) c.fields is.fields;
      methods = subst Methods (sym behind_fields) (are-members (length (front c ++ table member c.fields)) c.methods is.methods);
      attributes = subst Attributes (sym behind_methods) (are-attributes (length (front c ++ table member c.fields ++ table member c.methods)) c.attributes is.attributes);
    }

pub written_class : (c : RawClass) → IsClassButPlaces c → length (spelling c) ≤ 1048576 → IsClassFile (spelling c) (placed c)
written_class c is size = record { holds = is-class c is; spelled = sym (spelling-placed c); size = size }

pub written_code : (c : RawCode) → IsCodeButPlaces c → length (code_spelling c) < 2 ^ 32 → IsCodeContent (code_spelling c) (placed_code c)
written_code c is size = record {
  holds = record {
    max_stack = is.max_stack;
    max_locals = is.max_locals;
    size = is.size;
    handlers = is.handlers;
    attributes = are-attributes (length (code_front c)) c.attributes is.attributes;
  };
  spelled = sym (ap (λ bytes. code_front c ++ bytes) (table-attributes (length (code_front c) + 2) c.attributes));
  size = size;
}

-- what is a class can be written
constants : (due : _) (pool : List Constant) → IsGapped due pool → AllByRecursion IsWritableConstant pool
constants due [] gaps = tt
constants due (c ∷ cs) gaps = (constant_fits c gaps.1, constants (is_wide c) cs gaps.2)
  where
    constant_fits : (c : Constant) → Fits c → IsWritableConstant c
    constant_fits (Utf8 bytes) fits = fits
    constant_fits Gap fits = tt
    constant_fits (Integer _) fits = tt
    constant_fits (Float _) fits = tt
    constant_fits (Long _) fits = tt
    constant_fits (Double _) fits = tt
    constant_fits (Class _) fits = tt
    constant_fits (Str _) fits = tt
    constant_fits (Field _ _) fits = tt
    constant_fits (Method _ _) fits = tt
    constant_fits (IfaceMethod _ _) fits = tt
    constant_fits (Pair _ _) fits = tt
    constant_fits (Handle _ _) fits = tt
    constant_fits (MethodType _) fits = tt
    constant_fits (Dynamic _ _) fits = tt

attributes_fit : (xs : List RawAttribute) → AllByRecursion IsAttributeButPlace xs → AllByRecursion IsWritableAttribute xs
attributes_fit [] all = tt
attributes_fit (a ∷ others) all = (all.0.1, attributes_fit others all.1)

members_fit : (xs : List RawMember) → AllByRecursion IsMemberButPlaces xs → AllByRecursion IsWritableMember xs
members_fit [] all = tt
members_fit (m ∷ others) all = ((all.0.attributes.0, attributes_fit m.attributes all.0.attributes.1), members_fit others all.1)

pub class_writable : (c : RawClass) → IsClassButPlaces c → IsWritable c
class_writable c is = record {
  count = is.pool.count;
  constants = constants _ c.pool is.pool.gaps;
  interfaces = is.interfaces.0;
  fields = (is.fields.0, members_fit c.fields is.fields.1);
  methods = (is.methods.0, members_fit c.methods is.methods.1);
  attributes = (is.attributes.0, attributes_fit c.attributes is.attributes.1);
}

pub code_writable : (c : RawCode) → IsCodeButPlaces c → IsWritableCode c
code_writable c is = record {
  size = is.size;
  handlers = is.handlers.0;
  attributes = (is.attributes.0, attributes_fit c.attributes is.attributes.1);
}

attributes_read : (at : ℕ) (xs : List RawAttribute) → AllPlaced attribute IsAttribute at xs → AllByRecursion IsWritableAttribute xs
attributes_read at [] all = tt
attributes_read at (a ∷ others) all = (all.0.size, attributes_read (at + length (attribute a)) others all.1)

members_read : (at : ℕ) (xs : List RawMember) → AllPlaced member IsMember at xs → AllByRecursion IsWritableMember xs
members_read at [] all = tt
members_read at (m ∷ others) all = ((all.0.attributes.0, attributes_read _ m.attributes all.0.attributes.1), members_read (at + length (member m)) others all.1)

pub read_class_writable : (c : RawClass) → IsClass c → IsWritable c
read_class_writable c is = record {
  count = is.pool.count;
  constants = constants _ c.pool is.pool.gaps;
  interfaces = is.interfaces.0;
  fields = (is.fields.0, members_read _ c.fields is.fields.1);
  methods = (is.methods.0, members_read _ c.methods is.methods.1);
  attributes = (is.attributes.0, attributes_read _ c.attributes is.attributes.1);
}

pub read_code_writable : (c : RawCode) → IsCode c → IsWritableCode c
read_code_writable c is = record {
  size = is.size;
  handlers = is.handlers.0;
  attributes = (is.attributes.0, attributes_read _ c.attributes is.attributes.1);
}
