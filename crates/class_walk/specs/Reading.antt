-- Reading a class file from its front, with the first fault that is met.
use Rattle.std.specs.Prelude.{◌≡◌, ℕ, zero, suc, ◌+◌, Bool, true, false, List, [], ◌∷◌, length, take, drop, Option, Some, None, Result, Ok, Err, nat_lt, nat_le, ◌==◌, ◌&&◌, if◌then◌else◌}
use Rattle.std.specs.Result.{result_ok}
use Rattle.std.specs.Int.{w32, w64, cast_signed}
use Rattle.byteorder.specs.Endian.{big_number}
use Rattle.class_walk.specs.declared.class.Constant.{Constant}
use Rattle.class_walk.specs.declared.class.Constant.TheVariants.{Gap, Utf8, Integer, Float, Long, Double, Class, Str, Field, Method, IfaceMethod, Pair, Handle, MethodType, Dynamic}
use Rattle.class_walk.specs.declared.class.RawAttribute.{RawAttribute}
use Rattle.class_walk.specs.declared.class.RawMember.{RawMember}
use Rattle.class_walk.specs.declared.class.RawClass.{RawClass}
use Rattle.class_walk.specs.declared.class.RawHandler.{RawHandler}
use Rattle.class_walk.specs.declared.class.RawCode.{RawCode}
use Rattle.class_walk.specs.declared.pool.Tag.{Tag}
use Rattle.class_walk.specs.declared.pool.Tag.TheVariants as tags
use Rattle.class_walk.specs.declared.refusal.WalkFault.{WalkFault}
use Rattle.class_walk.specs.declared.refusal.WalkFault.TheVariants.{TooLong, Truncated, Magic, Version, PoolTag, Trailing}
use Rattle.class_walk.specs.declared.refusal.WalkRefusal.{WalkRefusal}
use Rattle.class_walk.specs.declared.refusal.WalkRefusal.TheVariants as refusals
use Rattle.class_walk.specs.declared.refusal.ContentRefusal.{ContentRefusal}
use Rattle.class_walk.specs.declared.refusal.ContentRefusal.TheVariants as codes
use Rattle.class_walk.specs.Place.{Place}
use Rattle.class_walk.specs.Layout.{is_wide}

-- one step, followed by one that takes what it gave; the first failure is the failure of both
infixl 10 ◌>>=◌
abbrev pub ◌>>=◌ : {E A B : Type 0} → Result A E → (A → Result B E) → Result B E
(Ok x) >>= f = f x
(Err e) >>= f = Err e

-- Reading fails as the refusal says; memory may run out anywhere.
abbrev pub Fails : {Y : Type 0} → WalkRefusal → Result Y WalkFault → Type 0
Fails refusals.NoMemory read = Unit {0}
Fails (refusals.Fault f) read = read ≡ Err f

-- What a function returned is what reading gives, unless memory ran out.
abbrev pub Gives : {X : Type 0} → Result X WalkRefusal → Result X WalkFault → Type 0
Gives (Ok x) read = read ≡ Ok x
Gives (Err e) read = Fails e read

-- The same of a function that leaves the place after what it read.
abbrev pub GivesAndLeaves : {X : Type 0} → Result X WalkRefusal → Place → Result (X × Place) WalkFault → Type 0
GivesAndLeaves (Ok x) after read = read ≡ Ok (x, after)
GivesAndLeaves (Err e) after read = Fails e read

-- The same of a function that takes no memory.
abbrev pub FailsExactly : {Y : Type 0} → WalkRefusal → Result Y WalkFault → Type 0
FailsExactly refusals.NoMemory read = ⊥
FailsExactly (refusals.Fault f) read = read ≡ Err f

abbrev pub GivesExactly : {X : Type 0} → Result X WalkRefusal → Place → Result (X × Place) WalkFault → Type 0
GivesExactly (Ok x) after read = read ≡ Ok (x, after)
GivesExactly (Err e) after read = FailsExactly e read

-- The same of one that gives nothing else.
abbrev pub PassesTo : {X : Type 0} → Result X WalkRefusal → Place → Result Place WalkFault → Type 0
PassesTo (Ok _) after read = read ≡ Ok after
PassesTo (Err e) after read = FailsExactly e read

-- n bytes from a place on; where they go past the end, the fault has the length of the file: the bytes before the place
-- and those after it
abbrev pub bytes_at : ℕ → Place → Result (List ℕ × Place) WalkFault
bytes_at n p = if nat_lt (length p.left) n then Err (Truncated (p.at + length p.left)) else Ok (take n p.left, record { at = p.at + n; left = drop n p.left })

-- a number of n bytes
abbrev pub number_at : ℕ → Place → Result (ℕ × Place) WalkFault
number_at n p = do
  bytes ← bytes_at n p
  Ok (big_number n bytes.0, bytes.1)

-- n items, one after another
unfoldable pub items_at : {E S X : Type 0} → (S → Result (X × S) E) → ℕ → S → Result (List X × S) E
items_at item zero s = Ok ([], s)
items_at item (suc n) s = do
  first ← item s
  others ← items_at item n first.1
  Ok (first.0 ∷ others.0, others.1)

-- a count of two bytes, and that many items
unfoldable pub table_at : {X : Type 0} → (Place → Result (X × Place) WalkFault) → Place → Result (List X × Place) WalkFault
table_at item p = do
  count ← number_at 2 p
  items_at item count.0 count.1

-- the tags of the constant pool (JVMS 4.4, table 4.4-A)
unfoldable pub tag_of : ℕ → Option Tag
tag_of n =
    if n == 1 then Some tags.Utf8 else
    if n == 3 then Some tags.Integer else
    if n == 4 then Some tags.Float else
    if n == 5 then Some tags.Long else
    if n == 6 then Some tags.Double else
    if n == 7 then Some tags.Class else
    if n == 8 then Some tags.Str else
    if n == 9 then Some tags.Field else
    if n == 10 then Some tags.Method else
    if n == 11 then Some tags.IfaceMethod else
    if n == 12 then Some tags.Pair else
    if n == 15 then Some tags.Handle else
    if n == 16 then Some tags.MethodType else
    if n == 18 then Some tags.Dynamic else None

-- a constant of one number
abbrev pub one_at : ℕ → (ℕ → Constant) → Place → Result (Constant × Place) WalkFault
one_at n make p = do
  a ← number_at n p
  Ok (make a.0, a.1)

-- a constant of two numbers, the second of two bytes
abbrev pub two_at : ℕ → (ℕ → ℕ → Constant) → Place → Result (Constant × Place) WalkFault
two_at n make p = do
  a ← number_at n p
  b ← number_at 2 a.1
  Ok (make a.0 b.0, b.1)

abbrev pub utf8_at : Place → Result (Constant × Place) WalkFault
utf8_at p = do
  n ← number_at 2 p
  bytes ← bytes_at n.0 n.1
  Ok (Utf8 bytes.0, bytes.1)

-- what comes after a tag (JVMS 4.4.1 to 4.4.10)
unfoldable pub content_at : Tag → Place → Result (Constant × Place) WalkFault
content_at tags.Utf8 p = utf8_at p
content_at tags.Integer p = one_at 4 (λ n. Integer (cast_signed w32 n)) p
content_at tags.Float p = one_at 4 (λ n. Float n) p
content_at tags.Long p = one_at 8 (λ n. Long (cast_signed w64 n)) p
content_at tags.Double p = one_at 8 (λ n. Double n) p
content_at tags.Class p = one_at 2 (λ n. Class n) p
content_at tags.Str p = one_at 2 (λ n. Str n) p
content_at tags.Field p = two_at 2 (λ m n. Field m n) p
content_at tags.Method p = two_at 2 (λ m n. Method m n) p
content_at tags.IfaceMethod p = two_at 2 (λ m n. IfaceMethod m n) p
content_at tags.Pair p = two_at 2 (λ m n. Pair m n) p
content_at tags.Handle p = two_at 1 (λ m n. Handle m n) p
content_at tags.MethodType p = one_at 2 (λ n. MethodType n) p
content_at tags.Dynamic p = two_at 2 (λ m n. Dynamic m n) p

abbrev pub tagged : Option Tag → ℕ → Place → Result (Tag × Place) WalkFault
tagged None index p = Err (PoolTag index)
tagged (Some tag) index p = Ok (tag, p)

-- the tag of the entry of an index
unfoldable pub tag_at : ℕ → Place → Result (Tag × Place) WalkFault
tag_at index p = do
  tag ← number_at 1 p
  tagged (tag_of tag.0) index tag.1

-- the entry of an index
unfoldable pub entry_at : ℕ → Place → Result (Constant × Place) WalkFault
entry_at index p = do
  tag ← tag_at index p
  content_at tag.0 tag.1

-- how far the pool has been read: whether the index is a gap, the index, and the place
pub record PoolPlace : Type 0 where
  pub due : Bool
  pub index : ℕ
  pub place : Place

-- what an index holds
abbrev pub slot_at : Bool → ℕ → Place → Result (Constant × Place) WalkFault
slot_at true index p = Ok (Gap, p)
slot_at false index p = entry_at index p

abbrev pub next_slot : PoolPlace → Result (Constant × PoolPlace) WalkFault
next_slot s = do
  slot ← slot_at s.due s.index s.place
  Ok (slot.0, record { due = is_wide slot.0; index = s.index + 1; place = slot.1 })

-- what is at the first count indices, from 0, which is a gap
unfoldable pub slots_at : ℕ → Place → Result (List Constant × Place) WalkFault
slots_at count p = do
  slots ← items_at next_slot count (record { due = true; index = 0; place = p })
  Ok (slots.0, slots.1.place)

-- the count, which isn't 0
unfoldable pub count_at : Place → Result (ℕ × Place) WalkFault
count_at p = do
  count ← number_at 2 p
  if count.0 == 0 then Err (PoolTag 0) else Ok count

-- the count, and the indices below it
unfoldable pub pool_at : Place → Result (List Constant × Place) WalkFault
pool_at p = do
  count ← count_at p
  slots_at count.0 count.1

unfoldable pub attribute_at : Place → Result (RawAttribute × Place) WalkFault
attribute_at p = do
  name ← number_at 2 p
  size ← number_at 4 name.1
  content ← bytes_at size.0 size.1
  Ok (record { at = p.at; name = name.0; content = content.0 }, content.1)

unfoldable pub member_at : Place → Result (RawMember × Place) WalkFault
member_at p = do
  flags ← number_at 2 p
  name ← number_at 2 flags.1
  descriptor ← number_at 2 name.1
  attributes ← table_at attribute_at descriptor.1
  Ok (record { at = p.at; flags = flags.0; name = name.0; descriptor = descriptor.0; attributes = attributes.0 }, attributes.1)

-- the place after the magic number
unfoldable pub magic_at : Place → Result Place WalkFault
magic_at p = do
  magic ← number_at 4 p
  if magic.0 == 0xCAFEBABE then Ok magic.1 else Err Magic

-- the minor and the major version
unfoldable pub versions_at : Place → Result ((ℕ × ℕ) × Place) WalkFault
versions_at p = do
  minor ← number_at 2 p
  major ← number_at 2 minor.1
  if nat_le 50 major.0 && nat_le major.0 52 then Ok ((minor.0, major.0), major.1) else Err Version

-- the magic number and the versions
unfoldable pub head_at : Place → Result ((ℕ × ℕ) × Place) WalkFault
head_at p = do
  start ← magic_at p
  versions_at start

-- what comes after the versions
unfoldable pub rest_at : ℕ × ℕ → Place → Result (RawClass × Place) WalkFault
rest_at versions p = do
  pool ← pool_at p
  flags ← number_at 2 pool.1
  this_class ← number_at 2 flags.1
  super_class ← number_at 2 this_class.1
  interfaces ← table_at (number_at 2) super_class.1
  fields ← table_at member_at interfaces.1
  methods ← table_at member_at fields.1
  attributes ← table_at attribute_at methods.1
  Ok (
    record {
      minor = versions.0;
      major = versions.1;
      pool = pool.0;
      flags = flags.0;
      this_class = this_class.0;
      super_class = super_class.0;
      interfaces = interfaces.0;
      fields = fields.0;
      methods = methods.0;
      attributes = attributes.0;
    },
    attributes.1,
  )

unfoldable pub class_at : Place → Result (RawClass × Place) WalkFault
class_at p = do
  versions ← head_at p
  rest_at versions.0 versions.1

-- the front of a list of bytes
abbrev pub start_of : List ℕ → Place
start_of bytes = record { at = 0; left = bytes }

-- nothing is left
abbrev pub end_at : Place → Result Place WalkFault
end_at p = if length p.left == 0 then Ok p else Err (Trailing p.at)

-- all of the bytes
unfoldable pub ended : {X : Type 0} → X × Place → Result X WalkFault
ended x = do
  _ ← end_at x.1
  Ok x.0

-- the magic number and the versions of a file that isn't too long, or what is wrong with them
unfoldable pub head_of : List ℕ → Result ((ℕ × ℕ) × Place) WalkFault
head_of bytes = if nat_lt 1048576 (length bytes) then Err TooLong else head_at (start_of bytes)

-- the class that the bytes spell, or the first fault from the front
unfoldable pub walk_of : List ℕ → Result RawClass WalkFault
walk_of bytes = if nat_lt 1048576 (length bytes) then Err TooLong else (class_at (start_of bytes) >>= ended)

unfoldable pub handler_at : Place → Result (RawHandler × Place) WalkFault
handler_at p = do
  from ← number_at 2 p
  to ← number_at 2 from.1
  at ← number_at 2 to.1
  kind ← number_at 2 at.1
  Ok (record { from = from.0; to = to.0; at = at.0; kind = kind.0 }, kind.1)

-- the two sizes and the instructions
unfoldable pub code_head_at : Place → Result ((ℕ × ℕ × List ℕ) × Place) WalkFault
code_head_at p = do
  max_stack ← number_at 2 p
  max_locals ← number_at 2 max_stack.1
  size ← number_at 4 max_locals.1
  bytes ← bytes_at size.0 size.1
  Ok ((max_stack.0, max_locals.0, bytes.0), bytes.1)

-- what comes after them
unfoldable pub code_rest_at : ℕ × ℕ × List ℕ → Place → Result (RawCode × Place) WalkFault
code_rest_at head p = do
  handlers ← table_at handler_at p
  attributes ← table_at attribute_at handlers.1
  Ok (record { max_stack = head.0; max_locals = head.1; bytes = head.2; handlers = handlers.0; attributes = attributes.0 }, attributes.1)

unfoldable pub code_at : Place → Result (RawCode × Place) WalkFault
code_at p = do
  head ← code_head_at p
  code_rest_at head.0 head.1

unfoldable pub code_head_of : List ℕ → Result ((ℕ × ℕ × List ℕ) × Place) WalkFault
code_head_of content = code_head_at (start_of content)

unfoldable pub content_of : List ℕ → Result RawCode WalkFault
content_of content = code_at (start_of content) >>= ended

-- the code that a content spells; an attribute's content has at most 2 ^ 32 - 1 bytes (JVMS 4.7)
unfoldable pub code_of : List ℕ → Option RawCode
code_of content = if nat_lt 4294967295 (length content) then None else result_ok (content_of content)

-- each fault of a content is that it is malformed
abbrev pub refused : WalkRefusal → ContentRefusal
refused refusals.NoMemory = codes.NoMemory
refused (refusals.Fault _) = codes.Malformed

-- What a function returned is this code, or is Malformed where there is none, unless memory ran out.
abbrev pub Reads : Result RawCode ContentRefusal → Option RawCode → Type 0
Reads (Ok code) wanted = wanted ≡ Some code
Reads (Err codes.NoMemory) wanted = Unit {0}
Reads (Err codes.Malformed) wanted = wanted ≡ None
