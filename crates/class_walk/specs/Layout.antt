-- The layout of a class file: its bytes as a function of what it holds (JVMS SE 8, chapter 4).
use Rattle.std.specs.Prelude.{◌≡◌, ℕ, ◌+◌, ◌<◌, ◌≤◌, ◌^◌, Bool, true, false, List, [], ◌∷◌, ◌++◌, length, take, drop, slice_index, FitsSigned}
use Rattle.std.specs.List.{flat_map, AllByRecursion}
use Rattle.std.specs.Int.{w32, w64, cast_unsigned}
use Rattle.byteorder.specs.Endian.{big_bytes, big_number}
use Rattle.class_walk.specs.declared.class.Constant.{Constant}
use Rattle.class_walk.specs.declared.class.Constant.TheVariants.{Gap, Utf8, Integer, Float, Long, Double, Class, Str, Field, Method, IfaceMethod, Pair, Handle, MethodType, Dynamic}
use Rattle.class_walk.specs.declared.class.RawAttribute.{RawAttribute}
use Rattle.class_walk.specs.declared.class.RawMember.{RawMember}
use Rattle.class_walk.specs.declared.class.RawClass.{RawClass}
use Rattle.class_walk.specs.declared.class.RawHandler.{RawHandler}
use Rattle.class_walk.specs.declared.class.RawCode.{RawCode}

-- numbers that are bytes
abbrev pub IsBytes : List ℕ → Type 0
IsBytes bytes = (i : ℕ) → slice_index bytes i < 256

-- numbers of one, two, four and eight bytes, the highest first (JVMS 4)
abbrev pub u1 : ℕ → List ℕ
u1 n = big_bytes 1 n

abbrev pub u2 : ℕ → List ℕ
u2 n = big_bytes 2 n

abbrev pub u4 : ℕ → List ℕ
u4 n = big_bytes 4 n

abbrev pub u8 : ℕ → List ℕ
u8 n = big_bytes 8 n

-- a table: how many items there are, and the items (JVMS 4)
abbrev pub table : {X : Type 0} → (X → List ℕ) → List X → List ℕ
table item xs = u2 (length xs) ++ flat_map item xs

-- items of a table: its count has two bytes
abbrev pub IsCounted : {X : Type 0} → (X → Type 0) → List X → Type 0
IsCounted IsRight xs = (length xs < 2 ^ 16) × AllByRecursion IsRight xs

-- items one after another, the first at this place, each of them right for its own place
abbrev pub AllPlaced : {X : Type 0} → (X → List ℕ) → (ℕ → X → Type 0) → ℕ → List X → Type 0
AllPlaced item IsRight at [] = Unit {0}
AllPlaced item IsRight at (x ∷ xs) = IsRight at x × AllPlaced item IsRight (at + length (item x)) xs

-- the same of a table at this place, whose items come after the count
abbrev pub IsTable : {X : Type 0} → (X → List ℕ) → (ℕ → X → Type 0) → ℕ → List X → Type 0
IsTable item IsRight at xs = (length xs < 2 ^ 16) × AllPlaced item IsRight (at + 2) xs

-- an entry of the constant pool: its tag, and what it holds (JVMS 4.4)
abbrev pub constant : Constant → List ℕ
constant Gap = []
constant (Utf8 bytes) = u1 1 ++ u2 (length bytes) ++ bytes
constant (Integer value) = u1 3 ++ u4 (cast_unsigned w32 value)
constant (Float bits) = u1 4 ++ u4 bits
constant (Long value) = u1 5 ++ u8 (cast_unsigned w64 value)
constant (Double bits) = u1 6 ++ u8 bits
constant (Class name) = u1 7 ++ u2 name
constant (Str text) = u1 8 ++ u2 text
constant (Field class name_and_type) = u1 9 ++ u2 class ++ u2 name_and_type
constant (Method class name_and_type) = u1 10 ++ u2 class ++ u2 name_and_type
constant (IfaceMethod class name_and_type) = u1 11 ++ u2 class ++ u2 name_and_type
constant (Pair name descriptor) = u1 12 ++ u2 name ++ u2 descriptor
constant (Handle kind index) = u1 15 ++ u1 kind ++ u2 index
constant (MethodType descriptor) = u1 16 ++ u2 descriptor
constant (Dynamic bootstrap name_and_type) = u1 18 ++ u2 bootstrap ++ u2 name_and_type

-- whether the numbers of an entry have the width that the layout gives them
abbrev pub Fits : Constant → Type 0
Fits Gap = Unit {0}
Fits (Utf8 bytes) = length bytes < 2 ^ 16
Fits (Integer value) = FitsSigned w32 value
Fits (Float bits) = bits < 2 ^ 32
Fits (Long value) = FitsSigned w64 value
Fits (Double bits) = bits < 2 ^ 64
Fits (Class name) = name < 2 ^ 16
Fits (Str text) = text < 2 ^ 16
Fits (Field class name_and_type) = (class < 2 ^ 16) × (name_and_type < 2 ^ 16)
Fits (Method class name_and_type) = (class < 2 ^ 16) × (name_and_type < 2 ^ 16)
Fits (IfaceMethod class name_and_type) = (class < 2 ^ 16) × (name_and_type < 2 ^ 16)
Fits (Pair name descriptor) = (name < 2 ^ 16) × (descriptor < 2 ^ 16)
Fits (Handle kind index) = (kind < 2 ^ 8) × (index < 2 ^ 16)
Fits (MethodType descriptor) = descriptor < 2 ^ 16
Fits (Dynamic bootstrap name_and_type) = (bootstrap < 2 ^ 16) × (name_and_type < 2 ^ 16)

-- no entry is there
abbrev pub is_gap : Constant → Bool
is_gap Gap = true
is_gap _ = false

-- an entry that takes two indices (JVMS 4.4.5)
abbrev pub is_wide : Constant → Bool
is_wide (Long _) = true
is_wide (Double _) = true
is_wide _ = false

-- the pool from an index on: a gap is there exactly if one is due, and later exactly after each wide entry
abbrev pub IsGapped : Bool → List Constant → Type 0
IsGapped due [] = Unit {0}
IsGapped due (c ∷ cs) = (is_gap c ≡ due) × Fits c × IsGapped (is_wide c) cs

-- the pool by index: index 0 is no entry, and the count, which is above all indices, has two bytes (JVMS 4.1)
pub record IsPool (pool : List Constant) : Type 0 where
  pub above : 0 < length pool
  pub count : length pool < 2 ^ 16
  pub gaps : IsGapped true pool

abbrev pub pool_table : List Constant → List ℕ
pool_table pool = u2 (length pool) ++ flat_map constant pool

-- an attribute (JVMS 4.7)
abbrev pub attribute : RawAttribute → List ℕ
attribute a = u2 a.name ++ u4 (length a.content) ++ a.content

pub record IsAttribute (at : ℕ) (a : RawAttribute) : Type 0 where
  pub place : a.at ≡ at
  pub name : a.name < 2 ^ 16
  pub size : length a.content < 2 ^ 32

-- a field or a method (JVMS 4.5, 4.6)
abbrev pub member : RawMember → List ℕ
member m = u2 m.flags ++ u2 m.name ++ u2 m.descriptor ++ table attribute m.attributes

pub record IsMember (at : ℕ) (m : RawMember) : Type 0 where
  pub place : m.at ≡ at
  pub flags : m.flags < 2 ^ 16
  pub name : m.name < 2 ^ 16
  pub descriptor : m.descriptor < 2 ^ 16
  pub attributes : IsTable attribute IsAttribute (at + 6) m.attributes

-- a class file up to its fields (JVMS 4.1)
abbrev pub front : RawClass → List ℕ
front c = u4 0xCAFEBABE ++ u2 c.minor ++ u2 c.major ++ pool_table c.pool
    ++ u2 c.flags ++ u2 c.this_class ++ u2 c.super_class ++ table u2 c.interfaces

-- a class file (JVMS 4.1)
abbrev pub spelling : RawClass → List ℕ
spelling c = front c ++ table member c.fields ++ table member c.methods ++ table attribute c.attributes

-- what a class file holds, each place being the number of bytes before it
pub record IsClass (c : RawClass) : Type 0 where
  pub minor : c.minor < 2 ^ 16
  pub oldest : 50 ≤ c.major
  pub newest : c.major ≤ 52
  pub pool : IsPool c.pool
  pub flags : c.flags < 2 ^ 16
  pub this_class : c.this_class < 2 ^ 16
  pub super_class : c.super_class < 2 ^ 16
  pub interfaces : IsCounted (λ index. index < 2 ^ 16) c.interfaces
  pub fields : IsTable member IsMember (length (front c)) c.fields
  pub methods : IsTable member IsMember (length (front c ++ table member c.fields)) c.methods
  pub attributes : IsTable attribute IsAttribute (length (front c ++ table member c.fields ++ table member c.methods)) c.attributes

-- these bytes are the file of that class, of a size that is read
pub record IsClassFile (bytes : List ℕ) (c : RawClass) : Type 0 where
  pub holds : IsClass c
  pub spelled : bytes ≡ spelling c
  pub size : length bytes ≤ 1048576

-- an entry of an exception table (JVMS 4.7.3)
abbrev pub handler : RawHandler → List ℕ
handler h = u2 h.from ++ u2 h.to ++ u2 h.at ++ u2 h.kind

pub record IsRawHandler (h : RawHandler) : Type 0 where
  pub from : h.from < 2 ^ 16
  pub to : h.to < 2 ^ 16
  pub at : h.at < 2 ^ 16
  pub kind : h.kind < 2 ^ 16

-- the content of a Code attribute up to its attributes (JVMS 4.7.3)
abbrev pub code_front : RawCode → List ℕ
code_front c = u2 c.max_stack ++ u2 c.max_locals ++ u4 (length c.bytes) ++ c.bytes ++ table handler c.handlers

abbrev pub code_spelling : RawCode → List ℕ
code_spelling c = code_front c ++ table attribute c.attributes

pub record IsCode (c : RawCode) : Type 0 where
  pub max_stack : c.max_stack < 2 ^ 16
  pub max_locals : c.max_locals < 2 ^ 16
  pub size : length c.bytes < 2 ^ 32
  pub handlers : IsCounted IsRawHandler c.handlers
  pub attributes : IsTable attribute IsAttribute (length (code_front c)) c.attributes

-- this content is that of this code; an attribute's content has at most 2 ^ 32 - 1 bytes (JVMS 4.7)
pub record IsCodeContent (content : List ℕ) (c : RawCode) : Type 0 where
  pub holds : IsCode c
  pub spelled : content ≡ code_spelling c
  pub size : length content < 2 ^ 32

-- the content ends before its instructions do: they begin after its first eight bytes, the last four of which say how
-- many bytes they have
abbrev pub IsCut : List ℕ → Type 0
IsCut content = length content < 8 + big_number 4 (take 4 (drop 4 content))
