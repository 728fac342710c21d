-- Entries of the constant pool of a class that is written, each made at its first use (JVMS SE 8, 4.4).
use Rattle.std.specs.Prelude.{◌≡◌, ℕ, Bool, false, ◌==◌, ◌&&◌, if◌then◌else◌, List, [], ◌∷◌, ◌++◌, length, Option, Some, None, Result, Ok, Err}
use Rattle.std.specs.List.{position_from}
use Rattle.std.specs.Ordering.{int_eq}
use Rattle.std.specs.Str.{bytes_eq}
use Rattle.class_walk.specs.declared.class.Constant.{Constant}
use Rattle.class_walk.specs.declared.class.Constant.TheVariants.{Gap, Utf8, Integer, Float, Long, Double, Class, Str, Field, Method, IfaceMethod, Pair, Handle, MethodType, Dynamic}
use Rattle.class_walk.specs.Layout.{is_wide, IsCounted, Fits}
use Rattle.class_names.specs.ShortestForms.{encoded}
use Rattle.assembler_pool.specs.declared.refusal.PoolRefusal.{PoolRefusal}
use Rattle.assembler_pool.specs.declared.refusal.PoolRefusal.TheVariants.{Full, NoMemory}

-- the same entry: of one kind, and with the same content
abbrev pub is_same : Constant → Constant → Bool
is_same (Utf8 a) (Utf8 b) = bytes_eq a b
is_same (Integer a) (Integer b) = int_eq a b
is_same (Float a) (Float b) = a == b
is_same (Long a) (Long b) = int_eq a b
is_same (Double a) (Double b) = a == b
is_same (Class a) (Class b) = a == b
is_same (Str a) (Str b) = a == b
is_same (Field a b) (Field c d) = a == c && b == d
is_same (Method a b) (Method c d) = a == c && b == d
is_same (IfaceMethod a b) (IfaceMethod c d) = a == c && b == d
is_same (Pair a b) (Pair c d) = a == c && b == d
is_same (Handle a b) (Handle c d) = a == c && b == d
is_same (MethodType a) (MethodType b) = a == b
is_same (Dynamic a b) (Dynamic c d) = a == c && b == d
is_same _ _ = false

-- the index of an entry
abbrev pub index_of : Constant → List Constant → Option ℕ
index_of c pool = position_from (λ e. is_same e c) 0 pool

-- an entry with the gap after it where it takes two indices (JVMS 4.4.5)
abbrev pub slots : Constant → List Constant
slots c = if is_wide c then c ∷ Gap ∷ [] else c ∷ []

-- a use of the pool by a class: the pool afterwards, and the index that the class names
abbrev pub Use : Type 0
Use = List Constant → List Constant × ℕ

-- one use, followed by one that names its index
infixl 10 ◌>>=◌
unfoldable pub ◌>>=◌ : Use → (ℕ → Use) → Use
first >>= next = λ pool. next (first pool).1 (first pool).0

-- an entry that has an index is used again, and any other is added at the end
abbrev pub again_or_new : Option ℕ → Constant → Use
again_or_new (Some index) c pool = (pool, index)
again_or_new None c pool = (pool ++ slots c, length pool)

unfoldable pub entry : Constant → Use
entry c pool = again_or_new (index_of c pool) c pool

-- a class by its name (JVMS 4.4.1)
unfoldable pub class_entry : List ℕ → Use
class_entry name = do
  n ← entry (Utf8 name)
  entry (Class n)

-- a string literal by its code units (JVMS 4.4.3)
unfoldable pub string_entry : List ℕ → Use
string_entry units = do
  text ← entry (Utf8 (encoded units))
  entry (Str text)

-- a name and a descriptor (JVMS 4.4.6)
unfoldable pub pair_entry : List ℕ → List ℕ → Use
pair_entry name descriptor = do
  n ← entry (Utf8 name)
  d ← entry (Utf8 descriptor)
  entry (Pair n d)

-- a member of a class: the class, the name with the descriptor, and both of them (JVMS 4.4.2)
unfoldable pub member_entry : (ℕ → ℕ → Constant) → List ℕ → List ℕ → List ℕ → Use
member_entry member class name descriptor = do
  c ← class_entry class
  p ← pair_entry name descriptor
  entry (member c p)

abbrev pub field_entry : List ℕ → List ℕ → List ℕ → Use
field_entry = member_entry (λ class pair. Field class pair)

abbrev pub method_entry : List ℕ → List ℕ → List ℕ → Use
method_entry = member_entry (λ class pair. Method class pair)

abbrev pub interface_method_entry : List ℕ → List ℕ → List ℕ → Use
interface_method_entry = member_entry (λ class pair. IfaceMethod class pair)

-- all entries that were there keep their indices
abbrev pub Extends : List Constant → List Constant → Type 0
Extends old new = (more : List Constant) × (new ≡ old ++ more)

-- a class file can hold the pool: its count and the length of each text have two bytes (JVMS 4.1, 4.4.7)
abbrev pub HasRoom : List Constant → Type 0
HasRoom pool = IsCounted Fits pool

-- What a function answers, and the pool before and after it: this use where a class file can hold its pool, and
-- Full where it can't. An error keeps the entries that were there, and may have added some.
abbrev pub Makes : Result ℕ PoolRefusal → List Constant → List Constant → Use → Type 0
Makes (Ok index) old new wanted = HasRoom new × (wanted old ≡ (new, index))
Makes (Err Full) old new wanted = Extends old new × ¬ HasRoom (wanted old).0
Makes (Err NoMemory) old new wanted = Extends old new
