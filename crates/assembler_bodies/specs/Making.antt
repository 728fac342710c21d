-- Parts of a class that are made with its constant pool, as far as a class file has room for them.
use Rattle.std.specs.Prelude.{◌≡◌, ℕ, ◌^◌, if◌then◌else◌, List, [], ◌∷◌, length, Option, Some, None, Result, Ok, Err}
use Rattle.std.specs.Int.{w32, w64}
use Rattle.class_walk.specs.declared.class.Constant.{Constant}
use Rattle.class_walk.specs.declared.class.Constant.TheVariants.{Gap, Utf8, Integer, Float, Long, Double, Class, Str, Field, Method, IfaceMethod, Pair, Handle, MethodType, Dynamic}
use Rattle.class_walk.specs.Layout.{Fits}
use Rattle.assembler_pool.specs.Items.{Item, use_of}
use Rattle.assembler_pool.specs.Uses.{HasRoom}
use Rattle.assembler_bodies.specs.Tests.{Test, known, both, less, fits_signed, each_of}
use Rattle.assembler_bodies.specs.declared.refusal.BodyRefusal.{BodyRefusal}
use Rattle.assembler_bodies.specs.declared.refusal.BodyRefusal.TheVariants.{Refused, NoMemory}

-- ---- room

-- the numbers of an entry, and the length of a text, have the width that the layout gives them (JVMS 4.4)
abbrev pub fits : (c : Constant) → Test (Fits c)
fits Gap = known tt
fits (Utf8 bytes) = less (length bytes) (2 ^ 16)
fits (Integer value) = fits_signed w32 value
fits (Float bits) = less bits (2 ^ 32)
fits (Long value) = fits_signed w64 value
fits (Double bits) = less bits (2 ^ 64)
fits (Class name) = less name (2 ^ 16)
fits (Str text) = less text (2 ^ 16)
fits (Field class pair) = both (less class (2 ^ 16)) (less pair (2 ^ 16))
fits (Method class pair) = both (less class (2 ^ 16)) (less pair (2 ^ 16))
fits (IfaceMethod class pair) = both (less class (2 ^ 16)) (less pair (2 ^ 16))
fits (Pair name descriptor) = both (less name (2 ^ 16)) (less descriptor (2 ^ 16))
fits (Handle kind index) = both (less kind (2 ^ 8)) (less index (2 ^ 16))
fits (MethodType descriptor) = less descriptor (2 ^ 16)
fits (Dynamic bootstrap pair) = both (less bootstrap (2 ^ 16)) (less pair (2 ^ 16))

-- a class file can hold the pool
unfoldable pub has_room : (pool : List Constant) → Test (HasRoom pool)
has_room pool = both (less (length pool) (2 ^ 16)) (each_of Fits fits pool)

-- ---- making

-- the pool afterwards and what is made, or none
abbrev pub Making : Type 0 → Type 0
Making A = List Constant → Option (List Constant × A)

abbrev pub next_of : {A B : Type 0} → Option (List Constant × A) → (A → Making B) → Option (List Constant × B)
next_of None f = None
next_of (Some x) f = f x.1 x.0

-- one making, followed by one that takes what it made
infixl 10 ◌>>=◌
abbrev pub ◌>>=◌ : {A B : Type 0} → Making A → (A → Making B) → Making B
first >>= next = λ pool. next_of (first pool) next

abbrev pub with_pool : {A : Type 0} → List Constant → Option A → Option (List Constant × A)
with_pool pool None = None
with_pool pool (Some a) = Some (pool, a)

-- what is known without the pool
abbrev pub only : {A : Type 0} → Option A → Making A
only o = λ pool. with_pool pool o

-- the index of an item, where a class file has room for it
unfoldable pub used : Item → Making ℕ
used item pool = if (has_room (use_of item pool).0).holds then Some (use_of item pool) else None

-- each of some items, one after another
abbrev pub each_made : {A B : Type 0} → (A → Making B) → List A → Making (List B)
each_made make [] = only (Some [])
each_made make (a ∷ items) = do
  first ← make a
  others ← each_made make items
  only (Some (first ∷ others))

-- ---- what functions return

-- There is none, unless memory ran out.
abbrev pub Fails : {Y : Type 0} → BodyRefusal → Option Y → Type 0
Fails NoMemory wanted = Unit {0}
Fails Refused wanted = wanted ≡ None

-- What a function returned, seen by view, is what is wanted; refused is exactly that of which there is none.
abbrev pub Finds : {X Y : Type 0} → (X → Y) → Result X BodyRefusal → Option Y → Type 0
Finds view (Ok x) wanted = wanted ≡ Some (view x)
Finds view (Err refusal) wanted = Fails refusal wanted

-- The same of a function that makes something with the pool, which is the first before and the second afterwards.
abbrev pub Gives : {X Y : Type 0} → (X → Y) → Result X BodyRefusal → List Constant → List Constant → Making Y → Type 0
Gives view (Ok x) old new making = making old ≡ Some (new, view x)
Gives view (Err refusal) old new making = Fails refusal (making old)
