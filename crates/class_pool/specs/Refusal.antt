-- The number that identifies a refusal of a class file.
use Rattle.std.specs.Prelude.{ℕ}
use Rattle.class_pool.specs.declared.refusal.ReadRefusal.{ReadRefusal}
use Rattle.class_pool.specs.declared.refusal.ReadRefusal.TheVariants.{Magic, Version, Truncated, PoolTag, PoolIndex, BadUtf, BadDescriptor, Trailing, TooLong, Attribute, Flags, Member, NoMemory}

-- the number that identifies a refusal, from 1 in this order
abbrev pub number_of : ReadRefusal → ℕ
number_of Magic = 1
number_of Version = 2
number_of (Truncated _) = 3
number_of (PoolTag _) = 4
number_of (PoolIndex _) = 5
number_of (BadUtf _) = 6
number_of (BadDescriptor _) = 7
number_of (Trailing _) = 8
number_of TooLong = 9
number_of (Attribute _) = 10
number_of Flags = 11
number_of (Member _) = 12
number_of NoMemory = 13

-- the number that a refusal names, or 0 where it names none
abbrev pub place_of : ReadRefusal → ℕ
place_of Magic = 0
place_of Version = 0
place_of (Truncated n) = n
place_of (PoolTag n) = n
place_of (PoolIndex n) = n
place_of (BadUtf n) = n
place_of (BadDescriptor n) = n
place_of (Trailing n) = n
place_of TooLong = 0
place_of (Attribute n) = n
place_of Flags = 0
place_of (Member n) = n
place_of NoMemory = 0
