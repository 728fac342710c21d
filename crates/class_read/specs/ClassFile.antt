-- Class files and their refusals.
use Rattle.std.specs.Prelude.{◌≡◌, ℕ, ◌⊎◌, List, map, Result, Ok, Err}
use Rattle.class_walk.specs.declared.class.Constant.{Constant}
use Rattle.class_walk.specs.declared.class.RawClass.{RawClass}
use Rattle.class_walk.specs.declared.refusal.WalkFault.{WalkFault}
use Rattle.class_walk.specs.declared.refusal.WalkFault.TheVariants as walk
use Rattle.class_walk.specs.Layout.{IsClassFile}
use Rattle.class_walk.specs.Reading.{walk_of}
use Rattle.class_read.specs.declared.class_file.ClassFile.{ClassFile}
use Rattle.class_read.specs.declared.class_file.Member.{Member}
use Rattle.class_pool.specs.declared.refusal.ReadRefusal.{ReadRefusal}
use Rattle.class_pool.specs.declared.refusal.ReadRefusal.TheVariants as refusals
use Rattle.class_read.specs.MemberRules.{field_of, method_of}
use Rattle.class_read.specs.ClassRules.{class_rules}
use Rattle.class_read.specs.Sound.{IsSound}

-- what is kept of a class
abbrev pub class_of : RawClass → ClassFile
class_of c = record {
  major = c.major;
  flags = c.flags;
  this_class = c.this_class;
  super_class = c.super_class;
  interfaces = c.interfaces;
  pool = c.pool;
  fields = map (field_of c.pool) c.fields;
  methods = map (method_of c.pool) c.methods;
}

-- the refusal of a fault of the layout
abbrev pub refusal_of : WalkFault → ReadRefusal
refusal_of walk.TooLong = refusals.TooLong
refusal_of (walk.Truncated length) = refusals.Truncated length
refusal_of walk.Magic = refusals.Magic
refusal_of walk.Version = refusals.Version
refusal_of (walk.PoolTag index) = refusals.PoolTag index
refusal_of (walk.Trailing at) = refusals.Trailing at

-- the bytes spell a sound class, and this is kept of it
abbrev pub IsFile : List ℕ → ClassFile → Type 0
IsFile bytes file = (c : RawClass) × IsClassFile bytes c × IsSound c × (file ≡ class_of c)

-- the first fault of the layout, or else the refusal of the first rule that is broken
abbrev pub RefusesWalked : Result RawClass WalkFault → ReadRefusal → Type 0
RefusesWalked (Ok c) e = (class_rules c).Refuse e
RefusesWalked (Err fault) e = e ≡ refusal_of fault

abbrev pub IsRefusalOf : List ℕ → ReadRefusal → Type 0
IsRefusalOf bytes e = RefusesWalked (walk_of bytes) e

-- what is kept of the members
abbrev pub AreMembersOf : List Constant → RawClass → List Member × List Member → Type 0
AreMembersOf pool c kept = (kept.0 ≡ map (field_of pool) c.fields) × (kept.1 ≡ map (method_of pool) c.methods)

-- What a reader answers: this file, unless memory ran out.
abbrev pub IsRead : Result ClassFile ReadRefusal → ClassFile → Type 0
IsRead (Ok found) file = found ≡ file
IsRead (Err e) file = e ≡ refusals.NoMemory

-- What a reader answers: this refusal, unless memory ran out.
abbrev pub IsRefused : Result ClassFile ReadRefusal → ReadRefusal → Type 0
IsRefused (Ok found) refusal = ⊥
IsRefused (Err e) refusal = (e ≡ refusals.NoMemory) ⊎ (e ≡ refusal)
