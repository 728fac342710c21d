-- What can be written: each count and length fits into its width (JVMS SE 8, 4.1 and 4.4 to 4.7). Numbers fit by
-- their types.
use Rattle.std.specs.Prelude.{◌<◌, ◌^◌, length}
use Rattle.std.specs.List.{AllByRecursion}
use Rattle.class_walk.specs.declared.class.Constant.{Constant}
use Rattle.class_walk.specs.declared.class.Constant.TheVariants.{Utf8}
use Rattle.class_walk.specs.declared.class.RawAttribute.{RawAttribute}
use Rattle.class_walk.specs.declared.class.RawMember.{RawMember}
use Rattle.class_walk.specs.declared.class.RawClass.{RawClass}
use Rattle.class_walk.specs.declared.class.RawCode.{RawCode}
use Rattle.class_walk.specs.Layout.{IsCounted}

abbrev pub IsWritableConstant : Constant → Type 0
IsWritableConstant (Utf8 bytes) = length bytes < 2 ^ 16
IsWritableConstant _ = Unit {0}

abbrev pub IsWritableAttribute : RawAttribute → Type 0
IsWritableAttribute a = length a.content < 2 ^ 32

abbrev pub IsWritableMember : RawMember → Type 0
IsWritableMember m = IsCounted IsWritableAttribute m.attributes

pub record IsWritable (c : RawClass) : Type 0 where
  pub count : length c.pool < 2 ^ 16
  pub constants : AllByRecursion IsWritableConstant c.pool
  pub interfaces : length c.interfaces < 2 ^ 16
  pub fields : IsCounted IsWritableMember c.fields
  pub methods : IsCounted IsWritableMember c.methods
  pub attributes : IsCounted IsWritableAttribute c.attributes

pub record IsWritableCode (c : RawCode) : Type 0 where
  pub size : length c.bytes < 2 ^ 32
  pub handlers : length c.handlers < 2 ^ 16
  pub attributes : IsCounted IsWritableAttribute c.attributes
