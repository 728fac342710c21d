-- Entries other than texts.
use Rattle.class_walk.specs.declared.class.Constant.{Constant}
use Rattle.class_walk.specs.declared.class.Constant.TheVariants.{Integer, Long, Class, Str, Field, Method, IfaceMethod, Pair}
use Rattle.assembler_pool.specs.declared.key.Key.{Key}
use Rattle.assembler_pool.specs.declared.key.Key.TheVariants as keys

-- the entry of a key
abbrev pub constant_of : Key → Constant
constant_of (keys.Integer value) = Integer value
constant_of (keys.Long value) = Long value
constant_of (keys.Class name) = Class name
constant_of (keys.Str text) = Str text
constant_of (keys.Field class pair) = Field class pair
constant_of (keys.Method class pair) = Method class pair
constant_of (keys.IfaceMethod class pair) = IfaceMethod class pair
constant_of (keys.Pair name descriptor) = Pair name descriptor
