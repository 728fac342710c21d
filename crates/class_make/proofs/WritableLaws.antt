-- What is made has the room that it needs to be written.
use Rattle.std.proofs.Common.{◌≡◌, ℕ, ◌<◌, ◌^◌, List, [], ◌∷◌, length, Some, sym, subst, lit<, lit≤}
use Rattle.std.specs.List.{AllByRecursion}
use Rattle.class_walk.specs.declared.class.Constant.{Constant}
use Rattle.class_walk.specs.declared.class.RawAttribute.{RawAttribute}
use Rattle.class_walk.specs.declared.class.RawClass.{RawClass}
use Rattle.class_walk.specs.Layout.{IsCounted}
use Rattle.class_write.specs.Writable.{IsWritable, IsWritableConstant, IsWritableAttribute}
use Rattle.class_write.proofs.TableLaws.{class_writable}
use Rattle.assembler_pool.specs.Indexed.{IsMade}
use Rattle.assembler_bodies.specs.Body.{MadeBody, content}
use Rattle.assembler_bodies.proofs.ContentLaws.{content_is}
use Rattle.class_make.specs.Class.{attribute}

-- a class with nothing but its pool
only_pool : List Constant → RawClass
only_pool pool = record { minor = 0; major = 52; pool = pool; flags = 0; this_class = 0; super_class = 0; interfaces = []; fields = []; methods = []; attributes = [] }

pool_can_be_written : (pool : List Constant) → IsMade pool → IsWritable (only_pool pool)
unfolding only_pool
pool_can_be_written pool is = class_writable (only_pool pool) (record {
  minor = lit< tt;
  oldest = lit≤ tt;
  newest = lit≤ tt;
  pool = is.sound;
  flags = lit< tt;
  this_class = lit< tt;
  super_class = lit< tt;
  interfaces = (lit< tt, tt);
  fields = (lit< tt, tt);
  methods = (lit< tt, tt);
  attributes = (lit< tt, tt);
})

-- the entries of a pool that was made can be written
pub made_is_writable : (made pool : List Constant) → pool ≡ made → IsMade made → AllByRecursion IsWritableConstant pool
unfolding only_pool
made_is_writable made pool same is = subst (AllByRecursion IsWritableConstant) (sym same) (pool_can_be_written made is).constants

pub made_is_short : (made pool : List Constant) → pool ≡ made → IsMade made → length pool < 2 ^ 16
made_is_short made pool same is = let P : List Constant → Type 0 = λ p. length p < 2 ^ 16 in subst P (sym same) is.sound.count

-- the content of an attribute Code has room in it
pub content_fits : (body : MadeBody) (bytes : List ℕ) → content body ≡ Some bytes → length bytes < 2 ^ 32
content_fits body bytes e =
    let is = content_is body bytes e in
    let P : List ℕ → Type 0 = λ b. length b < 2 ^ 32 in
    subst P (sym is.1) is.0

pub one_attribute_is_writable : (name : ℕ) (bytes : List ℕ) (attributes : List RawAttribute) → attributes ≡ attribute name bytes ∷ [] → length bytes < 2 ^ 32
    → IsCounted IsWritableAttribute attributes
one_attribute_is_writable name bytes attributes is short = rw is (lit< tt, (short, tt))
