-- What is made with a pool keeps the pool.
use Rattle.std.proofs.Common.{◌≡◌, ℕ, ◌^◌, ◌<◌, List, [], ◌∷◌, length, Option, Some, sym, subst, arith}
use Rattle.std.proofs.lemmas.Option.{slice_get_within}
use Rattle.class_walk.specs.declared.class.Constant.{Constant}
use Rattle.class_walk.specs.declared.class.Constant.TheVariants.{Utf8, Integer, Long, Class, Str, Field, Method, IfaceMethod}
use Rattle.assembler_pool.specs.Indexed.{IsMade}
use Rattle.assembler_pool.specs.Items.{Item, text, integer, long, class_named, string, field, method, interface_method, use_of, IsItemAt}
use Rattle.assembler_pool.specs.Uses.{Extends, HasRoom}
use Rattle.assembler_pool.proofs.ItemLaws.{item_kept, item_is_at, item_stays}
use Rattle.assembler_pool.proofs.UseLaws.{extends_itself, extends_further}
use Rattle.assembler_bodies.specs.Making.{Making, next_of, with_pool, only, each_made, has_room, used}
use Rattle.assembler_bodies.proofs.ShapeLaws.{parts_of, known_of}
use Rattle.assembler_bodies.proofs.StepLaws.{chosen}

-- the pool grows, and stays one that is made
pub record Keeps (old new : List Constant) : Type 0 where
  pub extends : Extends old new
  pub made : IsMade old → IsMade new

pub keeps_itself : (pool : List Constant) → Keeps pool pool
keeps_itself pool = record { extends = extends_itself pool; made = λ made. made }

pub keeps_further : (old mid new : List Constant) → Keeps old mid → Keeps mid new → Keeps old new
keeps_further old mid new first next = record {
  extends = extends_further old mid new first.extends next.extends;
  made = λ made. next.made (first.made made);
}

-- What is known without the pool leaves it.
pub pool_of : {A : Type 0} (pool : List Constant) (o : Option A) (x : List Constant × A) → with_pool pool o ≡ Some x → x.0 ≡ pool
pool_of pool o x e = sym (known_of pool o x e).pool_is

pub keeps_known : {A : Type 0} (pool : List Constant) (o : Option A) (x : List Constant × A) → with_pool pool o ≡ Some x → Keeps pool x.0
keeps_known pool o x e = subst (λ (p : List Constant). Keeps pool p) (sym (pool_of pool o x e)) (keeps_itself pool)

-- ---- items

-- an item's index is below the pool's length
pub index_below : (item : Item) (pool : List Constant) (index : ℕ) → IsItemAt pool index item → index < length pool
index_below (text bytes) pool index at = slice_get_within pool index (Utf8 bytes) at
index_below (integer value) pool index at = slice_get_within pool index (Integer value) at
index_below (long value) pool index at = slice_get_within pool index (Long value) at
index_below (class_named name) pool index at = slice_get_within pool index (Class at.0) at.1
index_below (string units) pool index at = slice_get_within pool index (Str at.0) at.1
index_below (field class name descriptor) pool index at = slice_get_within pool index (Field at.0 at.1) at.2
index_below (method class name descriptor) pool index at = slice_get_within pool index (Method at.0 at.1) at.2
index_below (interface_method class name descriptor) pool index at = slice_get_within pool index (IfaceMethod at.0 at.1) at.2

pub short_index : (item : Item) (pool : List Constant) (index : ℕ) → length pool < 2 ^ 16 → IsItemAt pool index item → index < 2 ^ 16
short_index item pool index count at = omega (arith, index_below item pool index at, count)

-- A use that a class file has room for: the item is at its index, which has two bytes.
pub record Used (item : Item) (old : List Constant) (x : List Constant × ℕ) : Type 0 where
  pub keeps : Keeps old x.0
  pub at : IsItemAt x.0 x.1 item
  pub short : x.1 < 2 ^ 16

pub used_is : (item : Item) (pool : List Constant) (x : List Constant × ℕ) → used item pool ≡ Some x → Used item pool x
unfolding used
used_is item pool x e =
    let got = chosen (has_room (use_of item pool).0).holds (use_of item pool) x e in
    let room : HasRoom (use_of item pool).0 = (has_room (use_of item pool).0).tells.0 got.0 in
    let here : Used item pool (use_of item pool) = record {
      keeps = record { extends = (item_kept item).grows pool; made = λ made. (item_kept item).made pool made room };
      at = item_is_at item pool;
      short = short_index item (use_of item pool).0 (use_of item pool).1 room.0 (item_is_at item pool);
    } in
    subst (λ (y : List Constant × ℕ). Used item pool y) (sym got.1) here

-- it is still there in each pool that extends this one
pub used_at : (item : Item) (old last : List Constant) (x : List Constant × ℕ) → Used item old x → Extends x.0 last → IsItemAt last x.1 item
used_at item old last x is more = item_stays item x.0 last x.1 more is.at

-- ---- makings

-- Whatever is made, the pool is kept.
pub record Grows {A : Type 0} (making : Making A) : Type 0 where
  pub keeps : (pool : List Constant) (x : List Constant × A) → making pool ≡ Some x → Keeps pool x.0

pub grows_only : {A : Type 0} (o : Option A) → Grows (only o)
grows_only o = record { keeps = λ pool x e. keeps_known pool o x e }

pub grows_next : {A B : Type 0} (first : Making A) (next : A → Making B) → Grows first → ((a : A) → Grows (next a)) → Grows (λ pool. next_of (first pool) next)
grows_next {A} {B} first next front behind = record { keeps = kept }
  where
    kept : (pool : List Constant) (x : List Constant × B) → next_of (first pool) next ≡ Some x → Keeps pool x.0
    kept pool x e =
        let p = parts_of (first pool) next x e in
        keeps_further pool p.made.0 x.0 (front.keeps pool p.made p.first_is) ((behind p.made.1).keeps p.made.0 x p.next_is)

pub grows_each : {A B : Type 0} (make : A → Making B) → ((a : A) → Grows (make a)) → (items : List A) → Grows (each_made make items)
grows_each make each [] = grows_only (Some [])
grows_each make each (a ∷ items) =
    grows_next (make a) _ (each a) (λ first. grows_next (each_made make items) _ (grows_each make each items) (λ others. grows_only (Some (first ∷ others))))
