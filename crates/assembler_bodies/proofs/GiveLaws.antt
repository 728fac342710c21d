-- What is given without the pool.
use Rattle.std.proofs.Common.{◌≡◌, List, Option, Some, Result, Ok, Err, ap}
use Rattle.class_walk.specs.declared.class.Constant.{Constant}
use Rattle.assembler_bodies.specs.declared.refusal.BodyRefusal.{BodyRefusal}
use Rattle.assembler_bodies.specs.declared.refusal.BodyRefusal.TheVariants.{Refused, NoMemory}
use Rattle.assembler_bodies.specs.Making.{Finds, Gives, only, with_pool, next_of}

-- what is found without the pool is given with it
pub gives_only : {X Y : Type 0} (view : X → Y) (r : Result X BodyRefusal) (pool : List Constant) (wanted : Option Y) → Finds view r wanted → Gives view r pool pool (only wanted)
gives_only view (Ok x) pool wanted is = ap (with_pool pool) is
gives_only view (Err NoMemory) pool wanted is = tt
gives_only view (Err Refused) pool wanted is = ap (with_pool pool) is

-- the same after a use
pub gives_behind : {X Y A : Type 0} (view : X → Y) (r : Result X BodyRefusal) (first : Option (List Constant × A)) (pool : List Constant) (a : A) (wanted : A → Option Y)
    → first ≡ Some (pool, a) → Finds view r (wanted a) → Gives view r pool pool (λ p. next_of first (λ b. only (wanted b)))
gives_behind view (Ok x) first pool a wanted made is = rw made (ap (with_pool pool) is)
gives_behind view (Err NoMemory) first pool a wanted made is = tt
gives_behind view (Err Refused) first pool a wanted made is = rw made (ap (with_pool pool) is)
