-- What the uses of the pool give, where a class file has room for it.
use Rattle.std.proofs.Common.{◌≡◌, ℕ, true, false, List, Some, None, Ok, Err, ◌⊎◌, inl, inr, refl, ap, subst, ◌∙◌}
use Rattle.std.proofs.lemmas.Bool.{cases_Bool}
use Rattle.class_walk.specs.declared.class.Constant.{Constant}
use Rattle.assembler_pool.specs.declared.refusal.PoolRefusal.TheVariants as full
use Rattle.assembler_pool.specs.Items.{Item, use_of}
use Rattle.assembler_pool.specs.Uses.{Extends, HasRoom, Makes}
use Rattle.assembler_pool.proofs.ItemLaws.{item_kept}
use Rattle.assembler_bodies.specs.Making.{has_room, used}

used_room : (item : Item) (old : List Constant) → (has_room (use_of item old).0).holds ≡ true → used item old ≡ Some (use_of item old)
unfolding used
used_room item old room = rw room refl

used_full : (item : Item) (old : List Constant) → (has_room (use_of item old).0).holds ≡ false → used item old ≡ None
unfolding used
used_full item old full = rw full refl

pub makes_ok : (item : Item) (index : ℕ) (old new : List Constant) → Makes (Ok index) old new (use_of item) → used item old ≡ Some (new, index)
makes_ok item index old new makes =
    let there : HasRoom (use_of item old).0 = rw makes.1 makes.0 in
    used_room item old ((has_room (use_of item old).0).tells.1 there) ∙ ap (λ (x : List Constant × ℕ). Some x) makes.1

pub makes_full : (item : Item) (old new : List Constant) → Makes (Err full.Full) old new (use_of item) → used item old ≡ None
makes_full item old new makes = by_cases (cases_Bool (has_room (use_of item old).0).holds)
  where
    by_cases : ((has_room (use_of item old).0).holds ≡ true) ⊎ ((has_room (use_of item old).0).holds ≡ false) → used item old ≡ None
    by_cases (inl room) = absurd (makes.1 ((has_room (use_of item old).0).tells.0 room))
    by_cases (inr none) = used_full item old none

pub makes_kept : (item : Item) (index : ℕ) (old new : List Constant) → Makes (Ok index) old new (use_of item) → Extends old new
makes_kept item index old new makes = subst (λ (x : List Constant × ℕ). Extends old x.0) makes.1 ((item_kept item).grows old)
