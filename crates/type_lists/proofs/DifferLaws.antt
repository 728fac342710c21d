-- Places at which lists differ.
use Rattle.std.proofs.Common.{◌≡◌, ◌≢◌, inl, inr, ℕ, zero, suc, ◌+◌, ◌-◌, ◌*◌, ◌<◌, ◌≤◌, true, List, Option, Some, None, get_or, sym, ◌∙◌, ap, subst, arith}
use Rattle.std.proofs.lemmas.Bool.Decides.{leb_tells, eqb_tells}
use Rattle.std.proofs.Math.Nat.{mul-le-mul_left}
use Rattle.type_rules.specs.declared.types.VerificationType.{VerificationType}
use Rattle.type_rules.specs.declared.types.VerificationType.TheVariants.{Top}
use Rattle.type_rules.specs.Assignable.{is_same_type}
use Rattle.type_rules.proofs.SameTypes.{same_type}
use Rattle.type_lists.specs.declared.parts.Part.{Part}
use Rattle.type_lists.specs.declared.store.WordStore.{WordStore}
use Rattle.type_lists.specs.declared.store.Words.{Words}
use Rattle.type_lists.specs.Parts.{child_at, room, word_of}
use Rattle.type_lists.specs.Store.{word_at}
use Rattle.type_lists.specs.Differ.{AreSameWithin, FirstDifference, FirstWithin}
use Rattle.type_lists.proofs.SetLaws.{place_inside, room_step}
use Rattle.type_lists.proofs.StoreLaws.{word_behind, word_inside}
use Rattle.type_lists.proofs.ComparedLaws.{inside_node, word_of_child}

-- ---- the same type

-- ---- the words of a leaf

-- one place more at which the words are the same
pub next_same : (f g : ℕ → VerificationType) (olds news : List VerificationType) (from place : ℕ) → ((n : ℕ) → get_or olds n Top ≡ f n) → ((n : ℕ) → get_or news n Top ≡ g n)
    → is_same_type (get_or olds place Top) (get_or news place Top) ≡ true → AreSameWithin f g from place → AreSameWithin f g from (place + 1)
next_same f g olds news from place olds_are news_are same before n after within = elim (eqb_tells n place) [
  | inl here ↦ subst (λ k. f k ≡ g k) (sym here.1) (sym (olds_are place) ∙ same_type (get_or olds place Top) (get_or news place Top) same ∙ news_are place)
  | inr other ↦ before n after (omega (arith, within, other.1))
]

-- ---- the children of a node

room_small : (k : ℕ) → k ≤ 2 → room k ≤ 8192
room_small zero low = omega arith
room_small (suc zero) low = omega arith
room_small (suc (suc zero)) low = omega arith
room_small (suc (suc (suc k))) low = absurd (omega (arith, low))

-- places of children are small
pub start_small : (height digit place : ℕ) → height ≢ 0 → height ≤ 3 → digit < 32 → place < room (height - 1) → room (height - 1) * digit + place < 262144
start_small height digit place tall low within inside =
    let below : height - 1 ≤ 2 = omega (arith, low) in
    omega (arith, place_inside (height - 1) digit place within inside, room_small (height - 1) below)

pub all_children : (height digit : ℕ) → height ≢ 0 → 32 ≤ digit → room height ≤ room (height - 1) * digit
all_children height digit tall all =
    let product : room (height - 1) * 32 ≤ room (height - 1) * digit = mul-le-mul_left (room (height - 1)) all in
    omega (arith, product, room_step height tall)

module _ (parts : List Part) (height before after from digit : ℕ) (tall : height ≢ 0) where
  abbrev start : ℕ
  start = room (height - 1) * digit

  -- the same before a child, and in it before a place
  same_on : (end : ℕ) → AreSameWithin (word_of parts height before) (word_of parts height after) from start
      → AreSameWithin (word_of parts (height - 1) (child_at parts before digit)) (word_of parts (height - 1) (child_at parts after digit)) (from - start) end
      → end ≤ room (height - 1) → AreSameWithin (word_of parts height before) (word_of parts height after) from (start + end)
  same_on end so_far here inside n past within = elim (leb_tells start n) [
    | inl reached ↦
        let rest = n - start in
        let is : start + rest ≡ n = omega (arith, reached.1) in
        let low : rest < end = omega (arith, within, reached.1) in
        let small : rest < room (height - 1) = omega (arith, low, inside) in
        subst (λ k. word_of parts height before k ≡ word_of parts height after k) is
        (word_of_child parts height before digit rest tall small
        ∙ here rest (omega (arith, past)) low
        ∙ sym (word_of_child parts height after digit rest tall small))
    | inr before_it ↦ so_far n past (omega (arith, before_it.1))
  ]

  -- what holds of a node's child, given by its number and by where it starts
  told : (below other rest : ℕ) (found : Option ℕ) → below ≡ child_at parts before digit → other ≡ child_at parts after digit → rest ≡ from - start
      → FirstWithin (word_of parts (height - 1) below) (word_of parts (height - 1) other) rest (room (height - 1)) found
      → FirstWithin (word_of parts (height - 1) (child_at parts before digit)) (word_of parts (height - 1) (child_at parts after digit)) (from - start) (room (height - 1)) found
  told below other rest found below_is other_is rest_is first =
      subst (λ x. FirstWithin (word_of parts (height - 1) x) (word_of parts (height - 1) (child_at parts after digit)) (from - start) (room (height - 1)) found) below_is
      (subst (λ x. FirstWithin (word_of parts (height - 1) below) (word_of parts (height - 1) x) (from - start) (room (height - 1)) found) other_is
      (subst (λ x. FirstWithin (word_of parts (height - 1) below) (word_of parts (height - 1) other) x (room (height - 1)) found) rest_is first))

  -- children that are the same
  pub child_passed : (below other rest : ℕ) → below ≡ child_at parts before digit → other ≡ child_at parts after digit → rest ≡ from - start
      → AreSameWithin (word_of parts height before) (word_of parts height after) from start
      → FirstWithin (word_of parts (height - 1) below) (word_of parts (height - 1) other) rest (room (height - 1)) None
      → AreSameWithin (word_of parts height before) (word_of parts height after) from (room (height - 1) * (digit + 1))
  child_passed below other rest below_is other_is rest_is so_far first n past within =
      same_on (room (height - 1)) so_far (told below other rest None below_is other_is rest_is first) (omega arith) n past (omega (arith, within))

  -- the first difference of a child is the node's
  pub found_below : (below other rest place : ℕ) → below ≡ child_at parts before digit → other ≡ child_at parts after digit → rest ≡ from - start → digit < 32
      → AreSameWithin (word_of parts height before) (word_of parts height after) from start
      → FirstWithin (word_of parts (height - 1) below) (word_of parts (height - 1) other) rest (room (height - 1)) (Some place)
      → FirstWithin (word_of parts height before) (word_of parts height after) from (room height) (Some (start + place))
  found_below below other rest place below_is other_is rest_is within so_far first =
      let found = told below other rest (Some place) below_is other_is rest_is first in
      let inside : place < room (height - 1) = found.0 in
      let at = found.1 in (
        inside_node height digit place tall within inside,
        (
          omega (arith, at.0),
          ap (λ w. is_same_type w (word_of parts height after (start + place))) (word_of_child parts height before digit place tall inside)
              ∙ ap (λ w. is_same_type (word_of parts (height - 1) (child_at parts before digit) place) w) (word_of_child parts height after digit place tall inside)
              ∙ at.1,
          same_on place so_far at.2 (omega (arith, inside)),
        ),
      )

-- ---- the lists

pub first_of_lists : (store : WordStore) (before after : Words) (from : ℕ) (found : Option ℕ)
    → FirstWithin (word_of store.parts.items store.height before.root) (word_of store.parts.items store.height after.root) from (room store.height) found
    → FirstDifference (word_at store before) (word_at store after) from found
first_of_lists store before after from None same = λ n past. elim (leb_tells (room store.height) n) [
  | inl behind ↦ word_behind store before n behind.1 ∙ sym (word_behind store after n behind.1)
  | inr inside ↦
      word_inside store before n (omega (arith, inside.1)) ∙ same n past (omega (arith, inside.1))
      ∙ sym (word_inside store after n (omega (arith, inside.1)))
]
first_of_lists store before after from (Some at) found =
    let first = found.1 in (
      first.0,
      ap (λ w. is_same_type w (word_at store after at)) (word_inside store before at found.0)
          ∙ ap (λ w. is_same_type (word_of store.parts.items store.height before.root at) w) (word_inside store after at found.0)
          ∙ first.1,
      λ n past within.
          word_inside store before n (omega (arith, within, found.0)) ∙ first.2 n past within
          ∙ sym (word_inside store after n (omega (arith, within, found.0))),
    )
