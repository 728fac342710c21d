-- Lists that are compared.
use Rattle.std.proofs.Common.{◌≡◌, ◌≢◌, inl, inr, ◌⊎◌, ℕ, zero, suc, ◌+◌, ◌-◌, ◌*◌, ◌/◌, ◌%◌, ◌<◌, ◌≤◌, ◌==◌, ◌&&◌, Bool, true, false, MatchBool, cond, List, get_or, refl, sym, ◌∙◌, ap, subst, arith}
use Rattle.std.proofs.lemmas.Bool.{cases_Bool, true≢false, and_parts}
use borrow.Author.Tests.{eqb-true}
use Rattle.std.specs.HashSet.{HashSet, contains}
use Rattle.type_rules.specs.declared.types.VerificationType.{VerificationType}
use Rattle.type_rules.specs.declared.types.VerificationType.TheVariants.{Top}
use Rattle.type_rules.specs.Assignable.{Hierarchy, is_assignable, is_same_type}
use Rattle.type_lists.specs.declared.parts.Part.{Part}
use Rattle.type_lists.specs.declared.known.KnownPairs.{KnownPairs}
use Rattle.type_lists.specs.Parts.{child_at, room, word_of}
use Rattle.type_lists.proofs.SetLaws.{room_step, rest_small, digit_below, place_of, place_inside}
use Rattle.type_lists.specs.Compared.{knows, AreAssignable, AreApart, KnowsRightly}
use Rattle.type_lists.proofs.PartLaws.{word_step}

pub at_true : (P Q : Type 0) (b : Bool) → b ≡ true → MatchBool b P Q → P
at_true P Q true e m = m
at_true P Q false e m = absurd (true≢false (sym e))

pub at_false : (P Q : Type 0) (b : Bool) → b ≡ false → MatchBool b P Q → Q
at_false P Q true e m = absurd (true≢false e)
at_false P Q false e m = m

-- ---- pairs that are known

abbrev pub pair_eq : ℕ × ℕ × ℕ → ℕ × ℕ × ℕ → Bool
pair_eq x y = x.0 == y.0 && x.1 == y.1 && x.2 == y.2

pub inserted : {S : Type 0} (old new : HashSet (ℕ × ℕ × ℕ) S) (height low high : ℕ)
    → ((q : ℕ × ℕ × ℕ) → contains pair_eq new q ≡ cond (pair_eq (height, low, high) q) true (contains pair_eq old q))
    → (h l g : ℕ) → contains pair_eq new (h, l, g) ≡ true → (contains pair_eq old (h, l, g) ≡ true) ⊎ ((h ≡ height) × (l ≡ low) × (g ≡ high))
inserted old new height low high is h l g e = elim (cases_Bool (pair_eq (height, low, high) (h, l, g))) [
  | inl hit ↦
      let first = and_parts ((height == h) && (low == l)) (high == g) hit in
      let second = and_parts (height == h) (low == l) first.0 in
      inr (sym (eqb-true height h second.0), sym (eqb-true low l second.1), sym (eqb-true high g first.1))
  | inr miss ↦ inl (ap (λ b. cond b true (contains pair_eq old (h, l, g))) (sym miss) ∙ sym (is (h, l, g)) ∙ e)
]

pub added_rightly : (h : Hierarchy) (parts : List Part) (old new : KnownPairs) (bound height low high : ℕ)
    → ((k l g : ℕ) → knows new k l g ≡ true → (knows old k l g ≡ true) ⊎ ((k ≡ height) × (l ≡ low) × (g ≡ high)))
    → KnowsRightly h parts bound old → low ≤ bound → high ≤ bound → AreAssignable h parts height low high → KnowsRightly h parts bound new
added_rightly h parts old new bound height low high is right low_is high_is are k l g known = elim (is k l g known) [
  | inl before ↦ right k l g before
  | inr here ↦ (
    omega (arith, here.1, low_is),
    omega (arith, here.2, high_is),
    λ n inside.
        ap (λ x. is_assignable h (word_of parts x l n) (word_of parts x g n)) here.0
        ∙ ap (λ x. is_assignable h (word_of parts height x n) (word_of parts height g n)) here.1
        ∙ ap (λ x. is_assignable h (word_of parts height low n) (word_of parts height x n)) here.2
        ∙ are n (subst (λ x. n < room x) here.0 inside),
  )
]

-- ---- parts word by word

-- part 0 is Top everywhere
pub all_tops : (parts : List Part) (height n : ℕ) → word_of parts height 0 n ≡ Top
all_tops parts zero n = refl
all_tops parts (suc height) n = all_tops parts height (n % room height)

pub tops_take : (h : Hierarchy) (parts : List Part) (height low high : ℕ) → high ≡ 0 → AreAssignable h parts height low high
tops_take h parts height low high e n inside =
    ap (λ w. is_assignable h (word_of parts height low n) w) (ap (λ x. word_of parts height x n) e ∙ all_tops parts height n) ∙ any (word_of parts height low n)
  where
    any : (w : VerificationType) → is_assignable h w Top ≡ true
    any w = refl

-- what holds in each of eight words holds in the leaf
pub in_leaves : (h : Hierarchy) (lows highs : List VerificationType) (low high : ℕ → VerificationType) (count : ℕ)
    → ((n : ℕ) → get_or lows n Top ≡ low n) → ((n : ℕ) → get_or highs n Top ≡ high n) → 8 ≤ count
    → ((j : ℕ) → j < count → is_assignable h (get_or lows j Top) (get_or highs j Top) ≡ true) → (n : ℕ) → n < 8 → is_assignable h (low n) (high n) ≡ true
in_leaves h lows highs low high count low_is high_is all so_far n inside =
    subst (λ w. is_assignable h w (high n) ≡ true) (low_is n) (subst (λ w. is_assignable h (get_or lows n Top) w ≡ true) (high_is n) (so_far n (omega (arith, inside, all))))

pub in_children : (h : Hierarchy) (parts : List Part) (height low high count : ℕ) → height ≢ 0 → 32 ≤ count
    → ((j : ℕ) → j < count → AreAssignable h parts (height - 1) (child_at parts low j) (child_at parts high j)) → AreAssignable h parts height low high
in_children h parts height low high count tall all so_far n inside =
    let digit = n / room (height - 1) in
    let rest = n % room (height - 1) in
    ap (λ w. is_assignable h w (word_of parts height high n)) (sym (word_step parts height low n tall))
    ∙ ap (λ w. is_assignable h (word_of parts (height - 1) (child_at parts low digit) rest) w) (sym (word_step parts height high n tall))
    ∙ so_far digit (omega (arith, digit_below height n tall inside, all)) rest (rest_small (height - 1) n)

-- a word of a child, as one of the node
pub word_of_child : (parts : List Part) (height part digit n : ℕ) → height ≢ 0 → n < room (height - 1)
    → word_of parts height part (room (height - 1) * digit + n) ≡ word_of parts (height - 1) (child_at parts part digit) n
word_of_child parts height part digit n tall inside =
    let place = place_of (height - 1) digit n inside in
    sym (word_step parts height part (room (height - 1) * digit + n) tall)
    ∙ ap (λ d. word_of parts (height - 1) (child_at parts part d) ((room (height - 1) * digit + n) % room (height - 1))) place.0
    ∙ ap (λ m. word_of parts (height - 1) (child_at parts part digit) m) place.1

pub inside_node : (height digit n : ℕ) → height ≢ 0 → digit < 32 → n < room (height - 1) → room (height - 1) * digit + n < room height
inside_node height digit n tall within inside = omega (arith, place_inside (height - 1) digit n within inside, room_step height tall)

pub apart_above : (h : Hierarchy) (parts : List Part) (height low high digit : ℕ) → height ≢ 0 → digit < 32
    → AreApart h parts (height - 1) (child_at parts low digit) (child_at parts high digit) → AreApart h parts height low high
apart_above h parts height low high digit tall within apart =
    let n = apart.0 in
    let place = room (height - 1) * digit + n in (
      place,
      inside_node height digit n tall within apart.1,
      ap (λ w. is_assignable h w (word_of parts height high place)) (word_of_child parts height low digit n tall apart.1)
          ∙ ap (λ w. is_assignable h (word_of parts (height - 1) (child_at parts low digit) n) w) (word_of_child parts height high digit n tall apart.1)
          ∙ apart.2,
    )

-- ---- words that are sought

pub same_in_children : (word : VerificationType) (parts : List Part) (height part count : ℕ) → height ≢ 0 → 32 ≤ count
    → ((j : ℕ) → j < count → (n : ℕ) → n < room (height - 1) → is_same_type word (word_of parts (height - 1) (child_at parts part j) n) ≡ false)
    → (n : ℕ) → n < room height → is_same_type word (word_of parts height part n) ≡ false
same_in_children word parts height part count tall all so_far n inside =
    subst (λ w. is_same_type word w ≡ false) (word_step parts height part n tall)
    (so_far (n / room (height - 1)) (omega (arith, digit_below height n tall inside, all)) (n % room (height - 1)) (rest_small (height - 1) n))

pub same_above : (word : VerificationType) (parts : List Part) (height part digit : ℕ) → height ≢ 0 → digit < 32
    → (n : ℕ) × (n < room (height - 1)) × (is_same_type word (word_of parts (height - 1) (child_at parts part digit) n) ≡ true)
    → (n : ℕ) × (n < room height) × (is_same_type word (word_of parts height part n) ≡ true)
same_above word parts height part digit tall within found = (
  room (height - 1) * digit + found.0,
  inside_node height digit found.0 tall within found.1,
  subst (λ w. is_same_type word w ≡ true) (sym (word_of_child parts height part digit found.0 tall found.1)) found.2,
)

pub same_in_none : (word : VerificationType) (parts : List Part) (height part : ℕ) → part ≡ 0 → is_same_type word Top ≡ false
    → (n : ℕ) → n < room height → is_same_type word (word_of parts height part n) ≡ false
same_in_none word parts height part e none n inside =
    subst (λ w. is_same_type word w ≡ false) (sym (ap (λ x. word_of parts height x n) e ∙ all_tops parts height n)) none
