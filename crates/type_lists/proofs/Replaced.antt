-- Lists in which one word is replaced by another.
use Rattle.std.proofs.Common.{◌≡◌, ◌≢◌, inl, inr, ℕ, ◌+◌, ◌-◌, ◌/◌, ◌%◌, ◌<◌, ◌≤◌, Bool, false, cond, List, length, get_or, slice_set, refl, sym, ◌∙◌, ap, arith}
use Rattle.std.proofs.lemmas.Bool.Decides.{leb_tells, eqb_tells}
use Rattle.std.proofs.lemmas.List.{get_or_past, get_or-set_other, length-set}
use Rattle.std.proofs.lemmas.Grind.{get_or-set_at}
use Rattle.type_rules.specs.Assignable.{is_same_type}
use Rattle.type_rules.specs.declared.types.VerificationType.{VerificationType}
use Rattle.type_rules.specs.declared.types.VerificationType.TheVariants.{Top}
use Rattle.type_lists.specs.declared.parts.Part.{Part}
use Rattle.type_lists.specs.Parts.{node_children, child_at, room, word_of, replaced_type, IsClosed, Grows}
use Rattle.type_lists.specs.Marks.{AreMarked}
use Rattle.type_lists.proofs.PartLaws.{word_step, same_below}
use Rattle.type_lists.proofs.SetLaws.{rest_small, digit_below}
use Rattle.type_lists.proofs.ComparedLaws.{all_tops}

-- ---- the words of a leaf

-- the words of a leaf, of which those before a place are replaced
pub record ReplacingWords (before words : List VerificationType) (old new : VerificationType) (place : ℕ) : Type 0 where
  pub count : length words ≡ 8
  pub done : (j : ℕ) → j < place → get_or words j Top ≡ replaced_type old new (get_or before j Top)
  pub rest : (j : ℕ) → place ≤ j → get_or words j Top ≡ get_or before j Top

pub next_word : (before words : List VerificationType) (old new : VerificationType) (place : ℕ) (made : VerificationType) → made ≡ replaced_type old new (get_or words place Top) → place < 8
    → ReplacingWords before words old new place → ReplacingWords before (slice_set words place made) old new (place + 1)
next_word before words old new place made made_is inside r = record {
  count = length-set words place made ∙ r.count;
  done = λ j h. elim (eqb_tells j place) [
    | inl here ↦
        get_or-set_at words place j made Top here.1 (omega (arith, inside, r.count)) ∙ made_is ∙ ap (λ w. replaced_type old new w) (r.rest place (omega arith))
        ∙ ap (λ i. replaced_type old new (get_or before i Top)) (sym here.1)
    | inr there ↦ get_or-set_other words place j made Top there.1 ∙ r.done j (omega (arith, h, there.1))
  ];
  rest = λ j h. get_or-set_other words place j made Top (λ e. absurd (omega (arith, e, h))) ∙ r.rest j (omega (arith, h));
}

pub other_word : (before words : List VerificationType) (old new : VerificationType) (place : ℕ) → is_same_type (get_or words place Top) old ≡ false
    → ReplacingWords before words old new place → ReplacingWords before words old new (place + 1)
other_word before words old new place other r = record {
  count = r.count;
  done = λ j h. elim (eqb_tells j place) [
    | inl here ↦
        ap (λ i. get_or words i Top) here.1 ∙ sym (ap (λ b. cond b new (get_or words place Top)) other) ∙ ap (λ w. replaced_type old new w) (r.rest place (omega arith))
        ∙ ap (λ i. replaced_type old new (get_or before i Top)) (sym here.1)
    | inr there ↦ r.done j (omega (arith, h, there.1))
  ];
  rest = λ j h. r.rest j (omega (arith, h));
}

-- what isn't there isn't replaced
pub without : (old new : VerificationType) (w : VerificationType) → is_same_type w old ≡ false → w ≡ replaced_type old new w
without old new w e = sym (ap (λ b. cond b new w) e)

pub top_stays : (old new : VerificationType) → is_same_type Top old ≡ false → replaced_type old new Top ≡ Top
top_stays old new e = ap (λ b. cond b new Top) e

pub all_words : (before words : List VerificationType) (old new : VerificationType) (place : ℕ) → ReplacingWords before words old new place → 8 ≤ place → length before ≡ 8
    → is_same_type Top old ≡ false → (n : ℕ) → get_or words n Top ≡ replaced_type old new (get_or before n Top)
all_words before words old new place r all count top n = elim (leb_tells 8 n) [
  | inl past ↦
      get_or_past words n Top (omega (arith, past.1, r.count)) ∙ sym (top_stays old new top)
      ∙ ap (λ w. replaced_type old new w) (sym (get_or_past before n Top (omega (arith, past.1, count))))
  | inr inside ↦ r.done n (omega (arith, inside.1, all))
]

-- ---- the children of a node

-- the children of a part, of which those before a digit are replaced
pub record Replacing (p0 p : List Part) (marks : List ℕ) (height part : ℕ) (old new : VerificationType) (children : List ℕ) (digit : ℕ) (is_changed : Bool) : Type 0 where
  pub grows : Grows p0 p
  pub closed : IsClosed p (length p)
  pub marked : AreMarked p marks
  pub count : length children ≡ 32
  pub list : (j : ℕ) → get_or children j 0 ≤ length p
  pub done : (j : ℕ) → j < digit → (n : ℕ) → n < room (height - 1) → word_of p (height - 1) (get_or children j 0) n ≡ replaced_type old new (word_of p0 (height - 1) (child_at p0 part j) n)
  pub rest : (j : ℕ) → digit ≤ j → get_or children j 0 ≡ child_at p0 part j
  pub none : is_changed ≡ false → (j : ℕ) → get_or children j 0 ≡ child_at p0 part j

pub grows_on : (p q r : List Part) → Grows p q → Grows q r → Grows p r
grows_on p q r a b = (omega (arith, a.0, b.0), λ i h. b.1 i (omega (arith, h, a.0)) ∙ a.1 i h)

module _ (p0 p q : List Part) (marks : List ℕ) (height part : ℕ) (old new : VerificationType) (children : List ℕ) (digit : ℕ) (is_changed : Bool) (r : Replacing p0 p marks height part old new children digit is_changed) where
  pub next_child : (more : List ℕ) (below made : ℕ) (after : Bool) → below ≡ get_or children digit 0 → digit < 32 → IsClosed p0 (length p0) → part ≤ length p0 → Grows p q → IsClosed q (length q) → AreMarked q more → made ≤ length q
      → ((n : ℕ) → n < room (height - 1) → word_of q (height - 1) made n ≡ replaced_type old new (word_of p (height - 1) below n)) → (after ≡ false → (is_changed ≡ false) × (made ≡ below))
      → Replacing p0 q more height part old new (slice_set children digit made) (digit + 1) after
  next_child more below made after below_is inside closed0 is later closed marked made_is words after_is = record {
    grows = grows_on p0 p q r.grows later;
    closed = closed;
    marked = marked;
    count = length-set children digit made ∙ r.count;
    list = λ j. elim (eqb_tells j digit) [
      | inl here ↦ let e = at j here.1 in omega (arith, e, made_is)
      | inr there ↦ let e = other j there.1 in omega (arith, e, r.list j, later.0)
    ];
    done = λ j h n low. elim (eqb_tells j digit) [
      | inl here ↦
          ap (λ x. word_of q (height - 1) x n) (at j here.1) ∙ words n low
          ∙ ap (λ w. replaced_type old new w) (same_below p0 p (length p0) r.grows.1 closed0 (height - 1) below n (let e = was_below in omega (arith, e, closed0 part digit is)))
          ∙ ap (λ x. replaced_type old new (word_of p0 (height - 1) x n)) (was_below ∙ ap (child_at p0 part) (sym here.1))
      | inr there ↦
          ap (λ x. word_of q (height - 1) x n) (other j there.1)
          ∙ same_below p q (length p) later.1 r.closed (height - 1) (get_or children j 0) n (r.list j)
          ∙ r.done j (omega (arith, h, there.1)) n low
    ];
    rest = λ j h. other j (λ e. absurd (omega (arith, e, h))) ∙ r.rest j (omega (arith, h));
    none = λ e j. elim (eqb_tells j digit) [
      | inl here ↦ at j here.1 ∙ (after_is e).1 ∙ was_below ∙ ap (child_at p0 part) (sym here.1)
      | inr there ↦ other j there.1 ∙ r.none (after_is e).0 j
    ];
  }
    where
      at : (j : ℕ) → j ≡ digit → get_or (slice_set children digit made) j 0 ≡ made
      at j e = get_or-set_at children digit j made 0 e (omega (arith, inside, r.count))

      other : (j : ℕ) → j ≢ digit → get_or (slice_set children digit made) j 0 ≡ get_or children j 0
      other j ne = get_or-set_other children digit j made 0 ne

      was_below : below ≡ child_at p0 part digit
      was_below = below_is ∙ r.rest digit (omega arith)

  -- a child that stays
  pub skip_child : digit < 32 → IsClosed p0 (length p0) → part ≤ length p0
      → ((n : ℕ) → word_of p (height - 1) (get_or children digit 0) n ≡ replaced_type old new (word_of p (height - 1) (get_or children digit 0) n))
      → Replacing p0 p marks height part old new children (digit + 1) is_changed
  skip_child inside closed0 is same = record {
    grows = r.grows;
    closed = r.closed;
    marked = r.marked;
    count = r.count;
    list = r.list;
    done = λ j h n low. elim (eqb_tells j digit) [
      | inl here ↦
          let was : get_or children digit 0 ≡ child_at p0 part digit = r.rest digit (omega arith) in
          ap (λ i. word_of p (height - 1) (get_or children i 0) n) here.1 ∙ same n
          ∙ ap (λ w. replaced_type old new w) (same_below p0 p (length p0) r.grows.1 closed0 (height - 1) (get_or children digit 0) n (omega (arith, was, closed0 part digit is)))
          ∙ ap (λ x. replaced_type old new (word_of p0 (height - 1) x n)) (was ∙ ap (child_at p0 part) (sym here.1))
      | inr there ↦ r.done j (omega (arith, h, there.1)) n low
    ];
    rest = λ j h. r.rest j (omega (arith, h));
    none = r.none;
  }

  -- a node of these children
  pub node_of : (node : ℕ) → height ≢ 0 → 32 ≤ digit → ((j : ℕ) → child_at q node j ≡ get_or children j 0) → Grows p q
      → (n : ℕ) → n < room height → word_of q height node n ≡ replaced_type old new (word_of p0 height part n)
  node_of node tall all is later n low =
      let j = n / room (height - 1) in
      let rest = n % room (height - 1) in
      sym (word_step q height node n tall)
      ∙ ap (λ x. word_of q (height - 1) x rest) (is j)
      ∙ same_below p q (length p) later.1 r.closed (height - 1) (get_or children j 0) rest (r.list j)
      ∙ r.done j (omega (arith, digit_below height n tall low, all)) rest (rest_small (height - 1) n)
      ∙ ap (λ w. replaced_type old new w) (word_step p0 height part n tall)

-- where none is changed the part is as it was
pub part_of : (p0 p : List Part) (marks : List ℕ) (height part : ℕ) (old new : VerificationType) (children : List ℕ) (digit : ℕ) (is_changed : Bool) (r : Replacing p0 p marks height part old new children digit is_changed)
    → height ≢ 0 → 32 ≤ digit → is_changed ≡ false → part ≤ length p0 → (n : ℕ) → n < room height → word_of p height part n ≡ replaced_type old new (word_of p0 height part n)
part_of p0 p marks height part old new children digit is_changed r tall all same is =
    node_of p0 p p marks height part old new children digit is_changed r part tall all
    (λ j. ap (λ x. get_or (node_children x) j 0) (r.grows.1 part is) ∙ sym (r.none same j))
    (omega arith, λ i h. refl)

pub none_replaced : (p : List Part) (height part : ℕ) (old new : VerificationType) → part ≡ 0 → is_same_type Top old ≡ false
    → (n : ℕ) → n < room height → word_of p height 0 n ≡ replaced_type old new (word_of p height part n)
none_replaced p height part old new e top n low =
    all_tops p height n ∙ sym (top_stays old new top) ∙ ap (λ w. replaced_type old new w) (sym (ap (λ x. word_of p height x n) e ∙ all_tops p height n))
