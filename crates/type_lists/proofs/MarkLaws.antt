-- Marks of parts.
use Rattle.std.proofs.Common.{◌≡◌, inl, inr, ℕ, zero, suc, ◌+◌, ◌-◌, ◌/◌, ◌%◌, ◌<◌, ◌≤◌, true, false, List, [], ◌∷◌, ◌++◌, take, length, get_or, slice_set, refl, sym, ◌∙◌, ap, subst, arith}
use Rattle.std.specs.Int.Bits.{bit_and, bit_or}
use Rattle.std.proofs.lemmas.Nat.{and_le_r, and_assoc, and_or_self, or_comm}
use Rattle.std.proofs.lemmas.Bool.{cases_Bool}
use Rattle.std.proofs.lemmas.Bool.Decides.{leb_tells, eqb_tells}
use Rattle.std.proofs.lemmas.List.{get_or_past, get_or-set_other, get_or_push, get_or_append_left, get_or-take, length-take, length-take-le, length_push, length-set}
use Rattle.std.proofs.lemmas.Grind.{get_or-set_at}
use Rattle.type_rules.specs.Assignable.{is_same_type}
use Rattle.type_rules.specs.declared.types.VerificationType.{VerificationType}
use Rattle.type_rules.specs.declared.types.VerificationType.TheVariants.{Top}
use Rattle.type_lists.specs.declared.parts.Part.{Part}
use Rattle.type_lists.specs.declared.parts.Part.TheVariants.{Leaf, Node}
use Rattle.type_lists.specs.Parts.{node_children, part_at, child_at, leaf_word, room, word_of, replaced_type, IsClosed}
use Rattle.type_lists.specs.Marks.{word_mark, HasBits, mark_at, Covers, AreMarked}
use Rattle.type_lists.proofs.PartLaws.{pushed_grows, pushed_at}
use Rattle.type_lists.proofs.TreeLaws.{changed_at, changed_others}
use Rattle.type_lists.proofs.Replaced.{without}

-- ---- bits

pub bits_on : (a b c : ℕ) → HasBits a b → HasBits b c → HasBits a c
bits_on a b c first second = ap (bit_and a) (sym second) ∙ sym (and_assoc c a b) ∙ ap (λ x. bit_and x c) first ∙ second

bits_before : (mark more : ℕ) → HasBits (bit_or mark more) mark
bits_before mark more = ap (λ x. bit_and x mark) (or_comm mark more) ∙ and_or_self mark more

no_bits : (mark : ℕ) → HasBits mark 0
no_bits mark = omega (arith, and_le_r mark 0)

-- a union that a loop makes
pub more_bits : (f : ℕ → ℕ) (mark place : ℕ) → ((j : ℕ) → j < place → HasBits mark (f j)) → (j : ℕ) → j < place + 1 → HasBits (bit_or mark (f place)) (f j)
more_bits f mark place before j h = elim (eqb_tells j place) [
  | inl here ↦ subst (λ i. HasBits (bit_or mark (f place)) (f i)) (sym here.1) (and_or_self (f place) mark)
  | inr there ↦ bits_on (bit_or mark (f place)) mark (f j) (bits_before mark (f place)) (before j (omega (arith, h, there.1)))
]

pub all_bits : (f : ℕ → ℕ) (mark count place : ℕ) → count ≤ place → ((j : ℕ) → count ≤ j → f j ≡ 0) → ((j : ℕ) → j < place → HasBits mark (f j)) → (n : ℕ) → HasBits mark (f n)
all_bits f mark count place all rest before n = elim (leb_tells count n) [
  | inl past ↦ subst (HasBits mark) (sym (rest n past.1)) (no_bits mark)
  | inr inside ↦ before n (omega (arith, inside.1, all))
]

pub no_word : (words : List VerificationType) (n : ℕ) → length words ≤ n → word_mark (get_or words n Top) ≡ 0
no_word words n past = ap word_mark (get_or_past words n Top past)

pub no_child : (marks children : List ℕ) (n : ℕ) → length children ≤ n → mark_at marks (get_or children n 0) ≡ 0
no_child marks children n past = ap (mark_at marks) (get_or_past children n 0 past)

-- the bits of a list's elements, one of which is set
set_bits : {X : Type 0} (f : X → ℕ) (mark : ℕ) (none : X) (xs : List X) (place : ℕ) (x : X) → HasBits mark (f none) → HasBits mark (f x)
    → ((n : ℕ) → HasBits mark (f (get_or xs n none))) → (n : ℕ) → HasBits mark (f (get_or (slice_set xs place x) n none))
set_bits f mark none xs place x empty has before n = elim (eqb_tells n place) [
  | inl here ↦ elim (leb_tells (length xs) n) [
    | inl past ↦
        subst (λ y. HasBits mark (f y)) (sym (get_or_past (slice_set xs place x) n none (let same = length-set xs place x in omega (arith, past.1, same)))) empty
    | inr inside ↦ subst (λ y. HasBits mark (f y)) (sym (get_or-set_at xs place n x none here.1 (omega (arith, here.1, inside.1)))) has
  ]
  | inr away ↦ subst (λ y. HasBits mark (f y)) (sym (get_or-set_other xs place n x none away.1)) (before n)
]

-- ---- marks that cover parts

covers_none : (marks : List ℕ) (mark : ℕ) (x : Part) → x ≡ Leaf [] → Covers marks mark x
covers_none marks mark x e = subst (Covers marks mark) (sym e) (λ n. no_bits mark, λ j. no_bits mark)

covers_on : (marks more : List ℕ) (bound mark : ℕ) (x : Part) → ((i : ℕ) → i ≤ bound → mark_at more i ≡ mark_at marks i) → ((j : ℕ) → get_or (node_children x) j 0 ≤ bound)
    → Covers marks mark x → Covers more mark x
covers_on marks more bound mark x same children covers = (covers.0, λ j. subst (HasBits mark) (sym (same (get_or (node_children x) j 0) (children j))) (covers.1 j))

-- past the parts there is nothing
no_part : (parts : List Part) (i : ℕ) → length parts < i → part_at parts i ≡ Leaf []
no_part parts zero past = absurd (omega (arith, past))
no_part parts (suc i) past = get_or_past parts i (Leaf []) (omega (arith, past))

-- ---- marks of parts, one part more

-- marks that are cut to the parts, or go on past them
marks_cut : (marks : List ℕ) (count i : ℕ) → i ≤ count → mark_at (take count marks) i ≡ mark_at marks i
marks_cut marks count zero h = refl
marks_cut marks count (suc i) h = get_or-take count marks i 0 (omega (arith, h))

marks_longer : (marks : List ℕ) (mark i : ℕ) → i ≤ length marks → mark_at (marks ++ mark ∷ []) i ≡ mark_at marks i
marks_longer marks mark zero h = refl
marks_longer marks mark (suc i) h = get_or_append_left marks (mark ∷ []) 0 i (omega (arith, h))

pub marked_on : (parts : List Part) (marks more : List ℕ) → IsClosed parts (length parts) → length parts ≤ length more → ((i : ℕ) → i ≤ length parts → mark_at more i ≡ mark_at marks i)
    → AreMarked parts marks → AreMarked parts more
marked_on parts marks more closed long same marked = record {
  count = long;
  covered = λ i. elim (leb_tells i (length parts)) [
    | inl inside ↦
        subst (λ m. Covers more m (part_at parts i)) (sym (same i inside.1))
        (covers_on marks more (length parts) (mark_at marks i) (part_at parts i) same (λ j. closed i j inside.1) (marked.covered i))
    | inr past ↦ covers_none more (mark_at more i) (part_at parts i) (no_part parts i (omega (arith, past.1)))
  ];
}

-- parts that are cut
pub fewer_marked : (parts : List Part) (marks : List ℕ) (count : ℕ) → AreMarked parts marks → AreMarked (take count parts) marks
fewer_marked parts marks count marked = record {
  count = omega (arith, length-take count parts, marked.count);
  covered = λ i. elim (leb_tells i count) [
    | inl inside ↦ subst (Covers marks (mark_at marks i)) (sym (part_stays i inside.1)) (marked.covered i)
    | inr past ↦ covers_none marks (mark_at marks i) (part_at (take count parts) i) (no_part (take count parts) i (omega (arith, length-take count parts, past.1)))
  ];
}
  where
    part_stays : (i : ℕ) → i ≤ count → part_at (take count parts) i ≡ part_at parts i
    part_stays zero h = refl
    part_stays (suc i) h = get_or-take count parts i (Leaf []) (omega (arith, h))

pub cut_length : (parts : List Part) (marks cut : List ℕ) → cut ≡ take (length parts) marks → AreMarked parts marks → length cut ≡ length parts
cut_length parts marks cut e marked = ap length e ∙ length-take-le (length parts) marks marked.count

pub cut_marked : (parts : List Part) (marks cut : List ℕ) → cut ≡ take (length parts) marks → IsClosed parts (length parts) → AreMarked parts marks → AreMarked parts cut
cut_marked parts marks cut e closed marked =
    marked_on parts marks cut closed (let count = cut_length parts marks cut e marked in omega (arith, count)) (λ i h. ap (λ m. mark_at m i) e ∙ marks_cut marks (length parts) i h) marked

-- what the cut marks cover
pub cut_covers : (parts : List Part) (marks cut : List ℕ) (mark : ℕ) (x : Part) → cut ≡ take (length parts) marks → ((j : ℕ) → get_or (node_children x) j 0 ≤ length parts)
    → Covers marks mark x → Covers cut mark x
cut_covers parts marks cut mark x e children covers =
    covers_on marks cut (length parts) mark x (λ i h. ap (λ m. mark_at m i) e ∙ marks_cut marks (length parts) i h) children covers

module _ (parts : List Part) (marks more : List ℕ) (mark : ℕ) (longer : more ≡ marks ++ mark ∷ []) (closed : IsClosed parts (length parts)) (marked : AreMarked parts marks) where
  more_count : length more ≡ length marks + 1
  more_count = ap length longer ∙ length_push marks mark

  same_more : (i : ℕ) → i ≤ length parts → mark_at more i ≡ mark_at marks i
  same_more i h = ap (λ m. mark_at m i) longer ∙ marks_longer marks mark i (omega (arith, h, marked.count))

  pub longer_marked : AreMarked parts more
  longer_marked = marked_on parts marks more closed (omega (arith, more_count, marked.count)) same_more marked

  pub pushed_marked : (new : List Part) (x : Part) → new ≡ parts ++ x ∷ [] → length marks ≡ length parts → ((j : ℕ) → get_or (node_children x) j 0 ≤ length parts)
      → Covers marks mark x → AreMarked new more
  pushed_marked new x e count children covers =
      let one : length new ≡ length parts + 1 = ap length e ∙ length_push parts x in
      let last : mark_at more (length new) ≡ mark =
      ap (mark_at more) (let s : length new ≡ suc (length parts) = omega (arith, one) in s) ∙ ap (λ m. get_or m (length parts) 0) longer ∙ get_or_push marks mark 0 (length parts) count in
      record {
        count = omega (arith, one, more_count, count);
        covered = λ i. elim (leb_tells i (length parts)) [
          | inl old ↦ subst (Covers more (mark_at more i)) (sym ((pushed_grows parts new x e).1 i old.1)) (longer_marked.covered i)
          | inr over ↦ elim (eqb_tells i (length new)) [
            | inl here ↦
                subst (λ k. Covers more (mark_at more k) (part_at new k)) (sym here.1)
                (subst (Covers more (mark_at more (length new))) (sym (pushed_at parts new x e))
                (subst (λ m. Covers more m x) (sym last) (covers_on marks more (length parts) mark x same_more children covers)))
            | inr past ↦ covers_none more (mark_at more i) (part_at new i) (no_part new i (omega (arith, over.1, past.1, one)))
          ]
        ];
      }

-- a part that is changed in its place, and is covered by the mark there
pub changed_marked : (parts : List Part) (marks : List ℕ) (kept part : ℕ) (x : Part) → kept < part → part ≤ length parts → AreMarked parts marks → Covers marks (mark_at marks part) x
    → AreMarked (slice_set parts (part - 1) x) marks
changed_marked parts marks kept part x new h marked covers =
    let same = length-set parts (part - 1) x in
    record {
      count = omega (arith, same, marked.count);
      covered = λ i. elim (eqb_tells i part) [
        | inl here ↦
            subst (λ k. Covers marks (mark_at marks k) (part_at (slice_set parts (part - 1) x) k)) (sym here.1)
            (subst (Covers marks (mark_at marks part)) (sym (changed_at parts part x (omega (arith, new)) h)) covers)
        | inr away ↦ elim (leb_tells i (length parts)) [
          | inl inside ↦ subst (Covers marks (mark_at marks i)) (sym ((changed_others parts kept part x new).1 i inside.1 (λ _. away.1))) (marked.covered i)
          | inr past ↦ covers_none marks (mark_at marks i) (part_at (slice_set parts (part - 1) x) i) (no_part (slice_set parts (part - 1) x) i (omega (arith, past.1, same)))
        ]
      ];
    }

-- what a mark covers with one word more, or one child more
pub leaf_covered : (parts : List Part) (marks : List ℕ) (part place : ℕ) (words : List VerificationType) (word : VerificationType) → AreMarked parts marks
    → ((n : ℕ) → get_or words n Top ≡ leaf_word parts part n) → HasBits (mark_at marks part) (word_mark word) → Covers marks (mark_at marks part) (Leaf (slice_set words place word))
leaf_covered parts marks part place words word marked is has = (
  λ n. set_bits word_mark (mark_at marks part) Top words place word (no_bits (mark_at marks part)) has
      (λ m. subst (λ w. HasBits (mark_at marks part) (word_mark w)) (sym (is m)) ((marked.covered part).0 m)) n,
  λ j. no_bits (mark_at marks part),
)

pub node_covered : (parts : List Part) (marks : List ℕ) (part digit : ℕ) (children : List ℕ) (made : ℕ) → AreMarked parts marks
    → ((j : ℕ) → get_or children j 0 ≡ child_at parts part j) → HasBits (mark_at marks part) (mark_at marks made) → Covers marks (mark_at marks part) (Node (slice_set children digit made))
node_covered parts marks part digit children made marked is has = (
  λ n. no_bits (mark_at marks part),
  λ j. set_bits (mark_at marks) (mark_at marks part) 0 children digit made (no_bits (mark_at marks part)) has
      (λ m. subst (λ c. HasBits (mark_at marks part) (mark_at marks c)) (sym (is m)) ((marked.covered part).1 m)) j,
)

-- ---- words of marked parts

pub word_marked : (parts : List Part) (marks : List ℕ) → AreMarked parts marks → (height part n : ℕ) → HasBits (mark_at marks part) (word_mark (word_of parts height part n))
word_marked parts marks marked zero part n = (marked.covered part).0 n
word_marked parts marks marked (suc height) part n =
    bits_on (mark_at marks part) (mark_at marks (child_at parts part (n / room height))) (word_mark (word_of parts (suc height) part n))
    ((marked.covered part).1 (n / room height)) (word_marked parts marks marked height (child_at parts part (n / room height)) (n % room height))

same_mark : (a b : VerificationType) → is_same_type a b ≡ true → word_mark a ≡ word_mark b
same_mark a b e = grind arith

-- a word whose bit a part hasn't got isn't in the part
pub not_in : (parts : List Part) (marks : List ℕ) (height part : ℕ) (word : VerificationType) → AreMarked parts marks → ¬ HasBits (mark_at marks part) (word_mark word)
    → (n : ℕ) → is_same_type (word_of parts height part n) word ≡ false
not_in parts marks height part word marked lacks n = elim (cases_Bool (is_same_type (word_of parts height part n) word)) [
  | inl is ↦ absurd (lacks (subst (HasBits (mark_at marks part)) (same_mark (word_of parts height part n) word is) (word_marked parts marks marked height part n)))
  | inr isnt ↦ isnt
]

pub not_sought : (parts : List Part) (marks : List ℕ) (height part : ℕ) (word : VerificationType) → AreMarked parts marks → ¬ HasBits (mark_at marks part) (word_mark word)
    → (n : ℕ) → is_same_type word (word_of parts height part n) ≡ false
not_sought parts marks height part word marked lacks n = elim (cases_Bool (is_same_type word (word_of parts height part n))) [
  | inl is ↦ absurd (lacks (subst (HasBits (mark_at marks part)) (sym (same_mark word (word_of parts height part n) is)) (word_marked parts marks marked height part n)))
  | inr isnt ↦ isnt
]

pub not_replaced : (parts : List Part) (marks : List ℕ) (height part : ℕ) (old new : VerificationType) → AreMarked parts marks → ¬ HasBits (mark_at marks part) (word_mark old)
    → (n : ℕ) → word_of parts height part n ≡ replaced_type old new (word_of parts height part n)
not_replaced parts marks height part old new marked lacks n = without old new (word_of parts height part n) (not_in parts marks height part old marked lacks n)
