-- Lists in a store.
use Rattle.std.proofs.Common.{◌≡◌, ℕ, zero, suc, ◌<◌, ◌≤◌, ◌==◌, nat_le, Bool, true, false, MatchBool, cond, inl, inr, List, [], length, take, refl, sym, ◌∙◌, ap, subst, arith}
use Rattle.std.proofs.Math.Path.{fun_ext}
use Rattle.type_rules.specs.declared.types.VerificationType.{VerificationType}
use Rattle.type_rules.specs.declared.types.VerificationType.TheVariants.{Top}
use Rattle.type_rules.specs.Assignable.{Hierarchy, is_assignable, is_same_type}
use Rattle.type_lists.specs.declared.parts.Part.{Part}
use Rattle.type_lists.specs.declared.known.KnownPairs.{KnownPairs}
use Rattle.type_lists.specs.declared.store.WordStore.{WordStore}
use Rattle.type_lists.specs.declared.store.Words.{Words}
use Rattle.type_lists.specs.Parts.{part_at, room, word_of, with_word, replaced_type, IsClosed, Grows}
use Rattle.type_lists.specs.Compared.{AreAssignable, AreApart, KnowsRightly, knows}
use Rattle.type_lists.specs.Store.{word_at, list_number, IsList, IsMarked, IsKept, IsWhole, IsFixed, Remembers, Follows}
use Rattle.type_lists.specs.Trees.{IsTree, Touches}
use Rattle.std.proofs.lemmas.Bool.{true≢false}
use Rattle.std.proofs.lemmas.Bool.Decides.{leb_tells}
use Rattle.std.proofs.lemmas.List.{get_or-take}
use Rattle.type_lists.specs.declared.parts.Part.TheVariants.{Leaf}
use Rattle.type_lists.proofs.PartLaws.{same_below}
use Rattle.type_lists.proofs.SetLaws.{with_other}
use Rattle.type_lists.proofs.ComparedLaws.{all_tops}
use Rattle.type_lists.proofs.Replaced.{top_stays}
use Rattle.type_lists.proofs.TreeLaws.{kept_tree, in_is_new, same_child}

-- words that end before a place
abbrev pub guarded : ℕ → (ℕ → VerificationType) → ℕ → VerificationType
guarded end f n = cond (nat_le end n) Top (f n)

-- parts that are the same up to a bound
abbrev pub AreSame : List Part → List Part → ℕ → Type 0
AreSame old new bound = (i : ℕ) → i ≤ bound → part_at new i ≡ part_at old i

pub same_closed : (p q : List Part) (bound : ℕ) → AreSame p q bound → IsClosed p bound → IsClosed q bound
same_closed p q bound same closed i j h = subst (λ c. c ≤ bound) (sym (same_child p q i j (same i h))) (closed i j h)

pub knows_on : (h : Hierarchy) (p q : List Part) (bound more : ℕ) (known : KnownPairs) → IsClosed p bound → AreSame p q bound → bound ≤ more
    → KnowsRightly h p bound known → KnowsRightly h q more known
knows_on h p q bound more known closed same less right k l g is =
    let before = right k l g is in (
      omega (arith, before.0, less),
      omega (arith, before.1, less),
      λ n inside.
          ap (λ w. is_assignable h w (word_of q k g n)) (same_below p q bound same closed k l n before.0)
          ∙ ap (λ w. is_assignable h (word_of p k l n) w) (same_below p q bound same closed k g n before.1)
          ∙ before.2 n inside,
    )

pub remembers_on : (h : Hierarchy) (old new : WordStore) → new.known ≡ old.known → old.fixed ≤ new.fixed
    → AreSame old.parts.items new.parts.items old.fixed → Remembers h old → Remembers h new
unfolding Remembers
remembers_on h old new known more same right =
    subst (λ x. KnowsRightly h new.parts.items new.fixed x) (sym known) (knows_on h old.parts.items new.parts.items old.fixed new.fixed old.known old.closed_fixed same more right)

pub remembers : (h : Hierarchy) (store : WordStore) → KnowsRightly h store.parts.items store.fixed store.known → Remembers h store
unfolding Remembers
remembers h store right = right

pub remembers_none : (h : Hierarchy) (store : WordStore) → ((height low high : ℕ) → knows store.known height low high ≡ false) → Remembers h store
remembers_none h store none = remembers h store (λ k l g is. absurd (true≢false (sym is ∙ none k l g)))

pub remembered : (h : Hierarchy) (store : WordStore) → Remembers h store → KnowsRightly h store.parts.items store.fixed store.known
unfolding Remembers
remembered h store right = right

pub is_list : (store : WordStore) (words : Words) → words.root ≤ length store.parts.items → IsTree store.parts.items store.fixed store.height words.root → IsList store words
unfolding IsList
is_list store words h tree = (h, tree)

pub list_is : (store : WordStore) (words : Words) → IsList store words → words.root ≤ length store.parts.items
unfolding IsList
list_is store words h = h.0

pub list_tree : (store : WordStore) (words : Words) → IsList store words → IsTree store.parts.items store.fixed store.height words.root
unfolding IsList
list_tree store words h = h.1

pub is_fixed : (store : WordStore) (words : Words) → words.root ≤ store.fixed → IsFixed store words
unfolding IsList IsWhole
is_fixed store words h = ((omega (arith, h, store.within), kept_tree store.parts.items store.fixed store.height words.root h), h)

pub fixed_is : (store : WordStore) (words : Words) → IsFixed store words → words.root ≤ store.fixed
unfolding IsWhole
fixed_is store words h = h.1

pub is_kept : (store : WordStore) (words : Words) → words.root ≤ store.kept → IsKept store words
unfolding IsMarked
is_kept store words h = ((is_fixed store words (omega (arith, h, store.kept_fixed))).0, h)

pub marked_is : (store : WordStore) (words : Words) → IsMarked store words → words.root ≤ store.kept
unfolding IsMarked
marked_is store words h = h

pub kept_is : (store : WordStore) (words : Words) → IsKept store words → words.root ≤ store.kept
kept_is store words h = marked_is store words h.1

pub same_words : (old new : WordStore) (bound : ℕ) (words : Words) → new.height ≡ old.height → IsClosed old.parts.items bound → AreSame old.parts.items new.parts.items bound → words.root ≤ bound
    → word_at new words ≡ word_at old words
unfolding word_at
same_words old new bound words height closed same h =
    ap (λ k. guarded (room k) (word_of new.parts.items k words.root)) height
    ∙ fun_ext (λ n. ap (λ w. cond (nat_le (room old.height) n) Top w) (same_below old.parts.items new.parts.items bound same closed old.height words.root n h))

pub follows : (old new : WordStore) → new.most ≡ old.most → new.height ≡ old.height → new.given_back ≡ old.given_back → old.kept ≤ new.kept → old.fixed ≤ new.fixed
    → AreSame old.parts.items new.parts.items old.fixed → Follows old new
follows old new most height given more further same = record {
  most = most;
  kept = λ words h. is_kept new words (omega (arith, kept_is old words h, more));
  words = λ words h. same_words old new old.fixed words height old.closed_fixed same (omega (arith, kept_is old words h, old.kept_fixed));
  later = omega (arith, given);
  fixed = λ _ words h.
      let below = fixed_is old words h in
      (is_fixed new words (omega (arith, below, further)), same_words old new old.fixed words height old.closed_fixed same below);
}

-- .. where the lists that aren't kept are given back
pub follows_given : (old new : WordStore) → new.most ≡ old.most → new.height ≡ old.height → new.kept ≡ old.kept → new.given_back ≡ suc old.given_back → AreSame old.parts.items new.parts.items old.kept → Follows old new
follows_given old new most height kept given same = record {
  most = most;
  kept = λ words h. is_kept new words (omega (arith, kept_is old words h, kept));
  words = λ words h. same_words old new old.kept words height old.closed_kept same (kept_is old words h);
  later = omega (arith, given);
  fixed = λ still. absurd (omega (arith, given, still));
}

-- the words of a list, by the parts
pub words_are : (store : WordStore) (words : Words) → word_at store words ≡ guarded (room store.height) (word_of store.parts.items store.height words.root)
unfolding word_at
words_are store words = refl

-- words inside, and past the end
pub word_inside : (store : WordStore) (words : Words) (n : ℕ) → n < room store.height → word_at store words n ≡ word_of store.parts.items store.height words.root n
unfolding word_at
word_inside store words n low = elim (leb_tells (room store.height) n) [
  | inl past ↦ absurd (omega (arith, past.1, low))
  | inr inside ↦ ap (λ b. cond b Top (word_of store.parts.items store.height words.root n)) inside.0
]

pub word_behind : (store : WordStore) (words : Words) (n : ℕ) → room store.height ≤ n → word_at store words n ≡ Top
unfolding word_at
word_behind store words n h = elim (leb_tells (room store.height) n) [
  | inl past ↦ ap (λ b. cond b Top (word_of store.parts.items store.height words.root n)) past.0
  | inr inside ↦ absurd (omega (arith, inside.1, h))
]

-- ---- a change of the parts

-- fixed parts stay where no others change than those of a tree
pub touched_same : (old : WordStore) (new : List Part) (height part : ℕ) → Touches old.parts.items new old.fixed height part → AreSame old.parts.items new old.fixed
touched_same old new height part touches i h =
    touches.1 i (omega (arith, h, old.within)) (λ a. absurd (omega (arith, h, in_is_new old.parts.items old.fixed height part i a)))

-- .. and so do the kept ones
pub kept_same : (old : WordStore) (new : List Part) → AreSame old.parts.items new old.fixed → AreSame old.parts.items new old.kept
kept_same old new same i h = same i (omega (arith, h, old.kept_fixed))

pub grown_same : (old : WordStore) (new : List Part) → Grows old.parts.items new → AreSame old.parts.items new old.fixed
grown_same old new grows i h = grows.1 i (omega (arith, h, old.within))

-- parts that are cut
cut_same : (parts : List Part) (count : ℕ) → AreSame parts (take count parts) count
cut_same parts count zero h = refl
cut_same parts count (suc i) h = get_or-take count parts i (Leaf []) (omega (arith, h))

pub cut_stays : (parts cut : List Part) (count : ℕ) → cut ≡ take count parts → AreSame parts cut count
cut_stays parts cut count e = subst (λ ps. AreSame parts ps count) (sym e) (cut_same parts count)

-- the words of a list that was made of another one
pub set_words : (old new : WordStore) (words made : Words) (at : ℕ) (word : VerificationType) → new.height ≡ old.height → at < room old.height
    → ((n : ℕ) → word_of new.parts.items old.height made.root n ≡ with_word (word_of old.parts.items old.height words.root) at word n) → word_at new made ≡ with_word (word_at old words) at word
set_words old new words made at word height low is = fun_ext (λ n. elim (leb_tells (room old.height) n) [
  | inl past ↦
      word_behind new made n (let e = ap room height in omega (arith, e, past.1))
      ∙ sym (with_other (word_at old words) at word n (λ e. absurd (omega (arith, e, past.1, low))) ∙ word_behind old words n past.1)
  | inr inside ↦
      word_inside new made n (let e = ap room height in omega (arith, e, inside.1)) ∙ ap (λ k. word_of new.parts.items k made.root n) height ∙ is n
      ∙ ap (λ w. cond (n == at) word w) (sym (word_inside old words n (omega (arith, inside.1))))
])

pub replaced_words : (old new : WordStore) (words made : Words) (before after : VerificationType) → new.height ≡ old.height → is_same_type Top before ≡ false
    → ((n : ℕ) → n < room old.height → word_of new.parts.items old.height made.root n ≡ replaced_type before after (word_of old.parts.items old.height words.root n))
    → word_at new made ≡ (λ n. replaced_type before after (word_at old words n))
replaced_words old new words made before after height top is = fun_ext (λ n. elim (leb_tells (room old.height) n) [
  | inl past ↦
      word_behind new made n (let e = ap room height in omega (arith, e, past.1))
      ∙ sym (top_stays before after top) ∙ ap (λ w. replaced_type before after w) (sym (word_behind old words n past.1))
  | inr inside ↦
      word_inside new made n (let e = ap room height in omega (arith, e, inside.1)) ∙ ap (λ k. word_of new.parts.items k made.root n) height ∙ is n (omega (arith, inside.1))
      ∙ ap (λ w. replaced_type before after w) (sym (word_inside old words n (omega (arith, inside.1))))
])

-- what was found of words of parts, as of the lists
pub all_assignable : (h : Hierarchy) (store : WordStore) (low high : Words) (b : Bool)
    → MatchBool b (AreAssignable h store.parts.items store.height low.root high.root) (AreApart h store.parts.items store.height low.root high.root)
    → MatchBool b ((n : ℕ) → is_assignable h (word_at store low n) (word_at store high n) ≡ true) ((n : ℕ) × (is_assignable h (word_at store low n) (word_at store high n) ≡ false))
all_assignable h store low high true told = λ n. elim (leb_tells (room store.height) n) [
  | inl past ↦ ap (λ w. is_assignable h (word_at store low n) w) (word_behind store high n past.1)
  | inr inside ↦
      ap (λ w. is_assignable h w (word_at store high n)) (word_inside store low n (omega (arith, inside.1)))
      ∙ ap (λ w. is_assignable h (word_of store.parts.items store.height low.root n) w) (word_inside store high n (omega (arith, inside.1)))
      ∙ told n (omega (arith, inside.1))
]
all_assignable h store low high false told = (
  told.0,
  ap (λ w. is_assignable h w (word_at store high told.0)) (word_inside store low told.0 told.1)
      ∙ ap (λ w. is_assignable h (word_of store.parts.items store.height low.root told.0) w) (word_inside store high told.0 told.1)
      ∙ told.2,
)

pub found_at : (word : VerificationType) (store : WordStore) (words : Words)
    → (n : ℕ) × (n < room store.height) × (is_same_type word (word_of store.parts.items store.height words.root n) ≡ true) → (n : ℕ) × (is_same_type word (word_at store words n) ≡ true)
found_at word store words found = (found.0, ap (is_same_type word) (word_inside store words found.0 found.1) ∙ found.2)

pub absent_at : (word : VerificationType) (store : WordStore) (words : Words) → is_same_type word Top ≡ false
    → ((n : ℕ) → n < room store.height → is_same_type word (word_of store.parts.items store.height words.root n) ≡ false) → (n : ℕ) → is_same_type word (word_at store words n) ≡ false
absent_at word store words top absent n = elim (leb_tells (room store.height) n) [
  | inl past ↦ ap (is_same_type word) (word_behind store words n past.1) ∙ top
  | inr inside ↦ ap (is_same_type word) (word_inside store words n (omega (arith, inside.1))) ∙ absent n (omega (arith, inside.1))
]

pub top_at : (store : WordStore) (words : Words) (n : ℕ) → words.root ≡ 0 → word_at store words n ≡ Top
top_at store words n e = elim (leb_tells (room store.height) n) [
  | inl past ↦ word_behind store words n past.1
  | inr inside ↦ word_inside store words n (omega (arith, inside.1)) ∙ ap (λ r. word_of store.parts.items store.height r n) e ∙ all_tops store.parts.items store.height n
]

-- ---- for callers

pub same_list : (a b : Words) → list_number a ≡ list_number b → a ≡ b
same_list a b e = ap (λ n. one n) e
  where
    one : ℕ → Words
    one n = record { root = n }

pub kept_are_fixed : (store : WordStore) (words : Words) → IsKept store words → IsFixed store words
kept_are_fixed store words h = is_fixed store words (omega (arith, kept_is store words h, store.kept_fixed))

pub follows_itself : (store : WordStore) → Follows store store
follows_itself store = record { most = refl; kept = λ words h. h; words = λ words h. refl; later = omega arith; fixed = λ _ words h. (h, refl) }

pub follows_on : (a b c : WordStore) → Follows a b → Follows b c → Follows a c
follows_on a b c first later = record {
  most = later.most ∙ first.most;
  kept = λ words h. later.kept words (first.kept words h);
  words = λ words h. later.words words (first.kept words h) ∙ first.words words h;
  later = omega (arith, first.later, later.later);
  fixed = λ same words h.
      let one = first.fixed (omega (arith, same, first.later, later.later)) words h in
      let two = later.fixed (omega (arith, same, first.later, later.later)) words one.0 in
      (two.0, two.1 ∙ one.1);
}

-- .. where fixed parts stay after a first step
pub follows_more : (first old new : WordStore) → Follows first old → new.most ≡ old.most → new.height ≡ old.height → new.given_back ≡ old.given_back → old.kept ≤ new.kept → old.fixed ≤ new.fixed
    → AreSame old.parts.items new.parts.items old.fixed → Follows first new
follows_more first old new before most height given more further same = follows_on first old new before (follows old new most height given more further same)
