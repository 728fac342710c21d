-- Parameters that were read one after another are the ones that are there.
use Rattle.std.proofs.Common.{◌≡◌, ℕ, ◌+◌, ◌≤◌, ◌<◌, List, [], ◌∷◌, ◌++◌, length, flat_map, Some, None, refl, sym, ap, ◌∙◌, append_assoc, arith, length-append, replicate}
use Rattle.std.proofs.lemmas.List.{append-nil}
use Rattle.std.proofs.lemmas.List.Concat.{flat_map-append}
use Rattle.std.proofs.lemmas.List.Sums.{sum_by-append, sum_by-cons}
use Rattle.std.specs.List.{AllByRecursion}
use Rattle.class_names.specs.declared.kind.Kind.{Kind}
use Rattle.class_names.specs.declared.kind.Kind.TheVariants.{Base, Array}
use Rattle.class_names.specs.declared.kind.BaseKind.{BaseKind}
use Rattle.class_names.specs.declared.kind.BaseKind.TheVariants.{Int, Byte, Char, Short, Boolean, Long, Float, Double, Class}
use Rattle.class_names.specs.Descriptor.{base_text, kind_text, IsKind, words_of, parameter_words_of, KindsAt, ParametersAt}
use Rattle.class_names.specs.Reading.{kind_at}
use Rattle.class_names.proofs.Cases.{first_same, second_same, all_pushed}
use Rattle.class_names.proofs.KindLaws.{kind_takes, kind_again, no_kind_at_close}

-- all the kinds up to a ) are these and more, and the rest is the others
pub record Leaves (kinds all : List Kind) (rest after : List ℕ) : Type 0 where
  pub more : List Kind
  pub whole : all ≡ kinds ++ more
  pub others : KindsAt rest more (41 ∷ after)

pub leaves : (kinds all : List Kind) (rest after : List ℕ) → AllByRecursion IsKind kinds → AllByRecursion IsKind all
    → flat_map kind_text kinds ++ rest ≡ flat_map kind_text all ++ 41 ∷ after → Leaves kinds all rest after
leaves [] all rest after h k e = record { more = all; whole = refl; others = record { each = k; spelled = e } }
leaves (kind ∷ kinds) [] rest after h k e =
    let here = kind_again kind (flat_map kind_text kinds ++ rest) h.0 in
    let there = no_kind_at_close after in
    let same : kind_at (kind_text kind ++ (flat_map kind_text kinds ++ rest)) ≡ kind_at (41 ∷ after) = ap kind_at (sym (append_assoc (kind_text kind) (flat_map kind_text kinds) rest) ∙ e) in
    absurd cc
leaves (kind ∷ kinds) (first ∷ all) rest after h k e =
    let here = kind_again kind (flat_map kind_text kinds ++ rest) h.0 in
    let there = kind_again first (flat_map kind_text all ++ 41 ∷ after) k.0 in
    let same : kind_text kind ++ (flat_map kind_text kinds ++ rest) ≡ kind_text first ++ (flat_map kind_text all ++ 41 ∷ after) =
    sym (append_assoc (kind_text kind) (flat_map kind_text kinds) rest) ∙ (e ∙ append_assoc (kind_text first) (flat_map kind_text all) (41 ∷ after)) in
    let one : Some (kind, flat_map kind_text kinds ++ rest) ≡ Some (first, flat_map kind_text all ++ 41 ∷ after) = sym here ∙ (ap kind_at same ∙ there) in
    let r = leaves kinds all rest after h.1 k.1 (second_same _ _ one) in
    record { more = r.more; whole = ap (λ (f : Kind). f ∷ all) (sym (first_same _ _ one)) ∙ ap (λ (ks : List Kind). kind ∷ ks) r.whole; others = r.others }

-- where there is no kind, no more are left
pub no_more : (more : List Kind) (rest after : List ℕ) → KindsAt rest more (41 ∷ after) → kind_at rest ≡ None → (more ≡ []) × (rest ≡ 41 ∷ after)
no_more [] rest after r none = (refl, r.spelled)
no_more (kind ∷ more) rest after r none =
    let there = kind_again kind (flat_map kind_text more ++ 41 ∷ after) r.each.0 in
    let same : kind_at rest ≡ kind_at (kind_text kind ++ (flat_map kind_text more ++ 41 ∷ after)) = ap kind_at (r.spelled ∙ append_assoc (kind_text kind) (flat_map kind_text more) (41 ∷ after)) in
    absurd cc

-- where there is a kind, it is the first of those that are left
pub record OneMore (more : List Kind) (kind : Kind) : Type 0 where
  pub others : List Kind
  pub whole : more ≡ kind ∷ others

pub one_more : (more : List Kind) (rest after : List ℕ) (kind : Kind) (behind : List ℕ) → KindsAt rest more (41 ∷ after) → kind_at rest ≡ Some (kind, behind) → OneMore more kind
one_more [] rest after kind behind r some =
    let there = no_kind_at_close after in
    let same : kind_at rest ≡ kind_at (41 ∷ after) = ap kind_at r.spelled in
    absurd cc
one_more (first ∷ more) rest after kind behind r some =
    let there = kind_again first (flat_map kind_text more ++ 41 ∷ after) r.each.0 in
    let same : kind_at rest ≡ kind_at (kind_text first ++ (flat_map kind_text more ++ 41 ∷ after)) = ap kind_at (r.spelled ∙ append_assoc (kind_text first) (flat_map kind_text more) (41 ∷ after)) in
    let one : Some (first, flat_map kind_text more ++ 41 ∷ after) ≡ Some (kind, behind) = sym there ∙ (sym same ∙ some) in
    record { others = more; whole = ap (λ (f : Kind). f ∷ more) (first_same _ _ one) }

-- one kind more
pub reads_more : (bytes : List ℕ) (kinds : List Kind) (rest : List ℕ) (kind : Kind) (behind : List ℕ) → KindsAt bytes kinds rest → kind_at rest ≡ Some (kind, behind) → KindsAt bytes (kinds ++ kind ∷ []) behind
reads_more bytes kinds rest kind behind r some =
    let t = kind_takes rest kind behind some in
    record {
      each = all_pushed IsKind kinds kind r.each t.good;
      spelled = r.spelled ∙ (ap (λ (xs : List ℕ). flat_map kind_text kinds ++ xs) t.spelled ∙ (sym (append_assoc (flat_map kind_text kinds) (kind_text kind) behind)
          ∙ ap (λ (xs : List ℕ). xs ++ behind) (sym (flat_map-append kind_text kinds (kind ∷ []) ∙ ap (λ (xs : List ℕ). flat_map kind_text kinds ++ xs) (append-nil (kind_text kind))))));
    }

one_word : (kind : Kind) → 1 ≤ words_of kind
one_word (Base Int) = omega arith
one_word (Base Byte) = omega arith
one_word (Base Char) = omega arith
one_word (Base Short) = omega arith
one_word (Base Boolean) = omega arith
one_word (Base Long) = omega arith
one_word (Base Float) = omega arith
one_word (Base Double) = omega arith
one_word (Base (Class name)) = omega arith
one_word (Array dimensions base) = omega arith

-- each parameter takes a word at least
pub no_more_than_words : (kinds : List Kind) → length kinds ≤ parameter_words_of kinds
no_more_than_words [] = omega arith
no_more_than_words (kind ∷ kinds) =
    let together : parameter_words_of (kind ∷ kinds) ≡ words_of kind + parameter_words_of kinds = sum_by-cons words_of kind kinds in
    omega (arith, together, one_word kind, no_more_than_words kinds)

-- what the loop over the parameters keeps
pub record WordsSoFar (bytes rest : List ℕ) (count words : ℕ) : Type 0 where
  pub kinds : List Kind
  pub reads : KindsAt bytes kinds rest
  pub number : count ≡ length kinds
  pub counted : words ≡ parameter_words_of kinds
  pub few : words ≤ 255

pub words_none : (bytes : List ℕ) → WordsSoFar bytes bytes 0 0
words_none bytes = record { kinds = []; reads = record { each = tt; spelled = refl }; number = refl; counted = refl; few = omega arith }

pub words_more : (bytes rest : List ℕ) (count words : ℕ) (kind : Kind) (behind : List ℕ) → WordsSoFar bytes rest count words → kind_at rest ≡ Some (kind, behind) → words + words_of kind ≤ 255 → WordsSoFar bytes behind (count + 1) (words + words_of kind)
words_more bytes rest count words kind behind so_far some few =
    let counted = so_far.counted in
    let together = sum_by-append words_of so_far.kinds (kind ∷ []) in
    let one : parameter_words_of (kind ∷ []) ≡ words_of kind = omega arith in
    let total : words + words_of kind ≡ parameter_words_of (so_far.kinds ++ kind ∷ []) = omega arith in
    record {
      kinds = so_far.kinds ++ kind ∷ [];
      reads = reads_more bytes so_far.kinds rest kind behind so_far.reads some;
      number = omega (arith, so_far.number, length-append so_far.kinds (kind ∷ []));
      counted = total;
      few = few;
    }

-- no more parameters than words
pub few_kinds : (bytes rest : List ℕ) (count words : ℕ) → WordsSoFar bytes rest count words → (count ≤ words) × (words ≤ 255)
few_kinds bytes rest count words so_far = (omega (arith, so_far.number, so_far.counted, no_more_than_words so_far.kinds), so_far.few)

-- too many words
pub words_many : (bytes rest : List ℕ) (count words : ℕ) (kind : Kind) (behind : List ℕ) → WordsSoFar bytes rest count words → kind_at rest ≡ Some (kind, behind) → 255 < words + words_of kind
    → (kinds : List Kind) (after : List ℕ) → ParametersAt bytes kinds after → ⊥
words_many bytes rest count words kind behind so_far some many kinds after p =
    let l = leaves so_far.kinds kinds rest after so_far.reads.each p.each (sym so_far.reads.spelled ∙ p.spelled) in
    let o = one_more l.more rest after kind behind l.others some in
    let all : kinds ≡ so_far.kinds ++ (kind ∷ o.others) = l.whole ∙ ap (λ (ks : List Kind). so_far.kinds ++ ks) o.whole in
    let total : parameter_words_of kinds ≡ parameter_words_of so_far.kinds + parameter_words_of (kind ∷ o.others) = ap parameter_words_of all ∙ sum_by-append words_of so_far.kinds (kind ∷ o.others) in
    let rest_total : parameter_words_of (kind ∷ o.others) ≡ parameter_words_of (kind ∷ []) + parameter_words_of o.others = sum_by-append words_of (kind ∷ []) o.others in
    let counted = so_far.counted in
    let one : parameter_words_of (kind ∷ []) ≡ words_of kind = omega arith in
    let few = p.words in
    omega arith

-- the end
pub words_all : (bytes rest : List ℕ) (count words : ℕ) (after : List ℕ) → WordsSoFar bytes rest count words → rest ≡ 41 ∷ after
    → (kinds : List Kind) × ParametersAt bytes kinds after × (count ≡ length kinds) × (words ≡ parameter_words_of kinds)
words_all bytes rest count words after so_far is =
    (so_far.kinds, record { each = so_far.reads.each; words = let e = so_far.counted in let f = so_far.few in omega arith; spelled = so_far.reads.spelled ∙ ap (λ (xs : List ℕ). flat_map kind_text so_far.kinds ++ xs) is }, so_far.number, so_far.counted)

pub words_open : (bytes rest : List ℕ) (count words : ℕ) → WordsSoFar bytes rest count words → kind_at rest ≡ None → ((after : List ℕ) → rest ≡ 41 ∷ after → ⊥) → (kinds : List Kind) (after : List ℕ) → ParametersAt bytes kinds after → ⊥
words_open bytes rest count words so_far none unclosed kinds after p =
    let l = leaves so_far.kinds kinds rest after so_far.reads.each p.each (sym so_far.reads.spelled ∙ p.spelled) in
    unclosed after (no_more l.more rest after l.others none).1

-- the parameters up to the first ) are one list
pub one_list : (bytes : List ℕ) (kinds all : List Kind) (rest after : List ℕ) → ParametersAt bytes kinds rest → ParametersAt bytes all after → (all ≡ kinds) × (rest ≡ after)
one_list bytes kinds all rest after p q =
    let l = leaves kinds all (41 ∷ rest) after p.each q.each (sym p.spelled ∙ q.spelled) in
    let n = no_more l.more (41 ∷ rest) after l.others (no_kind_at_close rest) in
    (l.whole ∙ (ap (λ (ks : List Kind). kinds ++ ks) n.0 ∙ append-nil kinds), same_tail rest after n.1)
  where
    same_tail : (xs ys : List ℕ) → 41 ∷ xs ≡ 41 ∷ ys → xs ≡ ys
    same_tail xs ys e = cc

-- a kind takes a byte at least
base_full : (base : BaseKind) → 0 < length (base_text base)
base_full Int = omega arith
base_full Byte = omega arith
base_full Char = omega arith
base_full Short = omega arith
base_full Boolean = omega arith
base_full Long = omega arith
base_full Float = omega arith
base_full Double = omega arith
base_full (Class name) = omega arith

pub kind_full : (kind : Kind) → 0 < length (kind_text kind)
kind_full (Base base) = base_full base
kind_full (Array dimensions base) = omega (arith, base_full base, length-append (replicate dimensions 91) (base_text base))

pub behind_shorter : (rest : List ℕ) (kind : Kind) (behind : List ℕ) → kind_at rest ≡ Some (kind, behind) → length behind < length rest
behind_shorter rest kind behind some =
    let t = kind_takes rest kind behind some in
    omega (arith, ap length t.spelled, length-append (kind_text kind) behind, kind_full kind)
