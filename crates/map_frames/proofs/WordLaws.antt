-- The words of locals, one more and one less.
use Rattle.std.proofs.Common.{◌≡◌, ℕ, zero, suc, ◌+◌, ◌-◌, ◌<◌, ◌≤◌, Bool, true, false, ◌&&◌, nat_le, inl, inr, List, [], ◌∷◌, ◌++◌, take, drop, replicate, length, slice_set, refl, sym, ◌∙◌, ap, arith}
use Rattle.std.proofs.lemmas.Bool.Decides.{leb_tells}
use Rattle.std.proofs.lemmas.List.{length_push}
use Rattle.type_rules.specs.declared.types.VerificationType.{VerificationType}
use Rattle.type_rules.specs.declared.types.VerificationType.TheVariants.{Top}
use Rattle.type_rules.specs.Environment.{TypeFrame, padded}
use Rattle.type_rules.specs.MapFrames.{is_uninit_this}
use Rattle.typing_frames.specs.declared.stores.FrameStores.{FrameStores}
use Rattle.typing_frames.specs.Frames.{shown, IsFrame, StoresFollow}
use Rattle.map_frames.specs.declared.words.LocalWords.{LocalWords}
use Rattle.map_frames.specs.Mapped.{is_word}
use Rattle.map_frames.specs.Making.{one_if, count_words, type_frame, AreWords}

-- locals after the last word are Top
abbrev pub pad : ℕ → List VerificationType → List VerificationType
pad zero ws = []
pad (suc n) [] = Top ∷ pad n []
pad (suc n) (w ∷ ws) = w ∷ pad n ws

take_pad : (n more : ℕ) (ws : List VerificationType) → n ≤ more → take n (ws ++ replicate more Top) ≡ pad n ws
take_pad zero more [] h = refl
take_pad zero more (w ∷ ws) h = refl
take_pad (suc n) zero [] h = absurd (omega (arith, h))
take_pad (suc n) (suc more) [] h = ap (λ x. Top ∷ x) (take_pad n more [] (omega (arith, h)))
take_pad (suc n) more (w ∷ ws) h = ap (λ x. w ∷ x) (take_pad n more ws (omega (arith, h)))

pub padded_is : (n : ℕ) (ws : List VerificationType) → padded n ws ≡ pad n ws
padded_is n ws = take_pad n n ws (omega arith)

length_pad : (n : ℕ) (ws : List VerificationType) → length (pad n ws) ≡ n
length_pad zero ws = refl
length_pad (suc n) [] = ap suc (length_pad n [])
length_pad (suc n) (w ∷ ws) = ap suc (length_pad n ws)

pub length_padded : (n : ℕ) (ws : List VerificationType) → length (padded n ws) ≡ n
length_padded n ws = ap length (padded_is n ws) ∙ length_pad n ws

pad_more : (n : ℕ) (ws : List VerificationType) (w : VerificationType) → slice_set (pad n ws) (length ws) w ≡ pad n (ws ++ w ∷ [])
pad_more zero [] w = refl
pad_more zero (x ∷ ws) w = refl
pad_more (suc n) [] w = refl
pad_more (suc n) (x ∷ ws) w = ap (λ l. x ∷ l) (pad_more n ws w)

pad_less : (n : ℕ) (ws : List VerificationType) (w : VerificationType) → slice_set (pad n (ws ++ w ∷ [])) (length ws) Top ≡ pad n ws
pad_less zero [] w = refl
pad_less zero (x ∷ ws) w = refl
pad_less (suc n) [] w = refl
pad_less (suc n) (x ∷ ws) w = ap (λ l. x ∷ l) (pad_less n ws w)

pub padded_more : (n : ℕ) (ws : List VerificationType) (w : VerificationType) → slice_set (padded n ws) (length ws) w ≡ padded n (ws ++ w ∷ [])
padded_more n ws w = ap (λ l. slice_set l (length ws) w) (padded_is n ws) ∙ pad_more n ws w ∙ sym (padded_is n (ws ++ w ∷ []))

pub padded_less : (n : ℕ) (ws : List VerificationType) (w : VerificationType) → slice_set (padded n (ws ++ w ∷ [])) (length ws) Top ≡ padded n ws
padded_less n ws w = ap (λ l. slice_set l (length ws) Top) (padded_is n (ws ++ w ∷ [])) ∙ pad_less n ws w ∙ sym (padded_is n ws)

-- ---- counts

le_is : (m n : ℕ) → m ≤ n → nat_le m n ≡ true
le_is m n h = elim (leb_tells m n) [
  | inl here ↦ here.0
  | inr other ↦ absurd (omega (arith, other.1, h))
]

le_not : (m n : ℕ) → n < m → nat_le m n ≡ false
le_not m n h = elim (leb_tells m n) [
  | inl here ↦ absurd (omega (arith, here.1, h))
  | inr other ↦ other.0
]

le_suc : (m n : ℕ) → nat_le (suc m) (suc n) ≡ nat_le m n
le_suc m n = elim (leb_tells m n) [
  | inl here ↦ le_is (suc m) (suc n) (omega (arith, here.1)) ∙ sym here.0
  | inr other ↦ le_not (suc m) (suc n) (omega (arith, other.1)) ∙ sym other.0
]

drop_none : (n : ℕ) → drop {A = VerificationType} n [] ≡ []
drop_none zero = refl
drop_none (suc n) = refl

module _ (test : VerificationType → Bool) where
  pub count_more : (ws : List VerificationType) (w : VerificationType) → count_words test (ws ++ w ∷ []) ≡ count_words test ws + one_if (test w)
  count_more [] w = omega arith
  count_more (x ∷ ws) w = omega (arith, count_more ws w)

  pub count_past : (most : ℕ) (ws : List VerificationType) (w : VerificationType) → count_words test (drop most (ws ++ w ∷ [])) ≡ count_words test (drop most ws) + one_if (nat_le most (length ws) && test w)
  count_past zero ws w = count_more ws w ∙ ap (λ b. count_words test ws + one_if (b && test w)) (sym (le_is 0 (length ws) (omega arith)))
  count_past (suc most) [] w =
      ap (count_words test) (drop_none most) ∙ (let e : 0 ≡ 0 + one_if (false && test w) = omega arith in e)
      ∙ ap (λ b. 0 + one_if (b && test w)) (sym (le_not (suc most) 0 (omega arith)))
  count_past (suc most) (x ∷ ws) w =
      count_past most ws w ∙ ap (λ b. count_words test (drop most ws) + one_if (b && test w)) (sym (le_suc most (length ws)))

-- ---- a word more, and a word less

pub words_more : (old new : FrameStores) (words made : LocalWords) (max : ℕ) (w : VerificationType) → StoresFollow old new → max ≡ old.locals.most → IsFrame new made.frame
    → shown new made.frame ≡ record (shown old words.frame) { locals = slice_set (shown old words.frame).locals words.count w }
    → made.count ≡ words.count + 1 → made.passing ≡ words.passing + one_if (nat_le max words.count && is_word w) → made.uninits ≡ words.uninits + one_if (is_uninit_this w)
    → (ws : List VerificationType) → AreWords old words ws → AreWords new made (ws ++ w ∷ [])
words_more old new words made max w follows limit there is count passing uninits ws before =
    let most = old.locals.most in
    let same = follows.locals.most in
    record {
      there = there;
      are =
          is ∙ ap (λ (f : TypeFrame). record f { locals = slice_set f.locals words.count w }) before.are
          ∙ ap (λ n. type_frame (slice_set (padded most ws) n w) [] false) before.count
          ∙ ap (λ l. type_frame l [] false) (padded_more most ws w)
          ∙ ap (λ m. type_frame (padded m (ws ++ w ∷ [])) [] false) (sym same);
      count = omega (arith, count, before.count, length_push ws w);
      passing =
          passing ∙ ap (λ n. n + one_if (nat_le max words.count && is_word w)) before.passing
          ∙ ap (λ m. count_words is_word (drop most ws) + one_if (nat_le m words.count && is_word w)) limit
          ∙ ap (λ n. count_words is_word (drop most ws) + one_if (nat_le most n && is_word w)) before.count
          ∙ sym (count_past is_word most ws w)
          ∙ ap (λ m. count_words is_word (drop m (ws ++ w ∷ []))) (sym same);
      uninits = uninits ∙ ap (λ n. n + one_if (is_uninit_this w)) before.uninits ∙ sym (count_more is_uninit_this ws w);
    }

pub words_less : (old new : FrameStores) (words made : LocalWords) (max : ℕ) (w : VerificationType) → StoresFollow old new → max ≡ old.locals.most → IsFrame new made.frame
    → shown new made.frame ≡ record (shown old words.frame) { locals = slice_set (shown old words.frame).locals made.count Top }
    → made.count ≡ words.count - 1 → made.passing ≡ words.passing - one_if (nat_le max made.count && is_word w) → made.uninits ≡ words.uninits - one_if (is_uninit_this w)
    → (ws : List VerificationType) → AreWords old words (ws ++ w ∷ []) → AreWords new made ws
words_less old new words made max w follows limit there is count passing uninits ws before =
    let most = old.locals.most in
    let same = follows.locals.most in
    let less : made.count ≡ length ws = omega (arith, count, before.count, length_push ws w) in
    let without : (n k : ℕ) → (n + k) - k ≡ n = λ n k. omega arith in
    record {
      there = there;
      are =
          is ∙ ap (λ (f : TypeFrame). record f { locals = slice_set f.locals made.count Top }) before.are
          ∙ ap (λ n. type_frame (slice_set (padded most (ws ++ w ∷ [])) n Top) [] false) less
          ∙ ap (λ l. type_frame l [] false) (padded_less most ws w)
          ∙ ap (λ m. type_frame (padded m ws) [] false) (sym same);
      count = less;
      passing =
          passing ∙ ap (λ n. n - one_if (nat_le max made.count && is_word w)) (before.passing ∙ count_past is_word most ws w)
          ∙ ap (λ m. (count_words is_word (drop most ws) + one_if (nat_le most (length ws) && is_word w)) - one_if (nat_le m made.count && is_word w)) limit
          ∙ ap (λ n. (count_words is_word (drop most ws) + one_if (nat_le most (length ws) && is_word w)) - one_if (nat_le most n && is_word w)) less
          ∙ without (count_words is_word (drop most ws)) (one_if (nat_le most (length ws) && is_word w))
          ∙ ap (λ m. count_words is_word (drop m ws)) (sym same);
      uninits =
          uninits ∙ ap (λ n. n - one_if (is_uninit_this w)) (before.uninits ∙ count_more is_uninit_this ws w)
          ∙ without (count_words is_uninit_this ws) (one_if (is_uninit_this w));
    }
