-- Frames in stores.
use Rattle.std.proofs.Common.{◌≡◌, ℕ, zero, suc, ◌+◌, ◌-◌, ◌<◌, ◌≤◌, Bool, true, inl, inr, List, [], ◌∷◌, drop, get_or, slice_set, refl, sym, ◌∙◌, ap, arith}
use Rattle.std.proofs.Math.Path.{fun_ext}
use Rattle.std.proofs.lemmas.Bool.{true≢false}
use Rattle.std.proofs.lemmas.Bool.Decides.{eqb_tells}
use Rattle.type_rules.specs.declared.types.VerificationType.{VerificationType}
use Rattle.type_rules.specs.declared.types.VerificationType.TheVariants.{Top, Int, Float, Long, Double, Second, Null, UninitThis, Uninit, Object}
use Rattle.type_rules.specs.Assignable.{Hierarchy, is_same_type}
use Rattle.type_rules.specs.Environment.{TypeFrame, padded}
use Rattle.type_rules.specs.FrameAfter.{replaced_types}
use Rattle.type_lists.specs.Parts.{room, with_word, replaced_type}
use Rattle.type_lists.specs.Shown.{first_words, stack_words, EndsBy}
use Rattle.type_lists.specs.declared.store.WordStore.{WordStore}
use Rattle.type_lists.proofs.SetLaws.{with_here, with_other}
use Rattle.type_lists.proofs.ListLaws.{first_set, first_padded, first_replaced, stack_read, stack_put, stack_replaced}
use Rattle.type_lists.proofs.StoreLaws.{follows_itself, follows_on}
use Rattle.typing_frames.specs.declared.stores.FrameStores.{FrameStores}
use Rattle.typing_frames.specs.declared.stores.CurrentFrame.{CurrentFrame}
use Rattle.typing_frames.specs.Frames.{shown, IsFrame, StoresFollow, StoresRemember}

abbrev Places : Type 0
Places = ℕ → VerificationType

-- the most words of a store fit a u32
room_low : (height : ℕ) → height ≤ 3 → room height ≤ 262144
room_low zero h = omega arith
room_low (suc zero) h = omega arith
room_low (suc (suc zero)) h = omega arith
room_low (suc (suc (suc zero))) h = omega arith
room_low (suc (suc (suc (suc n)))) h = absurd (omega (arith, h))

pub most_fits : (store : WordStore) → store.most ≤ 262144
most_fits store = omega (arith, store.fits, room_low store.height store.low)

abbrev pub type_frame : List VerificationType → List VerificationType → Bool → TypeFrame
type_frame locals stack unset = record { locals = locals; stack = stack; flag_this_uninit = unset }

-- ---- stacks

pub pushed : (f g : Places) (depth : ℕ) (word : VerificationType) → g ≡ with_word f depth word → stack_words g (depth + 1) ≡ word ∷ stack_words f depth
pushed f g depth word e =
    let more : depth + 1 ≡ suc depth = omega arith in
    ap (λ h. stack_words h (depth + 1)) e ∙ ap (stack_words (with_word f depth word)) more ∙ stack_put f depth word

pub popped : (f g : Places) (depth more : ℕ) (word : VerificationType) → depth + 1 ≡ more → g ≡ with_word f depth word → stack_words g depth ≡ drop 1 (stack_words f more)
popped f g depth more word d e =
    let one : suc depth ≡ more = omega (arith, d) in
    ap (λ h. stack_words h depth) e ∙ ap (drop 1) (stack_put f depth word) ∙ ap (λ k. drop 1 (stack_words f k)) one

pub popped_end : (f g : Places) (depth more : ℕ) → depth + 1 ≡ more → g ≡ with_word f depth Top → EndsBy f more → EndsBy g depth
popped_end f g depth more d e ends n h = elim (eqb_tells n depth) [
  | inl here ↦ ap (λ k. k n) e ∙ with_here f depth Top n here.1
  | inr other ↦ ap (λ k. k n) e ∙ with_other f depth Top n other.1 ∙ ends n (omega (arith, h, other.1, d))
]

pub stack_none : (f : Places) (depth n : ℕ) → depth ≤ n → get_or (stack_words f depth) n Top ≡ Top
stack_none f zero n h = refl
stack_none f (suc depth) zero h = absurd (omega (arith, h))
stack_none f (suc depth) (suc n) h = stack_none f depth n (omega (arith, h))

pub stack_there : (f : Places) (depth n : ℕ) → n < depth → f (depth - n - 1) ≡ get_or (stack_words f depth) n Top
stack_there f depth n h = ap f (let e : depth - n - 1 ≡ depth - suc n = omega arith in e) ∙ sym (stack_read f depth n h)

pub stack_all_replaced : (f g : Places) (depth : ℕ) (old new : VerificationType) → g ≡ (λ n. replaced_type old new (f n)) → stack_words g depth ≡ replaced_types old new (stack_words f depth)
stack_all_replaced f g depth old new e = ap (λ h. stack_words h depth) e ∙ stack_replaced f depth old new

-- ---- locals

pub local_set : (f g : Places) (most count at : ℕ) (word : VerificationType) → count ≡ most → g ≡ with_word f at word → first_words g count ≡ slice_set (first_words f most) at word
local_set f g most count at word m e = ap (λ h. first_words h count) e ∙ ap (first_words (with_word f at word)) m ∙ first_set f most at word

pub locals_replaced : (f g : Places) (most count : ℕ) (old new : VerificationType) → count ≡ most → g ≡ (λ n. replaced_type old new (f n)) → first_words g count ≡ replaced_types old new (first_words f most)
locals_replaced f g most count old new m e =
    ap (λ h. first_words h count) e ∙ ap (first_words (λ n. replaced_type old new (f n))) m ∙ first_replaced f most old new

pub same_set : (f : Places) (most at : ℕ) → f at ≡ Top → first_words f most ≡ slice_set (first_words f most) at Top
same_set f most at e =
    let same : with_word f at Top ≡ f = fun_ext (λ n. elim (eqb_tells n at) [
      | inl here ↦ with_here f at Top n here.1 ∙ sym e ∙ ap f (sym here.1)
      | inr other ↦ with_other f at Top n other.1
    ]) in
    ap (λ h. first_words h most) (sym same) ∙ first_set f most at Top

pub tops_shown : (f : Places) (most : ℕ) → f ≡ (λ _. Top) → first_words f most ≡ padded most []
tops_shown f most e = sym (first_padded f 0 most (λ n h. ap (λ g. g n) e))

pub same_top : (w : VerificationType) → is_same_type w Top ≡ true → w ≡ Top
same_top Top e = refl
same_top Int e = absurd (true≢false (sym e))
same_top Float e = absurd (true≢false (sym e))
same_top Long e = absurd (true≢false (sym e))
same_top Double e = absurd (true≢false (sym e))
same_top Second e = absurd (true≢false (sym e))
same_top Null e = absurd (true≢false (sym e))
same_top UninitThis e = absurd (true≢false (sym e))
same_top (Uninit p) e = absurd (true≢false (sym e))
same_top (Object t) e = absurd (true≢false (sym e))

-- ---- stores that follow

pub stores_follow_itself : (stores : FrameStores) → StoresFollow stores stores
stores_follow_itself stores = record { locals = follows_itself stores.locals; stacks = follows_itself stores.stacks }

pub stores_follow_on : (a b c : FrameStores) → StoresFollow a b → StoresFollow b c → StoresFollow a c
stores_follow_on a b c first later = record {
  locals = follows_on a.locals b.locals c.locals first.locals later.locals;
  stacks = follows_on a.stacks b.stacks c.stacks first.stacks later.stacks;
}

-- ---- words that are taken one by one

pub record Taking (old : FrameStores) (frame : CurrentFrame) (new : FrameStores) (made : CurrentFrame) (done : ℕ) : Type 0 where
  pub follows : StoresFollow old new
  pub remembered : (h : Hierarchy) → StoresRemember h old → StoresRemember h new
  pub there : IsFrame new made
  pub depth : made.depth + done ≡ frame.depth
  pub is : shown new made ≡ record (shown old frame) { stack = drop done (shown old frame).stack }

drop_more : (n : ℕ) (ws : List VerificationType) → drop 1 (drop n ws) ≡ drop (n + 1) ws
drop_more n ws = let e : n + 1 ≡ suc n = omega arith in one n ws ∙ ap (λ k. drop k ws) (sym e)
  where
    one : (k : ℕ) (xs : List VerificationType) → drop 1 (drop k xs) ≡ drop (suc k) xs
    one zero xs = refl
    one (suc k) [] = refl
    one (suc k) (x ∷ xs) = one k xs

pub taking_none : (old : FrameStores) (frame : CurrentFrame) → IsFrame old frame → Taking old frame old frame 0
taking_none old frame there = record {
  follows = stores_follow_itself old;
  remembered = λ h r. r;
  there = there;
  depth = omega arith;
  is = refl;
}

pub taking_more : (old now new : FrameStores) (frame made next : CurrentFrame) (done : ℕ) → Taking old frame now made done
    → StoresFollow now new → ((h : Hierarchy) → StoresRemember h now → StoresRemember h new) → IsFrame new next → next.depth + 1 ≡ made.depth
    → shown new next ≡ record (shown now made) { stack = drop 1 (shown now made).stack } → Taking old frame new next (done + 1)
taking_more old now new frame made next done before follows remembered there depth is = record {
  follows = stores_follow_on old now new before.follows follows;
  remembered = λ h r. remembered h (before.remembered h r);
  there = there;
  depth = omega (arith, before.depth, depth);
  is =
      is ∙ ap (λ (f : TypeFrame). record f { stack = drop 1 f.stack }) before.is
      ∙ ap (λ s. type_frame (shown old frame).locals s frame.unset) (drop_more done (shown old frame).stack);
}
