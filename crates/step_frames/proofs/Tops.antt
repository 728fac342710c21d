-- Words that are pushed one by one.
use Rattle.std.proofs.Common.{◌≡◌, ℕ, ◌+◌, ◌-◌, ◌≤◌, length-append, length-drop, List, ◌∷◌, ◌++◌, length, drop, slice_index_or, refl, sym, ap, ◌∙◌, arith}
use Rattle.std.proofs.lemmas.List.{drop_more, drop_all}
use Rattle.type_rules.specs.declared.types.VerificationType.{VerificationType}
use Rattle.type_rules.specs.declared.types.VerificationType.TheVariants.{Top}
use Rattle.type_rules.specs.Assignable.{Hierarchy}
use Rattle.type_rules.specs.Environment.{TypeFrame}
use Rattle.typing_frames.specs.declared.stores.FrameStores.{FrameStores}
use Rattle.typing_frames.specs.declared.stores.CurrentFrame.{CurrentFrame}
use Rattle.typing_frames.specs.Frames.{shown, IsFrame, StoresFollow, StoresRemember}
use Rattle.type_lists.specs.Store.{word_at}
use Rattle.type_lists.proofs.ListLaws.{stack_depth}
use Rattle.typing_frames.proofs.FrameLaws.{stores_follow_itself, stores_follow_on, type_frame}

-- the last words of a list are pushed, up to one of them
pub record Pushing (old : FrameStores) (frame : CurrentFrame) (words : List VerificationType) (new : FrameStores) (made : CurrentFrame) (left : ℕ) : Type 0 where
  pub within : left ≤ length words
  pub follows : StoresFollow old new
  pub remembered : (h : Hierarchy) → StoresRemember h old → StoresRemember h new
  pub there : IsFrame new made
  pub depth : made.depth + left ≡ frame.depth + length words
  pub is : shown new made ≡ record (shown old frame) { stack = drop left words ++ (shown old frame).stack }

pub pushing_none : (old : FrameStores) (frame : CurrentFrame) (words : List VerificationType) → IsFrame old frame → Pushing old frame words old frame (length words)
pushing_none old frame words there = record {
  within = omega arith;
  follows = stores_follow_itself old;
  remembered = λ h r. r;
  there = there;
  depth = refl;
  is = ap (λ (ws : List VerificationType). type_frame (shown old frame).locals (ws ++ (shown old frame).stack) frame.unset) (sym (drop_all (length words) words (omega arith)));
}

pub pushing_more : (old now new : FrameStores) (frame made next : CurrentFrame) (words : List VerificationType) (left more : ℕ) (word : VerificationType) → left + 1 ≡ more → Pushing old frame words now made more
    → word ≡ slice_index_or words left Top
    → StoresFollow now new → ((h : Hierarchy) → StoresRemember h now → StoresRemember h new) → IsFrame new next
    → shown new next ≡ record (shown now made) { stack = word ∷ (shown now made).stack } → Pushing old frame words new next left
pushing_more old now new frame made next words left more word e before at follows remembered there is =
    let depth : next.depth ≡ made.depth + 1 =
    sym (stack_depth (word_at new.stacks next.stack) next.depth) ∙ (ap (λ (f : TypeFrame). length f.stack) is ∙ omega (arith, stack_depth (word_at now.stacks made.stack) made.depth)) in
    record {
      within = omega (arith, before.within);
      follows = stores_follow_on old now new before.follows follows;
      remembered = λ h r. remembered h (before.remembered h r);
      there = there;
      depth = omega (arith, before.depth, depth);
      is =
          is ∙ ap (λ (f : TypeFrame). record f { stack = word ∷ f.stack }) before.is
          ∙ ap (λ (ws : List VerificationType). type_frame (shown old frame).locals (ws ++ (shown old frame).stack) frame.unset)
          (ap (λ (n : ℕ). word ∷ drop n words) (sym e) ∙ ap (λ (w : VerificationType). w ∷ drop (left + 1) words) at ∙ sym (drop_more words left Top (omega (arith, before.within))));
    }

pub deep_enough : (n : ℕ) (f : TypeFrame) (stores : FrameStores) (frame : CurrentFrame) → f ≡ shown stores frame → n ≤ frame.depth → n ≤ length f.stack
deep_enough n f stores frame e h =
    let same : length f.stack ≡ frame.depth = ap (λ (g : TypeFrame). length g.stack) e ∙ stack_depth (word_at stores.stacks frame.stack) frame.depth in
    omega (arith, same, h)

pub room_left : (words : List VerificationType) (stores : FrameStores) (frame : CurrentFrame) (taken most : ℕ) → taken ≤ frame.depth
    → length (words ++ drop taken (shown stores frame).stack) ≤ most → frame.depth - taken + length words ≤ most
room_left words stores frame taken most within h =
    let depth : length (shown stores frame).stack ≡ frame.depth = stack_depth (word_at stores.stacks frame.stack) frame.depth in
    let both : length (words ++ drop taken (shown stores frame).stack) ≡ length words + length (drop taken (shown stores frame).stack) = length-append words (drop taken (shown stores frame).stack) in
    let rest : length (drop taken (shown stores frame).stack) ≡ length (shown stores frame).stack - taken = length-drop taken (shown stores frame).stack in
    omega (arith, depth, both, rest, h, within)
