use Rattle.std.proofs.Common.{◌≡◌, ◌-◌, [], ◌∷◌, length, reverse, take, drop, sym, ◌∙◌, ap}
use Rattle.std.proofs.lemmas.List.{reverse-append, with_items_is}
use Rattle.std.specs.Vec.{with_items}
use Rattle.frame_snapshot.specs.FrameStack.{restored}
use Rattle.frame_snapshot.specs.Layout.{frames_over, FitTogether}
use Rattle.frame_snapshot.proofs.SaveLemmas.{restored_fits, restored_seen, drop-reverse}
use Rattle.frame_snapshot.proofs.frames.Frames.restore.Goals as goal

saves_are : (c : goal.After-self-in-Some-2-1) → reverse c.self.inside.saves.items ≡ c.in-Some.save ∷ reverse c.pop.new.self.items
saves_are c = ap reverse c.in-Some.ensures.items ∙ reverse-append c.pop.new.self.items (c.in-Some.save ∷ [])

fit : (c : goal.After-self-in-Some-2-1) → FitTogether (length c.self.inside.words.items) c.self.inside.here (reverse c.self.inside.below.items) (c.in-Some.save ∷ reverse c.pop.new.self.items) (length c.self.inside.kept.items)
fit c = rw (sym (saves_are c)) c.self.invariant

size_is : (c : goal.After-self-in-Some-2-1) → length c.put_back.new.words ≡ c.self.inside.words.len
size_is c = c.put_back.auto.words ∙ c.deref_mut.ensures.len

words_are : (c : goal.After-self-in-Some-2-1) → (with_items c.self.inside.words c.put_back.new.words).items ≡ c.put_back.new.words
words_are c = with_items_is c.self.inside.words c.put_back.new.words (size_is c)

below_is : (c : goal.After-self-in-Some-2-1) → reverse c.truncate-in-Some.new.self.items ≡ drop (length (reverse c.self.inside.below.items) - c.in-Some.save.depth) (reverse c.self.inside.below.items)
below_is c =
    ap reverse c.truncate-in-Some.ensures.items
    ∙ drop-reverse c.self.inside.below.items c.in-Some.save.depth

module _ (c : goal.After-self-in-Some-2-1) where
  same_size : length c.put_back.new.words ≡ length c.self.inside.words.items
  same_size = c.put_back.auto.words ∙ ap length c.deref_mut.ensures.value

  before : take c.in-Some.save.here.base c.put_back.new.words ≡ take c.in-Some.save.here.base c.self.inside.words.items
  before = c.put_back.ensures.before ∙ ap (take c.in-Some.save.here.base) c.deref_mut.ensures.value

  copied : take (c.in-Some.save.here.top - c.in-Some.save.here.base) (drop c.in-Some.save.here.base c.put_back.new.words) ≡ take (c.in-Some.save.here.top - c.in-Some.save.here.base) (drop c.in-Some.save.from c.self.inside.kept.items)
  copied = c.put_back.ensures.copied ∙ ap (λ kept. take (c.in-Some.save.here.top - c.in-Some.save.here.base) (drop c.in-Some.save.from kept)) c.deref.ensures.value

pub invariant_of-self : goal.invariant_of-self
invariant_of-self c =
    let x = c.self.inside in
    let s = c.in-Some.save in
    rw (words_are c) (rw (below_is c) (rw c.truncate.ensures.items
    (restored_fits x.words.items x.here (reverse x.below.items) s (reverse c.pop.new.self.items) x.kept.items (fit c) c.put_back.new.words (same_size c) (before c) (copied c))))

pub returns-in-Some : goal.returns-in-Some
returns-in-Some c =
    let x = c.self.inside in
    let s = c.in-Some.save in
    let ss = reverse c.pop.new.self.items in
    ap (λ words. frames_over words s.here (reverse c.truncate-in-Some.new.self.items) ss c.truncate.new.self.items) (words_are c)
    ∙ ap (λ below. frames_over c.put_back.new.words s.here below ss c.truncate.new.self.items) (below_is c)
    ∙ ap (λ kept. frames_over c.put_back.new.words s.here (drop (length (reverse x.below.items) - s.depth) (reverse x.below.items)) ss kept) c.truncate.ensures.items
    ∙ restored_seen x.words.items x.here (reverse x.below.items) s ss x.kept.items (fit c) c.put_back.new.words (same_size c) (before c) (copied c)
    ∙ ap (λ saves. restored (frames_over x.words.items x.here (reverse x.below.items) saves x.kept.items)) (sym (saves_are c))
    ∙ ap restored c.self.view_is
