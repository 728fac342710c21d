use Rattle.std.proofs.Common.{◌≡◌, ◌<◌, ◌+◌, ◌-◌, length, arith, ap, refl, ◌∙◌}
use Rattle.std.proofs.lemmas.List.{take-set-le}
use Rattle.frame_snapshot.specs.FrameStack.{with_word}
use Rattle.frame_snapshot.specs.Layout.{frames_of}
use Rattle.frame_snapshot.proofs.WordLemmas.{cut_set_above, stack_pushed}
use Rattle.frame_snapshot.proofs.frames.Frames.push_word.Goals as goal

pub returns : goal.returns
returns c =
    let x = c.self.inside in
    let free_is : (frames_of x).here.free ≡ c.args.self.now.here.free = ap (λ s. s.here.free) c.self.view_is in
    let room : x.here.top < x.here.limit = omega (arith, c.requires, free_is) in
    let inside : x.here.top < length x.words.items = omega (arith, room, c.self.invariant.placed.limit) in
    let stack = stack_pushed x.words.items x.here.floor x.here.top c.args.word c.self.invariant.placed.floor inside in
    let locals = cut_set_above x.words.items x.here.base (x.here.floor - x.here.base) x.here.top c.args.word (omega (arith, c.self.invariant.placed.base, c.self.invariant.placed.floor)) in
    let below = take-set-le x.here.base x.words.items x.here.top c.args.word (omega (arith, c.self.invariant.placed.base, c.self.invariant.placed.floor)) in
    let free : x.here.limit - (x.here.top + 1) ≡ x.here.limit - x.here.top - 1 = omega arith in
    (simp (stack, locals, below, free) refl) ∙ ap (λ s. with_word s c.args.word) c.self.view_is
