use Rattle.std.proofs.Common.{◌≡◌, ℕ, ◌+◌, ◌-◌, ◌≤◌, List, length, take, drop, reverse, refl, sym, ap, ◌∙◌, arith, length-take, length-drop}
use Rattle.std.proofs.lemmas.List.{length-reverse}
use Rattle.frame_snapshot.specs.FrameStack.{without_words}
use Rattle.frame_snapshot.proofs.CallLemmas.{stack_rest}
use Rattle.frame_snapshot.proofs.frames.Frames.drop_words.Goals as goal

pub returns : goal.returns
returns c =
    let x = c.self.inside in
    let placed = c.self.invariant.placed in
    let count_is = ap (λ s. length s.here.stack) c.self.view_is in
    let cut : List ℕ = take (x.here.top - x.here.floor) (drop x.here.floor x.words.items) in
    let within : c.args.count ≤ x.here.top - x.here.floor = omega (arith, c.requires, count_is, length-reverse cut, length-take (x.here.top - x.here.floor) (drop x.here.floor x.words.items)) in
    let inside : x.here.top - x.here.floor ≤ length (drop x.here.floor x.words.items) = omega (arith, length-drop x.here.floor x.words.items, placed.floor, placed.top, placed.limit) in
    let size : x.here.top - c.args.count - x.here.floor ≡ x.here.top - x.here.floor - c.args.count = omega arith in
    let stack = ap (λ n. reverse (take n (drop x.here.floor x.words.items))) size ∙ sym (stack_rest (drop x.here.floor x.words.items) (x.here.top - x.here.floor) c.args.count within inside) in
    let free : x.here.limit - (x.here.top - c.args.count) ≡ x.here.limit - x.here.top + c.args.count = omega (arith, within, placed.top) in
    (simp (stack, free) refl) ∙ ap (λ s. without_words s c.args.count) c.self.view_is
