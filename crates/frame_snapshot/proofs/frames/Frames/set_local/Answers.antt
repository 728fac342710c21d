use Rattle.std.proofs.Common.{◌≡◌, ◌<◌, ◌+◌, ◌-◌, length, take, drop, arith, ap, refl, ◌∙◌, length-take}
use Rattle.std.proofs.lemmas.List.{take-set-le}
use Rattle.frame_snapshot.specs.FrameStack.{with_local}
use Rattle.frame_snapshot.proofs.WordLemmas.{cut_set_inside, cut_set_below}
use Rattle.frame_snapshot.proofs.frames.Frames.set_local.Goals as goal

pub returns : goal.returns
returns c =
    let x = c.self.inside in
    let count_is : length (take (x.here.floor - x.here.base) (drop x.here.base x.words.items)) ≡ length c.args.self.now.here.locals = ap (λ s. length s.here.locals) c.self.view_is in
    let inside : c.args.local < x.here.floor - x.here.base = omega (arith, c.requires, count_is, length-take (x.here.floor - x.here.base) (drop x.here.base x.words.items)) in
    let locals = cut_set_inside x.words.items x.here.base (x.here.floor - x.here.base) c.args.local c.args.word inside in
    let stack = cut_set_below x.words.items x.here.floor (x.here.top - x.here.floor) (x.here.base + c.args.local) c.args.word (omega (arith, inside)) in
    let below = take-set-le x.here.base x.words.items (x.here.base + c.args.local) c.args.word (omega arith) in
    (simp (stack, locals, below) refl) ∙ ap (λ s. with_local s c.args.local c.args.word) c.self.view_is
