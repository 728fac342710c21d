use Rattle.std.proofs.Common.{[], ◌∷◌, length, reverse, sym, ◌∙◌, ap}
use Rattle.std.proofs.lemmas.List.{reverse-append}
use Rattle.frame_snapshot.specs.FrameStack.{without_save}
use Rattle.frame_snapshot.specs.Layout.{frames_over, FitTogether}
use Rattle.frame_snapshot.proofs.SaveLemmas.{dropped_fits, dropped_seen}
use Rattle.frame_snapshot.proofs.frames.Frames.drop_save.Goals as goal

pub invariant_of-self : goal.invariant_of-self
invariant_of-self c =
    let x = c.self.inside in
    let s = c.in-Some.save in
    let ss = reverse c.pop.new.self.items in
    let e = ap reverse c.in-Some.ensures.items ∙ reverse-append c.pop.new.self.items (c.in-Some.save ∷ []) in
    let fit : FitTogether (length x.words.items) x.here (reverse x.below.items) (c.in-Some.save ∷ reverse c.pop.new.self.items) (length x.kept.items) = rw (sym e) c.self.invariant in
    rw c.truncate.ensures.items (dropped_fits x.words.items x.here (reverse x.below.items) s ss x.kept.items fit)

pub returns-in-Some : goal.returns-in-Some
returns-in-Some c =
    let x = c.self.inside in
    let s = c.in-Some.save in
    let ss = reverse c.pop.new.self.items in
    let e = ap reverse c.in-Some.ensures.items ∙ reverse-append c.pop.new.self.items (c.in-Some.save ∷ []) in
    let fit : FitTogether (length x.words.items) x.here (reverse x.below.items) (c.in-Some.save ∷ reverse c.pop.new.self.items) (length x.kept.items) = rw (sym e) c.self.invariant in
    ap (λ kept. frames_over x.words.items x.here (reverse x.below.items) ss kept) c.truncate.ensures.items
    ∙ dropped_seen x.words.items x.here (reverse x.below.items) s ss x.kept.items fit
    ∙ ap (λ saves. without_save (frames_over x.words.items x.here (reverse x.below.items) saves x.kept.items)) (sym e)
    ∙ ap without_save c.self.view_is
