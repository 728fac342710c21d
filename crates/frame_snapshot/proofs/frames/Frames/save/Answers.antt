use Rattle.std.proofs.Common.{◌≡◌, ◌-◌, [], ◌∷◌, ◌++◌, length, take, drop, reverse, sym, ◌∙◌, ap, rules}
use Rattle.std.proofs.lemmas.List.{reverse-append, length-reverse}
use Rattle.frame_snapshot.specs.FrameStack.{with_save}
use Rattle.frame_snapshot.specs.Layout.{frames_over}
use Rattle.frame_snapshot.proofs.SaveLemmas.{saved_fits, saved_seen}
use Rattle.frame_snapshot.proofs.frames.Frames.save.Goals as goal

saves_are : (c : goal.After-push_reserved) → reverse c.push_reserved.new.self.items ≡ record { here = c.self.inside.here; from = length c.self.inside.kept.items; depth = length (reverse c.self.inside.below.items) } ∷ reverse c.self.inside.saves.items
saves_are c =
    let x = c.self.inside in
    let from : c.len.result ≡ length x.kept.items = search rules in
    let depth : c.len-2.result ≡ length x.below.items = search rules in
    ap reverse (c.push_reserved.ensures.items ∙ ap (λ saves. saves ++ record { here = x.here; from = c.len.result; depth = c.len-2.result } ∷ []) c.reserve.ensures.items)
    ∙ reverse-append x.saves.items (record { here = x.here; from = c.len.result; depth = c.len-2.result } ∷ [])
    ∙ ap (λ n. record { here = x.here; from = n; depth = c.len-2.result } ∷ reverse x.saves.items) from
    ∙ ap (λ n. record { here = x.here; from = length x.kept.items; depth = n } ∷ reverse x.saves.items) (depth ∙ sym (length-reverse x.below.items))

kept_is : (c : goal.After-push_reserved) → c.append_cut.new.kept.items ≡ c.self.inside.kept.items ++ take (c.self.inside.here.top - c.self.inside.here.base) (drop c.self.inside.here.base c.self.inside.words.items)
kept_is c = c.in_ok-append_cut.ensures.ok ∙ ap (λ words. c.self.inside.kept.items ++ take (c.self.inside.here.top - c.self.inside.here.base) (drop c.self.inside.here.base words)) c.deref.ensures.value

pub invariant_of-self-2 : goal.invariant_of-self-2
invariant_of-self-2 c =
    let x = c.self.inside in
    rw (saves_are c) (rw (kept_is c) (saved_fits x.words.items x.here (reverse x.below.items) (reverse x.saves.items) x.kept.items c.self.invariant))

pub returns-clause-ok : goal.returns-clause-ok
returns-clause-ok c =
    let x = c.self.inside in
    ap (λ saves. frames_over x.words.items x.here (reverse x.below.items) saves c.append_cut.new.kept.items) (saves_are c)
    ∙ ap (λ kept. frames_over x.words.items x.here (reverse x.below.items) (record { here = x.here; from = length x.kept.items; depth = length (reverse x.below.items) } ∷ reverse x.saves.items) kept) (kept_is c)
    ∙ saved_seen x.words.items x.here (reverse x.below.items) (reverse x.saves.items) x.kept.items c.self.invariant
    ∙ ap with_save c.self.view_is
