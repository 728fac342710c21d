use Rattle.std.proofs.Common.{◌≡◌, ℕ, ◌+◌, ◌-◌, ◌≤◌, List, [], ◌∷◌, length, map, take, drop, reverse, sym, ap, subst, ◌∙◌, arith, length-take}
use Rattle.std.proofs.lemmas.List.{reverse-append, length-reverse, length-map, with_items_is}
use Rattle.std.specs.Vec.{with_items}
use Rattle.frame_snapshot.specs.FrameStack.{Frame, nearest_room, was_saved, without_call}
use Rattle.frame_snapshot.specs.Layout.{frame_in, frames_over, FitTogether, AreSaves}
use Rattle.frame_snapshot.proofs.CallLemmas.{resumed_fits, resumed_seen}
use Rattle.frame_snapshot.proofs.SaveLemmas.{unsaved_shallower}
use Rattle.frame_snapshot.proofs.frames.Frames.pop.Goals as goal

module _ (c : goal.After-self-in-Some-1) where
  below_is : reverse c.self.inside.below.items ≡ c.in-Some.caller ∷ reverse c.pop.new.self.items
  below_is = ap reverse c.in-Some.ensures.items ∙ reverse-append c.pop.new.self.items (c.in-Some.caller ∷ [])

  fit : FitTogether (length c.self.inside.words.items) c.self.inside.here (c.in-Some.caller ∷ reverse c.pop.new.self.items) (reverse c.self.inside.saves.items) (length c.self.inside.kept.items)
  fit = subst (λ below. FitTogether (length c.self.inside.words.items) c.self.inside.here below (reverse c.self.inside.saves.items) (length c.self.inside.kept.items)) below_is c.self.invariant

  seen : frames_over c.self.inside.words.items c.self.inside.here (c.in-Some.caller ∷ reverse c.pop.new.self.items) (reverse c.self.inside.saves.items) c.self.inside.kept.items ≡ c.args.self.now
  seen = ap (λ below. frames_over c.self.inside.words.items c.self.inside.here below (reverse c.self.inside.saves.items) c.self.inside.kept.items) (sym below_is) ∙ c.self.view_is

  words : c.args.words ≤ c.self.inside.here.top - c.self.inside.here.floor
  words =
      let count = ap (λ s. length s.here.stack) c.self.view_is in
      let cut : List ℕ = take (c.self.inside.here.top - c.self.inside.here.floor) (drop c.self.inside.here.floor c.self.inside.words.items) in
      omega (arith, c.requires.words, count, length-reverse cut, length-take (c.self.inside.here.top - c.self.inside.here.floor) (drop c.self.inside.here.floor c.self.inside.words.items))

  room : c.args.words ≤ c.in-Some.caller.limit - c.in-Some.caller.top
  room = let free = ap (λ s. nearest_room s.below) seen in omega (arith, c.requires.room, free)

  words_are : (with_items c.self.inside.words c.move_down.new.words).items ≡ c.move_down.new.words
  words_are = with_items_is c.self.inside.words c.move_down.new.words (c.move_down.auto.words ∙ c.deref_mut.ensures.len)

  same_size : length c.move_down.new.words ≡ length c.self.inside.words.items
  same_size = c.move_down.auto.words ∙ ap length c.deref_mut.ensures.value

  before : take c.in-Some.caller.top c.move_down.new.words ≡ take c.in-Some.caller.top c.self.inside.words.items
  before = c.move_down.ensures.before ∙ ap (take c.in-Some.caller.top) c.deref_mut.ensures.value

  moved : take c.args.words (drop c.in-Some.caller.top c.move_down.new.words) ≡ take c.args.words (drop (c.self.inside.here.top - c.args.words) c.self.inside.words.items)
  moved = c.move_down.ensures.moved ∙ ap (λ xs. take c.args.words (drop (c.self.inside.here.top - c.args.words) xs)) c.deref_mut.ensures.value

  shallow : AreSaves (length c.self.inside.words.items) (c.in-Some.caller ∷ reverse c.pop.new.self.items) (length c.self.inside.kept.items) (length (reverse c.pop.new.self.items)) (reverse c.self.inside.saves.items)
  shallow =
      let fs : List Frame = map (frame_in (take c.self.inside.here.base c.self.inside.words.items)) (c.in-Some.caller ∷ reverse c.pop.new.self.items) in
      unsaved_shallower c.self.inside.kept.items fs (length c.self.inside.words.items) c.in-Some.caller (reverse c.pop.new.self.items) (length c.self.inside.kept.items) (reverse c.self.inside.saves.items)
      (length-map (c.in-Some.caller ∷ reverse c.pop.new.self.items) (frame_in (take c.self.inside.here.base c.self.inside.words.items)))
      (ap was_saved seen ∙ c.requires.unsaved) fit.are_saves

pub invariant_of-self : goal.invariant_of-self
invariant_of-self c =
    let x = c.self.inside in
    rw (words_are c) (resumed_fits x.words.items x.here c.in-Some.caller (reverse c.pop.new.self.items) (reverse x.saves.items) x.kept.items (fit c) c.args.words c.move_down.new.words (words c) (room c) (same_size c) (before c) (moved c) (shallow c))

pub returns-in-Some : goal.returns-in-Some
returns-in-Some c =
    let x = c.self.inside in
    ap (λ row. frames_over row (record c.in-Some.caller { top = c.in-Some.caller.top + c.args.words }) (reverse c.pop.new.self.items) (reverse x.saves.items) x.kept.items) (words_are c)
    ∙ resumed_seen x.words.items x.here c.in-Some.caller (reverse c.pop.new.self.items) (reverse x.saves.items) x.kept.items (fit c) c.args.words c.move_down.new.words (words c) (room c) (same_size c) (before c) (moved c) (shallow c)
    ∙ ap (λ s. without_call s c.args.words) (seen c)
