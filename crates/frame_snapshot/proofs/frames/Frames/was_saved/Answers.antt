use Rattle.std.proofs.Common.{◌≡◌, ◌-◌, ◌<◌, nat_eq, List, ◌∷◌, length, map, reverse, take, get_or, sym, ◌∙◌, ap, subst, rules}
use Rattle.std.specs.List.{list_any}
use Rattle.std.proofs.lemmas.List.{length-map, length-reverse}
use Rattle.frame_snapshot.specs.declared.activation.Save.{Save}
use Rattle.frame_snapshot.specs.FrameStack.{Frame, was_saved}
use Rattle.frame_snapshot.specs.Layout.{frame_in, saved_in, AreSaves}
use Rattle.frame_snapshot.proofs.SaveLemmas.{is_top, top_is_saved, reverse_last}
use Rattle.frame_snapshot.proofs.frames.Frames.was_saved.Goals as goal

module _ (c : goal.In-Some) where
  abbrev fs : List Frame
  fs = map (frame_in (take c.self.inside.here.base c.self.inside.words.items)) (reverse c.self.inside.below.items)

  abbrev others : List Save
  others = reverse (take (length c.self.inside.saves.items - 1) c.self.inside.saves.items)

  count_is : length (map (frame_in (take c.self.inside.here.base c.self.inside.words.items)) (reverse c.self.inside.below.items)) ≡ length (reverse c.self.inside.below.items)
  count_is = length-map (reverse c.self.inside.below.items) (frame_in (take c.self.inside.here.base c.self.inside.words.items))

  depth_is : c.len-depth.result ≡ length c.self.inside.below.items
  depth_is = search rules

  some : 0 < length c.self.inside.saves.items
  some = rw (sym c.deref.ensures.value) c.in-Some.ensures.item.3.0

  saves_are : reverse c.self.inside.saves.items ≡ c.in-Some.save.now ∷ others
  saves_are = reverse_last c.self.inside.saves.items c.in-Some.save.now some (c.in-Some.ensures.item.1 ∙ ap (λ (xs : List Save). get_or xs (length xs - 1) c.in-Some.save.now) c.deref.ensures.value)

  are : AreSaves (length c.self.inside.words.items) (reverse c.self.inside.below.items) (length c.self.inside.kept.items) (length fs) (c.in-Some.save.now ∷ others)
  are = rw count_is (subst (λ ss. AreSaves (length c.self.inside.words.items) (reverse c.self.inside.below.items) (length c.self.inside.kept.items) (length (reverse c.self.inside.below.items)) ss) saves_are c.self.invariant.are_saves)

pub returns-in-Some : goal.returns-in-Some
returns-in-Some c =
    ap (nat_eq c.in-Some.save.now.depth) (depth_is c ∙ sym (count_is c ∙ length-reverse c.self.inside.below.items))
    ∙ sym (top_is_saved c.self.inside.kept.items (fs c) (length c.self.inside.words.items) (reverse c.self.inside.below.items) (length c.self.inside.kept.items) c.in-Some.save.now (others c) (are c))
    ∙ ap (λ ss. list_any (is_top (fs c)) (map (saved_in c.self.inside.kept.items (fs c)) ss)) (sym (saves_are c))
    ∙ ap was_saved c.self.view_is
