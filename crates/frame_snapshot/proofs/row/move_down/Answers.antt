use Rattle.std.proofs.Common.{◌≡◌, ℕ, ◌+◌, ◌-◌, ◌<◌, ◌≤◌, List, [], ◌∷◌, ◌++◌, length, take, drop, set, get_or, sym, ◌∙◌, ap, arith, length-drop}
use Rattle.std.proofs.lemmas.List.{take-set-le, take_more, take_more_set, drop-drop, drop-set-add, drop-set-lt, get_or-drop}
use Rattle.frame_snapshot.proofs.row.move_down.Goals as goal
use Rattle.frame_snapshot.proofs.row.move_down.Invariants.{IsMoved}

moved_next : (old now : List ℕ) (from to k : ℕ) → to ≤ from → from + k < length old → length now ≡ length old → IsMoved old now from to k → IsMoved old (set now (to + k) (get_or now (from + k) 0)) from to (k + 1)
moved_next old now from to k down inside same is =
    let there : k < length (drop to now) = omega (arith, down, inside, same, length-drop to now) in
    let there_before : k < length (drop from old) = omega (arith, inside, length-drop from old) in
    let at : (to + k) + (from - to) ≡ from + k = omega (arith, down) in
    let read : get_or now (from + k) 0 ≡ get_or (drop from old) k 0 =
    ap (λ i. get_or now i 0) (sym at)
    ∙ sym (get_or-drop (to + k) now (from - to) 0)
    ∙ ap (λ xs. get_or xs (from - to) 0) is.behind
    ∙ get_or-drop (to + k) old (from - to) 0
    ∙ ap (λ i. get_or old i 0) at
    ∙ sym (get_or-drop from old k 0) in
    let next : to + (k + 1) ≡ (to + k) + 1 = omega arith in
    record {
      before = take-set-le to now (to + k) (get_or now (from + k) 0) (omega arith) ∙ is.before;
      moved =
          ap (take (k + 1)) (drop-set-add to now k (get_or now (from + k) 0))
          ∙ take_more_set (drop to now) k (get_or now (from + k) 0) there
          ∙ ap (λ xs. xs ++ get_or now (from + k) 0 ∷ []) is.moved
          ∙ ap (λ x. take k (drop from old) ++ x ∷ []) read
          ∙ sym (take_more (drop from old) k 0 there_before);
      behind =
          drop-set-lt (to + (k + 1)) now (to + k) (get_or now (from + k) 0) (omega arith)
          ∙ ap (λ i. drop i now) next
          ∙ sym (drop-drop 1 (to + k) now)
          ∙ ap (drop 1) is.behind
          ∙ drop-drop 1 (to + k) old
          ∙ ap (λ i. drop i old) (sym next);
    }

pub loop-place-preserved : goal.loop-place-preserved
loop-place-preserved c =
    moved_next c.args.words.now c.loop-place.words c.args.from c.args.to c.loop-place.place c.requires.down
    (omega (arith, c.requires.inside, c.loop-place-test.true)) c.loop-place.auto.words c.loop-place.invariant
