-- What saving, going back and dropping a save make of the frames.
use Rattle.std.proofs.Common.{◌≡◌, ℕ, suc, ◌+◌, ◌-◌, ◌<◌, ◌≤◌, min, Bool, true, false, ◌||◌, nat_eq, List, [], ◌∷◌, ◌++◌, map, length, take, drop, get_or, reverse, refl, sym, ◌∙◌, ap, arith, length-take, length-drop, length-append}
use Rattle.std.proofs.lemmas.List.{take-take, drop-take, drop-drop, drop-map, take_at, drop_at, take_all, take_more, take-append-drop, reverse-append, length-map, length-reverse}
use Rattle.std.proofs.lemmas.Bool.Decides.{nat_tests}
use Rattle.std.specs.Prelude.{◌==◌}
use Rattle.std.specs.List.{list_any}
use Rattle.frame_snapshot.specs.declared.activation.Activation.{Activation}
use Rattle.frame_snapshot.specs.declared.activation.Save.{Save}
use Rattle.frame_snapshot.specs.FrameStack.{Frame, Saved, with_save, without_save, restored}
use Rattle.frame_snapshot.specs.Layout.{frame_in, kept_frame, saved_in, frames_over, IsPlaced, AreSaves, FitTogether}
use Rattle.frame_snapshot.proofs.FrameLemmas.{take_same, cut_same, below_same, lie_dropped, lie_both, saves_bound, saves_shallower, seen_kept, seen_shallower}

-- ---- a save more

module _ (W : List ℕ) (here : Activation) (es : List Activation) (ss : List Save) (K : List ℕ) (fit : FitTogether (length W) here es ss (length K)) where
  abbrev cut : List ℕ
  cut = take (here.top - here.base) (drop here.base W)

  abbrev save : Save
  save = record { here = here; from = length K; depth = length es }

  long : length (K ++ cut) ≡ length K + (here.top - here.base)
  long = omega (arith, length-append K cut, length-take (here.top - here.base) (drop here.base W), length-drop here.base W, fit.placed.top, fit.placed.limit)

  pub saved_fits : FitTogether (length W) here es (save ∷ ss) (length (K ++ cut))
  saved_fits = record {
    placed = fit.placed;
    lie_below = fit.lie_below;
    count = fit.count;
    are_saves = (fit.placed, omega (arith, long), omega arith, rw all fit.lie_below, fit.are_saves);
  }
    where
      all : drop (length es - length es) es ≡ es
      all = let none : length es - length es ≡ 0 = omega arith in ap (λ n. drop n es) none

  pub saved_seen : frames_over W here es (save ∷ ss) (K ++ cut) ≡ with_save (frames_over W here es ss K)
  saved_seen = simp (locals, stack, all, others) refl
    where
      fs : List Frame
      fs = map (frame_in (take here.base W)) es

      behind : drop (length K) (K ++ cut) ≡ cut
      behind = drop_at K cut (length K) refl

      locals : take (here.floor - here.base) (drop (length K) (K ++ cut)) ≡ take (here.floor - here.base) (drop here.base W)
      locals =
          ap (take (here.floor - here.base)) behind
          ∙ take-take (here.floor - here.base) (here.top - here.base) (drop here.base W) (omega (arith, fit.placed.floor))

      stack : take (here.top - here.floor) (drop (length K + (here.floor - here.base)) (K ++ cut)) ≡ take (here.top - here.floor) (drop here.floor W)
      stack =
          let size : here.top - here.base ≡ (here.floor - here.base) + (here.top - here.floor) = omega (arith, fit.placed.base, fit.placed.floor) in
          let place : here.base + (here.floor - here.base) ≡ here.floor = omega (arith, fit.placed.base) in
          ap (take (here.top - here.floor)) (sym (drop-drop (here.floor - here.base) (length K) (K ++ cut)))
          ∙ ap (λ xs. take (here.top - here.floor) (drop (here.floor - here.base) xs)) behind
          ∙ ap (λ n. take (here.top - here.floor) (drop (here.floor - here.base) (take n (drop here.base W)))) size
          ∙ ap (take (here.top - here.floor)) (drop-take (here.floor - here.base) (here.top - here.floor) (drop here.base W))
          ∙ take-take (here.top - here.floor) (here.top - here.floor) (drop (here.floor - here.base) (drop here.base W)) (omega arith)
          ∙ ap (take (here.top - here.floor)) (drop-drop (here.floor - here.base) here.base W)
          ∙ ap (λ n. take (here.top - here.floor) (drop n W)) place

      all : drop (length (map (frame_in (take here.base W)) es) - length es) (map (frame_in (take here.base W)) es) ≡ map (frame_in (take here.base W)) es
      all =
          let none : length (map (frame_in (take here.base W)) es) - length es ≡ 0 = omega (arith, length-map es (frame_in (take here.base W))) in
          ap (λ n. drop n (map (frame_in (take here.base W)) es)) none

      others : map (saved_in (K ++ cut) (map (frame_in (take here.base W)) es)) ss ≡ map (saved_in K (map (frame_in (take here.base W)) es)) ss
      others = seen_kept (K ++ cut) K (map (frame_in (take here.base W)) es) (length W) es (length K) (length es) ss fit.are_saves
          (take_at K cut (length K) refl ∙ sym (take_all (length K) K (omega arith)))

-- ---- the last save is taken off

module _ (W : List ℕ) (here : Activation) (es : List Activation) (s : Save) (ss : List Save) (K : List ℕ) (fit : FitTogether (length W) here es (s ∷ ss) (length K)) where
  short : length (take s.from K) ≡ s.from
  short = omega (arith, length-take s.from K, fit.are_saves.1)

  pub dropped_fits : FitTogether (length W) here es ss (length (take s.from K))
  dropped_fits = record {
    placed = fit.placed;
    lie_below = fit.lie_below;
    count = fit.count;
    are_saves = rw short (saves_bound (length W) es s.from s.depth (length es) ss fit.are_saves.2 fit.are_saves.4);
  }

  seen_still : (fs : List Frame) → map (saved_in (take s.from K) fs) ss ≡ map (saved_in K fs) ss
  seen_still fs = seen_kept (take s.from K) K fs (length W) es s.from s.depth ss fit.are_saves.4 (take-take s.from s.from K (omega arith))

  pub dropped_seen : frames_over W here es ss (take s.from K) ≡ without_save (frames_over W here es (s ∷ ss) K)
  dropped_seen = let same = seen_still (map (frame_in (take here.base W)) es) in simp (same) refl

  -- ---- back to it

  module _ (V : List ℕ) (same_size : length V ≡ length W) (before : take s.here.base V ≡ take s.here.base W) (copied : take (s.here.top - s.here.base) (drop s.here.base V) ≡ take (s.here.top - s.here.base) (drop s.from K)) where
    abbrev left : List Activation
    left = drop (length es - s.depth) es

    deep : length (drop (length es - s.depth) es) ≡ s.depth
    deep = omega (arith, length-drop (length es - s.depth) es, fit.are_saves.2)

    pub restored_fits : FitTogether (length V) s.here left ss (length (take s.from K))
    restored_fits = record {
      placed = rw same_size fit.are_saves.0;
      lie_below = rw same_size fit.are_saves.3;
      count = omega (arith, deep, fit.are_saves.2, fit.count);
      are_saves = rw same_size (rw short (rw deep (saves_shallower (length W) es s.depth s.from s.depth ss (omega arith) fit.are_saves.2 fit.are_saves.4)));
    }

    frame_back : frame_in V s.here ≡ kept_frame K s
    frame_back = simp (locals, stack) refl
      where
        placed : IsPlaced (length W) s.here
        placed = fit.are_saves.0

        locals : take (s.here.floor - s.here.base) (drop s.here.base V) ≡ take (s.here.floor - s.here.base) (drop s.from K)
        locals = take_same (drop s.here.base V) (drop s.from K) (s.here.top - s.here.base) (s.here.floor - s.here.base) copied (omega (arith, placed.floor))

        stack : take (s.here.top - s.here.floor) (drop s.here.floor V) ≡ take (s.here.top - s.here.floor) (drop (s.from + (s.here.floor - s.here.base)) K)
        stack =
            let place : s.here.base + (s.here.floor - s.here.base) ≡ s.here.floor = omega (arith, placed.base) in
            ap (λ n. take (s.here.top - s.here.floor) (drop n V)) (sym place)
            ∙ ap (take (s.here.top - s.here.floor)) (sym (drop-drop (s.here.floor - s.here.base) s.here.base V))
            ∙ cut_same (drop s.here.base V) (drop s.from K) (s.here.top - s.here.base) (s.here.floor - s.here.base) (s.here.top - s.here.floor) copied (omega (arith, placed.base, placed.floor))
            ∙ ap (take (s.here.top - s.here.floor)) (drop-drop (s.here.floor - s.here.base) s.from K)

    below_back : map (frame_in (take s.here.base V)) (drop (length es - s.depth) es) ≡ drop (length (map (frame_in (take here.base W)) es) - s.depth) (map (frame_in (take here.base W)) es)
    below_back =
        below_same V W (length W) (min s.here.base here.base) s.here.base here.base (drop (length es - s.depth) es)
        (lie_both (length W) s.here.base here.base (drop (length es - s.depth) es) fit.are_saves.3 (lie_dropped (length W) here.base (length es - s.depth) es fit.lie_below))
        (take_same V W s.here.base (min s.here.base here.base) before (omega arith)) (omega arith) (omega arith)
        ∙ sym (drop-map (frame_in (take here.base W)) (length es - s.depth) es)
        ∙ ap (λ n. drop (n - s.depth) (map (frame_in (take here.base W)) es)) (sym (length-map es (frame_in (take here.base W))))

    pub restored_seen : frames_over V s.here left ss (take s.from K) ≡ restored (frames_over W here es (s ∷ ss) K)
    restored_seen =
        let fs : List Frame = map (frame_in (take here.base W)) es in
        let others = seen_still (drop (length fs - s.depth) fs) ∙ seen_shallower K fs s.depth (length W) es s.from s.depth ss (omega arith) (omega (arith, length-map es (frame_in (take here.base W)), fit.are_saves.2)) fit.are_saves.4 in
        simp (frame_back, below_back, others) refl

-- ---- the top frame was on top at a save

depth_is : (fs : List Frame) (d : ℕ) → d ≤ length fs → length (drop (length fs - d) fs) ≡ d
depth_is fs d within = omega (arith, length-drop (length fs - d) fs, within)

abbrev pub is_top : List Frame → Saved → Bool
is_top fs save = length save.below == length fs

none_is_top : (K : List ℕ) (fs : List Frame) (size : ℕ) (es : List Activation) (end depth : ℕ) (ss : List Save) → depth < length fs → AreSaves size es end depth ss → list_any (is_top fs) (map (saved_in K fs) ss) ≡ false
none_is_top K fs size es end depth [] less are = refl
none_is_top K fs size es end depth (s ∷ ss) less are =
    let below : s.depth < length fs = omega (arith, less, are.2) in
    let at = depth_is fs s.depth (omega (arith, below)) in
    let others = none_is_top K fs size es s.from s.depth ss below are.4 in
    let test : nat_eq s.depth (length fs) ≡ false = grind (arith, nat_tests) in
    ap (λ n. nat_eq n (length fs) || list_any (is_top fs) (map (saved_in K fs) ss)) at
    ∙ ap (λ b. b || list_any (is_top fs) (map (saved_in K fs) ss)) test
    ∙ others

pub top_is_saved : (K : List ℕ) (fs : List Frame) (size : ℕ) (es : List Activation) (end : ℕ) (s : Save) (ss : List Save) → AreSaves size es end (length fs) (s ∷ ss) → list_any (is_top fs) (map (saved_in K fs) (s ∷ ss)) ≡ nat_eq s.depth (length fs)
top_is_saved K fs size es end s ss are =
    ap (λ n. nat_eq n (length fs) || list_any (is_top fs) (map (saved_in K fs) ss)) (depth_is fs s.depth are.2)
    ∙ by_test (nat_eq s.depth (length fs)) refl
  where
    by_test : (t : Bool) → nat_eq s.depth (length fs) ≡ t → (nat_eq s.depth (length fs) || list_any (is_top fs) (map (saved_in K fs) ss)) ≡ nat_eq s.depth (length fs)
    by_test true is = rw is refl
    by_test false is =
        let less : s.depth < length fs = grind (arith, nat_tests, are.2) in
        rw is (none_is_top K fs size es s.from s.depth ss less are.4)

-- no save is of the top frame: each is of one below
pub unsaved_shallower : (K : List ℕ) (fs : List Frame) (size : ℕ) (c : Activation) (es : List Activation) (end : ℕ) (ss : List Save) → length fs ≡ suc (length es) → list_any (is_top fs) (map (saved_in K fs) ss) ≡ false → AreSaves size (c ∷ es) end (suc (length es)) ss → AreSaves size (c ∷ es) end (length es) ss
unsaved_shallower K fs size c es end [] count none are = tt
unsaved_shallower K fs size c es end (s ∷ ss) count none are =
    let test : nat_eq s.depth (length fs) ≡ false = sym (top_is_saved K fs size (c ∷ es) end s ss (saves_bound size (c ∷ es) end (suc (length es)) (length fs) (s ∷ ss) (omega (arith, count)) are)) ∙ none in
    let shallow : s.depth ≤ length es = grind (arith, nat_tests, count, are.2) in
    (are.0, are.1, shallow, are.3, are.4)

-- ---- lists from the end

pub drop-reverse : {X : Type 0} (xs : List X) (d : ℕ) → reverse (take d xs) ≡ drop (length (reverse xs) - d) (reverse xs)
drop-reverse xs d =
    sym (
    ap (λ ys. drop (length ys - d) ys) (ap reverse (sym (take-append-drop d xs)) ∙ reverse-append (take d xs) (drop d xs))
    ∙ drop_at (reverse (drop d xs)) (reverse (take d xs)) (length (reverse (drop d xs) ++ reverse (take d xs)) - d) size)
  where
    size : length (reverse (drop d xs)) ≡ length (reverse (drop d xs) ++ reverse (take d xs)) - d
    size = omega (arith, length-append (reverse (drop d xs)) (reverse (take d xs)), length-reverse (drop d xs), length-reverse (take d xs), length-drop d xs, length-take d xs)

pub reverse_last : {X : Type 0} (xs : List X) (x : X) → 0 < length xs → x ≡ get_or xs (length xs - 1) x → reverse xs ≡ x ∷ reverse (take (length xs - 1) xs)
reverse_last xs x some is =
    let whole : length xs ≤ length xs - 1 + 1 = omega (arith, some) in
    let inside : length xs - 1 < length xs = omega (arith, some) in
    ap reverse (sym (take_all (length xs - 1 + 1) xs whole))
    ∙ ap reverse (take_more xs (length xs - 1) x inside)
    ∙ reverse-append (take (length xs - 1) xs) (get_or xs (length xs - 1) x ∷ [])
    ∙ ap (λ y. y ∷ reverse (take (length xs - 1) xs)) (sym is)
