-- What a call and its end make of the frames.
use Rattle.std.proofs.Common.{◌≡◌, ℕ, suc, ◌+◌, ◌-◌, ◌<◌, ◌≤◌, List, [], ◌∷◌, ◌++◌, map, length, take, drop, reverse, replicate, refl, sym, ◌∙◌, ap, arith, length-take, length-drop}
use Rattle.std.proofs.lemmas.List.{take-take, drop-drop, reverse-reverse, take_at, drop_at, reverse-append, length-map, length-reverse}
use Rattle.std.proofs.Math.Seq.{take-add}
use Rattle.frame_snapshot.specs.declared.activation.Activation.{Activation}
use Rattle.frame_snapshot.specs.declared.activation.Save.{Save}
use Rattle.frame_snapshot.specs.declared.frames.NewFrame.{NewFrame}
use Rattle.frame_snapshot.specs.declared.stage.FrameStage.TheVariants.{Begun}
use Rattle.frame_snapshot.specs.FrameStack.{Frame, with_call, without_call}
use Rattle.frame_snapshot.specs.Layout.{frame_in, saved_in, frames_over, IsPlaced, AreSaves, FitTogether}
use Rattle.frame_snapshot.proofs.FrameLemmas.{take_same, cut_same, below_same, lie_wider, saves_bound, saves_deeper, saves_higher, seen_deeper}

-- ---- the top of a stack whose top is the last

module _ (xs : List ℕ) (size count : ℕ) (within : count ≤ size) (inside : size ≤ length xs) where
  -- the words on top, and those below them
  abbrev top_words : List ℕ
  top_words = reverse (take count (drop (size - count) xs))

  stack_parts : reverse (take size xs) ≡ top_words ++ reverse (take (size - count) xs)
  stack_parts =
      let is : size ≡ (size - count) + count = omega (arith, within) in
      ap (λ n. reverse (take n xs)) is
      ∙ ap reverse (take-add (size - count) count xs)
      ∙ reverse-append (take (size - count) xs) (take count (drop (size - count) xs))

  top_size : length top_words ≡ count
  top_size = omega (arith, length-reverse (take count (drop (size - count) xs)), length-take count (drop (size - count) xs), length-drop (size - count) xs, within, inside)

  pub stack_top : take count (reverse (take size xs)) ≡ reverse (take count (drop (size - count) xs))
  stack_top = ap (take count) stack_parts ∙ take_at top_words (reverse (take (size - count) xs)) count top_size

  pub stack_rest : drop count (reverse (take size xs)) ≡ reverse (take (size - count) xs)
  stack_rest = ap (drop count) stack_parts ∙ drop_at top_words (reverse (take (size - count) xs)) count top_size

-- ---- a call

module _ (W : List ℕ) (here : Activation) (es : List Activation) (ss : List Save) (K : List ℕ) (fit : FitTogether (length W) here es ss (length K)) (call : NewFrame) (V : List ℕ) (arguments : call.arguments ≤ here.top - here.floor) (locals : call.arguments ≤ call.max_locals) (few : length es < 1023) (grown : length W ≤ length V) (before : take here.top V ≡ take here.top W) where
  abbrev base : ℕ
  base = here.top - call.arguments

  abbrev callee : Activation
  callee = record {
    method = call.method;
    step = 0;
    stage = Begun;
    monitor = call.monitor;
    base = here.top - call.arguments;
    floor = here.top - call.arguments + call.max_locals;
    top = here.top - call.arguments + call.max_locals;
    limit = here.top - call.arguments + call.max_locals + call.max_stack;
  }

  abbrev caller : Activation
  caller = record here { stage = call.caller; top = here.top - call.arguments }

  pub called_fits : here.top - call.arguments + call.max_locals + call.max_stack ≤ length V → FitTogether (length V) callee (caller ∷ es) ss (length K)
  called_fits room = record {
    placed = record { base = omega arith; floor = omega arith; top = omega arith; limit = room };
    lie_below = (
      record {
        base = fit.placed.base;
        floor = omega (arith, arguments, fit.placed.floor);
        top = omega (arith, fit.placed.top);
        limit = omega (arith, fit.placed.limit, grown);
      },
      omega arith,
      lie_wider (length W) (length V) here.base es grown fit.lie_below,
    );
    count = omega (arith, few);
    are_saves = saves_bound (length V) (caller ∷ es) (length K) (length es) (suc (length es)) ss (omega arith)
        (saves_deeper (length W) (length V) caller es (length K) (length es) ss grown (omega arith) fit.are_saves);
  }

  stack_size : (here.top - here.floor) - call.arguments ≡ here.top - call.arguments - here.floor
  stack_size = omega arith

  stack_inside : here.top - here.floor ≤ length (drop here.floor W)
  stack_inside = omega (arith, length-drop here.floor W, fit.placed.floor, fit.placed.top, fit.placed.limit)

  front : take (here.top - call.arguments) (take (here.top - call.arguments) V) ≡ take (here.top - call.arguments) W
  front = take-take (here.top - call.arguments) (here.top - call.arguments) V (omega arith) ∙ take_same V W here.top (here.top - call.arguments) before (omega arith)

  -- the callee
  module _ (zeros : take (call.max_locals - call.arguments) (drop here.top V) ≡ replicate (call.max_locals - call.arguments) 0) where
    its_locals : take (here.top - call.arguments + call.max_locals - (here.top - call.arguments)) (drop (here.top - call.arguments) V) ≡ reverse (take call.arguments (reverse (take (here.top - here.floor) (drop here.floor W)))) ++ replicate (call.max_locals - call.arguments) 0
    its_locals =
        let size : here.top - call.arguments + call.max_locals - (here.top - call.arguments) ≡ call.arguments + (call.max_locals - call.arguments) = omega (arith, locals) in
        let seam : (here.top - call.arguments) + call.arguments ≡ here.top = omega (arith, arguments) in
        let place : here.floor + ((here.top - here.floor) - call.arguments) ≡ here.top - call.arguments = omega (arith, arguments, fit.placed.floor) in
        let taken : take call.arguments (drop (here.top - call.arguments) V) ≡ take call.arguments (drop (here.top - call.arguments) W) =
        cut_same V W here.top (here.top - call.arguments) call.arguments before (omega (arith, seam)) in
        ap (λ n. take n (drop (here.top - call.arguments) V)) size
        ∙ take-add call.arguments (call.max_locals - call.arguments) (drop (here.top - call.arguments) V)
        ∙ ap (λ xs. xs ++ take (call.max_locals - call.arguments) (drop call.arguments (drop (here.top - call.arguments) V))) (taken ∙ sym (arguments_are place))
        ∙ ap (λ xs. reverse (take call.arguments (reverse (take (here.top - here.floor) (drop here.floor W)))) ++ take (call.max_locals - call.arguments) xs) (drop-drop call.arguments (here.top - call.arguments) V ∙ ap (λ n. drop n V) seam)
        ∙ ap (λ xs. reverse (take call.arguments (reverse (take (here.top - here.floor) (drop here.floor W)))) ++ xs) zeros
      where
        arguments_are : here.floor + ((here.top - here.floor) - call.arguments) ≡ here.top - call.arguments → reverse (take call.arguments (reverse (take (here.top - here.floor) (drop here.floor W)))) ≡ take call.arguments (drop (here.top - call.arguments) W)
        arguments_are place =
            ap reverse (stack_top (drop here.floor W) (here.top - here.floor) call.arguments arguments stack_inside)
            ∙ reverse-reverse (take call.arguments (drop ((here.top - here.floor) - call.arguments) (drop here.floor W)))
            ∙ ap (take call.arguments) (drop-drop ((here.top - here.floor) - call.arguments) here.floor W)
            ∙ ap (λ n. take call.arguments (drop n W)) place

    its_stack : reverse (take (here.top - call.arguments + call.max_locals - (here.top - call.arguments + call.max_locals)) (drop (here.top - call.arguments + call.max_locals) V)) ≡ []
    its_stack =
        let none : here.top - call.arguments + call.max_locals - (here.top - call.arguments + call.max_locals) ≡ 0 = omega arith in
        ap (λ n. reverse (take n (drop (here.top - call.arguments + call.max_locals) V))) none

    its_room : here.top - call.arguments + call.max_locals + call.max_stack - (here.top - call.arguments + call.max_locals) ≡ call.max_stack
    its_room = omega arith

    -- the caller
    waiting_locals : take (here.floor - here.base) (drop here.base (take (here.top - call.arguments) V)) ≡ take (here.floor - here.base) (drop here.base W)
    waiting_locals = cut_same (take (here.top - call.arguments) V) W (here.top - call.arguments) here.base (here.floor - here.base) front (omega (arith, arguments, fit.placed.base, fit.placed.floor))

    waiting_stack : reverse (take (here.top - call.arguments - here.floor) (drop here.floor (take (here.top - call.arguments) V))) ≡ drop call.arguments (reverse (take (here.top - here.floor) (drop here.floor W)))
    waiting_stack =
        ap reverse (cut_same (take (here.top - call.arguments) V) W (here.top - call.arguments) here.floor (here.top - call.arguments - here.floor) front (omega (arith, arguments, fit.placed.floor)))
        ∙ ap (λ n. reverse (take n (drop here.floor W))) (sym stack_size)
        ∙ sym (stack_rest (drop here.floor W) (here.top - here.floor) call.arguments arguments stack_inside)

    waiting_room : here.limit - (here.top - call.arguments) ≡ here.limit - here.top + call.arguments
    waiting_room = omega (arith, arguments, fit.placed.top)

    still_below : map (frame_in (take (here.top - call.arguments) V)) es ≡ map (frame_in (take here.base W)) es
    still_below = below_same V W (length W) here.base (here.top - call.arguments) here.base es fit.lie_below
        (take_same V W here.top here.base before (omega (arith, fit.placed.base, fit.placed.floor)))
        (omega (arith, arguments, fit.placed.base, fit.placed.floor)) (omega arith)

    pub called_seen : frames_over V callee (caller ∷ es) ss K ≡ with_call (frames_over W here es ss K) call
    called_seen = simp (its_locals, its_stack, its_room, waiting_locals, waiting_stack, waiting_room, still_below, still_saved) refl
      where
        still_saved : (f : Frame) → map (saved_in K (f ∷ map (frame_in (take here.base W)) es)) ss ≡ map (saved_in K (map (frame_in (take here.base W)) es)) ss
        still_saved f = seen_deeper K f (map (frame_in (take here.base W)) es) (length W) es (length K) (length es) ss
            (omega (arith, length-map es (frame_in (take here.base W)))) fit.are_saves

-- ---- the end of a call

module _ (W : List ℕ) (here c : Activation) (es : List Activation) (ss : List Save) (K : List ℕ) (fit : FitTogether (length W) here (c ∷ es) ss (length K)) (count : ℕ) (V : List ℕ) (words : count ≤ here.top - here.floor) (room : count ≤ c.limit - c.top) (same_size : length V ≡ length W) (before : take c.top V ≡ take c.top W) (moved : take count (drop c.top V) ≡ take count (drop (here.top - count) W)) where
  abbrev caller_again : Activation
  caller_again = record c { top = c.top + count }

  placed : IsPlaced (length W) c
  placed = fit.lie_below.0

  pub resumed_fits : AreSaves (length W) (c ∷ es) (length K) (length es) ss → FitTogether (length V) caller_again es ss (length K)
  resumed_fits shallow = record {
    placed = record {
      base = placed.base;
      floor = omega (arith, placed.floor);
      top = omega (arith, room, placed.top);
      limit = omega (arith, placed.limit, same_size);
    };
    lie_below = rw same_size fit.lie_below.2;
    count = omega (arith, fit.count);
    are_saves = rw same_size (saves_higher (length W) c es (length K) (length es) ss (omega arith) shallow);
  }

  resumed_locals : take (c.floor - c.base) (drop c.base V) ≡ take (c.floor - c.base) (drop c.base (take here.base W))
  resumed_locals = cut_same V (take here.base W) c.top c.base (c.floor - c.base) below_top (omega (arith, placed.base, placed.floor))
    where
      below_top : take c.top V ≡ take c.top (take here.base W)
      below_top = before ∙ sym (take-take c.top here.base W fit.lie_below.1)

  resumed_stack : reverse (take (c.top + count - c.floor) (drop c.floor V)) ≡ take count (reverse (take (here.top - here.floor) (drop here.floor W))) ++ reverse (take (c.top - c.floor) (drop c.floor (take here.base W)))
  resumed_stack =
      let size : c.top + count - c.floor ≡ (c.top - c.floor) + count = omega (arith, placed.floor) in
      let place : c.floor + (c.top - c.floor) ≡ c.top = omega (arith, placed.floor) in
      let low : take (c.top - c.floor) (drop c.floor V) ≡ take (c.top - c.floor) (drop c.floor (take here.base W)) =
      cut_same V (take here.base W) c.top c.floor (c.top - c.floor) (before ∙ sym (take-take c.top here.base W fit.lie_below.1)) (omega (arith, place)) in
      let high : take count (drop (c.top - c.floor) (drop c.floor V)) ≡ take count (drop (here.top - count) W) =
      ap (take count) (drop-drop (c.top - c.floor) c.floor V ∙ ap (λ n. drop n V) place) ∙ moved in
      ap (λ n. reverse (take n (drop c.floor V))) size
      ∙ ap reverse (take-add (c.top - c.floor) count (drop c.floor V))
      ∙ reverse-append (take (c.top - c.floor) (drop c.floor V)) (take count (drop (c.top - c.floor) (drop c.floor V)))
      ∙ ap (λ xs. reverse (take count (drop (c.top - c.floor) (drop c.floor V))) ++ reverse xs) low
      ∙ ap (λ xs. reverse xs ++ reverse (take (c.top - c.floor) (drop c.floor (take here.base W)))) (high ∙ sym from_top)
      ∙ ap (λ xs. xs ++ reverse (take (c.top - c.floor) (drop c.floor (take here.base W)))) (sym top_is)
    where
      inside : here.top - here.floor ≤ length (drop here.floor W)
      inside = omega (arith, length-drop here.floor W, fit.placed.floor, fit.placed.top, fit.placed.limit)

      top_is : take count (reverse (take (here.top - here.floor) (drop here.floor W))) ≡ reverse (take count (drop ((here.top - here.floor) - count) (drop here.floor W)))
      top_is = stack_top (drop here.floor W) (here.top - here.floor) count words inside

      from_top : take count (drop ((here.top - here.floor) - count) (drop here.floor W)) ≡ take count (drop (here.top - count) W)
      from_top =
          let at : here.floor + ((here.top - here.floor) - count) ≡ here.top - count = omega (arith, words, fit.placed.floor) in
          ap (take count) (drop-drop ((here.top - here.floor) - count) here.floor W ∙ ap (λ n. drop n W) at)

  resumed_room : c.limit - (c.top + count) ≡ c.limit - c.top - count
  resumed_room = omega arith

  resumed_below : map (frame_in (take c.base V)) es ≡ map (frame_in (take here.base W)) es
  resumed_below = below_same V W (length W) c.base c.base here.base es fit.lie_below.2
      (take_same V W c.top c.base before (omega (arith, placed.base, placed.floor)))
      (omega arith) (omega (arith, placed.base, placed.floor, fit.lie_below.1))

  pub resumed_seen : AreSaves (length W) (c ∷ es) (length K) (length es) ss → frames_over V caller_again es ss K ≡ without_call (frames_over W here (c ∷ es) ss K) count
  resumed_seen shallow =
      let saved = sym (seen_deeper K (frame_in (take here.base W) c) (map (frame_in (take here.base W)) es) (length W) (c ∷ es) (length K) (length es) ss (omega (arith, length-map es (frame_in (take here.base W)))) shallow) in
      simp (resumed_locals, resumed_stack, resumed_room, resumed_below, saved) refl
