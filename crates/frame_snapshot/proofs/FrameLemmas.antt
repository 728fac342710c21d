-- Frames that lie in a row of words, and what a write elsewhere leaves of them.
use Rattle.std.proofs.Common.{◌≡◌, ℕ, zero, suc, ◌+◌, ◌-◌, ◌≤◌, min, List, [], ◌∷◌, map, length, take, drop, refl, sym, ◌∙◌, ap, arith, length-drop}
use Rattle.std.proofs.lemmas.List.{take-take, drop-take, drop-drop}
use Rattle.frame_snapshot.specs.declared.activation.Activation.{Activation}
use Rattle.frame_snapshot.specs.declared.activation.Save.{Save}
use Rattle.frame_snapshot.specs.FrameStack.{Frame}
use Rattle.frame_snapshot.specs.Layout.{frame_in, kept_frame, saved_in, IsPlaced, LieBelow, AreSaves}

-- ---- rows that agree up to a place

pub take_same : (V W : List ℕ) (m k : ℕ) → take m V ≡ take m W → k ≤ m → take k V ≡ take k W
take_same V W m k same within = sym (take-take k m V within) ∙ ap (take k) same ∙ take-take k m W within

pub cut_same : (V W : List ℕ) (m b n : ℕ) → take m V ≡ take m W → b + n ≤ m → take n (drop b V) ≡ take n (drop b W)
cut_same V W m b n same within = sym (drop-take b n V) ∙ ap (drop b) (take_same V W m (b + n) same within) ∙ drop-take b n W

pub frame_same : (V W : List ℕ) (size end : ℕ) (e : Activation) → IsPlaced size e → e.top ≤ end → take end V ≡ take end W → frame_in V e ≡ frame_in W e
frame_same V W size end e placed within same =
    let locals = cut_same V W end e.base (e.floor - e.base) same (omega (arith, placed.base, placed.floor, within)) in
    let stack = cut_same V W end e.floor (e.top - e.floor) same (omega (arith, placed.floor, within)) in
    simp (locals, stack) refl

pub frames_same : (V W : List ℕ) (size end : ℕ) (es : List Activation) → LieBelow size end es → take end V ≡ take end W → map (frame_in V) es ≡ map (frame_in W) es
frames_same V W size end [] lie same = refl
frames_same V W size end (e ∷ es) lie same =
    let nearest = frame_same V W size end e lie.0 lie.1 same in
    let others = frames_same V W size e.base es lie.2 (take_same V W end e.base same (omega (arith, lie.0.base, lie.0.floor, lie.1))) in
    simp (nearest, others) refl

-- the same, of the words before two places
pub below_same : (V W : List ℕ) (size end m n : ℕ) (es : List Activation) → LieBelow size end es → take end V ≡ take end W → end ≤ m → end ≤ n → map (frame_in (take m V)) es ≡ map (frame_in (take n W)) es
below_same V W size end m n es lie same first second =
    frames_same (take m V) (take n W) size end es lie (take-take end m V first ∙ same ∙ sym (take-take end n W second))

-- ---- places

pub placed_wider : (size wider : ℕ) (e : Activation) → size ≤ wider → IsPlaced size e → IsPlaced wider e
placed_wider size wider e le placed = record {
  base = placed.base;
  floor = placed.floor;
  top = placed.top;
  limit = omega (arith, placed.limit, le);
}

pub lie_wider : (size wider end : ℕ) (es : List Activation) → size ≤ wider → LieBelow size end es → LieBelow wider end es
lie_wider size wider end [] le lie = tt
lie_wider size wider end (e ∷ es) le lie = (placed_wider size wider e le lie.0, lie.1, lie_wider size wider e.base es le lie.2)

lie_under : (size end b : ℕ) (es : List Activation) → b ≤ end → LieBelow size b es → LieBelow size end es
lie_under size end b [] le lie = tt
lie_under size end b (e ∷ es) le lie = (lie.0, omega (arith, le, lie.1), lie.2)

pub lie_dropped : (size end : ℕ) (k : ℕ) (es : List Activation) → LieBelow size end es → LieBelow size end (drop k es)
lie_dropped size end zero es lie = lie
lie_dropped size end (suc k) [] lie = tt
lie_dropped size end (suc k) (e ∷ es) lie =
    lie_under size end e.base (drop k es) (omega (arith, lie.0.base, lie.0.floor, lie.1)) (lie_dropped size e.base k es lie.2)

pub lie_both : (size a b : ℕ) (es : List Activation) → LieBelow size a es → LieBelow size b es → LieBelow size (min a b) es
lie_both size a b [] first second = tt
lie_both size a b (e ∷ es) first second = (first.0, omega (arith, first.1, second.1), first.2)

-- ---- saves

pub deeper : {X : Type 0} (x : X) (xs : List X) (d : ℕ) → d ≤ length xs → drop (suc (length xs) - d) (x ∷ xs) ≡ drop (length xs - d) xs
deeper x xs d within =
    let is : suc (length xs) - d ≡ suc (length xs - d) = omega (arith, within) in
    ap (λ n. drop n (x ∷ xs)) is

-- what is dropped twice: up to depth d, then up to depth e
pub shallower : {X : Type 0} (xs : List X) (d e : ℕ) → e ≤ d → d ≤ length xs → drop (length (drop (length xs - d) xs) - e) (drop (length xs - d) xs) ≡ drop (length xs - e) xs
shallower xs d e order within =
    let is : (length xs - d) + (length (drop (length xs - d) xs) - e) ≡ length xs - e = omega (arith, order, within, length-drop (length xs - d) xs) in
    drop-drop (length (drop (length xs - d) xs) - e) (length xs - d) xs ∙ ap (λ n. drop n xs) is

pub saves_bound : (size : ℕ) (below : List Activation) (end depth more : ℕ) (ss : List Save) → depth ≤ more → AreSaves size below end depth ss → AreSaves size below end more ss
saves_bound size below end depth more [] le are = tt
saves_bound size below end depth more (s ∷ ss) le are = (are.0, are.1, omega (arith, are.2, le), are.3, are.4)

pub saves_longer : (size : ℕ) (below : List Activation) (end longer depth : ℕ) (ss : List Save) → end ≤ longer → AreSaves size below end depth ss → AreSaves size below longer depth ss
saves_longer size below end longer depth [] le are = tt
saves_longer size below end longer depth (s ∷ ss) le are = (are.0, omega (arith, are.1, le), are.2, are.3, are.4)

-- a frame more lies below, in as many words or more
pub saves_deeper : (size wider : ℕ) (c : Activation) (below : List Activation) (end depth : ℕ) (ss : List Save) → size ≤ wider → depth ≤ length below → AreSaves size below end depth ss → AreSaves wider (c ∷ below) end depth ss
saves_deeper size wider c below end depth [] le within are = tt
saves_deeper size wider c below end depth (s ∷ ss) le within are =
    let at : s.depth ≤ length below = omega (arith, within, are.2) in
    let lie : LieBelow wider s.here.base (drop (suc (length below) - s.depth) (c ∷ below)) =
    rw (deeper c below s.depth at) (lie_wider size wider s.here.base (drop (length below - s.depth) below) le are.3) in
    (placed_wider size wider s.here le are.0, are.1, are.2, lie, saves_deeper size wider c below s.from s.depth ss le at are.4)

-- a frame less lies below
pub saves_higher : (size : ℕ) (c : Activation) (below : List Activation) (end depth : ℕ) (ss : List Save) → depth ≤ length below → AreSaves size (c ∷ below) end depth ss → AreSaves size below end depth ss
saves_higher size c below end depth [] within are = tt
saves_higher size c below end depth (s ∷ ss) within are =
    let at : s.depth ≤ length below = omega (arith, within, are.2) in
    let lie : LieBelow size s.here.base (drop (length below - s.depth) below) = rw (sym (deeper c below s.depth at)) are.3 in
    (are.0, are.1, are.2, lie, saves_higher size c below s.from s.depth ss at are.4)

-- up to the depth of a save that is gone back to
pub saves_shallower : (size : ℕ) (below : List Activation) (d end depth : ℕ) (ss : List Save) → depth ≤ d → d ≤ length below → AreSaves size below end depth ss → AreSaves size (drop (length below - d) below) end depth ss
saves_shallower size below d end depth [] order within are = tt
saves_shallower size below d end depth (s ∷ ss) order within are =
    let at : s.depth ≤ d = omega (arith, order, are.2) in
    let lie : LieBelow size s.here.base (drop (length (drop (length below - d) below) - s.depth) (drop (length below - d) below)) = rw (shallower below d s.depth at within) are.3 in
    (are.0, are.1, are.2, lie, saves_shallower size below d s.from s.depth ss at within are.4)

-- ---- saves as they are seen

-- a frame more below
pub seen_deeper : (kept : List ℕ) (f : Frame) (fs : List Frame) (size : ℕ) (below : List Activation) (end depth : ℕ) (ss : List Save) → depth ≤ length fs → AreSaves size below end depth ss → map (saved_in kept (f ∷ fs)) ss ≡ map (saved_in kept fs) ss
seen_deeper kept f fs size below end depth [] within are = refl
seen_deeper kept f fs size below end depth (s ∷ ss) within are =
    let at : s.depth ≤ length fs = omega (arith, within, are.2) in
    let first = deeper f fs s.depth at in
    let others = seen_deeper kept f fs size below s.from s.depth ss at are.4 in
    simp (first, others) refl

-- other kept words after those of the saves
pub kept_same : (kept other : List ℕ) (size : ℕ) (end : ℕ) (s : Save) → IsPlaced size s.here → s.from + (s.here.top - s.here.base) ≤ end → take end kept ≡ take end other → kept_frame kept s ≡ kept_frame other s
kept_same kept other size end s placed within same =
    let locals = cut_same kept other end s.from (s.here.floor - s.here.base) same (omega (arith, placed.base, placed.floor, within)) in
    let stack = cut_same kept other end (s.from + (s.here.floor - s.here.base)) (s.here.top - s.here.floor) same (omega (arith, placed.base, placed.floor, within)) in
    simp (locals, stack) refl

pub seen_kept : (kept other : List ℕ) (fs : List Frame) (size : ℕ) (below : List Activation) (end depth : ℕ) (ss : List Save) → AreSaves size below end depth ss → take end kept ≡ take end other → map (saved_in kept fs) ss ≡ map (saved_in other fs) ss
seen_kept kept other fs size below end depth [] are same = refl
seen_kept kept other fs size below end depth (s ∷ ss) are same =
    let first = kept_same kept other size end s are.0 are.1 same in
    let others = seen_kept kept other fs size below s.from s.depth ss are.4 (take_same kept other end s.from same (omega (arith, are.1))) in
    simp (first, others) refl

pub seen_shallower : (kept : List ℕ) (fs : List Frame) (d size : ℕ) (below : List Activation) (end depth : ℕ) (ss : List Save) → depth ≤ d → d ≤ length fs → AreSaves size below end depth ss → map (saved_in kept (drop (length fs - d) fs)) ss ≡ map (saved_in kept fs) ss
seen_shallower kept fs d size below end depth [] order within are = refl
seen_shallower kept fs d size below end depth (s ∷ ss) order within are =
    let at : s.depth ≤ d = omega (arith, order, are.2) in
    let first = shallower fs d s.depth at within in
    let others = seen_shallower kept fs d size below s.from s.depth ss at within are.4 in
    simp (first, others) refl
