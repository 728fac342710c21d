-- Frames one after another: there is one answer for any bytes.
use Rattle.std.proofs.Common.{◌≡◌, ◌≢◌, ℕ, ◌+◌, ◌*◌, ◌^◌, ◌<◌, ◌≤◌, nat_eq, List, [], ◌∷◌, ◌++◌, length, Some, Result, Ok, Err, refl, sym, ap, subst, ◌∙◌, arith, inl, inr}
use Rattle.std.specs.List.{AllByRecursion, position_from}
use Rattle.std.proofs.lemmas.Bool.{eqb-true, cases_lt}
use Rattle.std.proofs.lemmas.List.{length-append, nil_from_length}
use Rattle.std.proofs.lemmas.List.Sums.{fold-append}
use Rattle.byteorder.specs.Endian.{big_bytes}
use Rattle.byteorder.specs.Numbers.{length-bytes_high_first}
use Rattle.class_walk.specs.declared.class.Constant.{Constant}
use Rattle.class_walk.proofs.Fields.{wide2}
use Rattle.instructions.specs.declared.what.Instr.{Instr}
use Rattle.instructions.specs.declared.what.Target.{Target}
use Rattle.instructions.specs.Steps.{number_at, offsets_of}
use Rattle.code_frames.specs.declared.types.MapFrame.{MapFrame}
use Rattle.code_frames.specs.declared.refusal.Fault.{Fault}
use Rattle.code_frames.specs.declared.refusal.Fault.TheVariants as faults
use Rattle.code_frames.specs.declared.refusal.FrameRefusal.{FrameRefusal}
use Rattle.code_frames.specs.declared.refusal.FrameRefusal.TheVariants as refusals
use Rattle.code_frames.specs.Locals.{count_after}
use Rattle.code_frames.specs.StackMap.{Previous, entry, next, behind, BeginsWith, BeginsWithAll, IsTableOf, IsStackMap, HasNoFrame, IsBadBehind, IsFirstBadFrame, IsUnlessNoMemory}
use Rattle.class_walk.specs.Layout.{IsBytes}
use Rattle.code_frames.specs.Reading.{Fails, unsigned_at, frame_at, previous_of, refusal_of, GivesFrames, Answers}
use Rattle.code_frames.proofs.ByteLaws.{found, chosen, some_is, unsigned_takes, unsigned_once}
use Rattle.code_frames.proofs.FrameLaws.{frame_takes, frame_again, frame_once, few_locals}

-- ---- an instruction begins at one offset

not_before : (xs : List ℕ) (at n s : ℕ) → position_from (λ o. nat_eq o at) n xs ≡ Some s → n ≤ s
not_before [] at n s e = absurd cc
not_before (x ∷ xs) at n s e =
    chosen (nat_eq x at) (Some n) (position_from (λ o. nat_eq o at) (n + 1) xs) (Some s) (n ≤ s) e
    (λ here same. let is = some_is n s same in omega (arith, is))
    (λ other later. omega (arith, not_before xs at (n + 1) s later))

position_once : (xs : List ℕ) (a b n s : ℕ) → position_from (λ o. nat_eq o a) n xs ≡ Some s → position_from (λ o. nat_eq o b) n xs ≡ Some s → a ≡ b
position_once [] a b n s ea eb = absurd cc
position_once (x ∷ xs) a b n s ea eb =
    chosen (nat_eq x a) (Some n) (position_from (λ o. nat_eq o a) (n + 1) xs) (Some s) (a ≡ b) ea
    (λ at_a same.
    chosen (nat_eq x b) (Some n) (position_from (λ o. nat_eq o b) (n + 1) xs) (Some s) (a ≡ b) eb
    (λ at_b _. sym (eqb-true x a at_a) ∙ eqb-true x b at_b)
    (λ other later. let is = some_is n s same in absurd (omega (arith, is, not_before xs b (n + 1) s later))))
    (λ past later_a.
    chosen (nat_eq x b) (Some n) (position_from (λ o. nat_eq o b) (n + 1) xs) (Some s) (a ≡ b) eb
    (λ at_b same. let is = some_is n s same in absurd (omega (arith, is, not_before xs a (n + 1) s later_a)))
    (λ other later_b. position_once xs a b (n + 1) s later_a later_b))

pub number_once : (steps : List (Instr Target)) (a b s : ℕ) → number_at steps a ≡ Some s → number_at steps b ≡ Some s → a ≡ b
number_once steps a b s ea eb = position_once (offsets_of steps) a b 0 s ea eb

-- ---- one frame more

pub apart : (pool : List Constant) (steps : List (Instr Target)) (fs : List MapFrame) (previous : Previous) (bytes rest : List ℕ) (f : MapFrame) (others : List ℕ)
    → BeginsWithAll pool steps previous bytes fs rest → BeginsWith pool steps (behind previous fs) rest f others
    → AllByRecursion (λ g. g.step ≢ f.step) fs × (previous.least ≤ f.at)
apart pool steps [] previous bytes rest f others all b = (tt, omega (arith, b.offset))
apart pool steps (g ∷ gs) previous bytes rest f others all b =
    let more = apart pool steps gs (next previous g) all.0 rest f others all.2 b in
    let later : g.at < f.at = omega (arith, more.1) in
    let first = all.1 in
    let other : g.step ≢ f.step = λ same. (let is : g.at ≡ f.at = number_once steps g.at f.at f.step (first.step ∙ ap (λ (n : ℕ). Some n) same) b.step in omega (arith, is)) in
    ((other, more.0), omega (arith, first.offset))

pub one_more : (pool : List Constant) (steps : List (Instr Target)) (fs : List MapFrame) (previous : Previous) (bytes rest : List ℕ) (f : MapFrame) (others : List ℕ)
    → BeginsWithAll pool steps previous bytes fs rest → BeginsWith pool steps (behind previous fs) rest f others → BeginsWithAll pool steps previous bytes (fs ++ f ∷ []) others
one_more pool steps [] previous bytes rest f others all b =
    (others, subst (λ (r : List ℕ). BeginsWith pool steps previous r f others) (sym all) b, refl)
one_more pool steps (g ∷ gs) previous bytes rest f others all b = (all.0, all.1, one_more pool steps gs (next previous g) all.0 rest f others all.2 b)

-- ---- frames that are read once more are the same

all_once : (pool : List Constant) (steps : List (Instr Target)) (fs gs : List MapFrame) (previous : Previous) (bytes a b : List ℕ)
    → BeginsWithAll pool steps previous bytes fs a → BeginsWithAll pool steps previous bytes gs b → length fs ≡ length gs → (fs ≡ gs) × (a ≡ b)
all_once pool steps [] [] previous bytes a b x y same = (refl, sym x ∙ y)
all_once pool steps [] (g ∷ gs) previous bytes a b x y same = absurd (omega arith)
all_once pool steps (f ∷ fs) [] previous bytes a b x y same = absurd (omega arith)
all_once pool steps (f ∷ fs) (g ∷ gs) previous bytes a b x y same =
    let first = frame_once pool steps previous bytes f g x.0 y.0 x.1 y.1 in
    let moved : BeginsWithAll pool steps (next previous f) x.0 gs b =
    subst (λ (r : List ℕ). BeginsWithAll pool steps (next previous f) r gs b) (sym first.1) (subst (λ (h : MapFrame). BeginsWithAll pool steps (next previous h) y.0 gs b) (sym first.0) y.2) in
    let more = all_once pool steps fs gs (next previous f) x.0 a b x.2 moved (omega arith) in
    (ap (λ (h : MapFrame). h ∷ fs) first.0 ∙ ap (λ (hs : List MapFrame). g ∷ hs) more.0, more.1)

-- where the bytes begin with more frames, a frame comes after the fewer
record ComesNext (pool : List Constant) (steps : List (Instr Target)) (previous : Previous) (bytes : List ℕ) : Type 0 where
  pub frame : MapFrame
  pub others : List ℕ
  pub begins : BeginsWith pool steps previous bytes frame others

comes_next : (pool : List Constant) (steps : List (Instr Target)) (fs gs : List MapFrame) (previous : Previous) (bytes a b : List ℕ)
    → BeginsWithAll pool steps previous bytes fs a → BeginsWithAll pool steps previous bytes gs b → length fs < length gs → ComesNext pool steps (behind previous fs) a
comes_next pool steps fs [] previous bytes a b x y less = absurd (omega arith)
comes_next pool steps [] (g ∷ gs) previous bytes a b x y less = record { frame = g; others = y.0; begins = subst (λ (r : List ℕ). BeginsWith pool steps previous r g y.0) x y.1 }
comes_next pool steps (f ∷ fs) (g ∷ gs) previous bytes a b x y less =
    let first = frame_once pool steps previous bytes f g x.0 y.0 x.1 y.1 in
    let moved : BeginsWithAll pool steps (next previous f) x.0 gs b =
    subst (λ (r : List ℕ). BeginsWithAll pool steps (next previous f) r gs b) (sym first.1) (subst (λ (h : MapFrame). BeginsWithAll pool steps (next previous h) y.0 gs b) (sym first.0) y.2) in
    comes_next pool steps fs gs (next previous f) x.0 a b x.2 moved (omega arith)

-- ---- tables

table_once : (maps : List ℕ) (m n : ℕ) (a b : List ℕ) → IsTableOf maps m a → IsTableOf maps n b → (m ≡ n) × (a ≡ b)
table_once maps m n a b x y = unsigned_once 2 maps m n a b x.0 y.0 x.1 y.1

table_length : (maps : List ℕ) (n : ℕ) (bytes : List ℕ) → IsTableOf maps n bytes → length maps ≡ 2 + length bytes
table_length maps n bytes t = ap length t.1 ∙ length-append (big_bytes 2 n) bytes ∙ ap (λ (k : ℕ). k + length bytes) (length-bytes_high_first 2 n)

pub map_once : (pool : List Constant) (steps : List (Instr Target)) (locals : ℕ) (maps : List ℕ) (fs gs : List MapFrame)
    → IsStackMap pool steps locals maps fs → IsStackMap pool steps locals maps gs → fs ≡ gs
map_once pool steps locals maps fs gs x y =
    elim x [
      | inl none ↦
          elim y [
            | inl nothing ↦ none.1 ∙ sym nothing.1
            | inr t ↦ absurd (omega (arith, ap length none.0, table_length maps (length gs) t.0 t.1))
          ]
      | inr s ↦
          elim y [
            | inl nothing ↦ absurd (omega (arith, ap length nothing.0, table_length maps (length fs) s.0 s.1))
            | inr t ↦
                let same = table_once maps (length fs) (length gs) s.0 t.0 s.1 t.1 in
                (all_once pool steps fs gs (entry locals) s.0 [] [] s.2 (subst (λ (r : List ℕ). BeginsWithAll pool steps (entry locals) r gs []) (sym same.1) t.2) same.0).0
          ]
    ]

-- where the frames take all bytes, none of them is bad and no bytes are left
whole_or_bad : (pool : List Constant) (steps : List (Instr Target)) (locals count : ℕ) (bytes : List ℕ) (fs : List MapFrame) (number : ℕ)
    → length fs ≡ count → BeginsWithAll pool steps (entry locals) bytes fs [] → IsBadBehind pool steps locals count bytes number → ⊥
whole_or_bad pool steps locals count bytes fs number size all bad =
    elim bad.bad [
      | inl cut ↦
          let c = comes_next pool steps bad.frames fs (entry locals) bytes bad.others [] bad.before all (omega (arith, cut.0, bad.place)) in
          cut.1 c.frame c.others c.begins
      | inr more ↦
          more.1 (all_once pool steps bad.frames fs (entry locals) bytes bad.others [] bad.before all (omega (arith, more.0, bad.place))).1
    ]

pub map_or_bad : (pool : List Constant) (steps : List (Instr Target)) (locals : ℕ) (maps : List ℕ) (fs : List MapFrame) (number : ℕ)
    → IsStackMap pool steps locals maps fs → IsFirstBadFrame pool steps locals maps number → ⊥
map_or_bad pool steps locals maps fs number x y =
    elim x [
      | inl none ↦
          elim y [
            | inl short ↦ omega (arith, ap length none.0, short.0)
            | inr t ↦ omega (arith, ap length none.0, table_length maps t.0 t.1 t.2)
          ]
      | inr s ↦
          elim y [
            | inl short ↦ omega (arith, short.0, table_length maps (length fs) s.0 s.1)
            | inr t ↦
                let same = table_once maps (length fs) t.0 s.0 t.1 s.1 t.2 in
                whole_or_bad pool steps locals t.0 t.1 fs number same.0 (subst (λ (r : List ℕ). BeginsWithAll pool steps (entry locals) r fs []) same.1 s.2) t.3
          ]
    ]

-- a later number has a frame where the earlier one has none
not_later : (pool : List Constant) (steps : List (Instr Target)) (locals count : ℕ) (bytes : List ℕ) (m n : ℕ)
    → IsBadBehind pool steps locals count bytes m → IsBadBehind pool steps locals count bytes n → n ≤ m
not_later pool steps locals count bytes m n x y =
    elim (cases_lt m n) [
      | inl less ↦
          elim x.bad [
            | inl cut ↦
                let c = comes_next pool steps x.frames y.frames (entry locals) bytes x.others y.others x.before y.before (omega (arith, x.place, y.place)) in
                absurd (cut.1 c.frame c.others c.begins)
            | inr more ↦
                absurd (elim y.bad [ inl cut ↦ omega (arith, more.0, cut.0) | inr last ↦ omega (arith, more.0, last.0) ])
          ]
      | inr le ↦ le
    ]

pub bad_once : (pool : List Constant) (steps : List (Instr Target)) (locals : ℕ) (maps : List ℕ) (m n : ℕ)
    → IsFirstBadFrame pool steps locals maps m → IsFirstBadFrame pool steps locals maps n → m ≡ n
bad_once pool steps locals maps m n x y =
    elim x [
      | inl short ↦
          elim y [
            | inl shorter ↦ short.1 ∙ sym shorter.1
            | inr t ↦ absurd (omega (arith, short.0, table_length maps t.0 t.1 t.2))
          ]
      | inr s ↦
          elim y [
            | inl short ↦ absurd (omega (arith, short.0, table_length maps s.0 s.1 s.2))
            | inr t ↦
                let same = table_once maps s.0 t.0 s.1 t.1 s.2 t.2 in
                let moved : IsBadBehind pool steps locals s.0 s.1 n = subst (λ (r : List ℕ). IsBadBehind pool steps locals s.0 r n) (sym same.1) (subst (λ (k : ℕ). IsBadBehind pool steps locals k t.1 n) (sym same.0) t.3) in
                omega (arith, not_later pool steps locals s.0 s.1 m n s.3 moved, not_later pool steps locals s.0 s.1 n m moved s.3)
          ]
    ]

-- ---- what an answer says

pub answer_found : (pool : List Constant) (steps : List (Instr Target)) (locals : ℕ) (maps : List ℕ) (answer : Result (List MapFrame) FrameRefusal) (fs : List MapFrame)
    → Answers pool steps locals maps answer → IsStackMap pool steps locals maps fs → IsUnlessNoMemory answer (Ok fs)
answer_found pool steps locals maps (Ok gs) fs given is = inl (ap (λ (hs : List MapFrame). Ok hs) (map_once pool steps locals maps gs fs given is))
answer_found pool steps locals maps (Err (refusals.Frame number)) fs given is = absurd (map_or_bad pool steps locals maps fs number is given)
answer_found pool steps locals maps (Err refusals.NoMemory) fs given is = inr refl

pub answer_bad : (pool : List Constant) (steps : List (Instr Target)) (locals : ℕ) (maps : List ℕ) (answer : Result (List MapFrame) FrameRefusal) (number : ℕ)
    → Answers pool steps locals maps answer → IsFirstBadFrame pool steps locals maps number → IsUnlessNoMemory answer (Err (refusals.Frame number))
answer_bad pool steps locals maps (Ok gs) number given is = absurd (map_or_bad pool steps locals maps gs number given is)
answer_bad pool steps locals maps (Err (refusals.Frame other)) number given is = inl (ap (λ (n : ℕ). Err (refusals.Frame n)) (bad_once pool steps locals maps other number given is))
answer_bad pool steps locals maps (Err refusals.NoMemory) number given is = inr refl

-- ---- as a loop reads

-- `number` frames were read, and the next one goes by what these say
pub record SoFar (pool : List Constant) (steps : List (Instr Target)) (locals : ℕ) (bytes : List ℕ) (frames : List MapFrame) (left : List ℕ) (number : ℕ) (previous : Previous) : Type 0 where
  pub begins : BeginsWithAll pool steps (entry locals) bytes frames left
  pub fits : IsBytes left
  pub count : length frames ≡ number
  pub place : behind (entry locals) frames ≡ previous
  pub offsets : previous.least ≤ 65536 * number
  pub few : previous.locals ≤ 65535 * (number + 1)

pub nothing_so_far : (pool : List Constant) (steps : List (Instr Target)) (locals : ℕ) (bytes : List ℕ) → locals < 2 ^ 16 → IsBytes bytes → SoFar pool steps locals bytes [] bytes 0 (previous_of 0 locals)
nothing_so_far pool steps locals bytes small fits = record { begins = refl; fits = fits; count = refl; place = refl; offsets = omega arith; few = omega arith }

pub record OneMore (pool : List Constant) (steps : List (Instr Target)) (locals : ℕ) (bytes : List ℕ) (frames : List MapFrame) (number : ℕ) (previous : Previous) (f : MapFrame) (others : List ℕ) : Type 0 where
  pub so_far : SoFar pool steps locals bytes (frames ++ f ∷ []) others (number + 1) (next previous f)
  pub apart : AllByRecursion (λ g. g.step ≢ f.step) frames
  pub at : f.at ≤ 65536 * number + 65535
  pub locals_after : count_after previous.locals f.locals ≤ 65535 * (number + 2)

pub goes_on : (pool : List Constant) (steps : List (Instr Target)) (locals : ℕ) (bytes : List ℕ) (frames : List MapFrame) (left : List ℕ) (number : ℕ) (previous : Previous) (f : MapFrame) (others : List ℕ)
    → SoFar pool steps locals bytes frames left number previous → frame_at pool steps previous left ≡ Some (f, others)
    → OneMore pool steps locals bytes frames number previous f others
goes_on pool steps locals bytes frames left number previous f others so_far read =
    let front = frame_takes pool steps previous left f others so_far.fits read in
    let begins : BeginsWith pool steps (behind (entry locals) frames) left f others = subst (λ (p : Previous). BeginsWith pool steps p left f others) (sym so_far.place) front.begins in
    let b = front.begins in
    let grown = few_locals pool steps previous left f others front.begins in
    let size : length (frames ++ f ∷ []) ≡ number + 1 = omega (arith, length-append frames (f ∷ []), so_far.count) in
    let at : f.at ≤ 65536 * number + 65535 = omega (arith, b.offset, b.width, so_far.offsets) in
    let few : count_after previous.locals f.locals ≤ 65535 * (number + 2) = omega (arith, grown, so_far.few) in
    record {
      so_far = record {
        begins = one_more pool steps frames (entry locals) bytes left f others so_far.begins begins;
        fits = front.fits;
        count = size;
        place = fold-append next (entry locals) frames (f ∷ []) ∙ ap (λ (p : Previous). next p f) so_far.place;
        offsets = omega (arith, at);
        few = omega (arith, few);
      };
      apart = (apart pool steps frames (entry locals) bytes left f others so_far.begins begins).0;
      at = at;
      locals_after = few;
    }

pub ends : (pool : List Constant) (steps : List (Instr Target)) (locals count : ℕ) (bytes : List ℕ) (frames : List MapFrame) (left : List ℕ) (number : ℕ) (previous : Previous) (fault : Fault) (after : List ℕ)
    → SoFar pool steps locals bytes frames left number previous → number < count → Fails fault (frame_at pool steps previous left)
    → GivesFrames pool steps locals count bytes (Err (refusal_of fault number)) after
ends pool steps locals count bytes frames left number previous faults.NoMemory after so_far less fails = tt
ends pool steps locals count bytes frames left number previous faults.Malformed after so_far less fails =
    let no_frame : HasNoFrame pool steps previous left = λ f others b. (let again = frame_again pool steps previous left f others b in cc) in
    record {
      frames = frames;
      others = left;
      before = so_far.begins;
      place = so_far.count;
      bad = inl (less, subst (λ (p : Previous). HasNoFrame pool steps p left) (sym so_far.place) no_frame);
    }

pub is_done : (pool : List Constant) (steps : List (Instr Target)) (locals count : ℕ) (bytes : List ℕ) (frames : List MapFrame) (left : List ℕ) (number : ℕ) (previous : Previous)
    → SoFar pool steps locals bytes frames left number previous → number ≤ count → count ≤ number → GivesFrames pool steps locals count bytes (Ok frames) left
is_done pool steps locals count bytes frames left number previous so_far le ge = (omega (arith, so_far.count), so_far.begins)

-- ---- all of the bytes

pub read_count : (maps : List ℕ) (count : ℕ) (bytes : List ℕ) → IsBytes maps → unsigned_at 2 maps ≡ found count bytes → IsTableOf maps count bytes × IsBytes bytes
read_count maps count bytes fits read =
    let t = unsigned_takes 2 wide2 maps count bytes fits read in
    ((t.1, t.0.parts), t.0.fits)

pub refused : (pool : List Constant) (steps : List (Instr Target)) (locals count : ℕ) (maps bytes : List ℕ) (e : FrameRefusal) (left : List ℕ) → IsTableOf maps count bytes
    → GivesFrames pool steps locals count bytes (Err e) left → Answers pool steps locals maps (Err e)
refused pool steps locals count maps bytes (refusals.Frame number) left t given = inr (count, bytes, t, given)
refused pool steps locals count maps bytes refusals.NoMemory left t given = tt

pub left_over : (pool : List Constant) (steps : List (Instr Target)) (locals count : ℕ) (maps bytes : List ℕ) (frames : List MapFrame) (left : List ℕ) → IsTableOf maps count bytes
    → GivesFrames pool steps locals count bytes (Ok frames) left → (length left ≡ 0 → ⊥) → IsFirstBadFrame pool steps locals maps count
left_over pool steps locals count maps bytes frames left t given more =
    inr (count, bytes, t, record { frames = frames; others = left; before = given.1; place = given.0; bad = inr (refl, λ none. more (ap length none)) })

pub all_read : (pool : List Constant) (steps : List (Instr Target)) (locals count : ℕ) (maps bytes : List ℕ) (frames : List MapFrame) (left : List ℕ) → IsTableOf maps count bytes
    → GivesFrames pool steps locals count bytes (Ok frames) left → length left ≡ 0 → IsStackMap pool steps locals maps frames
all_read pool steps locals count maps bytes frames left t given none =
    inr (
      bytes,
      subst (λ (n : ℕ). IsTableOf maps n bytes) (sym given.0) t,
      subst (λ (r : List ℕ). BeginsWithAll pool steps (entry locals) bytes frames r) (nil_from_length left none) given.1,
    )
