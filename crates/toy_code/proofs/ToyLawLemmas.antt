-- Toy programs go in order, are grounded and keep start words.
use Rattle.std.proofs.Common.{◌≡◌, inl, inr, ℕ, ◌<◌, Bool, true, false, List, Option, Some, None, refl, sym, ◌∙◌, ap, subst, arith}
use Rattle.std.specs.Prelude.{◌⊎◌, ◌^◌, slice_get}
use Rattle.std.specs.Int.{w32, cast_signed}
use Rattle.op_core.specs.declared.Op.{Op}
use Rattle.op_core.specs.declared.Op.TheVariants.{Wait, Rewake, Print, New, Init, InitDone, End}
use Rattle.op_core.specs.declared.Line.{Line}
use Rattle.op_core.specs.declared.Line.TheVariants.{Int}
use Rattle.op_core.specs.declared.Reply.{Reply}
use Rattle.op_core.specs.declared.Reply.TheVariants.{Value, Done}
use Rattle.op_core.specs.declared.Next.TheVariants.{Want, Ended}
use Rattle.op_core.specs.OrdinaryState.{IsThere}
use Rattle.op_core.specs.InPlaceList.{IsAllThere, IsInRange}
use Rattle.op_core.specs.Orderly.{IsWait, IsRewake, CanStand, at_first, by_silent, by_reply, by_start, IsOrderly, KeepsStartWord}
use Rattle.op_core.proofs.StandLemmas.{IsClosed, grounded_by, start_words_by}
use Rattle.toy_code.specs.declared.script.ToyStep.{ToyStep}
use Rattle.toy_code.specs.declared.script.ToyStep.TheVariants.{Pass, Call, Return, Do, Show, WaitOn}
use Rattle.toy_code.specs.declared.script.ToyScript.{ToyScript}
use Rattle.toy_code.specs.declared.script.ToyPlace.{ToyPlace}
use Rattle.toy_code.specs.Toy.{ToyState, steps_of, started, half_of_wait, next_at, waited, answered, place_after, toy_code}
use Rattle.toy_code.specs.ToyLaws.{Executes, EachDone, EachWaitedOn, IsOrderlyOp, ToysAreOrderly, ToysAreGrounded, ToysKeepStartWords}

-- a fact of each operation that a step may want
wanted_fits : (Fact : Op → Type 0) (x : Option ToyStep) (p : ToyPlace) → ((op : Op) → x ≡ Some (Do op) → Fact op) → ((r : ℕ) (waits : Bool) → x ≡ Some (WaitOn r) → Fact (half_of_wait r waits)) → ((line : Line) → Fact (Print line)) → Fact (End None) → (op : Op) → next_at x p ≡ Want op → Fact op
wanted_fits Fact None p done waits prints ends op wanted = let same : End None ≡ op = cc in subst Fact same ends
wanted_fits Fact (Some Pass) p done waits prints ends op wanted = cc
wanted_fits Fact (Some Call) p done waits prints ends op wanted = cc
wanted_fits Fact (Some Return) p done waits prints ends op wanted = cc
wanted_fits Fact (Some (Do wants)) p done waits prints ends op wanted = let same : wants ≡ op = cc in done op (ap (λ y. Some (Do y)) same)
wanted_fits Fact (Some Show) p done waits prints ends op wanted = let same : Print (Int (cast_signed w32 p.value)) ≡ op = cc in subst Fact same (prints (Int (cast_signed w32 p.value)))
wanted_fits Fact (Some (WaitOn r)) p done waits prints ends op wanted = let same : half_of_wait r p.waits ≡ op = cc in subst Fact same (waits r p.waits refl)

-- threads of a program go on in it
module _ (scripts : List ToyScript) where
  executes_closed : IsClosed toy_code (Executes scripts)
  executes_closed = record {
    silent = λ l own is. record { program = own.program; own = own.own };
    reply = λ l op reply own wanted goes fits. record { program = own.program; own = own.own };
    child = λ l r p own wanted. record { program = own.program; own = (r, ap (λ x. steps_of x r) own.program) };
  }

  -- what they want is what the scripts do, or a half of a wait, or a line, or the end
  wanted_of : (Fact : Op → Type 0) → EachDone Fact scripts → EachWaitedOn (λ r. Fact (Wait r) × Fact (Rewake r)) scripts → ((line : Line) → Fact (Print line)) → Fact (End None) → (l : ToyState) (op : Op) → Executes scripts l → toy_code.next l ≡ Want op → Fact op
  wanted_of Fact done waits prints ends l op own wanted =
      let at : (x : Option ToyStep) → slice_get l.steps l.place.step ≡ x → slice_get (steps_of scripts own.own.0) l.place.step ≡ x
      = λ x is. subst (λ steps. slice_get steps l.place.step ≡ x) own.own.1 is in
      wanted_fits Fact (slice_get l.steps l.place.step) l.place
      (λ does is. done own.own.0 l.place.step does (at (Some (Do does)) is))
      (λ r half is. let both : Fact (Wait r) × Fact (Rewake r) = waits own.own.0 l.place.step r (at (Some (WaitOn r)) is) in
      elim half as (λ b. Fact (half_of_wait r b)) [ true ↦ both.1 | false ↦ both.0 ])
      prints ends op wanted

pub toys_grounded : ToysAreGrounded
toys_grounded scripts start execute done waits =
    grounded_by ToyState toy_code (Executes scripts) (executes_closed scripts) start execute
    (wanted_of scripts (λ op. IsAllThere start.objects op × IsInRange op) done
    (λ r i q is. let there : IsThere start.objects q × (q < 2 ^ 32) = waits r i q is in (there, there))
    (λ line. (tt, tt)) (tt, tt))

pub toys_keep : ToysKeepStartWords
toys_keep scripts is_thread start execute done =
    start_words_by ToyState toy_code (Executes scripts) (executes_closed scripts) is_thread start execute
    (wanted_of scripts (KeepsStartWord is_thread start.objects) done (λ r i q is. (tt, tt)) (λ line. tt) tt)

-- the first half of a wait is wanted at the step of a wait alone
first_half : (x : Option ToyStep) (p : ToyPlace) (r : ℕ) → (x ≡ Some (Do (Wait r)) → ⊥) → next_at x p ≡ Want (Wait r) → (x ≡ Some (WaitOn r)) × (p.waits ≡ false)
first_half None p r other wanted = cc
first_half (Some Pass) p r other wanted = cc
first_half (Some Call) p r other wanted = cc
first_half (Some Return) p r other wanted = cc
first_half (Some (Do op)) p r other wanted = let same : op ≡ Wait r = cc in absurd (other (ap (λ y. Some (Do y)) same))
first_half (Some Show) p r other wanted = cc
first_half (Some (WaitOn q)) p r other wanted = half p.waits refl wanted
  where
    half : (waits : Bool) → waits ≡ p.waits → Want (half_of_wait q waits) ≡ Want (Wait r) → (Some (WaitOn q) ≡ Some (WaitOn r)) × (p.waits ≡ false)
    half false is want = let same : q ≡ r = cc in (ap (λ y. Some (WaitOn y)) same, sym is)
    half true is want = cc

answered_awake : (reply : Reply) (p : ToyPlace) → (answered reply p).waits ≡ false
answered_awake (Value v) p = refl
answered_awake _ p = refl

-- what a reply leaves: a thread that waits no more, or one whose first half of a wait was just done, or one
-- at its end
abbrev IsLeft : Option ToyStep → Reply → ToyPlace → Type 0
IsLeft x reply p = ((place_after x reply p).waits ≡ false)
    ⊎ (((r : ℕ) × (x ≡ Some (WaitOn r)) × (reply ≡ Done) × (p.waits ≡ false)) ⊎ (x ≡ None))

left_by_reply : (x : Option ToyStep) (reply : Reply) (p : ToyPlace) → IsLeft x reply p
left_by_reply None reply p = inr (inr refl)
left_by_reply (Some (WaitOn r)) Done p = half p.waits refl
  where
    half : (waits : Bool) → waits ≡ p.waits → ((waited p.waits p).waits ≡ false) ⊎ (((q : ℕ) × (Some (WaitOn r) ≡ Some (WaitOn q)) × (Done ≡ Done) × (p.waits ≡ false)) ⊎ (Some (WaitOn r) ≡ None))
    half true is = inl (ap (λ b. (waited b p).waits) (sym is))
    half false is = inr (inl (r, refl, refl, sym is))
left_by_reply (Some step) reply p = inl (answered_awake reply p)

-- a thread that waits no more doesn't want the second half of a wait
rewake_at : (x : Option ToyStep) (p : ToyPlace) → ((r : ℕ) → x ≡ Some (Do (Rewake r)) → ⊥) → p.waits ≡ false → IsRewake (next_at x p) → ⊥
rewake_at (Some (Do (Rewake r))) p other awake rewakes = other r refl
rewake_at (Some (WaitOn r)) p other awake rewakes = subst (λ b. IsRewake (Want (half_of_wait r b))) awake rewakes
rewake_at None p other awake rewakes = rewakes
rewake_at (Some (Do op)) p other awake rewakes = rewakes
rewake_at (Some step) p other awake rewakes = rewakes

-- after the first half of a wait was done, it does
second_half : (steps : List ToyStep) (p : ToyPlace) (r : ℕ) → slice_get steps p.step ≡ Some (WaitOn r) → p.waits ≡ false
    → next_at (slice_get steps (place_after (slice_get steps p.step) Done p).step) (place_after (slice_get steps p.step) Done p) ≡ Want (Rewake r)
second_half steps p r at awake =
    let waiting : ToyPlace = record p { waits = true } in
    let stays : place_after (slice_get steps p.step) Done p ≡ waiting = ap (λ x. place_after x Done p) at ∙ ap (λ b. waited b p) awake in
    ap (λ q. next_at (slice_get steps q.step) q) stays ∙ ap (λ x. next_at x waiting) at

no_end : (x : Option ToyStep) (p : ToyPlace) → next_at x p ≡ Ended → ⊥
no_end None p over = cc
no_end (Some Pass) p over = cc
no_end (Some Call) p over = cc
no_end (Some Return) p over = cc
no_end (Some (Do op)) p over = cc
no_end (Some Show) p over = cc
no_end (Some (WaitOn r)) p over = cc

-- the bounds on what an orderly operation names
abbrev Bounds : ℕ → Op → Type 0
Bounds classes (Init c) = c < classes
Bounds classes (InitDone c ok) = c < classes
Bounds classes _ = Unit {0}

bounds_of : (classes : ℕ) (op : Op) → IsOrderlyOp classes op → Bounds classes op
bounds_of classes (Init c) h = h
bounds_of classes (InitDone c ok) h = h
bounds_of classes _ h = tt

module _ (scripts : List ToyScript) (classes first : ℕ) (orderly : EachDone (IsOrderlyOp classes) scripts) where
  executes : (l : ToyState) → CanStand toy_code (started scripts first) l → Executes scripts l
  executes l at_first = record { program = refl; own = (first, refl) }
  executes l (by_silent from can is) = (executes_closed scripts).silent from (executes from can) is
  executes l (by_reply from op reply can wanted goes fits) = (executes_closed scripts).reply from op reply (executes from can) wanted goes fits
  executes l (by_start from r p can wanted) = (executes_closed scripts).child from r p (executes from can) wanted

  -- what a script does at a place of a thread
  done_at : (l : ToyState) (op : Op) → Executes scripts l → slice_get l.steps l.place.step ≡ Some (Do op) → IsOrderlyOp classes op
  done_at l op own is = orderly own.own.0 l.place.step op (subst (λ steps. slice_get steps l.place.step ≡ Some (Do op)) own.own.1 is)

  no_rewake : (l : ToyState) → Executes scripts l → l.place.waits ≡ false → IsRewake (toy_code.next l) → ⊥
  no_rewake l own = rewake_at (slice_get l.steps l.place.step) l.place (λ r is. done_at l (Rewake r) own is)

  bounds : (l : ToyState) (op : Op) → CanStand toy_code (started scripts first) l → toy_code.next l ≡ Want op → Bounds classes op
  bounds l op can wanted =
      wanted_of scripts (Bounds classes) (λ r i does is. bounds_of classes does (orderly r i does is)) (λ r i q is. (tt, tt)) (λ line. tt) tt
      l op (executes l can) wanted

  -- the second half of a wait is wanted only after the first half
  rewake_behind : (l : ToyState) (op : Op) (reply : Reply) → Executes scripts l → toy_code.next l ≡ Want op → Executes scripts (toy_code.reply l reply) → IsRewake (toy_code.next (toy_code.reply l reply)) → IsWait op × (reply ≡ Done)
  rewake_behind l op reply own wanted later rewakes =
      let at : Option ToyStep = slice_get l.steps l.place.step in
      elim (left_by_reply at reply l.place) [
        | inl awake ↦ absurd (no_rewake (toy_code.reply l reply) later awake rewakes)
        | inr other ↦ elim other [
          | inl (r, is, done, awake) ↦
              let waits : Want (Wait r) ≡ Want op = sym (ap (λ x. next_at x l.place) is ∙ ap (λ b. Want (half_of_wait r b)) awake) ∙ wanted in
              let same : Wait r ≡ op = cc in
              (subst IsWait same tt, done)
          | inr none ↦
              let stays : place_after at reply l.place ≡ l.place = ap (λ x. place_after x reply l.place) none in
              let ends : IsRewake (next_at at l.place) = subst (λ p. IsRewake (next_at (slice_get l.steps p.step) p)) stays rewakes in
              absurd (subst (λ x. IsRewake (next_at x l.place)) none ends)
        ]
      ]

  pub toy_orderly : IsOrderly toy_code (started scripts first) classes
  toy_orderly = record {
    waits = λ l r can wanted.
        let at = first_half (slice_get l.steps l.place.step) l.place r (λ is. done_at l (Wait r) (executes l can) is) wanted in
        second_half l.steps l.place r at.0 at.1;
    first_goes = no_rewake (started scripts first) (executes (started scripts first) at_first) refl;
    silent_goes = λ l can is. no_rewake (toy_code.silent l) (executes (toy_code.silent l) (by_silent l can is)) refl;
    reply_goes = λ l op reply can wanted fits. rewake_behind l op reply (executes l can) wanted (record { program = (executes l can).program; own = (executes l can).own });
    child_goes = λ l r p can wanted. no_rewake (toy_code.child l r) (executes (toy_code.child l r) (by_start l r p can wanted)) refl;
    ends = λ l can. no_end (slice_get l.steps l.place.step) l.place;
    inits = λ l c. bounds l (Init c);
    settles = λ l c ok. bounds l (InitDone c ok);
    small = λ l c n can wanted within. omega (arith, within.1);
    children = λ l r can. ap (λ x. started x r) (executes l can).program;
  }

pub toys_orderly : ToysAreOrderly
toys_orderly scripts classes r orderly = toy_orderly scripts classes r orderly
