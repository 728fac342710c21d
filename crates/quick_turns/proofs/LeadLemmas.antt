-- What a thread does while its host answers, as usual turns.
use Rattle.std.proofs.Common.{◌≡◌, ℕ, zero, suc, ◌+◌, ◌-◌, ◌<◌, ◌≤◌, false, List, [], ◌∷◌, Some, refl, sym, ◌∙◌, ap, subst, arith, inl, inr}
use Rattle.std.specs.Prelude.{min, None}
use Rattle.op_core.specs.declared.Op.{Op}
use Rattle.op_core.specs.declared.Reply.{Reply}
use Rattle.op_core.specs.declared.Next.TheVariants.{Want}
use Rattle.op_core.specs.ThreadCode.{Code, quiet_steps, LeavesNoSave}
use Rattle.op_core.specs.Hosted.{HostedMove, quiet, asked, Lead, MayBeAsked, IsLedTo}
use Rattle.step_port.specs.declared.answer.StepAnswer.{StepAnswer}
use Rattle.step_port.specs.declared.step.Step.{Step}
use Rattle.step_port.specs.Words.{Words, IsStepOnWords}
use Rattle.thread_automaton.specs.declared.Attempt.{Attempt}
use Rattle.thread_automaton.specs.declared.Attempt.TheVariants.{Begin}
use Rattle.automaton_rows.specs.Fits.{IsFit}
use Rattle.thread_moves.specs.declared.thread.JThread.{JThread}
use Rattle.thread_moves.specs.declared.thread.Own.{Own}
use Rattle.thread_moves.specs.Thread.{thread_of, without_opening, AreCounted}
use Rattle.turn_runs.specs.Turns.{StaysReady}
use Rattle.quick_turns.specs.declared.host.TurnHost.{TurnHost}
use Rattle.quick_turns.specs.Usual.{UsualTurns}
use Rattle.turn_runs.specs.Own.{thread_at, own_quiet}
use Rattle.turn_runs.specs.HostPlaces.{HostPlace, IsBetween, HostPasses}
use Rattle.quick_turns.specs.Place.{HostKeeps, HostLeads, HostAnswers, HostDeclines, HostMayAsk}
use Rattle.quick_turns.specs.Borrowed.{host_place, SameBorrows}
use Rattle.turn_runs.proofs.HostLemmas.{quiet_between, sum_on, room_left}
use Rattle.turn_runs.proofs.KeptLemmas.{ready_on, turns_fit, turns_count}
use Rattle.quick_turns.proofs.UsualLemmas.{no_turns, usual_joined, quiet_usual}

pub keeps_all : (own : Own) → HostKeeps own own
keeps_all own = record { bounds = refl; opening = refl; attempt = refl; lives = refl }

pub keeps_on : (x y z : Own) → HostKeeps x y → HostKeeps y z → HostKeeps x z
keeps_on x y z first second = record {
  bounds = second.bounds ∙ first.bounds;
  opening = second.opening ∙ first.opening;
  attempt = second.attempt ∙ first.attempt;
  lives = second.lives ∙ first.lives;
}

quiet_keeps : (own : Own) (n : ℕ) → HostKeeps own (own_quiet own n)
quiet_keeps own zero = keeps_all own
quiet_keeps own (suc n) = record { bounds = refl; opening = refl; attempt = refl; lives = refl }

module _ {S P : Type 0} (code : Code S) (stepped : P → Step → StepAnswer → P → Type 0) (words : P → Words)
    (on_words : (x : P) (step : Step) (a : StepAnswer) (y : P) → stepped x step a y → IsStepOnWords (words x) step a (words y)) where
  pub stays_here : (saves : List S) (a : Attempt) (l : S) (h : HostPlace P) → HostLeads code stepped words saves a l h a l h
  stays_here saves a l h = record {
    number = 0;
    left = omega arith;
    keeps = keeps_all h.own;
    turns = no_turns code h.own.bounds stepped words (thread_at h.own a l saves) h.port h.own.last_kind;
  }

  pub goes_on : (saves : List S) (a c e : Attempt) (l m o : S) (h k g : HostPlace P) → HostLeads code stepped words saves a l h c m k → HostLeads code stepped words saves c m k e o g
      → HostLeads code stepped words saves a l h e o g
  goes_on saves a c e l m o h k g first second = record {
    number = first.number + second.number;
    left = sum_on h.left k.left g.left first.number second.number first.left second.left;
    keeps = keeps_on h.own k.own g.own first.keeps second.keeps;
    turns = usual_joined code h.own.bounds stepped words on_words (thread_at h.own a l saves) (thread_at k.own c m saves) (thread_at g.own e o saves) h.port k.port g.port
        h.own.last_kind k.own.last_kind g.own.last_kind first.number second.number first.turns
        (subst (λ b. UsualTurns code b stepped words (thread_at k.own c m saves) k.port k.own.last_kind second.number (thread_at g.own e o saves) g.port g.own.last_kind)
        first.keeps.bounds second.turns);
  }

  quiet_goes : (saves : List S) (l : S) (h : HostPlace P) (n : ℕ) (m : S) (k : HostPlace P) → IsBetween h.own → quiet_steps code n l ≡ Some m → LeavesNoSave code saves n l → HostPasses h n k
      → IsBetween k.own × HostLeads code stepped words saves Begin l h Begin m k
  quiet_goes saves l h n m k is steps stays passes =
      let own : k.own ≡ own_quiet h.own n = passes.own is in (
        subst IsBetween (sym own) (quiet_between h.own n is),
        record {
          number = n;
          left = passes.left;
          keeps = subst (HostKeeps h.own) (sym own) (quiet_keeps h.own n);
          turns = subst (λ y. UsualTurns code h.own.bounds stepped words (thread_at h.own Begin l saves) h.port h.own.last_kind n (thread_at k.own Begin m saves) y k.own.last_kind) (sym passes.port)
              (subst (λ own. UsualTurns code h.own.bounds stepped words (thread_at h.own Begin l saves) h.port h.own.last_kind n (thread_at own Begin m saves) h.port own.last_kind) (sym own) (made n refl));
        },
      )
    where
      made : (j : ℕ) → j ≡ n
          → UsualTurns code h.own.bounds stepped words (thread_at h.own Begin l saves) h.port h.own.last_kind n (thread_at (own_quiet h.own n) Begin m saves) h.port (own_quiet h.own n).last_kind
      made zero none =
          subst (λ n. UsualTurns code h.own.bounds stepped words (thread_at h.own Begin l saves) h.port h.own.last_kind n (thread_at (own_quiet h.own n) Begin m saves) h.port (own_quiet h.own n).last_kind) none
          (let none_made : quiet_steps code 0 l ≡ Some m = subst (λ n. quiet_steps code n l ≡ Some m) (sym none) steps in
          let same : l ≡ m = cc in
          subst (λ m. UsualTurns code h.own.bounds stepped words (thread_at h.own Begin l saves) h.port h.own.last_kind 0 (thread_at h.own Begin m saves) h.port h.own.last_kind) same
          (no_turns code h.own.bounds stepped words (thread_at h.own Begin l saves) h.port h.own.last_kind))
      made (suc j) some =
          quiet_usual code h.own.bounds stepped words on_words h.own saves h.port l n m is.lives
          (room_left h.left h.own.bounds.limits.turns h.own.counted n passes.room (omega (arith, some))) steps stays

  -- each way of a hosted thread is one of usual turns
  module _ {C W : Type 0} (saves : List S) where
    abbrev pub PassesAt : TurnHost C P W → ℕ → TurnHost C P W → Type 0
    PassesAt h n k = SameBorrows h k × HostPasses (host_place h) n (host_place k)

    abbrev pub AnswersAt : TurnHost C P W → Op → Reply → TurnHost C P W → Type 0
    AnswersAt h op reply k = SameBorrows h k × HostAnswers code stepped words (host_place h) op reply (host_place k)

    borrows_on : (h k g : TurnHost C P W) → SameBorrows h k → SameBorrows k g → SameBorrows h g
    borrows_on h k g first second = record { own = second.own ∙ first.own; port = second.port ∙ first.port }

    pub record Led (l : S) (h : TurnHost C P W) (m : S) (k : TurnHost C P W) : Type 0 where
      pub borrows : SameBorrows h k
      pub between : IsBetween k.own.now
      pub goes : HostLeads code stepped words saves Begin l (host_place h) Begin m (host_place k)

    led_on : (l m o : S) (h k g : TurnHost C P W) → SameBorrows h k → HostLeads code stepped words saves Begin l (host_place h) Begin m (host_place k) → Led m k o g → Led l h o g
    led_on l m o h k g same first further = record {
      borrows = borrows_on h k g same further.borrows;
      between = further.between;
      goes = goes_on saves Begin Begin Begin l m o (host_place h) (host_place k) (host_place g) first further.goes;
    }

    pub lead_goes : (l m : S) (h k : TurnHost C P W) (moves : List HostedMove) → IsBetween h.own.now → Lead code saves PassesAt AnswersAt l h moves m k → Led l h m k
    lead_goes l m h k [] is (same, host) =
        subst (λ m. Led l h m k) same (subst (λ k. Led l h l k) host (record {
          borrows = record { own = refl; port = refl };
          between = is;
          goes = stays_here saves Begin l (host_place h);
        }))
    lead_goes l m h k (quiet n ∷ moves) is (next, host, steps, stays, passes, lead) =
        let (between, goes) = quiet_goes saves l (host_place h) n next (host_place host) is steps stays passes.1 in
        led_on l next m h host k passes.0 goes (lead_goes next m host k moves between lead)
    lead_goes l m h k (asked op reply ∷ moves) is (host, wants, fits, answers, lead) =
        led_on l (code.reply l reply) m h host k answers.0 (answers.1.goes l saves wants) (lead_goes (code.reply l reply) m host k moves answers.1.between lead)

    -- where it may be asked
    pub may_ask : (allows : P → Step → Type 0) (l m : S) (h k : TurnHost C P W) (moves : List HostedMove) (op : Op) → IsBetween h.own.now
        → StaysReady code h.own.now.bounds allows stepped (thread_at h.own.now Begin l saves) h.port.now → Lead code saves PassesAt AnswersAt l h moves m k → code.next m ≡ Want op
        → HostMayAsk code allows stepped (host_place k) op
    may_ask allows l m h k moves op is ready lead wants =
        let led = lead_goes l m h k moves is lead in
        record {
          local = m;
          saves = saves;
          wants = wants;
          between = led.between;
          ready = subst (λ b. StaysReady code b allows stepped (thread_at k.own.now Begin m saves) k.port.now) (sym led.goes.keeps.bounds)
              (ready_on code h.own.now.bounds stepped allows led.goes.turns.moves (thread_at h.own.now Begin l saves) (thread_at k.own.now Begin m saves) h.port.now k.port.now ready led.goes.turns.turns);
        }

    -- where it comes to, also where the last operation isn't answered
    declined : (m : S) (k g : TurnHost C P W) → IsBetween k.own.now → SameBorrows k g → HostDeclines (host_place k) (host_place g) → Led m k m g
    declined m k g is same declines = record {
      borrows = same;
      between = record {
        begins = ap (λ own. own.attempt) declines.own ∙ is.begins;
        lives = ap (λ own. own.over) declines.own ∙ is.lives;
        counts = subst (λ (own : Own). own.silents ≤ own.counted) (sym declines.own) is.counts;
      };
      goes = record {
        number = 0;
        left = let same = declines.left in omega (arith, same);
        keeps = subst (HostKeeps k.own.now) (sym declines.own) (record { bounds = refl; opening = refl; attempt = refl; lives = refl });
        turns = subst (λ own. UsualTurns code k.own.now.bounds stepped words (thread_at k.own.now Begin m saves) k.port.now k.own.now.last_kind 0 (thread_at own Begin m saves) g.port.now own.last_kind) (sym declines.own)
            (subst (λ log. UsualTurns code k.own.now.bounds stepped words (thread_at k.own.now Begin m saves) k.port.now k.own.now.last_kind 0 (record (thread_at k.own.now Begin m saves) { log = log }) g.port.now k.own.now.last_kind)
            (sym declines.log) (subst (λ y. UsualTurns code k.own.now.bounds stepped words (thread_at k.own.now Begin m saves) k.port.now k.own.now.last_kind 0 (thread_at k.own.now Begin m saves) y k.own.now.last_kind)
            (sym declines.port) (no_turns code k.own.now.bounds stepped words (thread_at k.own.now Begin m saves) k.port.now k.own.now.last_kind)));
      };
    }

    pub led_to : (l m : S) (h last : TurnHost C P W) → IsBetween h.own.now
        → IsLedTo code saves PassesAt AnswersAt (λ h op k. SameBorrows h k × HostDeclines (host_place h) (host_place k)) l h m last → Led l h m last
    led_to l m h last is (moves, k, lead, inl same) = subst (Led l h m) same (lead_goes l m h k moves is lead)
    led_to l m h last is (moves, k, lead, inr (op, wants, declines)) =
        let led = lead_goes l m h k moves is lead in
        led_on l m m h k last led.borrows led.goes (declined m k last led.between declines.0 declines.1)

-- ---- of a thread in memory

pub thread_is : {C S : Type 0} (state : C → S) (saved : C → List S) (x : JThread C) → x.own.attempt ≡ Begin → x.own.opening ≡ None
    → thread_of state saved x ≡ thread_at x.own Begin (state x.code) (saved x.code)
thread_is state saved x begins settled =
    ap (λ opening. record (thread_at x.own x.own.attempt (state x.code) (saved x.code)) { saved = without_opening opening (saved x.code) }) settled
    ∙ ap (λ attempt. thread_at x.own attempt (state x.code) (saved x.code)) begins

is_between : {C S : Type 0} (state : C → S) (saved : C → List S) (x : JThread C) → x.own.attempt ≡ Begin → x.own.over ≡ false → AreCounted (thread_of state saved x)
    → (own : Own) → own ≡ x.own → IsBetween own
is_between state saved x begins lives counts own is = subst IsBetween (sym is) (record { begins = begins; lives = lives; counts = counts.silents })

module _ {C S P W : Type 0} (state : C → S) (saved : C → List S) (code : Code S) (stepped : P → Step → StepAnswer → P → Type 0) (words : P → Words)
    (on_words : (x : P) (step : Step) (a : StepAnswer) (y : P) → stepped x step a y → IsStepOnWords (words x) step a (words y))
    (x : JThread C) (begins : x.own.attempt ≡ Begin) (lives : x.own.over ≡ false) (settled : x.own.opening ≡ None) (counts : AreCounted (thread_of state saved x)) where
  -- what the code asks for while it goes on
  pub may_be_asked : (allows : P → Step → Type 0) (h : TurnHost C P W) → h.own.now ≡ x.own → StaysReady code x.own.bounds allows stepped (thread_of state saved x) h.port.now
      → MayBeAsked code (saved x.code) (PassesAt code stepped words on_words (saved x.code)) (AnswersAt code stepped words on_words (saved x.code))
      (λ k op. HostMayAsk code allows stepped (host_place k) op) (state x.code) h
  may_be_asked allows h is ready = λ moves m k lead op wants.
      may_ask code stepped words on_words (saved x.code) allows (state x.code) m h k moves op (is_between state saved x begins lives counts h.own.now is)
      (subst (λ own. StaysReady code own.bounds allows stepped (thread_at own Begin (state x.code) (saved x.code)) h.port.now) (sym is)
      (subst (λ th. StaysReady code x.own.bounds allows stepped th h.port.now) (thread_is state saved x begins settled) ready)) lead wants

  -- where the code is led
  module _ (to : C) (same : saved to ≡ saved x.code) (h last : TurnHost C P W) (is : h.own.now ≡ x.own)
      (led : IsLedTo code (saved x.code) (PassesAt code stepped words on_words (saved x.code)) (AnswersAt code stepped words on_words (saved x.code))
      (λ h op k. SameBorrows h k × HostDeclines (host_place h) (host_place k)) (state x.code) h (state to) last) where
    ran : Led code stepped words on_words (saved x.code) (state x.code) h (state to) last
    ran = led_to code stepped words on_words (saved x.code) (state x.code) (state to) h last (is_between state saved x begins lives counts h.own.now is) led

    pub same_borrows : SameBorrows h last
    same_borrows = ran.borrows

    after : JThread C
    after = record { code = to; own = last.own.now }

    pub still_settled : last.own.now.opening ≡ None
    still_settled = ran.goes.keeps.opening ∙ ap (λ own. own.opening) is ∙ settled

    pub same_bounds : last.own.now.bounds ≡ x.own.bounds
    same_bounds = ran.goes.keeps.bounds ∙ ap (λ own. own.bounds) is

    after_is : thread_of state saved (record { code = to; own = last.own.now }) ≡ thread_at last.own.now Begin (state to) (saved x.code)
    after_is = thread_is state saved (record { code = to; own = last.own.now }) ran.between.begins still_settled ∙ ap (thread_at last.own.now Begin (state to)) same

    pub usual_made : (n : ℕ) × (h.left ≡ last.left + n) × UsualTurns code x.own.bounds stepped words (thread_of state saved x) h.port.now x.own.last_kind n
        (thread_of state saved (record { code = to; own = last.own.now })) last.port.now last.own.now.last_kind
    usual_made = (
      ran.goes.number,
      ran.goes.left,
      subst (λ th. UsualTurns code x.own.bounds stepped words th h.port.now x.own.last_kind ran.goes.number
          (thread_of state saved (record { code = to; own = last.own.now })) last.port.now last.own.now.last_kind) (sym (thread_is state saved x begins settled))
          (subst (λ th. UsualTurns code x.own.bounds stepped words (thread_at x.own Begin (state x.code) (saved x.code)) h.port.now x.own.last_kind ran.goes.number
          th last.port.now last.own.now.last_kind) (sym after_is)
          (subst (λ own. UsualTurns code own.bounds stepped words (thread_at own Begin (state x.code) (saved x.code)) h.port.now own.last_kind ran.goes.number
          (thread_at last.own.now Begin (state to) (saved x.code)) last.port.now last.own.now.last_kind) is ran.goes.turns)),
    )

    pub still_fit : IsFit code (thread_of state saved x) → IsFit code (thread_of state saved (record { code = to; own = last.own.now }))
    still_fit fits = let made = usual_made.2 in turns_fit code x.own.bounds stepped made.moves _ _ _ _ made.turns fits

    pub still_counted : AreCounted (thread_of state saved (record { code = to; own = last.own.now }))
    still_counted = let made = usual_made.2 in turns_count code x.own.bounds stepped made.moves _ _ _ _ made.turns counts

    pub still_ready : (allows : P → Step → Type 0) → StaysReady code x.own.bounds allows stepped (thread_of state saved x) h.port.now
        → StaysReady code last.own.now.bounds allows stepped (thread_of state saved (record { code = to; own = last.own.now })) last.port.now
    still_ready allows ready =
        let made = usual_made.2 in
        subst (λ b. StaysReady code b allows stepped (thread_of state saved (record { code = to; own = last.own.now })) last.port.now) (sym same_bounds)
        (ready_on code x.own.bounds stepped allows made.moves (thread_of state saved x) (thread_of state saved (record { code = to; own = last.own.now })) h.port.now last.port.now ready made.turns)
