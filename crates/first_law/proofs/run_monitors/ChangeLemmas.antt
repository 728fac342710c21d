-- What a thread holds, apart from its marks, as its attempt goes on and as its operation has a reply.
use Rattle.std.proofs.Common.{◌≡◌, ℕ, ◌^◌, ◌<◌, ◌≤◌, Bool, true, false, List, [], refl, sym, ◌∙◌, ap, subst}
use Rattle.std.specs.Prelude.{not, IfSome}
use Rattle.op_core.specs.Replies.{FitsNext}
use Rattle.op_core.specs.declared.Op.TheVariants.{Rewake}
use Rattle.op_core.specs.declared.Next.{Next}
use Rattle.op_core.specs.declared.Next.TheVariants.{Want}
use Rattle.op_core.specs.declared.Reply.{Reply}
use Rattle.op_core.specs.ThreadCode.{Code}
use Rattle.op_core.specs.Orderly.{IsRewake, IsOrderly}
use Rattle.section_state.specs.declared.State.TheVariants.{Revoking}
use Rattle.section_state.specs.SectionWord.{pinned_of, revoke_of}
use Rattle.monitor_core.specs.Contention.{is_in}
use Rattle.monitor_core.specs.Monitors.{monitor_depth}
use Rattle.step_port.specs.declared.answer.StepAnswer.{StepAnswer}
use Rattle.step_port.specs.declared.answer.StepAnswer.TheVariants.{Found}
use Rattle.step_port.specs.declared.step.Step.{Step}
use Rattle.step_port.specs.declared.step.Step.TheVariants.{LoadSection, LoadMonitor}
use Rattle.thread_automaton.specs.declared.Bounds.{Bounds}
use Rattle.thread_automaton.specs.declared.Held.{Held}
use Rattle.thread_automaton.specs.declared.Move.TheVariants.{Make}
use Rattle.thread_automaton.specs.declared.Attempt.{Attempt}
use Rattle.thread_automaton.specs.declared.Attempt.TheVariants.{Begin, Checked, Fixed, Undoing}
use Rattle.thread_automaton.specs.ThreadState.{ThreadState, is_open, held_as, with_depth_of}
use Rattle.thread_automaton.specs.NextMove.{held_word, own_pin, move_of}
use Rattle.thread_automaton.specs.Changes.{Change, goes, has_to_wait, replies, knows, writes, prints, ends, deepens, forgotten, changed}
use Rattle.thread_automaton.specs.Checks.{behind_pin, to_pin}
use Rattle.automaton_rows.specs.Fits.{IsFit}
use Rattle.automaton_rows.specs.Laws.{reply_of}
use Rattle.automaton_rows.specs.Undoing.{is_held, HeldOnce}
use Rattle.automaton_rows.proofs.RowLemmas.{by_if}
use Rattle.automaton_rows.proofs.UndoLemmas.{depth_is, once_with}
use Rattle.section_laws.specs.HeldLevels.{AreAtMost}
use Rattle.section_laws.proofs.held_levels.WaitLemmas.{at_most, IsLastReply}
use Rattle.section_laws.proofs.held_levels.RowLemmas.{Stands, reply_stands}
use Rattle.section_laws.proofs.level_marks.RowLemmas.{NoUndo, IsUndoing}
use Rattle.first_law.specs.Held.{has_level, LevelsDiffer, DepthsFit, top_at, AtRest, TopHolds, PinsFor, StageHolds, OpensWithin, Holds}
use Rattle.first_law.proofs.run_monitors.ListLemmas.{has_with, differ_with, depths_with, level_fits}
use Rattle.first_law.proofs.run_monitors.StageLemmas.{undoes_none, at_rest}
use Rattle.first_law.proofs.run_monitors.KeptLemmas.{Kept, KeptOf, top_all, IsCalm, calm_top, calm_holds, IsUsual, usual_rest, rest_any, waits_usual, no_wait, LoadSays, behind_top, behind_holds, behind_fixed, behind_opens}

-- what is known of the thread and of the answer beside the row
pub record Given {S : Type 0} (th : ThreadState S) (step : Step) (a : StepAnswer) : Type 0 where
  -- of the own section, as it is looked at
  pub looked : (w : ℕ) → step ≡ LoadSection th.section → a ≡ Found w → 0 < th.section → th.pinned ≤ pinned_of w
  pub turned : (w : ℕ) → step ≡ LoadSection th.section → a ≡ Found w → 0 < th.section → is_in Revoking w ≡ true → revoke_of w ≤ th.levels
  -- and while it is undone
  pub undoing : (w : ℕ) → th.attempt ≡ Undoing w → (th.pinned < revoke_of w) × (revoke_of w ≤ th.levels)
  pub loaded : (r m : ℕ) → step ≡ LoadMonitor r → a ≡ Found m → LoadSays th.section th.held r m

pub twice : (t : Bool) → not (not t) ≡ false → t ≡ false
twice true is = cc
twice false is = refl

pub twice_true : (t : Bool) → not (not t) ≡ true → t ≡ true
twice_true true is = refl
twice_true false is = cc

-- and of where it stands
pub record Ground {S : Type 0} (code : Code S) (first : S) (classes : ℕ) (th : ThreadState S) : Type 0 where
  pub orderly : IsOrderly code first classes
  pub stands : Stands code first classes orderly th
  pub fits : IsFit code th
  pub small : th.section < 2 ^ 32

module _ {S : Type 0} {code : Code S} {first : S} {classes : ℕ} (b : Bounds) {th : ThreadState S} (ground : Ground code first classes th) where
  abbrev pub Keeps : Change → Type 0
  Keeps change = KeptOf b (code.next (changed code th change).local) (changed code th change)

  abbrev pub limit : ℕ
  limit = b.limits.sections

  pub forgets : (y : ThreadState S) → KeptOf b (code.next y.local) y → KeptOf b (code.next (forgotten y).local) (forgotten y)
  forgets y kept = by_if (λ z. KeptOf b (code.next z.local) z) (is_open y) y (record y { log = []; saved = []; marks = [] }) (λ open_so. kept) (λ shut. kept)

  -- ---- the attempt goes on

  module _ {next : Next} (is : code.next th.local ≡ next) (h : Holds b next th) where
    -- where nothing is being undone
    pub whole : (IsUndoing th.attempt → ⊥) → (n : ℕ) → 0 < n → th.pinned ≤ n → n < th.levels → has_level n th.held ≡ true
    whole calm n some deep low = h.levels n some deep (subst (λ t. n < t) (sym (top_all th.attempt th.levels calm)) low)

    pub goes_any : (IsUndoing th.attempt → ⊥) → (g : Attempt) → top_at g th.levels ≡ th.levels → (0 < th.section → TopHolds th.levels th.level th.held next g)
        → StageHolds th.section th.levels th.pinned th.held next g → OpensWithin limit g → Keeps (goes g)
    goes_any calm g tops top fixed opens = subst (λ n. Kept limit n th.section th.levels th.pinned th.level th.depth th.held g) (sym is) (record {
      once = h.once;
      apart = h.apart;
      depths = h.depths;
      levels_have = λ n some deep low. whole calm n some deep (subst (λ t. n < t) tops low);
      top = top;
      fixed = fixed;
      waits = h.waits;
      within = h.within;
      opens = opens;
    })

    module _ (step : Step) (makes : move_of code th next th.attempt ≡ Make step) (none : NoUndo step) where
      pub calm_now : IsUndoing th.attempt → ⊥
      calm_now = undoes_none code th next step th.attempt makes none

      pub rest_now : 0 < th.section → AtRest th.levels th.level th.held next
      rest_now some = at_rest code th th.levels th.level th.held next step th.attempt makes none (h.top some)

      pub go : (g : Attempt) → IsCalm g → StageHolds th.section th.levels th.pinned th.held next g → OpensWithin limit g → Keeps (goes g)
      go g calm fixed opens = goes_any calm_now g (calm_top g th.levels calm) (λ some. calm_holds th.levels th.level th.held next g calm (rest_now some)) fixed opens

      -- first the pin of the own section, where that is needed
      pub go_to_pin : AreAtMost th.levels th.held → PinsFor th.held next → Keeps (goes (to_pin th next))
      go_to_pin each pins_so = by_if (λ g. Keeps (goes g)) (is_open th) (Fixed (own_pin th)) (behind_pin th next)
          (λ open_so. go (Fixed (own_pin th)) tt pins_so tt)
          (λ shut. goes_any calm_now (behind_pin th next) (behind_top th next th.levels)
          (λ some. behind_holds th th.section th.levels th.pinned th.level th.held next (at_most th.pinned th.levels shut) h.once each pins_so (rest_now some))
          (behind_fixed th th.section th.levels th.pinned th.held next (at_most th.pinned th.levels shut) pins_so) (behind_opens th limit next))

    -- ---- the operation has a reply

    pub answers : (reply : Reply) (held : List Held) (depth : ℕ) → FitsNext next reply → (IsLastReply reply next → ⊥) → HeldOnce held → LevelsDiffer held → DepthsFit held
        → ((n : ℕ) → 0 < n → th.pinned ≤ n → n < th.levels → has_level n held ≡ true) → (0 < th.section → has_level th.levels held ≡ true) → depth ≡ 0
        → Kept limit (code.next (code.reply th.local reply)) th.section th.levels th.pinned th.level depth held Begin
    answers reply held depth fits_next last once apart depths levels top none =
        let usual = reply_stands code first classes ground.orderly next th.local reply is ground.stands.can fits_next last in record {
          once = once;
          apart = apart;
          depths = depths;
          levels_have = levels;
          top = λ some. rest_any th.levels th.level held (code.next (code.reply th.local reply)) (top some);
          fixed = tt;
          waits = waits_usual th.level depth held (code.next (code.reply th.local reply)) usual.1 none;
          within = h.within;
          opens = tt;
        }

    -- what is held stays
    answers_same : (step : Step) → move_of code th next th.attempt ≡ Make step → NoUndo step → IsUsual next → (reply : Reply) → FitsNext next reply → (IsLastReply reply next → ⊥)
        → Kept limit (code.next (code.reply th.local reply)) th.section th.levels th.pinned th.level th.depth th.held Begin
    answers_same step makes none usual reply fits_next last =
        answers reply th.held th.depth fits_next last h.once h.apart h.depths (whole (calm_now step makes none)) (λ some. usual_rest th.levels th.level th.held next usual (rest_now step makes none some))
        (no_wait th.level th.depth th.held next (usual_not next usual) h.waits)
      where
        usual_not : (next : Next) → IsUsual next → IsRewake next → ⊥
        usual_not (Want (Rewake r)) usual rewake = usual
        usual_not next usual rewake = rewake

    -- one monitor gets another depth
    pub answers_set : (r new d : ℕ) → (IsUndoing th.attempt → ⊥) → (0 < th.section → has_level th.levels th.held ≡ true) → (IsRewake next → ⊥) → FitsNext next Reply.Done → (IsLastReply Reply.Done next → ⊥)
        → is_held r th.held ≡ true → 0 < d → d < 2 ^ 16 → new ≡ held_word th.section (record (held_as r th.held) { depth = d }) → Keeps (deepens r (monitor_depth new))
    answers_set r new d calm top usual fits_next last has some low word =
        let same : monitor_depth new ≡ d = ap monitor_depth word ∙ depth_is th.section d (held_as r th.held).level ground.small low (level_fits r th.held ground.fits.kept.in_levels).1 in
        subst (λ n. Keeps (deepens r n)) (sym same)
        (answers Reply.Done (with_depth_of r d th.held) th.depth fits_next last (once_with r d th.held h.once) (differ_with r d th.held h.apart) (depths_with r d th.held some low h.depths)
        (λ n above deep under. has_with n r d th.held ∙ whole calm n above deep under) (λ open_so. has_with th.levels r d th.held ∙ top open_so) (no_wait th.level th.depth th.held next usual h.waits))

  -- ---- changes that leave levels and what is held

  abbrev pub IsPlain : Next → Change → Type 0
  IsPlain next (goes g) = IsCalm g × StageHolds th.section th.levels th.pinned th.held next g × OpensWithin limit g × (⊥ → ⊥)
  IsPlain next (has_to_wait why) = Unit {0} × Unit {0} × Unit {0} × (⊥ → ⊥)
  IsPlain next (replies reply) = IsUsual next × Unit {0} × Unit {0} × (IsLastReply reply next → ⊥)
  IsPlain next (knows s depth) = Unit {0} × Unit {0} × Unit {0} × (⊥ → ⊥)
  IsPlain next (writes log) = IsUsual next × Unit {0} × Unit {0} × (IsLastReply Reply.Done next → ⊥)
  IsPlain next (prints ticket line) = IsUsual next × Unit {0} × Unit {0} × (IsLastReply Reply.Done next → ⊥)
  IsPlain next ends = Unit {0} × Unit {0} × Unit {0} × (⊥ → ⊥)
  IsPlain next change = ⊥

  pub plainly : {next : Next} (step : Step) (change : Change) → code.next th.local ≡ next → Holds b next th → move_of code th next th.attempt ≡ Make step → NoUndo step → IsPlain next change
      → IfSome (reply_of change) (FitsNext next) → Keeps change
  plainly step (goes g) is h makes none plain fits_next = go is h step makes none g plain.0 plain.1 plain.2
  plainly step (has_to_wait why) is h makes none plain fits_next = go is h step makes none Begin tt tt tt
  plainly step (replies reply) is h makes none plain fits_next = answers_same is h step makes none plain.0 reply fits_next plain.3
  plainly step (knows s depth) is h makes none plain fits_next = go is h step makes none Checked tt tt tt
  plainly step (writes log) is h makes none plain fits_next = answers_same is h step makes none plain.0 Reply.Done fits_next plain.3
  plainly step (prints ticket line) is h makes none plain fits_next = answers_same is h step makes none plain.0 Reply.Done fits_next plain.3
  plainly step ends is h makes none plain fits_next = go is h step makes none Begin tt tt tt
  plainly step change is h makes none plain fits_next = absurd plain
