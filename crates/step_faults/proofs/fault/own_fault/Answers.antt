use Rattle.std.proofs.Common.{◌≡◌, ◌+◌, List, length, sym, subst, ◌∙◌}
use Rattle.type_rules.specs.Wants.{Want, words_wanted, verdicts}
use Rattle.word_types.specs.Verdicts.{verdict_meant}
use Rattle.step_faults.specs.Worst.{worst}
use Rattle.step_faults.proofs.Chain.{types_fault, set_fault, limits_fault, no_fault}
use Rattle.step_faults.proofs.fault.own_fault.Goals as goal

pub returns-then-not-has_right_types : goal.returns-then-not-has_right_types
returns-then-not-has_right_types g c =
    let env = g.W.MethodWorld.environment c.args.world.now in
    let f = g.F.FrameWords.frame c.args.frame.now in
    let i = c.args.instruction.now in
    let told = c.in-Some.ensures in
    types_fault env i f (verdict_meant c.in-Some.taken.verdict) c.in-Some.taken.left
    (subst (λ (ws : List Want). c.in-Some.taken.left + words_wanted ws ≡ length f.stack) c.wants_of.ensures told.0)
    (subst (λ (ws : List Want). verdict_meant c.in-Some.taken.verdict ≡ worst (verdicts env ws f.stack)) c.wants_of.ensures told.1)
    (sym c.if-not-has_right_types.true ∙ c.has_right_types.ensures)

pub returns-then-not-is_initialized : goal.returns-then-not-is_initialized
returns-then-not-is_initialized g c =
    let env = g.W.MethodWorld.environment c.args.world.now in
    let f = g.F.FrameWords.frame c.args.frame.now in
    let i = c.args.instruction.now in
    let told = c.in-Some.ensures in
    set_fault env i f (verdict_meant c.in-Some.taken.verdict) c.in-Some.taken.left
    (subst (λ (ws : List Want). c.in-Some.taken.left + words_wanted ws ≡ length f.stack) c.wants_of.ensures told.0)
    (subst (λ (ws : List Want). verdict_meant c.in-Some.taken.verdict ≡ worst (verdicts env ws f.stack)) c.wants_of.ensures told.1)
    (sym c.if-not-has_right_types.false ∙ c.has_right_types.ensures)
    (sym c.if-not-is_initialized.true ∙ c.is_initialized.ensures)

pub returns-then-not-is_within_limits : goal.returns-then-not-is_within_limits
returns-then-not-is_within_limits g c =
    let env = g.W.MethodWorld.environment c.args.world.now in
    let f = g.F.FrameWords.frame c.args.frame.now in
    let i = c.args.instruction.now in
    let told = c.in-Some.ensures in
    let fits = subst (λ (ws : List Want). c.in-Some.taken.left + words_wanted ws ≡ length f.stack) c.wants_of.ensures told.0 in
    limits_fault env i f (verdict_meant c.in-Some.taken.verdict) c.in-Some.taken.left fits
    (subst (λ (ws : List Want). verdict_meant c.in-Some.taken.verdict ≡ worst (verdicts env ws f.stack)) c.wants_of.ensures told.1)
    (sym c.if-not-has_right_types.false ∙ c.has_right_types.ensures)
    (sym c.if-not-is_initialized.false ∙ c.is_initialized.ensures)
    (sym c.if-not-is_within_limits.true ∙ c.is_within_limits.ensures i.at f fits)

pub returns : goal.returns
returns g c =
    let env = g.W.MethodWorld.environment c.args.world.now in
    let f = g.F.FrameWords.frame c.args.frame.now in
    let i = c.args.instruction.now in
    let told = c.in-Some.ensures in
    let fits = subst (λ (ws : List Want). c.in-Some.taken.left + words_wanted ws ≡ length f.stack) c.wants_of.ensures told.0 in
    no_fault env i f (verdict_meant c.in-Some.taken.verdict) c.in-Some.taken.left fits
    (subst (λ (ws : List Want). verdict_meant c.in-Some.taken.verdict ≡ worst (verdicts env ws f.stack)) c.wants_of.ensures told.1)
    (sym c.if-not-has_right_types.false ∙ c.has_right_types.ensures)
    (sym c.if-not-is_initialized.false ∙ c.is_initialized.ensures)
    (sym c.if-not-is_within_limits.false ∙ c.is_within_limits.ensures i.at f fits)
    (sym c.if-not-returns_rightly.false ∙ c.returns_rightly.ensures)
