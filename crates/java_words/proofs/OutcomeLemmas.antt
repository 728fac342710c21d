-- A program that is executed on shared words has one outcome.
use Rattle.std.proofs.Common.{◌≡◌, false, true, Some, List, sym, ◌∙◌, ap, subst}
use Rattle.code_decode.specs.declared.code.ClassUnit.{ClassUnit}
use Rattle.link_types.specs.declared.operands.MethodId.{MethodId}
use Rattle.op_core.specs.declared.Limits.{Limits}
use Rattle.op_core.specs.declared.Line.{Line}
use Rattle.op_core.specs.MadeTexts.{AreMadeTexts}
use Rattle.schedules.specs.Run.{Run}
use Rattle.schedules.proofs.RunLemmas.{one_end}
use Rattle.ordinary_runs.specs.ScheduledRun.{AreEnds}
use Rattle.ordinary_runs.proofs.EndLemmas.{ends_one}
use Rattle.ordinary_runs.proofs.MadeLemmas.{made_one}
use Rattle.java_rows.specs.Start.{opening_of}
use Rattle.java_rows.specs.Thread.{Local, java_code, first_state}
use Rattle.opening_cores.specs.Openings.{opening_core}
use Rattle.word_runs.specs.WordTurns.{Progress, word_turns}
use Rattle.word_runs.specs.Laws.{begun_with}
use Rattle.word_runs.proofs.TurnLemmas.{word_turns_are_determinate}
use Rattle.sched_core.specs.Counts.{opened_in, undone_in}
use Rattle.sched_core.specs.Outcome.{rest_of}
use Rattle.accepted_runs.specs.Runs.{AreErasedTurns}
use Rattle.trace_journal.specs.Text.{undos_in}
use Rattle.op_core.specs.CleanCut.{kept_by}
use Rattle.core_law.specs.Erasure.{is_left_out}
use Rattle.java_words.specs.WordRun.{program_bounds, WordRunsHaveOneOutcome}
use Rattle.java_words.specs.TracedRun.{journal_of, TracedRunsHaveOneOutcome}

-- what holds of each execution that can be what is left of the turns up to a run
abbrev OfWhatIsLeft : (us : List ClassUnit) (main : MethodId) (limits : Limits) → ((r : Progress Local) → AreErasedTurns us main (program_bounds us limits) r → Type 0) → Run (Progress Local) → Type 0
OfWhatIsLeft us main limits fact run = (also : AreErasedTurns us main (program_bounds us limits) run.state) → fact run.state also

pub one_word_run : WordRunsHaveOneOutcome
one_word_run us main schedule limits outcome other one two =
    let b = program_bounds us limits in
    let first = one.run in
    let second = two.run in
    let (threads, how, last) = one_end (Progress Local) (word_turns java_code b) (begun_with (opening_core (opening_of us) (first_state us main)) (rest_of schedule) false)
    first.last second.last first.threads second.threads outcome.how other.how (word_turns_are_determinate java_code b) first.goes second.goes in
    let lines : other.lines ≡ outcome.lines = second.told.lines ∙ ap (λ (run : Run (Progress Local)). run.state.core.lines) last ∙ sym first.told.lines in
    let opened : other.opened ≡ outcome.opened = second.told.opened ∙ ap (λ (run : Run (Progress Local)). opened_in run.state.acts) last ∙ sym first.told.opened in
    let undone : other.undone ≡ outcome.undone = second.told.undone ∙ ap (λ (run : Run (Progress Local)). undone_in run.state.acts) last ∙ sym first.told.undone in
    let left = one.told.erased.erased.erasure.last in
    let ends_there : AreEnds left other.ends = subst (OfWhatIsLeft us main limits (λ r also. AreEnds also.erased.erasure.last other.ends)) last two.told.ends one.told.erased in
    let ends : other.ends ≡ outcome.ends = ends_one left outcome.ends other.ends (one.told.ends one.told.erased) ends_there in
    let made_there : AreMadeTexts left other.lines other.made =
    subst (OfWhatIsLeft us main limits (λ r also. AreMadeTexts also.erased.erasure.last other.lines other.made)) last two.told.made one.told.erased in
    let made : other.made ≡ outcome.made =
    made_one left outcome.lines outcome.made other.made (one.told.made one.told.erased) (subst (λ (ls : List Line). AreMadeTexts left ls other.made) lines made_there) in
    let events : other.events ≡ outcome.events = two.told.executed.kept ∙ sym one.told.executed.kept in
    let undos : other.undos ≡ outcome.undos = two.undos ∙ sym one.undos in
    λ i. record { lines = lines i; ends = ends i; how = how i; opened = opened i; undone = undone i; events = events i; undos = undos i; made = made i }

pub one_traced_run : TracedRunsHaveOneOutcome
one_traced_run us main schedule limits outcome other one two =
    let b = program_bounds us limits in
    let (threads, how, last) = one_end (Progress Local) (word_turns java_code b) (begun_with (opening_core (opening_of us) (first_state us main)) (rest_of schedule) true)
    one.last two.last one.threads two.threads outcome.how other.how (word_turns_are_determinate java_code b) one.goes two.goes in
    let lines : other.lines ≡ outcome.lines = two.told.lines ∙ ap (λ (run : Run (Progress Local)). run.state.core.lines) last ∙ sym one.told.lines in
    let opened : other.opened ≡ outcome.opened = two.told.opened ∙ ap (λ (run : Run (Progress Local)). opened_in run.state.acts) last ∙ sym one.told.opened in
    let undone : other.undone ≡ outcome.undone = two.told.undone ∙ ap (λ (run : Run (Progress Local)). undone_in run.state.acts) last ∙ sym one.told.undone in
    let left = one.erased.erased.erasure.last in
    let ends_there : AreEnds left other.ends = subst (OfWhatIsLeft us main limits (λ r also. AreEnds also.erased.erasure.last other.ends)) last two.ends one.erased in
    let ends : other.ends ≡ outcome.ends = ends_one left outcome.ends other.ends (one.ends one.erased) ends_there in
    let made_there : AreMadeTexts left other.lines other.made =
    subst (OfWhatIsLeft us main limits (λ r also. AreMadeTexts also.erased.erasure.last other.lines other.made)) last two.made one.erased in
    let made : other.made ≡ outcome.made =
    made_one left outcome.lines outcome.made other.made (one.made one.erased) (subst (λ (ls : List Line). AreMadeTexts left ls other.made) lines made_there) in
    let events_there : two.executed.events ≡ kept_by (is_left_out one.erased.cores one.last.state.acts) one.erased.erased.erasure.entries =
    subst (OfWhatIsLeft us main limits (λ r also. two.executed.events ≡ kept_by (is_left_out also.cores r.acts) also.erased.erasure.entries)) last two.left one.erased in
    let events : other.events ≡ outcome.events = two.executed.kept ∙ ap Some (events_there ∙ sym (one.left one.erased)) ∙ sym one.executed.kept in
    let undos_there : two.undos ≡ undos_in 0 (journal_of us main limits one.last.state one.erased) =
    subst (OfWhatIsLeft us main limits (λ r also. two.undos ≡ undos_in 0 (journal_of us main limits r also))) last two.undone one.erased in
    let undos : other.undos ≡ outcome.undos = two.kept ∙ ap Some (undos_there ∙ sym (one.undone one.erased)) ∙ sym one.kept in
    λ i. record { lines = lines i; ends = ends i; how = how i; opened = opened i; undone = undone i; events = events i; undos = undos i; made = made i }
