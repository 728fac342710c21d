use Rattle.std.proofs.Common.{◌≡◌, ◌∙◌, ◌∷◌, [], true, Ok, ap, sym, subst, string_bytes}
use Rattle.jr_ports.specs.Stream.{Gains, GainsPart}
use Rattle.jr_ports.proofs.Gained.{OnErr-any}
use Rattle.trace_journal.specs.Lines.{lines_left}
use Rattle.program_answers.specs.Output.{journal_pieces}
use Rattle.program_answers.proofs.Pieces.{line_gained, line_begun, none_begun}
use Rattle.program_answers.proofs.writing.put_journal.Goals as goal

pub returns-in_err-push_next-clause-err : goal.returns-in_err-push_next-clause-err
returns-in_err-push_next-clause-err g c =
    OnErr-any _ _ (none_begun (g.S.Sink.given c.args.sink.now) (g.S.Sink.given c.loop-line.sink) (lines_left c.loop-line.lines) (journal_pieces c.args.events.now c.args.undos.now)
    c.loop-line.invariant.gained c.in_err-push_next.ensures.err)

pub returns-in_err-put-clause-err : goal.returns-in_err-put-clause-err
returns-in_err-put-clause-err g c =
    OnErr-any _ _ (line_begun (g.S.Sink.given c.args.sink.now) (g.S.Sink.given c.loop-line.sink) (g.S.Sink.given c.put.new.self) (lines_left c.loop-line.lines) (lines_left c.push_next.new.self) (journal_pieces c.args.events.now c.args.undos.now)
    (string_bytes c.loop-line.line) (string_bytes c.push_next.new.text) c.loop-line.invariant.gained c.loop-line.invariant.empty (c.in_ok-push_next.ensures.more (ap Ok c.if-branch.true))
    (subst (λ bytes. GainsPart (g.S.Sink.given c.loop-line.sink) (g.S.Sink.given c.put.new.self) (bytes ∷ [])) c.as_bytes.ensures.value c.in_err-put.ensures.err))

pub loop-line-preserved : goal.loop-line-preserved
loop-line-preserved g c = record {
  gained = line_gained (g.S.Sink.given c.args.sink.now) (g.S.Sink.given c.loop-line.sink) (g.S.Sink.given c.put.new.self) (lines_left c.loop-line.lines) (lines_left c.push_next.new.self) (journal_pieces c.args.events.now c.args.undos.now)
      (string_bytes c.loop-line.line) (string_bytes c.push_next.new.text) c.loop-line.invariant.gained c.loop-line.invariant.empty (c.in_ok-push_next.ensures.more (ap Ok c.if-branch.true))
      (subst (λ bytes. Gains (g.S.Sink.given c.loop-line.sink) (g.S.Sink.given c.put.new.self) (bytes ∷ [])) c.as_bytes.ensures.value c.in_ok-put.ensures.ok);
  empty = c.clear.ensures.bytes;
  faults = c.in_ok-put.ensures.ok_faults ∙ c.loop-line.invariant.faults;
}
