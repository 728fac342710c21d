use Rattle.std.proofs.Common.{◌≡◌, sym, ap, subst}
use Rattle.std.specs.Prelude.{IfSome}
use Rattle.op_core.specs.Replies.{FitsNext}
use Rattle.automaton_rows.specs.Laws.{reply_of}
use Rattle.thread_automaton.specs.ThreadState.{ThreadState}
use Rattle.thread_moves.specs.Thread.{thread_of}
use Rattle.thread_moves.specs.Change.{change_meant, OpensNone}
use Rattle.thread_changes.proofs.ChangeLemmas.{opens_none, room_stays}
use Rattle.thread_changes.proofs.apply.apply.Goals as goal

pub apply_settled-requires : goal.apply_settled-requires
apply_settled-requires g c =
    let none : OpensNone c.args.change = opens_none c.args.change c.in_default.not-Opens c.in_default.not-OpensLevel in
    record {
      fits = subst (λ (th : ThreadState g.C.ThreadCode.State). IfSome (reply_of (change_meant th c.args.change)) (FitsNext (g.C.ThreadCode.code.next th.local)))
          (sym c.abandon.ensures.thread) c.requires.fits;
      saves = c.abandon.ensures.saves;
      room = room_stays c.args.thread.now c.abandon.new.thread c.args.change none c.abandon.ensures.room c.requires.room;
      shut = none;
    }
