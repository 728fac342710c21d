use Rattle.std.proofs.Common.{◌≡◌, true, sym, ◌∙◌, ap, subst}
use Rattle.std.proofs.lemmas.Bool.{false≢true}
use Rattle.schedules.specs.Run.{AreThose}
use Rattle.thread_moves.specs.Thread.{thread_of}
use Rattle.sched_core.specs.ScheduledRun.{leaves_words, CanGoOn}
use Rattle.sched_core.proofs.KeepLemmas.{list_stays}
use Rattle.sched_core.proofs.word_run.WordRun.give_listed.Goals as goal
use Rattle.sched_core.proofs.word_run.WordRun.give_listed.Goals.{then-leaves_words, else-leaves_words}

pub returns-clause-listed : goal.returns-clause-listed
returns-clause-listed g c = λ is.
    let code = g.C.ThreadCode.code in
    let meant = thread_of g.C.ThreadCode.state g.C.ThreadCode.saved in
    let new = c.give_quickly.new.self in
    let old = c.args.self.now in
    elim c.if-leaves_words.branch [
      | then-leaves_words w ↦
          let leaves : leaves_words c.in_ok-end.end ≡ true = sym c.leaves_words.ensures ∙ w.if-leaves_words.true in
          let can : CanGoOn code meant new.machine.words new.machine.seats.places.items c.args.thread = sym w.is_enabled-self.ensures ∙ sym w.self-is ∙ is in
          subst (AreThose (CanGoOn code meant new.machine.words new.machine.seats.places.items)) (ap (λ v. v.items) (sym c.give_quickly.ensures.enabled))
          (list_stays code meant old.machine.bounds old.machine.words new.machine.words old.machine.seats.places.items new.machine.seats.places.items c.args.thread c.in_ok-end.end
          leaves c.in_ok-end.ensures.turn c.requires.can can old.enabled.items c.requires.listed)
      | else-leaves_words w ↦ absurd (false≢true (sym w.if-leaves_words.false ∙ sym w.self-is ∙ is))
    ]
