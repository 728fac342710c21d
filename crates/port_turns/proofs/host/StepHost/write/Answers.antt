use Rattle.std.proofs.Common.{◌-◌, ℕ, refl, sym, subst, arith}
use Rattle.op_core.specs.declared.Op.TheVariants.{Write}
use Rattle.op_core.specs.declared.Reply.{Reply}
use Rattle.step_port.specs.declared.step.Step.TheVariants.{SwapWord}
use Rattle.step_port.specs.Words.{exchanged}
use Rattle.thread_automaton.specs.NextMove.{word_place}
use Rattle.thread_moves.specs.declared.thread.Own.{Own}
use Rattle.turn_runs.specs.Own.{written_by}
use Rattle.port_turns.specs.Place.{HostAnswers, HostStops}
use Rattle.port_turns.specs.Borrowed.{host_place}
use Rattle.port_turns.proofs.StepLemmas.{write_range, allowed_first, allowed_swap, write_answers, write_stops, write_lost, is_done, is_lost}
use Rattle.port_turns.proofs.host.StepHost.write.Goals as goal

pub overflow_add-at : goal.overflow_add-at
overflow_add-at g c =
    let range = write_range g.C.ThreadCode.code g.P.StepPort.stepped g.P.StepPort.allows (host_place c.args.self.now) c.args.object c.args.place c.args.value c.requires in
    omega (arith, range)

pub overflow_add-at-2 : goal.overflow_add-at-2
overflow_add-at-2 g c =
    let range = write_range g.C.ThreadCode.code g.P.StepPort.stepped g.P.StepPort.allows (host_place c.args.self.now) c.args.object c.args.place c.args.value c.requires in
    omega (arith, range)

pub load_word-word-requires : goal.load_word-word-requires
load_word-word-requires g c =
    allowed_first g.C.ThreadCode.code g.P.StepPort.stepped g.P.StepPort.allows (host_place c.args.self.now) (Write c.args.object c.args.place c.args.value) (word_place c.args.object c.args.place) c.requires
    (c.if-not-can_try.ensures refl) refl

pub returns-then-not-is_safe-clause-none : goal.returns-then-not-is_safe-clause-none
returns-then-not-is_safe-clause-none g c = (
  record { own = refl; port = refl },
  subst (λ (own : Own). HostStops g.C.ThreadCode.code g.P.StepPort.stepped (host_place c.args.self.now) (Write c.args.object c.args.place c.args.value)
      (record { own = own; port = c.load_word-word.new.self; left = c.args.self.now.left - 1 })) (sym c.meet_writer.ensures)
      (write_stops g.C.ThreadCode.code g.P.StepPort.stepped (host_place c.args.self.now) c.args.object c.args.place c.args.value c.load_word-word.result c.load_word-word.new.self c.requires.between
      (c.if-not-can_try.ensures refl) (sym c.if-not-is_safe.ensures) c.load_word-word.ensures),
)

pub swap_word-swapped-requires : goal.swap_word-swapped-requires
swap_word-swapped-requires g c =
    subst (λ new. g.P.StepPort.allows c.load_word-word.new.self (SwapWord (word_place c.args.object c.args.place) c.load_word-word.result new)) (sym c.written_word-written.ensures)
    (allowed_swap g.C.ThreadCode.code g.P.StepPort.stepped g.P.StepPort.allows (host_place c.args.self.now) c.args.object c.args.place c.args.value c.load_word-word.result c.load_word-word.new.self c.requires
    (c.if-not-can_try.ensures refl) (sym c.if-not-is_safe.ensures) c.load_word-word.ensures)

pub returns-then-is_err-clause-none : goal.returns-then-is_err-clause-none
returns-then-is_err-clause-none g c =
    let (u, lost) = is_lost c.swap_word-swapped.result c.if-is_err.ensures.value in
    let new : ℕ = written_by c.args.self.now.own.now c.args.value in
    let swapped = subst (λ new. g.P.StepPort.stepped c.load_word-word.new.self (SwapWord (word_place c.args.object c.args.place) c.load_word-word.result new) (exchanged c.swap_word-swapped.result) c.swap_word-swapped.new.self)
    c.written_word-written.ensures c.swap_word-swapped.ensures in (
      record { own = refl; port = refl },
      subst (λ (own : Own). HostStops g.C.ThreadCode.code g.P.StepPort.stepped (host_place c.args.self.now) (Write c.args.object c.args.place c.args.value)
          (record { own = own; port = c.swap_word-swapped.new.self; left = c.args.self.now.left - 1 - 1 })) (sym c.probe.ensures)
          (write_lost g.C.ThreadCode.code g.P.StepPort.stepped (host_place c.args.self.now) c.args.object c.args.place c.args.value c.load_word-word.result u c.load_word-word.new.self c.swap_word-swapped.new.self
          c.requires.between (c.if-not-can_try.ensures refl) (sym c.if-not-is_safe.ensures) c.load_word-word.ensures
          (subst (λ a. g.P.StepPort.stepped c.load_word-word.new.self (SwapWord (word_place c.args.object c.args.place) c.load_word-word.result new) a c.swap_word-swapped.new.self) lost swapped)),
    )

pub returns-clause-some : goal.returns-clause-some
returns-clause-some g c =
    let new : ℕ = written_by c.args.self.now.own.now c.args.value in
    let swapped = subst (λ new. g.P.StepPort.stepped c.load_word-word.new.self (SwapWord (word_place c.args.object c.args.place) c.load_word-word.result new) (exchanged c.swap_word-swapped.result) c.swap_word-swapped.new.self)
    c.written_word-written.ensures c.swap_word-swapped.ensures in (
      tt,
      record { own = refl; port = refl },
      subst (λ (own : Own). HostAnswers g.C.ThreadCode.code g.P.StepPort.stepped (host_place c.args.self.now) (Write c.args.object c.args.place c.args.value) Reply.Done
          (record { own = own; port = c.swap_word-swapped.new.self; left = c.args.self.now.left - 1 - 1 })) (sym c.count_event.ensures)
          (write_answers g.C.ThreadCode.code g.P.StepPort.stepped (host_place c.args.self.now) c.args.object c.args.place c.args.value c.load_word-word.result c.load_word-word.new.self c.swap_word-swapped.new.self
          c.requires.between (c.if-not-can_try.ensures refl) (sym c.if-not-is_safe.ensures) c.load_word-word.ensures
          (subst (λ a. g.P.StepPort.stepped c.load_word-word.new.self (SwapWord (word_place c.args.object c.args.place) c.load_word-word.result new) a c.swap_word-swapped.new.self)
          (is_done c.swap_word-swapped.result c.if-is_err.ensures.value) swapped)),
    )
