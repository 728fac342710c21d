use Rattle.std.proofs.Common.{◌-◌, refl, sym, subst, arith}
use Rattle.op_core.specs.declared.Op.TheVariants.{Read}
use Rattle.op_core.specs.declared.Reply.TheVariants.{Value}
use Rattle.heap_words.specs.Words.{value_of}
use Rattle.heap_words.specs.declared.words.HeapWord.{HeapWord}
use Rattle.thread_automaton.specs.NextMove.{word_place}
use Rattle.thread_moves.specs.declared.thread.Own.{Own}
use Rattle.port_turns.specs.Place.{HostAnswers, HostStops}
use Rattle.port_turns.specs.Borrowed.{host_place}
use Rattle.port_turns.proofs.StepLemmas.{read_range, allowed_first, read_answers, read_stops}
use Rattle.port_turns.proofs.host.StepHost.read.Goals as goal

pub overflow_add-object : goal.overflow_add-object
overflow_add-object g c =
    let range = read_range g.C.ThreadCode.code g.P.StepPort.stepped g.P.StepPort.allows (host_place c.args.self.now) c.args.object c.args.place c.requires in
    omega (arith, range)

pub overflow_add-object-2 : goal.overflow_add-object-2
overflow_add-object-2 g c =
    let range = read_range g.C.ThreadCode.code g.P.StepPort.stepped g.P.StepPort.allows (host_place c.args.self.now) c.args.object c.args.place c.requires in
    omega (arith, range)

pub load_word-word-requires : goal.load_word-word-requires
load_word-word-requires g c =
    allowed_first g.C.ThreadCode.code g.P.StepPort.stepped g.P.StepPort.allows (host_place c.args.self.now) (Read c.args.object c.args.place) (word_place c.args.object c.args.place) c.requires
    (c.if-not-can_try.ensures refl) refl

pub returns-then-not-is_safe-clause-none : goal.returns-then-not-is_safe-clause-none
returns-then-not-is_safe-clause-none g c = (
  record { own = refl; port = refl },
  subst (λ (own : Own). HostStops g.C.ThreadCode.code g.P.StepPort.stepped (host_place c.args.self.now) (Read c.args.object c.args.place)
      (record { own = own; port = c.load_word-word.new.self; left = c.args.self.now.left - 1 })) (sym c.meet_writer.ensures)
      (read_stops g.C.ThreadCode.code g.P.StepPort.stepped (host_place c.args.self.now) c.args.object c.args.place c.load_word-word.result c.load_word-word.new.self c.requires.between
      (c.if-not-can_try.ensures refl) (sym c.if-not-is_safe.ensures) c.load_word-word.ensures),
)

pub returns-clause-some : goal.returns-clause-some
returns-clause-some g c = (
  tt,
  record { own = refl; port = refl },
  subst (λ (word : HeapWord). HostAnswers g.C.ThreadCode.code g.P.StepPort.stepped (host_place c.args.self.now) (Read c.args.object c.args.place) (Value word.value)
      (record { own = c.count_event.new.own; port = c.load_word-word.new.self; left = c.args.self.now.left - 1 })) (sym c.unpack.ensures)
      (subst (λ (own : Own). HostAnswers g.C.ThreadCode.code g.P.StepPort.stepped (host_place c.args.self.now) (Read c.args.object c.args.place) (Value (value_of c.load_word-word.result))
      (record { own = own; port = c.load_word-word.new.self; left = c.args.self.now.left - 1 })) (sym c.count_event.ensures)
      (read_answers g.C.ThreadCode.code g.P.StepPort.stepped (host_place c.args.self.now) c.args.object c.args.place c.load_word-word.result c.load_word-word.new.self c.requires.between
      (c.if-not-can_try.ensures refl) (sym c.if-not-is_safe.ensures) c.load_word-word.ensures)),
)
