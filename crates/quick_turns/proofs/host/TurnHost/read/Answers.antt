use Rattle.std.proofs.Common.{◌-◌, refl, sym, subst, arith}
use Rattle.op_core.specs.declared.Op.TheVariants.{Read}
use Rattle.op_core.specs.declared.Reply.TheVariants.{Value}
use Rattle.heap_words.specs.Words.{value_of}
use Rattle.heap_words.specs.declared.words.HeapWord.{HeapWord}
use Rattle.thread_automaton.specs.NextMove.{word_place}
use Rattle.thread_moves.specs.declared.thread.Own.{Own}
use Rattle.quick_turns.specs.Place.{HostAnswers}
use Rattle.quick_turns.specs.Borrowed.{host_place}
use Rattle.quick_turns.proofs.PathLemmas.{read_range, allowed_reached, read_answers}
use Rattle.quick_turns.proofs.host.TurnHost.read.Goals as goal

pub overflow_add-at : goal.overflow_add-at
overflow_add-at g c =
    let range = read_range g.C.ThreadCode.code g.P.StepPort.stepped g.W.WordSight.words g.met.W.WordSight.on_words g.P.StepPort.allows (host_place c.args.self.now) c.args.object c.args.place c.requires in
    omega (arith, range)

pub overflow_add-at-2 : goal.overflow_add-at-2
overflow_add-at-2 g c =
    let range = read_range g.C.ThreadCode.code g.P.StepPort.stepped g.W.WordSight.words g.met.W.WordSight.on_words g.P.StepPort.allows (host_place c.args.self.now) c.args.object c.args.place c.requires in
    omega (arith, range)

pub reach-requires : goal.reach-requires
reach-requires g c = (Read c.args.object c.args.place, refl, c.requires)

pub load_word-word-requires : goal.load_word-word-requires
load_word-word-requires g c =
    allowed_reached g.C.ThreadCode.code g.P.StepPort.stepped g.W.WordSight.words g.met.W.WordSight.on_words g.P.StepPort.allows (host_place c.args.self.now) (host_place c.reach.new.self)
    (Read c.args.object c.args.place) (word_place c.args.object c.args.place) refl c.requires (c.if-not-reach.ensures.reaches refl)

pub returns-clause-some : goal.returns-clause-some
returns-clause-some g c = (
  tt,
  record { own = c.reach.ensures.same.own; port = c.reach.ensures.same.port },
  subst (λ (word : HeapWord). HostAnswers g.C.ThreadCode.code g.P.StepPort.stepped g.W.WordSight.words (host_place c.args.self.now) (Read c.args.object c.args.place) (Value word.value)
      (record { own = c.count_event.new.own; port = c.load_word-word.new.self; left = c.reach.new.self.left - 1 })) (sym c.unpack.ensures)
      (subst (λ (own : Own). HostAnswers g.C.ThreadCode.code g.P.StepPort.stepped g.W.WordSight.words (host_place c.args.self.now) (Read c.args.object c.args.place) (Value (value_of c.load_word-word.result))
      (record { own = own; port = c.load_word-word.new.self; left = c.reach.new.self.left - 1 })) (sym c.count_event.ensures)
      (read_answers g.C.ThreadCode.code g.P.StepPort.stepped g.W.WordSight.words g.met.W.WordSight.on_words c.args.object c.args.place c.load_word-word.result (host_place c.args.self.now) (host_place c.reach.new.self)
      c.load_word-word.new.self c.requires.between (c.if-not-reach.ensures.reaches refl) c.load_word-word.ensures)),
)
