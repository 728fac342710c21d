use Rattle.std.proofs.Common.{refl, sym, subst, ◌-◌}
use Rattle.op_core.specs.declared.Op.TheVariants.{ClassOf}
use Rattle.op_core.specs.declared.Reply.TheVariants.{Class}
use Rattle.heap_words.specs.Words.{header_class, header_length}
use Rattle.heap_words.specs.declared.words.Header.{Header}
use Rattle.thread_moves.specs.declared.thread.Own.{Own}
use Rattle.quick_turns.specs.Place.{HostAnswers}
use Rattle.quick_turns.specs.Borrowed.{host_place}
use Rattle.quick_turns.proofs.PathLemmas.{allowed_look, allowed_header, header_answers}
use Rattle.quick_turns.proofs.host.TurnHost.class_of.Goals as goal

pub look_at_own-requires-clause-allowed : goal.look_at_own-requires-clause-allowed
look_at_own-requires-clause-allowed g c =
    allowed_look g.C.ThreadCode.code g.P.StepPort.stepped g.W.WordSight.words g.met.W.WordSight.on_words
    g.P.StepPort.allows (host_place c.args.self.now) (ClassOf c.args.object) c.requires (c.if-not-has_turns.ensures refl)

pub load_word-word-requires : goal.load_word-word-requires
load_word-word-requires g c =
    allowed_header g.C.ThreadCode.code g.P.StepPort.stepped g.W.WordSight.words g.met.W.WordSight.on_words
    g.P.StepPort.allows (host_place c.args.self.now) (host_place c.look_at_own.new.self) c.args.object c.requires (c.if-not-has_turns.ensures refl) (c.if-not-is_as_seen.ensures refl)
    c.look_at_own.ensures.looks

pub returns-clause-some : goal.returns-clause-some
returns-clause-some g c = (
  tt,
  record { own = c.look_at_own.ensures.same.own; port = c.look_at_own.ensures.same.port },
  subst (λ (header : Header). HostAnswers g.C.ThreadCode.code g.P.StepPort.stepped g.W.WordSight.words (host_place c.args.self.now) (ClassOf c.args.object) (Class header.class header.length)
      (record { own = c.count_event.new.own; port = c.load_word-word.new.self; left = c.look_at_own.new.self.left - 1 })) (sym c.unpack-header.ensures)
      (subst (λ (own : Own). HostAnswers g.C.ThreadCode.code g.P.StepPort.stepped g.W.WordSight.words (host_place c.args.self.now) (ClassOf c.args.object)
      (Class (header_class c.load_word-word.result) (header_length c.load_word-word.result))
      (record { own = own; port = c.load_word-word.new.self; left = c.look_at_own.new.self.left - 1 })) (sym c.count_event.ensures)
      (header_answers g.C.ThreadCode.code g.P.StepPort.stepped g.W.WordSight.words g.met.W.WordSight.on_words c.args.object c.load_word-word.result (host_place c.args.self.now) (host_place c.look_at_own.new.self)
      c.load_word-word.new.self (c.if-not-has_turns.ensures refl) c.requires.between (c.if-not-is_as_seen.ensures refl) c.look_at_own.ensures.looks c.load_word-word.ensures)),
)
