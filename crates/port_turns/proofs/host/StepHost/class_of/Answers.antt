use Rattle.std.proofs.Common.{◌-◌, refl, sym, subst}
use Rattle.op_core.specs.declared.Op.TheVariants.{ClassOf}
use Rattle.op_core.specs.declared.Reply.TheVariants.{Class}
use Rattle.heap_words.specs.Words.{header_class, header_length}
use Rattle.heap_words.specs.declared.words.Header.{Header}
use Rattle.thread_moves.specs.declared.thread.Own.{Own}
use Rattle.port_turns.specs.Place.{HostAnswers}
use Rattle.port_turns.specs.Borrowed.{host_place}
use Rattle.port_turns.proofs.StepLemmas.{allowed_first, header_answers}
use Rattle.port_turns.proofs.host.StepHost.class_of.Goals as goal

pub load_word-word-requires : goal.load_word-word-requires
load_word-word-requires g c =
    allowed_first g.C.ThreadCode.code g.P.StepPort.stepped g.P.StepPort.allows (host_place c.args.self.now) (ClassOf c.args.object) c.args.object c.requires (c.if-not-can_try.ensures refl) refl

pub returns-clause-some : goal.returns-clause-some
returns-clause-some g c = (
  tt,
  record { own = refl; port = refl },
  subst (λ (header : Header). HostAnswers g.C.ThreadCode.code g.P.StepPort.stepped (host_place c.args.self.now) (ClassOf c.args.object) (Class header.class header.length)
      (record { own = c.count_event.new.own; port = c.load_word-word.new.self; left = c.args.self.now.left - 1 })) (sym c.unpack-header.ensures)
      (subst (λ (own : Own). HostAnswers g.C.ThreadCode.code g.P.StepPort.stepped (host_place c.args.self.now) (ClassOf c.args.object)
      (Class (header_class c.load_word-word.result) (header_length c.load_word-word.result))
      (record { own = own; port = c.load_word-word.new.self; left = c.args.self.now.left - 1 })) (sym c.count_event.ensures)
      (header_answers g.C.ThreadCode.code g.P.StepPort.stepped (host_place c.args.self.now) c.args.object c.load_word-word.result c.load_word-word.new.self
      c.requires.between (c.if-not-can_try.ensures refl) c.load_word-word.ensures)),
)
