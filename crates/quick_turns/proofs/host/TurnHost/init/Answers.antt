use Rattle.std.proofs.Common.{refl, sym, subst, ◌-◌}
use Rattle.op_core.specs.declared.Op.TheVariants.{Init}
use Rattle.op_core.specs.declared.Reply.TheVariants.{Ready}
use Rattle.thread_moves.specs.declared.thread.Own.{Own}
use Rattle.quick_turns.specs.Place.{HostAnswers}
use Rattle.quick_turns.specs.Paths.{IsInitialized}
use Rattle.quick_turns.specs.Borrowed.{host_place}
use Rattle.quick_turns.proofs.PathLemmas.{allowed_look, allowed_class, init_answers}
use Rattle.quick_turns.proofs.host.TurnHost.init.Goals as goal

pub look_at_own-requires-clause-allowed : goal.look_at_own-requires-clause-allowed
look_at_own-requires-clause-allowed g c =
    allowed_look g.C.ThreadCode.code g.P.StepPort.stepped g.W.WordSight.words g.met.W.WordSight.on_words
    g.P.StepPort.allows (host_place c.args.self.now) (Init c.args.class) c.requires (c.if-not-has_turns.ensures refl)

pub load_class-word-requires : goal.load_class-word-requires
load_class-word-requires g c =
    allowed_class g.C.ThreadCode.code g.P.StepPort.stepped g.W.WordSight.words g.met.W.WordSight.on_words
    g.P.StepPort.allows (host_place c.args.self.now) (host_place c.look_at_own.new.self) c.args.class c.requires (c.if-not-has_turns.ensures refl) (c.if-not-is_as_seen.ensures refl)
    (subst (IsInitialized c.args.self.now.own.now) c.class-word.ensures (c.if-not-is_initialized.ensures refl)) c.look_at_own.ensures.looks

pub returns-clause-some : goal.returns-clause-some
returns-clause-some g c = (
  tt,
  record { own = c.look_at_own.ensures.same.own; port = c.look_at_own.ensures.same.port },
  subst (λ (own : Own). HostAnswers g.C.ThreadCode.code g.P.StepPort.stepped g.W.WordSight.words (host_place c.args.self.now) (Init c.args.class) Ready
      (record { own = own; port = c.load_class-word.new.self; left = c.look_at_own.new.self.left - 1 })) (sym c.count_event.ensures)
      (init_answers g.C.ThreadCode.code g.P.StepPort.stepped g.W.WordSight.words g.met.W.WordSight.on_words c.args.class c.load_class-word.result (host_place c.args.self.now) (host_place c.look_at_own.new.self)
      c.load_class-word.new.self (c.if-not-has_turns.ensures refl) c.requires.between (c.if-not-is_as_seen.ensures refl)
      (subst (IsInitialized c.args.self.now.own.now) c.class-word.ensures (c.if-not-is_initialized.ensures refl)) c.look_at_own.ensures.looks c.load_class-word.ensures),
)
