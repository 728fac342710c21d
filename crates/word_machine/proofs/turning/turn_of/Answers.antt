use Rattle.std.proofs.Common.{◌∙◌, ap}
use Rattle.thread_moves.specs.declared.thread.JThread.{JThread}
use Rattle.word_machine.proofs.turning.turn_of.Goals as goal

pub turn-requires-clause-allows : goal.turn-requires-clause-allows
turn-requires-clause-allows g c = c.requires.may

pub turn-requires-clause-names : goal.turn-requires-clause-names
turn-requires-clause-names g c = c.requires.names

pub returns-clause-made : goal.returns-clause-made
returns-clause-made g c = record { turned = c.in_ok-turn.ensures.turned; bounds = c.turn.ensures.bounds; is_kind = c.last_kind-kind.ensures ∙ ap (λ (z : JThread _). z.own.last_kind) c.thread.ensures ∙ c.in_ok-turn.ensures.last_kind }
