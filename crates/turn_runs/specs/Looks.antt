-- Which turns pass by without a look.
use Rattle.std.specs.Prelude.{ℕ, Bool, true, false, not, ◌&&◌, Some, nat_eq}
use Rattle.std.specs.Int.{bit_at}
use Rattle.std.specs.Option.{is_some}
use Rattle.op_core.specs.declared.Next.{Next}
use Rattle.op_core.specs.declared.Next.TheVariants.{Want}
use Rattle.step_port.specs.Steps.{kind_of}
use Rattle.thread_automaton.specs.Told.{Told, probed, advanced}
use Rattle.rollback_core.specs.declared.turned.Turn.{Turn}
use Rattle.rollback_core.specs.declared.turned.Turn.TheVariants.{Silent, Probed, Advanced}
use Rattle.turn_runs.specs.declared.looks.Looks.{Looks}
use Rattle.turn_runs.specs.Turns.{TurnMove, silent, made}

-- the caller looks at steps of kind k
abbrev pub looks_at : Looks → ℕ → Bool
looks_at looks k = nat_eq (bit_at looks.kinds k) 1

-- a turn whose step has kind k goes on with its thread, and the caller looks neither at the kind nor at the event, if it shows one
abbrev pub is_passed : Looks → ℕ → Bool → Bool
is_passed looks k shows = not (looks_at looks k) && not (shows && looks.events)

-- a turn shows an event where its thread wanted an operation and has its reply
abbrev pub shows : Next → Told → Bool
shows (Want op) (advanced (Some reply)) = true
shows next tells = false

-- what a turn reports of a step of kind k passes by
abbrev pub passes : Looks → ℕ → Next → Told → Bool
passes looks k next probed = is_passed looks k false
passes looks k next (advanced reply) = is_passed looks k (shows next (advanced reply))
passes looks k next tells = false

-- a turn that made this passes by
abbrev pub move_passes : Looks → TurnMove → Bool
move_passes looks silent = true
move_passes looks (made next step answer tells) = passes looks (kind_of step) next tells

-- a turn that says this, and whose step has kind k, passes by
abbrev pub passes_by : {C Pass : Type 0} → Looks → ℕ → Turn C Pass → Bool
passes_by looks k Silent = true
passes_by looks k Probed = is_passed looks k false
passes_by looks k (Advanced event) = is_passed looks k (is_some event)
passes_by looks k said = false
