use Rattle.std.proofs.Common.{◌≡◌, ℕ, List, reverse, take, nat_eq}
use Rattle.std.specs.Prelude.{slice_get}
use Rattle.std.specs.List.{list_any}
use Rattle.thread_automaton.specs.declared.Held.{Held}
use Rattle.thread_automaton.specs.ThreadState.{held_as, from_level, highest}
use Rattle.thread_automaton.specs.Changes.{without}
use Rattle.thread_moves.specs.Items.{is_some_item}
use Rattle.thread_moves.proofs.stack.highest_of_others_in.Given as goal

abbrev pub invariant-loop-monitor : goal.invariant-loop-monitor
invariant-loop-monitor l = l.most ≡ highest (without l.object (reverse (take l.monitor-index l.held)))
