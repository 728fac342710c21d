-- No change counts a turn.
use Rattle.std.proofs.Common.{◌≡◌, ◌∙◌, Bool, true, false, [], refl, ap}
use Rattle.std.specs.Prelude.{if◌then◌else◌}
use Rattle.op_core.specs.ThreadCode.{Code}
use Rattle.thread_automaton.specs.ThreadState.{ThreadState, is_open}
use Rattle.thread_automaton.specs.Changes.{Change, opens_level, closes_to, sees_pinned, closes, goes_back, changed, forgotten}

forgotten_counted : {S : Type 0} (th : ThreadState S) → (forgotten th).counted ≡ th.counted
forgotten_counted th = by_test (is_open th)
  where
    by_test : (t : Bool) → (if t then th else record th { log = []; saved = []; marks = [] }).counted ≡ th.counted
    by_test true = refl
    by_test false = refl

changed_counted : {S : Type 0} (code : Code S) (th : ThreadState S) (change : Change) → (changed code th change).counted ≡ th.counted
changed_counted code th (sees_pinned depth attempt) = forgotten_counted (record th { pinned = depth; attempt = attempt })
changed_counted code th (opens_level attempt) = forgotten_counted _
changed_counted code th (closes_to n attempt) = forgotten_counted _
changed_counted code th closes = forgotten_counted _
changed_counted code th (goes_back n) = forgotten_counted _
changed_counted code th change = refl

pub counted_stays : {S : Type 0} (code : Code S) (th behind : ThreadState S) (change : Change) → behind ≡ changed code th change → behind.counted ≡ th.counted
counted_stays code th behind change is = ap (λ th. th.counted) is ∙ changed_counted code th change
