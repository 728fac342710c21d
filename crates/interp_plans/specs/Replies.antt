-- What follows the reply to an operation.
use Rattle.std.specs.Prelude.{ℕ, suc, ◌*◌, ◌%◌, ◌^◌, ◌==◌, Option, None, Some, List, [], ◌∷◌, ◌++◌, drop, slice_get, if◌then◌else◌}
use Rattle.builtin_world.specs.declared.number.TheConstants.{ARRAY_INDEX_OUT_OF_BOUNDS_EXCEPTION, ARRAY_STORE_EXCEPTION, CLASS_CAST_EXCEPTION, ILLEGAL_MONITOR_STATE_EXCEPTION, ILLEGAL_THREAD_STATE_EXCEPTION, ERROR, NO_CLASS_DEF_FOUND_ERROR, EXCEPTION_IN_INITIALIZER_ERROR, RUNNABLE}
use Rattle.builtin_world.specs.declared.word.TheConstants.{THREAD_PRIORITY, THREAD_TARGET}
use Rattle.code_decode.specs.declared.code.ClassUnit.{ClassUnit}
use Rattle.frame_snapshot.specs.declared.stage.Caller.{Caller}
use Rattle.frame_snapshot.specs.declared.todo.Then.{Then}
use Rattle.frame_snapshot.specs.declared.todo.Then.TheVariants as thens
use Rattle.instructions.specs.declared.operation.ElementKind.{ElementKind}
use Rattle.instructions.specs.declared.operation.ElementKind.TheVariants as elements
use Rattle.op_core.specs.declared.Line.TheVariants as lines
use Rattle.op_core.specs.declared.Op.TheVariants.{Rewake, Start}
use Rattle.op_core.specs.declared.Reply.{Reply}
use Rattle.java_rows.specs.Calls.{after_call, invokes_selected}
use Rattle.java_rows.specs.Natives.{on_woken, on_started, not_owner, prints}
use Rattle.java_rows.specs.Numbers.{is_index}
use Rattle.java_rows.specs.Objects.{reads_element, kept_element, writes_long, stores_checked}
use Rattle.java_rows.specs.Plan.{notifies, finds, Frame, broke, ends, Plan, want, silently, calls, ready, over, stuck, on_class, on_value, on_made, on_done, on_owner, on_init, asks_class, reads, writes, makes, Use, raises, completes, thrown_in, fails}
use Rattle.java_rows.specs.Program.{is_subclass, takes_element, select, select_for, runnable_run}
use Rattle.interp_plans.specs.Initializing.{chain_of, broken_at, done_at, asks_at}
use Rattle.interp_plans.specs.Uses.{use_by, use_at, arguments_at, thrown_by, end_of}

-- ---- elements of arrays, whose class and length were asked for

abbrev pub loads_then : Frame → ElementKind → List ℕ → Reply → Plan
loads_then f kind (i ∷ r ∷ rest) = on_class (λ c n.
    if is_index i n then reads_element kind r i (λ words. completes f (words ++ rest))
    else fails f ARRAY_INDEX_OUT_OF_BOUNDS_EXCEPTION)
loads_then f kind _ = λ reply. stuck

abbrev pub stores_word_then : List ClassUnit → Frame → ElementKind → List ℕ → Reply → Plan
stores_word_then us f kind (v ∷ i ∷ r ∷ rest) = on_class (λ c n.
    if is_index i n then writes r i (kept_element us kind c v) (completes f rest)
    else fails f ARRAY_INDEX_OUT_OF_BOUNDS_EXCEPTION)
stores_word_then us f kind _ = λ reply. stuck

abbrev pub stores_long_then : Frame → List ℕ → Reply → Plan
stores_long_then f (high ∷ low ∷ i ∷ r ∷ rest) = on_class (λ c n.
    if is_index i n then writes_long r (2 * i) low high (completes f rest)
    else fails f ARRAY_INDEX_OUT_OF_BOUNDS_EXCEPTION)
stores_long_then f _ = λ reply. stuck

abbrev pub stores_reference_then : List ClassUnit → Frame → List ℕ → Reply → Plan
stores_reference_then us f (v ∷ i ∷ r ∷ rest) = on_class (λ c n.
    if is_index i n then stores_checked us f v c (writes r i v (completes f rest))
    else fails f ARRAY_INDEX_OUT_OF_BOUNDS_EXCEPTION)
stores_reference_then us f _ = λ reply. stuck

abbrev pub stores_then : List ClassUnit → Frame → ElementKind → List ℕ → Reply → Plan
stores_then us f elements.Long stack = stores_long_then f stack
stores_then us f elements.Reference stack = stores_reference_then us f stack
stores_then us f kind stack = stores_word_then us f kind stack

abbrev pub checked_then : List ClassUnit → Frame → ℕ → List ℕ → Reply → Plan
checked_then us f c (v ∷ i ∷ r ∷ rest) = on_class (λ d n.
    if takes_element us c d then writes r i v (completes f rest) else fails f ARRAY_STORE_EXCEPTION)
checked_then us f c _ = λ reply. stuck

-- ---- threads, whose one operand is the receiver or the target

abbrev pub notified_all_then : Frame → Caller → List ℕ → Reply → Plan
notified_all_then f caller (r ∷ rest) = on_woken
    ((use_by f caller rest).value [])
    ((use_by f caller rest).again (notifies r))
    (not_owner (use_by f caller rest))
notified_all_then f caller [] = λ reply. stuck

abbrev pub runs_target_then : Frame → Caller → List ℕ → Reply → Plan
runs_target_then f caller (t ∷ rest) = on_value (λ v.
    if v == 0 then (use_by f caller rest).value [] else (use_by f caller rest).again (finds v))
runs_target_then f caller [] = λ reply. stuck

abbrev pub finds_run_then : List ClassUnit → ℕ → Frame → Caller → List ℕ → Reply → Plan
finds_run_then us me f caller (v ∷ rest) = on_class (λ c n.
    invokes_selected us me (v ∷ []) (use_by f caller rest) (select_for us RUNNABLE runnable_run c))
finds_run_then us me f caller [] = λ reply. stuck

-- the priority of a new thread is written, and then its target, if there is one
abbrev pub inherits_then : Use → ℕ → Option ℕ → Plan
inherits_then u t None = u.value []
inherits_then u t (Some target) = writes t THREAD_TARGET target (u.value [])

-- ---- the class at a place of the chain, how far it is initialized

abbrev pub asked_then : List ClassUnit → ℕ → Frame → Caller → ℕ → Option ℕ → Reply → Plan
asked_then us me f caller i (Some c) = on_init
    (done_at us me f caller (chain_of us f caller) i)
    (makes NO_CLASS_DEF_FOUND_ERROR 0 (λ r.
    broken_at us f caller (chain_of us f caller) i r NO_CLASS_DEF_FOUND_ERROR))
    (asks_at us me f caller (chain_of us f caller) (suc i))
asked_then us me f caller i None = λ reply. stuck

-- ---- one row each

abbrev pub then_of : List ClassUnit → ℕ → Frame → Then → Reply → Plan
then_of us me f (thens.Done site) = on_done ((use_at f site).value [])
then_of us me f (thens.Read site) = on_value (λ v. (use_at f site).value (v ∷ []))
then_of us me f (thens.LowRead site r i) =
    on_value (λ low. reads r i (λ high. (use_at f site).value (high ∷ low ∷ [])))
then_of us me f (thens.HighRead site low) = on_value (λ high. (use_at f site).value (high ∷ low ∷ []))
then_of us me f (thens.LowWritten site r i high) = on_done (writes r i high ((use_at f site).value []))
then_of us me f (thens.Made site) = on_made (λ r. (use_at f site).value (r ∷ []))
then_of us me f (thens.Length site) = on_class (λ c n. (use_at f site).value (n ∷ []))
then_of us me f (thens.Cast r d) = on_class (λ c n.
    if is_subclass us c d then completes f (r ∷ drop 1 f.stack) else fails f CLASS_CAST_EXCEPTION)
then_of us me f (thens.Tested d) =
    on_class (λ c n. completes f ((if is_subclass us c d then 1 else 0) ∷ drop 1 f.stack))
then_of us me f (thens.Exited site) =
    on_owner ((use_at f site).value []) (raises (use_at f site) ILLEGAL_MONITOR_STATE_EXCEPTION)
then_of us me f (thens.Loads kind) = loads_then f kind f.stack
then_of us me f (thens.Stores kind) = stores_then us f kind f.stack
then_of us me f (thens.Checked c) = checked_then us f c f.stack
then_of us me f (thens.Selects id site) =
    on_class (λ c n. invokes_selected us me (arguments_at f site) (use_at f site) (select us c id))
then_of us me f (thens.SelectsFor interface id site) =
    on_class (λ c n. invokes_selected us me (arguments_at f site) (use_at f site) (select_for us interface id c))
then_of us me f (thens.Entered id site monitor) =
    on_done (calls id (arguments_at f site) monitor (after_call (use_at f site)))
then_of us me f (thens.Thrown r) = on_class (λ c n. thrown_in f r c)
then_of us me f (thens.Leaves outcome) =
    on_owner (silently (ready (ends (end_of outcome)))) (silently (ready (ends broke)))
then_of us me f (thens.Raised caller c) = on_made (λ r. thrown_by f caller r c)
then_of us me f thens.Ended = on_done over
then_of us me f (thens.Asked caller i) = asked_then us me f caller i (slice_get (chain_of us f caller) i)
then_of us me f (thens.Settled caller i) = on_done (done_at us me f caller (chain_of us f caller) i)
then_of us me f (thens.Broken caller i r d) = on_done (
    if is_subclass us d ERROR then broken_at us f caller (chain_of us f caller) i r d
    else makes EXCEPTION_IN_INITIALIZER_ERROR 0 (λ q.
    broken_at us f caller (chain_of us f caller) i q EXCEPTION_IN_INITIALIZER_ERROR))
then_of us me f (thens.Error caller i c) =
    on_made (λ r. broken_at us f caller (chain_of us f caller) i r c)
then_of us me f (thens.Waited site r) =
    on_owner (want (Rewake r) (on_done ((use_at f site).value []))) (not_owner (use_at f site))
then_of us me f (thens.Notified site) =
    on_woken ((use_at f site).value []) ((use_at f site).value []) (not_owner (use_at f site))
then_of us me f (thens.NotifiedAll caller) = notified_all_then f caller f.stack
then_of us me f (thens.PrintsWord site s) = on_value (λ array.
    if array == 0 then asks_class s (λ c n. prints (lines.Text n) (use_at f site))
    else prints (lines.Made array) (use_at f site))
then_of us me f (thens.PrintsText site) = on_class (λ c n. prints (lines.Text n) (use_at f site))
then_of us me f (thens.Inherits site t target) =
    on_value (λ p. writes t THREAD_PRIORITY p (inherits_then (use_at f site) t target))
then_of us me f (thens.WritesTarget site t target) =
    on_done (writes t THREAD_TARGET target ((use_at f site).value []))
then_of us me f (thens.StartsWith site t) = on_value (λ p. want (Start t (p % 2 ^ 8))
    (on_started ((use_at f site).value []) (raises (use_at f site) ILLEGAL_THREAD_STATE_EXCEPTION)))
then_of us me f (thens.Started site) =
    on_started ((use_at f site).value []) (raises (use_at f site) ILLEGAL_THREAD_STATE_EXCEPTION)
then_of us me f (thens.RunsTarget caller) = runs_target_then f caller f.stack
then_of us me f (thens.FindsRun caller) = finds_run_then us me f caller f.stack
