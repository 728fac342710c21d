-- The run is one as the erasure law asks, and something is left of it.
use Rattle.std.proofs.Common.{◌≡◌, ◌≢◌, inl, ℕ, ◌+◌, ◌<◌, ◌≤◌, ◌^◌, true, Option, None, Some, [], ◌∷◌, ◌++◌, length, refl, sym, ◌∙◌, ap, subst, arith}
use Rattle.std.specs.Prelude.{slice_get}
use Rattle.op_core.specs.declared.Line.TheVariants.{Empty}
use Rattle.op_core.specs.declared.Op.{Op}
use Rattle.op_core.specs.declared.Op.TheVariants.{New}
use Rattle.op_core.specs.declared.Next.TheVariants.{Want}
use Rattle.op_core.specs.declared.script.ScriptStep.{ScriptStep}
use Rattle.op_core.specs.declared.script.ScriptStep.TheVariants.{Pass, Call, Return, Operation}
use Rattle.op_core.specs.CleanCut.{kept_by}
use Rattle.op_core.specs.Execution.{printed}
use Rattle.op_core.specs.InPlaceList.{IsGrounded}
use Rattle.op_core.specs.Orderly.{StartWordsAreKept}
use Rattle.op_core.specs.OrdinaryState.{Object}
use Rattle.op_core.specs.Script.{ScriptState, next_at, script_code}
use Rattle.op_core.proofs.ScriptLawLemmas.{scripts_grounded}
use Rattle.op_core.proofs.PremiseLemmas.{scripts_orderly, scripts_keep}
use Rattle.fixed_objects.proofs.OpeningLemmas.{no_words}
use Rattle.section_state.specs.SectionWord.{section_word, state_of, owner_of, priority_of, pinned_of, depth_of, revoke_of, with_state, with_pinned, with_depth, with_revoke}
use Rattle.heap_words.specs.Words.{pack_tag, tag_section, tag_level, pack, value_of, tag_of, pack_header, wait_word, wait_object, wait_state, class_word, class_state, class_thread}
use Rattle.monitor_core.specs.Monitors.{monitor_word, monitor_section, monitor_depth, monitor_level}
use Rattle.core_runs.specs.Cores.{Core}
use Rattle.core_runs.specs.Reading.{ordinary}
use Rattle.core_runs.specs.Revoked.{RevokesAt}
use Rattle.kept_states.specs.Kept.{Objects, Keeps, IsKeptState}
use Rattle.first_law.specs.Free.{IsFreeRun}
use Rattle.opening_cores.specs.KeptCores.{IsBegunRun, KeepsFitting}
use Rattle.opening_cores.proofs.kept_cores.CoreLemmas.{cores_keep}
use Rattle.core_law.specs.Erasure.{is_left_out, Erasure}
use Rattle.core_law.proofs.ErasureLemmas.{runs_are_erased}
use Rattle.opening_cores.specs.Openings.{opening_core}
use Rattle.opening_cores.proofs.opening_law.OpeningLemmas.{own_threads, is_inside}
use Rattle.opening_cores.proofs.PlaceLemmas.{fixed_of, ends}
use Rattle.opening_cores.proofs.OpeningLemmas.{openings_begin_runs, openings_are_ordinary}
use Rattle.erasure_examples.specs.Example.{steps, first, is_thread, opening, bounds, order, acts, cores, MarksUndone, WritesInside, ARunIsErased}
use Rattle.word_runs.proofs.MoveLemmas.{leads_in, begins_in}
use Rattle.erasure_examples.proofs.PremiseLemmas.{orderly, start, all_execute, names_there, keep_start_words, makes_none, can_begin}

-- ---- what threads keep

-- a thread executes the script
abbrev P : Objects → ScriptState → Type 0
P h l = l.steps ≡ steps

abbrev W : Objects → ℕ → ℕ → ℕ → Type 0
W h r i v = Unit {0}

-- a thread object has a start word, and no object has more than 2^32 words
abbrev O : ℕ → Object → Type 0
O r o = (is_thread o.class ≡ true → 1 < o.words) × (o.words ≤ 2 ^ 32)

keeps : Keeps script_code P W O
keeps = record {
  more = λ h later l more is. is;
  words_more = λ h later r i v o at more is. tt;
  zero_stands = λ h r i. tt;
  silent = λ h l is silent. is;
  reply = λ h later l op reply is wants end more true_reply. is;
  child = λ h l r p is wants. is;
  writes = λ h l r i v is wants. tt;
  makes = λ h l c n r is wants some low. absurd (makes_none l.place c n (ap (λ script. slice_get script l.place) (sym is) ∙ wanted (slice_get l.steps l.place) (New c n) wants));
}
  where
    wanted : (o : Option ScriptStep) (op : Op) → next_at o ≡ Want op → o ≡ Some (Operation op)
    wanted None op is = absurd cc
    wanted (Some Pass) op is = absurd cc
    wanted (Some Call) op is = absurd cc
    wanted (Some Return) op is = absurd cc
    wanted (Some (Operation x)) op is = cc

fitting : KeepsFitting script_code is_thread P W O
fitting = record { keeps = keeps; threads = λ r o is thread. is.0 thread; few = λ r o is. is.1 }

-- ---- the run

begun : IsBegunRun script_code bounds is_thread first cores acts
begun = openings_begin_runs script_code is_thread bounds opening can_begin first cores acts (begins_in script_code bounds (opening_core opening first) order) (leads_in script_code bounds (opening_core opening first) order)

at_start : ordinary script_code is_thread (cores 0) ≡ start
at_start = ap (ordinary script_code is_thread) (begins_in script_code bounds (opening_core opening first) order) ∙ openings_are_ordinary script_code is_thread bounds opening can_begin first

objects_fit : (r : ℕ) (o : Object) → start.objects r ≡ Some o → O r o
objects_fit r o at =
    let x = fixed_of opening bounds.limits is_thread can_begin.place can_begin.ranges can_begin.threads r o at in
    subst (O r) x.is (
      (λ thread. is_inside x.object.words 1 0 ((own_threads opening bounds.limits is_thread can_begin.place can_begin.ranges can_begin.threads r x.object x.found).thread thread)),
      few r (length x.object.words) (ends opening bounds.limits is_thread can_begin.place can_begin.ranges can_begin.threads r x.object x.found).1,
    )
  where
    few : (r n : ℕ) → r + 2 + n ≤ 20 → n ≤ 2 ^ 32
    few r n low = omega (arith, low)

kept_start : IsKeptState P W O start
kept_start = record { objects = objects_fit; words = λ r i. tt; absent = no_words opening first; threads = all_execute }

free : IsFreeRun script_code bounds is_thread first 4 cores acts
free = (cores_keep script_code P W O is_thread fitting bounds first 4 cores acts (scripts_orderly 4 first orderly (omega arith))
    (subst (λ s. IsGrounded script_code s) (sym at_start) (scripts_grounded steps start all_execute names_there))
    (subst (λ s. StartWordsAreKept script_code is_thread s) (sym at_start) (scripts_keep steps is_thread start all_execute keep_start_words))
    begun (subst (λ s. IsKeptState P W O s) (sym at_start) kept_start)).run

-- ---- what is computed

count : length acts ≡ 66
unfolding section_word state_of owner_of priority_of pinned_of depth_of revoke_of with_state with_pinned with_depth with_revoke pack_tag tag_section tag_level pack value_of tag_of pack_header wait_word wait_object wait_state class_word class_state class_thread monitor_word monitor_section monitor_depth monitor_level
count = refl

inner : RevokesAt acts 17 1 2
unfolding section_word state_of owner_of priority_of pinned_of depth_of revoke_of with_state with_pinned with_depth with_revoke pack_tag tag_section tag_level pack value_of tag_of pack_header wait_word wait_object wait_state class_word class_state class_thread monitor_word monitor_section monitor_depth monitor_level
inner = (2, _, inl refl)

inner_undone : MarksUndone acts 21
unfolding section_word state_of owner_of priority_of pinned_of depth_of revoke_of with_state with_pinned with_depth with_revoke pack_tag tag_section tag_level pack value_of tag_of pack_header wait_word wait_object wait_state class_word class_state class_thread monitor_word monitor_section monitor_depth monitor_level
inner_undone = (_, refl)

outermost : RevokesAt acts 32 1 1
unfolding section_word state_of owner_of priority_of pinned_of depth_of revoke_of with_state with_pinned with_depth with_revoke pack_tag tag_section tag_level pack value_of tag_of pack_header wait_word wait_object wait_state class_word class_state class_thread monitor_word monitor_section monitor_depth monitor_level
outermost = (2, _, inl refl)

outermost_undone : MarksUndone acts 35
unfolding section_word state_of owner_of priority_of pinned_of depth_of revoke_of with_state with_pinned with_depth with_revoke pack_tag tag_section tag_level pack value_of tag_of pack_header wait_word wait_object wait_state class_word class_state class_thread monitor_word monitor_section monitor_depth monitor_level
outermost_undone = (_, refl)

written : WritesInside acts 14
unfolding section_word state_of owner_of priority_of pinned_of depth_of revoke_of with_state with_pinned with_depth with_revoke pack_tag tag_section tag_level pack value_of tag_of pack_header wait_word wait_object wait_state class_word class_state class_thread monitor_word monitor_section monitor_depth monitor_level
written = (_, refl)

left_out : is_left_out cores acts 14 ≡ true
unfolding section_word state_of owner_of priority_of pinned_of depth_of revoke_of with_state with_pinned with_depth with_revoke pack_tag tag_section tag_level pack value_of tag_of pack_header wait_word wait_object wait_state class_word class_state class_thread monitor_word monitor_section monitor_depth monitor_level
left_out = refl

lines_are : (cores (length acts)).lines ≡ Empty ∷ []
unfolding section_word state_of owner_of priority_of pinned_of depth_of revoke_of with_state with_pinned with_depth with_revoke pack_tag tag_section tag_level pack value_of tag_of pack_header wait_word wait_object wait_state class_word class_state class_thread monitor_word monitor_section monitor_depth monitor_level
lines_are = refl

erasure : Erasure script_code bounds is_thread cores acts
erasure = runs_are_erased script_code bounds is_thread first 4 cores acts free (omega arith)

some_left : kept_by (is_left_out cores acts) erasure.entries ≢ []
some_left none = no_line (sym lines_are ∙ erasure.lines ∙ ap (λ (x : Core ScriptState). x.lines ++ printed (kept_by (is_left_out cores acts) erasure.entries)) (begins_in script_code bounds (opening_core opening first) order) ∙ ap printed none)
  where
    no_line : Empty ∷ [] ≡ [] → ⊥
    no_line is = cc

pub a_run_is_erased : ARunIsErased
a_run_is_erased = record {
  free = free;
  count = count;
  inner = inner;
  inner_undone = inner_undone;
  outermost = outermost;
  outermost_undone = outermost_undone;
  written = written;
  left_out = left_out;
  lines = lines_are;
  erasure = erasure;
  some = some_left;
}
