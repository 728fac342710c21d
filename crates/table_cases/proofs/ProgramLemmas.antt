-- Threads of the program can go on after each run.
use Rattle.std.proofs.Common.{◌≡◌, ℕ, ◌+◌, ◌<◌, ◌≤◌, ◌^◌, true, true≢false, Option, None, Some, List, length, sym, ◌∙◌, ap, subst, arith}
use Rattle.std.specs.Prelude.{slice_get}
use Rattle.op_core.specs.declared.Limits.{Limits}
use Rattle.op_core.specs.declared.Op.{Op}
use Rattle.op_core.specs.declared.Op.TheVariants.{New}
use Rattle.op_core.specs.declared.Next.TheVariants.{Want}
use Rattle.op_core.specs.declared.script.Script.{Script}
use Rattle.op_core.specs.declared.script.ScriptPlace.{ScriptPlace}
use Rattle.op_core.specs.declared.script.ScriptStep.{ScriptStep}
use Rattle.op_core.specs.declared.script.ScriptStep.TheVariants.{Pass, Call, Return, Operation}
use Rattle.op_core.specs.InPlaceList.{IsGrounded}
use Rattle.op_core.specs.Orderly.{IsOrderly, StartWordsAreKept}
use Rattle.op_core.specs.OrdinaryState.{Object}
use Rattle.op_core.specs.Script.{ScriptState, next_at, script_code}
use Rattle.op_core.specs.ScriptLaws.{script_at}
use Rattle.op_core.proofs.ScriptLawLemmas.{scripts_grounded}
use Rattle.op_core.proofs.PremiseLemmas.{scripts_orderly, scripts_keep}
use Rattle.fixed_objects.specs.declared.Opening.{Opening}
use Rattle.fixed_objects.specs.Opening.{opening_state}
use Rattle.fixed_objects.proofs.OpeningLemmas.{no_words}
use Rattle.kept_states.specs.Kept.{Objects, Keeps, IsKeptState}
use Rattle.opening_cores.specs.KeptCores.{KeepsFitting}
use Rattle.opening_cores.proofs.opening_law.OpeningLemmas.{own_threads, is_inside}
use Rattle.opening_cores.specs.Openings.{CanBegin}
use Rattle.opening_cores.proofs.PlaceLemmas.{fixed_of, ends}
use Rattle.table_words.specs.declared.setup.Setup.{Setup}
use Rattle.table_hosts.specs.Standing.{ThreadsCanGoOn}
use Rattle.table_runs.specs.Programs.{CanRun}
use Rattle.table_runs.proofs.GoingLemmas.{threads_can_go_on}
use Rattle.table_cases.specs.Program.{program_steps, kind_steps, is_thread, program_opening as opening, limits_with, script_state, IsProgramWith, IsProgram}
use Rattle.table_cases.proofs.PremiseLemmas.{IsFitScript, start_at, orderly, all_execute, names_there, keep_start_words, makes_no_thread, program_fits, kinds_fit, can_begin}

module _ (steps : List ScriptStep) (fit : IsFitScript steps) where
  -- ---- what threads keep

  -- a thread executes the script
  abbrev P : Objects → ScriptState → Type 0
  P h l = l.steps ≡ steps

  abbrev W : Objects → ℕ → ℕ → ℕ → Type 0
  W h r i v = Unit {0}

  -- a thread object has a start word, and no object has more than 2^32 words
  abbrev O : ℕ → Object → Type 0
  O r o = (is_thread o.class ≡ true → 1 < o.words) × (o.words ≤ 2 ^ 32)

  abbrev first : ScriptState
  first = script_at steps 0

  keeps : Keeps script_code P W O
  keeps = record {
    more = λ h later l more is. is;
    words_more = λ h later r i v o at more is. tt;
    zero_stands = λ h r i. tt;
    silent = λ h l is silent. is;
    reply = λ h later l op reply is wants end more true_reply. is;
    child = λ h l r p is wants. is;
    writes = λ h l r i v is wants. tt;
    makes = λ h l c n r is wants some low. made c n l.place (ap (λ script. slice_get script l.place) (sym is) ∙ wanted (slice_get l.steps l.place) (New c n) wants);
  }
    where
      wanted : (o : Option ScriptStep) (op : Op) → next_at o ≡ Want op → o ≡ Some (Operation op)
      wanted None op is = absurd cc
      wanted (Some Pass) op is = absurd cc
      wanted (Some Call) op is = absurd cc
      wanted (Some Return) op is = absurd cc
      wanted (Some (Operation x)) op is = cc

      made : (c n i : ℕ) → slice_get steps i ≡ Some (Operation (New c n)) → (is_thread c ≡ true → 1 < n) × (n ≤ 2 ^ 32)
      made c n i at = (
        (λ thread. absurd (true≢false (sym thread ∙ makes_no_thread steps fit i c n at))),
        let range = (names_there steps fit i (New c n) at).1.1 in omega (arith, range),
      )

  fitting : KeepsFitting script_code is_thread P W O
  fitting = record { keeps = keeps; threads = λ r o is thread. is.0 thread; few = λ r o is. is.1 }

  objects_fit : (turns r : ℕ) (o : Object) → (start_at steps).objects r ≡ Some o → O r o
  objects_fit turns r o at =
      let can = can_begin turns in
      let x = fixed_of opening (limits_with turns) is_thread can.place can.ranges can.threads r o at in
      subst (O r) x.is (
        (λ thread. is_inside x.object.words 1 0 ((own_threads opening (limits_with turns) is_thread can.place can.ranges can.threads r x.object x.found).thread thread)),
        few r (length x.object.words) (ends opening (limits_with turns) is_thread can.place can.ranges can.threads r x.object x.found).1,
      )
    where
      few : (r n : ℕ) → r + 2 + n ≤ 20 → n ≤ 2 ^ 32
      few r n low = omega (arith, low)

  kept_start : IsKeptState P W O (start_at steps)
  kept_start = record { objects = objects_fit 1000; words = λ r i. tt; absent = no_words opening first; threads = all_execute steps fit }

  module _ (turns : ℕ) (small : turns < 2 ^ 56) (k : Setup Script) (is : IsProgramWith steps turns k) where
    same_start : opening_state opening first ≡ opening_state k.opening (script_state k.code)
    same_start = ap (λ (o : Opening). opening_state o first) (sym is.opening) ∙ ap (λ (l : ScriptState). opening_state k.opening l) (sym is.code)

    can_run : CanRun script_state script_code k is_thread 4 P W O
    can_run = record {
      begins = subst (λ (o : Opening). CanBegin is_thread (record { limits = k.limits; first = o.first }) o) (sym is.opening)
          (subst (λ (l : Limits). CanBegin is_thread (record { limits = l; first = 20 }) opening) (sym is.limits) (can_begin turns));
      orderly = subst (λ (l : ScriptState). IsOrderly script_code l 4) (sym is.code) (scripts_orderly 4 first (orderly steps fit) fit.some);
      grounded = subst (λ s. IsGrounded script_code s) same_start (scripts_grounded steps (start_at steps) (all_execute steps fit) (names_there steps fit));
      starts = subst (λ s. StartWordsAreKept script_code is_thread s) same_start (scripts_keep steps is_thread (start_at steps) (all_execute steps fit) (keep_start_words steps fit));
      fitting = fitting;
      kept = subst (λ s. IsKeptState P W O s) same_start kept_start;
      inits = subst (λ (o : Opening). 4 ≤ o.classes + 1) (sym is.opening) (omega arith);
      turns = subst (λ (l : Limits). l.turns < 2 ^ 56) (sym is.limits) small;
      sections = subst (λ (l : Limits). l.sections < 2 ^ 24) (sym is.limits) (omega arith);
    }

    pub scripts_go_on : ThreadsCanGoOn script_state script_code k
    scripts_go_on = threads_can_go_on script_state script_code k is_thread 4 P W O can_run

-- of the program of the tests
pub programs_go_on : (k : Setup Script) → IsProgram k → ThreadsCanGoOn script_state script_code k
programs_go_on k is = scripts_go_on program_steps program_fits 1000 (omega arith) k (record { opening = is.opening; limits = is.limits; code = is.code })

-- and of the one whose threads make steps of each kind
pub kinds_go_on : (k : Setup Script) → IsProgramWith kind_steps 1000 k → ThreadsCanGoOn script_state script_code k
kinds_go_on k is = scripts_go_on kind_steps kinds_fit 1000 (omega arith) k is

-- a thread of a script that hasn't begun is at its first place
pub script_begins_at : (steps : List ScriptStep) (s : Script) → s.steps.now ≡ steps → s.place ≡ record { step = 0; frames = 1 } → script_state s ≡ script_at steps 0
script_begins_at steps s same at = ap (λ (xs : List ScriptStep). record { steps = xs; place = s.place.step; frames = s.place.frames }) same
    ∙ ap (λ (p : ScriptPlace). record { steps = steps; place = p.step; frames = p.frames }) at
