-- What is known in executions is kept by each step.
use Rattle.std.proofs.Common.{◌≡◌, inl, ℕ, zero, suc, List, Option, None, Some, true, false, refl, sym, ap, subst, ◌∙◌}
use Rattle.std.specs.Prelude.{IsNone, is_some}
use Rattle.std.specs.Option.{option_and_then}
use Rattle.std.proofs.lemmas.Option.{same_Some}
use Rattle.builtin_world.specs.declared.word.TheConstants.{THREAD_PRIORITY}
use Rattle.code_decode.specs.declared.code.ClassUnit.{ClassUnit}
use Rattle.op_core.specs.declared.Op.{Op}
use Rattle.op_core.specs.declared.Op.TheVariants.{Read, Write, New, Start, End}
use Rattle.op_core.specs.declared.Reply.{Reply}
use Rattle.op_core.specs.declared.Reply.TheVariants.{Value, Made, Done, Number}
use Rattle.op_core.specs.declared.Next.TheVariants.{Silent, Want}
use Rattle.op_core.specs.Orderly.{IsEnd}
use Rattle.op_core.specs.OrdinaryState.{Object, OrdinaryState, Thread, live, ended, set_at}
use Rattle.op_core.specs.OrdinaryStep.{IsStep, MayAnswer, after, objects_after, words_after, threads_after}
use Rattle.op_core.specs.ThreadCode.{quiet_step, quiet_steps}
use Rattle.op_core.proofs.PointwiseLemmas.{set_at-at, set_at-hit}
use Rattle.op_core.proofs.QuietLemmas.{quiet_step-silent}
use Rattle.java_rows.specs.Thread.{Local, java_code, next_of, silent_of, reply_of, child_of}
use Rattle.kept_states.specs.Kept.{Extends, IsTrueReply}
use Rattle.row_soundness.specs.Fits.{anything, after_reply}
use Rattle.row_soundness.specs.Knowledge.{Knows}
use Rattle.row_soundness.specs.Accepted.{Accepted}
use Rattle.row_soundness.specs.Rows.{RowsFit}
use Rattle.row_soundness.specs.Runs.{IsThread, MayStand, ObjectFits, RunsWant, fixed_of}
use Rattle.row_soundness.proofs.More.{local_more}
use Rattle.row_soundness.proofs.Settled.{goes_on_after, silent_fits, reply_fits, wants_fit, child_fits}
use Rattle.program_soundness.specs.Soundness.{StateFits}
use Rattle.program_soundness.specs.Seen.{GoesOn, HoldsSet, IsPriority, IsSeen, KeepsPriorities, Seen, SeenLocal, TellsPriorities, executions, seen_in}
use Rattle.program_soundness.proofs.SeenKnow.{holds_more}
use Rattle.program_soundness.proofs.StepFacts.{objects_stay, quiet_next, reply_is_true}

module _ (us : List ClassUnit) (knows : Knows (executions us) us) (accepted : Accepted us) (rows : RowsFit (executions us) us) where
  -- ---- local states

  pub wanted : (h : Seen us) (l : Local) (op : Op) → SeenLocal us h l → next_of l.plan ≡ Want op → RunsWant us h.known.objects op × KeepsPriorities us h op
  wanted h l op is e = (wants_fit (executions us) us knows accepted rows l.thread (λ m h op next steps. steps) is.preceding h is.fits.res l.plan op e is.fits.plan).1

  local_later : (h h' : Seen us) (l : Local) → GoesOn us h h' → SeenLocal us h l → SeenLocal us h' l
  local_later h h' l more is = record { preceding = is.preceding; fits = local_more (executions us) us knows accepted h h' more is.preceding l is.fits; goes = is.goes }

  silent_local : (h : Seen us) (l : Local) → SeenLocal us h l → next_of l.plan ≡ Silent → SeenLocal us h (silent_of l.program l.thread l.plan l.below)
  silent_local h l is e =
      subst (λ p. SeenLocal us h (silent_of p l.thread l.plan l.below)) (sym is.fits.program)
      (record { preceding = anything; fits = silent_fits (executions us) us knows accepted rows l.thread is.preceding h is.fits.res l.below l.plan is.fits.thread e is.fits.plan is.fits.below; goes = λ x. x })

  reply_local : (h h' : Seen us) (l : Local) (op : Op) (reply : Reply) → SeenLocal us h l → next_of l.plan ≡ Want op → (IsEnd op → ⊥) → GoesOn us h h' → (executions us).may_come h' op reply → SeenLocal us h' (reply_of l.program l.thread l.plan reply l.below)
  reply_local h h' l op reply is e no_end more come =
      subst (λ p. SeenLocal us h' (reply_of p l.thread l.plan reply l.below)) (sym is.fits.program)
      (record {
        preceding = after_reply op reply;
        fits = reply_fits (executions us) us knows accepted rows l.thread (λ m h op next steps. steps) is.preceding h h' is.fits.res l.below l.plan op reply is.fits.thread e more come is.fits.plan is.fits.below;
        goes = goes_on_after op reply no_end;
      })

  child_local : (h : Seen us) (l : Local) (r p : ℕ) → SeenLocal us h l → next_of l.plan ≡ Want (Start r p) → SeenLocal us h (child_of l.program r)
  child_local h l r p is e =
      let want = wanted h l (Start r p) is e in
      subst (λ x. SeenLocal us h (child_of x r)) (sym is.fits.program)
      (record { preceding = anything; fits = child_fits (executions us) us knows accepted rows r h (want.0.0, want.1.1); goes = λ x. x })

  pub quiet_local : (h : Seen us) (n : ℕ) (l m : Local) → SeenLocal us h l → quiet_steps java_code n l ≡ Some m → SeenLocal us h m
  quiet_local h zero l m own e = subst (SeenLocal us h) (same_Some l m e) own
  quiet_local h (suc n) l m own e = by_last (λ k same. quiet_local h n l k own same) (quiet_steps java_code n l) refl e
    where
      by_last : ((k : Local) → quiet_steps java_code n l ≡ Some k → SeenLocal us h k) → (o : Option Local) → quiet_steps java_code n l ≡ o → option_and_then (quiet_step java_code) o ≡ Some m → SeenLocal us h m
      by_last before (Some k) same e = subst (SeenLocal us h) (quiet_step-silent java_code k m e) (silent_local h k (before k same) (quiet_next k m e))
      by_last before None same e = cc

  -- ---- one step

  module _ (s : OrdinaryState Local) (kept : StateFits us s) (seen : IsSeen us s) (t : ℕ) (l : Local) (op : Op) (reply : Reply) where
    abbrev now : Seen us
    now = seen_in us s seen.fixed seen.begun

    module _ (own : SeenLocal us now l) (step : IsStep java_code s t l op reply) (kept_after : StateFits us (after java_code s t l op reply)) where
      abbrev wants : RunsWant us s.objects op × KeepsPriorities us now op
      wants = wanted now l op own step.wanted

      grow : (r : ℕ) (o : Object) → s.objects r ≡ Some o → objects_after java_code l op reply s r ≡ Some o
      grow = objects_stay us s t l op reply step

      -- a priority that a Thread has stays one
      stays : (r : ℕ) (o : Object) → s.objects r ≡ Some o → IsThread us o.class ≡ true → IsPriority (s.words r THREAD_PRIORITY) → IsPriority (words_after op reply s r THREAD_PRIORITY)
      stays r o there thread is = by_op op reply step.answered wants.1
        where
          by_op : (op : Op) (reply : Reply) → MayAnswer s t op reply → KeepsPriorities us now op → IsPriority (words_after op reply s r THREAD_PRIORITY)
          by_op (New c n) (Made q) answered keeps =
              set_at-at (λ (g : ℕ → ℕ). IsPriority (g THREAD_PRIORITY)) s.words q (λ _. 0) r
              (λ e. let gone : is_some (s.objects r) ≡ false = subst (λ x. IsNone (s.objects x)) (sym e) answered.2 in
              let some : is_some (s.objects r) ≡ true = ap is_some there in cc)
              (λ _. is)
          by_op (Write q i v) Done answered keeps =
              set_at-at (λ (g : ℕ → ℕ). IsPriority (g THREAD_PRIORITY)) s.words q (set_at (s.words q) i v) r
              (λ e. set_at-at IsPriority (s.words q) i v THREAD_PRIORITY
              (λ d. keeps.0 o (subst (λ x. s.objects x ≡ Some o) e there) thread (sym d))
              (λ _. subst (λ x. IsPriority (s.words x THREAD_PRIORITY)) e is))
              (λ _. is)
          by_op _ _ answered keeps = is

      fixed_after : Extends (fixed_of us) (objects_after java_code l op reply s)
      fixed_after r o e = grow r o (seen.fixed r o e)

      begun_after : (r : ℕ) (o : Object) → fixed_of us r ≡ Some o → IsThread us o.class ≡ true → IsPriority (words_after op reply s r THREAD_PRIORITY)
      begun_after r o e thread = stays r o (seen.fixed r o e) thread (seen.begun r o e thread)

      abbrev next : Seen us
      next = seen_in us (after java_code s t l op reply) fixed_after begun_after

      goes_on : GoesOn us now next
      goes_on = record { objects = grow; priorities = stays }

      -- what was there still holds references that are set
      still : (r i : ℕ) → HoldsSet us next r i (s.words r i)
      still r i = by_object (s.objects r) refl
        where
          by_object : (o : Option Object) → s.objects r ≡ o → HoldsSet us next r i (s.words r i)
          by_object (Some o) e = holds_more us now next r i (s.words r i) o e goes_on (seen.words r i)
          by_object None e = λ o x at holds. inl (kept.absent r i (ap is_some e))

      words_after_set : (r i : ℕ) → HoldsSet us next r i (words_after op reply s r i)
      words_after_set r i = by_op op reply step.answered wants.0 wants.1
        where
          by_op : (op : Op) (reply : Reply) → MayAnswer s t op reply → RunsWant us s.objects op → KeepsPriorities us now op → HoldsSet us next r i (words_after op reply s r i)
          by_op (New c n) (Made q) answered want keeps = set_at-at (λ (g : ℕ → ℕ). HoldsSet us next r i (g i)) s.words q (λ _. 0) r (λ _ o x at holds. inl refl) (λ _. still r i)
          by_op (Write q j v) Done answered (k, has, may) keeps =
              set_at-at (λ (g : ℕ → ℕ). HoldsSet us next r i (g i)) s.words q (set_at (s.words q) j v) r
              (λ e. set_at-at (λ w. HoldsSet us next r i w) (s.words q) j v i
              (λ d. subst (λ x. HoldsSet us next x i v) (sym e) (subst (λ x. HoldsSet us next q x v) (sym d) (holds_more us now next q j v has.object has.there goes_on keeps.1)))
              (λ _. subst (λ x. HoldsSet us next r i (s.words x i)) e (still r i)))
              (λ _. still r i)
          by_op _ _ answered want keeps = still r i

      true_reply : IsTrueReply (ObjectFits us) (MayStand us) (objects_after java_code l op reply s) op reply
      true_reply = reply_is_true us s t l op reply step kept kept_after

      tells : TellsPriorities us next op reply
      tells = by_op op reply step.answered refl refl
        where
          by_op : (o : Op) (a : Reply) → MayAnswer s t o a → o ≡ op → a ≡ reply → TellsPriorities us next o a
          by_op (Read r i) (Value v) answered same answer = (
            λ e. answered ∙ (ap (s.words r) e ∙ ap (λ (w : ℕ → ℕ → ℕ). w r THREAD_PRIORITY) (unchanged (Read r i) (Value v) refl same answer)),
            subst (λ x. HoldsSet us next r i x) (sym answered) (still r i),
          )
            where
              unchanged : (o : Op) (a : Reply) → s.words ≡ words_after o a s → o ≡ op → a ≡ reply → s.words ≡ words_after op reply s
              unchanged o a is same answer = subst (λ x. s.words ≡ words_after op x s) answer (subst (λ x. s.words ≡ words_after x a s) same is)
          by_op (Write r i v) Done answered same answer = λ e. sym (written e)
            where
              set_there : i ≡ THREAD_PRIORITY → words_after (Write r i v) Done s r THREAD_PRIORITY ≡ v
              set_there e = subst (λ x. words_after (Write r x v) Done s r THREAD_PRIORITY ≡ v) (sym e)
                  (ap (λ (g : ℕ → ℕ). g THREAD_PRIORITY) (set_at-hit s.words r (set_at (s.words r) THREAD_PRIORITY v)) ∙ set_at-hit (s.words r) THREAD_PRIORITY v)

              written : i ≡ THREAD_PRIORITY → words_after op reply s r THREAD_PRIORITY ≡ v
              written e = subst (λ x. words_after op x s r THREAD_PRIORITY ≡ v) answer (subst (λ x. words_after x Done s r THREAD_PRIORITY ≡ v) same (set_there e))
          by_op _ _ answered same answer = tt

      -- ---- threads

      abbrev AllFit : (ℕ → Thread Local) → Type 0
      AllFit threads = (u : ℕ) (m : Local) → threads u ≡ live m → SeenLocal us next m

      set_fits : (f : ℕ → Thread Local) (u : ℕ) (m : Local) → AllFit f → SeenLocal us next m → AllFit (set_at f u (live m))
      set_fits f u m all is w k = set_at-at (λ x. x ≡ live k → SeenLocal us next k) f u (live m) w (λ _ e. let same : m ≡ k = cc in subst (SeenLocal us next) same is) (λ _ e. all w k e)

      still_fit : AllFit s.threads
      still_fit u m e = local_later now next m goes_on (seen.threads u m e)

      threads_fit : AllFit (threads_after java_code t l op reply s)
      threads_fit = by_op op reply step.answered refl refl
        where
          answered_local : (o : Op) → o ≡ op → (IsEnd o → ⊥) → SeenLocal us next (java_code.reply l reply)
          answered_local o same no_end = reply_local now next l op reply own step.wanted (λ x. no_end (subst IsEnd (sym same) x)) goes_on (true_reply, tells)

          by_op : (o : Op) (a : Reply) → MayAnswer s t o a → o ≡ op → a ≡ reply → AllFit (threads_after java_code t l o a s)
          by_op (End x) Done answered same answer u m = set_at-at (λ y. y ≡ live m → SeenLocal us next m) s.threads t (ended x) u (λ _ e. cc) (λ _ e. still_fit u m e)
          by_op (End x) a answered same answer u m = absurd answered
          by_op (Start r p) (Number n) answered same answer u m =
              set_fits (set_at s.threads n (live (java_code.child l r))) t (java_code.reply l (Number n))
              (set_fits s.threads n (java_code.child l r) still_fit (local_later now next (java_code.child l r) goes_on (child_local now l r p own (step.wanted ∙ ap (λ x. Want x) (sym same)))))
              (subst (λ x. SeenLocal us next (java_code.reply l x)) (sym answer) (answered_local (Start r p) same (λ x. x))) u m
          by_op o a answered same answer u m =
              set_fits s.threads t (java_code.reply l a) still_fit (subst (λ x. SeenLocal us next (java_code.reply l x)) (sym answer) (answered_local o same (λ x. x))) u m

      pub step_seen : IsSeen us (after java_code s t l op reply)
      step_seen = record { fixed = fixed_after; begun = begun_after; words = words_after_set; threads = threads_fit }
