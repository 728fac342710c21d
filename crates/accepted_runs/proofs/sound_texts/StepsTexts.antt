-- What is known of texts is kept by each step.
use Rattle.std.proofs.Common.{◌≡◌, ◌≢◌, inl, inr, ℕ, zero, suc, List, Option, None, Some, refl, sym, subst, ◌∙◌}
use Rattle.std.specs.Option.{option_and_then}
use Rattle.std.proofs.lemmas.Option.{same_Some}
use Rattle.builtin_world.specs.declared.number.TheConstants.{THREAD}
use Rattle.code_decode.specs.declared.code.ClassUnit.{ClassUnit}
use Rattle.link_types.specs.declared.types.ObjectType.TheVariants.{Class}
use Rattle.op_core.specs.declared.Op.{Op}
use Rattle.op_core.specs.declared.Op.TheVariants.{Start, End}
use Rattle.op_core.specs.declared.Reply.{Reply}
use Rattle.op_core.specs.declared.Reply.TheVariants.{Done, Number}
use Rattle.op_core.specs.declared.Next.{Next}
use Rattle.op_core.specs.declared.Next.TheVariants.{Silent, Want, Ended}
use Rattle.op_core.specs.Orderly.{IsEnd}
use Rattle.op_core.specs.OrdinaryState.{OrdinaryState, Thread, live, ended, unused, set_at}
use Rattle.op_core.specs.OrdinaryStep.{IsStep, MayAnswer, after, threads_after}
use Rattle.op_core.specs.ThreadCode.{quiet_step, quiet_steps}
use Rattle.op_core.proofs.PointwiseLemmas.{set_at-at}
use Rattle.op_core.proofs.QuietLemmas.{quiet_step-silent}
use Rattle.java_rows.specs.Plan.{Plan, want, silently, calls, ready, over, stuck}
use Rattle.java_rows.specs.Thread.{Local, java_code, next_of, silent_of, reply_of, child_of}
use Rattle.row_soundness.specs.Senses.{Making, filling, naming}
use Rattle.row_soundness.specs.Fits.{Returns, Preceding, IsAnywhere, LocalFits, PlanFits, anything, following, making_of}
use Rattle.row_soundness.specs.Knowledge.{Knows}
use Rattle.row_soundness.specs.Accepted.{Accepted}
use Rattle.row_soundness.specs.Rows.{RowsFit}
use Rattle.row_soundness.proofs.More.{local_more}
use Rattle.row_soundness.proofs.Settled.{child_fits, replied, silent_fits}
use Rattle.row_soundness.specs.ClassesFollow.{ClassesFollow}
use Rattle.program_soundness.specs.SoundPrograms.{IsSound}
use Rattle.program_soundness.specs.Soundness.{StateFits}
use Rattle.program_soundness.proofs.StepFacts.{quiet_next}
use Rattle.accepted_runs.specs.KnownTexts.{GoesOn, Seen, TextSteps, text_sense}
use Rattle.accepted_runs.specs.KeptTexts.{AreApart, IsSeen, MakingFits, SeenLocal, seen_in}
use Rattle.accepted_runs.proofs.sound_texts.Changes.{begun_after, fixed_after, goes_on, literals_after, making_after, next, strings_after}
use Rattle.accepted_runs.proofs.sound_texts.Outcomes.{Outcome, outcome}

silent_no : (op : Op) → ◌≡◌ {A = Next} Silent (Want op) → ⊥
silent_no op e = cc

ended_no : (op : Op) → ◌≡◌ {A = Next} Ended (Want op) → ⊥
ended_no op e = cc

same_want : (q op : Op) → ◌≡◌ {A = Next} (Want q) (Want op) → q ≡ op
same_want q op e = cc

-- the plan of a thread that wants an operation
pub plan_wants : (plan : Plan) (op : Op) → next_of plan ≡ Want op → (k : Reply → Plan) × (plan ≡ want op k)
plan_wants (want q k) op e = (k, subst (λ x. want q k ≡ want x k) (same_want q op e) refl)
plan_wants (silently plan) op e = absurd (silent_no op e)
plan_wants (calls id args monitor k) op e = absurd (silent_no op e)
plan_wants (ready ending) op e = absurd (ended_no op e)
plan_wants over op e = absurd (ended_no op e)
plan_wants stuck op e = absurd (ended_no op e)

apart_back : (b c : Preceding) → AreApart b c → AreApart c b
apart_back b c is = record { arrays = λ r e f. is.arrays r f e; strings = λ q e f. is.strings q f e }

anywhere_is : (b : Preceding) → IsAnywhere b → anything ≡ b
anywhere_is anything is = refl
anywhere_is b is = absurd is

module _ (us : List ClassUnit) (order : List ℕ) (sound : IsSound us order) (follow : ClassesFollow us) (knows : Knows (text_sense us) us) (accepted : Accepted us) (rows : RowsFit (text_sense us) us) where
  -- ---- local states

  local_later : (h h' : Seen us) (b : Preceding) (l : Local) → GoesOn us h h' → SeenLocal us h b l → SeenLocal us h' b l
  local_later h h' b l more is = record { fits = local_more (text_sense us) us knows accepted h h' more b l is.fits; goes = is.goes }

  silent_anywhere : (h : Seen us) (b : Preceding) (res : Option Returns) (plan : Plan) → next_of plan ≡ Silent → PlanFits (text_sense us) us res b plan h → IsAnywhere b
  silent_anywhere h b res (silently plan) e fits = fits.0
  silent_anywhere h b res (calls id args monitor k) e fits = fits.0
  silent_anywhere h b res (want op k) e fits = cc
  silent_anywhere h b res (ready ending) e fits = cc
  silent_anywhere h b res over e fits = cc
  silent_anywhere h b res stuck e fits = cc

  silent_local : (h : Seen us) (b : Preceding) (l : Local) → SeenLocal us h b l → next_of l.plan ≡ Silent → SeenLocal us h b (silent_of l.program l.thread l.plan l.below)
  silent_local h b l is e =
      subst (λ p. SeenLocal us h b (silent_of p l.thread l.plan l.below)) (sym is.fits.program)
      (subst (λ x. SeenLocal us h x (silent_of us l.thread l.plan l.below)) (anywhere_is b (silent_anywhere h b is.fits.res l.plan e is.fits.plan))
      (record { fits = silent_fits (text_sense us) us knows accepted rows l.thread b h is.fits.res l.below l.plan is.fits.thread e is.fits.plan is.fits.below; goes = λ x. x }))

  pub quiet_local : (h : Seen us) (b : Preceding) (n : ℕ) (l m : Local) → SeenLocal us h b l → quiet_steps java_code n l ≡ Some m → SeenLocal us h b m
  quiet_local h b zero l m own e = subst (SeenLocal us h b) (same_Some l m e) own
  quiet_local h b (suc n) l m own e = by_last (λ k same. quiet_local h b n l k own same) (quiet_steps java_code n l) refl e
    where
      by_last : ((k : Local) → quiet_steps java_code n l ≡ Some k → SeenLocal us h b k) → (o : Option Local) → quiet_steps java_code n l ≡ o → option_and_then (quiet_step java_code) o ≡ Some m → SeenLocal us h b m
      by_last before (Some k) same e = subst (SeenLocal us h b) (quiet_step-silent java_code k m e) (silent_local h b k (before k same) (quiet_next k m e))
      by_last before None same e = cc

  child_local : (h : Seen us) (l : Local) (r : ℕ) → l.program ≡ us → (text_sense us).is_of h r (Class THREAD) → SeenLocal us h anything (child_of l.program r)
  child_local h l r program is = subst (λ x. SeenLocal us h anything (child_of x r)) (sym program) (record { fits = child_fits (text_sense us) us knows accepted rows r h is; goes = λ x. x })

  -- what a thread wants that starts another one
  started : (h : Seen us) (b : Preceding) (res : Option Returns) (r p : ℕ) (k : Reply → Plan) → PlanFits (text_sense us) us res b (want (Start r p) k) h → (text_sense us).is_of h r (Class THREAD)
  started h b res r p k fits = by_making (making_of b) fits.1
    where
      by_making : (m : Option Making) → TextSteps us m h (Start r p) (λ m h' reply. PlanFits (text_sense us) us res (following (Start r p) reply m) (k reply) h') → (text_sense us).is_of h r (Class THREAD)
      by_making None (inl (wants, on)) = (wants.0.0, wants.1)
      by_making None (inr begins) = absurd begins
      by_making (Some (filling x)) fills = absurd fills
      by_making (Some (naming x q)) names = absurd names

  -- ---- one step

  module _ (s : OrdinaryState Local) (kept : StateFits us s) (seen : IsSeen us s) (t : ℕ) (l : Local) (op : Op) (reply : Reply) where
    abbrev now : Seen us
    now = seen_in us s seen.texts seen.fixed seen.begun

    module _ (own : SeenLocal us now (seen.preceding t) l) (step : IsStep java_code s t l op reply) (kept_after : StateFits us (after java_code s t l op reply)) where
      -- what follows in the plan
      abbrev pub follows : Reply → Plan
      follows = (plan_wants l.plan op step.wanted).0

      plan_is : l.plan ≡ want op follows
      plan_is = (plan_wants l.plan op step.wanted).1

      plan_fits : PlanFits (text_sense us) us own.fits.res (seen.preceding t) (want op follows) now
      plan_fits = subst (λ x. PlanFits (text_sense us) us own.fits.res (seen.preceding t) x now) plan_is own.fits.plan

      pub come : Outcome us s kept seen t l own.fits.res follows op reply
      come = outcome us s kept seen t l own.fits.res follows order sound follow op reply step kept_after plan_fits.1

      abbrev last : OrdinaryState Local
      last = after java_code s t l op reply

      abbrev later : Seen us
      later = next us s last kept seen t come.texts come.changes

      on : GoesOn us now later
      on = goes_on us s last kept seen t come.texts come.changes

      -- ---- threads

      abbrev before : ℕ → Preceding
      before = set_at seen.preceding t come.preceding

      abbrev AllFit : (ℕ → Thread Local) → Type 0
      AllFit threads = (u : ℕ) (m : Local) → u ≢ t → threads u ≡ live m → SeenLocal us later (seen.preceding u) m

      set_fits : (f : ℕ → Thread Local) (own : Local) → AllFit f → SeenLocal us later come.preceding own → (u : ℕ) (m : Local) → set_at f t (live own) u ≡ live m → SeenLocal us later (before u) m
      set_fits f own all is u m =
          set_at-at (λ x. x ≡ live m → SeenLocal us later (before u) m) f t (live own) u
          (λ e is_live. let same : own ≡ m = cc in set_at-at (λ x. SeenLocal us later x m) seen.preceding t come.preceding u (λ _. subst (SeenLocal us later come.preceding) same is) (λ ne. absurd (ne e)))
          (λ ne is_live. set_at-at (λ x. SeenLocal us later x m) seen.preceding t come.preceding u (λ e. absurd (ne e)) (λ _. all u m ne is_live))

      still_fit : AllFit s.threads
      still_fit u m ne e = local_later now later (seen.preceding u) m on (seen.threads u m e)

      answered_local : (IsEnd op → ⊥) → SeenLocal us later come.preceding (java_code.reply l reply)
      answered_local no_end = record {
        fits =
            subst (λ p. LocalFits (text_sense us) us come.preceding later (reply_of p l.thread l.plan reply l.below)) (sym own.fits.program)
            (subst (λ x. LocalFits (text_sense us) us come.preceding later (reply_of us l.thread x reply l.below)) (sym plan_is)
            (replied (text_sense us) us knows accepted rows l.thread come.preceding now later own.fits.res l.below (follows reply) own.fits.thread on come.plan own.fits.below));
        goes = come.goes no_end;
      }

      threads_fit : (u : ℕ) (m : Local) → threads_after java_code t l op reply s u ≡ live m → SeenLocal us later (before u) m
      threads_fit = by_op op reply step.answered refl refl
        where
          answered_at : (o : Op) → o ≡ op → (IsEnd o → ⊥) → SeenLocal us later come.preceding (java_code.reply l reply)
          answered_at o same no_end = answered_local (λ x. no_end (subst IsEnd (sym same) x))

          child : (r p : ℕ) → Start r p ≡ op → SeenLocal us later anything (java_code.child l r)
          child r p same =
              local_later now later anything (java_code.child l r) on
              (child_local now l r own.fits.program (started now (seen.preceding t) own.fits.res r p follows (subst (λ x. PlanFits (text_sense us) us own.fits.res (seen.preceding t) (want x follows) now) (sym same) plan_fits)))

          by_op : (o : Op) (a : Reply) → MayAnswer s t o a → o ≡ op → a ≡ reply → (u : ℕ) (m : Local) → threads_after java_code t l o a s u ≡ live m → SeenLocal us later (before u) m
          by_op (End x) Done answered same answer u m =
              set_at-at (λ y. y ≡ live m → SeenLocal us later (before u) m) s.threads t (ended x) u
              (λ _ e. cc)
              (λ ne e. set_at-at (λ y. SeenLocal us later y m) seen.preceding t come.preceding u (λ at. absurd (ne at)) (λ _. still_fit u m ne e))
          by_op (End x) a answered same answer u m = absurd answered
          by_op (Start r p) (Number n) answered same answer u m =
              set_fits (set_at s.threads n (live (java_code.child l r))) (java_code.reply l (Number n))
              (λ w i ne. set_at-at (λ y. y ≡ live i → SeenLocal us later (seen.preceding w) i) s.threads n (live (java_code.child l r)) w
              (λ at e. let is : java_code.child l r ≡ i = cc in
              subst (λ b. SeenLocal us later b i) (sym (seen.idle w (subst (λ x. s.threads x ≡ unused) (sym at) answered.1.2))) (subst (SeenLocal us later anything) is (child r p same)))
              (λ _ e. still_fit w i ne e))
              (subst (λ a. SeenLocal us later come.preceding (java_code.reply l a)) (sym answer) (answered_at (Start r p) same (λ x. x))) u m
          by_op o a answered same answer u m = set_fits s.threads (java_code.reply l a) still_fit (subst (λ x. SeenLocal us later come.preceding (java_code.reply l x)) (sym answer) (answered_at o same (λ x. x))) u m

      -- a thread that isn't used yet makes no text
      set_idle : (f : ℕ → Thread Local) (x : Thread Local) → (x ≡ unused → ⊥) → ((u : ℕ) → f u ≡ unused → seen.preceding u ≡ anything) → (u : ℕ) → set_at f t x u ≡ unused → before u ≡ anything
      set_idle f x used all u =
          set_at-at (λ y. y ≡ unused → before u ≡ anything) f t x u
          (λ _ e. absurd (used e))
          (λ ne e. set_at-at (λ y. y ≡ anything) seen.preceding t come.preceding u (λ at. absurd (ne at)) (λ _. all u e))

      idle_after : (u : ℕ) → threads_after java_code t l op reply s u ≡ unused → before u ≡ anything
      idle_after = by_op op reply
        where
          by_op : (o : Op) (a : Reply) → (u : ℕ) → threads_after java_code t l o a s u ≡ unused → before u ≡ anything
          by_op (End x) Done = set_idle s.threads (ended x) (λ e. cc) seen.idle
          by_op (Start r p) (Number n) =
              set_idle (set_at s.threads n (live (java_code.child l r))) (live (java_code.reply l (Number n))) (λ e. cc)
              (λ u. set_at-at (λ y. y ≡ unused → seen.preceding u ≡ anything) s.threads n (live (java_code.child l r)) u (λ _ e. cc) (λ _ e. seen.idle u e))
          by_op o a = set_idle s.threads (live (java_code.reply l a)) (λ e. cc) seen.idle

      apart_after : (u v : ℕ) → u ≢ v → AreApart (before u) (before v)
      apart_after u v ne =
          set_at-at (λ x. AreApart x (before v)) seen.preceding t come.preceding u
          (λ at. set_at-at (λ y. AreApart come.preceding y) seen.preceding t come.preceding v (λ too. absurd (ne (at ∙ sym too))) (λ other. come.apart v (λ e. other (sym e))))
          (λ other. set_at-at (λ y. AreApart (seen.preceding u) y) seen.preceding t come.preceding v (λ _. apart_back come.preceding (seen.preceding u) (come.apart u (λ e. other (sym e)))) (λ _. seen.apart u v ne))

      pub step_seen : IsSeen us (after java_code s t l op reply)
      step_seen = record {
        fixed = fixed_after us s last kept seen t come.texts come.changes;
        texts = come.texts;
        begun = begun_after us s last kept seen t come.texts come.changes;
        arrays = come.changes.arrays;
        strings = strings_after us s last kept seen t come.texts come.changes;
        literals = literals_after us s last kept seen t come.texts come.changes;
        words = come.words;
        preceding = before;
        idle = idle_after;
        threads = threads_fit;
        making = λ u. set_at-at (λ x. MakingFits us last come.texts x) seen.preceding t come.preceding u (λ _. come.making)
            (λ ne. making_after us s last kept seen t come.texts come.changes (seen.preceding u) (seen.apart t u (λ e. ne (sym e))) (seen.making u));
        apart = apart_after;
      }
