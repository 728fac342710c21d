-- Objects stay in each step, and what is answered is true.
use Rattle.std.proofs.Common.{◌≡◌, ℕ, List, Option, None, Some, true, false, refl, sym, ap, subst}
use Rattle.std.specs.Prelude.{IsNone, is_some, IsSomeAnd}
use Rattle.code_decode.specs.declared.code.ClassUnit.{ClassUnit}
use Rattle.op_core.specs.declared.Op.{Op}
use Rattle.op_core.specs.declared.Op.TheVariants.{ClassOf, Read, New}
use Rattle.op_core.specs.declared.Reply.{Reply}
use Rattle.op_core.specs.declared.Reply.TheVariants.{Class, Value, Made}
use Rattle.op_core.specs.declared.Next.{Next}
use Rattle.op_core.specs.declared.Next.TheVariants.{Silent, Want, Ended}
use Rattle.op_core.specs.OrdinaryState.{Object, OrdinaryState}
use Rattle.op_core.specs.OrdinaryStep.{IsStep, MayAnswer, after, objects_after}
use Rattle.op_core.specs.ThreadCode.{quiet_step, quiet_to}
use Rattle.op_core.proofs.ExecutionLemmas.{answers_fit}
use Rattle.op_core.proofs.PointwiseLemmas.{set_at-at, set_at-hit}
use Rattle.java_rows.specs.Thread.{Local, java_code}
use Rattle.kept_states.specs.Kept.{IsObject, IsTrueReply}
use Rattle.row_soundness.specs.Runs.{MayStand, ObjectFits}
use Rattle.program_soundness.specs.Soundness.{StateFits}

-- a state that makes a silent step is silent
pub quiet_next : (l m : Local) → quiet_step java_code l ≡ Some m → java_code.next l ≡ Silent
quiet_next l m h = by_next (java_code.next l) h
  where
    by_next : (next : Next) → quiet_to java_code (java_code.silent l) next ≡ Some m → next ≡ Silent
    by_next Silent is = refl
    by_next (Want op) is = cc
    by_next Ended is = cc

module _ (us : List ClassUnit) (s : OrdinaryState Local) (t : ℕ) (l : Local) (op : Op) (reply : Reply) (step : IsStep java_code s t l op reply) where
  -- what is there isn't free
  pub not_free : (r q : ℕ) (o : Object) → s.objects r ≡ Some o → IsNone (s.objects q) → r ≡ q → ⊥
  not_free r q o there free e =
      let gone : is_some (s.objects r) ≡ false = subst (λ x. IsNone (s.objects x)) (sym e) free in
      let is : is_some (s.objects r) ≡ true = ap is_some there in
      cc

  pub objects_stay : (r : ℕ) (o : Object) → s.objects r ≡ Some o → objects_after java_code l op reply s r ≡ Some o
  objects_stay r o there = by_op op reply step.answered
    where
      by_op : (op : Op) (reply : Reply) → MayAnswer s t op reply → objects_after java_code l op reply s r ≡ Some o
      by_op (New c n) (Made q) answered =
          set_at-at (λ x. x ≡ Some o) s.objects q (Some (record { class = c; length = n; words = java_code.words l c n })) r (λ e. absurd (not_free r q o there answered.2 e)) (λ _. there)
      by_op _ _ answered = there

  pub reply_is_true : StateFits us s → StateFits us (after java_code s t l op reply) → IsTrueReply (ObjectFits us) (MayStand us) (objects_after java_code l op reply s) op reply
  reply_is_true kept kept_after = by_op op reply step.answered kept_after.objects
    where
      by_op : (op : Op) (reply : Reply) → MayAnswer s t op reply → ((r : ℕ) (o : Object) → objects_after java_code l op reply s r ≡ Some o → ObjectFits us r o) → IsTrueReply (ObjectFits us) (MayStand us) (objects_after java_code l op reply s) op reply
      by_op (ClassOf r) (Class c n) answered fit = by_object (s.objects r) refl answered
        where
          by_object : (o : Option Object) → s.objects r ≡ o → IsSomeAnd o (λ x. (x.class ≡ c) × (x.length ≡ n)) → IsObject (ObjectFits us) s.objects r c n
          by_object (Some o) e is = record { object = o; there = e; class = is.0; length = is.1; stands = fit r o e }
          by_object None e is = absurd is
      by_op (Read r i) (Value v) answered fit = subst (λ x. MayStand us s.objects r i x) (sym answered) (kept.words r i)
      by_op (New c n) (Made r) answered fit =
          let made : Object = record { class = c; length = n; words = java_code.words l c n } in
          let there : objects_after java_code l (New c n) (Made r) s r ≡ Some made = set_at-hit s.objects r (Some made) in
          record { object = made; there = there; class = refl; length = refl; stands = fit r made there }
      by_op op reply answered fit = answers_fit Local s t op reply answered
