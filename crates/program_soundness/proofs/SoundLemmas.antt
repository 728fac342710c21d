-- Type soundness, from the rows.
use Rattle.std.proofs.Common.{◌≡◌, ◌≢◌, inl, inr, ℕ, ◌<◌, ◌≤◌, ◌^◌, true, List, length, Some, refl, sym, ap, subst, ◌∙◌, arith}
use Rattle.std.specs.Prelude.{IsSome, IsSomeAnd, is_some}
use Rattle.std.proofs.lemmas.Option.{same_Some}
use Rattle.code_decode.specs.declared.code.ClassUnit.{ClassUnit}
use Rattle.link_types.specs.declared.types.ObjectType.{ObjectType}
use Rattle.link_rules.specs.Layout.{object_words}
use Rattle.link_rules.specs.Names.{program_names}
use Rattle.op_core.specs.declared.Op.{Op}
use Rattle.op_core.specs.declared.Op.TheVariants.{ClassOf, Read, Write, New, Enter, Exit, Wait, Rewake, Notify, Start, Join, Init, InitDone}
use Rattle.op_core.specs.declared.Reply.{Reply}
use Rattle.op_core.specs.declared.Next.TheVariants.{Silent, Want}
use Rattle.op_core.specs.InPlaceList.{IsAllThere, IsInRange}
use Rattle.op_core.specs.Orderly.{IsEnd, KeepsStartWord}
use Rattle.op_core.specs.OrdinaryState.{Object}
use Rattle.java_rows.specs.Thread.{Local, java_code, next_of, silent_of, reply_of, child_of}
use Rattle.row_soundness.specs.Fits.{anything, after_reply}
use Rattle.row_soundness.specs.Knowledge.{Knows}
use Rattle.row_soundness.specs.Accepted.{Accepted}
use Rattle.kept_states.specs.Kept.{Objects, Extends, IsTrueReply, Keeps}
use Rattle.row_soundness.specs.Runs.{ObjectFits, HasObject, MayStand, IsThread, RunsWant, runs, RunsLocal}
use Rattle.program_soundness.specs.Soundness.{HasRoom, LiveThreadsGoOn, StateFits, ListsFit, ExecutionsFit, StartsAreGrounded, StartsKeepStartWords}
use Rattle.kept_states.proofs.KeptLemmas.{lists_keep, executions_keep}
use Rattle.row_soundness.proofs.More.{local_more}
use Rattle.row_soundness.specs.Rows.{RowsFit}
use Rattle.row_soundness.proofs.Settled.{goes_on_after, ended_fits, silent_fits, reply_fits, wants_fit, child_fits}

module _ (us : List ClassUnit) (knows : Knows (runs us) us) (accepted : Accepted us) (rows : RowsFit (runs us) us) (room : HasRoom us) where
  pub wanted : (h : Objects) (l : Local) (op : Op) → RunsLocal us h l → next_of l.plan ≡ Want op → RunsWant us h op
  wanted h l op (fixed, b, fits, goes) e = (wants_fit (runs us) us knows accepted rows l.thread (λ m h op next steps. steps) b (record { objects = h; fixed = fixed }) fits.res l.plan op e fits.plan).1

  -- the program is that of the local state
  pub silent_local : (h : Objects) (l : Local) → RunsLocal us h l → next_of l.plan ≡ Silent → RunsLocal us h (silent_of l.program l.thread l.plan l.below)
  silent_local h l (fixed, b, fits, goes) e =
      subst (λ p. RunsLocal us h (silent_of p l.thread l.plan l.below)) (sym fits.program)
      (fixed, anything, silent_fits (runs us) us knows accepted rows l.thread b (record { objects = h; fixed = fixed }) fits.res l.below l.plan fits.thread e fits.plan fits.below, λ x. x)

  reply_local : (h h' : Objects) (l : Local) (op : Op) (reply : Reply) → RunsLocal us h l → next_of l.plan ≡ Want op → (IsEnd op → ⊥) → Extends h h' → IsTrueReply (ObjectFits us) (MayStand us) h' op reply
      → RunsLocal us h' (reply_of l.program l.thread l.plan reply l.below)
  reply_local h h' l op reply (fixed, b, fits, goes) e no_end more come =
      subst (λ p. RunsLocal us h' (reply_of p l.thread l.plan reply l.below)) (sym fits.program)
      ((λ r o x. more r o (fixed r o x)), after_reply op reply, reply_fits (runs us) us knows accepted rows l.thread (λ m h op next steps. steps) b (record { objects = h; fixed = fixed }) (record { objects = h'; fixed = λ r o x. more r o (fixed r o x) }) fits.res l.below l.plan op reply fits.thread e more come fits.plan fits.below, goes_on_after op reply no_end)

  child_local : (h : Objects) (l : Local) (r p : ℕ) → RunsLocal us h l → next_of l.plan ≡ Want (Start r p) → RunsLocal us h (child_of l.program r)
  child_local h l r p (fixed, b, fits, goes) e =
      subst (λ x. RunsLocal us h (child_of x r)) (sym fits.program) (fixed, anything, child_fits (runs us) us knows accepted rows r (record { objects = h; fixed = fixed }) (wanted h l (Start r p) (fixed, b, fits, goes) e).0, λ x. x)

  object_more : (h h' : Objects) (r : ℕ) (t : ObjectType) → Extends h h' → HasObject us h r t → HasObject us h' r t
  object_more h h' r t more is = record { object = is.object; there = more r is.object is.there; fits = is.fits; stands = is.stands }

  stands_later : (h h' : Objects) (r i v : ℕ) (o : Object) → h r ≡ Some o → Extends h h' → MayStand us h r i v → MayStand us h' r i v
  stands_later h h' r i v o there more may = (
    may.0,
    λ p t at holds.
        let same : o ≡ p = same_Some o p (sym (more r o there) ∙ at) in
        elim (may.1 p t (subst (λ (x : Object). h r ≡ Some x) same there) holds) [ inl null ↦ inl null | inr is ↦ inr (object_more h h' v t more is) ],
  )

  pub java_keeps : Keeps java_code (RunsLocal us) (MayStand us) (ObjectFits us)
  java_keeps = record {
    more = λ h h' l more fits. ((λ r o x. more r o (fits.0 r o x)), fits.1, local_more (runs us) us knows accepted (record { objects = h; fixed = fits.0 }) (record { objects = h'; fixed = λ r o x. more r o (fits.0 r o x) }) more fits.1 l fits.2, fits.3);
    words_more = stands_later;
    zero_stands = λ h r i. (omega arith, λ o t at holds. inl refl);
    silent = silent_local;
    reply = λ h h' l op reply fits e no_end more come. reply_local h h' l op reply fits e no_end more come;
    child = child_local;
    writes = λ h l r i v fits e. (wanted h l (Write r i v) fits e).2;
    makes = λ h l c n r fits e some small. made h l c n r fits e some small;
  }
    where
      made : (h : Objects) (l : Local) (c n r : ℕ) → RunsLocal us h l → next_of l.plan ≡ Want (New c n) → 0 < r → r < 2 ^ 32 → ObjectFits us r (record { class = c; length = n; words = object_words (program_names l.program) c n })
      made h l c n r fits e some small =
          let can = wanted h l (New c n) fits e in
          record { some = some; small = small; class = can.class; length = can.length; few = subst (λ p. object_words (program_names p) c n ≤ 2 ^ 32) (sym fits.2.program) (room.few c n can); words = inl (ap (λ p. object_words (program_names p) c n) fits.2.program) }

  -- each state of a list in which undoing is seen fits
  pub lists_fit : ListsFit us
  lists_fit s es start fit = lists_keep Local java_code (RunsLocal us) (MayStand us) (ObjectFits us) java_keeps s es start fit

  -- each state that an execution reaches fits
  pub executions_fit : ExecutionsFit us
  executions_fit start s fit (es, leads) = executions_keep Local java_code (RunsLocal us) (MayStand us) (ObjectFits us) java_keeps start es s fit leads

  -- a live thread has a row
  pub go_on : LiveThreadsGoOn us
  go_on s t l fit live ended = by_preceding (fit.threads t l live)
    where
      by_preceding : RunsLocal us s.objects l → ⊥
      by_preceding (fixed, b, fits, goes) = ended_fits (runs us) us knows accepted rows l.thread b (record { objects = s.objects; fixed = fixed }) fits.res l.plan ended fits.begun fits.plan goes

  -- ---- what a thread wants is there, in range, and no start word

  module _ (h : Objects) where
    some_there : (r : ℕ) (o : Object) → h r ≡ Some o → IsSome (h r)
    some_there r o e = ap is_some e

    fact_there : (Q : Object → Type 0) (r : ℕ) (o : Object) → h r ≡ Some o → Q o → IsSomeAnd (h r) Q
    fact_there Q r o e is = subst (λ x. IsSomeAnd x Q) (sym e) is

    pub all_there : (op : Op) → RunsWant us h op → IsAllThere h op
    all_there (ClassOf r) is = some_there r is.object is.there
    all_there (Read r i) (k, is) = fact_there (λ o. i < o.words) r is.object is.there is.within
    all_there (Write r i v) (k, is, may) = fact_there (λ o. i < o.words) r is.object is.there is.within
    all_there (Enter r) is = some_there r is.object is.there
    all_there (Exit r) is = some_there r is.object is.there
    all_there (Wait r) is = some_there r is.object is.there
    all_there (Rewake r) is = some_there r is.object is.there
    all_there (Notify r) is = some_there r is.object is.there
    all_there (Start r p) (is, low) = some_there r is.object is.there
    all_there (Join r) is = some_there r is.object is.there
    all_there _ is = tt

    in_range : (op : Op) → RunsWant us h op → IsInRange op
    in_range (ClassOf r) is = is.fits.small
    in_range (Read r i) (k, is) = (is.fits.small, omega (arith, is.within, is.fits.few))
    in_range (Write r i v) (k, is, may) = (is.fits.small, omega (arith, is.within, is.fits.few), may.0)
    in_range (New c n) can = (room.numbers c can.class, omega (arith, can.length))
    in_range (Enter r) is = is.fits.small
    in_range (Exit r) is = is.fits.small
    in_range (Wait r) is = is.fits.small
    in_range (Rewake r) is = is.fits.small
    in_range (Notify r) is = is.fits.small
    in_range (Start r p) (is, low) = (is.fits.small, low)
    in_range (Join r) is = is.fits.small
    in_range (Init c) file = room.files c file
    in_range (InitDone c ok) file = room.files c file
    in_range _ is = tt

    keeps_start : (op : Op) → RunsWant us h op → KeepsStartWord (IsThread us) h op
    keeps_start (Start r p) (is, low) = fact_there (λ o. (IsThread us o.class ≡ true) × (1 < o.words)) r is.object is.there (room.threads r is.object is.fits is.stands)
    keeps_start (Join r) is = fact_there (λ o. (IsThread us o.class ≡ true) × (1 < o.words)) r is.object is.there (room.threads r is.object is.fits is.stands)
    keeps_start (Read r i) (k, is) = fact_there (λ o. IsThread us o.class ≡ true → i ≢ 1) r is.object is.there is.spared
    keeps_start (Write r i v) (k, is, may) = fact_there (λ o. IsThread us o.class ≡ true → i ≢ 1) r is.object is.there is.spared
    keeps_start _ is = tt

  pub grounded : StartsAreGrounded us
  grounded start fit s es begins list =
      let last : StateFits us (s (length es)) = lists_fit s es (subst (λ x. StateFits us x) (sym begins) fit) list in
      record {
        all_there = λ t l op stands e. all_there (s (length es)).objects op (wanted (s (length es)).objects l op (last.threads t l stands) e);
        in_range = λ t l op stands e. in_range (s (length es)).objects op (wanted (s (length es)).objects l op (last.threads t l stands) e);
      }

  pub start_words : StartsKeepStartWords us
  start_words start fit s es begins list t l op stands e =
      let last : StateFits us (s (length es)) = lists_fit s es (subst (λ x. StateFits us x) (sym begins) fit) list in
      keeps_start (s (length es)).objects op (wanted (s (length es)).objects l op (last.threads t l stands) e)
