-- What methods of the built-in classes share, and those that wait, notify, print or make a Thread.
use Rattle.std.proofs.Common.{◌≡◌, Bool, true, false, if◌then◌else◌, ◌<◌, ◌^◌, ℕ, Option, None, List, [], refl, sym, subst, arith}
use Rattle.builtin_world.specs.declared.number.TheConstants.{THREAD, ILLEGAL_MONITOR_STATE_EXCEPTION}
use Rattle.builtin_world.specs.declared.word.TheConstants.{THREAD_PRIORITY}
use Rattle.builtin_world.specs.Laws.{is_throwable}
use Rattle.code_decode.specs.declared.code.ClassUnit.{ClassUnit}
use Rattle.link_types.specs.declared.types.ObjectType.TheVariants.{Class}
use Rattle.link_types.specs.declared.types.ValueType.{ValueType}
use Rattle.op_core.specs.declared.Line.{Line}
use Rattle.op_core.specs.declared.Op.TheVariants.{Rewake}
use Rattle.java_rows.specs.Natives.{notifies_all, waits, not_owner, prints, inherits_priority}
use Rattle.java_rows.specs.Plan.{notifies, Plan, Use, want, on_done, writes, raises}
use Rattle.row_soundness.specs.Senses.{Sense}
use Rattle.row_soundness.specs.Fits.{Returns, ResultFits, IsMade, PlanFits, anything, UseFits}
use Rattle.row_soundness.specs.Knowledge.{LineFits, Knows}
use Rattle.row_soundness.specs.Accepted.{Accepted}
use Rattle.row_soundness.proofs.CallsFit.{raises_fit}
use Rattle.row_soundness.proofs.Plans.{notifies_fit, waits_fit, rewakes_fit, prints_fit, reads_priority_fit, writes_priority_fit}

pub flag_fits : (b : Bool) → (if b then 1 else 0) < 2 ^ 32
flag_fits true = omega arith
flag_fits false = omega arith

module _ {P : Type 0} (know : Sense P) (us : List ClassUnit) (knows : Knows know us) (accepted : Accepted us) (me : ℕ) where
  module _ (h : P) (res : Option Returns) (u : Use) (tells : Returns) (on : UseFits know us h res tells u) (plain : tells.made ≡ None) where
    -- what a method answers
    pub gives_fit : (t : Option ValueType) → tells.value ≡ t → (h' : P) (words : List ℕ) → know.extends h h' → ResultFits know h' t words → PlanFits know us res anything (u.value words) h'
    gives_fit t same h' words more fits =
        on.ends.value h' words more (subst (λ (x : Option ValueType). ResultFits know h' x words) (sym same) fits) (subst (λ (m : Option (ℕ × ℕ)). IsMade know h' m) (sym plain) tt)

    -- an exception of the machine
    pub refused_fit : (c : ℕ) → is_throwable c ≡ true → (h' : P) → know.extends h h' → PlanFits know us res anything (raises u c) h'
    refused_fit c throwable h' more = raises_fit know us knows accepted me h' res u c throwable (λ h'' r d more' thrown. on.ends.thrown h'' r d (knows.both h h' h'' more more') thrown)

  module _ (h : P) (res : Option Returns) (u : Use) (tells : Returns) (void : tells.value ≡ None) (plain : tells.made ≡ None) (on : UseFits know us h res tells u) where
    -- a method without a value
    done : (h' : P) → know.extends h h' → PlanFits know us res anything (u.value []) h'
    done h' more = on.ends.value h' [] more (subst (λ (t : Option ValueType). ResultFits know h' t []) (sym void) tt) (subst (λ (m : Option (ℕ × ℕ)). IsMade know h' m) (sym plain) tt)

    refused : (h' : P) → know.extends h h' → PlanFits know us res anything (not_owner u) h'
    refused h' more = raises_fit know us knows accepted me h' res u ILLEGAL_MONITOR_STATE_EXCEPTION refl (λ h'' r d more' thrown. on.ends.thrown h'' r d (knows.both h h' h'' more more') thrown)

    pub notify_all_fits : (r : ℕ) → know.is_there h r → PlanFits know us res anything (notifies_all r u) h
    notify_all_fits r there = notifies_fit know us knows res h r (u.value []) (u.again (notifies r)) (not_owner u) there done (λ h' more. on.again h' (notifies r) more void plain (knows.there_more h h' r more there)) refused

    pub wait_fits : (r : ℕ) → know.is_there h r → PlanFits know us res anything (waits r u) h
    wait_fits r there =
        waits_fit know us knows res h r (want (Rewake r) (on_done (u.value []))) (not_owner u) there
        (λ h' more. rewakes_fit know us knows res h' r (u.value []) (knows.there_more h h' r more there) (λ h'' more'. done h'' (knows.both h h' h'' more more'))) refused

    pub println_fits : (line : Line) → LineFits know h line → PlanFits know us res anything (prints line u) h
    println_fits line fits = prints_fit know us knows res h line (u.value []) fits done

  -- a new thread has the priority of the thread that makes it
  pub inherits_fit : (h : P) (res : Option Returns) (t : ℕ) (k : Plan) → know.is_of h me (Class THREAD) → know.is_raw h t (Class THREAD) → ((h' : P) → know.extends h h' → know.is_of h' t (Class THREAD) → PlanFits know us res anything k h')
      → PlanFits know us res anything (inherits_priority me t k) h
  inherits_fit h res t k mine raw later =
      reads_priority_fit know us knows res h me (λ p. writes t THREAD_PRIORITY p k) mine (λ h' p more may.
      writes_priority_fit know us knows res h' t p k (knows.raw_more h h' t (Class THREAD) more raw) may (λ h'' more' set. later h'' (knows.both h h' h'' more more') set))
