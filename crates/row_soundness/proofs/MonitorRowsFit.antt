-- The rows of monitors and of thrown objects (JVMS 6.5 monitorenter, monitorexit, athrow).
use Rattle.std.proofs.Common.{ℕ, Some, List, refl, sym, subst}
use Rattle.builtin_world.specs.declared.number.TheConstants.{OBJECT, THROWABLE, ILLEGAL_MONITOR_STATE_EXCEPTION}
use Rattle.code_decode.specs.declared.code.ClassUnit.{ClassUnit}
use Rattle.instructions.specs.declared.what.Instr.{Instr}
use Rattle.instructions.specs.declared.what.Target.{Target}
use Rattle.link_types.specs.declared.types.ObjectType.TheVariants.{Class}
use Rattle.java_rows.specs.Objects.{enters_monitor, exits_monitor}
use Rattle.java_rows.specs.Plan.{Frame, completes, fails, enters, exits}
use Rattle.java_rows.specs.Throws.{throws_it}
use Rattle.row_soundness.specs.Senses.{Sense}
use Rattle.row_soundness.specs.Fits.{returns_of, env_of}
use Rattle.row_soundness.specs.Operands.{Begins, at_offset}
use Rattle.row_soundness.specs.Knowledge.{Knows}
use Rattle.row_soundness.specs.Accepted.{Accepted}
use Rattle.row_soundness.proofs.Basics.{types_more}
use Rattle.row_soundness.proofs.Flow.{stands_more, begins_more}
use Rattle.row_soundness.proofs.Plans.{enters_fit, exits_fit, asks_class_fit}
use Rattle.row_soundness.proofs.RowBasics.{RowFits, takes, Fit, fails_fit, bare_stands, completes_fit}
use Rattle.instructions.specs.declared.operation.Plain.TheVariants as plain
use Rattle.instructions.specs.declared.what.What.TheVariants as whats
use Rattle.row_soundness.proofs.ReadValues.{unless_null_fits, there}

module _ {P : Type 0} (know : Sense P) (us : List ClassUnit) (knows : Knows know us) (accepted : Accepted us) (me : ℕ) where
  -- ---- monitors, and thrown objects

  module _ (at next : ℕ) where
    abbrev monitorenter : Instr Target
    monitorenter = at_offset at next (whats.Plain plain.MonitorEnter)

    pub monitorenter_fits : (h : P) (f : Frame) (b : Begins know us h f monitorenter) → RowFits know us knows accepted me h f monitorenter b
    monitorenter_fits h f b =
        let (r, rest, are, r_fits, left) = takes know us knows accepted me h f monitorenter b in
        subst (λ s. Fit know us knows accepted me h f monitorenter b (enters_monitor f s)) (sym are)
        (unless_null_fits know us knows accepted me h f b.stands r (enters r (completes f rest)) (λ other.
        enters_fit know us knows (Some (returns_of know us h f b.stands)) h r (completes f rest) (knows.there_of h r (Class OBJECT) (knows.raw_of h r (Class OBJECT) (there know us knows accepted me h r (Class OBJECT) other r_fits))) (λ h' more.
        let b' = begins_more know us knows accepted h h' more f monitorenter b in
        completes_fit know us knows accepted me h' f monitorenter b' rest refl (record { locals_fit = b'.stands.locals; stack_fits = types_more know us knows (env_of us f.method b.stands.of) b.stands.unset h h' rest _ more left; set = b'.stands.set }))))

    abbrev monitorexit : Instr Target
    monitorexit = at_offset at next (whats.Plain plain.MonitorExit)

    pub monitorexit_fits : (h : P) (f : Frame) (b : Begins know us h f monitorexit) → RowFits know us knows accepted me h f monitorexit b
    monitorexit_fits h f b =
        let (r, rest, are, r_fits, left) = takes know us knows accepted me h f monitorexit b in
        subst (λ s. Fit know us knows accepted me h f monitorexit b (exits_monitor f s)) (sym are)
        (unless_null_fits know us knows accepted me h f b.stands r (exits r (completes f rest) (fails f ILLEGAL_MONITOR_STATE_EXCEPTION)) (λ other.
        exits_fit know us knows (Some (returns_of know us h f b.stands)) h r (completes f rest) (fails f ILLEGAL_MONITOR_STATE_EXCEPTION) (knows.there_of h r (Class OBJECT) (knows.raw_of h r (Class OBJECT) (there know us knows accepted me h r (Class OBJECT) other r_fits)))
        (λ h' more.
        let b' = begins_more know us knows accepted h h' more f monitorexit b in
        completes_fit know us knows accepted me h' f monitorexit b' rest refl (record { locals_fit = b'.stands.locals; stack_fits = types_more know us knows (env_of us f.method b.stands.of) b.stands.unset h h' rest _ more left; set = b'.stands.set }))
        (λ h' more. fails_fit know us knows accepted me h' f (stands_more know us knows accepted h h' more f b.stands) ILLEGAL_MONITOR_STATE_EXCEPTION refl)))

    abbrev athrow : Instr Target
    athrow = at_offset at next (whats.Plain plain.Throw)

    pub athrow_fits : (h : P) (f : Frame) (b : Begins know us h f athrow) → RowFits know us knows accepted me h f athrow b
    athrow_fits h f b =
        let (r, rest, are, r_fits, left) = takes know us knows accepted me h f athrow b in
        subst (λ s. Fit know us knows accepted me h f athrow b (throws_it f s)) (sym are)
        (unless_null_fits know us knows accepted me h f b.stands r (Rattle.java_rows.specs.Plan.asks_class r (λ c n. Rattle.java_rows.specs.Plan.thrown_in f r c)) (λ other.
        let of : know.is_of h r (Class THROWABLE) = there know us knows accepted me h r (Class THROWABLE) other r_fits in
        asks_class_fit know us knows (Some (returns_of know us h f b.stands)) h r (λ c n. Rattle.java_rows.specs.Plan.thrown_in f r c) (knows.looks h r (knows.there_of h r (Class THROWABLE) (knows.raw_of h r (Class THROWABLE) of))) (λ h' c n more is.
        (tt, (bare_stands know us knows accepted me h' f (stands_more know us knows accepted h h' more f b.stands), refl, knows.thrown h' r c n (knows.of_more h h' r (Class THROWABLE) more of) is)))))
