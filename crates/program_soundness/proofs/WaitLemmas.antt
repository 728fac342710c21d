-- A thread that has no step waits, since what it names is there.
use Rattle.std.proofs.Common.{◌≡◌, ◌<◌, inl, inr, ℕ, zero, suc, List, refl, arith}
use Rattle.code_decode.specs.declared.code.ClassUnit.{ClassUnit}
use Rattle.op_core.specs.declared.Op.{Op}
use Rattle.op_core.specs.declared.Op.TheVariants.{ClassOf, Read, Write, New, Enter, Exit, Wait, Rewake, Notify, Print, Start, Join, Init, InitDone, End}
use Rattle.op_core.specs.OrdinaryState.{OrdinaryState, IsThere}
use Rattle.op_core.specs.OrdinaryStep.{CanStep}
use Rattle.java_rows.specs.Thread.{Local, java_code}
use Rattle.row_soundness.specs.Knowledge.{Knows}
use Rattle.row_soundness.specs.Accepted.{Accepted}
use Rattle.row_soundness.specs.Runs.{RunsWant, runs, RunsLocal, MayStand, ObjectFits}
use Rattle.program_soundness.specs.Soundness.{HasRoom, StateFits, Waits, BlockedThreadsWait}
use Rattle.row_soundness.specs.Rows.{RowsFit}
use Rattle.program_soundness.proofs.SoundLemmas.{wanted, all_there, java_keeps, executions_fit}
use Rattle.kept_states.proofs.KeptLemmas.{quiet_kept}

module _ (us : List ClassUnit) (knows : Knows (runs us) us) (accepted : Accepted us) (rows : RowsFit (runs us) us) (room : HasRoom us) where
  reasons : (s : OrdinaryState Local) (t : ℕ) (op : Op) → RunsWant us s.objects op → (CanStep s t op → ⊥) → Waits s t op
  reasons s t (ClassOf r) want cannot = cannot (all_there us knows accepted rows room s.objects (ClassOf r) want)
  reasons s t (Read r i) want cannot = cannot (all_there us knows accepted rows room s.objects (Read r i) want)
  reasons s t (Write r i v) want cannot = cannot (all_there us knows accepted rows room s.objects (Write r i v) want)
  reasons s t (New c n) want cannot = cannot tt
  reasons s t (Enter r) want cannot = λ enters. cannot (all_there us knows accepted rows room s.objects (Enter r) want, enters)
  reasons s t (Exit r) want cannot = cannot (all_there us knows accepted rows room s.objects (Exit r) want)
  reasons s t (Wait r) want cannot = cannot (all_there us knows accepted rows room s.objects (Wait r) want)
  reasons s t (Rewake r) want cannot = λ notified is_free. cannot (all_there us knows accepted rows room s.objects (Rewake r) want, notified, is_free)
  reasons s t (Notify r) want cannot = cannot (all_there us knows accepted rows room s.objects (Notify r) want)
  reasons s t (Print x) want cannot = cannot tt
  reasons s t (Start r p) want cannot = (by_start (s.starts r) (λ some. cannot (there, inl some)), λ n is_free. cannot (there, inr (n, is_free)))
    where
      there : IsThere s.objects r
      there = all_there us knows accepted rows room s.objects (Start r p) want

      by_start : (k : ℕ) → (0 < k → ⊥) → k ≡ 0
      by_start zero never = refl
      by_start (suc k) never = absurd (never (omega arith))
  reasons s t (Join r) want cannot = (by_start (s.starts r) (λ none. cannot (there, inl none)), λ over. cannot (there, inr over))
    where
      there : IsThere s.objects r
      there = all_there us knows accepted rows room s.objects (Join r) want

      by_start : (k : ℕ) → (k ≡ 0 → ⊥) → 0 < k
      by_start zero never = absurd (never refl)
      by_start (suc k) never = omega arith
  reasons s t (Init c) want cannot = cannot
  reasons s t (InitDone c ok) want cannot = cannot tt
  reasons s t (End x) want cannot = cannot tt

  pub blocked_wait : BlockedThreadsWait us
  blocked_wait start s t from begins (es, leads) stands blocked =
      let fit : StateFits us s = executions_fit us knows accepted rows room start s begins (es, leads) in
      let fits : RunsLocal us s.objects blocked.at_op = quiet_kept Local java_code (RunsLocal us) (MayStand us) (ObjectFits us) (java_keeps us knows accepted rows room) s.objects blocked.silent from blocked.at_op (fit.threads t from stands) blocked.quiet in
      record {
        silent = blocked.silent;
        at_op = blocked.at_op;
        op = blocked.op;
        quiet = blocked.quiet;
        wanted = blocked.wanted;
        waits = reasons s t blocked.op (wanted us knows accepted rows room s.objects blocked.at_op blocked.op fits blocked.wanted) blocked.cannot;
      }
