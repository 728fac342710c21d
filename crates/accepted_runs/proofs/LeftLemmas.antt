-- The texts and ends that turns tell are those of the execution that is left of them.
use Rattle.std.proofs.Common.{◌≡◌, ◌↔◌, ℕ, Option, List, length, refl, sym, subst}
use Rattle.code_decode.specs.declared.code.ClassUnit.{ClassUnit}
use Rattle.link_types.specs.declared.operands.MethodId.{MethodId}
use Rattle.op_core.specs.CleanCut.{kept_by}
use Rattle.op_core.specs.OrdinaryState.{Thread, unused, live, ended, HasEnded}
use Rattle.java_rows.specs.Start.{start_of_program}
use Rattle.java_rows.specs.Thread.{Local, java_code, first_state}
use Rattle.row_soundness.specs.Runs.{IsThread}
use Rattle.core_runs.specs.Cores.{Core}
use Rattle.core_law.specs.Erasure.{is_left_out}
use Rattle.word_runs.specs.WordTurns.{EndedBy}
use Rattle.word_texts.specs.Texts.{AreTextsOf}
use Rattle.sched_core.specs.Outcome.{AreEnds as AreEndsOfCore}
use Rattle.core_law.specs.Arrays.{NameArrays}
use Rattle.core_law.proofs.TextLemmas.{texts_are_those_left}
use Rattle.core_law.proofs.LeftEndLemmas.{ends_are_those_left}
use Rattle.accepted_runs.specs.Printed.{PrintedLinesNameArrays}
use Rattle.accepted_runs.specs.Left.{TurnsTellTexts, TurnsTellEnds}

pub turns_tell_texts : (us : List ClassUnit) (main : MethodId) → PrintedLinesNameArrays us (start_of_program us main) → TurnsTellTexts us main
turns_tell_texts us main named b last turns lines made are texts =
    texts_are_those_left java_code b (IsThread us) (first_state us main) turns.classes turns.cores last.acts turns.erased.kept.run turns.erased.erasure lines made
    (subst (NameArrays (IsThread us) turns.erased.erasure.last.objects) (sym are)
    (named turns.erased.erasure.last (kept_by (is_left_out turns.cores last.acts) turns.erased.erasure.entries) turns.erased.execution))
    (subst (λ (core : Core Local). AreTextsOf core lines made) (sym turns.ends) texts)

pub turns_tell_ends : (us : List ClassUnit) (main : MethodId) → TurnsTellEnds us main
turns_tell_ends us main b last turns ends are = record {
  threads = record {
    rising = told.threads.rising;
    each = λ t. (
      λ among. let end = (told.threads.each t).0 among in subst HasEnded (sym ((alike t end.0).0 end.1)) tt,
      λ has. (told.threads.each t).1 (which t (turns.erased.erasure.last.threads t) refl has),
    );
  };
  classes = λ k d within. (alike _ _).0 (told.classes k d within);
}
  where
    told : AreEndsOfCore java_code (turns.cores (length last.acts)) ends
    told = subst (λ (core : Core Local). AreEndsOfCore java_code core ends) (sym turns.ends) are

    alike : (t : ℕ) (x : Option ℕ) → EndedBy java_code x ((turns.cores (length last.acts)).threads t) ↔ (turns.erased.erasure.last.threads t ≡ ended x)
    alike = ends_are_those_left java_code b (IsThread us) (first_state us main) turns.classes turns.cores last.acts turns.erased.kept.run turns.erased.erasure

    which : (t : ℕ) (thread : Thread Local) → turns.erased.erasure.last.threads t ≡ thread → HasEnded thread → (x : Option ℕ) × EndedBy java_code x ((turns.cores (length last.acts)).threads t)
    which t unused is has = absurd has
    which t (live l) is has = absurd has
    which t (ended x) is has = (x, (alike t x).1 is)
