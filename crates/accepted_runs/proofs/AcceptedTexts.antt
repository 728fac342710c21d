-- Texts in executions of accepted programs.
use Rattle.std.proofs.Common.{◌≡◌, ◌<◌, ◌≤◌, ◌^◌, ℕ, List, subst, arith}
use Rattle.link_rules.specs.FixedObjects.{first_free}
use Rattle.link_rules.specs.LinkRules.{link_rules}
use Rattle.link_rules.specs.Names.{program_names}
use Rattle.link_rules.specs.Units.{AreUnits}
use Rattle.linker.specs.Tables.{HasOrder}
use Rattle.program_accept.specs.Accepted.{Accepted, IsProgram}
use Rattle.java_rows.specs.Start.{start_of_program}
use Rattle.accepted_runs.proofs.accepted_programs.MainMethods.{is_sound}
use Rattle.accepted_runs.specs.Texts.{TextsStay}
use Rattle.accepted_runs.proofs.sound_texts.Whole.{stay_from_start}

pub texts_stay : (p : Accepted) (files : List (List ℕ)) (name : List ℕ) → AreUnits p.units → (link_rules p.units).Hold → HasOrder p.units → IsProgram files name p → (first : ℕ) → first ≡ first_free (program_names p.units) → first < 2 ^ 30
    → TextsStay p.units (start_of_program p.units p.main)
texts_stay p files name decoded hold order is first value small =
    let (places, sound, main) = is_sound p files name decoded hold order is in
    let below : first ≤ 2 ^ 32 = omega arith in
    stay_from_start p.units places sound (subst (λ n. n ≤ 2 ^ 32) value below) p.main main
