use Rattle.std.proofs.Common.{◌≡◌, ◌+◌, ◌<◌, ◌-◌, suc, length, drop, arith, ap, sym, subst, ◌∙◌, String, string_bytes, Vec, ℕ, List, Contains}
use Rattle.std.specs.declared.alloc.Global.{Global}
use Rattle.jr_ports.specs.Folder.{AreDifferent, IsOneOf, names_of}
use Rattle.jr_ports.specs.Memory.{files_of}
use Rattle.jr_ports.proofs.Files.{AreDifferent-more, AreDifferent-not, any-from_false}
use Rattle.jr_ports.proofs.memory.dir.names_differ.Goals as goal

pub loop-at-preserved : goal.loop-at-preserved
loop-at-preserved c =
    let next : suc (c.loop-at.at - 1) ≡ c.loop-at.at - 1 + 1 = omega arith in
    let back : c.loop-at.at ≡ c.loop-at.at - 1 + 1 = omega arith in
    let below : c.loop-at.at - 1 < length c.args.files.now = omega arith in
    let named = c.as_str-name.ensures.value ∙ ap (λ (f : String Global × Vec ℕ Global). string_bytes f.0) (sym c.index-files-at.is) in
    let Rest : ℕ → Type 0 = λ n. AreDifferent (names_of (files_of (drop n c.args.files.now))) in
    let None_of : List (String Global × Vec ℕ Global) → Type 0 = λ rest. Contains (names_of (files_of rest)) c.as_str-name.result.now → ⊥ in
    record { within = omega arith; different = AreDifferent-more _ _ _ _ _ next below c.index-files-at.is named (subst None_of c.split_at.ensures.back c.in-None.ensures.none) (subst Rest back c.loop-at.invariant.different) }

pub returns-in-Some : goal.returns-in-Some
returns-in-Some c =
    let next : suc (c.loop-at.at - 1) ≡ c.loop-at.at - 1 + 1 = omega arith in
    let below : c.loop-at.at - 1 < length c.args.files.now = omega arith in
    let named = c.as_str-name.ensures.value ∙ ap (λ (f : String Global × Vec ℕ Global). string_bytes f.0) (sym c.index-files-at.is) in
    let Found : List (String Global × Vec ℕ Global) → Type 0 = λ rest. IsOneOf (files_of rest) c.as_str-name.result.now c.in-Some.field-0.now in
    (any-from_false _, λ all. absurd (AreDifferent-not _ _ _ _ _ _ next below c.index-files-at.is named (subst Found c.split_at.ensures.back c.in-Some.ensures.found) all))
