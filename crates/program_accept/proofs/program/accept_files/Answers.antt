use Rattle.std.proofs.Common.{◌≤◌, ℕ, List, length, map, sym, subst, Vec, Global, arith}
use Rattle.std.proofs.lemmas.List.{length-map}
use Rattle.rules.specs.Rules.{each}
use Rattle.program_accept.specs.Accepted.{read_rules, code_rules, program_rules}
use Rattle.program_accept.specs.Only.{AreOnlyUnits}
use Rattle.program_accept.specs.Answers.{Passes, Fails}
use Rattle.program_accept.proofs.OnlyLaws.{are_decoded}
use Rattle.program_accept.proofs.ProgramLaws.{many_fail, read_fails, code_fails, program_decided}
use Rattle.program_accept.proofs.program.accept_files.Goals as goal

abbrev bytes : Vec ℕ Global → List ℕ
bytes v = v.items

pub returns-then-len-gt-MOST_FILES : goal.returns-then-len-gt-MOST_FILES
returns-then-len-gt-MOST_FILES c =
    let all = map bytes c.args.files.items in
    let more : ¬ (length all ≤ 1024) = λ few. omega (arith, few, length-map c.args.files.items bytes, c.len.ensures, c.if-len-gt-MOST_FILES.true) in
    subst (Fails (program_rules all c.args.main.now)) (sym c.too_many.ensures) (many_fail all c.args.main.now more)

pub returns-in-Err : goal.returns-in-Err
returns-in-Err c =
    let all = map bytes c.args.files.items in
    let few : length all ≤ 1024 = omega (arith, length-map c.args.files.items bytes, c.len.ensures, c.if-len-gt-MOST_FILES.false) in
    let fails = subst (λ fs. Fails (each read_rules (map bytes fs)) c.in-Err.refusal) c.as_slice-listed.ensures.value c.in-Err.ensures in
    read_fails all c.args.main.now few c.in-Err.refusal fails

pub decode_files-requires-clause-read : goal.decode_files-requires-clause-read
decode_files-requires-clause-read c = c.in-Ok.ensures.hold

pub returns-in-Err-decode_files : goal.returns-in-Err-decode_files
returns-in-Err-decode_files c =
    let all = map bytes c.args.files.items in
    let few : length all ≤ 1024 = omega (arith, length-map c.args.files.items bytes, c.len.ensures, c.if-len-gt-MOST_FILES.false) in
    let read = subst (λ fs. Passes (each read_rules (map bytes fs)) (Unit {0})) c.as_slice-listed.ensures.value c.in-Ok.ensures in
    let refusal = c.in-Err-decode_files.refusal in
    let fails = subst (λ fs. Fails (each code_rules (map bytes fs)) refusal) c.as_slice-listed.ensures.value c.in-Err-decode_files.ensures in
    code_fails all c.args.main.now few read refusal fails

pub accept_units-requires-clause-decoded : goal.accept_units-requires-clause-decoded
accept_units-requires-clause-decoded c = are_decoded (map bytes c.as_slice-listed.result.now) c.in-Ok-decode_files.units.items c.in-Ok-decode_files.ensures.is

pub returns : goal.returns
returns c =
    let all = map bytes c.args.files.items in
    let few : length all ≤ 1024 = omega (arith, length-map c.args.files.items bytes, c.len.ensures, c.if-len-gt-MOST_FILES.false) in
    let units = c.in-Ok-decode_files.units.items in
    let read = subst (λ fs. Passes (each read_rules (map bytes fs)) (Unit {0})) c.as_slice-listed.ensures.value c.in-Ok.ensures in
    let decoded = subst (λ fs. Passes (each code_rules (map bytes fs)) (AreOnlyUnits (map bytes fs) units)) c.as_slice-listed.ensures.value c.in-Ok-decode_files.ensures in
    program_decided all c.args.main.now few read units decoded c.accept_units.result c.accept_units.ensures
