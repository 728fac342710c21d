use Rattle.std.proofs.Common.{◌≡◌, ◌≤◌, List, ℕ, length, string_bytes, sym, rules, subst}
use Rattle.std.proofs.lemmas.List.{take_all}
use Rattle.jr_ports.specs.Folder.{IsOneOf}
use Rattle.jr_ports.specs.Memory.{files_of}
use Rattle.jr_ports.proofs.Files.{IsOneOf-at, names-none_more}
use Rattle.jr_ports.proofs.memory.dir.find_file.Goals as goal

pub returns-then-is_same_text-clause-found : goal.returns-then-is_same_text-clause-found
returns-then-is_same_text-clause-found c =
    let Has : List ℕ → Type 0 = λ bytes. IsOneOf (files_of c.args.files.now) c.args.name.now bytes in
    subst Has (sym c.as_slice.ensures.value) (IsOneOf-at _ _ _ _ c.loop-file-test.true c.file-item.is (search rules))

pub loop-file-preserved : goal.loop-file-preserved
loop-file-preserved c =
    names-none_more _ _ _ _ c.loop-file-test.true c.file-item.is c.loop-file.invariant (λ (same : string_bytes c.file-item.result.0 ≡ c.args.name.now). search rules)

pub returns-clause-none : goal.returns-clause-none
returns-clause-none c =
    let all : length c.args.files.now ≤ c.loop-file.file-index = c.loop-file-test.false in rw take_all at c.loop-file.invariant
