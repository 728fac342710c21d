use Rattle.std.proofs.Common.{List, String, string_bytes, map, filter, subst}
use Rattle.std.specs.declared.alloc.Global.{Global}
use Rattle.std.specs.List.Sorted.{IsPermutation}
use Rattle.program_input.specs.Folder.{is_class_file}
use Rattle.program_input.proofs.Names.{listed}
use Rattle.program_input.proofs.folder.class_names.Goals as goal

pub returns-clause-listed : goal.returns-clause-listed
returns-clause-listed g c =
    let Are : List (String Global) → Type 0 = λ names. IsPermutation (filter is_class_file (map string_bytes names)) (map string_bytes c.in_ok-sorted.sorted.items) in
    listed _ _ _ c.in_ok-sorted.sorted.items c.in_ok-names.ensures.asked (subst Are c.as_slice.ensures.value c.in_ok-sorted.ensures.are)
