use Rattle.std.proofs.Common.{subst, Result}
use Rattle.class_walk.specs.declared.class.RawClass.{RawClass}
use Rattle.class_walk.specs.declared.refusal.WalkFault.{WalkFault}
use Rattle.class_read.specs.ClassFile.{RefusesWalked}
use Rattle.class_read.proofs.PlaceLaws.{methods_end_inside}
use Rattle.class_read.proofs.ReadLaws.{read_found, read_only, read_first, same_class}
use Rattle.class_read.proofs.SoundLaws.{sound_holds}
use Rattle.class_read.proofs.read.read_class.Goals as goal

pub class_file-requires-clause-small : goal.class_file-requires-clause-small
class_file-requires-clause-small c = methods_end_inside c.args.bytes.now c.in-Ok.class c.in-Ok.ensures.found

pub returns-in-Ok-clause-found : goal.returns-in-Ok-clause-found
returns-in-Ok-clause-found c = read_found c.class_file.result c.args.bytes.now c.in-Ok.class c.in-Ok.ensures.found c.class_file.ensures

pub returns-in-Ok-clause-only : goal.returns-in-Ok-clause-only
returns-in-Ok-clause-only c = λ file is.
    let same = same_class is.0 c.in-Ok.class (c.in-Ok.ensures.only is.0 is.1) in
    read_only c.class_file.result c.in-Ok.class is.0 file c.class_file.ensures same (sound_holds is.0 is.2) is.3

pub returns-in-Ok-clause-first : goal.returns-in-Ok-clause-first
returns-in-Ok-clause-first c = λ e refused.
    let P : Result RawClass WalkFault → Type 0 = λ w. RefusesWalked w e in
    read_first c.class_file.result c.in-Ok.class e c.class_file.ensures (subst P c.in-Ok.ensures.exact refused)
