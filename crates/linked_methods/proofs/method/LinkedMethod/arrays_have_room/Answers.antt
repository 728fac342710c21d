use Rattle.std.proofs.Common.{refl}
use Rattle.linked_methods.specs.Methods.{environment_of_method}
use Rattle.linked_methods.proofs.ArrayLaws.{arrays_have_room}
use Rattle.linked_methods.proofs.method.LinkedMethod.arrays_have_room.Goals as goal

pub returns : goal.returns
returns c =
    let m = c.args.self.now in
    arrays_have_room m.classes.world.now m.id m.code.now (environment_of_method m) c.is_linked.ensures.decoded m.code_there refl
