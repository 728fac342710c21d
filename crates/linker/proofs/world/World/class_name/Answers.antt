use Rattle.std.proofs.Common.{◌≡◌, ◌+◌, ◌<◌, suc, slice_get, sym, ◌∙◌, ap, arith}
use Rattle.std.specs.Option.{option_map}
use Rattle.code_decode.specs.declared.code.ClassUnit.{ClassUnit}
use Rattle.link_rules.specs.Classes.{NamedClass, class_name_at, class_numbered, classes_of}
use Rattle.linker.proofs.NameLaws.{builtin_name, file_name}
use Rattle.linker.proofs.world.World.class_name.Goals as goal

pub returns-in-Some : goal.returns-in-Some
returns-in-Some c =
    let us = c.args.self.now in
    let number : suc (28 + c.in-Some.file) ≡ c.args.class = omega (arith, c.in_ok-place.ensures, c.in-Some.ensures) in
    c.name_of_file.ensures
    ∙ ap (λ vs. option_map (λ (u : ClassUnit). class_name_at u.file.pool u.file.this_class) (slice_get vs c.in-Some.file)) (c.deref.ensures.value ∙ c.self.view_is)
    ∙ sym (file_name us c.in-Some.file)
    ∙ ap (λ n. option_map (λ (k : NamedClass). k.name) (class_numbered (classes_of us) n)) number

pub returns-in-None : goal.returns-in-None
returns-in-None c =
    let us = c.args.self.now in
    let few : c.in_ok-place.place < 28 = omega (arith, c.in-None.ensures) in
    let number : suc c.in_ok-place.place ≡ c.args.class = omega (arith, c.in_ok-place.ensures) in
    c.name_of_builtin.ensures ∙ sym (builtin_name us c.in_ok-place.place few)
    ∙ ap (λ n. option_map (λ (k : NamedClass). k.name) (class_numbered (classes_of us) n)) number
