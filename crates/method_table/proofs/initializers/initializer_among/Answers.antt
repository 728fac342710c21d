use Rattle.std.proofs.Common.{sym, ◌∙◌, ap}
use Rattle.std.specs.List.{find}
use Rattle.std.specs.Option.{option_map}
use Rattle.member_lookup.specs.Rows.{id_of_row}
use Rattle.method_table.specs.Rows.{initializes}
use Rattle.method_table.proofs.InitializerLaws.{found_is, no_name, no_descriptor}
use Rattle.method_table.proofs.initializers.initializer_among.Goals as goal

pub returns-then-name-eq0 : goal.returns-then-name-eq0
returns-then-name-eq0 c =
    no_name c.args.texts.now c.args.class c.requires.numbered (sym c.number-name.ensures ∙ c.if-name-eq0.true)

pub returns-then-descriptor-eq0 : goal.returns-then-descriptor-eq0
returns-then-descriptor-eq0 c =
    no_descriptor c.args.texts.now c.args.class c.requires.numbered (sym c.number-descriptor.ensures ∙ c.if-descriptor-eq0.true)

pub returns : goal.returns
returns c =
    let name = c.number-name.result in
    let descriptor = c.number-descriptor.result in
    c.id_of.ensures ∙ ap (option_map id_of_row) (c.find_static.ensures ∙ ap (find (initializes name descriptor)) c.requires.members)
    ∙ found_is c.args.texts.now c.args.class c.requires.numbered name descriptor c.number-name.ensures c.number-descriptor.ensures c.if-name-eq0.false c.if-descriptor-eq0.false
