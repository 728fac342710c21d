use Rattle.std.proofs.Common.{map, ◌∙◌, ap}
use Rattle.class_texts.specs.Texts.{ProgramTexts}
use Rattle.link_rules.specs.Names.{program_names}
use Rattle.named_types.specs.Methods.{method_type}
use Rattle.method_table.proofs.TableLaws.{are_methods}
use Rattle.method_table.proofs.table.MethodTable.new.Goals as goal

pub returns : goal.returns
returns c =
    let kinds = c.in_ok-kinds.ensures ∙ ap (λ us. map (method_type (program_names us)) c.texts.result.now.texts) c.requires.same
    ∙ ap (λ (p : ProgramTexts). map (method_type (program_names c.args.lookup.now.units)) p.texts) c.texts.ensures in
    are_methods c.args.lookup.now (record { classes = c.in_ok-classes.classes; kinds = c.in_ok-kinds.kinds }) c.methods_have_numbers.ensures c.in_ok-classes.ensures kinds
