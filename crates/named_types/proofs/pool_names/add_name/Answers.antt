use Rattle.std.proofs.Common.{◌∷◌, [], false, sym, subst, if◌then◌else◌}
use Rattle.class_names.specs.Reading.{spells_class_name}
use Rattle.class_names.proofs.NameLaws.{name_spelled, spells_name}
use Rattle.named_types.specs.Others.{HasMore}
use Rattle.named_types.proofs.NameLaws.{none_more}
use Rattle.named_types.proofs.TextLaws.{spelled_or_not}
use Rattle.named_types.proofs.pool_names.add_name.Goals as goal

pub returns-in_ok-add : goal.returns-in_ok-add
returns-in_ok-add c =
    let is = spells_name c.args.text.now (c.is_class_name.ensures.0 c.if-is_class_name.true) in
    subst (λ b. HasMore c.args.names.now c.add.new.self (if b then c.args.text.now ∷ [] else [])) (sym is) c.in_ok-add.ensures

pub returns-else-is_class_name : goal.returns-else-is_class_name
returns-else-is_class_name c =
    let is = spelled_or_not c.is_class_name.result (spells_class_name false c.args.text.now) (λ spelled. c.is_class_name.ensures.1 (name_spelled c.args.text.now spelled)) c.if-is_class_name.false in
    subst (λ b. HasMore c.args.names.now c.args.names.now (if b then c.args.text.now ∷ [] else [])) (sym is) (none_more c.args.names.now)
