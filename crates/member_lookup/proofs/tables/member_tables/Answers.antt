use Rattle.std.proofs.Common.{◌≡◌, ◌+◌, ◌-◌, length, subst, ap, arith}
use Rattle.link_rules.specs.Classes.{classes_of}
use Rattle.link_rules.proofs.Numbers.{class_count_is}
use Rattle.member_lookup.specs.Rows.{AreTables}
use Rattle.member_lookup.proofs.RowLaws.{tables_more}
use Rattle.member_lookup.proofs.tables.member_tables.Goals as goal

pub loop-class-preserved : goal.loop-class-preserved
loop-class-preserved c =
    let n = c.loop-class.class - 1 in
    let is : c.loop-class.class ≡ 1 + (c.loop-class.class - 1) = omega arith in
    let next : c.loop-class.class + 1 - 1 ≡ c.loop-class.class - 1 + 1 = omega arith in
    tables_more c.args.texts.now.units c.args.texts.now.texts n (c.loop-class.class + 1 - 1) c.loop-class.class c.loop-class.tables c.add_class.new.tables c.loop-class.invariant is next
    c.in_ok-add_class.ensures.fields c.in_ok-add_class.ensures.methods c.in_ok-add_class.ensures.virtuals

pub returns : goal.returns
returns c =
    let all : c.loop-class.class - 1 ≡ length (classes_of c.args.texts.now.units) = omega (arith, class_count_is c.args.texts.now.units, ap length c.units.ensures) in
    subst (λ n. AreTables c.args.texts.now.units c.args.texts.now.texts n c.loop-class.tables) all c.loop-class.invariant
