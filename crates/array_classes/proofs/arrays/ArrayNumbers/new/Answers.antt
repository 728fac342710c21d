use Rattle.std.proofs.Common.{◌≡◌, length, sym, subst, ap, arith}
use Rattle.link_rules.proofs.Numbers.{class_count_is}
use Rattle.link_rules.proofs.Named.{one_number}
use Rattle.array_uses.specs.Most.{IsMost, program_arrays}
use Rattle.array_classes.proofs.ClassNames.{classes_named}
use Rattle.array_classes.proofs.Few.{bases_few}
use Rattle.array_classes.proofs.Known.{how_many, few_names}
use Rattle.array_classes.proofs.arrays.ArrayNumbers.new.Goals as goal

pub new-requires-2 : goal.new-requires-2
new-requires-2 c =
    let us = c.args.supers.now in
    let few = bases_few us c.in_ok-order.order c.in_ok-order.ensures in
    let classes = class_count_is us in
    let count = c.in_ok-most.ensures.count in
    let many : length c.deref.result.now ≡ length c.in_ok-most.most.items = ap length c.deref.ensures.value in
    let units = c.requires.few in
    omega (arith, few, classes, count, many, units)

pub overflow_add-count : goal.overflow_add-count
overflow_add-count c =
    let us = c.args.supers.now in
    let most = c.deref.result.now in
    let is : IsMost c.args.supers.now c.in_ok-order.order (program_arrays c.args.supers.now) c.deref.result.now = subst (IsMost c.args.supers.now c.in_ok-order.order (program_arrays c.args.supers.now)) (sym c.deref.ensures.value) c.in_ok-most.ensures in
    let few = bases_few us c.in_ok-order.order c.in_ok-order.ensures in
    let classes = class_count_is us in
    let count = is.count in
    let units = c.requires.few in
    let files : length c.units.result.now ≡ length c.args.supers.now = ap length c.units.ensures in
    let arrays = how_many us c.in_ok-order.order most c.in_ok-order.ensures is in
    let bound = few_names us c.in_ok-order.order most c.in_ok-order.ensures is in
    let table = c.count.ensures most c.in_ok-table.ensures in
    omega (arith, few, classes, count, units, files, arrays, bound, table)

pub returns : goal.returns
returns c =
    let us = c.args.supers.now in
    let most = c.deref.result.now in
    let is : IsMost c.args.supers.now c.in_ok-order.order (program_arrays c.args.supers.now) c.deref.result.now = subst (IsMost c.args.supers.now c.in_ok-order.order (program_arrays c.args.supers.now)) (sym c.deref.ensures.value) c.in_ok-most.ensures in
    let few = bases_few us c.in_ok-order.order c.in_ok-order.ensures in
    let classes = class_count_is us in
    let count = is.count in
    let units = c.requires.few in
    let files : length c.units.result.now ≡ length c.args.supers.now = ap length c.units.ensures in
    let table = c.count.ensures most c.in_ok-table.ensures in
    let how = c.in_ok-table.ensures.how_many in
    record {
      order_is = c.in_ok-order.ensures;
      most = c.deref.result.now;
      most_is = is;
      table_is = c.in_ok-table.ensures;
      few = omega (arith, few, classes, count, units);
      small = omega (arith, classes, units);
      first_is = omega (arith, classes, files);
      count_is = omega (arith, table, how);
      names = one_number us c.requires.linked;
      named = classes_named us c.requires.decoded;
    }
