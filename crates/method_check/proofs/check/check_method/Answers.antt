use Rattle.std.proofs.Common.{map, sym, ap, ◌∙◌}
use Rattle.type_rules.specs.Environments.{typed_handler}
use Rattle.type_rules.specs.MapFrames.{item_type}
use Rattle.method_check.proofs.check.check_method.Goals as goal

pub new-requires-2-clause-walked : goal.new-requires-2-clause-walked
new-requires-2-clause-walked g c =
    let env = g.W.MethodWorld.environment c.args.world.now in
    let operands = g.P.PoolOperands.operands c.args.pool.now in
    let entry = c.args.entry.now in
    let is = c.requires.method in
    let follows = c.in_ok-maps.ensures.follows in
    record {
      begins = is.begins;
      steps = is.steps;
      handlers = record {
        handlers = is.handlers ∙ ap (map (typed_handler operands)) (sym c.as_slice.ensures);
        made = record {
          item = item_type operands entry.words.items;
          constructs = entry.constructs;
          values = entry.values.items;
          are = c.in_ok-maps.ensures.made;
        };
        maps = is.maps;
      };
      arrays = is.arrays;
      room = record {
        locals = is.begins.max_locals ∙ sym (follows.locals.most ∙ c.new-stores.ensures.locals);
        stacks = is.begins.max_stack ∙ sym (follows.stacks.most ∙ c.new-stores.ensures.stacks);
        remembered = c.in_ok-maps.ensures.remembered env.hierarchy (c.new-stores.ensures.remembered env.hierarchy);
      };
    }
