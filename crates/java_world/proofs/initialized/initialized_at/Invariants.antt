use Rattle.std.proofs.Common.{◌≡◌, ◌≤◌, ◌-◌, length, slice_get}
use Rattle.link_rules.specs.Classes.{classes_of}
use Rattle.java_rows.specs.Program.{initialized_with}
use Rattle.java_world.proofs.initialized.initialized_at.Given as goal

-- the class that is looked for lies as far above the one that is reached as there are steps left
abbrev pub invariant-loop : goal.invariant-loop
invariant-loop l = record {
  within : l.above ≤ length (classes_of l.world);
  rest : slice_get (initialized_with l.world l.class) l.place ≡ slice_get (initialized_with l.world l.above) (l.place - l.counter);
}
