use Rattle.std.proofs.Common.{lit<}
use Rattle.class_make.proofs.WritableLaws.{made_is_short, made_is_writable}
use Rattle.class_make.proofs.make.finish.Goals as goal

pub returns-clause-written : goal.returns-clause-written
returns-clause-written c = record {
  count = made_is_short _ _ c.into_entries.ensures.entries c.into_entries.ensures.made;
  constants = made_is_writable _ _ c.into_entries.ensures.entries c.into_entries.ensures.made;
  interfaces = c.class.invariant.0;
  fields = c.class.invariant.1;
  methods = c.class.invariant.2;
  attributes = rw c.new.ensures (lit< tt, tt);
}
