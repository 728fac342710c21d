-- What the states of the code stand for.
use Rattle.assembler_bodies.specs.Marks.{marks_of}
use Rattle.class_make.specs.declared.state.OpenMethod as method
use Rattle.class_make.specs.declared.state.State as between
use Rattle.class_make.specs.declared.state.State.TheVariants as states
use Rattle.class_make.specs.Class.{OpenMethod, State, before_class, outside, inside}

abbrev pub method_of : method.OpenMethod → OpenMethod
method_of m = record {
  flags = m.flags;
  name = m.name;
  descriptor = m.descriptor;
  code_name = m.code_name;
  marks = marks_of m.labels;
  body = m.body;
}

abbrev pub state_of : between.State → State
state_of states.BeforeClass = before_class
state_of (states.Outside class) = outside class
state_of (states.Inside class m) = inside class (method_of m)
