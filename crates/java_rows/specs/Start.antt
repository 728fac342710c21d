-- What is there as a program begins.
use Rattle.std.specs.Prelude.{List, map}
use Rattle.std.specs.List.{range_with_len}
use Rattle.builtin_world.specs.declared.number.TheConstants.{COUNT}
use Rattle.code_decode.specs.declared.code.ClassUnit.{ClassUnit}
use Rattle.fixed_objects.specs.declared.FixedObject.{FixedObject}
use Rattle.fixed_objects.specs.declared.Opening.{Opening}
use Rattle.fixed_objects.specs.Opening.{opening_state}
use Rattle.link_types.specs.declared.operands.MethodId.{MethodId}
use Rattle.link_rules.specs.FixedObjects.{ObjectAtStart, objects_at_start, first_free, main_thread_object}
use Rattle.link_rules.specs.Names.{program_names, class_count}
use Rattle.op_core.specs.OrdinaryState.{OrdinaryState}
use Rattle.java_rows.specs.Thread.{Local, first_state}

abbrev pub fixed_object : ObjectAtStart → FixedObject
fixed_object o = record {
  reference = o.reference;
  class = o.class;
  length = o.length;
  words = o.words;
  started = o.started;
}

-- the fixed objects; the built-in classes need no initialization
abbrev pub opening_of : List ClassUnit → Opening
opening_of us = record {
  objects = map fixed_object (objects_at_start (program_names us) us);
  ready = range_with_len 1 COUNT;
  classes = class_count (program_names us);
  first = first_free (program_names us);
  main_thread = main_thread_object (program_names us);
}

-- the state in which a program begins, whose main method is this one
abbrev pub start_of_program : List ClassUnit → MethodId → OrdinaryState Local
start_of_program us main = opening_state (opening_of us) (first_state us main)
