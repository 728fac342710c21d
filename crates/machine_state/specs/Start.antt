-- The machine at the start of a program.
use Rattle.fixed_objects.specs.declared.FixedObject.{FixedObject}
use Rattle.fixed_objects.specs.declared.Opening.{Opening}
use Rattle.fixed_objects.specs.Opening.{opening_state}
use Rattle.machine_tables.specs.declared.objects.MonitorState.TheVariants.{Free}
use Rattle.machine_tables.specs.declared.objects.HeapObject.{HeapObject}
use Rattle.machine_state.specs.Machine.{Machine}

-- what the table holds of a fixed object
abbrev pub heap_object : FixedObject → HeapObject
heap_object o = record { class = o.class; length = o.length; words = o.words; monitor = Free; started = o.started }

-- the first thread is at l; no silent step was made, and no words were taken
abbrev pub start_of : {S : Type 0} → Opening → S → Machine S
start_of opening l = record {
  now = opening_state opening l;
  silents = λ _. 0;
  first = opening.first;
  taken = 0;
}
