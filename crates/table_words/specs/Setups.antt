-- Programs as they begin.
use Rattle.op_core.specs.declared.Limits.{Limits}
use Rattle.fixed_objects.specs.declared.Opening.{Opening}
use Rattle.heap_words.specs.declared.areas.Areas.{Areas}
use Rattle.plain_words.specs.Opening.{areas_of, opening_words}
use Rattle.step_port.specs.Words.{Words}
use Rattle.thread_automaton.specs.declared.Bounds.{Bounds}
use Rattle.core_runs.specs.declared.Birth.{Birth}
use Rattle.table_words.specs.declared.setup.Setup.{Setup}
use Rattle.table_words.specs.declared.setup.TableKey.{TableKey}

module _ {C : Type 0} where
  abbrev pub setup : Opening → Limits → C → Setup C
  setup opening limits code = record { opening = opening; limits = limits; code = code }

  -- what the key of a table says
  abbrev pub setup_of : TableKey C → Setup C
  setup_of key = setup key.opening.value key.limits key.code.value

  abbrev pub setup_bounds : Setup C → Bounds
  setup_bounds k = record { limits = k.limits; first = k.opening.first }

  abbrev pub setup_areas : Setup C → Areas
  setup_areas k = areas_of k.opening k.limits

  abbrev pub setup_words : Setup C → Words
  setup_words k = opening_words k.opening

  -- the first thread has number 1 and priority 5
  abbrev pub first_birth : Setup C → Birth
  first_birth k = record { number = 1; object = k.opening.main_thread; priority = 5 }
