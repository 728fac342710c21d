-- Fixed objects.
use Rattle.std.specs.Prelude.{◌==◌, ℕ, Option, None, Some, List, [], ◌∷◌, find, reverse, length, slice_get, unwrap_or}
use Rattle.op_core.specs.OrdinaryState.{Object}
use Rattle.fixed_objects.specs.declared.FixedObject.{FixedObject}

-- the object of the thread that executes main: priority 5, no target; it has started thread 1
abbrev pub main_thread_at : ℕ → ℕ → FixedObject
main_thread_at r c = record { reference = r; class = c; length = 0; words = 5 ∷ 0 ∷ 0 ∷ []; started = 1 }

-- the fixed object that a reference names: the last of those that have it
abbrev pub fixed_at : List FixedObject → ℕ → Option FixedObject
fixed_at objects r = find (λ o. r == o.reference) (reverse objects)

abbrev pub fixed_header : FixedObject → Object
fixed_header o = record { class = o.class; length = o.length; words = length o.words }

-- the words of a fixed object by place, 0 past the end and where there is none
abbrev pub fixed_word : Option FixedObject → ℕ → ℕ
fixed_word None i = 0
fixed_word (Some o) i = unwrap_or (slice_get o.words i) 0

-- the number of the thread that it has started, or 0
abbrev pub fixed_start : Option FixedObject → ℕ
fixed_start None = 0
fixed_start (Some o) = o.started
