-- The start of a program, from the tables.
use Rattle.std.proofs.Common.{◌≡◌, ℕ, ◌+◌, ◌<◌, ◌||◌, Bool, true, false, cond, Option, None, Some, List, [], ◌∷◌, ◌++◌, length, take, get_or, reverse, find, nat_eq, refl, sym, ◌∙◌, ap, add-one}
use Rattle.std.proofs.Math.Path.{fun_ext}
use Rattle.std.proofs.Math.Seq.{take-suc}
use Rattle.std.proofs.lemmas.List.{reverse-append}
use Rattle.std.proofs.lemmas.List.Folds.{list_any-append}
use Rattle.std.specs.List.{list_any}
use Rattle.std.specs.Option.{option_map}
use Rattle.op_core.specs.OrdinaryState.{set_at, free, awake, ClassState, unready, ready, unused, live}
use Rattle.op_core.proofs.PointwiseLemmas.{set_at-same}
use Rattle.machine_tables.specs.declared.objects.HeapObject.{HeapObject}
use Rattle.machine_tables.specs.declared.threads.WaitState.TheVariants.{Awake}
use Rattle.machine_tables.specs.declared.threads.Standing.TheVariants.{Live}
use Rattle.machine_tables.specs.declared.threads.Seat.{Seat}
use Rattle.machine_state.specs.declared.state.MachineState.{MachineState}
use Rattle.fixed_objects.specs.declared.FixedObject.{FixedObject}
use Rattle.machine_tables.specs.Tables.{header_of, monitor_in, started_in, word_in, objects_in, words_in, monitors_in, starts_in, classes_in, object_at, seat_at}
use Rattle.machine_state.specs.Machine.{machine_in}
use Rattle.fixed_objects.specs.declared.Opening.{Opening}
use Rattle.fixed_objects.specs.Fixed.{fixed_at, fixed_header, fixed_word, fixed_start}
use Rattle.fixed_objects.specs.Opening.{class_at_start}
use Rattle.machine_state.specs.Start.{heap_object, start_of}
use Rattle.machine_state.proofs.ChangeLemmas.{Parts, ThreadParts, thread_begun}

cond-ap : {A B : Type 0} (P : A → B) (b : Bool) (x y : A) → P (cond b x y) ≡ cond b (P x) (P y)
cond-ap P true x y = refl
cond-ap P false x y = refl

-- one fixed object more
fixed-more : (objects : List FixedObject) (i : ℕ) (o : FixedObject) → i < length objects
    → (λ r. option_map heap_object (fixed_at (take (i + 1) objects) r))
    ≡ set_at (λ r. option_map heap_object (fixed_at (take i objects) r)) (get_or objects i o).reference (Some (heap_object (get_or objects i o)))
fixed-more objects i o inside =
    let x = get_or objects i o in
    let more : reverse (take (i + 1) objects) ≡ x ∷ reverse (take i objects) =
    ap (λ k. reverse (take k objects)) (add-one i) ∙ ap reverse (take-suc objects i o inside) ∙ reverse-append (take i objects) (x ∷ []) in
    fun_ext (λ r. ap (λ xs. option_map heap_object (find (λ y. nat_eq r y.reference) xs)) more
    ∙ cond-ap (option_map heap_object) (nat_eq r x.reference) (Some x) (fixed_at (take i objects) r))

pub fixed_next : (objects : List FixedObject) (i : ℕ) (o : FixedObject) (f g : ℕ → Option HeapObject) → i < length objects
    → f ≡ (λ r. option_map heap_object (fixed_at (take i objects) r))
    → g ≡ set_at f (get_or objects i o).reference (Some (heap_object (get_or objects i o)))
    → g ≡ (λ r. option_map heap_object (fixed_at (take (i + 1) objects) r))
fixed_next objects i o f g inside before is =
    let x = get_or objects i o in
    is ∙ ap (λ h. set_at h x.reference (Some (heap_object x))) before ∙ sym (fixed-more objects i o inside)

-- one ready class more
listed : (a b : Bool) → cond (a || (b || false)) ready unready ≡ cond b ready (cond a ready unready)
listed true true = refl
listed true false = refl
listed false true = refl
listed false false = refl

pub ready_next : (classes : List ℕ) (i c : ℕ) (f g : ℕ → ClassState) → i < length classes
    → f ≡ class_at_start (take i classes) → g ≡ set_at f (get_or classes i c) ready → g ≡ class_at_start (take (i + 1) classes)
ready_next classes i c f g inside before is =
    let x = get_or classes i c in
    let more : take (i + 1) classes ≡ take i classes ++ x ∷ [] = ap (λ k. take k classes) (add-one i) ∙ take-suc classes i c inside in
    is ∙ ap (λ h. set_at h x ready) before
    ∙ fun_ext (λ k. sym (ap (λ xs. class_at_start xs k) more
    ∙ ap (λ b. cond b ready unready) (list_any-append (λ d. nat_eq k d) (take i classes) (x ∷ []))
    ∙ listed (list_any (λ d. nat_eq k d) (take i classes)) (nat_eq k x)))

-- the parts of the fixed objects
header-fixed : (o : Option FixedObject) → option_map header_of (option_map heap_object o) ≡ option_map fixed_header o
header-fixed None = refl
header-fixed (Some o) = refl

word-fixed : (o : Option FixedObject) → word_in (option_map heap_object o) ≡ fixed_word o
word-fixed None = refl
word-fixed (Some o) = refl

monitor-fixed : (o : Option FixedObject) → monitor_in (option_map heap_object o) ≡ free
monitor-fixed None = refl
monitor-fixed (Some o) = refl

started-fixed : (o : Option FixedObject) → started_in (option_map heap_object o) ≡ fixed_start o
started-fixed None = refl
started-fixed (Some o) = refl

fixed_parts : (objects : List FixedObject) (f : ℕ → Option HeapObject) → f ≡ (λ r. option_map heap_object (fixed_at objects r))
    → Parts f (λ r. option_map fixed_header (fixed_at objects r)) (λ r. fixed_word (fixed_at objects r)) (λ _. free) (λ r. fixed_start (fixed_at objects r))
fixed_parts objects f is = record {
  objects = ap objects_in is ∙ fun_ext (λ r. header-fixed (fixed_at objects r));
  words = ap words_in is ∙ fun_ext (λ r. word-fixed (fixed_at objects r));
  monitors = ap monitors_in is ∙ fun_ext (λ r. monitor-fixed (fixed_at objects r));
  starts = ap starts_in is ∙ fun_ext (λ r. started-fixed (fixed_at objects r));
}

-- one thread in an empty table
one_thread : {C S : Type 0} (state : C → S) (f : ℕ → Option (Seat C)) (code : C)
    → f ≡ set_at (λ _. None) 1 (Some (record { standing = Live code; waiting = Awake; silent = 0 }))
    → ThreadParts state f (set_at (λ _. unused) 1 (live (state code))) (λ _. awake) (λ _. 0)
one_thread {C} {S} state f code is =
    let none : ℕ → Option (Seat C) = λ _. None in
    let parts = thread_begun state none f 1 code refl is in
    record { threads = parts.threads; waiting = parts.waiting; silents = parts.silents ∙ set_at-same (λ _. 0) 1 0 refl }

pub started : {C S : Type 0} (state : C → S) (m : MachineState C) (opening : Opening) (code : C)
    → object_at m.objects ≡ (λ r. option_map heap_object (fixed_at opening.objects r)) → classes_in m.classes ≡ class_at_start opening.ready
    → seat_at m.threads ≡ set_at (λ _. None) 1 (Some (record { standing = Live code; waiting = Awake; silent = 0 }))
    → m.lines ≡ [] → m.first ≡ opening.first → m.taken ≡ 0
    → machine_in state m ≡ start_of opening (state code)
started state m opening code fixed ready_ones thread lines first taken =
    let parts = fixed_parts opening.objects (object_at m.objects) fixed in
    let threads = one_thread state (seat_at m.threads) code thread in
    λ i. record {
      now = record {
        objects = parts.objects i;
        words = parts.words i;
        monitors = parts.monitors i;
        waiting = threads.waiting i;
        classes = ready_ones i;
        starts = parts.starts i;
        threads = threads.threads i;
        lines = lines i;
      };
      silents = threads.silents i;
      first = first i;
      taken = taken i;
    }
