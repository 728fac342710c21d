-- What is known in executions holds at the start of a program.
use Rattle.std.proofs.Common.{◌≡◌, inl, inr, ◌≤◌, ◌^◌, ℕ, Bool, true, false, Some, List, map, cond, nat_eq, sym, ap, subst, ◌∙◌, arith}
use Rattle.std.specs.Prelude.{unwrap_or, slice_get}
use Rattle.std.proofs.lemmas.Option.{same_Some}
use Rattle.builtin_world.specs.declared.number.TheConstants.{STRING}
use Rattle.builtin_world.specs.declared.word.TheConstants.{THREAD_PRIORITY}
use Rattle.code_decode.specs.declared.code.ClassUnit.{ClassUnit}
use Rattle.fixed_objects.specs.declared.FixedObject.{FixedObject}
use Rattle.fixed_objects.specs.Fixed.{fixed_at, fixed_header, fixed_word}
use Rattle.link_types.specs.declared.operands.MethodId.{MethodId}
use Rattle.link_types.specs.declared.types.ObjectType.{ObjectType}
use Rattle.link_types.specs.declared.types.ElementType.TheVariants as elements
use Rattle.link_rules.specs.FixedObjects.{ObjectAtStart, class_object, first_free, objects_at_start}
use Rattle.link_rules.specs.Names.{program_names}
use Rattle.op_core.specs.OrdinaryState.{Object, live, unused}
use Rattle.java_rows.specs.Start.{fixed_object, start_of_program}
use Rattle.java_rows.specs.Thread.{Local, first_state}
use Rattle.row_soundness.specs.Accepted.{Accepted, IsMain}
use Rattle.row_soundness.specs.Fits.{anything}
use Rattle.row_soundness.specs.Knowledge.{Knows}
use Rattle.row_soundness.specs.Rows.{RowsFit}
use Rattle.row_soundness.specs.Runs.{IsThread, fixed_of}
use Rattle.row_soundness.specs.ClassesFollow.{IsFixed}
use Rattle.row_soundness.proofs.FirstState.{first_fits}
use Rattle.program_soundness.specs.Soundness.{StateFits}
use Rattle.program_soundness.specs.SoundPrograms.{IsSound}
use Rattle.program_soundness.proofs.Methods.{from_map}
use Rattle.program_soundness.proofs.FixedFit.{arguments_fit, class_object_fits, literal_fits, out_fits}
use Rattle.program_soundness.proofs.FixedRows.{IsInRow, row_object}
use Rattle.program_soundness.proofs.Starts.{IsAtStart, a_class, the_out, the_thread, the_arguments, a_literal, is_at_start}
use Rattle.program_soundness.specs.Seen.{IsPriority, IsSeen, Seen, SeenLocal, executions, seen_in}
use Rattle.program_soundness.proofs.ThreadClasses.{no_array, no_class_object, no_stream, no_string}

-- the priority of main's Thread
normal : IsPriority 5
normal = (omega arith, omega arith)

module _ (us : List ClassUnit) (order : List ℕ) (sound : IsSound us order) (room : first_free (program_names us) ≤ 2 ^ 32) where
  -- a fixed object of a type that isn't a Thread's
  no_thread : (r : ℕ) (x : Object) (t : ObjectType) (fixed : IsFixed us r t) → fixed_of us r ≡ Some x → (IsThread us fixed.object.class ≡ true → ⊥) → IsThread us x.class ≡ true → ⊥
  no_thread r x t fixed e none thread = none (subst (λ (o : Object). IsThread us o.class ≡ true) (same_Some x fixed.object (sym e ∙ fixed.there)) thread)

  -- the one Thread that is there from the start has the priority 5
  known_begun : (o : ObjectAtStart) (x : Object) → IsAtStart us o → fixed_of us o.reference ≡ Some x → IsThread us x.class ≡ true → IsPriority (unwrap_or (slice_get o.words THREAD_PRIORITY) 0)
  known_begun o x (a_class c is same) e thread =
      let fixed = class_object_fits us order sound room c is in
      absurd (no_thread (class_object (program_names us) c) x _ fixed (subst (λ (y : ObjectAtStart). fixed_of us y.reference ≡ Some x) same e) (no_class_object us order sound fixed.object.class fixed.fits.class fixed.stands) thread)
  known_begun o x (the_out same) e thread =
      let fixed = out_fits us order sound room in
      absurd (no_thread _ x _ fixed (subst (λ (y : ObjectAtStart). fixed_of us y.reference ≡ Some x) same e) (no_stream us order sound fixed.object.class fixed.fits.class fixed.stands) thread)
  known_begun o x (the_thread same) e thread = subst (λ (y : ObjectAtStart). IsPriority (unwrap_or (slice_get y.words THREAD_PRIORITY) 0)) (sym same) normal
  known_begun o x (the_arguments same) e thread =
      let fixed = arguments_fit us order sound room in
      absurd (no_thread _ x _ fixed (subst (λ (y : ObjectAtStart). fixed_of us y.reference ≡ Some x) same e) (no_array us order sound fixed.object.class 1 (elements.Class STRING) fixed.stands) thread)
  known_begun o x (a_literal n within same) e thread =
      let fixed = literal_fits us order sound room n within in
      absurd (no_thread _ x _ fixed (subst (λ (y : ObjectAtStart). fixed_of us y.reference ≡ Some x) same e) (no_string us order sound fixed.object.class fixed.fits.class fixed.stands) thread)

  begun : (r : ℕ) (x : Object) → fixed_of us r ≡ Some x → IsThread us x.class ≡ true → IsPriority (fixed_word (fixed_at (map fixed_object (objects_at_start (program_names us) us)) r) THREAD_PRIORITY)
  begun r x e thread =
      let (f, found, same) = from_map fixed_header (fixed_at (map fixed_object (objects_at_start (program_names us) us)) r) x e in
      let row : IsInRow (objects_at_start (program_names us) us) r f = row_object (objects_at_start (program_names us) us) r f found in
      subst (λ o. IsPriority (fixed_word o THREAD_PRIORITY)) (sym found)
      (subst (λ (g : FixedObject). IsPriority (unwrap_or (slice_get g.words THREAD_PRIORITY) 0)) (sym row.same)
      (known_begun row.object x (is_at_start us row.place row.object row.there) (ap (fixed_of us) (sym row.at) ∙ e) thread))

  module _ (knows : Knows (executions us) us) (accepted : Accepted us) (rows : RowsFit (executions us) us) (main : MethodId) (is : IsMain us main) (fit : StateFits us (start_of_program us main)) where
    abbrev first : Seen us
    first = seen_in us (start_of_program us main) (λ r o e. e) begun

    first_local : SeenLocal us first (first_state us main)
    first_local = record { preceding = anything; fits = first_fits (executions us) us knows accepted (λ me. rows) main is first; goes = λ x. x }

    one_thread : (t : ℕ) (l : Local) → cond (nat_eq t 1) (live (first_state us main)) unused ≡ live l → SeenLocal us first l
    one_thread t l e = by_number (nat_eq t 1) e
      where
        same : (a b : Local) → live a ≡ live b → a ≡ b
        same a b e = cc

        by_number : (b : Bool) → cond b (live (first_state us main)) unused ≡ live l → SeenLocal us first l
        by_number true is_live = subst (SeenLocal us first) (same (first_state us main) l is_live) first_local
        by_number false none = cc

    pub start_seen : IsSeen us (start_of_program us main)
    start_seen = record {
      fixed = λ r o e. e;
      begun = begun;
      words = λ r i o t at holds. elim ((fit.words r i).1 o t at holds) [
        | inl null ↦ inl null
        | inr there ↦ inr (record { object = there.object; there = there.there; set = λ thread. begun _ there.object there.there thread })
      ];
      threads = one_thread;
    }
