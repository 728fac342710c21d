-- What is known of texts holds at the start of a program.
use Rattle.std.proofs.Common.{◌≡◌, inl, inr, ◌≤◌, ◌^◌, ℕ, Bool, true, false, Some, List, map, cond, nat_eq, refl, sym, ap, subst, ◌∙◌}
use Rattle.std.specs.Prelude.{unwrap_or, slice_get}
use Rattle.std.proofs.lemmas.Option.{same_Some}
use Rattle.builtin_world.specs.declared.number.TheConstants.{STRING}
use Rattle.builtin_world.specs.declared.word.TheConstants.{STRING_UNITS}
use Rattle.code_decode.specs.declared.code.ClassUnit.{ClassUnit}
use Rattle.fixed_objects.specs.declared.FixedObject.{FixedObject}
use Rattle.fixed_objects.specs.Fixed.{fixed_at, fixed_header, fixed_word}
use Rattle.link_types.specs.declared.operands.MethodId.{MethodId}
use Rattle.link_types.specs.declared.types.ObjectType.{ObjectType}
use Rattle.link_types.specs.declared.types.ElementType.TheVariants as elements
use Rattle.link_rules.specs.FixedObjects.{ObjectAtStart, class_object, first_free, objects_at_start}
use Rattle.link_rules.specs.Names.{program_names}
use Rattle.op_core.specs.OrdinaryState.{Object, live, unused}
use Rattle.java_rows.specs.Start.{fixed_object, start_of_program}
use Rattle.java_rows.specs.Thread.{Local, first_state}
use Rattle.row_soundness.specs.Accepted.{Accepted, IsMain}
use Rattle.row_soundness.specs.Fits.{anything}
use Rattle.row_soundness.specs.Knowledge.{Knows}
use Rattle.row_soundness.specs.Rows.{RowsFit}
use Rattle.row_soundness.specs.Runs.{fixed_of}
use Rattle.row_soundness.specs.ClassesFollow.{IsFixed}
use Rattle.row_soundness.proofs.FirstState.{first_fits}
use Rattle.program_soundness.specs.Soundness.{StateFits}
use Rattle.program_soundness.specs.SoundPrograms.{IsSound}
use Rattle.program_soundness.proofs.Methods.{from_map}
use Rattle.program_soundness.proofs.FixedFit.{arguments_fit, class_object_fits, main_thread_fits, out_fits}
use Rattle.program_soundness.proofs.FixedRows.{IsInRow, row_object}
use Rattle.program_soundness.proofs.Starts.{IsAtStart, a_class, the_out, the_thread, the_arguments, a_literal, is_at_start}
use Rattle.accepted_runs.specs.KnownTexts.{IsString, Seen, text_sense}
use Rattle.accepted_runs.specs.KeptTexts.{IsSeen, SeenLocal, seen_in}
use Rattle.accepted_runs.specs.Texts.{IsLiteral}
use Rattle.accepted_runs.proofs.sound_texts.StringClasses.{no_array, no_class_object, no_stream, no_thread}

-- no array is that of a text
abbrev no_text : ℕ → Bool
no_text r = false

not_one : (r : ℕ) → no_text r ≡ true → ⊥
not_one r e = not_true e
  where
    not_true : false ≡ true → ⊥
    not_true e = cc

module _ (us : List ClassUnit) (order : List ℕ) (sound : IsSound us order) (room : first_free (program_names us) ≤ 2 ^ 32) where
  -- a fixed object of a type that isn't a String's
  none : (r : ℕ) (x : Object) (t : ObjectType) (fixed : IsFixed us r t) → fixed_of us r ≡ Some x → (IsString us fixed.object.class ≡ true → ⊥) → IsString us x.class ≡ true → ⊥
  none r x t fixed e other string = other (subst (λ (o : Object). IsString us o.class ≡ true) (same_Some x fixed.object (sym e ∙ fixed.there)) string)

  -- each String that is there from the start is a literal, and has no array
  abbrev IsLiteralHere : ObjectAtStart → Type 0
  IsLiteralHere o = IsLiteral us o.reference × (unwrap_or (slice_get o.words STRING_UNITS) 0 ≡ 0)

  literal_known : (o : ObjectAtStart) (x : Object) → IsAtStart us o → fixed_of us o.reference ≡ Some x → IsString us x.class ≡ true → IsLiteralHere o
  literal_known o x (a_class c is same) e string =
      let fixed = class_object_fits us order sound room c is in
      absurd (none (class_object (program_names us) c) x _ fixed (subst (λ (y : ObjectAtStart). fixed_of us y.reference ≡ Some x) same e) (no_class_object us order sound fixed.object.class fixed.fits.class fixed.stands) string)
  literal_known o x (the_out same) e string =
      let fixed = out_fits us order sound room in
      absurd (none _ x _ fixed (subst (λ (y : ObjectAtStart). fixed_of us y.reference ≡ Some x) same e) (no_stream us order sound fixed.object.class fixed.fits.class fixed.stands) string)
  literal_known o x (the_thread same) e string =
      let fixed = main_thread_fits us order sound room in
      absurd (none _ x _ fixed (subst (λ (y : ObjectAtStart). fixed_of us y.reference ≡ Some x) same e) (no_thread us order sound fixed.object.class fixed.fits.class fixed.stands) string)
  literal_known o x (the_arguments same) e string =
      let fixed = arguments_fit us order sound room in
      absurd (none _ x _ fixed (subst (λ (y : ObjectAtStart). fixed_of us y.reference ≡ Some x) same e) (no_array us order sound fixed.object.class 1 (elements.Class STRING) fixed.stands) string)
  literal_known o x (a_literal n within same) e string = subst IsLiteralHere (sym same) ((n, within, refl), refl)

  literal_here : (r : ℕ) (x : Object) → fixed_of us r ≡ Some x → IsString us x.class ≡ true → IsLiteral us r × (fixed_word (fixed_at (map fixed_object (objects_at_start (program_names us) us)) r) STRING_UNITS ≡ 0)
  literal_here r x e string =
      let (f, found, same) = from_map fixed_header (fixed_at (map fixed_object (objects_at_start (program_names us) us)) r) x e in
      let row : IsInRow (objects_at_start (program_names us) us) r f = row_object (objects_at_start (program_names us) us) r f found in
      let here : IsLiteralHere row.object = literal_known row.object x (is_at_start us row.place row.object row.there) (ap (fixed_of us) (sym row.at) ∙ e) string in (
        subst (IsLiteral us) (sym row.at) here.0,
        subst (λ o. fixed_word o STRING_UNITS ≡ 0) (sym found) (subst (λ (g : FixedObject). unwrap_or (slice_get g.words STRING_UNITS) 0 ≡ 0) (sym row.same) here.1),
      )

  pub is_literal : (r : ℕ) (x : Object) → fixed_of us r ≡ Some x → IsString us x.class ≡ true → IsLiteral us r
  is_literal r x e string = (literal_here r x e string).0

  module _ (knows : Knows (text_sense us) us) (accepted : Accepted us) (rows : RowsFit (text_sense us) us) (main : MethodId) (is : IsMain us main) (fit : StateFits us (start_of_program us main)) where
    begun : (r : ℕ) (o : Object) → fixed_of us r ≡ Some o → no_text r ≡ true → ⊥
    begun r o there e = not_one r e

    abbrev first : Seen us
    first = seen_in us (start_of_program us main) no_text (λ r o e. e) begun

    first_local : SeenLocal us first anything (first_state us main)
    first_local = record { fits = first_fits (text_sense us) us knows accepted (λ me. rows) main is first; goes = λ x. x }

    one_thread : (t : ℕ) (l : Local) → cond (nat_eq t 1) (live (first_state us main)) unused ≡ live l → SeenLocal us first anything l
    one_thread t l e = by_number (nat_eq t 1) e
      where
        same : (a b : Local) → live a ≡ live b → a ≡ b
        same a b e = cc

        by_number : (b : Bool) → cond b (live (first_state us main)) unused ≡ live l → SeenLocal us first anything l
        by_number true is_live = subst (SeenLocal us first anything) (same (first_state us main) l is_live) first_local
        by_number false none = cc

    pub start_seen : IsSeen us (start_of_program us main)
    start_seen = record {
      fixed = λ r o e. e;
      texts = no_text;
      begun = begun;
      arrays = λ r e. absurd (not_one r e);
      strings = λ r o there string. inl (literal_here r o there string).1;
      literals = λ r o e string. (literal_here r o e string).1;
      words = λ r i o t at holds away. elim ((fit.words r i).1 o t at holds) [
        | inl null ↦ inl null
        | inr there ↦ inr (record { object = there.object; there = there.there; clear = not_one 0; text = λ string. inl there.there })
      ];
      preceding = λ t. anything;
      idle = λ t e. refl;
      threads = one_thread;
      making = λ t. tt;
      apart = λ t u ne. record { arrays = λ r e f. cc; strings = λ q e f. cc };
    }
