-- A line of a text that a program made names an array of chars, which stays.
use Rattle.std.proofs.Common.{◌≡◌, inl, inr, ℕ, ◌<◌, Some, List, [], ◌∷◌, Contains, refl, sym, ◌∙◌, ap, subst, arith}
use Rattle.std.proofs.lemmas.List.Elements.{Contains-append_cases, Contains-push_cases}
use Rattle.builtin_world.specs.declared.word.TheConstants.{STRING_UNITS}
use Rattle.code_decode.specs.declared.code.ClassUnit.{ClassUnit}
use Rattle.link_types.specs.declared.operands.MethodId.{MethodId}
use Rattle.op_core.specs.declared.Event.{Event}
use Rattle.op_core.specs.declared.Line.{Line}
use Rattle.op_core.specs.declared.Line.TheVariants as lines
use Rattle.op_core.specs.declared.Op.{Op}
use Rattle.op_core.specs.declared.Op.TheVariants.{Print}
use Rattle.op_core.specs.declared.Next.TheVariants.{Want}
use Rattle.op_core.specs.ThreadCode.{Code, quiet_steps}
use Rattle.op_core.specs.OrdinaryState.{OrdinaryState, live}
use Rattle.op_core.specs.OrdinaryStep.{after}
use Rattle.op_core.specs.Execution.{Leads, IsReached, line_of, printed}
use Rattle.java_rows.specs.Start.{start_of_program}
use Rattle.java_rows.specs.Thread.{Local, java_code}
use Rattle.row_soundness.specs.Runs.{HasObject, IsThread, of_units}
use Rattle.row_soundness.specs.Texts.{char_array}
use Rattle.program_soundness.specs.SoundPrograms.{IsSound}
use Rattle.program_soundness.specs.Soundness.{StateFits}
use Rattle.program_soundness.specs.Starts.{RunsFit}
use Rattle.accepted_runs.specs.Texts.{TextsStay, IsArrayOfOne}
use Rattle.core_law.specs.Arrays.{IsArrayAt}
use Rattle.accepted_runs.specs.Printed.{PrintedLinesNameArrays}
use Rattle.accepted_runs.proofs.CharArrays.{chars_have_a_word_each, no_thread}

-- ---- the place of an execution at which a line is printed

record PrintsAt {S : Type 0} (code : Code S) (s last : OrdinaryState S) (x : Line) : Type 0 where
  state : OrdinaryState S
  earlier : List Event
  reached : Leads code s earlier state
  later : List Event
  leads : Leads code state later last
  thread : ℕ
  silent : ℕ
  from : S
  at_op : S
  begun : state.threads thread ≡ live from
  quiet : quiet_steps code silent from ≡ Some at_op
  wants : code.next at_op ≡ Want (Print x)

none_there : {X A : Type 0} (x : X) → Contains [] x → A
none_there x has = let low : has.0 < 0 = has.1 in absurd (omega (arith, low))

printed_by : (op : Op) (x : Line) → Contains (line_of op) x → op ≡ Print x
printed_by (Print y) x has = elim (Contains-push_cases [] y x has) [ inl none ↦ none_there x none | inr same ↦ ap Print same ]
printed_by op x has = none_there x has

prints_at : {S : Type 0} (code : Code S) (s last : OrdinaryState S) (es : List Event) → Leads code s es last → (x : Line) → Contains (printed es) x → PrintsAt code s last x
prints_at code s last [] leads x has = none_there x has
prints_at code s last (e ∷ es) leads x has = elim (Contains-append_cases (line_of e.op) (printed es) x has) [
  | inl here ↦
      record {
        state = s;
        earlier = [];
        reached = refl;
        later = e ∷ es;
        leads = leads;
        thread = e.thread;
        silent = e.silent;
        from = leads.1.from;
        at_op = leads.0;
        begun = leads.1.begun;
        quiet = leads.1.quiet;
        wants = leads.1.step.wanted ∙ ap Want (printed_by e.op x here);
      }
  | inr more ↦
      let found = prints_at code (after code s e.thread leads.0 e.op e.reply) last es leads.2 x more in
      record {
        state = found.state;
        earlier = e ∷ found.earlier;
        reached = (leads.0, leads.1, found.reached);
        later = found.later;
        leads = found.leads;
        thread = found.thread;
        silent = found.silent;
        from = found.from;
        at_op = found.at_op;
        begun = found.begun;
        quiet = found.quiet;
        wants = found.wants;
      }
]

-- ---- the array that it names

module _ (us : List ClassUnit) (order : List ℕ) (sound : IsSound us order) (main : MethodId) (fit : RunsFit us (start_of_program us main)) (stay : TextsStay us (start_of_program us main)) where
  -- the array of a String that has one is an array of chars
  char_array_there : (s : OrdinaryState Local) → StateFits us s → (a : ℕ) → IsArrayOfOne us s a → HasObject us s.objects a char_array
  char_array_there s kept a named =
      elim ((kept.words named.string STRING_UNITS).1 named.there.object char_array named.there.there (of_units named.there.class)) [
        | inl none ↦ absurd (named.some (sym named.array ∙ none))
        | inr has ↦ subst (λ r. HasObject us s.objects r char_array) named.array has
      ]

  array_left : (s last : OrdinaryState Local) (later : List Event) → IsReached java_code (start_of_program us main) s → Leads java_code s later last → (a : ℕ) → IsArrayOfOne us s a → IsArrayAt (IsThread us) last.objects a
  array_left s last later reached leads a named =
      let has = char_array_there s (fit.reached s reached) a named in
      let same = stay.stay s last later named.string reached leads named.there (λ none. named.some (sym named.array ∙ none)) in
      record {
        object = has.object;
        there = subst (λ r. last.objects r ≡ Some has.object) named.array (same.header has.object (subst (λ r. s.objects r ≡ Some has.object) (sym named.array) has.there));
        words = chars_have_a_word_each us a has.object has.fits has.stands;
        other = no_thread us order sound has.object.class has.stands;
      }

  pub lines_name_arrays : PrintedLinesNameArrays us (start_of_program us main)
  lines_name_arrays last es leads a has =
      let at = prints_at java_code (start_of_program us main) last es leads (lines.Made a) has in
      array_left at.state last at.later (at.earlier, at.reached) at.leads a
      (stay.printed at.state at.thread at.silent at.from at.at_op a (at.earlier, at.reached) at.begun at.quiet at.wants)
