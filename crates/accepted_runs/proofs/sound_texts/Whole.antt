-- Texts in executions of a sound program.
use Rattle.std.proofs.Common.{◌≡◌, ◌≢◌, ◌⊎◌, inl, inr, ◌≤◌, ◌^◌, ℕ, Option, None, Some, List, [], ◌∷◌, refl, sym, ap, subst, ◌∙◌}
use Rattle.builtin_world.specs.declared.word.TheConstants.{STRING_UNITS}
use Rattle.code_decode.specs.declared.code.ClassUnit.{ClassUnit}
use Rattle.link_types.specs.declared.operands.MethodId.{MethodId}
use Rattle.builtin_world.specs.declared.number.TheConstants.{STRING}
use Rattle.link_types.specs.declared.types.ObjectType.TheVariants.{Class}
use Rattle.link_rules.specs.FixedObjects.{first_free, string_object}
use Rattle.link_rules.specs.Names.{program_names}
use Rattle.op_core.specs.declared.Event.{Event}
use Rattle.op_core.specs.declared.Op.{Op}
use Rattle.op_core.specs.declared.Op.TheVariants.{Read, Write, New, Print}
use Rattle.op_core.specs.declared.Line.TheVariants as lines
use Rattle.op_core.specs.declared.Reply.{Reply}
use Rattle.op_core.specs.declared.Next.TheVariants.{Want}
use Rattle.op_core.specs.Execution.{Comes, Leads}
use Rattle.op_core.specs.OrdinaryState.{Object, OrdinaryState, live}
use Rattle.op_core.specs.OrdinaryStep.{MayAnswer, after}
use Rattle.op_core.specs.ThreadCode.{quiet_steps}
use Rattle.java_rows.specs.Plan.{Plan, want}
use Rattle.java_rows.specs.Texts.{reads_text}
use Rattle.java_rows.specs.Start.{start_of_program}
use Rattle.text_stages.specs.Reading.{Memory, followed, followed_op}
use Rattle.program_soundness.proofs.StepFacts.{objects_stay}
use Rattle.java_rows.specs.Thread.{Local, java_code}
use Rattle.row_soundness.specs.Senses.{Making, filling, naming}
use Rattle.row_soundness.specs.Fits.{PlanFits, following, making_of}
use Rattle.row_soundness.specs.Accepted.{Accepted}
use Rattle.row_soundness.specs.Knowledge.{Knows}
use Rattle.row_soundness.specs.Rows.{RowsFit}
use Rattle.row_soundness.specs.Runs.{fixed_of}
use Rattle.row_soundness.specs.ClassesFollow.{ClassesFollow, IsFixed}
use Rattle.row_soundness.proofs.RunsKnow.{runs_know}
use Rattle.row_soundness.proofs.RowsTogether.{rows_fit}
use Rattle.program_soundness.specs.Soundness.{HasRoom, StateFits}
use Rattle.program_soundness.proofs.SoundnessLaws as java
use Rattle.program_soundness.specs.SoundPrograms.{IsSound}
use Rattle.program_soundness.proofs.AcceptedPrograms.{accepted}
use Rattle.program_soundness.specs.Programs.{IsMainMethod}
use Rattle.program_soundness.proofs.Programs.{main_begins}
use Rattle.program_soundness.proofs.ThreadLaws.{programs_have_room}
use Rattle.program_soundness.proofs.ObjectLaws.{classes_follow}
use Rattle.program_soundness.proofs.Starts.{starts_fit}
use Rattle.accepted_runs.specs.KnownTexts.{BeginsText, IsNamed, KeepsTexts, Seen, TextSteps, text_sense}
use Rattle.accepted_runs.specs.KeptTexts.{IsArray, IsSeen, SeenLocal, seen_in}
use Rattle.accepted_runs.specs.Texts.{HasSameText, IsArrayOfOne, IsLiteral, IsStringAt, ReadsText, TextsStay, array_in, memory_of, text_of}
use Rattle.accepted_runs.proofs.sound_texts.Changes.{word_stays}
use Rattle.accepted_runs.proofs.sound_texts.StringClasses.{is_string}
use Rattle.accepted_runs.proofs.sound_texts.Values.{both_same, literal_text_same, made_text_same, replies_same}
use Rattle.accepted_runs.proofs.sound_texts.TextsKnow.{texts_know}
use Rattle.accepted_runs.proofs.sound_texts.StepsTexts.{come, plan_wants, quiet_local, step_seen}
use Rattle.accepted_runs.proofs.sound_texts.Readings.{followed_next, part_wanted}
use Rattle.accepted_runs.proofs.sound_texts.StartsTexts.{is_literal, start_seen}

module _ (us : List ClassUnit) (order : List ℕ) (sound : IsSound us order) (room : first_free (program_names us) ≤ 2 ^ 32) where
  accepts : Accepted us
  accepts = accepted us order sound

  has_room : HasRoom us
  has_room = programs_have_room us order sound room

  follow : ClassesFollow us
  follow = classes_follow us order sound room

  knows : Knows (text_sense us) us
  knows = texts_know us (runs_know us follow) follow order sound

  rows : RowsFit (text_sense us) us
  rows = rows_fit (text_sense us) us knows accepts

  module _ (s : OrdinaryState Local) (seen : IsSeen us s) where
    abbrev now : Seen us
    now = seen_in us s seen.texts seen.fixed seen.begun

    -- after silent steps
    quiet : (t n : ℕ) (from l : Local) → s.threads t ≡ live from → quiet_steps java_code n from ≡ Some l → SeenLocal us now (seen.preceding t) l
    quiet t n from l begun steps = quiet_local us order sound follow knows accepts rows now (seen.preceding t) n from l (seen.threads t from begun) steps

    -- what a thread wants that isn't a step of a text in the making
    keeps : (t n : ℕ) (from l : Local) (op : Op) → s.threads t ≡ live from → quiet_steps java_code n from ≡ Some l → java_code.next l ≡ Want op → ((c k : ℕ) → op ≡ New c k → ⊥) → ((r i v : ℕ) → op ≡ Write r i v → ⊥) → KeepsTexts us now op
    keeps t n from l op begun steps e no_new no_write = by_making (making_of (seen.preceding t)) (subst (λ x. PlanFits (text_sense us) us own.fits.res (seen.preceding t) x now) (plan_wants l.plan op e).1 own.fits.plan).1
      where
        own : SeenLocal us now (seen.preceding t) l
        own = quiet t n from l begun steps

        no_text : (op : Op) (next : Option Making → Seen us → Reply → Type 0) → ((c k : ℕ) → op ≡ New c k → ⊥) → ((r i v : ℕ) → op ≡ Write r i v → ⊥) → (m : Making) → TextSteps us (Some m) now op next → ⊥
        no_text (New c k) next no_new no_write m steps = no_new c k refl
        no_text (Write r i v) next no_new no_write m steps = no_write r i v refl
        no_text op next no_new no_write (filling x) steps = steps
        no_text op next no_new no_write (naming x q) steps = steps

        no_begin : (op : Op) (next : Option Making → Seen us → Reply → Type 0) → ((c k : ℕ) → op ≡ New c k → ⊥) → BeginsText us now op next → ⊥
        no_begin (New c k) next no_new begins = no_new c k refl
        no_begin op next no_new begins = begins

        by_making : (m : Option Making) → TextSteps us m now op (λ m h' reply. PlanFits (text_sense us) us own.fits.res (following op reply m) ((plan_wants l.plan op e).0 reply) h') → KeepsTexts us now op
        by_making None (inl (wants, on)) = wants.1
        by_making None (inr begins) = absurd (no_begin op _ no_new begins)
        by_making (Some m) steps = absurd (no_text op _ no_new no_write m steps)

    -- the text of a String is read where it has one
    read_there : (t n : ℕ) (from l : Local) (r : ℕ) → s.threads t ≡ live from → quiet_steps java_code n from ≡ Some l → java_code.next l ≡ Want (Read r STRING_UNITS) → IsStringAt us s r → IsLiteral us r ⊎ (array_in s r ≢ 0)
    read_there t n from l r begun steps e string =
        elim (keeps t n from l (Read r STRING_UNITS) begun steps e (λ c k same. cc) (λ q i v same. cc) string.object string.there string.class refl) [
          | inl fixed ↦ inl (is_literal us order sound room r string.object fixed string.class)
          | inr some ↦ inr some
        ]

    -- and a line names the array of a String
    printed_there : (t n : ℕ) (from l : Local) (a : ℕ) → s.threads t ≡ live from → quiet_steps java_code n from ≡ Some l → java_code.next l ≡ Want (Print (lines.Made a)) → IsArrayOfOne us s a
    printed_there t n from l a begun steps e =
        let is : IsNamed us now a = keeps t n from l (Print (lines.Made a)) begun steps e (λ c k same. cc) (λ q i v same. cc) in
        record { string = is.string; there = record { object = is.object; there = is.there; class = is.class }; array = is.array; some = is.some }

    module _ (kept : StateFits us s) (e : Event) (l : Local) (comes : Comes java_code s e l) where
      abbrev after_it : OrdinaryState Local
      after_it = after java_code s e.thread l e.op e.reply

      next_kept : StateFits us after_it
      next_kept = java.executions us accepts has_room follow s after_it kept (e ∷ [], (l, comes, refl))

      own : SeenLocal us now (seen.preceding e.thread) l
      own = quiet e.thread e.silent comes.from l comes.begun comes.quiet

      next_seen : IsSeen us after_it
      next_seen = step_seen us order sound follow knows accepts rows s kept seen e.thread l e.op e.reply own comes.step next_kept

      next_string : (r : ℕ) → IsStringAt us s r → IsStringAt us after_it r
      next_string r is =
          let out = come us order sound follow knows accepts rows s kept seen e.thread l e.op e.reply own comes.step next_kept in
          record { object = is.object; there = out.changes.grow r is.object is.there; class = is.class }

      next_same : (r : ℕ) → IsStringAt us s r → array_in s r ≢ 0 → HasSameText s after_it r
      next_same r is some =
          let out = come us order sound follow knows accepts rows s kept seen e.thread l e.op e.reply own comes.step next_kept in
          record {
            array = word_stays us s after_it kept seen e.thread out.texts out.changes r is.object is.there is.class some;
            header = λ o at. out.changes.grow (array_in s r) o at;
            units = λ i. out.changes.units r i is.object is.there is.class some;
          }

  reached_seen : (s last : OrdinaryState Local) (es : List Event) → StateFits us s → IsSeen us s → Leads java_code s es last → StateFits us last × IsSeen us last
  reached_seen s last [] kept seen e = (subst (StateFits us) e kept, subst (IsSeen us) e seen)
  reached_seen s last (e ∷ es) kept seen (l, comes, leads) = reached_seen (after java_code s e.thread l e.op e.reply) last es (next_kept s seen kept e l comes) (next_seen s seen kept e l comes) leads

  texts_same : (s last : OrdinaryState Local) (es : List Event) (r : ℕ) → StateFits us s → IsSeen us s → Leads java_code s es last → IsStringAt us s r → array_in s r ≢ 0 → HasSameText s last r
  texts_same s last [] r kept seen e is some = subst (λ x. HasSameText s x r) e (record { array = refl; header = λ o at. at; units = λ i. refl })
  texts_same s last (e ∷ es) r kept seen (l, comes, leads) is some =
      let m = after java_code s e.thread l e.op e.reply in
      let same : HasSameText s m r = next_same s seen kept e l comes r is some in
      both_same s m last r same
      (texts_same m last es r (next_kept s seen kept e l comes) (next_seen s seen kept e l comes) leads (next_string s seen kept e l comes r is) (λ none. some (sym same.array ∙ none)))

  object_stays : (s last : OrdinaryState Local) (es : List Event) (r : ℕ) (o : Object) → StateFits us s → IsSeen us s → Leads java_code s es last → s.objects r ≡ Some o → last.objects r ≡ Some o
  object_stays s last [] r o kept seen e there = subst (λ (x : OrdinaryState Local). x.objects r ≡ Some o) e there
  object_stays s last (e ∷ es) r o kept seen (l, comes, leads) there =
      object_stays (after java_code s e.thread l e.op e.reply) last es r o (next_kept s seen kept e l comes) (next_seen s seen kept e l comes) leads (objects_stay us s e.thread l e.op e.reply comes.step r o there)

  -- ---- the text of a String is a value

  array_there : (s : OrdinaryState Local) (r : ℕ) → IsSeen us s → IsStringAt us s r → array_in s r ≢ 0 → IsArray us s (array_in s r)
  array_there s r seen is some = elim (seen.strings r is.object is.there is.class) [ inl none ↦ absurd (some none) | inr text ↦ seen.arrays (array_in s r) text ]

  -- a literal has no array
  literal_none : (s : OrdinaryState Local) (r : ℕ) → IsSeen us s → IsLiteral us r → array_in s r ≡ 0
  literal_none s r seen (n, within, at) =
      let fixed : IsFixed us (string_object (program_names us) n) (Class STRING) = follow.literals n within in
      seen.literals r fixed.object (subst (λ x. fixed_of us x ≡ Some fixed.object) (sym at) fixed.there) (is_string us order sound fixed.object.class fixed.fits.class fixed.stands)

  array_stays : (s last : OrdinaryState Local) (es : List Event) (r : ℕ) → StateFits us s → IsSeen us s → Leads java_code s es last → IsStringAt us s r → IsLiteral us r ⊎ (array_in s r ≢ 0) → array_in last r ≡ array_in s r
  array_stays s last es r kept seen leads is (inr some) = (texts_same s last es r kept seen leads is some).array
  array_stays s last es r kept seen leads is (inl literal) = literal_none last r (reached_seen s last es kept seen leads).1 literal ∙ sym (literal_none s r seen literal)

  replies_are : (s last : OrdinaryState Local) (es : List Event) (r t : ℕ) (op : Op) (reply : Reply) (k : Reply → Plan) (same : Plan) → StateFits us s → IsSeen us s → Leads java_code s es last → IsStringAt us s r → IsLiteral us r ⊎ (array_in s r ≢ 0)
      → ReadsText s r op → MayAnswer last t op reply → followed_op (memory_of s) op k same ≡ k reply
  replies_are s last es r t op reply k same kept seen leads is has reads answered =
      replies_same us s last r t op reply k same is.object is.there (object_stays s last es r is.object kept seen leads is.there) (array_stays s last es r kept seen leads is has)
      (λ some. let array : IsArray us s (array_in s r) = array_there s r seen is some in (texts_same s last es r kept seen leads is some, (array.object, array.there))) reads answered

  text_is_value : (s last : OrdinaryState Local) (es : List Event) (r : ℕ) → StateFits us s → IsSeen us s → Leads java_code s es last → IsStringAt us s r → IsLiteral us r ⊎ (array_in s r ≢ 0) → text_of us last r ≡ text_of us s r
  text_is_value s last es r kept seen leads is (inr some) =
      let array : IsArray us s (array_in s r) = array_there s r seen is some in
      made_text_same us s last r some (texts_same s last es r kept seen leads is some) array.object array.there
  text_is_value s last es r kept seen leads is (inl literal) =
      literal_text_same us s last r is.object is.there (object_stays s last es r is.object kept seen leads is.there) (literal_none s r seen literal) (literal_none last r (reached_seen s last es kept seen leads).1 literal)

  module _ (main : MethodId) (is : IsMainMethod us main) where
    abbrev start : OrdinaryState Local
    start = start_of_program us main

    kept : StateFits us start
    kept = starts_fit us order main sound room is

    first : IsSeen us start
    first = start_seen us order sound room knows accepts rows main (main_begins us order main sound is) kept

    pub stay_from_start : TextsStay us start
    stay_from_start = record {
      stay = λ s last es r reached leads string some. let now = reached_seen start s reached.0 kept first reached.1 in texts_same s last es r now.0 now.1 leads string some;
      values = λ s last es r reached leads string has. let now = reached_seen start s reached.0 kept first reached.1 in text_is_value s last es r now.0 now.1 leads string has;
      replies = λ s last es r t op reply k same reached leads string has reads answered.
          let now = reached_seen start s reached.0 kept first reached.1 in replies_are s last es r t op reply k same now.0 now.1 leads string has reads answered;
      reading = λ s last es r t n op reply k next reached leads string has within e answered.
          let now = reached_seen start s reached.0 kept first reached.1 in
          let m : Memory = memory_of s in
          sym (replies_are s last es r t op reply next (want op next) now.0 now.1 leads string has (part_wanted us s r k op next n within e) answered)
          ∙ (ap (followed m) (sym e) ∙ sym (followed_next m n (reads_text us r k)));
      read = λ s t n from l r reached begun steps e string. read_there s (reached_seen start s reached.0 kept first reached.1).1 t n from l r begun steps e string;
      printed = λ s t n from l a reached begun steps e. printed_there s (reached_seen start s reached.0 kept first reached.1).1 t n from l a begun steps e;
      line = λ s last es t n from l a reached leads begun steps e i.
          let now = reached_seen start s reached.0 kept first reached.1 in
          let one : IsArrayOfOne us s a = printed_there s now.1 t n from l a begun steps e in
          let same : HasSameText s last one.string = texts_same s last es one.string now.0 now.1 leads one.there (λ none. one.some (sym one.array ∙ none)) in
          subst (λ x. last.words x i ≡ s.words x i) one.array (same.units i);
    }
