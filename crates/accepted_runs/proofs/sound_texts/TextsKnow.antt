-- Of texts all is known that the rows need.
use Rattle.std.proofs.Common.{◌≡◌, ◌≢◌, ◌⊎◌, inl, inr, ◌<◌, ◌≤◌, ℕ, zero, suc, Bool, true, false, Option, None, Some, List, [], ◌∷◌, length, refl, sym, ap, subst, ◌∙◌, arith}
use Rattle.std.proofs.lemmas.Option.{same_Some}
use Rattle.builtin_world.specs.declared.number.TheConstants.{CLASS, STRING, THREAD}
use Rattle.builtin_world.specs.declared.word.TheConstants.{BUILDER_TEXT, STRING_UNITS, THREAD_PRIORITY, THREAD_TARGET, THROWABLE_MESSAGE}
use Rattle.code_decode.specs.declared.code.ClassUnit.{ClassUnit}
use Rattle.link_types.specs.declared.types.ObjectType.{ObjectType}
use Rattle.link_types.specs.declared.types.ObjectType.TheVariants.{Array, Class, Other}
use Rattle.link_types.specs.declared.types.ElementType.TheVariants.{Char}
use Rattle.link_rules.specs.FixedObjects.{class_object}
use Rattle.link_rules.specs.Names.{program_names, type_numbered}
use Rattle.op_core.specs.declared.Op.{Op}
use Rattle.op_core.specs.declared.Op.TheVariants.{Read, Write, New, Start, Print}
use Rattle.op_core.specs.declared.Line.{Line}
use Rattle.op_core.specs.declared.Line.TheVariants as lines
use Rattle.op_core.specs.declared.Reply.{Reply}
use Rattle.op_core.specs.OrdinaryState.{Object}
use Rattle.java_rows.specs.Plan.{Plan}
use Rattle.java_rows.specs.Texts.{makes_array, makes_string, writes_units}
use Rattle.row_soundness.specs.Senses.{Content, number, reference, Making, filling, naming, WordFits}
use Rattle.row_soundness.specs.Fits.{Returns, PlanFits, anything, a_text, following, making_of}
use Rattle.row_soundness.specs.Texts.{char_array}
use Rattle.row_soundness.specs.Knowledge.{Knows, LineFits, HasWords, contents_of, element_contents, element_place}
use Rattle.row_soundness.specs.Runs.{HasObject, HasWordFor, MayStandFor, ObjectFits, RunsWant, WordHolds, runs}
use Rattle.row_soundness.specs.ClassesFollow.{IsFixed, ClassesFollow}
use Rattle.program_soundness.specs.SoundPrograms.{IsSound}
use Rattle.type_rules.specs.Wants.{element_types, is_array_of_one, is_array_of_references}
use Rattle.program_soundness.specs.Seen.{IsTypeBelow}
use Rattle.accepted_runs.specs.KnownTexts.{GoesOn, HasText, HoldsPlain, IsElsewhere, IsNamed, IsPlain, IsString, KeepsTexts, Seen, TextSteps, Wants, text_sense}
use Rattle.accepted_runs.proofs.sound_texts.StringClasses.{field_after, is_string, no_array, no_array_number, no_builder, no_class_object, no_string_type, no_thread, no_throwable, no_throwable_type, no_thrown_string, string_type, super_string}

module _ (us : List ClassUnit) where
  pub text_more : (h h' : Seen us) (r : ℕ) (o : Object) → h.known.objects r ≡ Some o → GoesOn us h h' → IsString us o.class ≡ true → HasText us h r o → HasText us h' r o
  text_more h h' r o there more string (inl fixed) = inl fixed
  text_more h h' r o there more string (inr some) = inr (λ none. some (sym (more.units r o there string some) ∙ none))

  pub clear_more : (h h' : Seen us) (r : ℕ) (o : Object) → h.known.objects r ≡ Some o → GoesOn us h h' → (h.texts r ≡ true → ⊥) → h'.texts r ≡ true → ⊥
  clear_more h h' r o there more clear is = clear (more.others r o there is)

  pub plain_more : (h h' : Seen us) (r : ℕ) → GoesOn us h h' → IsPlain us h r → IsPlain us h' r
  plain_more h h' r more is = record {
    object = is.object;
    there = more.objects r is.object is.there;
    clear = clear_more h h' r is.object is.there more is.clear;
    text = λ string. text_more h h' r is.object is.there more string (is.text string);
  }

  -- where an object is there already
  pub holds_more : (h h' : Seen us) (r i v : ℕ) (o : Object) → h.known.objects r ≡ Some o → GoesOn us h h' → HoldsPlain us h r i v → HoldsPlain us h' r i v
  holds_more h h' r i v o there more holds p t at is other =
      let same : o ≡ p = same_Some o p (sym (more.objects r o there) ∙ at) in
      elim (holds o t there (subst (λ x. WordHolds us r x i (reference t)) (sym same) is) (subst (λ (x : Object). IsString us x.class ≡ true → i ≢ STRING_UNITS) (sym same) other)) [ inl null ↦ inl null | inr plain ↦ inr (plain_more h h' v more plain) ]

  pub elsewhere_more : (h h' : Seen us) (r i : ℕ) (o : Object) → h.known.objects r ≡ Some o → GoesOn us h h' → IsElsewhere us h r i → IsElsewhere us h' r i
  elsewhere_more h h' r i o there more else = (
    clear_more h h' r o there more else.0,
    λ p at string.
        let same : o ≡ p = same_Some o p (sym (more.objects r o there) ∙ at) in
        else.1 o there (subst (λ (x : Object). IsString us x.class ≡ true) (sym same) string),
  )

  named_more : (h h' : Seen us) (r : ℕ) → GoesOn us h h' → IsNamed us h r → IsNamed us h' r
  named_more h h' r more is = record {
    string = is.string;
    object = is.object;
    there = more.objects is.string is.object is.there;
    class = is.class;
    array = more.units is.string is.object is.there is.class (λ none. is.some (sym is.array ∙ none)) ∙ is.array;
    some = is.some;
  }

  keeps_more : (h h' : Seen us) (op : Op) → GoesOn us h h' → RunsWant us h.known.objects op → KeepsTexts us h op → KeepsTexts us h' op
  keeps_more h h' (Read r i) more (k, has) keeps = λ o at string e.
      let same : has.object ≡ o = same_Some has.object o (sym (more.objects r has.object has.there) ∙ at) in
      subst (λ x. HasText us h' r x) same
      (text_more h h' r has.object has.there more (subst (λ (x : Object). IsString us x.class ≡ true) (sym same) string) (keeps has.object has.there (subst (λ (x : Object). IsString us x.class ≡ true) (sym same) string) e))
  keeps_more h h' (Write r i v) more (k, has, may) keeps = (elsewhere_more h h' r i has.object has.there more keeps.0, holds_more h h' r i v has.object has.there more keeps.1)
  keeps_more h h' (Start r p) more is keeps = plain_more h h' r more keeps
  keeps_more h h' (Print (lines.Made r)) more is keeps = named_more h h' r more keeps
  keeps_more h h' op more is keeps = keeps

  abbrev texts_both : (h h' h'' : Seen us) → GoesOn us h h' → GoesOn us h' h'' → GoesOn us h h''
  texts_both h h' h'' more more' = record {
    objects = λ r o e. more'.objects r o (more.objects r o e);
    texts = λ r o e is. more'.texts r o (more.objects r o e) (more.texts r o e is);
    others = λ r o e is. more.others r o e (more'.others r o (more.objects r o e) is);
    units = λ r o e string some. more'.units r o (more.objects r o e) string (λ none. some (sym (more.units r o e string some) ∙ none)) ∙ more.units r o e string some;
  }

  abbrev texts_itself : (h : Seen us) → GoesOn us h h
  texts_itself h = record { objects = λ r o e. e; texts = λ r o e is. is; others = λ r o e is. is; units = λ r o e string some. refl }

  -- ---- a text is made

  made_more : (h h' : Seen us) (r s : ℕ) (t : ObjectType) → GoesOn us h h' → HasObject us h.known.objects s t → HasObject us h'.known.objects s t
  made_more h h' r s t more is = record { object = is.object; there = more.objects s is.object is.there; fits = is.fits; stands = is.stands }

  module _ (res : Option Returns) (k : ℕ → Plan) where
    -- each later state of knowledge in which the text is a String
    abbrev Goes : Seen us → Type 0
    Goes h = (h' : Seen us) (s : ℕ) → GoesOn us h h' → (text_sense us).is_of h' s (Class STRING) → PlanFits (text_sense us) us res anything (k s) h'

    makes_string_fits : (h : Seen us) (r : ℕ) → Goes h → PlanFits (text_sense us) us res (a_text (filling r)) (makes_string r k) h
    makes_string_fits h r on = (
      tt,
      (
        refl,
        λ h' s more is clear. (
          tt,
          (
            refl,
            refl,
            refl,
            λ h'' more' some. on h'' s (texts_both h h' h'' more more') (
              made_more h' h'' r s (Class STRING) more' is,
              record { object = is.object; there = more'.objects s is.object is.there; clear = clear_more h' h'' s is.object is.there more' clear; text = λ string. inr some },
            ),
          ),
        ),
      ),
    )

    writes_units_fit : (h : Seen us) (r left i : ℕ) (units : List ℕ) → Goes h → PlanFits (text_sense us) us res (a_text (filling r)) (writes_units r units i left (makes_string r k)) h
    writes_units_fit h r zero i units on = makes_string_fits h r on
    writes_units_fit h r (suc left) i units on = (tt, (refl, λ h' more. writes_units_fit h' r left (suc i) units (λ h'' s more'. on h'' s (texts_both h h' h'' more more'))))

    pub makes_text_fits : (h : Seen us) (c : ℕ) (units : List ℕ) → type_numbered (program_names us) c ≡ char_array → Goes h → PlanFits (text_sense us) us res anything (makes_array c units k) h
    makes_text_fits h c units type on = (
      tt,
      inr (type, λ h' r more. writes_units_fit h' r (length units) 0 units (λ h'' s more'. on h'' s (texts_both h h' h'' more more'))),
    )

  no_reference : (t : ObjectType) → number ≡ reference t → ⊥
  no_reference t e = cc

  module _ (knows : Knows (runs us) us) (follow : ClassesFollow us) (order : List ℕ) (sound : IsSound us order) where
    wants_more : (h h' : Seen us) (op : Op) → GoesOn us h h' → Wants us h op → Wants us h' op
    wants_more h h' op more is = (knows.want_more h.known h'.known op more.objects is.0, keeps_more h h' op more is.0 is.1)

    -- steps at a later state of knowledge
    steps_more : (m : Option Making) (h h' : Seen us) (op : Op) (next : Option Making → Seen us → Reply → Type 0) → GoesOn us h h' → TextSteps us m h op next → TextSteps us m h' op next
    steps_more None h h' op next more (inl (may, on)) = inl ((wants_more h h' op more may, λ h'' reply more' come. on h'' reply (texts_both h h' h'' more more') come))
    steps_more None h h' (New c n) next more (inr (type, on)) = inr (type, λ h'' r more'. on h'' r (texts_both h h' h'' more more'))
    steps_more None h h' op next more (inr begins) = absurd begins
    steps_more (Some (filling r)) h h' (Write q i v) next more (same, on) = (same, λ h'' more'. on h'' (texts_both h h' h'' more more'))
    steps_more (Some (filling r)) h h' (New c m) next more (same, on) = (same, λ h'' s more'. on h'' s (texts_both h h' h'' more more'))
    steps_more (Some (filling r)) h h' op next more fills = absurd fills
    steps_more (Some (naming r s)) h h' (Write q i v) next more (same, at, array, on) = (same, at, array, λ h'' more'. on h'' (texts_both h h' h'' more more'))
    steps_more (Some (naming r s)) h h' op next more names = absurd names

    -- an object that is no String
    plain_other : (h : Seen us) (r : ℕ) (o : Object) → h.known.objects r ≡ Some o → (h.texts r ≡ true → ⊥) → (IsString us o.class ≡ true → ⊥) → IsPlain us h r
    plain_other h r o there clear none = record { object = o; there = there; clear = clear; text = λ string. absurd (none string) }

    -- what is there from the start
    fixed_clear : (h : Seen us) (r : ℕ) (t : ObjectType) → IsFixed us r t → h.texts r ≡ true → ⊥
    fixed_clear h r t is = h.begun r is.object is.there

    fixed_plain : (h : Seen us) (r : ℕ) (t : ObjectType) → IsFixed us r t → IsPlain us h r
    fixed_plain h r t is = record { object = is.object; there = h.known.fixed r is.object is.there; clear = h.begun r is.object is.there; text = λ string. inl is.there }

    elsewhere : (h : Seen us) (r i : ℕ) (o : Object) → h.known.objects r ≡ Some o → (h.texts r ≡ true → ⊥) → (IsString us o.class ≡ true → 1 ≤ i) → IsElsewhere us h r i
    elsewhere h r i o there clear past = (
      clear,
      λ p at string e.
          let same : o ≡ p = same_Some o p (sym there ∙ at) in
          let after : 1 ≤ i = past (subst (λ (x : Object). IsString us x.class ≡ true) (sym same) string) in
          omega (arith, after, e),
    )

    -- words that aren't the array of a String
    others : (h : Seen us) (r i : ℕ) (ks : List Content) (o : Object) → h.known.objects r ≡ Some o → (h.texts r ≡ true → ⊥) → (IsString us o.class ≡ true → 1 ≤ i) → HasWords (runs us) h.known r i ks → HasWords (text_sense us) h r i ks
    others h r i [] o there clear past has = tt
    others h r i (k ∷ ks) o there clear past has = ((has.0, elsewhere h r i o there clear past), others h r (suc i) ks o there clear (λ string. omega arith) has.1)

    other : (h : Seen us) (r i : ℕ) (k : Content) (o : Object) → h.known.objects r ≡ Some o → (h.texts r ≡ true → ⊥) → (IsString us o.class ≡ true → ⊥) → HasWordFor us h.known.objects r i k → (text_sense us).has_word h r i k
    other h r i k o there clear none has = (has, elsewhere h r i o there clear (λ string. absurd (none string)))

    -- an array isn't a String
    no_array_object : (c : ℕ) (s : ObjectType) (b : ObjectType → Bool) → ((d : ℕ) → b (Class d) ≡ false) → ((m : ℕ) → b (Other m) ≡ false) → b s ≡ true → MayStandFor us c s → IsString us c ≡ true → ⊥
    no_array_object c (Class d) b of_class of_other is stands string = let bad : false ≡ true = sym (of_class d) ∙ is in cc
    no_array_object c (Other m) b of_class of_other is stands string = let bad : false ≡ true = sym (of_other m) ∙ is in cc
    no_array_object c (Array n x) b of_class of_other is stands string = no_array us order sound c n x stands string

    read_fits : (h : Seen us) (r i v : ℕ) (k : Content) → HasWordFor us h.known.objects r i k → IsElsewhere us h r i → WordFits (runs us) h.known v k → HoldsPlain us h r i v → WordFits (text_sense us) h v k
    read_fits h r i v number has else fits holds = fits
    read_fits h r i v (reference t) has else fits holds = elim fits [
      | inl null ↦ inl null
      | inr is ↦ elim (holds has.object t has.there has.holds (else.1 has.object has.there)) [ inl null ↦ inl null | inr plain ↦ inr (is, plain) ]
    ]

    run_fits : (h : Seen us) (v : ℕ) (k : Content) → WordFits (text_sense us) h v k → WordFits (runs us) h.known v k
    run_fits h v number fits = fits
    run_fits h v (reference t) fits = elim fits [ inl null ↦ inl null | inr is ↦ inr is.0 ]

    write_holds : (h : Seen us) (r i v : ℕ) (k : Content) → HasWordFor us h.known.objects r i k → WordFits (text_sense us) h v k → HoldsPlain us h r i v
    write_holds h r i v k has fits o t at holds away =
        let same : has.object ≡ o = same_Some has.object o (sym has.there ∙ at) in
        let one : k ≡ reference t = follow.one r i o k (reference t) (subst (λ x. ObjectFits us r x) same has.fits) (subst (λ x. WordHolds us r x i k) same has.holds) holds in
        by_reference (subst (λ x. WordFits (text_sense us) h v x) one fits)
      where
        by_reference : WordFits (text_sense us) h v (reference t) → (v ≡ 0) ⊎ IsPlain us h v
        by_reference (inl null) = inl null
        by_reference (inr is) = inr is.1

    -- the word of a Thread's priority
    priority_there : (h : Seen us) (r : ℕ) → HasObject us h.known.objects r (Class THREAD) → HasWordFor us h.known.objects r THREAD_PRIORITY number
    priority_there h r is = let one = follow.priority r is.object is.fits is.stands in record { object = is.object; there = is.there; fits = is.fits; holds = one.holds; within = one.within; spared = one.spared }

    -- a new object is plain, or of a type of Strings
    new_plain : (h : Seen us) (r c : ℕ) (o : Object) → h.known.objects r ≡ Some o → (h.texts r ≡ true → ⊥) → o.class ≡ c → (b : Bool) → IsString us c ≡ b → IsPlain us h r ⊎ IsTypeBelow us STRING (type_numbered (program_names us) c)
    new_plain h r c o there clear class true e = inr (string_type us order sound c e)
    new_plain h r c o there clear class false e = inl (plain_other h r o there clear (λ string. let bad : false ≡ true = sym e ∙ (ap (IsString us) (sym class) ∙ string) in cc))

    -- a place in an object of another class
    away : (h : Seen us) (r i : ℕ) (x : Object) → h.known.objects r ≡ Some x → (IsString us x.class ≡ true → ⊥) → (o : Object) → h.known.objects r ≡ Some o → IsString us o.class ≡ true → i ≡ STRING_UNITS → HasText us h r o
    away h r i x there none o at string e = absurd (none (subst (λ (y : Object). IsString us y.class ≡ true) (same_Some o x (sym at ∙ there)) string))

    -- the word of a String is its array
    named_here : (h : Seen us) (r v : ℕ) → (text_sense us).is_of h r (Class STRING) → (STRING_UNITS ≡ STRING_UNITS → v ≡ h.units r) → 0 < v → IsNamed us h v
    named_here h r v is told some = record {
      string = r;
      object = is.0.object;
      there = is.0.there;
      class = is_string us order sound is.0.object.class is.0.fits.class is.0.stands;
      array = sym (told refl);
      some = λ none. omega (arith, some, none);
    }

    -- the line of a String that the program made
    line_kept : (h : Seen us) (line : Line) → LineFits (text_sense us) h line → KeepsTexts us h (Print line)
    line_kept h (lines.Made r) is = is.2
    line_kept h line is = tt

    pub texts_know : Knows (text_sense us) us
    texts_know = record {
      itself = texts_itself;
      both = texts_both;
      there_more = λ h h' r more is. knows.there_more h.known h'.known r more.objects is;
      raw_more = λ h h' r t more is. (
        knows.raw_more h.known h'.known r t more.objects is.0,
        (clear_more h h' r is.0.object is.0.there more is.1.0, elim is.1.1 [ inl plain ↦ inl (plain_more h h' r more plain) | inr type ↦ inr type ]),
      );
      of_more = λ h h' r t more is. (knows.of_more h.known h'.known r t more.objects is.0, plain_more h h' r more is.1);
      exactly_more = λ h h' r c n more is. knows.exactly_more h.known h'.known r c n more.objects is;
      thrown_more = λ h h' r c more is. (knows.thrown_more h.known h'.known r c more.objects is.0, plain_more h h' r more is.1);
      word_more = λ h h' r i k more is. (knows.word_more h.known h'.known r i k more.objects is.0, elsewhere_more h h' r i is.0.object is.0.there more is.1);
      text_more = λ h h' r more is. (knows.text_more h.known h'.known r more.objects is.0, more.texts r is.0.object is.0.there is.1, named_more h h' r more is.2);
      want_more = λ h h' op more is. wants_more h h' op more is;
      asks = λ res b h op k follows none may next. (follows, subst (λ m. TextSteps us m h op (λ m h' reply. PlanFits (text_sense us) us res (following op reply m) (k reply) h')) (sym none) (inl (may, next)));
      asks_more = λ res b h h' op k more fits. (fits.0, steps_more (making_of b) h h' op (λ m h' reply. PlanFits (text_sense us) us res (following op reply m) (k reply) h') more fits.1);
      fits = λ h op reply come. knows.fits h.known op reply come.0;
      small = λ h r is exact. knows.small h.known r is exact;
      up = λ h r s t is e. (knows.up h.known r s t is.0 e, is.1);
      raw_of = λ h r t is. (is.0, (is.1.clear, inl is.1));
      raw_super = λ h r c file is. (knows.raw_super h.known r c file is.0, (is.1.0, elim is.1.1 [ inl plain ↦ inl plain | inr type ↦ inr (super_string us order sound c file type) ]));
      there_of = λ h r t is. knows.there_of h.known r t is.0;
      set = λ h r c d raw is. (raw.0, is.1);
      looks = λ h r is. (knows.looks h.known r is, tt);
      enters = λ h r is. (knows.enters h.known r is, tt);
      exits = λ h r is. (knows.exits h.known r is, tt);
      waits = λ h r is. (knows.waits h.known r is, tt);
      rewakes = λ h r is. (knows.rewakes h.known r is, tt);
      notifies = λ h r is. (knows.notifies h.known r is, tt);
      prints = λ h line fits. (tt, line_kept h line fits);
      starts = λ h r p is may. (knows.starts h.known r p is.0 may, is.1);
      joins = λ h r is. (is.0, tt);
      inits = λ h c file. (file, tt);
      settles = λ h c ok file. (file, tt);
      ends = λ h x. (tt, tt);
      makes = λ h c n can. (can, tt);
      made = λ h c n r can come. (knows.made h.known c n r can come.0, (come.1, new_plain h r c come.0.object come.0.there come.1 come.0.class (IsString us c) refl));
      made_array = λ h c n r can array come.
          (knows.made_array h.known c n r can array come.0, plain_other h r come.0.object come.0.there come.1 (λ string. no_array_number us order sound c array (ap (IsString us) (sym come.0.class) ∙ string)));
      made_object = λ h r c which is. (knows.made_object h.known r c which is.0, elim is.1.1 [ inl plain ↦ plain | inr type ↦ absurd (no_string_type us order sound c which type) ]);
      made_throwable = λ h r c below is. (knows.made_throwable h.known r c below is.0, elim is.1.1 [ inl plain ↦ plain | inr type ↦ absurd (no_throwable_type us order sound c below type) ]);
      made_thread = λ h r p is may come. (knows.made_thread h.known r p is.0 may come.0, plain_other h r is.0.object is.0.there is.1.0 (no_thread us order sound is.0.object.class is.0.fits.class is.0.stands));
      made_thrown = λ h c r throwable come. (
        knows.made_thrown h.known c r throwable come.0,
        plain_other h r come.0.object come.0.there come.1 (λ string. no_thrown_string us order sound c (follow.exceptions c throwable) (ap (IsString us) (sym come.0.class) ∙ string)),
      );
      made_exactly = λ h c n r come. knows.made_exactly h.known c n r come.0;
      reads = λ h r i k has. ((k, has.0), λ o at string e. absurd (has.1.1 o at string e));
      read = λ h r i v k has come. read_fits h r i v k has.0 has.1 (knows.read h.known r i v k has.0 come.0) come.1.0;
      writes = λ h r i v k has fits. (knows.writes h.known r i v k has.0 (run_fits h v k fits), (has.1, write_holds h r i v k has.0 fits));
      fields = λ h r f is raw. others h r f.place (contents_of f.kind) raw.0.object raw.0.there raw.1.0 (λ string. field_after us order sound r raw.0.object f is raw.0.fits raw.0.stands string) (knows.fields h.known r f is raw.0);
      statics = λ h f is.
          let fixed : IsFixed us (class_object (program_names us) f.owner) (Class CLASS) = (follow.class_field f is).0 in
          others h (class_object (program_names us) f.owner) f.place (contents_of f.kind) fixed.object (h.known.fixed _ fixed.object fixed.there) (fixed_clear h _ _ fixed) (λ string. absurd (no_class_object us order sound fixed.object.class fixed.fits.class fixed.stands string)) (knows.statics h.known f is);
      target = λ h r is. other h r THREAD_TARGET _ is.0.object is.0.there is.1.0 (no_thread us order sound is.0.object.class is.0.fits.class is.0.stands) (knows.target h.known r is.0);
      message = λ h r is. other h r THROWABLE_MESSAGE (reference (Class STRING)) is.0.object is.0.there is.1.0 (no_throwable us order sound is.0.object.class is.0.fits.class is.0.stands) (knows.message h.known r is.0);
      text = λ h r is. other h r BUILDER_TEXT (reference (Class STRING)) is.0.object is.0.there is.1.0 (no_builder us order sound is.0.object.class is.0.fits.class is.0.stands) (knows.text h.known r is.0);
      asks_text = λ h r is. (
        knows.asks_text h.known r is.0,
        λ o at string e. let same : is.1.object ≡ o = same_Some is.1.object o (sym is.1.there ∙ at) in
            subst (λ x. HasText us h r x) same (is.1.text (subst (λ (x : Object). IsString us x.class ≡ true) (sym same) string)),
      );
      units = λ h r v is come. elim (knows.units h.known r v is.0 come.0) [
        | inl null ↦ inl null
        | inr of ↦ elim (come.1.1 is.0.object is.0.there (is_string us order sound is.0.object.class is.0.fits.class is.0.stands) refl) [ inl null ↦ inl null | inr text ↦ inr (of, text, named_here h r v is come.1.2 of.fits.some) ]
      ];
      text_there = λ h r is. knows.text_there h.known r is.0;
      asks_unit = λ h r c n i is exactly within. (knows.asks_unit h.known r c n i is.0 exactly within, away h r i is.0.object is.0.there (no_array us order sound is.0.object.class 1 Char is.0.stands));
      makes_text = λ res h c units k can past type can_string words on. makes_text_fits res k h c units type on;
      priorities = λ p low high. knows.priorities p low high;
      priority_words = λ p is exact. knows.priority_words p is exact;
      asks_priority = λ h r is. (knows.asks_priority h.known r is.0, away h r THREAD_PRIORITY is.0.object is.0.there (no_thread us order sound is.0.object.class is.0.fits.class is.0.stands));
      priority = λ h r p is come. knows.priority h.known r p is.0 come.0;
      sets_priority = λ h r p is may. (
        knows.sets_priority h.known r p is.0 may,
        (elsewhere h r THREAD_PRIORITY is.0.object is.0.there is.1.0 (λ string. absurd (no_thread us order sound is.0.object.class is.0.fits.class is.0.stands string)), write_holds h r THREAD_PRIORITY p number (priority_there h r is.0) (λ exact. knows.priority_words p may tt)),
      );
      exactly = λ h r c n come. knows.exactly h.known r c n come.0;
      length_fits = λ h r c n is exact. knows.length_fits h.known r c n is exact;
      thrown = λ h r c n is exactly. (knows.thrown h.known r c n is.0 exactly, is.1);
      caught = λ h r c d is below. (knows.caught h.known r c d is.0 below, is.1);
      cast = λ h r c n d is exactly below. (knows.cast h.known r c n d is.0 exactly below, is.1);
      own = λ h r c n is exactly. (knows.own h.known r c n is.0 exactly, is.1);
      caught_all = λ h r c is. (knows.caught_all h.known r c is.0, is.1);
      selected = λ h r c n t id found is exactly private same. (knows.selected h.known r c n t id found is.0 exactly (λ p. (private p).0) same, is.1);
      class_objects = λ h c is. (knows.class_objects h.known c is, fixed_plain h _ _ (follow.class_objects c is));
      literals = λ h n within. (knows.literals h.known n within, fixed_plain h _ _ (follow.literals n within));
      arguments = λ h. (knows.arguments h.known, fixed_plain h _ _ follow.arguments);
      main_thread = λ h. (knows.main_thread h.known, fixed_plain h _ _ follow.main_thread);
      out = λ h. (knows.out h.known, fixed_plain h _ _ follow.out);
      elements = λ h r c n i kind s is of test exactly within.
          others h r (element_place kind i) (element_contents kind) of.0.object of.0.there of.1.clear (λ string. absurd (no_array_object of.0.object.class s (is_array_of_one (element_types kind)) (λ d. refl) (λ m. refl) test of.0.stands string)) (knows.elements h.known r c n i kind s is of.0 test exactly within);
      references = λ h r c n i s of test exactly within.
          let (e, has, are) = knows.references h.known r c n i s of.0 test exactly within in (
            e,
            other h r i (reference e) of.0.object of.0.there of.1.clear (no_array_object of.0.object.class s is_array_of_references (λ d. refl) (λ m. refl) test of.0.stands) has,
            record {
              up = λ h' v x more same is. (are.up h'.known v x more.objects same is.0, is.1);
              stored = λ h' v d m more is exact takes. (are.stored h'.known v d m more.objects is.0 exact takes, is.1);
            },
          );
    }
