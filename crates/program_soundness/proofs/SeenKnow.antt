-- In executions all is known that the rows need.
use Rattle.std.proofs.Common.{◌≡◌, ◌⊎◌, inl, inr, ◌≤◌, ◌+◌, ◌%◌, ◌^◌, ℕ, suc, Bool, true, false, Some, List, [], ◌∷◌, length, refl, sym, ap, subst, ◌∙◌, arith}
use Rattle.std.proofs.lemmas.Option.{same_Some}
use Rattle.std.proofs.Math.Nat.{mod-eq_of_lt}
use Rattle.builtin_world.specs.declared.number.TheConstants.{CLASS, STRING, THREAD}
use Rattle.builtin_world.specs.declared.word.TheConstants.{BUILDER_TEXT, STRING_UNITS, THREAD_PRIORITY, THREAD_TARGET, THROWABLE_MESSAGE}
use Rattle.code_decode.specs.declared.code.ClassUnit.{ClassUnit}
use Rattle.link_types.specs.declared.types.ObjectType.{ObjectType}
use Rattle.link_types.specs.declared.types.ObjectType.TheVariants.{Array, Class, Other}
use Rattle.link_rules.specs.FixedObjects.{class_object}
use Rattle.link_rules.specs.Names.{program_names, type_numbered}
use Rattle.op_core.specs.declared.Op.{Op}
use Rattle.op_core.specs.declared.Op.TheVariants.{Write, Start}
use Rattle.op_core.specs.OrdinaryState.{Object}
use Rattle.row_soundness.specs.Senses.{Content, number, reference, WordFits}
use Rattle.row_soundness.specs.Texts.{char_array}
use Rattle.row_soundness.specs.Knowledge.{Knows, HasWords, contents_of, element_contents, element_place}
use Rattle.row_soundness.specs.Runs.{HasObject, HasWordFor, IsThread, MayStandFor, ObjectFits, RunsWant, WordHolds, runs}
use Rattle.row_soundness.specs.ClassesFollow.{IsFixed, ClassesFollow}
use Rattle.row_soundness.proofs.RunsKnow.{runs_make_texts, unit_there, units_there}
use Rattle.row_soundness.proofs.TextsMade.{MakesTexts, plain_text}
use Rattle.link_types.specs.declared.types.ElementType.TheVariants.{Char}
use Rattle.program_soundness.specs.SoundPrograms.{IsSound}
use Rattle.type_rules.specs.Wants.{element_types, is_array_of_one, is_array_of_references}
use Rattle.program_soundness.specs.Seen.{GoesOn, HoldsSet, IsElsewhere, IsPriority, IsSet, IsTypeBelow, KeepsPriorities, Seen, executions}
use Rattle.program_soundness.proofs.ThreadClasses.{field_after, no_array, no_array_number, no_builder, no_class_object, no_string, no_thread_type, no_throwable, no_throwable_type, no_thrown_thread, super_thread, thread_type}

module _ (us : List ClassUnit) where
  pub set_more : (h h' : Seen us) (r : ℕ) → GoesOn us h h' → IsSet us h r → IsSet us h' r
  set_more h h' r more is = record { object = is.object; there = more.objects r is.object is.there; set = λ thread. more.priorities r is.object is.there thread (is.set thread) }

  -- where an object is there already
  pub holds_more : (h h' : Seen us) (r i v : ℕ) (o : Object) → h.known.objects r ≡ Some o → GoesOn us h h' → HoldsSet us h r i v → HoldsSet us h' r i v
  holds_more h h' r i v o there more holds p t at is =
      let same : o ≡ p = same_Some o p (sym (more.objects r o there) ∙ at) in
      elim (holds o t there (subst (λ x. WordHolds us r x i (reference t)) (sym same) is)) [ inl null ↦ inl null | inr set ↦ inr (set_more h h' v more set) ]

  elsewhere_more : (h h' : Seen us) (r i : ℕ) (o : Object) → h.known.objects r ≡ Some o → GoesOn us h h' → IsElsewhere us h r i → IsElsewhere us h' r i
  elsewhere_more h h' r i o there more else p at thread =
      let same : o ≡ p = same_Some o p (sym (more.objects r o there) ∙ at) in
      else o there (subst (λ (x : Object). IsThread us x.class ≡ true) (sym same) thread)

  keeps_more : (h h' : Seen us) (op : Op) → GoesOn us h h' → RunsWant us h.known.objects op → KeepsPriorities us h op → KeepsPriorities us h' op
  keeps_more h h' (Write r i v) more (k, has, may) keeps = (
    λ o at thread e.
        let same : has.object ≡ o = same_Some has.object o (sym (more.objects r has.object has.there) ∙ at) in
        keeps.0 has.object has.there (subst (λ (x : Object). IsThread us x.class ≡ true) (sym same) thread) e,
    holds_more h h' r i v has.object has.there more keeps.1,
  )
  keeps_more h h' (Start r p) more is keeps = (keeps.0, set_more h h' r more keeps.1)
  keeps_more h h' op more is keeps = keeps

  no_reference : (t : ObjectType) → number ≡ reference t → ⊥
  no_reference t e = cc

  module _ (knows : Knows (runs us) us) (follow : ClassesFollow us) (order : List ℕ) (sound : IsSound us order) where
    -- an object that is no Thread
    set_other : (h : Seen us) (r : ℕ) (o : Object) → h.known.objects r ≡ Some o → (IsThread us o.class ≡ true → ⊥) → IsSet us h r
    set_other h r o there none = record { object = o; there = there; set = λ thread. absurd (none thread) }

    -- what is there from the start
    fixed_set : (h : Seen us) (r : ℕ) (t : ObjectType) → IsFixed us r t → IsSet us h r
    fixed_set h r t is = record { object = is.object; there = h.known.fixed r is.object is.there; set = λ thread. h.begun r is.object is.there thread }

    elsewhere : (h : Seen us) (r i : ℕ) (o : Object) → h.known.objects r ≡ Some o → (IsThread us o.class ≡ true → 1 ≤ i) → IsElsewhere us h r i
    elsewhere h r i o there past p at thread e =
        let same : o ≡ p = same_Some o p (sym there ∙ at) in
        let after : 1 ≤ i = past (subst (λ (x : Object). IsThread us x.class ≡ true) (sym same) thread) in
        omega (arith, after, e)

    -- words that aren't the priority of a Thread
    others : (h : Seen us) (r i : ℕ) (ks : List Content) (o : Object) → h.known.objects r ≡ Some o → (IsThread us o.class ≡ true → 1 ≤ i) → HasWords (runs us) h.known r i ks → HasWords (executions us) h r i ks
    others h r i [] o there past has = tt
    others h r i (k ∷ ks) o there past has = ((has.0, elsewhere h r i o there past), others h r (suc i) ks o there (λ thread. omega arith) has.1)

    other : (h : Seen us) (r i : ℕ) (k : Content) (o : Object) → h.known.objects r ≡ Some o → (IsThread us o.class ≡ true → ⊥) → HasWordFor us h.known.objects r i k → (executions us).has_word h r i k
    other h r i k o there none has = (has, elsewhere h r i o there (λ thread. absurd (none thread)))

    -- a Thread is seen as such
    is_thread : (h : Seen us) (r : ℕ) (is : HasObject us h.known.objects r (Class THREAD)) → IsThread us is.object.class ≡ true
    is_thread h r is = (Rattle.program_soundness.proofs.BelowClasses.is_below us order sound THREAD (Rattle.program_soundness.proofs.ThreadLaws.thread_is_class us) (λ e. omega (arith, e)) is.object.class is.fits.class
        (Rattle.builtin_facts.proofs.NativeLaws.numbers us THREAD (omega arith) (omega arith)) (let count : length (Rattle.link_rules.specs.Classes.classes_of us) ≡ 28 + length us = Rattle.link_rules.proofs.Numbers.class_count_is us in omega (arith, count)) is.stands)

    -- an array isn't one
    no_array_object : (c : ℕ) (s : ObjectType) (b : ObjectType → Bool) → ((d : ℕ) → b (Class d) ≡ false) → ((m : ℕ) → b (Other m) ≡ false) → b s ≡ true → MayStandFor us c s → IsThread us c ≡ true → ⊥
    no_array_object c (Class d) b of_class of_other is stands thread = let bad : false ≡ true = sym (of_class d) ∙ is in cc
    no_array_object c (Other m) b of_class of_other is stands thread = let bad : false ≡ true = sym (of_other m) ∙ is in cc
    no_array_object c (Array n x) b of_class of_other is stands thread = no_array us order sound c n x stands thread

    read_fits : (h : Seen us) (r i v : ℕ) (k : Content) → HasWordFor us h.known.objects r i k → WordFits (runs us) h.known v k → HoldsSet us h r i v → WordFits (executions us) h v k
    read_fits h r i v number has fits holds = fits
    read_fits h r i v (reference t) has fits holds = elim fits [
      | inl null ↦ inl null
      | inr is ↦ elim (holds has.object t has.there has.holds) [ inl null ↦ inl null | inr set ↦ inr (is, set) ]
    ]

    plain_fits : (h : Seen us) (v : ℕ) (k : Content) → WordFits (executions us) h v k → WordFits (runs us) h.known v k
    plain_fits h v number fits = fits
    plain_fits h v (reference t) fits = elim fits [ inl null ↦ inl null | inr is ↦ inr is.0 ]

    write_holds : (h : Seen us) (r i v : ℕ) (k : Content) → HasWordFor us h.known.objects r i k → WordFits (executions us) h v k → HoldsSet us h r i v
    write_holds h r i v k has fits o t at holds =
        let same : has.object ≡ o = same_Some has.object o (sym has.there ∙ at) in
        let one : k ≡ reference t = follow.one r i o k (reference t) (subst (λ x. ObjectFits us r x) same has.fits) (subst (λ x. WordHolds us r x i k) same has.holds) holds in
        by_reference (subst (λ x. WordFits (executions us) h v x) one fits)
      where
        by_reference : WordFits (executions us) h v (reference t) → (v ≡ 0) ⊎ IsSet us h v
        by_reference (inl null) = inl null
        by_reference (inr is) = inr is.1

    -- the word of a Thread's priority
    priority_there : (h : Seen us) (r : ℕ) → HasObject us h.known.objects r (Class THREAD) → HasWordFor us h.known.objects r THREAD_PRIORITY number
    priority_there h r is = let one = follow.priority r is.object is.fits is.stands in record { object = is.object; there = is.there; fits = is.fits; holds = one.holds; within = one.within; spared = one.spared }

    -- a new object is set, or of a type of Threads
    new_set : (h : Seen us) (r c : ℕ) (o : Object) → h.known.objects r ≡ Some o → o.class ≡ c → (b : Bool) → IsThread us c ≡ b → IsSet us h r ⊎ IsTypeBelow us THREAD (type_numbered (program_names us) c)
    new_set h r c o there class true e = inr (thread_type us order sound c e)
    new_set h r c o there class false e = inl (set_other h r o there (λ thread. let bad : false ≡ true = sym e ∙ (ap (IsThread us) (sym class) ∙ thread) in cc))

    same_of : (h : Seen us) (r : ℕ) (t : ObjectType) (is : HasObject us h.known.objects r t) (set : IsSet us h r) → IsThread us is.object.class ≡ true → IsPriority (h.priorities r)
    same_of h r t is set thread = set.set (subst (λ (x : Object). IsThread us x.class ≡ true) (same_Some is.object set.object (sym is.there ∙ set.there)) thread)

    abbrev seen_both : (h h' h'' : Seen us) → GoesOn us h h' → GoesOn us h' h'' → GoesOn us h h''
    seen_both h h' h'' more more' = record {
      objects = λ r o e. more'.objects r o (more.objects r o e);
      priorities = λ r o at thread is. more'.priorities r o (more.objects r o at) thread (more.priorities r o at thread is);
    }

    -- the array and the String of a text are no Threads
    char_set : (h : Seen us) (r : ℕ) (is : HasObject us h.known.objects r char_array) → IsSet us h r
    char_set h r is = set_other h r is.object is.there (no_array us order sound is.object.class 1 Char is.stands)

    string_set : (h : Seen us) (r : ℕ) (is : HasObject us h.known.objects r (Class STRING)) → IsSet us h r
    string_set h r is = set_other h r is.object is.there (no_string us order sound is.object.class is.fits.class is.stands)

    no_priority : (h : Seen us) (r i v : ℕ) (x : Object) → h.known.objects r ≡ Some x → (IsThread us x.class ≡ true → ⊥) → (o : Object) → h.known.objects r ≡ Some o → IsThread us o.class ≡ true → i ≡ THREAD_PRIORITY → IsPriority v
    no_priority h r i v x there none o at thread e = absurd (none (subst (λ (y : Object). IsThread us y.class ≡ true) (same_Some o x (sym at ∙ there)) thread))

    seen_make_texts : MakesTexts (executions us) us
    seen_make_texts = record {
      itself = λ h. record { objects = λ r o e. e; priorities = λ r o at thread is. is };
      both = seen_both;
      fits = λ h op reply come. knows.fits h.known op reply come.0;
      asks = λ res h op k follows may next. (follows, (may, next));
      of_more = λ h h' r more is. (plain.of_more h.known h'.known r more.objects is.0, set_more h h' r more is.1);
      exactly_more = λ h h' r c n more is. plain.exactly_more h.known h'.known r c n more.objects is;
      string_more = λ h h' r more is. (plain.string_more h.known h'.known r more.objects is.0, set_more h h' r more is.1);
      makes = λ h c n can. (can, tt);
      array = λ h c n r can type come. let is = plain.array h.known c n r can type come.0 in (is, char_set h r is);
      exactly = λ h c n r come. plain.exactly h.known c n r come.0;
      string = λ h r can come. let is = plain.string h.known r can come.0 in (is, string_set h r is);
      unit = λ h r c n i v of exactly within small.
          let has = unit_there us follow h.known r c n i of.0 exactly within in (
            plain.unit h.known r c n i v of.0 exactly within small,
            (no_priority h r i v of.0.object of.0.there (no_array us order sound of.0.object.class 1 Char of.0.stands), write_holds h r i v number has (λ exact. small)),
          );
      name = λ h s r is of. (
        plain.name h.known s r is.0 of.0,
        (no_priority h s STRING_UNITS r is.0.object is.0.there (no_string us order sound is.0.object.class is.0.fits.class is.0.stands), write_holds h s STRING_UNITS r (reference char_array) (units_there us follow h.known s is.0) (inr of)),
      );
    }
      where
        plain : MakesTexts (runs us) us
        plain = runs_make_texts us follow

    pub seen_know : Knows (executions us) us
    seen_know = record {
      itself = λ h. record { objects = λ r o e. e; priorities = λ r o at thread is. is };
      both = seen_both;
      there_more = λ h h' r more is. knows.there_more h.known h'.known r more.objects is;
      raw_more = λ h h' r t more is. (knows.raw_more h.known h'.known r t more.objects is.0, elim is.1 [ inl set ↦ inl (set_more h h' r more set) | inr type ↦ inr type ]);
      of_more = λ h h' r t more is. (knows.of_more h.known h'.known r t more.objects is.0, set_more h h' r more is.1);
      exactly_more = λ h h' r c n more is. knows.exactly_more h.known h'.known r c n more.objects is;
      thrown_more = λ h h' r c more is. (knows.thrown_more h.known h'.known r c more.objects is.0, set_more h h' r more is.1);
      word_more = λ h h' r i k more is. (knows.word_more h.known h'.known r i k more.objects is.0, elsewhere_more h h' r i is.0.object is.0.there more is.1);
      text_more = λ h h' r more is. knows.text_more h.known h'.known r more.objects is;
      asks = λ res b h op k follows none may next. (follows, (may, next));
      asks_more = λ res b h h' op k more fits. (
        fits.0,
        ((knows.want_more h.known h'.known op more.objects fits.1.0.0, keeps_more h h' op more fits.1.0.0 fits.1.0.1), λ h'' reply more' come. fits.1.1 h'' reply (seen_both h h' h'' more more') come),
      );
      want_more = λ h h' op more is. (knows.want_more h.known h'.known op more.objects is.0, keeps_more h h' op more is.0 is.1);
      fits = λ h op reply come. knows.fits h.known op reply come.0;
      small = λ h r is exact. knows.small h.known r is exact;
      up = λ h r s t is e. (knows.up h.known r s t is.0 e, is.1);
      raw_of = λ h r t is. (is.0, inl is.1);
      raw_super = λ h r c file is. (knows.raw_super h.known r c file is.0, elim is.1 [ inl set ↦ inl set | inr type ↦ inr (super_thread us order sound c file type) ]);
      there_of = λ h r t is. knows.there_of h.known r t is.0;
      set = λ h r c d raw is. (raw.0, is.1);
      looks = λ h r is. (knows.looks h.known r is, tt);
      enters = λ h r is. (knows.enters h.known r is, tt);
      exits = λ h r is. (knows.exits h.known r is, tt);
      waits = λ h r is. (knows.waits h.known r is, tt);
      rewakes = λ h r is. (knows.rewakes h.known r is, tt);
      notifies = λ h r is. (knows.notifies h.known r is, tt);
      prints = λ h line fits. (tt, tt);
      starts = λ h r p is may.
          let same : p % 2 ^ 8 ≡ p = mod-eq_of_lt (omega (arith, may.1)) in
          ((is.0, omega arith), (subst IsPriority (sym same) may, is.1));
      joins = λ h r is. (is.0, tt);
      inits = λ h c file. (file, tt);
      settles = λ h c ok file. (file, tt);
      ends = λ h x. (tt, tt);
      makes = λ h c n can. (can, tt);
      made = λ h c n r can come. (knows.made h.known c n r can come.0, new_set h r c come.0.object come.0.there come.0.class (IsThread us c) refl);
      made_array = λ h c n r can array come.
          (knows.made_array h.known c n r can array come.0, set_other h r come.0.object come.0.there (λ thread. no_array_number us order sound c array (ap (IsThread us) (sym come.0.class) ∙ thread)));
      made_object = λ h r c which is. (knows.made_object h.known r c which is.0, elim is.1 [ inl set ↦ set | inr type ↦ absurd (no_thread_type us order sound c which type) ]);
      made_throwable = λ h r c below is. (is.0, elim is.1 [ inl set ↦ set | inr type ↦ absurd (no_throwable_type us order sound c below type) ]);
      made_thread = λ h r p is may come. (is.0, record { object = is.0.object; there = is.0.there; set = λ thread. subst IsPriority (come.1 refl) may });
      made_thrown = λ h c r throwable come. (
        knows.made_thrown h.known c r throwable come.0,
        set_other h r come.0.object come.0.there (λ thread. no_thrown_thread us order sound c (follow.exceptions c throwable) (ap (IsThread us) (sym come.0.class) ∙ thread)),
      );
      made_exactly = λ h c n r come. knows.made_exactly h.known c n r come.0;
      reads = λ h r i k has. ((k, has.0), tt);
      read = λ h r i v k has come. read_fits h r i v k has.0 (knows.read h.known r i v k has.0 come.0) come.1.1;
      writes = λ h r i v k has fits. (knows.writes h.known r i v k has.0 (plain_fits h v k fits), (λ o at thread e. absurd (has.1 o at thread e), write_holds h r i v k has.0 fits));
      fields = λ h r f is raw. others h r f.place (contents_of f.kind) raw.0.object raw.0.there (λ thread. field_after us order sound r raw.0.object f is raw.0.fits raw.0.stands thread) (knows.fields h.known r f is raw.0);
      statics = λ h f is.
          let fixed : IsFixed us (class_object (program_names us) f.owner) (Class CLASS) = (follow.class_field f is).0 in
          others h (class_object (program_names us) f.owner) f.place (contents_of f.kind) fixed.object (h.known.fixed _ fixed.object fixed.there) (λ thread. absurd (no_class_object us order sound fixed.object.class fixed.fits.class fixed.stands thread)) (knows.statics h.known f is);
      target = λ h r is. (knows.target h.known r is.0, elsewhere h r THREAD_TARGET is.0.object is.0.there (λ thread. omega arith));
      message = λ h r is. other h r THROWABLE_MESSAGE (reference (Class STRING)) is.0.object is.0.there (λ thread. no_throwable us order sound is.0.object.class is.0.fits.class is.0.stands thread) (knows.message h.known r is.0);
      text = λ h r is. other h r BUILDER_TEXT (reference (Class STRING)) is.0.object is.0.there (λ thread. no_builder us order sound is.0.object.class is.0.fits.class is.0.stands thread) (knows.text h.known r is.0);
      asks_text = λ h r is. (knows.asks_text h.known r is.0, tt);
      units = λ h r v is come. knows.units h.known r v is.0 come.0;
      text_there = λ h r is. knows.text_there h.known r is;
      asks_unit = λ h r c n i is exactly within. (knows.asks_unit h.known r c n i is exactly within, tt);
      makes_text = λ res h c units k can past type can_string words on. plain_text (executions us) us seen_make_texts res h c units k can type can_string words on;
      priorities = λ p low high. (low, high);
      priority_words = λ p is exact. omega (arith, is.1);
      asks_priority = λ h r is. ((number, priority_there h r is.0), tt);
      priority = λ h r p is come. subst IsPriority (sym (come.1.0 refl)) (same_of h r (Class THREAD) is.0 is.1 (is_thread h r is.0));
      sets_priority = λ h r p is may. (
        knows.sets_priority h.known r p is.0 (omega (arith, may.1)),
        (λ o at thread e. may, write_holds h r THREAD_PRIORITY p number (priority_there h r is.0) (λ exact. omega (arith, may.1))),
      );
      exactly = λ h r c n come. knows.exactly h.known r c n come.0;
      length_fits = λ h r c n is exact. knows.length_fits h.known r c n is exact;
      thrown = λ h r c n is exactly. (knows.thrown h.known r c n is.0 exactly, is.1);
      caught = λ h r c d is below. (knows.caught h.known r c d is.0 below, is.1);
      cast = λ h r c n d is exactly below. (knows.cast h.known r c n d is.0 exactly below, is.1);
      own = λ h r c n is exactly. (knows.own h.known r c n is.0 exactly, is.1);
      caught_all = λ h r c is. (knows.caught_all h.known r c is.0, is.1);
      selected = λ h r c n t id found is exactly private same. (knows.selected h.known r c n t id found is.0 exactly (λ p. (private p).0) same, is.1);
      class_objects = λ h c is. (knows.class_objects h.known c is, fixed_set h _ _ (follow.class_objects c is));
      literals = λ h n within. (knows.literals h.known n within, fixed_set h _ _ (follow.literals n within));
      arguments = λ h. (knows.arguments h.known, fixed_set h _ _ follow.arguments);
      main_thread = λ h. (knows.main_thread h.known, fixed_set h _ _ follow.main_thread);
      out = λ h. (knows.out h.known, fixed_set h _ _ follow.out);
      elements = λ h r c n i kind s is of test exactly within.
          others h r (element_place kind i) (element_contents kind) of.0.object of.0.there (λ thread. absurd (no_array_object of.0.object.class s (is_array_of_one (element_types kind)) (λ d. refl) (λ m. refl) test of.0.stands thread)) (knows.elements h.known r c n i kind s is of.0 test exactly within);
      references = λ h r c n i s of test exactly within.
          let (e, has, are) = knows.references h.known r c n i s of.0 test exactly within in (
            e,
            other h r i (reference e) of.0.object of.0.there (λ thread. no_array_object of.0.object.class s is_array_of_references (λ d. refl) (λ m. refl) test of.0.stands thread) has,
            record {
              up = λ h' v x more same is. (are.up h'.known v x more.objects same is.0, is.1);
              stored = λ h' v d m more is exact takes. (are.stored h'.known v d m more.objects is.0 exact takes, is.1);
            },
          );
    }
