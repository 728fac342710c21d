-- In runs all is known that the rows need.
use Rattle.std.proofs.Common.{◌≡◌, inl, inr, ℕ, suc, ◌<◌, ◌^◌, true, List, [], ◌∷◌, Some, refl, sym, ap, subst, ◌∙◌, arith}
use Rattle.std.proofs.lemmas.Option.{same_Some}
use Rattle.builtin_world.specs.declared.number.TheConstants.{OBJECT, THREAD, THROWABLE, CLASS, STRING, PRINT_STREAM}
use Rattle.builtin_world.specs.declared.word.TheConstants.{STRING_UNITS, THREAD_PRIORITY}
use Rattle.code_decode.specs.declared.code.ClassUnit.{ClassUnit}
use Rattle.link_types.specs.declared.types.ObjectType.{ObjectType}
use Rattle.link_types.specs.declared.types.ObjectType.TheVariants.{Class}
use Rattle.link_rules.specs.FixedObjects.{class_object}
use Rattle.link_rules.specs.Names.{program_names, type_numbered}
use Rattle.op_core.specs.declared.Op.{Op}
use Rattle.op_core.specs.declared.Op.TheVariants.{ClassOf, Read, Write, New, Enter, Exit, Wait, Rewake, Notify, Start, Join}
use Rattle.op_core.specs.declared.Reply.{Reply}
use Rattle.op_core.specs.Replies.{Fits}
use Rattle.op_core.specs.OrdinaryState.{Object}
use Rattle.java_rows.specs.Program.{is_subclass}
use Rattle.row_soundness.specs.Senses.{Content, number, reference, WordFits}
use Rattle.row_soundness.specs.Texts.{char_array}
use Rattle.row_soundness.specs.Knowledge.{Knows, HasWords, CanBeMade}
use Rattle.kept_states.specs.Kept.{Objects, Extends, IsObject, IsTrueReply}
use Rattle.row_soundness.specs.Runs.{ObjectFits, WordHolds, HasAny, HasObject, HasWordFor, MayStand, MayStandFor, RunsWant, Known, runs}
use Rattle.row_soundness.specs.ClassesFollow.{HasEach, IsFixed, HasElement, ClassesFollow}
use Rattle.row_soundness.proofs.TextsMade.{MakesTexts, plain_text, string_type}
use Rattle.instructions.specs.declared.operation.ElementKind.TheVariants as elements
use Rattle.op_core.specs.declared.Reply.TheVariants as replies

module _ (us : List ClassUnit) (follow : ClassesFollow us) where
  any_more : (h h' : Objects) (r : ℕ) → Extends h h' → HasAny us h r → HasAny us h' r
  any_more h h' r more is = record { object = is.object; there = more r is.object is.there; fits = is.fits }

  abbrev object_more : (h h' : Objects) (r : ℕ) (t : ObjectType) → Extends h h' → HasObject us h r t → HasObject us h' r t
  object_more h h' r t more is = record { object = is.object; there = more r is.object is.there; fits = is.fits; stands = is.stands }

  word_more : (h h' : Objects) (r i : ℕ) (k : Content) → Extends h h' → HasWordFor us h r i k → HasWordFor us h' r i k
  word_more h h' r i k more is = record { object = is.object; there = more r is.object is.there; fits = is.fits; holds = is.holds; within = is.within; spared = is.spared }

  stand_more : (h h' : Objects) (r i v : ℕ) (k : Content) → Extends h h' → HasWordFor us h r i k → MayStand us h r i v → MayStand us h' r i v
  stand_more h h' r i v k more has may = (
    may.0,
    λ o t at holds.
        let same : has.object ≡ o = same_Some has.object o (sym (more r has.object has.there) ∙ at) in
        elim (may.1 o t (subst (λ (x : Object). h r ≡ Some x) same has.there) holds) [ inl null ↦ inl null | inr is ↦ inr (object_more h h' v t more is) ],
  )

  want_more : (h h' : Objects) (op : Op) → Extends h h' → RunsWant us h op → RunsWant us h' op
  want_more h h' (ClassOf r) more is = any_more h h' r more is
  want_more h h' (Read r i) more (k, is) = (k, word_more h h' r i k more is)
  want_more h h' (Write r i v) more (k, is, may) = (k, word_more h h' r i k more is, stand_more h h' r i v k more is may)
  want_more h h' (New c n) more is = is
  want_more h h' (Enter r) more is = any_more h h' r more is
  want_more h h' (Exit r) more is = any_more h h' r more is
  want_more h h' (Wait r) more is = any_more h h' r more is
  want_more h h' (Rewake r) more is = any_more h h' r more is
  want_more h h' (Notify r) more is = any_more h h' r more is
  want_more h h' (Start r p) more (is, low) = (object_more h h' r (Class THREAD) more is, low)
  want_more h h' (Join r) more is = object_more h h' r (Class THREAD) more is
  want_more h h' op more is = is

  true_fits : (h : Objects) (op : Op) (reply : Reply) → IsTrueReply (ObjectFits us) (MayStand us) h op reply → Fits op reply
  true_fits h (ClassOf r) (replies.Class c n) come = tt
  true_fits h (Read r i) (replies.Value v) come = tt
  true_fits h (New c n) (replies.Made r) come = tt
  true_fits h op reply come = come

  read_fits : (h : Known us) (r i v : ℕ) (k : Content) → HasWordFor us h.objects r i k → MayStand us h.objects r i v → WordFits (runs us) h v k
  read_fits h r i v number has may = λ exact. may.0
  read_fits h r i v (reference t) has may = may.1 has.object t has.there has.holds

  -- a word may be written where it fits what is held there, which is one content
  may_write : (h : Known us) (r i v : ℕ) (k : Content) → HasWordFor us h.objects r i k → WordFits (runs us) h v k → MayStand us h.objects r i v
  may_write h r i v k has fits = (
    small k fits,
    λ o t at holds.
        let same : has.object ≡ o = same_Some has.object o (sym has.there ∙ at) in
        let one : k ≡ reference t = follow.one r i o k (reference t) (subst (λ x. ObjectFits us r x) same has.fits) (subst (λ x. WordHolds us r x i k) same has.holds) holds in
        subst (λ x. WordFits (runs us) h v x) one fits,
  )
    where
      small : (k : Content) → WordFits (runs us) h v k → v < 2 ^ 32
      small number fits = fits tt
      small (reference t) fits = elim fits [ inl null ↦ omega (arith, null) | inr is ↦ is.fits.small ]

  each_word : (h : Objects) (r i : ℕ) (o : Object) (ks : List Content) (k : Known us) → k.objects r ≡ Some o → ObjectFits us r o → HasEach us r o i ks → HasWords (runs us) k r i ks
  each_word h r i o [] k there fits has = tt
  each_word h r i o (c ∷ ks) k there fits has =
      (record { object = o; there = there; fits = fits; holds = has.0.holds; within = has.0.within; spared = has.0.spared }, each_word h r (suc i) o ks k there fits has.1)

  fixed_there : (h : Known us) (r : ℕ) (t : ObjectType) → IsFixed us r t → HasObject us h.objects r t
  fixed_there h r t is = record { object = is.object; there = h.fixed r is.object is.there; fits = is.fits; stands = is.stands }

  priority_there : (h : Known us) (r : ℕ) → HasObject us h.objects r (Class THREAD) → HasWordFor us h.objects r THREAD_PRIORITY number
  priority_there h r is = let one = follow.priority r is.object is.fits is.stands in record { object = is.object; there = is.there; fits = is.fits; holds = one.holds; within = one.within; spared = one.spared }

  -- the word of a String, and a unit of its array
  pub units_there : (h : Known us) (r : ℕ) → HasObject us h.objects r (Class STRING) → HasWordFor us h.objects r STRING_UNITS (reference char_array)
  units_there h r is = let one = follow.units r is.object is.fits is.stands in record { object = is.object; there = is.there; fits = is.fits; holds = one.holds; within = one.within; spared = one.spared }

  -- the object whose class and length were answered is the one that is there
  same_object : (h : Objects) (r c n : ℕ) (t : ObjectType) (of : HasObject us h r t) (is : IsObject (ObjectFits us) h r c n) → of.object ≡ is.object
  same_object h r c n t of is = same_Some of.object is.object (sym of.there ∙ is.there)

  pub unit_there : (h : Known us) (r c n i : ℕ) → HasObject us h.objects r char_array → IsObject (ObjectFits us) h.objects r c n → i < n → HasWordFor us h.objects r i number
  unit_there h r c n i of exactly within =
      let same = same_object h.objects r c n char_array of exactly in
      (each_word h.objects r i of.object (number ∷ []) h of.there of.fits (follow.elements r i of.object elements.Char char_array tt of.fits of.stands refl (omega (arith, within, ap (λ (o : Object). o.length) same, exactly.length)))).0

  -- a new object is of its class
  abbrev new_object : (h : Known us) (c n r : ℕ) → CanBeMade us c n → IsObject (ObjectFits us) h.objects r c n → HasObject us h.objects r (type_numbered (program_names us) c)
  new_object h c n r can come = record { object = come.object; there = come.there; fits = come.stands; stands = subst (λ x. MayStandFor us x (type_numbered (program_names us) c)) (sym come.class) (follow.own c can.class) }

  pub runs_make_texts : MakesTexts (runs us) us
  runs_make_texts = record {
    itself = λ h r o e. e;
    both = λ h h' h'' more more' r o e. more' r o (more r o e);
    fits = λ h op reply come. true_fits h.objects op reply come;
    asks = λ res h op k follows may next. (follows, (may, next));
    of_more = λ h h' r more is. object_more h.objects h'.objects r char_array more is;
    exactly_more = λ h h' r c n more is. record { object = is.object; there = more r is.object is.there; class = is.class; length = is.length; stands = is.stands };
    string_more = λ h h' r more is. object_more h.objects h'.objects r (Class STRING) more is;
    makes = λ h c n can. can;
    array = λ h c n r can type come. subst (λ t. HasObject us h.objects r t) type (new_object h c n r can come);
    exactly = λ h c n r come. come;
    string = λ h r can come. subst (λ t. HasObject us h.objects r t) (string_type us) (new_object h STRING 0 r can come);
    unit = λ h r c n i v of exactly within small. let has = unit_there h r c n i of exactly within in (number, has, may_write h r i v number has (λ exact. small));
    name = λ h s r is of. let has = units_there h s is in (reference char_array, has, may_write h s STRING_UNITS r (reference char_array) has (inr of));
  }

  pub runs_know : Knows (runs us) us
  runs_know = record {
    itself = λ h r o e. e;
    both = λ h h' h'' more more' r o e. more' r o (more r o e);
    there_more = λ h h' r more is. any_more h.objects h'.objects r more is;
    raw_more = λ h h' r t more is. object_more h.objects h'.objects r t more is;
    of_more = λ h h' r t more is. object_more h.objects h'.objects r t more is;
    exactly_more = λ h h' r c n more is. record { object = is.object; there = more r is.object is.there; class = is.class; length = is.length; stands = is.stands };
    thrown_more = λ h h' r c more is. record { object = is.object; there = more r is.object is.there; fits = is.fits; class = is.class; can = is.can };
    word_more = λ h h' r i k more is. word_more h.objects h'.objects r i k more is;
    text_more = λ h h' r more is. object_more h.objects h'.objects r char_array more is;
    want_more = λ h h' op more is. want_more h.objects h'.objects op more is;
    asks = λ res b h op k follows none may next. (follows, (may, next));
    asks_more = λ res b h h' op k more fits. (fits.0, (want_more h.objects h'.objects op more fits.1.0, λ h'' reply more' come. fits.1.1 h'' reply (λ r o e. more' r o (more r o e)) come));
    fits = λ h op reply come. true_fits h.objects op reply come;
    small = λ h r is exact. is.fits.small;
    up = λ h r s t is e. record { object = is.object; there = is.there; fits = is.fits; stands = follow.up is.object.class s t is.fits.class e is.stands };
    raw_of = λ h r t is. is;
    raw_super = λ h r c file is. record { object = is.object; there = is.there; fits = is.fits; stands = follow.above c is.object.class file is.fits.class is.stands };
    there_of = λ h r t is. record { object = is.object; there = is.there; fits = is.fits };
    set = λ h r c d raw is. raw;
    looks = λ h r is. is;
    enters = λ h r is. is;
    exits = λ h r is. is;
    waits = λ h r is. is;
    rewakes = λ h r is. is;
    notifies = λ h r is. is;
    prints = λ h line fits. tt;
    starts = λ h r p is may. (is, omega arith);
    joins = λ h r is. is;
    inits = λ h c file. file;
    settles = λ h c ok file. file;
    ends = λ h x. tt;
    makes = λ h c n can. can;
    made = λ h c n r can come. new_object h c n r can come;
    made_array = λ h c n r can array come. new_object h c n r can come;
    made_object = λ h r c right is. record { object = is.object; there = is.there; fits = is.fits; stands = follow.top is.object.class };
    made_throwable = λ h r c below is. is;
    made_thread = λ h r p is may come. is;
    made_thrown = λ h c r throwable come. record { object = come.object; there = come.there; fits = come.stands; class = come.class; can = follow.exceptions c throwable };
    made_exactly = λ h c n r come. come;
    reads = λ h r i k has. (k, has);
    read = λ h r i v k has come. read_fits h r i v k has come;
    writes = λ h r i v k has fits. (k, has, may_write h r i v k has fits);
    fields = λ h r f is raw. each_word h.objects r f.place raw.object _ h raw.there raw.fits (follow.object_field r raw.object f is raw.fits raw.stands);
    statics = λ h f is. let (fixed, each) = follow.class_field f is in each_word h.objects (class_object (program_names us) f.owner) f.place fixed.object _ h (h.fixed _ fixed.object fixed.there) fixed.fits each;
    target = λ h r is. let one = follow.target r is.object is.fits is.stands in record { object = is.object; there = is.there; fits = is.fits; holds = one.holds; within = one.within; spared = one.spared };
    message = λ h r is. let one = follow.message r is.object is.fits is.stands in record { object = is.object; there = is.there; fits = is.fits; holds = one.holds; within = one.within; spared = one.spared };
    text = λ h r is. let one = follow.text r is.object is.fits is.stands in record { object = is.object; there = is.there; fits = is.fits; holds = one.holds; within = one.within; spared = one.spared };
    asks_text = λ h r is. (reference char_array, units_there h r is);
    units = λ h r v is come. let one = units_there h r is in come.1 one.object char_array one.there one.holds;
    text_there = λ h r is. record { object = is.object; there = is.there; fits = is.fits };
    asks_unit = λ h r c n i is exactly within. (number, unit_there h r c n i is exactly within);
    makes_text = λ res h c units k can past type can_string words on. plain_text (runs us) us runs_make_texts res h c units k can type can_string words on;
    priorities = λ p low high. omega (arith, high);
    priority_words = λ p is exact. is;
    asks_priority = λ h r is. (number, priority_there h r is);
    priority = λ h r p is come. come.0;
    sets_priority = λ h r p is may. (number, priority_there h r is, may_write h r THREAD_PRIORITY p number (priority_there h r is) (λ exact. may));
    exactly = λ h r c n come. come;
    length_fits = λ h r c n is exact. omega (arith, is.length, is.stands.length);
    thrown = λ h r c n is exactly.
        record {
          object = exactly.object;
          there = exactly.there;
          fits = exactly.stands;
          class = exactly.class;
          can = subst (λ x. is_subclass us x THROWABLE ≡ true) (ap (λ (o : Object). o.class) (same_object h.objects r c n (Class THROWABLE) is exactly) ∙ exactly.class) (follow.throwable is.object.class is.fits.class is.stands);
        };
    caught = λ h r c d is below. record { object = is.object; there = is.there; fits = is.fits; stands = subst (λ x. MayStandFor us x (type_numbered (program_names us) d)) (sym is.class) (follow.below c d below) };
    cast = λ h r c n d is exactly below. record { object = exactly.object; there = exactly.there; fits = exactly.stands; stands = subst (λ x. MayStandFor us x (type_numbered (program_names us) d)) (sym exactly.class) (follow.below c d below) };
    own = λ h r c n is exactly. record { object = exactly.object; there = exactly.there; fits = exactly.stands; stands = subst (λ x. MayStandFor us exactly.object.class (type_numbered (program_names us) x)) exactly.class (follow.own exactly.object.class exactly.stands.class) };
    caught_all = λ h r c is. record { object = is.object; there = is.there; fits = is.fits; stands = subst (λ x. MayStandFor us x (Class THROWABLE)) (sym is.class) (follow.below_throwable c is.can) };
    selected = λ h r c n t id found is exactly private same.
        record {
          object = exactly.object;
          there = exactly.there;
          fits = exactly.stands;
          stands = subst (λ x. MayStandFor us x (Class found.class)) (sym exactly.class)
              (follow.selected c id found (subst (λ x. Rattle.link_rules.specs.Names.is_class_number (program_names us) x ≡ true) exactly.class exactly.stands.class)
              (λ p. let own = private p in subst (λ x. MayStandFor us x (Class id.class)) (ap (λ (o : Object). o.class) (same_object h.objects r c n (Class id.class) own exactly) ∙ exactly.class) own.stands) same);
        };
    class_objects = λ h c is. fixed_there h _ (Class CLASS) (follow.class_objects c is);
    literals = λ h n within. fixed_there h _ (Class STRING) (follow.literals n within);
    out = λ h. fixed_there h _ (Class PRINT_STREAM) follow.out;
    arguments = λ h. fixed_there h _ _ follow.arguments;
    main_thread = λ h. fixed_there h _ (Class THREAD) follow.main_thread;
    elements = λ h r c n i kind s is of test exactly within.
        let same = same_object h.objects r c n s of exactly in
        each_word h.objects r _ of.object _ h of.there of.fits (follow.elements r i of.object kind s is of.fits of.stands test (omega (arith, within, ap (λ (o : Object). o.length) same, exactly.length)));
    references = λ h r c n i s of test exactly within.
        let same = same_object h.objects r c n s of exactly in
        let element : HasElement us r of.object i s = follow.references r i of.object s of.fits of.stands test (omega (arith, within, ap (λ (o : Object). o.length) same, exactly.length)) in (
          element.type,
          record { object = of.object; there = of.there; fits = of.fits; holds = element.one.holds; within = element.one.within; spared = element.one.spared },
          record {
            up = λ h' v x more e is. record { object = is.object; there = is.there; fits = is.fits; stands = element.up is.object.class x is.fits.class e is.stands };
            stored = λ h' v d m more is exact takes.
                let own = same_object h'.objects v d m (Class OBJECT) is exact in
                record {
                  object = exact.object;
                  there = exact.there;
                  fits = exact.stands;
                  stands = element.stored exact.object.class exact.stands.class (subst (λ x. Rattle.java_rows.specs.Program.takes_element us x exact.object.class ≡ true) (sym (ap (λ (o : Object). o.class) same ∙ exactly.class)) (subst (λ x. Rattle.java_rows.specs.Program.takes_element us c x ≡ true) (sym exact.class) takes));
                };
          },
        );
  }
