-- What each step leaves of texts, and of the text that its thread makes.
use Rattle.std.proofs.Common.{◌≡◌, ◌≢◌, ◌⊎◌, inl, inr, ◌<◌, ℕ, Bool, true, Option, None, Some, List, refl, sym, ap, subst, ◌∙◌, arith}
use Rattle.std.proofs.lemmas.Option.{same_Some}
use Rattle.builtin_world.specs.declared.number.TheConstants.{STRING}
use Rattle.builtin_world.specs.declared.word.TheConstants.{STRING_UNITS}
use Rattle.code_decode.specs.declared.code.ClassUnit.{ClassUnit}
use Rattle.link_types.specs.declared.types.ObjectType.TheVariants.{Class}
use Rattle.link_types.specs.declared.types.ElementType.TheVariants.{Char}
use Rattle.link_rules.specs.Names.{program_names, type_numbered}
use Rattle.op_core.specs.declared.Op.{Op}
use Rattle.op_core.specs.declared.Op.TheVariants.{Write, New, Wait, End}
use Rattle.op_core.specs.declared.Reply.{Reply}
use Rattle.op_core.specs.declared.Reply.TheVariants.{Made, Done}
use Rattle.op_core.specs.Orderly.{IsEnd}
use Rattle.op_core.specs.OrdinaryState.{Object, OrdinaryState, set_at}
use Rattle.op_core.specs.OrdinaryStep.{IsStep, after}
use Rattle.op_core.proofs.PointwiseLemmas.{set_at-at, set_at-hit}
use Rattle.java_rows.specs.Plan.{Plan}
use Rattle.java_rows.specs.Thread.{Local, java_code}
use Rattle.row_soundness.specs.Senses.{Making, PlainSteps, filling, naming, number, reference}
use Rattle.row_soundness.specs.Fits.{Returns, Preceding, PlanFits, IsTheEnd, a_text, after_reply, anything, following, making_of}
use Rattle.link_types.specs.declared.types.ObjectType.{ObjectType}
use Rattle.row_soundness.specs.Knowledge.{element_type}
use Rattle.row_soundness.specs.Runs.{HasObject, MayStandFor, ObjectFits, WordHolds, of_numbers}
use Rattle.row_soundness.proofs.Settled.{goes_on_after}
use Rattle.row_soundness.proofs.TextsMade.{string_type}
use Rattle.row_soundness.specs.ClassesFollow.{ClassesFollow}
use Rattle.program_soundness.specs.SoundPrograms.{IsSound}
use Rattle.program_soundness.specs.Soundness.{StateFits}
use Rattle.program_soundness.proofs.StepFacts.{not_free, reply_is_true}
use Rattle.accepted_runs.specs.KnownTexts.{BeginsText, Comes, FillsText, GoesOn, HoldsPlain, IsCharArray, IsString, NamesText, Seen, TextSteps, Wants, text_sense}
use Rattle.accepted_runs.specs.KeptTexts.{AreApart, IsArray, IsNew, IsSeen, IsUnnamed, MakingFits, array_of, seen_in, string_of}
use Rattle.accepted_runs.proofs.sound_texts.Changes.{Changes, next, goes_on, still}
use Rattle.accepted_runs.proofs.sound_texts.PlainSteps.{array_there, plain_changes, plain_tells, plain_words, same_word, strings_there, text_of}
use Rattle.accepted_runs.proofs.sound_texts.StringClasses.{is_string, no_char_array}

no_array : (op : Op) (reply : Reply) → array_of (after_reply op reply) ≡ None
no_array (Wait r) Done = refl
no_array (End x) Done = refl
no_array op reply = refl

no_string : (op : Op) (reply : Reply) → string_of (after_reply op reply) ≡ None
no_string (Wait r) Done = refl
no_string (End x) Done = refl
no_string op reply = refl

nothing_made : (us : List ClassUnit) (s : OrdinaryState Local) (texts : ℕ → Bool) (op : Op) (reply : Reply) → MakingFits us s texts (after_reply op reply)
nothing_made us s texts (Wait r) Done = tt
nothing_made us s texts (End x) Done = tt
nothing_made us s texts op reply = tt

apart_from : (b c : Preceding) → array_of b ≡ None → string_of b ≡ None → AreApart b c
apart_from b c none nothing = record {
  arrays = λ r e _. let bad : None ≡ Some r = sym none ∙ e in cc;
  strings = λ q e _. let bad : None ≡ Some q = sym nothing ∙ e in cc;
}

made_is : (b : Preceding) (m : Making) → making_of b ≡ Some m → b ≡ a_text m
made_is (a_text x) m e = ap a_text (same_Some x m e)
made_is b m e = cc

-- what a thread has of a text is there
made_array : (us : List ClassUnit) (s : OrdinaryState Local) (texts : ℕ → Bool) (b : Preceding) (r : ℕ) → array_of b ≡ Some r → MakingFits us s texts b → texts r ≡ true
made_array us s texts (a_text (filling p)) r e is = subst (λ x. texts x ≡ true) (same_Some p r e) is.0
made_array us s texts (a_text (naming p q)) r e is = subst (λ x. texts x ≡ true) (same_Some p r e) is.0
made_array us s texts b r e is = cc

made_string : (us : List ClassUnit) (s : OrdinaryState Local) (texts : ℕ → Bool) (b : Preceding) (q : ℕ) → string_of b ≡ Some q → MakingFits us s texts b → IsNew us s q
made_string us s texts (a_text (naming p x)) q e is = subst (IsNew us s) (same_Some x q e) is.1.1
made_string us s texts b q e is = cc

no_reference : (t : ObjectType) → number ≡ reference t → ⊥
no_reference t e = cc

module _ (us : List ClassUnit) (s : OrdinaryState Local) (kept : StateFits us s) (seen : IsSeen us s) (t : ℕ) (l : Local) (res : Option Returns) (k : Reply → Plan) where
  abbrev now : Seen us
  now = seen_in us s seen.texts seen.fixed seen.begun

  abbrev pub last : Op → Reply → OrdinaryState Local
  last op reply = after java_code s t l op reply

  -- what comes of a step
  pub record Outcome (op : Op) (reply : Reply) : Type 0 where
    pub texts : ℕ → Bool
    pub changes : Changes us s (last op reply) seen.texts texts (seen.preceding t)
    pub words : (r i : ℕ) → HoldsPlain us (next us s (last op reply) kept seen t texts changes) r i ((last op reply).words r i)
    pub preceding : Preceding
    pub plan : PlanFits (text_sense us) us res preceding (k reply) (next us s (last op reply) kept seen t texts changes)
    pub making : MakingFits us (last op reply) texts preceding
    pub apart : (u : ℕ) → t ≢ u → AreApart preceding (seen.preceding u)
    pub goes : (IsEnd op → ⊥) → IsTheEnd preceding → ⊥

  abbrev pub After : Op → Option Making → Seen us → Reply → Type 0
  After op m h' a = PlanFits (text_sense us) us res (following op a m) (k a) h'

  array_some : (r : ℕ) → seen.texts r ≡ true → r ≡ 0 → ⊥
  array_some r is e = let fits : ObjectFits us r (seen.arrays r is).object = kept.objects r (seen.arrays r is).object (seen.arrays r is).there in let some : 0 < r = fits.some in omega (arith, some, e)

  -- ---- a step that isn't one of a text in the making

  plain_outcome : (op : Op) (reply : Reply) (step : IsStep java_code s t l op reply) → StateFits us (last op reply) → PlainSteps (GoesOn us) (Wants us) (Comes us) None now op (After op) → Outcome op reply
  plain_outcome op reply step kept_after (wants, on) =
      let changes = plain_changes us s kept seen t l op reply step wants.1 (seen.preceding t) in
      record {
        texts = seen.texts;
        changes = changes;
        words = plain_words us s kept seen t l op reply step wants.1 wants.0;
        preceding = after_reply op reply;
        plan = on (next us s (last op reply) kept seen t seen.texts changes) reply (goes_on us s (last op reply) kept seen t seen.texts changes) (reply_is_true us s t l op reply step kept kept_after, plain_tells us s kept seen t l op reply step wants.1);
        making = nothing_made us (last op reply) seen.texts op reply;
        apart = λ u other. apart_from (after_reply op reply) (seen.preceding u) (no_array op reply) (no_string op reply);
        goes = λ no_end. goes_on_after op reply no_end;
      }

  -- ---- a new object

  module _ (c n r : ℕ) (step : IsStep java_code s t l (New c n) (Made r)) where
    abbrev made : Object
    made = record { class = c; length = n; words = java_code.words l c n }

    is_free : (q : ℕ) (o : Object) → s.objects q ≡ Some o → q ≡ r → ⊥
    is_free q o there e = not_free us s t l (New c n) (Made r) step q r o there step.answered.2 e

    made_there : (last (New c n) (Made r)).objects r ≡ Some made
    made_there = set_at-hit s.objects r (Some made)

    new_changes : Changes us s (last (New c n) (Made r)) seen.texts seen.texts (seen.preceding t)
    new_changes = plain_changes us s kept seen t l (New c n) (Made r) step tt (seen.preceding t)

    new_words : (texts : ℕ → Bool) (changes : Changes us s (last (New c n) (Made r)) seen.texts texts (seen.preceding t)) (q i : ℕ) → HoldsPlain us (next us s (last (New c n) (Made r)) kept seen t texts changes) q i ((last (New c n) (Made r)).words q i)
    new_words texts changes q i =
        set_at-at (λ (g : ℕ → ℕ). HoldsPlain us (next us s (last (New c n) (Made r)) kept seen t texts changes) q i (g i)) s.words r (λ _. 0) q
        (λ _ o x at holds away. inl refl)
        (λ _. still us s (last (New c n) (Made r)) kept seen t texts changes q i)

    -- an array that no String had has none still
    still_unnamed : (p : ℕ) → (p ≡ 0 → ⊥) → ((q : ℕ) (o : Object) → s.objects q ≡ Some o → IsString us o.class ≡ true → s.words q STRING_UNITS ≢ p) → IsUnnamed us (last (New c n) (Made r)) p
    still_unnamed p some unnamed q o at string e = elim (strings_there us s kept seen t l (New c n) (Made r) step q o at) [
      | inr none ↦ some (sym e ∙ none)
      | inl there ↦ unnamed q o there string (sym (same_word us s kept seen t l (New c n) (Made r) step tt q o there string) ∙ e)
    ]

    -- the array of a text
    module _ (array : IsCharArray us c) where
      abbrev texts' : ℕ → Bool
      texts' = set_at seen.texts r true

      array_changes : Changes us s (last (New c n) (Made r)) seen.texts texts' (seen.preceding t)
      array_changes = record {
        grow = new_changes.grow;
        texts_stay = λ q is. set_at-at (λ x. x ≡ true) seen.texts r true q (λ _. refl) (λ _. is);
        others = λ q o there. set_at-at (λ x. x ≡ true → seen.texts q ≡ true) seen.texts r true q (λ e. absurd (is_free q o there e)) (λ _ is. is);
        arrays = λ q. set_at-at (λ x. x ≡ true → IsArray us (last (New c n) (Made r)) q) seen.texts r true q
            (λ e _. subst (IsArray us (last (New c n) (Made r))) (sym e) (record { object = made; there = made_there; class = array }))
            (λ _ is. new_changes.arrays q is);
        strings = new_changes.strings;
        word = new_changes.word;
        units = new_changes.units;
      }

      named_array : (q : ℕ) (o : Object) → s.objects q ≡ Some o → IsString us o.class ≡ true → s.words q STRING_UNITS ≢ r
      named_array q o there string e = elim (seen.strings q o there string) [
        | inl none ↦ omega (arith, step.answered.0, sym e ∙ none)
        | inr is ↦ is_free (s.words q STRING_UNITS) (seen.arrays (s.words q STRING_UNITS) is).object (seen.arrays (s.words q STRING_UNITS) is).there e
      ]

      begin_outcome : ((h' : Seen us) (q : ℕ) → GoesOn us now h' → After (New c n) (Some (filling q)) h' (Made q)) → Outcome (New c n) (Made r)
      begin_outcome on = record {
        texts = texts';
        changes = array_changes;
        words = new_words texts' array_changes;
        preceding = a_text (filling r);
        plan = on (next us s (last (New c n) (Made r)) kept seen t texts' array_changes) r (goes_on us s (last (New c n) (Made r)) kept seen t texts' array_changes);
        making = (set_at-hit seen.texts r true, still_unnamed r (λ e. omega (arith, step.answered.0, e)) named_array);
        apart = λ u other. record {
          arrays = λ q e its.
              let is : seen.texts q ≡ true = made_array us s seen.texts (seen.preceding u) q its (seen.making u) in
              is_free q (seen.arrays q is).object (seen.arrays q is).there (sym (same_Some r q e));
          strings = λ q e its. cc;
        };
        goes = λ no_end x. x;
      }

    -- the String of a text
    string_outcome : (p : ℕ) → seen.preceding t ≡ a_text (filling p) → IsString us c ≡ true → HasObject us (last (New c n) (Made r)).objects r (Class STRING)
        → ((h' : Seen us) (q : ℕ) → GoesOn us now h' → HasObject us h'.known.objects q (Class STRING) → (h'.texts q ≡ true → ⊥) → After (New c n) (Some (naming p q)) h' (Made q)) → Outcome (New c n) (Made r)
    string_outcome p is string has on =
        let own : (seen.texts p ≡ true) × IsUnnamed us s p = subst (MakingFits us s seen.texts) is (seen.making t) in
        record {
          texts = seen.texts;
          changes = new_changes;
          words = new_words seen.texts new_changes;
          preceding = a_text (naming p r);
          plan = on (next us s (last (New c n) (Made r)) kept seen t seen.texts new_changes) r (goes_on us s (last (New c n) (Made r)) kept seen t seen.texts new_changes) has (λ x. is_free r (seen.arrays r x).object (seen.arrays r x).there refl);
          making = (own.0, (still_unnamed p (array_some p own.0) own.1, record { object = made; there = made_there; class = string; empty = ap (λ (g : ℕ → ℕ). g STRING_UNITS) (set_at-hit s.words r (λ _. 0)); fresh = λ o e. is_free r o (seen.fixed r o e) refl }));
          apart = λ u other. record {
            arrays = λ q e its. (seen.apart t u other).arrays q (ap array_of is ∙ e) its;
            strings = λ q e its. let new : IsNew us s q = made_string us s seen.texts (seen.preceding u) q its (seen.making u) in is_free q new.object new.there (sym (same_Some r q e));
          };
          goes = λ no_end x. x;
        }

  -- ---- words of a text in the making

  module _ (order : List ℕ) (sound : IsSound us order) (follow : ClassesFollow us) (q i v : ℕ) (step : IsStep java_code s t l (Write q i v) Done) (kept_after : StateFits us (last (Write q i v) Done)) where
    abbrev wrote : OrdinaryState Local
    wrote = last (Write q i v) Done

    -- no String is the array of a text
    not_both : (p : ℕ) (o : Object) → s.objects p ≡ Some o → IsString us o.class ≡ true → seen.texts p ≡ true → ⊥
    not_both p o there string text =
        let array : IsArray us s p = seen.arrays p text in
        no_char_array us order sound array.object.class array.class (subst (λ (x : Object). IsString us x.class ≡ true) (same_Some o array.object (sym there ∙ array.there)) string)

    -- a unit of the array
    unit_outcome : (p : ℕ) → seen.preceding t ≡ a_text (filling p) → q ≡ p → ((h' : Seen us) → GoesOn us now h' → After (Write q i v) (Some (filling p)) h' Done) → Outcome (Write q i v) Done
    unit_outcome p is same on =
        record {
          texts = seen.texts;
          changes = changes;
          words = words;
          preceding = a_text (filling p);
          plan = on (next us s wrote kept seen t seen.texts changes) (goes_on us s wrote kept seen t seen.texts changes);
          making = (own.0, λ r o at string e. own.1 r o at string (sym (same_word r o at string) ∙ e));
          apart = λ u other. subst (λ x. AreApart x (seen.preceding u)) is (seen.apart t u other);
          goes = λ no_end x. x;
        }
      where
        own : (seen.texts p ≡ true) × IsUnnamed us s p
        own = subst (MakingFits us s seen.texts) is (seen.making t)

        text : seen.texts q ≡ true
        text = subst (λ x. seen.texts x ≡ true) (sym same) own.0

        same_word : (r : ℕ) (o : Object) → s.objects r ≡ Some o → IsString us o.class ≡ true → wrote.words r STRING_UNITS ≡ s.words r STRING_UNITS
        same_word r o there string =
            set_at-at (λ (g : ℕ → ℕ). g STRING_UNITS ≡ s.words r STRING_UNITS) s.words q (set_at (s.words q) i v) r (λ e. absurd (not_both r o there string (subst (λ x. seen.texts x ≡ true) (sym e) text))) (λ _. refl)

        changes : Changes us s wrote seen.texts seen.texts (seen.preceding t)
        changes = record {
          grow = λ r o e. e;
          texts_stay = λ r x. x;
          others = λ r o there x. x;
          arrays = λ r x. array_there us s kept seen t l (Write q i v) Done step r (seen.arrays r x);
          strings = λ r o at string. inl at;
          word = λ r o there string. inl (same_word r o there string);
          units = λ r j o there string some.
              set_at-at (λ (g : ℕ → ℕ). g j ≡ s.words (s.words r STRING_UNITS) j) s.words q (set_at (s.words q) i v) (s.words r STRING_UNITS) (λ e. absurd (own.1 r o there string (e ∙ same))) (λ _. refl);
        }

        -- no reference is in an array of chars
        no_references : (r j : ℕ) (o : Object) (x : ObjectType) → r ≡ q → s.objects r ≡ Some o → WordHolds us r o j (reference x) → ⊥
        no_references r j o x e at holds =
            let array : IsArray us s q = seen.arrays q text in
            let class : IsCharArray us o.class = subst (λ (y : Object). IsCharArray us y.class) (same_Some array.object o (sym array.there ∙ subst (λ z. s.objects z ≡ Some o) e at)) array.class in
            no_reference x (follow.one r j o number (reference x) (kept.objects r o at) (of_numbers j (subst (λ y. element_type y ≡ None) (sym class) refl) (1, Char, class)) holds)

        words : (r j : ℕ) → HoldsPlain us (next us s wrote kept seen t seen.texts changes) r j (wrote.words r j)
        words r j =
            set_at-at (λ (g : ℕ → ℕ). HoldsPlain us (next us s wrote kept seen t seen.texts changes) r j (g j)) s.words q (set_at (s.words q) i v) r
            (λ e o x at holds away. absurd (no_references r j o x e at holds))
            (λ _. still us s wrote kept seen t seen.texts changes r j)

    -- the word of the String
    name_outcome : (p x : ℕ) → seen.preceding t ≡ a_text (naming p x) → q ≡ x → i ≡ STRING_UNITS → v ≡ p → ((h' : Seen us) → GoesOn us now h' → h'.units x ≢ 0 → After (Write q i v) None h' Done) → Outcome (Write q i v) Done
    name_outcome p x is same place value on =
        record {
          texts = seen.texts;
          changes = changes;
          words = words;
          preceding = anything;
          plan = on (next us s wrote kept seen t seen.texts changes) (goes_on us s wrote kept seen t seen.texts changes) (λ e. array_some p own.0 (sym value ∙ (sym (subst (λ y. wrote.words y STRING_UNITS ≡ v) same written) ∙ e)));
          making = tt;
          apart = λ u other. apart_from anything (seen.preceding u) refl refl;
          goes = λ no_end y. y;
        }
      where
        own : (seen.texts p ≡ true) × (IsUnnamed us s p × IsNew us s x)
        own = subst (MakingFits us s seen.texts) is (seen.making t)

        word_is : set_at (s.words q) i v STRING_UNITS ≡ v
        word_is = subst (λ y. set_at (s.words q) y v STRING_UNITS ≡ v) (sym place) (set_at-hit (s.words q) STRING_UNITS v)

        written : wrote.words q STRING_UNITS ≡ v
        written = ap (λ (g : ℕ → ℕ). g STRING_UNITS) (set_at-hit s.words q (set_at (s.words q) i v)) ∙ word_is

        -- the String's own object
        string_at : (r : ℕ) (o : Object) → r ≡ q → s.objects r ≡ Some o → IsString us o.class ≡ true
        string_at r o e at = subst (λ (y : Object). IsString us y.class ≡ true) (same_Some own.1.1.object o (sym own.1.1.there ∙ subst (λ z. s.objects z ≡ Some o) (e ∙ same) at)) own.1.1.class

        changes : Changes us s wrote seen.texts seen.texts (seen.preceding t)
        changes = record {
          grow = λ r o e. e;
          texts_stay = λ r y. y;
          others = λ r o there y. y;
          arrays = λ r y. array_there us s kept seen t l (Write q i v) Done step r (seen.arrays r y);
          strings = λ r o at string. inl at;
          word = λ r o there string.
              set_at-at (λ (g : ℕ → ℕ). (g STRING_UNITS ≡ s.words r STRING_UNITS) ⊎ (seen.preceding t ≡ a_text (naming (g STRING_UNITS) r))) s.words q (set_at (s.words q) i v) r
              (λ e. inr (is ∙ (ap (λ y. a_text (naming y x)) (sym (word_is ∙ value)) ∙ ap (λ y. a_text (naming (set_at (s.words q) i v STRING_UNITS) y)) (sym (e ∙ same)))))
              (λ _. inl refl);
          units = λ r j o there string some.
              set_at-at (λ (g : ℕ → ℕ). g j ≡ s.words (s.words r STRING_UNITS) j) s.words q (set_at (s.words q) i v) (s.words r STRING_UNITS)
              (λ e. let array : IsArray us s (s.words r STRING_UNITS) = seen.arrays (s.words r STRING_UNITS) (text_of us s kept seen t l (Write q i v) Done step r o there string some) in
              absurd (not_both (s.words r STRING_UNITS) array.object array.there (string_at (s.words r STRING_UNITS) array.object e array.there) (text_of us s kept seen t l (Write q i v) Done step r o there string some)))
              (λ _. refl);
        }

        words : (r j : ℕ) → HoldsPlain us (next us s wrote kept seen t seen.texts changes) r j (wrote.words r j)
        words r j =
            set_at-at (λ (g : ℕ → ℕ). HoldsPlain us (next us s wrote kept seen t seen.texts changes) r j (g j)) s.words q (set_at (s.words q) i v) r
            (λ e. set_at-at (λ w. HoldsPlain us (next us s wrote kept seen t seen.texts changes) r j w) (s.words q) i v j
            (λ d o y at holds away. absurd (away (string_at r o e at) (d ∙ place)))
            (λ _. subst (λ z. HoldsPlain us (next us s wrote kept seen t seen.texts changes) r j (s.words z j)) e (still us s wrote kept seen t seen.texts changes r j)))
            (λ _. still us s wrote kept seen t seen.texts changes r j)

  -- ---- each step

  module _ (order : List ℕ) (sound : IsSound us order) (follow : ClassesFollow us) where
    begins : (op : Op) (reply : Reply) (step : IsStep java_code s t l op reply) → BeginsText us now op (After op) → Outcome op reply
    begins (New c n) (Made r) step (array, on) = begin_outcome c n r step array on
    begins (New c n) reply step is = absurd step.answered
    begins op reply step is = absurd is

    fills : (p : ℕ) → seen.preceding t ≡ a_text (filling p) → (op : Op) (reply : Reply) (step : IsStep java_code s t l op reply) → StateFits us (last op reply) → FillsText us p now op (After op) → Outcome op reply
    fills p is (Write q i v) Done step kept_after (same, on) = unit_outcome order sound follow q i v step kept_after p is same on
    fills p is (Write q i v) reply step kept_after (same, on) = absurd step.answered
    fills p is (New c n) (Made r) step kept_after (same, on) =
        let there = made_there c n r step in
        let fits : ObjectFits us r (made c n r step) = kept_after.objects r (made c n r step) there in
        let stands : MayStandFor us c (Class STRING) = subst (λ x. MayStandFor us c x) (ap (type_numbered (program_names us)) same ∙ string_type us) (follow.own c fits.class) in
        string_outcome c n r step p is (is_string us order sound c fits.class stands) (record { object = made c n r step; there = there; fits = fits; stands = stands }) on
    fills p is (New c n) reply step kept_after (same, on) = absurd step.answered
    fills p is op reply step kept_after wrong = absurd wrong

    names : (p x : ℕ) → seen.preceding t ≡ a_text (naming p x) → (op : Op) (reply : Reply) (step : IsStep java_code s t l op reply) → StateFits us (last op reply) → NamesText us p x now op (After op) → Outcome op reply
    names p x is (Write q i v) Done step kept_after (same, place, value, on) = name_outcome order sound follow q i v step kept_after p x is same place value on
    names p x is (Write q i v) reply step kept_after wrong = absurd step.answered
    names p x is op reply step kept_after wrong = absurd wrong

    pub outcome : (op : Op) (reply : Reply) (step : IsStep java_code s t l op reply) → StateFits us (last op reply) → TextSteps us (making_of (seen.preceding t)) now op (After op) → Outcome op reply
    outcome op reply step kept_after steps = by_making (making_of (seen.preceding t)) refl steps
      where
        by_making : (m : Option Making) → making_of (seen.preceding t) ≡ m → TextSteps us m now op (After op) → Outcome op reply
        by_making None e (inl plain) = plain_outcome op reply step kept_after plain
        by_making None e (inr text) = begins op reply step text
        by_making (Some (filling p)) e text = fills p (made_is (seen.preceding t) (filling p) e) op reply step kept_after text
        by_making (Some (naming p x)) e text = names p x (made_is (seen.preceding t) (naming p x) e) op reply step kept_after text
