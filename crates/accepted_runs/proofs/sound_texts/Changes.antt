-- What a step changes of Strings and of the arrays of texts.
use Rattle.std.proofs.Common.{◌≡◌, ◌≢◌, ◌⊎◌, inl, inr, ◌<◌, ℕ, Bool, true, Option, None, Some, List, refl, sym, ap, subst, ◌∙◌, arith}
use Rattle.builtin_world.specs.declared.word.TheConstants.{STRING_UNITS}
use Rattle.code_decode.specs.declared.code.ClassUnit.{ClassUnit}
use Rattle.op_core.specs.OrdinaryState.{Object, OrdinaryState}
use Rattle.java_rows.specs.Thread.{Local}
use Rattle.kept_states.specs.Kept.{Extends}
use Rattle.row_soundness.specs.Senses.{filling, naming}
use Rattle.row_soundness.specs.Fits.{Preceding, a_text}
use Rattle.row_soundness.specs.Runs.{ObjectFits, fixed_of}
use Rattle.program_soundness.specs.Soundness.{StateFits}
use Rattle.std.specs.Prelude.{is_some}
use Rattle.accepted_runs.proofs.sound_texts.TextsKnow.{holds_more}
use Rattle.accepted_runs.specs.KnownTexts.{GoesOn, HoldsPlain, IsString, Seen}
use Rattle.accepted_runs.specs.KeptTexts.{AreApart, IsArray, IsNew, IsSeen, IsUnnamed, MakingFits, array_of, seen_in, string_of}

-- from s to last: b is what the thread has of a text before the step
pub record Changes (us : List ClassUnit) (s last : OrdinaryState Local) (texts texts' : ℕ → Bool) (b : Preceding) : Type 0 where
  pub grow : Extends s.objects last.objects
  pub texts_stay : (r : ℕ) → texts r ≡ true → texts' r ≡ true
  pub others : (r : ℕ) (o : Object) → s.objects r ≡ Some o → texts' r ≡ true → texts r ≡ true
  pub arrays : (r : ℕ) → texts' r ≡ true → IsArray us last r
  -- a String was there, or has no array
  pub strings : (r : ℕ) (o : Object) → last.objects r ≡ Some o → IsString us o.class ≡ true → (s.objects r ≡ Some o) ⊎ (last.words r STRING_UNITS ≡ 0)
  -- and it has the same array, but the String that the thread names
  pub word : (r : ℕ) (o : Object) → s.objects r ≡ Some o → IsString us o.class ≡ true → (last.words r STRING_UNITS ≡ s.words r STRING_UNITS) ⊎ (b ≡ a_text (naming (last.words r STRING_UNITS) r))
  -- the units of its array stay
  pub units : (r i : ℕ) (o : Object) → s.objects r ≡ Some o → IsString us o.class ≡ true → s.words r STRING_UNITS ≢ 0 → last.words (s.words r STRING_UNITS) i ≡ s.words (s.words r STRING_UNITS) i

module _ (us : List ClassUnit) (s last : OrdinaryState Local) (kept : StateFits us s) (seen : IsSeen us s) (t : ℕ) (texts' : ℕ → Bool) (changes : Changes us s last seen.texts texts' (seen.preceding t)) where
  abbrev now : Seen us
  now = seen_in us s seen.texts seen.fixed seen.begun

  pub fixed_after : Extends (fixed_of us) last.objects
  fixed_after r o e = changes.grow r o (seen.fixed r o e)

  pub begun_after : (r : ℕ) (o : Object) → fixed_of us r ≡ Some o → texts' r ≡ true → ⊥
  begun_after r o e is = seen.begun r o e (changes.others r o (seen.fixed r o e) is)

  abbrev pub next : Seen us
  next = seen_in us last texts' fixed_after begun_after

  -- what the thread names is a new String
  named : (r q : ℕ) → seen.preceding t ≡ a_text (naming r q) → (seen.texts r ≡ true) × (IsUnnamed us s r × IsNew us s q)
  named r q e = subst (MakingFits us s seen.texts) e (seen.making t)

  -- a String keeps its array
  pub word_stays : (r : ℕ) (o : Object) → s.objects r ≡ Some o → IsString us o.class ≡ true → s.words r STRING_UNITS ≢ 0 → last.words r STRING_UNITS ≡ s.words r STRING_UNITS
  word_stays r o there string some = elim (changes.word r o there string) [
    | inl same ↦ same
    | inr e ↦ absurd (some (named (last.words r STRING_UNITS) r e).1.1.empty)
  ]

  pub goes_on : GoesOn us now next
  goes_on = record {
    objects = changes.grow;
    texts = λ r o e is. changes.texts_stay r is;
    others = changes.others;
    units = word_stays;
  }

  pub strings_after : (r : ℕ) (o : Object) → last.objects r ≡ Some o → IsString us o.class ≡ true → (last.words r STRING_UNITS ≡ 0) ⊎ (texts' (last.words r STRING_UNITS) ≡ true)
  strings_after r o at string = elim (changes.strings r o at string) [
    | inr none ↦ inl none
    | inl there ↦ elim (changes.word r o there string) [
      | inl same ↦ elim (seen.strings r o there string) [
        | inl none ↦ inl (same ∙ none)
        | inr is ↦ inr (changes.texts_stay (last.words r STRING_UNITS) (subst (λ x. seen.texts x ≡ true) (sym same) is))
      ]
      | inr e ↦ inr (changes.texts_stay (last.words r STRING_UNITS) (named (last.words r STRING_UNITS) r e).0)
    ]
  ]

  pub literals_after : (r : ℕ) (o : Object) → fixed_of us r ≡ Some o → IsString us o.class ≡ true → last.words r STRING_UNITS ≡ 0
  literals_after r o e string = elim (changes.word r o (seen.fixed r o e) string) [
    | inl same ↦ same ∙ seen.literals r o e string
    | inr names ↦ absurd ((named (last.words r STRING_UNITS) r names).1.1.fresh o e)
  ]

  -- no object has the reference 0
  array_some : (r : ℕ) → seen.texts r ≡ true → r ≡ 0 → ⊥
  array_some r is e = let fits : ObjectFits us r (seen.arrays r is).object = kept.objects r (seen.arrays r is).object (seen.arrays r is).there in let some : 0 < r = fits.some in omega (arith, some, e)

  -- ---- what another thread has of a text

  unnamed_after : (r : ℕ) → seen.texts r ≡ true → IsUnnamed us s r → ((q : ℕ) → seen.preceding t ≡ a_text (naming r q) → ⊥) → IsUnnamed us last r
  unnamed_after r is unnamed other q o at string e = elim (changes.strings q o at string) [
    | inr none ↦ array_some r is (sym e ∙ none)
    | inl there ↦ elim (changes.word q o there string) [
      | inl same ↦ unnamed q o there string (sym same ∙ e)
      | inr names ↦ other q (subst (λ x. seen.preceding t ≡ a_text (naming x q)) e names)
    ]
  ]

  new_after : (q : ℕ) → IsNew us s q → ((r : ℕ) → seen.preceding t ≡ a_text (naming r q) → ⊥) → IsNew us last q
  new_after q is other = record {
    object = is.object;
    there = changes.grow q is.object is.there;
    class = is.class;
    empty = elim (changes.word q is.object is.there is.class) [ inl same ↦ same ∙ is.empty | inr names ↦ absurd (other (last.words q STRING_UNITS) names) ];
    fresh = is.fresh;
  }

  pub making_after : (b : Preceding) → AreApart (seen.preceding t) b → MakingFits us s seen.texts b → MakingFits us last texts' b
  making_after (a_text (filling r)) apart is = (changes.texts_stay r is.0, unnamed_after r is.0 is.1 (λ q e. apart.arrays r (ap array_of e) refl))
  making_after (a_text (naming r q)) apart is = (
    changes.texts_stay r is.0,
    (unnamed_after r is.0 is.1.0 (λ p e. apart.arrays r (ap array_of e) refl), new_after q is.1.1 (λ p e. apart.strings q (ap string_of e) refl)),
  )
  making_after b apart is = tt

  -- what was there still holds the same
  pub still : (r i : ℕ) → HoldsPlain us next r i (s.words r i)
  still r i = by_object (s.objects r) refl
    where
      by_object : (o : Option Object) → s.objects r ≡ o → HoldsPlain us next r i (s.words r i)
      by_object (Some o) e = holds_more us now next r i (s.words r i) o e goes_on (seen.words r i)
      by_object None e = λ o x at holds away. inl (kept.absent r i (ap is_some e))
