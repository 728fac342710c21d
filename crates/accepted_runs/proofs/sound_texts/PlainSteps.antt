-- What a step changes that isn't one of a text in the making.
use Rattle.std.proofs.Common.{◌≡◌, ◌≢◌, ◌⊎◌, inl, inr, ℕ, true, Option, Some, List, refl, sym, ap, subst, ◌∙◌}
use Rattle.builtin_world.specs.declared.word.TheConstants.{STRING_UNITS}
use Rattle.code_decode.specs.declared.code.ClassUnit.{ClassUnit}
use Rattle.op_core.specs.declared.Op.{Op}
use Rattle.op_core.specs.declared.Op.TheVariants.{Read, Write, New}
use Rattle.op_core.specs.declared.Reply.{Reply}
use Rattle.op_core.specs.declared.Reply.TheVariants.{Value, Made, Done}
use Rattle.op_core.specs.OrdinaryState.{Object, OrdinaryState, set_at}
use Rattle.op_core.specs.OrdinaryStep.{IsStep, MayAnswer, after, objects_after, words_after}
use Rattle.op_core.proofs.PointwiseLemmas.{set_at-at, set_at-hit}
use Rattle.java_rows.specs.Thread.{Local, java_code}
use Rattle.row_soundness.specs.Fits.{Preceding}
use Rattle.row_soundness.specs.Runs.{RunsWant}
use Rattle.program_soundness.specs.Soundness.{StateFits}
use Rattle.program_soundness.proofs.StepFacts.{not_free, objects_stay}
use Rattle.accepted_runs.specs.KnownTexts.{HoldsPlain, IsString, KeepsTexts, Seen, TellsTexts}
use Rattle.accepted_runs.specs.KeptTexts.{IsArray, IsSeen, seen_in}
use Rattle.accepted_runs.proofs.sound_texts.Changes.{Changes, next, goes_on, still}
use Rattle.accepted_runs.proofs.sound_texts.TextsKnow.{holds_more}

module _ (us : List ClassUnit) (s : OrdinaryState Local) (kept : StateFits us s) (seen : IsSeen us s) (t : ℕ) (l : Local) (op : Op) (reply : Reply) (step : IsStep java_code s t l op reply) where
  abbrev now : Seen us
  now = seen_in us s seen.texts seen.fixed seen.begun

  abbrev last : OrdinaryState Local
  last = after java_code s t l op reply

  -- a String after the step was there, or is new and has no array
  pub strings_there : (r : ℕ) (o : Object) → last.objects r ≡ Some o → (s.objects r ≡ Some o) ⊎ (last.words r STRING_UNITS ≡ 0)
  strings_there r o at = by_op op reply at
    where
      by_op : (op : Op) (reply : Reply) → objects_after java_code l op reply s r ≡ Some o → (s.objects r ≡ Some o) ⊎ (words_after op reply s r STRING_UNITS ≡ 0)
      by_op (New c n) (Made q) = set_at-at (λ x. x ≡ Some o → (s.objects r ≡ Some o) ⊎ (set_at s.words q (λ _. 0) r STRING_UNITS ≡ 0)) s.objects q (Some (record { class = c; length = n; words = java_code.words l c n })) r
          (λ e at. inr (subst (λ x. set_at s.words q (λ _. 0) x STRING_UNITS ≡ 0) (sym e) (ap (λ (g : ℕ → ℕ). g STRING_UNITS) (set_at-hit s.words q (λ _. 0)))))
          (λ _ at. inl at)
      by_op _ _ = λ at. inl at

  pub array_there : (r : ℕ) → IsArray us s r → IsArray us last r
  array_there r is = record { object = is.object; there = objects_stay us s t l op reply step r is.object is.there; class = is.class }

  -- the String's array is that of a text
  pub text_of : (r : ℕ) (o : Object) → s.objects r ≡ Some o → IsString us o.class ≡ true → s.words r STRING_UNITS ≢ 0 → seen.texts (s.words r STRING_UNITS) ≡ true
  text_of r o there string some = elim (seen.strings r o there string) [ inl none ↦ absurd (some none) | inr is ↦ is ]

  module _ (keeps : KeepsTexts us now op) where
    -- a String keeps its array
    pub same_word : (r : ℕ) (o : Object) → s.objects r ≡ Some o → IsString us o.class ≡ true → last.words r STRING_UNITS ≡ s.words r STRING_UNITS
    same_word r o there string = by_op op reply step.answered keeps
      where
        by_op : (op : Op) (reply : Reply) → MayAnswer s t op reply → KeepsTexts us now op → words_after op reply s r STRING_UNITS ≡ s.words r STRING_UNITS
        by_op (New c n) (Made q) answered keeps = set_at-at (λ (g : ℕ → ℕ). g STRING_UNITS ≡ s.words r STRING_UNITS) s.words q (λ _. 0) r (λ e. absurd (not_free us s t l op reply step r q o there answered.2 e)) (λ _. refl)
        by_op (Write q j v) Done answered keeps =
            set_at-at (λ (g : ℕ → ℕ). g STRING_UNITS ≡ s.words r STRING_UNITS) s.words q (set_at (s.words q) j v) r
            (λ e. set_at-at (λ w. w ≡ s.words r STRING_UNITS) (s.words q) j v STRING_UNITS
            (λ d. absurd (keeps.0.1 o (subst (λ x. s.objects x ≡ Some o) e there) string (sym d)))
            (λ _. ap (λ x. s.words x STRING_UNITS) (sym e)))
            (λ _. refl)
        by_op _ _ answered keeps = refl

    -- the array of a text keeps its units
    same_units : (r i : ℕ) → seen.texts r ≡ true → last.words r i ≡ s.words r i
    same_units r i text = by_op op reply step.answered keeps
      where
        by_op : (op : Op) (reply : Reply) → MayAnswer s t op reply → KeepsTexts us now op → words_after op reply s r i ≡ s.words r i
        by_op (New c n) (Made q) answered keeps = set_at-at (λ (g : ℕ → ℕ). g i ≡ s.words r i) s.words q (λ _. 0) r (λ e. absurd (not_free us s t l op reply step r q (seen.arrays r text).object (seen.arrays r text).there answered.2 e)) (λ _. refl)
        by_op (Write q j v) Done answered keeps = set_at-at (λ (g : ℕ → ℕ). g i ≡ s.words r i) s.words q (set_at (s.words q) j v) r (λ e. absurd (keeps.0.0 (subst (λ x. seen.texts x ≡ true) e text))) (λ _. refl)
        by_op _ _ answered keeps = refl

    pub plain_changes : (b : Preceding) → Changes us s last seen.texts seen.texts b
    plain_changes b = record {
      grow = objects_stay us s t l op reply step;
      texts_stay = λ r is. is;
      others = λ r o there is. is;
      arrays = λ r is. array_there r (seen.arrays r is);
      strings = λ r o at string. strings_there r o at;
      word = λ r o there string. inl (same_word r o there string);
      units = λ r i o there string some. same_units (s.words r STRING_UNITS) i (text_of r o there string some);
    }

    abbrev changes : Changes us s last seen.texts seen.texts (seen.preceding t)
    changes = plain_changes (seen.preceding t)

    abbrev later : Seen us
    later = next us s last kept seen t seen.texts changes

    -- what is held in words after the step
    pub plain_words : RunsWant us s.objects op → (r i : ℕ) → HoldsPlain us (next us s last kept seen t seen.texts changes) r i (last.words r i)
    plain_words want r i = by_op op reply step.answered want keeps
      where
        stays : (q j : ℕ) → HoldsPlain us later q j (s.words q j)
        stays = still us s last kept seen t seen.texts changes

        by_op : (op : Op) (reply : Reply) → MayAnswer s t op reply → RunsWant us s.objects op → KeepsTexts us now op → HoldsPlain us later r i (words_after op reply s r i)
        by_op (New c n) (Made q) answered want keeps = set_at-at (λ (g : ℕ → ℕ). HoldsPlain us later r i (g i)) s.words q (λ _. 0) r (λ _ o x at holds away. inl refl) (λ _. stays r i)
        by_op (Write q j v) Done answered (k, has, may) keeps =
            set_at-at (λ (g : ℕ → ℕ). HoldsPlain us later r i (g i)) s.words q (set_at (s.words q) j v) r
            (λ e. set_at-at (λ w. HoldsPlain us later r i w) (s.words q) j v i
            (λ d. subst (λ x. HoldsPlain us later x i v) (sym e) (subst (λ x. HoldsPlain us later q x v) (sym d) (holds_more us now later q j v has.object has.there (goes_on us s last kept seen t seen.texts changes) keeps.1)))
            (λ _. subst (λ x. HoldsPlain us later r i (s.words x i)) e (stays r i)))
            (λ _. stays r i)
        by_op _ _ answered want keeps = stays r i

    -- what is answered
    pub plain_tells : TellsTexts us (next us s last kept seen t seen.texts changes) op reply
    plain_tells = by_op op reply step.answered refl refl
      where
        by_op : (o : Op) (a : Reply) → MayAnswer s t o a → o ≡ op → a ≡ reply → TellsTexts us later o a
        by_op (Read r i) (Value v) answered same answer = (
          subst (λ x. HoldsPlain us later r i x) (sym answered) (still us s last kept seen t seen.texts changes r i),
          λ o at string e. elim (seen.strings r o (ap (λ (g : ℕ → Option Object). g r) (unchanged (Read r i) (Value v) refl same answer) ∙ at) string) [
            | inl none ↦ inl (answered ∙ (ap (s.words r) e ∙ none))
            | inr is ↦ inr (subst (λ x. seen.texts x ≡ true) (sym (answered ∙ ap (s.words r) e)) is)
          ],
          λ e. answered ∙ (ap (s.words r) e ∙ ap (λ (w : ℕ → ℕ → ℕ). w r STRING_UNITS) (same_words (Read r i) (Value v) refl same answer)),
        )
          where
            unchanged : (o : Op) (a : Reply) → s.objects ≡ objects_after java_code l o a s → o ≡ op → a ≡ reply → s.objects ≡ objects_after java_code l op reply s
            unchanged o a is same answer = subst (λ x. s.objects ≡ objects_after java_code l op x s) answer (subst (λ x. s.objects ≡ objects_after java_code l x a s) same is)

            same_words : (o : Op) (a : Reply) → s.words ≡ words_after o a s → o ≡ op → a ≡ reply → s.words ≡ words_after op reply s
            same_words o a is same answer = subst (λ x. s.words ≡ words_after op x s) answer (subst (λ x. s.words ≡ words_after x a s) same is)
        by_op (New c n) (Made r) answered same answer = λ is. not_free us s t l op reply step r r (seen.arrays r is).object (seen.arrays r is).there answered.2 refl
        by_op _ _ answered same answer = tt
