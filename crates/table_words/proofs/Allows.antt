-- The steps of a seat, in the form in which the table asks that they keep the rule.
use Rattle.std.proofs.Common.{◌≡◌, ℕ, List, [], ◌∷◌, sym, ◌∙◌, ap, subst, true}
use Rattle.atomic_table.specs.Table.{keeps, Allows}
use Rattle.op_core.specs.ThreadCode.{Code}
use Rattle.heap_words.specs.declared.areas.Area.{Area}
use Rattle.heap_words.specs.declared.areas.Areas.{Areas}
use Rattle.heap_words.specs.Areas.{place_in, IsIn}
use Rattle.plain_words.specs.Table.{HasRoom}
use Rattle.step_port.specs.declared.step.Step.{Step}
use Rattle.step_port.specs.Steps.{place_of, effect_of, IsOwnStep}
use Rattle.step_port.specs.Words.{answer_to}
use Rattle.core_runs.specs.OwnParts.{is_beside}
use Rattle.section_laws.specs.NextSteps.{step_made}
use Rattle.table_words.specs.declared.setup.Setup.{Setup}
use Rattle.table_words.specs.declared.setup.ThreadPart.{ThreadPart}
use Rattle.table_words.specs.Setups.{setup_areas}
use Rattle.table_words.specs.Parts.{part_after, IsOwnOf, IsPartInRun}
use Rattle.table_words.specs.Views.{IsSeated, FirstMayMake}
use Rattle.table_words.specs.Rule.{HasRun}
use Rattle.table_words.specs.Plays.{MakesOwnStep, MakesThisStep}
use Rattle.table_words.proofs.Births.{HandsOutNobody, own_hands_out_nobody, own_not_beside}
use Rattle.table_words.proofs.Blocks.{word_after}
use Rattle.table_words.proofs.Growing.{beside_own}
use Rattle.table_words.proofs.Keeps.{at_set_same, in_run, own_part, found, made_now, is_found, step_kept}

-- the place of an area's word, where the area is that of a step
pub at_place : (x y : Areas) → x ≡ y → (a b : Area) → a ≡ b → (i : ℕ) → i ≡ place_in x a → place_in y b ≡ i
at_place x y same a b is i at = sym (at ∙ ap (λ (z : Area). place_in x z) is ∙ ap (λ (z : Areas). place_in z b) same)

pub there_in : (x y : Areas) → x ≡ y → (a b : Area) → a ≡ b → IsIn x a → IsIn y b
there_in x y same a b is there = subst (λ (z : Areas). IsIn z b) same (subst (λ (z : Area). IsIn x z) is there)

module _ {C S : Type 0} (state : C → S) (code : Code S) (k : Setup C) where
  self_in_run : (p : ThreadPart C) → IsPartInRun state code k p → IsPartInRun state code p.setup p
  self_in_run p r = subst (λ (j : Setup C). IsPartInRun state code j p) (sym r.is_part.setup) r

  pub may_there : (v : List (ThreadPart C)) (step : Step) → FirstMayMake state code k v step → IsIn (setup_areas k) (place_of step)
  may_there [] step may = absurd may
  may_there (p ∷ ps) step may = may.there

  -- The table tells the number `told n` for the word n that it finds: at a store, it is the one that was stored.
  module _ (slots id : ℕ) (c : List (ℕ × Unit {0})) (step : Step) (there : IsIn (setup_areas k) (place_of step)) (i : ℕ) (is_place : place_in (setup_areas k) (place_of step) ≡ i)
      (f : ℕ → ℕ) (does : word_after (effect_of step) ≡ f) (told : ℕ → ℕ) (same : (n : ℕ) → answer_to (effect_of step) n ≡ answer_to (effect_of step) (told n)) where
    abbrev AllowedAt : (ℕ → List (ThreadPart C) × List (ℕ × Unit {0}) → Type 0) → List (ThreadPart C) → ℕ → (ℕ → ℕ) → Type 0
    AllowedAt tells v j g = Allows (HasRun state code k) slots id (v, c) j g tells

    -- the same at this place, where the word becomes this
    moved : (tells : ℕ → List (ThreadPart C) × List (ℕ × Unit {0}) → Type 0) (v : List (ThreadPart C))
        → AllowedAt tells v (place_in (setup_areas k) (place_of step)) (word_after (effect_of step)) → AllowedAt tells v i f
    moved tells v given = subst (λ g. AllowedAt tells v i g) does (subst (λ j. AllowedAt tells v j (word_after (effect_of step))) is_place given)

    own_given : IsOwnStep step → (v : List (ThreadPart C)) → FirstMayMake state code k v step
        → AllowedAt (λ n. MakesOwnStep state code (v, c) (told n)) v (place_in (setup_areas k) (place_of step)) (word_after (effect_of step))
    own_given is_own [] may = absurd may
    own_given is_own (p ∷ ps) may = λ s r len at lt.
        let part = own_part state code k s r id p ps at in
        let room = subst (HasRoom (effect_of step)) (sym (is_found state code k s r id p ps at step there)) (may.room r.run r.is_run part) in
        let m = made_now state code k s r id p ps at step there in
        let after = step_kept state code k s r id p ps at step there (own_hands_out_nobody step is_own) room (may.own m.answer) in (
          part_after p m ∷ ps,
          keeps,
          tt,
          after,
          (
            step,
            own_not_beside step is_own,
            (
              ap (λ a. (part_after p (step_made step a) ∷ ps, c)) (same (found state code k s r id p ps at step there)),
              self_in_run (part_after p m) (in_run state code k _ after id (part_after p m) ps (at_set_same s.views id (p ∷ ps) (part_after p m ∷ ps) at)),
            ),
          ),
        )

    beside_given : is_beside step ≡ true → HandsOutNobody step → ((n : ℕ) → HasRoom (effect_of step) n) → (v : List (ThreadPart C)) → IsSeated k v
        → AllowedAt (λ n. MakesThisStep state code step (v, c) (told n)) v (place_in (setup_areas k) (place_of step)) (word_after (effect_of step))
    beside_given is nobody room [] seated = absurd seated
    beside_given is nobody room (p ∷ ps) seated = λ s r len at lt.
        let part = own_part state code k s r id p ps at in
        let m = made_now state code k s r id p ps at step there in
        let own : IsOwnOf state code k p.birth p.steps = subst (λ steps. IsOwnOf state code k p.birth steps) (sym part.steps) (r.is_run.own p.birth part.born) in
        let after = step_kept state code k s r id p ps at step there nobody (room _) (beside_own state code k p.birth m p.steps is own) in (
          part_after p m ∷ ps,
          keeps,
          tt,
          after,
          (
            ap (λ a. (part_after p (step_made step a) ∷ ps, c)) (same (found state code k s r id p ps at step there)),
            self_in_run (part_after p m) (in_run state code k _ after id (part_after p m) ps (at_set_same s.views id (p ∷ ps) (part_after p m ∷ ps) at)),
          ),
        )

    pub own_allowed : IsOwnStep step → (v : List (ThreadPart C)) → FirstMayMake state code k v step → Allows (HasRun state code k) slots id (v, c) i f (λ n. MakesOwnStep state code (v, c) (told n))
    own_allowed is_own v may = moved (λ n. MakesOwnStep state code (v, c) (told n)) v (own_given is_own v may)

    -- `other` is the same step, as the table tells it
    pub beside_allowed : (other : Step) → step ≡ other → is_beside step ≡ true → HandsOutNobody step → ((n : ℕ) → HasRoom (effect_of step) n) → (v : List (ThreadPart C)) → IsSeated k v
        → Allows (HasRun state code k) slots id (v, c) i f (λ n. MakesThisStep state code other (v, c) (told n))
    beside_allowed other is beside nobody room v seated = subst (λ st. Allows (HasRun state code k) slots id (v, c) i f (λ n. MakesThisStep state code st (v, c) (told n))) is
        (moved (λ n. MakesThisStep state code step (v, c) (told n)) v (beside_given beside nobody room v seated))
