-- Threads that go on where they are, by their numbers.
use Rattle.std.proofs.Common.{◌≡◌, ◌≢◌, ◌⊎◌, inl, inr, ℕ, Option, None, Some, List, [], ◌∷◌, ◌++◌, arith, refl, sym, ◌∙◌, ap, subst}
use Rattle.std.proofs.Math.Path.{fun_ext}
use Rattle.std.specs.Prelude.{Contains}
use Rattle.std.specs.Option.{option_map}
use Rattle.std.specs.List.{All}
use Rattle.std.proofs.lemmas.List.Elements.{All-contains, Contains-append_right, Contains-append_cases, Contains-push_cases}
use Rattle.op_core.specs.OrdinaryState.{set_at}
use Rattle.op_core.proofs.PointwiseLemmas.{set_at-at}
use Rattle.plain_words.specs.declared.plain.PlainWords.{PlainWords}
use Rattle.plain_words.specs.Table.{words_in}
use Rattle.thread_automaton.specs.ThreadState.{ThreadState}
use Rattle.thread_moves.specs.declared.thread.JThread.{JThread}
use Rattle.core_runs.specs.Cores.{Core}
use Rattle.word_machine.specs.Seats.{seat_in}
use Rattle.word_machine.specs.Machine.{IsCoreOf}
use Rattle.word_machine.specs.Resumed.{seats_with, AreThreads}
use Rattle.word_machine.proofs.SeatLemmas.{some_same}

-- one more is seated after the others
pub seats_more : {C : Type 0} (seats : ℕ → Option (JThread C)) (xs : List (JThread C)) (x : JThread C)
    → seats_with seats (xs ++ x ∷ []) ≡ set_at (seats_with seats xs) x.own.number (Some x)
seats_more seats [] x = refl
seats_more seats (y ∷ xs) x = seats_more (set_at seats y.own.number (Some y)) xs x

nowhere : {A : Type 0} (x : A) → Contains [] x → ⊥
nowhere x at = omega (arith, at.1)

-- the first of some, or one of the others
first_or_later : {A : Type 0} (y : A) (xs : List A) (x : A) → Contains (y ∷ xs) x → (y ≡ x) ⊎ Contains xs x
first_or_later y xs x at = elim (Contains-append_cases (y ∷ []) xs x at) [
  | inl one ↦ elim (Contains-push_cases [] y x one) [
    | inl none ↦ absurd (nowhere x none)
    | inr is ↦ inl is
  ]
  | inr more ↦ inr more
]

-- what is so of each of the threads that has the number, and, where none has it, of the one that was there
seated_at : {C : Type 0} (P : Option (JThread C) → Type 0) (seats : ℕ → Option (JThread C)) (xs : List (JThread C)) (t : ℕ)
    → ((x : JThread C) → Contains xs x → x.own.number ≡ t → P (Some x)) → (((x : JThread C) → Contains xs x → x.own.number ≢ t) → P (seats t)) → P (seats_with seats xs t)
seated_at P seats [] t hit none = none (λ x at. absurd (nowhere x at))
seated_at {C} P seats (y ∷ xs) t hit none = seated_at P (set_at seats y.own.number (Some y)) xs t (λ x at. hit x (Contains-append_right (y ∷ []) xs x at))
    (λ others. set_at-at P seats y.own.number (Some y) t (λ here. hit y (0, omega arith, refl) (sym here)) (λ other. none (λ x at same. elim (first_or_later y xs x at) [
      | inl is ↦ other (sym same ∙ ap (λ (z : JThread C). z.own.number) (sym is))
      | inr more ↦ others x more same
    ])))

-- each that is seated has what all have
pub all_seated : {C : Type 0} (P : JThread C → Type 0) (all : List (JThread C)) (seats : ℕ → Option (JThread C)) → seats ≡ seats_with (λ _. None) all → All P all
    → (t : ℕ) (x : JThread C) → seats t ≡ Some x → P x
all_seated {C} P all seats is has t x here = seated_at (λ o. o ≡ Some x → P x) (λ _. None) all t
    (λ y at same same_thread. subst P (some_same y x same_thread) (All-contains P all y has at)) (λ none is. absurd (cc)) (ap (λ f. f t) (sym is) ∙ here)

-- a core with these threads is in memory
pub is_core : {C S : Type 0} (meant : JThread C → ThreadState S) (words : PlainWords) (all : List (JThread C)) (places : List (Option (JThread C))) → seat_in places ≡ seats_with (λ _. None) all
    → (core : Core S) → core.words ≡ words_in words → AreThreads meant all core.threads → IsCoreOf meant words places core
is_core {C} {S} meant words all places seated core words_are are = record {
  words = words_are;
  threads = fun_ext (λ t. sym (seated_at (λ x. option_map meant x ≡ core.threads t) (λ _. None) all t
      (λ x at same. sym (ap core.threads (sym same) ∙ All-contains (λ (z : JThread C). core.threads z.own.number ≡ Some (meant z)) all x are.each at))
      (λ none. nobody t none (core.threads t) refl)))
      ∙ ap {B = ℕ → Option (ThreadState S)} (λ seats t. option_map meant (seats t)) (sym seated);
}
  where
    nobody : (t : ℕ) → ((x : JThread C) → Contains all x → x.own.number ≢ t) → (there : Option (ThreadState S)) → core.threads t ≡ there → None ≡ there
    nobody t none None is = refl
    nobody t none (Some th) is = let one = are.every t th is in absurd (none one.0 one.1 one.2)
