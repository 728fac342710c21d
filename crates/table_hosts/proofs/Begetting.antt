-- Which threads a turn hands out.
use Rattle.std.proofs.Common.{◌≡◌, ◌⊎◌, inl, inr, ℕ, List, [], ◌∷◌, ◌++◌, sym, ◌∙◌, ap, subst, arith, append-nil, append_assoc}
use Rattle.std.specs.Prelude.{Contains, nat_eq}
use Rattle.op_core.specs.ThreadCode.{Code}
use Rattle.step_port.specs.declared.answer.StepAnswer.{StepAnswer}
use Rattle.step_port.specs.declared.answer.StepAnswer.TheVariants.{Found, Done, Lost}
use Rattle.step_port.specs.declared.step.Step.{Step}
use Rattle.step_port.specs.declared.step.Step.TheVariants.{Split}
use Rattle.step_port.specs.Steps.{effect_of}
use Rattle.step_port.specs.Words.{CanAnswer}
use Rattle.thread_automaton.specs.declared.Bounds.{Bounds}
use Rattle.thread_automaton.specs.declared.Move.{Move}
use Rattle.thread_automaton.specs.declared.Move.TheVariants.{Over, Quiet, Stop, Make}
use Rattle.thread_automaton.specs.ThreadState.{ThreadState}
use Rattle.thread_automaton.specs.Told.{told}
use Rattle.core_runs.specs.declared.StepMade.{StepMade}
use Rattle.rollback_core.specs.Turn.{Says, Turned}
use Rattle.thread_moves.specs.declared.thread.JThread.{JThread}
use Rattle.rollback_core.specs.declared.turned.Turn.{Turn}
use Rattle.section_laws.proofs.CoreRunLemmas.{in_front, none_there}
use Rattle.section_laws.specs.NextSteps.{step_made}
use Rattle.table_words.specs.declared.setup.Setup.{Setup}
use Rattle.table_words.specs.declared.setup.ThreadPart.{ThreadPart}
use Rattle.table_words.specs.declared.seat.TableSeat.{TableSeat}
use Rattle.table_words.specs.Parts.{fresh_part, part_after}
use Rattle.table_words.specs.Views.{born_by}
use Rattle.table_words.specs.Ends.{handed_after, handed_numbers, HasPartOf}
use Rattle.table_words.specs.Tables.{parts_of_seat}
use Rattle.table_words.proofs.Births.{at_front, flag, same_test}
use Rattle.table_hosts.specs.Families.{HasAllHanded, Begot}
use Rattle.table_hosts.specs.declared.seated.SeatedThread.{SeatedThread}
use Rattle.table_hosts.specs.Seated.{parts_of_threads, parts_born}
use Rattle.table_hosts.proofs.Families.{has_part_left, has_part_right}

pub begot_same : {C : Type 0} (v w born : List (ThreadPart C)) → w ≡ v → Begot v w born
begot_same v w born is = record {
  numbers = λ n h. subst (λ u. HasPartOf u n) (sym is) h;
  handed = λ family old more. subst (HasAllHanded family) (sym is) old;
}

pub begot_join : {C : Type 0} (a b c xs ys : List (ThreadPart C)) → Begot a b xs → Begot b c ys → Begot a c (xs ++ ys)
begot_join a b c xs ys one two = record {
  numbers = λ n h. two.numbers n (one.numbers n h);
  handed = λ family old more. two.handed family (one.handed family old (λ n h. more n (has_part_left n xs ys h))) (λ n h. more n (has_part_right n xs ys h));
}

pub parts_of_threads-snoc : {C : Type 0} (xs : List (SeatedThread C)) (x : SeatedThread C) → parts_of_threads (xs ++ x ∷ []) ≡ parts_of_threads xs ++ parts_of_seat x.seat
parts_of_threads-snoc [] x = append-nil (parts_of_seat x.seat)
parts_of_threads-snoc (y ∷ xs) x = ap (λ ps. parts_of_seat y.seat ++ ps) (parts_of_threads-snoc xs x) ∙ sym (append_assoc (parts_of_seat y.seat) (parts_of_threads xs) (parts_of_seat x.seat))

handed_by : (step : Step) (ns : List ℕ) (n : ℕ) → Contains (handed_after step ns) n → Contains ns n ⊎ ((r q : ℕ) × (step ≡ Split n r q))
handed_by (Split m r q) ns n there = elim (in_front m n ns there) [
  | inl is ↦ inr (r, q, ap (λ i. Split i r q) is)
  | inr old ↦ inl old
]
handed_by step ns n there = inl there

pub begot_grown : {C : Type 0} (p : ThreadPart C) (m : StepMade) (born : List (ThreadPart C))
    → ((n : ℕ) → Contains (handed_after m.step (handed_numbers p.steps)) n → Contains (handed_numbers p.steps) n ⊎ HasPartOf born n) → Begot (p ∷ []) (part_after p m ∷ []) born
begot_grown p m born new = record {
  numbers = λ n h. h;
  handed = λ family old more q there n n_in. elim (in_front (part_after p m) q [] there) [
    | inl is ↦ elim (new n (subst (λ (u : ThreadPart _). Contains (handed_numbers u.steps) n) (sym is) n_in)) [
      | inl before ↦ old p (at_front p []) n before
      | inr now ↦ more n now
    ]
    | inr none ↦ none_there q none
  ];
}

module _ {C S : Type 0} (meant : JThread C → ThreadState S) (code : Code S) (b : Bounds) (k : Setup C) (th : ThreadState S) (p : ThreadPart C) (handed : Step → TableSeat C → Type 0)
    (given : (step : Step) (pass : TableSeat C) → handed step pass → parts_of_seat pass ≡ fresh_part k (born_by step) ∷ []) where
  -- a turn that hands a thread out brings its part
  brings : (n r q : ℕ) (a : StepAnswer) → CanAnswer (effect_of (Split n r q)) a → (turn : Turn C (TableSeat C))
      → Says meant code b th (Split n r q) (handed (Split n r q)) turn (told code b th (Split n r q) a) → HasPartOf (parts_born turn) n
  brings n r q (Found w) can turn says =
      let part : parts_born turn ≡ fresh_part k (born_by (Split n r q)) ∷ [] = ap parts_born says.says ∙ given (Split n r q) says.pass says.passed in
      let on : flag (nat_eq n n) ≡ 1 = ap flag (same_test n) in
      subst (λ v. HasPartOf v n) (sym part) (omega (arith, on))
  brings n r q Done can turn says = absurd can
  brings n r q (Lost v) can turn says = absurd can

  made_begot : (step : Step) (a : StepAnswer) → CanAnswer (effect_of step) a → (turn : Turn C (TableSeat C)) → Says meant code b th step (handed step) turn (told code b th step a)
      → Begot (p ∷ []) (part_after p (step_made step a) ∷ []) (parts_born turn)
  made_begot step a can turn says = begot_grown p (step_made step a) (parts_born turn) (λ n there. elim (handed_by step (handed_numbers p.steps) n there) [
    | inl before ↦ inl before
    | inr (r, q, is) ↦ inr (brings n r q a (subst (λ st. CanAnswer (effect_of st) a) is can) turn
        (subst (λ st. Says meant code b th st (handed st) turn (told code b th st a)) is says))
  ])

  pub turn_begot : (next : ThreadState S) (stepped : Step → StepAnswer → Type 0) (still : Type 0) (v : List (ThreadPart C)) (turn : Turn C (TableSeat C)) (move : Move)
      → Turned meant code b th next stepped handed still turn move
      → ((step : Step) (a : StepAnswer) → stepped step a → v ≡ part_after p (step_made step a) ∷ []) → (still → v ≡ p ∷ []) → Begot (p ∷ []) v (parts_born turn)
  turn_begot next stepped still v turn Over (quiet, at) grows stays = begot_same (p ∷ []) v (parts_born turn) (stays quiet)
  turn_begot next stepped still v turn (Stop limit) (quiet, at) grows stays = begot_same (p ∷ []) v (parts_born turn) (stays quiet)
  turn_begot next stepped still v turn Quiet (quiet, at) grows stays = begot_same (p ∷ []) v (parts_born turn) (stays quiet)
  turn_begot next stepped still v turn (Make step) at grows stays =
      subst (λ w. Begot (p ∷ []) w (parts_born turn)) (sym (grows step at.answer at.made)) (made_begot step at.answer at.kind turn at.says)
