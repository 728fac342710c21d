-- Rules that are decided one after another.
use Rattle.std.proofs.Common.{◌≡◌, ℕ, ◌+◌, ◌<◌, ◌≤◌, List, length, Some, slice_get, inl, inr, refl, sym, subst, arith}
use Rattle.std.proofs.lemmas.Bool.{cases_lt}
use Rattle.std.proofs.lemmas.Option.{slice_get_within}
use Rattle.rules.specs.Rules.{Rules, ◌then◌, each}
use Rattle.rules.proofs.SharpLaws.{same_item}
use Rattle.program_accept.specs.declared.refusal.AcceptRefusal.{AcceptRefusal}
use Rattle.program_accept.specs.declared.refusal.AcceptRefusal.TheVariants.{NoMemory}
use Rattle.program_accept.specs.Answers.{Passes, Fails}

-- ---- one after another

pub first_fails : (a b : Rules AcceptRefusal) (e : AcceptRefusal) → Fails a e → Fails (a then b) e
first_fails a b e fails = record {
  refused = elim fails.refused [ inl none ↦ inl none | inr broken ↦ inr (inl broken) ];
  only = λ other its. elim its [
    | inl first ↦ fails.only other first
    | inr second ↦ inl (fails.broken second.0)
  ];
  broken = λ holds. fails.broken holds.0;
}

pub second_passes : {A : Type 0} (a b : Rules AcceptRefusal) → ((e : AcceptRefusal) → ¬ a.Refuse e) → a.Hold → Passes b A → Passes (a then b) A
second_passes a b none holds passes = record {
  hold = (holds, passes.hold);
  is = passes.is;
  none = λ e its. elim its [ inl first ↦ none e first | inr second ↦ passes.none e second.1 ];
}

pub second_fails : (a b : Rules AcceptRefusal) (e : AcceptRefusal) → ((d : AcceptRefusal) → ¬ a.Refuse d) → a.Hold → Fails b e → Fails (a then b) e
second_fails a b e none holds fails = record {
  refused = elim fails.refused [ inl memory ↦ inl memory | inr broken ↦ inr (inr (holds, broken)) ];
  only = λ other its. elim its [ inl first ↦ absurd (none other first) | inr second ↦ fails.only other second.1 ];
  broken = λ both. fails.broken both.1;
}

-- ---- one item after another

abbrev pub PassBelow : {X : Type 0} → (ℕ → X → Rules AcceptRefusal) → List X → ℕ → Type 0
PassBelow {X} rules xs end = (i : ℕ) (x : X) → i < end → slice_get xs i ≡ Some x → Passes (rules i x) (Unit {0})

pub none_yet : {X : Type 0} (rules : ℕ → X → Rules AcceptRefusal) (xs : List X) → PassBelow rules xs 0
none_yet rules xs i x lt at = absurd (omega (arith, lt))

pub one_more : {X : Type 0} (rules : ℕ → X → Rules AcceptRefusal) (xs : List X) (end : ℕ) (x : X) → slice_get xs end ≡ Some x → PassBelow rules xs end → Passes (rules end x) (Unit {0}) → PassBelow rules xs (end + 1)
one_more {X} rules xs end x at below here i y lt there =
    elim (cases_lt i end) [
      | inl less ↦ below i y less there
      | inr more ↦
          let same : end ≡ i = omega (arith, lt, more) in
          let item : x ≡ y = same_item xs end i x y same at there in
          let P : ℕ → Type 0 = λ k. Passes (rules k x) (Unit {0}) in
          let Q : X → Type 0 = λ z. Passes (rules i z) (Unit {0}) in
          subst Q item (subst P same here)
    ]

pub each_passes : {X : Type 0} (rules : ℕ → X → Rules AcceptRefusal) (xs : List X) (end : ℕ) (Is : Type 0) → length xs ≤ end → PassBelow rules xs end → Is → Passes (each rules xs) Is
each_passes {X} rules xs end Is le below is =
    let inside : (i : ℕ) (x : X) → slice_get xs i ≡ Some x → i < end = λ i x at. (let lt = slice_get_within xs i x at in omega (arith, lt, le)) in
    record {
      hold = λ i x at. (below i x (inside i x at) at).hold;
      is = is;
      none = λ e its. (below its.0 its.1 (inside its.0 its.1 its.2) its.2).none e its.4;
    }

pub each_fails : {X : Type 0} (rules : ℕ → X → Rules AcceptRefusal) (xs : List X) (i : ℕ) (x : X) (e : AcceptRefusal) → slice_get xs i ≡ Some x → PassBelow rules xs i → Fails (rules i x) e → Fails (each rules xs) e
each_fails {X} rules xs i x e at below fails = record {
  refused = elim fails.refused [
    | inl memory ↦ inl memory
    | inr broken ↦ inr (i, x, at, (λ j y lt there. (below j y lt there).hold), broken)
  ];
  only = λ other its. elim (cases_lt its.0 i) [
    | inl before ↦ absurd ((below its.0 its.1 before its.2).none other its.4)
    | inr le ↦ elim (cases_lt i its.0) [
      | inl behind ↦ inl (fails.broken (its.3 i x behind at))
      | inr ge ↦
          let same : its.0 ≡ i = omega (arith, le, ge) in
          let item : its.1 ≡ x = same_item xs its.0 i its.1 x same its.2 at in
          let P : ℕ → Type 0 = λ k. (rules k its.1).Refuse other in
          let Q : X → Type 0 = λ y. (rules i y).Refuse other in
          fails.only other (subst Q item (subst P same its.4))
    ]
  ];
  broken = λ holds. fails.broken (holds i x at);
}

pub passes_as : {A B : Type 0} (rules : Rules AcceptRefusal) → (A → B) → Passes rules A → Passes rules B
passes_as rules turn passes = record { hold = passes.hold; is = turn passes.is; none = passes.none }

-- where memory runs out, nothing is said of the rules
pub no_memory : (rules : Rules AcceptRefusal) → Fails rules NoMemory
no_memory rules = record { refused = inl refl; only = λ other broken. inl refl; broken = λ holds. refl }

pub memory_fails : (rules : Rules AcceptRefusal) (e : AcceptRefusal) → e ≡ NoMemory → Fails rules e
memory_fails rules e none = subst (Fails rules) (sym none) (no_memory rules)

pub only_passes : {A : Type 0} (rules : Rules AcceptRefusal) → Passes rules A → Passes rules (Unit {0})
only_passes rules passes = record { hold = passes.hold; is = tt; none = passes.none }
