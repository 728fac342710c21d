-- Silent steps of one thread: each is a turn of its own, and they let the same threads go on.
use Rattle.std.proofs.Common.{◌≡◌, ◌≢◌, ◌↔◌, inl, inr, ℕ, zero, suc, Some, refl, sym, ◌∙◌, ap, subst}
use Rattle.op_core.specs.declared.Op.{Op}
use Rattle.op_core.specs.declared.Op.TheVariants.{New, Enter, Start, Join}
use Rattle.op_core.specs.declared.Next.{Next}
use Rattle.op_core.specs.declared.Next.TheVariants.{Want}
use Rattle.op_core.specs.declared.Next.TheVariants as next
use Rattle.op_core.specs.declared.Limits.{Limits}
use Rattle.op_core.specs.declared.Limit.{Limit}
use Rattle.op_core.specs.declared.Limit.TheVariants.{Heap, Threads, Depth}
use Rattle.op_core.specs.ThreadCode.{Code, quiet_to, quiet_step, quiet_steps}
use Rattle.op_core.specs.OrdinaryState.{set_at, Thread, unused, live, HasEnded}
use Rattle.op_core.specs.OrdinaryStep.{IsFreeNumber, CanStep}
use Rattle.op_core.proofs.PointwiseLemmas.{same_or_other, set_at-hit, set_at-other}
use Rattle.ordinary_machine.specs.Machine.{Machine, HasBegun, with_thread_at}
use Rattle.ordinary_machine.specs.Advance.{OpMeets, IsWaiting, HasHalted, MayAdvance}
use Rattle.ordinary_machine.proofs.DecidedLemmas.{silent_may}
use Rattle.ordinary_machine.proofs.SilentLemmas.{and_then_some}

-- the machine with other threads and other counts of silent steps
abbrev with_threads : {S : Type 0} → Machine S → (ℕ → Thread S) → (ℕ → ℕ) → Machine S
with_threads m threads silents = record m { now = record m.now { threads = threads }; silents = silents }

-- The same numbers are free, and the same threads have ended.
record IsAlike {S : Type 0} (f g : ℕ → Thread S) : Type 0 where
  free : (n : ℕ) → IsFreeNumber f n → IsFreeNumber g n
  ends : (n : ℕ) → HasEnded (f n) → HasEnded (g n)

can_alike : {S : Type 0} (m : Machine S) (f g : ℕ → Thread S) (c d : ℕ → ℕ) (t : ℕ) (op : Op) → IsAlike f g → CanStep (with_threads m f c).now t op → CanStep (with_threads m g d).now t op
can_alike m f g c d t (Start r p) alike (there, inl started) = (there, inl started)
can_alike m f g c d t (Start r p) alike (there, inr (n, free)) = (there, inr (n, alike.free n free))
can_alike m f g c d t (Join r) alike (there, inl none) = (there, inl none)
can_alike m f g c d t (Join r) alike (there, inr over) = (there, inr (alike.ends (m.now.starts r) over))
can_alike m f g c d t _ alike can = can

meets_alike : {S : Type 0} (code : Code S) (m : Machine S) (f g : ℕ → Thread S) (c d : ℕ → ℕ) (t : ℕ) (l : S) (limits : Limits) (op : Op) (limit : Limit) → IsAlike g f
    → OpMeets code (with_threads m f c) t l limits op limit → OpMeets code (with_threads m g d) t l limits op limit
meets_alike code m f g c d t l limits (New k n) Heap alike meets = meets
meets_alike code m f g c d t l limits (Start r p) Threads alike (there, none, full) = (there, none, λ n free. full n (alike.free n free))
meets_alike code m f g c d t l limits (Enter r) Depth alike meets = meets
meets_alike code m f g c d t l limits _ _ alike meets = absurd meets

waits_alike : {S : Type 0} (code : Code S) (m : Machine S) (f g : ℕ → Thread S) (c d : ℕ → ℕ) (t : ℕ) (limits : Limits) → IsAlike f g → IsAlike g f → f t ≡ g t
    → IsWaiting code (with_threads m g d) t limits → IsWaiting code (with_threads m f c) t limits
waits_alike code m f g c d t limits alike back same waits = record {
  place = waits.place;
  op = waits.op;
  begun = same ∙ waits.begun;
  wanted = waits.wanted;
  cannot = λ can. waits.cannot (can_alike m f g c d t waits.op alike can);
  within = λ limit meets. waits.within limit (meets_alike code m f g c d t waits.place limits waits.op limit back meets);
}

halts_alike : {S : Type 0} (code : Code S) (m : Machine S) (f g : ℕ → Thread S) (c d : ℕ → ℕ) (t : ℕ) → f t ≡ g t → HasHalted code (with_threads m g d) t → HasHalted code (with_threads m f c) t
halts_alike code m f g c d t same halted = record { place = halted.place; begun = same ∙ halted.begun; over = halted.over }

may_alike : {S : Type 0} (code : Code S) (m : Machine S) (f g : ℕ → Thread S) (c d : ℕ → ℕ) (t : ℕ) → IsAlike f g → IsAlike g f → f t ≡ g t
    → MayAdvance code (with_threads m f c) t → MayAdvance code (with_threads m g d) t
may_alike code m f g c d t alike back same may = record {
  begun = subst HasBegun same may.begun;
  goes_on = λ limits waits. may.goes_on limits (waits_alike code m f g c d t limits alike back same waits);
  more = λ over. elim over [
    | inl finished ↦ may.more (inl (subst HasEnded (sym same) finished))
    | inr halted ↦ may.more (inr (halts_alike code m f g c d t same halted))
  ];
}

-- a live thread that moves elsewhere frees no number and ends no thread
live_alike : {S : Type 0} (f : ℕ → Thread S) (t : ℕ) (from l : S) → f t ≡ live from → IsAlike f (set_at f t (live l))
live_alike f t from l begun = record {
  free = λ n (low, high, none). elim (same_or_other n t) [
    | inl is ↦ let clash : live from ≡ unused = sym begun ∙ ap f (sym is) ∙ none in absurd (cc)
    | inr other ↦ (low, high, set_at-other f t (live l) n other ∙ none)
  ];
  ends = λ n over. elim (same_or_other n t) [
    | inl is ↦ absurd (subst HasEnded (ap f is ∙ begun) over)
    | inr other ↦ subst HasEnded (sym (set_at-other f t (live l) n other)) over
  ];
}

back_alike : {S : Type 0} (f : ℕ → Thread S) (t : ℕ) (from l : S) → f t ≡ live from → IsAlike (set_at f t (live l)) f
back_alike f t from l begun = record {
  free = λ n (low, high, none). elim (same_or_other n t) [
    | inl is ↦ let clash : live l ≡ unused = sym (set_at-hit f t (live l)) ∙ ap (set_at f t (live l)) (sym is) ∙ none in absurd (cc)
    | inr other ↦ (low, high, sym (set_at-other f t (live l) n other) ∙ none)
  ];
  ends = λ n over. elim (same_or_other n t) [
    | inl is ↦ absurd (subst HasEnded (ap (set_at f t (live l)) is ∙ set_at-hit f t (live l)) over)
    | inr other ↦ subst HasEnded (set_at-other f t (live l) n other) over
  ];
}

quiet_silent : {S : Type 0} (code : Code S) (behind l : S) (goes : Next) → quiet_to code behind goes ≡ Some l → goes ≡ next.Silent
quiet_silent code behind l next.Silent quiet = refl
quiet_silent code behind l (Want op) quiet = absurd (cc)
quiet_silent code behind l next.Ended quiet = absurd (cc)

pub step_silent : {S : Type 0} (code : Code S) (l behind : S) → quiet_step code l ≡ Some behind → code.next l ≡ next.Silent
step_silent code l behind quiet = quiet_silent code (code.silent l) behind (code.next l) quiet

-- of the other threads the same ones are enabled after a live thread moves elsewhere
pub others_same : {S : Type 0} (code : Code S) (m : Machine S) (t : ℕ) (from l : S) (n : ℕ) → m.now.threads t ≡ live from → (u : ℕ) → u ≢ t → MayAdvance code m u ↔ MayAdvance code (with_thread_at m t (live l) n) u
others_same code m t from l n begun u other =
    let f = m.now.threads in
    let g = set_at m.now.threads t (live l) in
    let same : g u ≡ f u = set_at-other f t (live l) u other in
    let forth = live_alike f t from l begun in
    let back = back_alike f t from l begun in (
      may_alike code m f g m.silents (set_at m.silents t n) u forth back (sym same),
      may_alike code m g f (set_at m.silents t n) m.silents u back forth same,
    )

-- The same threads are enabled after an enabled thread moves to a place where its next step is silent.
pub enabled_same : {S : Type 0} (code : Code S) (m : Machine S) (t : ℕ) (from l : S) (n : ℕ) → m.now.threads t ≡ live from → MayAdvance code m t → code.next l ≡ next.Silent
    → (u : ℕ) → MayAdvance code m u ↔ MayAdvance code (with_thread_at m t (live l) n) u
enabled_same code m t from l n begun may silent u = elim (same_or_other u t) [
  | inl is ↦ (
    λ _. subst (MayAdvance code (with_thread_at m t (live l) n)) (sym is) (silent_may code (with_thread_at m t (live l) n) t l (set_at-hit m.now.threads t (live l)) silent),
    λ _. subst (MayAdvance code m) (sym is) may,
  )
  | inr other ↦ others_same code m t from l n begun u other
]

-- the first of some silent steps
first_quiet : {S : Type 0} (code : Code S) (n : ℕ) (from behind : S) → quiet_steps code (suc n) from ≡ Some behind → (x : S) × (quiet_step code from ≡ Some x)
first_quiet code zero from behind quiet = (behind, quiet)
first_quiet code (suc n) from behind quiet =
    let (middle, before, step) = and_then_some (quiet_step code) (quiet_steps code (suc n) from) behind quiet in first_quiet code n from middle before

-- so a thread that makes some is enabled
pub silent_enabled : {S : Type 0} (code : Code S) (m : Machine S) (t n : ℕ) (from behind : S) → m.now.threads t ≡ live from → quiet_steps code (suc n) from ≡ Some behind → MayAdvance code m t
silent_enabled code m t n from behind begun quiet =
    let (x, step) = first_quiet code n from behind quiet in silent_may code m t from begun (step_silent code from x step)
