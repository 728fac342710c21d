-- The exceptions of the library.
use Rattle.std.proofs.Common.{◌≡◌, ◌≢◌, ℕ, ◌+◌, ◌≤◌, ◌&&◌, Bool, true, nat_le, List, length, map, Contains, inl, inr, refl, sym, subst, arith}
use Rattle.std.specs.List.{range_with_len}
use Rattle.std.proofs.lemmas.Bool.{cases_eq, leb-true, and_parts}
use Rattle.builtin_world.specs.Library.{library}
use Rattle.builtin_world.specs.declared.number.TheConstants.{THROWABLE}
use Rattle.code_decode.specs.declared.code.ClassUnit.{ClassUnit}
use Rattle.link_rules.specs.Classes.{NamedClass, classes_of, superclass_of}
use Rattle.link_rules.specs.Supers.{superclasses}
use Rattle.link_rules.specs.Linked.{IsLinked}
use Rattle.link_rules.specs.Laws.{ExceptionsAreThrowable}
use Rattle.link_rules.proofs.Lists.{contains_tail}
use Rattle.link_rules.proofs.Numbers.{in_library, class_count_is}
use Rattle.link_rules.proofs.Upward.{of_all, above_itself, superclasses_step}

between : List NamedClass → ℕ → Bool
between cs c = nat_le 8 (superclass_of cs c) && nat_le (superclass_of cs c) 27

library_throwables : (us : List ClassUnit) → map (between (classes_of us)) (range_with_len 9 19) ≡ map (λ _. true) (range_with_len 9 19)
unfolding library between
library_throwables us = refl

stays : (us : List ClassUnit) (c : ℕ) → 9 ≤ c → c ≤ 27 → (8 ≤ superclass_of (classes_of us) c) × (superclass_of (classes_of us) c ≤ 27)
unfolding between
stays us c low high =
    let parts : (nat_le 8 (superclass_of (classes_of us) c) ≡ true) × (nat_le (superclass_of (classes_of us) c) 27 ≡ true) =
    and_parts (nat_le 8 (superclass_of (classes_of us) c)) (nat_le (superclass_of (classes_of us) c) 27)
    (in_library 9 19 (between (classes_of us)) (λ _. true) (library_throwables us) c low (omega arith)) in
    (leb-true 8 (superclass_of (classes_of us) c) parts.0, leb-true (superclass_of (classes_of us) c) 27 parts.1)

pub throwables : (us : List ClassUnit) (order : List ℕ) → IsLinked us order → ExceptionsAreThrowable (classes_of us)
throwables us order linked c low high =
    let count : length (classes_of us) ≡ 28 + length us = class_count_is us in
    of_all (classes_of us) order linked.order (λ c. 8 ≤ c → c ≤ 27 → Contains (superclasses (classes_of us) c) THROWABLE) base step c
    (λ z. omega arith) (omega arith) low (omega arith)
  where
    cs : List NamedClass
    cs = classes_of us

    itself : (c : ℕ) → c ≢ 0 → c ≤ length (classes_of us) → 8 ≡ c → Contains (superclasses (classes_of us) c) THROWABLE
    itself c ne within same = subst (λ x. Contains (superclasses (classes_of us) c) x) (sym same) (above_itself (classes_of us) order linked.order c ne within)

    base : (c : ℕ) → c ≢ 0 → c ≤ length (classes_of us) → superclass_of (classes_of us) c ≡ 0 → 8 ≤ c → c ≤ 27 → Contains (superclasses (classes_of us) c) THROWABLE
    base c ne within none low high =
        elim (cases_eq 8 c) [
          | inl same ↦ itself c ne within same
          | inr other ↦ absurd (let more : 8 ≤ superclass_of (classes_of us) c = (stays us c (omega (arith, other)) high).0 in omega arith)
        ]

    step : (c : ℕ) → c ≢ 0 → c ≤ length (classes_of us) → superclass_of (classes_of us) c ≢ 0
        → (8 ≤ superclass_of (classes_of us) c → superclass_of (classes_of us) c ≤ 27 → Contains (superclasses (classes_of us) (superclass_of (classes_of us) c)) THROWABLE)
        → 8 ≤ c → c ≤ 27 → Contains (superclasses (classes_of us) c) THROWABLE
    step c ne within some_super later low high =
        elim (cases_eq 8 c) [
          | inl same ↦ itself c ne within same
          | inr other ↦
              let h : (8 ≤ superclass_of (classes_of us) c) × (superclass_of (classes_of us) c ≤ 27) = stays us c (omega (arith, other)) high in
              subst (λ xs. Contains xs THROWABLE) (sym (superclasses_step (classes_of us) order linked.order c ne within))
              (contains_tail c (superclasses (classes_of us) (superclass_of (classes_of us) c)) THROWABLE (later h.0 h.1))
        ]
