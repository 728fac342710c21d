-- The program keeps the rules of linking, and its classes have an order.
use Rattle.std.proofs.Common.{◌≡◌, ◌≢◌, inl, inr, ◌<◌, ◌≤◌, ◌+◌, ◌-◌, ℕ, true, false, nat_lt, List, [], ◌∷◌, length, map, flat_map, Contains, Some, slice_get, refl, sym, ap, subst, ◌∙◌, arith}
use Rattle.std.specs.List.{list_all, range_with_len}
use Rattle.std.proofs.lemmas.Bool.{ltb-true, true≢false}
use Rattle.std.proofs.lemmas.Option.{none-some, same_Some, slice_get_within}
use Rattle.std.proofs.lemmas.List.Elements.{All-contains, All-nil, All-same}
use Rattle.std.proofs.lemmas.List.FromFn.{length-range_with_len}
use Rattle.std.proofs.lemmas.List.Sums.{AllPass-from_list_all}
use Rattle.rules.proofs.RuleLaws.{one_holds}
use Rattle.access_flags.specs.declared.TheConstants.{PUBLIC, FINAL, INTERFACE}
use Rattle.builtin_world.specs.Library.{library}
use Rattle.class_names.specs.Reading.{kind_at, base_at, split_at_semicolon, spells_class_name}
use Rattle.class_names.specs.Kinds.{kinds_within}
use Rattle.code_decode.specs.declared.code.Code.{Code}
use Rattle.instructions.specs.declared.what.Instr.{Instr}
use Rattle.instructions.specs.declared.what.Target.{Target}
use Rattle.link_rules.specs.Classes.{NamedMember, classes_of, class_has, class_of_unit, interfaces_of, member_of_file, superclass_of}
use Rattle.link_rules.specs.Linked.{IsLinked}
use Rattle.link_rules.specs.LinkRules.{link_rules, abstract_methods, code_use_rules, declared_method_rules, implementation_rules, IsImplemented, IsPublicWhereImplemented, members_rules, supers_rules, twice_rules, uses_rules, what_rules}
use Rattle.link_rules.specs.Supers.{HasSuper, IsAbove, IsWayUp, PutsSupersFirst, method_order, superclasses, superinterfaces}
use Rattle.link_rules.proofs.Numbers.{class_count_is, in_library}
use Rattle.program_soundness.proofs.FixedFit.{range_at}
use Rattle.sound_examples.specs.Program.{idle_code, idle_main, idle_pool, idle_program, idle_step, idle_unit}

-- ---- what is above the classes

main_super : superclass_of (classes_of idle_program) 29 ≡ 1
unfolding library
main_super = refl

main_interfaces : interfaces_of (classes_of idle_program) 29 ≡ []
unfolding library
main_interfaces = refl

object_super : superclass_of (classes_of idle_program) 1 ≡ 0
unfolding library
object_super = refl

object_interfaces : interfaces_of (classes_of idle_program) 1 ≡ []
unfolding library
object_interfaces = refl

one_super : (c s d : ℕ) → superclass_of (classes_of idle_program) c ≡ s → interfaces_of (classes_of idle_program) c ≡ [] → HasSuper (classes_of idle_program) c d → d ≡ s
one_super c s d super none h = elim h.1 [
  | inl e ↦ sym e ∙ super
  | inr i ↦ absurd (let k : Contains [] d = subst (λ xs. Contains xs d) none i in let lt : k.0 < 0 = k.1 in omega (arith, lt))
]

nothing_above : (way : List ℕ) (d : ℕ) → IsWayUp (classes_of idle_program) 1 way d → ⊥
nothing_above [] d h = h.0 (one_super 1 0 d object_super object_interfaces h)
nothing_above (e ∷ way) d h = h.0.0 (one_super 1 0 e object_super object_interfaces h.0)

no_cycle : ¬ IsAbove (classes_of idle_program) 29 29
no_cycle above = go above.0 29 refl above.1
  where
    go : (way : List ℕ) (d : ℕ) → d ≡ 29 → IsWayUp (classes_of idle_program) 29 way d → ⊥
    go [] d same h = (let other : d ≡ 1 = one_super 29 1 d main_super main_interfaces h in omega (arith, same, other))
    go (e ∷ way) d same h = nothing_above way d (subst (λ x. IsWayUp (classes_of idle_program) x way d) (one_super 29 1 e main_super main_interfaces h.0) h.1)

-- ---- the rules

twice : (twice_rules (classes_of idle_program) 0 (class_of_unit idle_unit)).Hold
unfolding library
twice = refl

is_class : (class_has (classes_of idle_program) 1 INTERFACE ≡ false) × (class_has (classes_of idle_program) 1 FINAL ≡ false)
unfolding library
is_class = (refl, refl)

supers : (supers_rules (classes_of idle_program) 0 idle_unit).Hold
supers = (
  (λ none. let one : 1 ≡ 0 = sym main_super ∙ none in omega (arith, one)),
  (
    (λ i x e. absurd (none-some x e)),
    (
      (subst (λ c. class_has (classes_of idle_program) c INTERFACE ≡ false) (sym main_super) is_class.0, λ e. absurd (true≢false (sym e))),
      (
        (λ i x e. absurd (none-some x e)),
        (subst (λ c. class_has (classes_of idle_program) c FINAL ≡ false) (sym main_super) is_class.1, no_cycle),
      ),
    ),
  ),
)

method : (declared_method_rules (classes_of idle_program) 0 false (member_of_file idle_pool idle_main)).Hold
unfolding library kind_at base_at split_at_semicolon spells_class_name kinds_within
method = (refl, (refl, (refl, refl)))

members : (members_rules (classes_of idle_program) 0 (class_of_unit idle_unit)).Hold
members = ((λ i x e. absurd (none-some x e)), one_holds (λ (i : ℕ) (m : NamedMember). declared_method_rules (classes_of idle_program) 0 false m) (member_of_file idle_pool idle_main) method)

nothing_abstract : (abstract_methods (classes_of idle_program) 0 (method_order (classes_of idle_program) 29) ≡ []) × (abstract_methods (classes_of idle_program) 0 (flat_map (superinterfaces (classes_of idle_program)) (superclasses (classes_of idle_program) 29)) ≡ [])
unfolding library
nothing_abstract = (refl, refl)

implementations : (implementation_rules (classes_of idle_program) 0 PUBLIC).Hold
implementations = (
  (λ e. All-same (IsImplemented (classes_of idle_program) 0) (abstract_methods (classes_of idle_program) 0 (method_order (classes_of idle_program) 29)) [] nothing_abstract.0 (All-nil (IsImplemented (classes_of idle_program) 0))),
  All-same (IsPublicWhereImplemented (classes_of idle_program) 0) (abstract_methods (classes_of idle_program) 0 (flat_map (superinterfaces (classes_of idle_program)) (superclasses (classes_of idle_program) 29))) [] nothing_abstract.1 (All-nil (IsPublicWhereImplemented (classes_of idle_program) 0)),
)

uses : (uses_rules (classes_of idle_program) 0 idle_unit).Hold
uses =
    one_holds (λ (j : ℕ) (code : Rattle.std.specs.Prelude.Option Code). code_use_rules (classes_of idle_program) 0 idle_pool code) (Some idle_code)
    (one_holds (λ (i : ℕ) (s : Instr Target). what_rules (classes_of idle_program) 0 idle_pool s.what) idle_step tt, λ i x e. absurd (none-some x e))

linked_rules : (link_rules idle_program).Hold
linked_rules = (
  omega arith,
  (
    one_holds (λ k u. twice_rules (classes_of idle_program) k (class_of_unit u)) idle_unit twice,
    (
      one_holds (supers_rules (classes_of idle_program)) idle_unit supers,
      (
        one_holds (λ k u. members_rules (classes_of idle_program) k (class_of_unit u)) idle_unit members,
        (
          one_holds (λ k u. implementation_rules (classes_of idle_program) k u.file.flags) idle_unit implementations,
          one_holds (uses_rules (classes_of idle_program)) idle_unit uses,
        ),
      ),
    ),
  ),
)

-- ---- the order

count : length (classes_of idle_program) ≡ 29
count = class_count_is idle_program

supers_before : map (λ c. nat_lt (superclass_of (classes_of idle_program) c) c) (range_with_len 1 29) ≡ map (λ _. true) (range_with_len 1 29)
unfolding library
supers_before = refl

interfaces_before : map (λ c. list_all (λ i. nat_lt i c) (interfaces_of (classes_of idle_program) c)) (range_with_len 1 29) ≡ map (λ _. true) (range_with_len 1 29)
unfolding library
interfaces_before = refl

lower : (c d : ℕ) → 1 ≤ c → c < 30 → HasSuper (classes_of idle_program) c d → d < c
lower c d low high h = elim h.1 [
  | inl e ↦ subst (λ x. x < c) e (ltb-true (superclass_of (classes_of idle_program) c) c (in_library 1 29 (λ x. nat_lt (superclass_of (classes_of idle_program) x) x) (λ _. true) supers_before c low (omega (arith, high))))
  | inr k ↦ ltb-true d c
      (All-contains (λ x. nat_lt x c ≡ true) (interfaces_of (classes_of idle_program) c) d
      (AllPass-from_list_all (λ x. nat_lt x c) (interfaces_of (classes_of idle_program) c)
      (in_library 1 29 (λ x. list_all (λ y. nat_lt y x) (interfaces_of (classes_of idle_program) x)) (λ _. true) interfaces_before c low (omega (arith, high)))) k)
]

ordered : PutsSupersFirst (classes_of idle_program) (range_with_len 1 29)
ordered = record { bound = bound; whole = whole; before = before }
  where
    bound : length (range_with_len 1 29) ≤ length (classes_of idle_program)
    bound = let many : length (range_with_len 1 29) ≡ 29 = length-range_with_len 1 29 in omega (arith, count, many)

    whole : (c : ℕ) → c ≢ 0 → c ≤ length (classes_of idle_program) → (i : ℕ) × (slice_get (range_with_len 1 29) i ≡ Some c)
    whole c some within =
        let same : 1 + (c - 1) ≡ c = omega (arith, some) in
        (c - 1, range_at 1 29 (c - 1) (omega (arith, some, within, count)) ∙ ap (λ x. Some x) same)

    before : (i c d : ℕ) → slice_get (range_with_len 1 29) i ≡ Some c → HasSuper (classes_of idle_program) c d → (j : ℕ) × (j < i) × (slice_get (range_with_len 1 29) j ≡ Some d)
    before i c d at h =
        let room : i < length (range_with_len 1 29) = slice_get_within (range_with_len 1 29) i c at in
        let many : length (range_with_len 1 29) ≡ 29 = length-range_with_len 1 29 in
        let number : 1 + i ≡ c = same_Some (1 + i) c (sym (range_at 1 29 i (omega (arith, room, many))) ∙ at) in
        let less : d < c = lower c d (omega (arith, number)) (omega (arith, number, room, many)) h in
        let some : d ≢ 0 = h.0 in
        let same : 1 + (d - 1) ≡ d = omega (arith, some) in
        (d - 1, omega (arith, some, less, number), range_at 1 29 (d - 1) (omega (arith, some, less, number, room, many)) ∙ ap (λ x. Some x) same)

pub linked : IsLinked idle_program (range_with_len 1 29)
linked = record { rules = linked_rules; order = ordered }
