use Rattle.std.proofs.Common.{◌≡◌, ◌∙◌, ◌<◌, ◌≤◌, ◌-◌, ◌+◌, ◌*◌, ℕ, List, Some, None, slice_get, length, ap, sym, inl, inr, arith}
use Rattle.std.proofs.lemmas.Option.{slice_get_within, same_Some, slice_get_cases}
use Rattle.code_decode.specs.declared.code.ClassUnit.{ClassUnit}
use Rattle.class_layout.specs.declared.layout.ClassLayout.{ClassLayout}
use Rattle.class_layout.specs.Layout.{IsLayoutOf}
use Rattle.class_layout.specs.Objects.{behind}
use Rattle.class_layout.proofs.ObjectLaws.{object_at, object_past, behind_le}
use Rattle.class_layout.proofs.layout.ClassLayout.class_object.Goals as goal

-- the place in the table is the one after the class objects before it
found : (us : List ClassUnit) (l : ClassLayout) (index object : ℕ) → IsLayoutOf us l → slice_get l.places.objects.items index ≡ Some object → (index < length l.rows.items) × (object ≡ behind l.rows.items index)
found us l index object are at =
    let lt : index < length l.places.objects.items = slice_get_within l.places.objects.items index object at in
    let count : length l.places.objects.items ≡ length l.rows.items = are.objects.count in
    let within : index < length l.rows.items = omega arith in
    (within, same_Some object (behind l.rows.items index) (sym at ∙ are.objects.each index within))

past : (l : ClassLayout) (index : ℕ) → slice_get l.places.objects.items index ≡ None → length l.places.objects.items ≤ index
past l index none = elim (slice_get_cases l.places.objects.items index).1 [
  | inl there ↦ absurd (let other = there.2 in cc)
  | inr behind_all ↦ behind_all.0
]

pub returns-in-Some-clause-value : goal.returns-in-Some-clause-value
returns-in-Some-clause-value c = λ us are.
    let at = ap (λ xs. slice_get xs c.saturating_sub-index.result) (sym c.deref.ensures.value) ∙ sym c.in-Some.ensures in
    let h = found us c.args.self.now c.saturating_sub-index.result c.in-Some.object are at in
    h.1 ∙ object_at us c.args.self.now.rows.items are.rows c.args.class c.saturating_sub-index.result c.saturating_sub-index.ensures h.0

pub returns-in-Some-clause-small : goal.returns-in-Some-clause-small
returns-in-Some-clause-small c = λ us are.
    let at = ap (λ xs. slice_get xs c.saturating_sub-index.result) (sym c.deref.ensures.value) ∙ sym c.in-Some.ensures in
    let h = found us c.args.self.now c.saturating_sub-index.result c.in-Some.object are at in
    let le = behind_le c.args.self.now.rows.items c.saturating_sub-index.result in
    let is = h.1 in
    let all = are.objects.behind_all in
    let small = c.args.self.now.places.small in
    omega arith

pub returns-in-None-clause-value : goal.returns-in-None-clause-value
returns-in-None-clause-value c = λ us are.
    let none : slice_get c.args.self.now.places.objects.items c.saturating_sub-index.result ≡ None = ap (λ xs. slice_get xs c.saturating_sub-index.result) (sym c.deref.ensures.value) ∙ sym c.in-None.ensures in
    let le = past c.args.self.now c.saturating_sub-index.result none in
    let count : length c.args.self.now.places.objects.items ≡ length c.args.self.now.rows.items = are.objects.count in
    let len : c.len.result ≡ length c.args.self.now.rows.items = omega (arith, c.args.self.now.places.objects.ok.0) in
    ap (λ n. c.args.self.now.places.behind + 2 * (c.saturating_sub-index.result - n)) len
    ∙ object_past us c.args.self.now.rows.items are.rows c.args.class c.saturating_sub-index.result c.args.self.now.places.behind c.saturating_sub-index.ensures (omega arith) are.objects.behind_all
