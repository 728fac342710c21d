use Rattle.std.proofs.Common.{◌≡◌, ◌<◌, ◌^◌, ℕ, List, length, Some, None, sym, ◌∙◌, refl, subst, arith, nat_cmp}
use Rattle.std.specs.BTreeMap.{get_by}
use Rattle.std.specs.Cmp.Lexicographic.{slice_cmp}
use Rattle.class_walk.specs.declared.class.Constant.TheVariants.{Utf8}
use Rattle.assembler_pool.specs.Uses.{entry, Makes}
use Rattle.assembler_pool.proofs.IndexLaws.{Puts, text_put}
use Rattle.assembler_pool.proofs.UseLaws.{makes_again}
use Rattle.assembler_pool.proofs.PutLaws.{put_makes, too_long}
use Rattle.assembler_pool.proofs.maker.PoolMaker.utf8.Goals as goal

pub returns-in-Some : goal.returns-in-Some
returns-in-Some c =
    let known : get_by (λ k. slice_cmp nat_cmp c.args.bytes.now k.items) c.self.inside.texts ≡ Some c.in-Some.index = sym c.get.ensures.value ∙ sym c.copied.ensures ∙ c.in-Some.is in
    makes_again (Utf8 c.args.bytes.now) c.self.inside.entries.items c.args.self.now c.in-Some.index c.self.view_is c.self.invariant.made (sym (c.self.invariant.texts c.args.bytes.now) ∙ known)

pub returns-then-bytes-gt-MOST : goal.returns-then-bytes-gt-MOST
returns-then-bytes-gt-MOST c =
    let none : get_by (λ k. slice_cmp nat_cmp c.args.bytes.now k.items) c.self.inside.texts ≡ None = sym c.get.ensures.value ∙ sym c.copied.ensures ∙ c.in_default.is in
    too_long c.self.inside.entries.items c.args.self.now c.args.bytes.now c.self.view_is (sym (c.self.invariant.texts c.args.bytes.now) ∙ none) (omega arith)

puts : (c : goal.After-put_indexed) → Puts _ (λ x y. slice_cmp nat_cmp x.items y.items) c.put_indexed.result c.self.inside.entries.items c.put_indexed.new.entries.items c.self.inside.texts c.put_indexed.new.indices c.in_ok-key.key (Utf8 c.in_ok-key.key.items)
puts c =
    let e = c.put_indexed.ensures in
    let P : List ℕ → Type 0 = λ x. Puts _ (λ x y. slice_cmp nat_cmp x.items y.items) c.put_indexed.result c.self.inside.entries.items c.put_indexed.new.entries.items c.self.inside.texts c.put_indexed.new.indices c.in_ok-key.key (Utf8 x) in
    subst P (c.in_ok-text.ensures ∙ sym c.in_ok-key.ensures.items) (record { index = e.index; pushed = e.pushed; room = e.room; known = e.known; full = e.full; err = e.err; unknown = e.unknown })

unknown : (c : goal.After-put_indexed) → get_by (λ k. slice_cmp nat_cmp c.in_ok-key.key.items k.items) c.self.inside.texts ≡ None
unknown c =
    let none : get_by (λ k. slice_cmp nat_cmp c.args.bytes.now k.items) c.self.inside.texts ≡ None = sym c.get.ensures.value ∙ sym c.copied.ensures ∙ c.in_default.is in
    let P : List ℕ → Type 0 = λ bs. get_by (λ k. slice_cmp nat_cmp bs k.items) c.self.inside.texts ≡ None in
    subst P (sym c.in_ok-key.ensures.items) none

short : (c : goal.After-put_indexed) → length c.in_ok-key.key.items < 2 ^ 16
short c =
    let P : List ℕ → Type 0 = λ bs. length bs < 2 ^ 16 in
    subst P (sym c.in_ok-key.ensures.items) (omega arith)

pub invariant_of-self : goal.invariant_of-self
invariant_of-self c =
    text_put (λ k. k.items) c.self.inside.entries.items c.put_indexed.new.entries.items _ c.self.inside.texts c.put_indexed.new.indices c.in_ok-key.key c.put_indexed.result c.self.invariant (unknown c) (short c) (puts c)

pub returns : goal.returns
returns c =
    let P : List ℕ → Type 0 = λ bs. Makes c.put_indexed.result c.args.self.now c.put_indexed.new.entries.items (entry (Utf8 bs)) in
    subst P c.in_ok-key.ensures.items
    (put_makes c.self.inside.entries.items c.args.self.now c.put_indexed.new.entries.items (Utf8 c.in_ok-key.key.items) c.self.view_is c.self.invariant.made (sym (c.self.invariant.texts c.in_ok-key.key.items) ∙ unknown c)
    (λ x y. slice_cmp nat_cmp x.items y.items) c.put_indexed.result c.self.inside.texts c.put_indexed.new.indices c.in_ok-key.key refl (short c) (puts c))
