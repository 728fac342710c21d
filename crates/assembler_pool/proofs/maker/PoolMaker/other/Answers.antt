use Rattle.std.proofs.Common.{◌≡◌, Some, None, sym, ◌∙◌, subst}
use Rattle.std.specs.BTreeMap.{get}
use Rattle.class_walk.specs.declared.class.Constant.{Constant}
use Rattle.assembler_pool.specs.Key.{constant_of}
use Rattle.assembler_pool.specs.contracts.key.KeyOrd.TheImpl as key_ord
use Rattle.assembler_pool.proofs.SameLaws.{key_is_no_gap, key_cmp_is}
use Rattle.assembler_pool.proofs.IndexLaws.{Puts, key_put}
use Rattle.assembler_pool.proofs.UseLaws.{makes_again}
use Rattle.assembler_pool.proofs.PutLaws.{put_makes}
use Rattle.assembler_pool.proofs.maker.PoolMaker.other.Goals as goal

pub returns-in-Some : goal.returns-in-Some
returns-in-Some c =
    let known : get (key_ord.ghosts).cmp c.self.inside.others c.args.key ≡ Some c.in-Some.index = sym c.get.ensures.value ∙ sym c.copied.ensures ∙ c.in-Some.is in
    makes_again (constant_of c.args.key) c.self.inside.entries.items c.args.self.now c.in-Some.index c.self.view_is c.self.invariant.made (sym (c.self.invariant.others c.args.key) ∙ known)

puts : (c : goal.After-put_indexed) → Puts _ (key_ord.ghosts).cmp c.put_indexed.result c.self.inside.entries.items c.put_indexed.new.entries.items c.self.inside.others c.put_indexed.new.indices c.args.key (constant_of c.args.key)
puts c =
    let e = c.put_indexed.ensures in
    let P : Constant → Type 0 = λ x. Puts _ (key_ord.ghosts).cmp c.put_indexed.result c.self.inside.entries.items c.put_indexed.new.entries.items c.self.inside.others c.put_indexed.new.indices c.args.key x in
    subst P c.constant.ensures.value (record { index = e.index; pushed = e.pushed; room = e.room; known = e.known; full = e.full; err = e.err; unknown = e.unknown })

unknown : (c : goal.After-put_indexed) → get (key_ord.ghosts).cmp c.self.inside.others c.args.key ≡ None
unknown c = sym c.get.ensures.value ∙ sym c.copied.ensures ∙ c.in_default.is

pub invariant_of-self : goal.invariant_of-self
invariant_of-self c =
    key_put c.self.inside.entries.items c.put_indexed.new.entries.items _ c.self.inside.others c.put_indexed.new.indices (key_ord.ghosts).cmp c.args.key c.put_indexed.result key_cmp_is c.self.invariant (unknown c) c.constant.ensures.fits (puts c)

pub returns : goal.returns
returns c =
    put_makes c.self.inside.entries.items c.args.self.now c.put_indexed.new.entries.items (constant_of c.args.key) c.self.view_is c.self.invariant.made (sym (c.self.invariant.others c.args.key) ∙ unknown c)
    (key_ord.ghosts).cmp c.put_indexed.result c.self.inside.others c.put_indexed.new.indices c.args.key (key_is_no_gap c.args.key) c.constant.ensures.fits (puts c)
