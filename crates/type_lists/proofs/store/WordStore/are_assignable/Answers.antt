use Rattle.std.proofs.Common.{◌≤◌, length, MatchBool, refl, sym, subst, arith, ◌∙◌}
use Rattle.type_lists.specs.Compared.{AreAssignable, AreApart, KnowsRightly}
use Rattle.type_lists.specs.Store.{word_at}
use Rattle.type_lists.proofs.SetLaws.{on_ok}
use Rattle.type_lists.proofs.StoreLaws.{follows, remembers, remembered, knows_on, is_fixed, list_is, words_are, all_assignable}
use Rattle.type_lists.proofs.ShownLaws.{locals_told, stacks_told}
use Rattle.type_lists.proofs.store.WordStore.are_assignable.Goals as goal

pub are_parts_assignable-requires-clause-known : goal.are_parts_assignable-requires-clause-known
are_parts_assignable-requires-clause-known g c =
    let h = g.H.ClassHierarchy.hierarchy c.args.hierarchy.now in
    let store = c.args.self.now in
    subst (λ ps. KnowsRightly h ps (length ps) store.known) (sym c.deref.ensures.value)
    (knows_on h store.parts.items store.parts.items store.fixed (length store.parts.items) store.known store.closed_fixed (λ i within. refl) store.within
    (remembered h store c.requires.remembered))

pub are_parts_assignable-requires-clause-low : goal.are_parts_assignable-requires-clause-low
are_parts_assignable-requires-clause-low g c = subst (λ ps. c.args.low.root ≤ length ps) (sym c.deref.ensures.value) (list_is c.args.self.now c.args.low c.requires.low)

pub are_parts_assignable-requires-clause-high : goal.are_parts_assignable-requires-clause-high
are_parts_assignable-requires-clause-high g c = subst (λ ps. c.args.high.root ≤ length ps) (sym c.deref.ensures.value) (list_is c.args.self.now c.args.high c.requires.high)

pub returns-clause-follows : goal.returns-clause-follows
returns-clause-follows g c = follows c.args.self.now _ refl refl refl (omega arith) (omega (arith, c.len-self.ensures, c.args.self.now.within)) (λ i h. refl)

pub returns-clause-fixed : goal.returns-clause-fixed
returns-clause-fixed g c = λ words h. is_fixed _ words (omega (arith, c.len-self.ensures, list_is c.args.self.now words h))

pub returns-clause-words : goal.returns-clause-words
returns-clause-words g c = λ words h. words_are _ words ∙ sym (words_are c.args.self.now words)

pub returns-clause-remembered : goal.returns-clause-remembered
returns-clause-remembered g c =
    let h = g.H.ClassHierarchy.hierarchy c.args.hierarchy.now in
    let store = c.args.self.now in
    let known = c.are_parts_assignable.new.known in
    remembers h _
    (knows_on h store.parts.items store.parts.items (length store.parts.items) c.len-self.result known store.closed (λ i within. refl) (omega (arith, c.len-self.ensures))
    (subst (λ ps. KnowsRightly h ps (length ps) known) c.deref.ensures.value c.are_parts_assignable.ensures.known))

pub returns-clause-locals : goal.returns-clause-locals
returns-clause-locals g c = λ n m low high.
    let h = g.H.ClassHierarchy.hierarchy c.args.hierarchy.now in
    let store = c.args.self.now in
    on_ok _ _ c.are_parts_assignable.result
    (λ b told.
    locals_told h (word_at store c.args.low) (word_at store c.args.high) n m b low high
    (all_assignable h store c.args.low c.args.high b
    (subst (λ ps. MatchBool b (AreAssignable h ps store.height c.args.low.root c.args.high.root) (AreApart h ps store.height c.args.low.root c.args.high.root)) c.deref.ensures.value told)))
    c.are_parts_assignable.ensures.told

pub returns-clause-stacks : goal.returns-clause-stacks
returns-clause-stacks g c = λ depth high.
    let h = g.H.ClassHierarchy.hierarchy c.args.hierarchy.now in
    let store = c.args.self.now in
    on_ok _ _ c.are_parts_assignable.result
    (λ b told.
    stacks_told h (word_at store c.args.low) (word_at store c.args.high) depth b high
    (all_assignable h store c.args.low c.args.high b
    (subst (λ ps. MatchBool b (AreAssignable h ps store.height c.args.low.root c.args.high.root) (AreApart h ps store.height c.args.low.root c.args.high.root)) c.deref.ensures.value told)))
    c.are_parts_assignable.ensures.told
