use Rattle.std.proofs.Common.{arith, refl, sym, ◌∙◌}
use Rattle.type_lists.proofs.StoreLaws.{follows, remembers_on, is_fixed, list_is, words_are}
use Rattle.type_lists.proofs.store.WordStore.fix.Goals as goal

pub returns-clause-follows : goal.returns-clause-follows
returns-clause-follows c = follows c.args.self.now _ refl refl refl (omega arith) (omega (arith, c.len-self.ensures, c.args.self.now.within)) (λ i h. refl)

pub returns-clause-remembered : goal.returns-clause-remembered
returns-clause-remembered c = λ h. remembers_on h c.args.self.now _ refl (omega (arith, c.len-self.ensures, c.args.self.now.within)) (λ i h. refl)

pub returns-clause-fixed : goal.returns-clause-fixed
returns-clause-fixed c = λ words h. is_fixed _ words (omega (arith, c.len-self.ensures, list_is c.args.self.now words h))

pub returns-clause-words : goal.returns-clause-words
returns-clause-words c = λ words h. words_are _ words ∙ sym (words_are c.args.self.now words)
