use Rattle.std.proofs.Common.{◌≡◌, ◌<◌, ℕ, true, false, subst}
use Rattle.type_rules.specs.Assignable.{is_same_type}
use Rattle.type_lists.specs.Parts.{room, word_of}
use Rattle.type_lists.specs.Store.{word_at}
use Rattle.type_lists.proofs.StoreLaws.{found_at, absent_at}
use Rattle.type_lists.proofs.ShownLaws.{first_sought, stack_sought}
use Rattle.type_lists.proofs.store.WordStore.has.Goals as goal

pub returns-clause-first : goal.returns-clause-first
returns-clause-first c = λ count ends.
    let store = c.args.self.now in
    let parts = c.deref.ensures.value in
    first_sought c.args.word c.requires (word_at store c.args.words) count c.has_in.result ends
    (λ e. found_at c.args.word store c.args.words (subst (λ ps. (n : ℕ) × (n < room store.height) × (is_same_type c.args.word (word_of ps store.height c.args.words.root n) ≡ true)) parts (c.has_in.ensures.found e)))
    (λ e. absent_at c.args.word store c.args.words c.requires (subst (λ ps. (n : ℕ) → n < room store.height → is_same_type c.args.word (word_of ps store.height c.args.words.root n) ≡ false) parts (c.has_in.ensures.absent e)))

pub returns-clause-stack : goal.returns-clause-stack
returns-clause-stack c = λ count ends.
    let store = c.args.self.now in
    let parts = c.deref.ensures.value in
    stack_sought c.args.word c.requires (word_at store c.args.words) count c.has_in.result ends
    (λ e. found_at c.args.word store c.args.words (subst (λ ps. (n : ℕ) × (n < room store.height) × (is_same_type c.args.word (word_of ps store.height c.args.words.root n) ≡ true)) parts (c.has_in.ensures.found e)))
    (λ e. absent_at c.args.word store c.args.words c.requires (subst (λ ps. (n : ℕ) → n < room store.height → is_same_type c.args.word (word_of ps store.height c.args.words.root n) ≡ false) parts (c.has_in.ensures.absent e)))
