use Rattle.std.proofs.Common.{ℕ, List, Ok, Err, refl, ◌∙◌, subst}
use Rattle.class_walk.specs.declared.class.Constant.TheVariants.{Utf8, Str}
use Rattle.class_names.specs.ShortestForms.{encoded}
use Rattle.assembler_pool.specs.Uses.{entry, string_entry, Makes}
use Rattle.assembler_pool.proofs.UseLaws.{entry_kept, makes_then, makes_stopped}
use Rattle.assembler_pool.proofs.maker.PoolMaker.string.Goals as goal

pub returns-in_err-text : goal.returns-in_err-text
unfolding string_entry
returns-in_err-text c =
    let text = Utf8 (encoded c.args.units.now) in
    let P : List ℕ → Type 0 = λ bs. Makes (Err c.in_err-text.field-0.0) c.args.self.now c.utf8-2.new.self (entry (Utf8 bs)) in
    makes_stopped (entry text) (λ t. entry (Str t)) c.args.self.now c.utf8-2.new.self c.from_residual-in_err-text.result c.in_err-text.field-0.0
    (λ t. entry_kept (Str t) refl) c.from_residual-in_err-text.ensures.1 (subst P (c.deref.ensures.value ∙ c.in_ok-bytes.ensures) c.in_err-text.ensures)

pub returns : goal.returns
unfolding string_entry
returns c =
    let text = Utf8 (encoded c.args.units.now) in
    let P : List ℕ → Type 0 = λ bs. Makes (Ok c.in_ok-text.text) c.args.self.now c.utf8-2.new.self (entry (Utf8 bs)) in
    makes_then (entry text) (λ t. entry (Str t)) c.args.self.now c.utf8-2.new.self c.other.new.self c.in_ok-text.text c.other.result
    (entry_kept text refl) (subst P (c.deref.ensures.value ∙ c.in_ok-bytes.ensures) c.in_ok-text.ensures) c.other.ensures
