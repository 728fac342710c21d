use Rattle.std.proofs.Common.{◌≡◌, ℕ, List, sym, ◌∙◌, ap, arith}
use Rattle.link_rules.specs.Classes.{class_of_unit}
use Rattle.class_supers.specs.Numbers.{number_named}
use Rattle.class_supers.proofs.NumberLaws.{numbers_more}
use Rattle.class_supers.proofs.naming.add_file.Goals as goal

pub returns : goal.returns
returns c = λ cs known count.
    let u = c.args.unit.now in
    let old : List ℕ → ℕ = number_named c.args.numbers.now in
    let new : List ℕ → ℕ = number_named c.add.new.self in
    let named = c.name_of-name.ensures in
    let none : c.number.result ≡ 0 = omega arith in (
      sym (known (class_of_unit u).name) ∙ ap old (sym named) ∙ sym c.number.ensures ∙ none,
      numbers_more old new cs (class_of_unit u) _ c.number_of_file.result known c.in_ok-add.ensures.ok named (omega (arith, c.number_of_file.ensures)),
    )
