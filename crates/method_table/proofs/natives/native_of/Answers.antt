use Rattle.std.proofs.Common.{◌≡◌, suc, sym, ◌∙◌, ap, arith}
use Rattle.link_rules.specs.Methods.{native_of}
use Rattle.method_table.proofs.NativeLaws.{native_is, no_native}
use Rattle.method_table.proofs.natives.native_of.Goals as goal

pub returns-in-Some : goal.returns-in-Some
returns-in-Some c =
    let same : suc c.in_ok-index.index ≡ c.args.class = omega (arith, c.in_ok-index.ensures) in
    c.native_at.ensures
    ∙ native_is c.builtins.result.now c.in_ok-index.index c.args.place c.in-Some.builtin.now c.builtins.ensures.rows (sym c.in-Some.ensures)
    ∙ ap (λ n. native_of (record { class = n; method = c.args.place })) same

pub returns-in-None : goal.returns-in-None
returns-in-None c =
    let same : suc c.in_ok-index.index ≡ c.args.class = omega (arith, c.in_ok-index.ensures) in
    no_native c.builtins.result.now c.in_ok-index.index c.args.place c.builtins.ensures.rows (sym c.in-None.ensures)
    ∙ ap (λ n. native_of (record { class = n; method = c.args.place })) same
