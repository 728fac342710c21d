use Rattle.std.proofs.Common.{Option, Some, None, MatchOption, ◌≡◌, ◌+◌, ◌++◌, ◌∷◌, [], ◌<◌, ℕ, List, length, get_or, refl, sym, ap, ◌∙◌, subst, rules, arith}
use Rattle.std.specs.List.Sorted.{IsStrictlyIncreasing}
use Rattle.op_core.specs.declared.MadeText.{MadeText}
use Rattle.op_core.specs.OrdinaryState.{IsThere}
use Rattle.op_core.specs.MadeTexts.{units_at}
use Rattle.ordinary_machine.specs.Machine.{machine_of}
use Rattle.ordinary_runs.proofs.MadeLemmas.{AreNamed, AreMadeBelow, none_made, one_more_made, none_more_made, all_made, there_in, absent}
use Rattle.ordinary_runs.proofs.made.made_texts.Goals as goal
use Rattle.ordinary_runs.proofs.made.made_texts.Goals.{in-Some+in_ok-push, in_default}

pub loop-array-init : goal.loop-array-init
loop-array-init g c =
    let now = (machine_of g.C.ThreadCode.state c.args.machine.now).now in
    let items = c.deref-array-items.result.now in
    subst (AreMadeBelow now items 0) (sym c.new-made.ensures) (none_made now items)

pub loop-array-preserved : goal.loop-array-preserved
loop-array-preserved g c =
    let now = (machine_of g.C.ThreadCode.state c.args.machine.now).now in
    let items = c.deref-array-items.result.now in
    let n = c.loop-array.array-index in
    let before : List MadeText = c.loop-array.made in
    let inside : n < length items = search rules in
    let r = get_or items n 0 in
    let Found : Option (List ℕ) → Type 0 = λ found. MatchOption found (IsThere now.objects r → ⊥) (λ units. IsThere now.objects r × (units ≡ units_at now r)) in
    let has : (units : List ℕ) → c.in_ok-units.field-0 ≡ Some units → IsThere now.objects r × (units ≡ units_at now r) = λ units is. subst Found is c.in_ok-units.ensures in
    let lacks : c.in_ok-units.field-0 ≡ None → IsThere now.objects r → ⊥ = λ is. subst Found is c.in_ok-units.ensures in
    elim c.match-branch-3.branch [
      | in-Some+in_ok-push w ↦
          let text : MadeText = record { at = get_or items n 0; units = w.in-Some.units } in
          let same : c.match-branch-3.made ≡ before ++ text ∷ [] = w.made-is ∙ w.in_ok-push.ensures.ok in
          subst (AreMadeBelow now items (n + 1)) (sym same)
          (one_more_made now items n before text c.loop-array.invariant inside refl (has w.in-Some.units w.in-Some.is).0 (has w.in-Some.units w.in-Some.is).1)
      | in_default w ↦
          subst (AreMadeBelow now items (n + 1)) (sym w.made-is)
          (none_more_made now items n before c.loop-array.invariant inside (absent (there_in now (get_or items n 0)) (lacks w.in_default.is)))
    ]

pub returns : goal.returns
returns g c =
    let now = (machine_of g.C.ThreadCode.state c.args.machine.now).now in
    let items = c.deref-array-items.result.now in
    let whole : c.loop-array.array-index ≡ length items = (let past = c.loop-array-test.false in let within = c.loop-array.auto.array-index-end in omega (arith, past, within)) in
    let rising = subst IsStrictlyIncreasing (sym c.deref-array-items.ensures.value) c.in_ok-arrays.ensures.rising in
    let named : AreNamed now.lines items =
    subst (AreNamed now.lines) (sym c.deref-array-items.ensures.value) (subst (λ ls. AreNamed ls c.in_ok-arrays.arrays.items) c.lines.ensures c.in_ok-arrays.ensures.each) in
    all_made now now.lines items c.loop-array.made rising named (subst (λ n. AreMadeBelow now items n c.loop-array.made) whole c.loop-array.invariant)
