use Rattle.std.proofs.Common.{◌≡◌, Some, slice_get, sym, ◌∙◌, subst}
use Rattle.std.proofs.lemmas.Option.{same_Some}
use Rattle.class_pool.specs.Lookup.{reference_in}
use Rattle.member_lookup.specs.Found.{AreNumbersOf}
use Rattle.link_rules.specs.Names.{ProgramNames, program_names, type_named}
use Rattle.operand_table.proofs.MethodLaws.{numbered, numbers_are, numbers_are_there}
use Rattle.operand_table.proofs.entries.field_at.Goals as goal

pub field_operand-requires-clause-holder : goal.field_operand-requires-clause-holder
field_operand-requires-clause-holder c =
    let pool = c.args.unit.now.file.pool in
    (numbered c.args.sources.lookup.now (reference_in pool (slice_get pool c.args.index)) c.in-Some.reference (c.in-Some.ensures c.args.unit.now c.requires.there)).holder

pub field_operand-requires-clause-descriptor : goal.field_operand-requires-clause-descriptor
field_operand-requires-clause-descriptor c =
    let pool = c.args.unit.now.file.pool in
    (numbered c.args.sources.lookup.now (reference_in pool (slice_get pool c.args.index)) c.in-Some.reference (c.in-Some.ensures c.args.unit.now c.requires.there)).descriptor

pub returns-in-Some-owner_type : goal.returns-in-Some-owner_type
returns-in-Some-owner_type c = λ us r are is.
    let p : ProgramNames = program_names us in
    let u = c.args.unit.now in
    let pool = u.file.pool in
    let there = subst (λ x. slice_get x c.args.file ≡ Some u) are.lookup c.requires.there in
    let numbers = numbers_are c.args.sources.lookup.now (reference_in pool (slice_get pool c.args.index)) r c.in-Some.reference is (c.in-Some.ensures u c.requires.there) in
    let owner = c.owner_type.ensures.reference us are.types u there c.as_slice-pool.ensures r is in
    let named = same_Some c.in-Some-owner_type.named (type_named p r.class) (sym c.in-Some-owner_type.is ∙ owner) in
    c.field_operand.ensures us r are numbers named

pub returns-in-None-owner_type : goal.returns-in-None-owner_type
returns-in-None-owner_type c = λ us r are is.
    let p : ProgramNames = program_names us in
    let u = c.args.unit.now in
    let there = subst (λ x. slice_get x c.args.file ≡ Some u) are.lookup c.requires.there in
    let owner = c.owner_type.ensures.reference us are.types u there c.as_slice-pool.ensures r is in
    absurd (let none = sym c.in-None-owner_type.is ∙ owner in cc)

pub returns-in-None : goal.returns-in-None
returns-in-None c = λ us r are is.
    let pool = c.args.unit.now.file.pool in
    absurd (numbers_are_there c.args.sources.lookup.now (reference_in pool (slice_get pool c.args.index)) r is (subst (λ o. AreNumbersOf c.args.sources.lookup.now (reference_in pool (slice_get pool c.args.index)) o) c.in-None.is (c.reference.ensures c.args.unit.now c.requires.there)))
