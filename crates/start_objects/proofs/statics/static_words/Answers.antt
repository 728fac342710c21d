use Rattle.std.proofs.Common.{◌≡◌, ◌∙◌, ◌++◌, ◌∷◌, [], length, map, take, refl, ap, sym}
use Rattle.std.proofs.lemmas.Option.{slice_get_read}
use Rattle.link_rules.specs.Names.{program_names}
use Rattle.link_rules.specs.FixedObjects.{class_words_of_unit}
use Rattle.start_objects.proofs.StartLaws.{mapped_more}
use Rattle.start_objects.proofs.statics.static_words.Goals as goal

pub loop-file-preserved : goal.loop-file-preserved
loop-file-preserved c =
    let us = c.args.units.now in
    let u = c.index-units-file.result in
    let at = slice_get_read us (length us) c.loop-file.file u refl c.loop-file-test.true c.index-units-file.is in
    let its : c.in_ok-file_words.field-0 ≡ class_words_of_unit (program_names c.args.units.now) c.index-units-file.result = c.in_ok-file_words.ensures us u
    (record {
      literals = c.requires.literals;
      unit = at;
      pool = c.as_slice.ensures;
      first = c.requires.first;
      small = c.requires.small;
    }) (sym c.as_slice-in-loop-file.ensures) in
    c.in_ok-push.ensures.items
    ∙ ap (λ xs. xs ++ c.in_ok-file_words.field-0 ∷ []) c.loop-file.invariant
    ∙ ap (λ x. map (class_words_of_unit (program_names c.args.units.now)) (take c.loop-file.file c.args.units.now) ++ x ∷ []) its
    ∙ mapped_more (class_words_of_unit (program_names c.args.units.now)) us c.loop-file.file u at
