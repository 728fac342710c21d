use Rattle.std.proofs.Common.{◌∙◌, ◌++◌, [], length, take, filter, flat_map, cond, refl, ap, sym}
use Rattle.std.proofs.lemmas.List.{append-nil, take_all}
use Rattle.std.proofs.lemmas.Option.{slice_get_read}
use Rattle.class_read.specs.declared.class_file.Member.{Member}
use Rattle.access_flags.specs.declared.TheConstants.{STATIC}
use Rattle.access_flags.specs.Flags.{has}
use Rattle.link_rules.specs.Names.{program_names}
use Rattle.link_rules.specs.FixedObjects.{first_words}
use Rattle.start_objects.proofs.StartLaws.{filtered_more}
use Rattle.start_objects.proofs.statics.file_words.Goals as goal
use Rattle.start_objects.proofs.statics.file_words.Goals.{then-has+in_ok-put_words, else-has}

pub loop-field-preserved : goal.loop-field-preserved
loop-field-preserved c = λ us u are.
    let fields = c.args.fields.now in
    let m = c.field-item.result in
    let f = first_words (program_names us) u.file.pool in
    let at = slice_get_read fields (length fields) c.loop-field.field-index m refl c.loop-field-test.true c.field-item.is in
    let more = filtered_more (first_words (program_names us) u.file.pool) (λ (x : Member). has x.flags STATIC) fields c.loop-field.field-index m at in
    elim c.if-has.branch [
      | then-has+in_ok-put_words w ↦
          ap (λ v. v.items) w.words-is ∙ w.in_ok-put_words.ensures us u are
          ∙ ap (λ xs. xs ++ first_words (program_names us) u.file.pool m) (c.loop-field.invariant us u are)
          ∙ ap (λ b. flat_map (first_words (program_names us) u.file.pool) (filter (λ (x : Member). has x.flags STATIC) (take c.loop-field.field-index fields)) ++ cond b (first_words (program_names us) u.file.pool m) []) (sym (sym c.has.ensures ∙ w.if-has.true))
          ∙ sym more
      | else-has w ↦
          ap (λ v. v.items) w.words-is ∙ c.loop-field.invariant us u are
          ∙ sym (append-nil (flat_map (first_words (program_names us) u.file.pool) (filter (λ (x : Member). has x.flags STATIC) (take c.loop-field.field-index fields))))
          ∙ ap (λ b. flat_map (first_words (program_names us) u.file.pool) (filter (λ (x : Member). has x.flags STATIC) (take c.loop-field.field-index fields)) ++ cond b (first_words (program_names us) u.file.pool m) []) (sym (sym c.has.ensures ∙ w.if-has.false))
          ∙ sym more
    ]

pub returns : goal.returns
returns c = λ us u are fields.
    c.from_vec.ensures ∙ c.loop-field.invariant us u are
    ∙ ap (λ xs. flat_map (first_words (program_names us) u.file.pool) (filter (λ (x : Member). has x.flags STATIC) xs)) (take_all c.loop-field.field-index c.args.fields.now c.loop-field-test.false ∙ sym fields)
