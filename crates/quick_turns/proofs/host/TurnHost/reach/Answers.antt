use Rattle.std.proofs.Common.{◌≡◌, ◌∙◌, true, false, refl, sym, ap, subst, inr}
use Rattle.heap_words.specs.Words.{tag_of, tag_section}
use Rattle.heap_words.specs.declared.words.HeapWord.{HeapWord}
use Rattle.heap_words.specs.declared.words.Tag.{Tag}
use Rattle.step_port.specs.declared.step.Step.TheVariants.{LoadSection}
use Rattle.turn_runs.specs.Own.{is_safe_for}
use Rattle.quick_turns.specs.Paths.{KnowsWriter, LooksAtWriter}
use Rattle.quick_turns.specs.Borrowed.{host_place}
use Rattle.quick_turns.proofs.PathLemmas.{allowed_look, allowed_word, allowed_writer, reaches_safe, reaches_known}
use Rattle.quick_turns.proofs.host.TurnHost.reach.Goals as goal

pub look_at_own-requires-clause-allowed : goal.look_at_own-requires-clause-allowed
look_at_own-requires-clause-allowed g c =
    allowed_look g.C.ThreadCode.code g.P.StepPort.stepped g.W.WordSight.words g.met.W.WordSight.on_words
    g.P.StepPort.allows (host_place c.args.self.now) c.requires.0 c.requires.2 (c.if-not-has_turns.ensures refl)

pub returns-then-is_safe-clause-reaches : goal.returns-then-is_safe-clause-reaches
returns-then-is_safe-clause-reaches g c = λ is.
    reaches_safe g.C.ThreadCode.code g.P.StepPort.stepped g.W.WordSight.words g.met.W.WordSight.on_words c.args.at (host_place c.args.self.now) (host_place c.look_at_own.new.self)
    (c.if-not-has_turns.ensures refl) c.requires.2.between (c.if-not-is_as_seen.ensures refl)
    (subst (λ w. is_safe_for c.args.self.now.own.now w ≡ true) c.object-word.ensures (sym c.if-is_safe.ensures))
    c.look_at_own.ensures.looks

pub look_at_own-requires-2-clause-allowed : goal.look_at_own-requires-2-clause-allowed
look_at_own-requires-2-clause-allowed g c =
    allowed_look g.C.ThreadCode.code g.P.StepPort.stepped g.W.WordSight.words g.met.W.WordSight.on_words
    g.P.StepPort.allows (host_place c.args.self.now) c.requires.0 c.requires.2 (c.if-not-has_turns.ensures refl)

pub look_at_writer-requires-clause-word : goal.look_at_writer-requires-clause-word
look_at_writer-requires-clause-word g c =
    let knows = (subst (λ w. KnowsWriter (g.W.WordSight.words c.args.self.now.port.now) w c.in-Some.depth) c.object-word.ensures c.in-Some.ensures) in
    allowed_word g.C.ThreadCode.code g.P.StepPort.stepped g.W.WordSight.words g.met.W.WordSight.on_words g.P.StepPort.allows (host_place c.args.self.now) (host_place c.look_at_own-2.new.self) c.requires.0 c.args.at
    c.requires.1 c.requires.2 (c.if-not-has_turns.ensures refl) (c.if-not-is_as_seen.ensures refl) (inr knows.stays) c.look_at_own-2.ensures.looks

pub look_at_writer-requires-clause-writer : goal.look_at_writer-requires-clause-writer
look_at_writer-requires-clause-writer g c = λ w y loaded.
    let section_is = ap (λ (tag : Tag). tag.section) c.unpack-writer.ensures ∙ ap (λ (word : HeapWord). tag_section word.tag) c.unpack.ensures ∙ ap (λ w. tag_section (tag_of w)) c.object-word.ensures in
    subst (λ s. g.P.StepPort.allows y (LoadSection s)) (sym section_is)
    (allowed_writer g.C.ThreadCode.code g.P.StepPort.stepped g.W.WordSight.words g.met.W.WordSight.on_words g.P.StepPort.allows (host_place c.args.self.now) (host_place c.look_at_own-2.new.self) c.requires.0 c.args.at c.in-Some.depth w y
    c.requires.1 c.requires.2 (c.if-not-has_turns.ensures refl) (c.if-not-is_as_seen.ensures refl)
    (subst (λ w. is_safe_for c.args.self.now.own.now w ≡ false) c.object-word.ensures (sym c.if-is_safe.ensures))
    (subst (λ w. KnowsWriter (g.W.WordSight.words c.args.self.now.port.now) w c.in-Some.depth) c.object-word.ensures c.in-Some.ensures)
    c.look_at_own-2.ensures.looks loaded)

pub returns-clause-reaches : goal.returns-clause-reaches
returns-clause-reaches g c = λ is.
    let section_is = ap (λ (tag : Tag). tag.section) c.unpack-writer.ensures ∙ ap (λ (word : HeapWord). tag_section word.tag) c.unpack.ensures ∙ ap (λ w. tag_section (tag_of w)) c.object-word.ensures in
    reaches_known g.C.ThreadCode.code g.P.StepPort.stepped g.W.WordSight.words g.met.W.WordSight.on_words c.args.at c.in-Some.depth (host_place c.args.self.now) (host_place c.look_at_own-2.new.self) (host_place c.look_at_writer.new.self)
    (c.if-not-has_turns.ensures refl) c.requires.2.between (c.if-not-is_as_seen.ensures refl)
    (subst (λ w. is_safe_for c.args.self.now.own.now w ≡ false) c.object-word.ensures (sym c.if-is_safe.ensures))
    (subst (λ w. KnowsWriter (g.W.WordSight.words c.args.self.now.port.now) w c.in-Some.depth) c.object-word.ensures c.in-Some.ensures)
    c.look_at_own-2.ensures.looks
    (subst (λ s. LooksAtWriter g.P.StepPort.stepped c.args.at s c.in-Some.depth (host_place c.look_at_own-2.new.self) (host_place c.look_at_writer.new.self)) section_is c.look_at_writer.ensures.looks)
