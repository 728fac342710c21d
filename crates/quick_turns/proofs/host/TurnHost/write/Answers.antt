use Rattle.std.proofs.Common.{◌≡◌, ◌+◌, ◌-◌, ◌≤◌, ℕ, true, refl, sym, subst, arith}
use Rattle.op_core.specs.declared.Op.TheVariants.{Write}
use Rattle.op_core.specs.declared.Reply.{Reply}
use Rattle.step_port.specs.declared.step.Step.TheVariants.{SwapWord}
use Rattle.step_port.specs.Words.{exchanged}
use Rattle.thread_automaton.specs.NextMove.{word_place}
use Rattle.quick_turns.specs.Usual.{is_awaited_by_none}
use Rattle.turn_runs.specs.HostPlaces.{HostPlace}
use Rattle.quick_turns.specs.Place.{HostDeclines}
use Rattle.turn_runs.specs.Own.{written_by}
use Rattle.quick_turns.specs.Borrowed.{host_place}
use Rattle.quick_turns.proofs.PathLemmas.{write_range, may_still, still_between_here, answers_still, allowed_reached, allowed_swap, swap_made, write_answers}
use Rattle.quick_turns.proofs.host.TurnHost.write.Goals as goal

two_left : (left : ℕ) → 2 ≤ left → left ≡ (left - 2) + 2
two_left left some = omega (arith, some)

pub overflow_add-at : goal.overflow_add-at
overflow_add-at g c =
    let range = write_range g.C.ThreadCode.code g.P.StepPort.stepped g.W.WordSight.words g.met.W.WordSight.on_words g.P.StepPort.allows (host_place c.args.self.now) c.args.object c.args.place c.args.value c.requires in
    omega (arith, range)

pub overflow_add-at-2 : goal.overflow_add-at-2
overflow_add-at-2 g c =
    let range = write_range g.C.ThreadCode.code g.P.StepPort.stepped g.W.WordSight.words g.met.W.WordSight.on_words g.P.StepPort.allows (host_place c.args.self.now) c.args.object c.args.place c.args.value c.requires in
    omega (arith, range)

pub reach-requires : goal.reach-requires
reach-requires g c =
    let here : HostPlace _ = record { own = c.make_log_room.new.own; port = c.args.self.now.port.now; left = c.args.self.now.left } in
    let same : HostDeclines (host_place c.args.self.now) here = record { own = c.make_log_room.ensures.own; log = c.make_log_room.ensures.noted; port = refl; left = refl } in
    (Write c.args.object c.args.place c.args.value, refl, may_still g.C.ThreadCode.code g.P.StepPort.stepped g.W.WordSight.words g.met.W.WordSight.on_words (host_place c.args.self.now) here same g.P.StepPort.allows (Write c.args.object c.args.place c.args.value) c.requires)

pub load_word-word-requires : goal.load_word-word-requires
load_word-word-requires g c =
    let here : HostPlace _ = record { own = c.make_log_room.new.own; port = c.args.self.now.port.now; left = c.args.self.now.left } in
    let same : HostDeclines (host_place c.args.self.now) here = record { own = c.make_log_room.ensures.own; log = c.make_log_room.ensures.noted; port = refl; left = refl } in
    allowed_reached g.C.ThreadCode.code g.P.StepPort.stepped g.W.WordSight.words g.met.W.WordSight.on_words g.P.StepPort.allows here (host_place c.reach.new.self) (Write c.args.object c.args.place c.args.value) (word_place c.args.object c.args.place) refl
    (may_still g.C.ThreadCode.code g.P.StepPort.stepped g.W.WordSight.words g.met.W.WordSight.on_words (host_place c.args.self.now) here same g.P.StepPort.allows
    (Write c.args.object c.args.place c.args.value) c.requires) (c.if-not-reach.ensures.reaches refl)

pub swap_word-done-requires : goal.swap_word-done-requires
swap_word-done-requires g c =
    let here : HostPlace _ = record { own = c.make_log_room.new.own; port = c.args.self.now.port.now; left = c.args.self.now.left } in
    let same : HostDeclines (host_place c.args.self.now) here = record { own = c.make_log_room.ensures.own; log = c.make_log_room.ensures.noted; port = refl; left = refl } in
    subst (λ new. g.P.StepPort.allows c.load_word-word.new.self (SwapWord (word_place c.args.object c.args.place) c.load_word-word.result new)) (sym c.written_word-written.ensures)
    (allowed_swap g.C.ThreadCode.code g.P.StepPort.stepped g.W.WordSight.words g.met.W.WordSight.on_words g.P.StepPort.allows here (host_place c.reach.new.self) c.args.object c.args.place c.args.value c.load_word-word.result c.load_word-word.new.self
    (may_still g.C.ThreadCode.code g.P.StepPort.stepped g.W.WordSight.words g.met.W.WordSight.on_words (host_place c.args.self.now) here same g.P.StepPort.allows
    (Write c.args.object c.args.place c.args.value) c.requires) (c.if-not-reach.ensures.reaches refl) c.load_word-word.ensures)

pub returns-clause-some : goal.returns-clause-some
returns-clause-some g c =
    let here : HostPlace _ = record { own = c.make_log_room.new.own; port = c.args.self.now.port.now; left = c.args.self.now.left } in
    let same : HostDeclines (host_place c.args.self.now) here = record { own = c.make_log_room.ensures.own; log = c.make_log_room.ensures.noted; port = refl; left = refl } in
    let at : ℕ = word_place c.args.object c.args.place in
    let new : ℕ = written_by c.reach.new.self.own.now c.args.value in
    let reaches = (c.if-not-reach.ensures.reaches refl) in
    let stepped = subst (λ new. g.P.StepPort.stepped c.load_word-word.new.self (SwapWord at c.load_word-word.result new) (exchanged c.swap_word-done.result) c.swap_word-done.new.self)
    c.written_word-written.ensures c.swap_word-done.ensures in
    let done = swap_made g.C.ThreadCode.code g.P.StepPort.stepped g.W.WordSight.words g.met.W.WordSight.on_words g.P.StepPort.allows c.reach.new.self.port.now c.load_word-word.new.self c.swap_word-done.new.self at c.load_word-word.result new
    (exchanged c.swap_word-done.result) c.load_word-word.ensures stepped in (
      tt,
      record { own = c.reach.ensures.same.own; port = c.reach.ensures.same.port },
      answers_still g.C.ThreadCode.code g.P.StepPort.stepped g.W.WordSight.words g.met.W.WordSight.on_words (host_place c.args.self.now) here same (Write c.args.object c.args.place c.args.value) Reply.Done
          (record { own = c.count_write.new.own; port = c.swap_word-done.new.self; left = c.reach.new.self.left - 2 })
          (write_answers g.C.ThreadCode.code g.P.StepPort.stepped g.W.WordSight.words g.met.W.WordSight.on_words c.args.object c.args.place c.args.value c.load_word-word.result here (host_place c.reach.new.self)
          (record { own = c.count_write.new.own; port = c.swap_word-done.new.self; left = c.reach.new.self.left - 2 }) c.load_word-word.new.self
          (still_between_here g.C.ThreadCode.code g.P.StepPort.stepped g.W.WordSight.words g.met.W.WordSight.on_words (host_place c.args.self.now) here same c.requires.between) reaches
          (subst (λ w. is_awaited_by_none (g.W.WordSight.words c.args.self.now.port.now) w ≡ true) c.object-found.ensures (sym c.if-not-is_awaited_by_none.ensures))
          c.load_word-word.ensures
          (subst (λ a. g.P.StepPort.stepped c.load_word-word.new.self (SwapWord at c.load_word-word.result new) a c.swap_word-done.new.self) done stepped)
          c.count_write.ensures (two_left c.reach.new.self.left reaches.left)),
    )
