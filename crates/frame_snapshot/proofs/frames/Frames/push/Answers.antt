use Rattle.std.proofs.Common.{◌≡◌, ℕ, ◌+◌, ◌-◌, ◌<◌, ◌≤◌, List, [], ◌∷◌, ◌++◌, length, take, drop, reverse, replicate, ap, subst, ◌∙◌, arith, rules, length-take}
use Rattle.std.proofs.lemmas.List.{reverse-append, length-reverse}
use Rattle.frame_snapshot.specs.declared.activation.Activation.{Activation}
use Rattle.frame_snapshot.specs.FrameStack.{with_call}
use Rattle.frame_snapshot.proofs.CallLemmas.{called_fits, called_seen}
use Rattle.frame_snapshot.proofs.frames.Frames.push.Goals as goal

module _ (c : goal.After-self-2-1) where
  abbrev caller : Activation
  caller = record c.self.inside.here { stage = c.args.call.caller; top = c.self.inside.here.top - c.args.call.arguments }

  below_is : reverse c.push_reserved.new.self.items ≡ caller ∷ reverse c.self.inside.below.items
  below_is =
      ap reverse (c.push_reserved.ensures.items ∙ ap (λ xs. xs ++ caller ∷ []) c.reserve.ensures.items)
      ∙ reverse-append c.self.inside.below.items (caller ∷ [])

  arguments : c.args.call.arguments ≤ c.self.inside.here.top - c.self.inside.here.floor
  arguments =
      let count = ap (λ s. length s.here.stack) c.self.view_is in
      let cut : List ℕ = take (c.self.inside.here.top - c.self.inside.here.floor) (drop c.self.inside.here.floor c.self.inside.words.items) in
      omega (arith, c.requires.arguments, count, length-reverse cut, length-take (c.self.inside.here.top - c.self.inside.here.floor) (drop c.self.inside.here.floor c.self.inside.words.items))

  few : length (reverse c.self.inside.below.items) < 1023
  few =
      let count : c.len.result ≡ length c.self.inside.below.items = search rules in
      omega (arith, c.if-len-ge-MOST_BELOW.false, count, length-reverse c.self.inside.below.items)

  room : c.self.inside.here.top - c.args.call.arguments + c.args.call.max_locals + c.args.call.max_stack ≤ length c.make_room.new.words.items
  room = omega (arith, c.in_ok-make_room.ensures.room, c.from.ensures, c.from-2.ensures)

  zeros : take (c.args.call.max_locals - c.args.call.arguments) (drop c.self.inside.here.top c.make_room.new.words.items) ≡ replicate (c.args.call.max_locals - c.args.call.arguments) 0
  zeros =
      let count : c.self.inside.here.top - c.args.call.arguments + c.from.result - c.self.inside.here.top ≡ c.args.call.max_locals - c.args.call.arguments = omega (arith, arguments, c.from.ensures, c.requires.locals) in
      subst (λ n. take n (drop c.self.inside.here.top c.make_room.new.words.items) ≡ replicate n 0) count c.in_ok-make_room.ensures.zeros

pub invariant_of-self-2 : goal.invariant_of-self-2
invariant_of-self-2 c =
    let x = c.self.inside in
    rw c.from.ensures (rw c.from-2.ensures (rw (below_is c)
    (called_fits x.words.items x.here (reverse x.below.items) (reverse x.saves.items) x.kept.items c.self.invariant c.args.call c.make_room.new.words.items (arguments c) c.requires.locals (few c) c.make_room.ensures.grown c.make_room.ensures.before (room c))))

pub returns-clause-ok : goal.returns-clause-ok
returns-clause-ok c =
    let x = c.self.inside in
    rw c.from.ensures (rw c.from-2.ensures (rw (below_is c)
    (called_seen x.words.items x.here (reverse x.below.items) (reverse x.saves.items) x.kept.items c.self.invariant c.args.call c.make_room.new.words.items (arguments c) c.requires.locals (few c) c.make_room.ensures.grown c.make_room.ensures.before (zeros c)
    ∙ ap (λ s. with_call s c.args.call) c.self.view_is)))
