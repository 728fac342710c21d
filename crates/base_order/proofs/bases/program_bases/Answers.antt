use Rattle.std.proofs.Common.{◌≡◌, ◌∙◌, ◌-◌, ◌++◌, ◌∷◌, [], ℕ, List, length, map, ap, arith}
use Rattle.std.specs.List.{range_with_len}
use Rattle.link_rules.specs.Classes.{classes_of}
use Rattle.link_rules.proofs.Numbers.{class_count_is}
use Rattle.base_order.specs.Bases.{base_text, primitive_bases, class_base, class_type, text_of_base}
use Rattle.base_order.proofs.BaseLaws.{texts_more, bases_right}
use Rattle.base_order.proofs.bases.program_bases.Goals as goal

pub loop-class-preserved : goal.loop-class-preserved
loop-class-preserved c =
    let cs = classes_of c.args.supers.now in
    let its : c.in_ok-class_text.field-0 ≡ class_base (classes_of c.args.supers.now) c.loop-class.class =
    c.in_ok-class_text.ensures ∙ ap (λ (name : List ℕ). text_of_base (76 ∷ (name ++ 59 ∷ [])) (class_type c.loop-class.class)) c.class_name.ensures in
    record {
      some = omega arith;
      texts = texts_more (class_base (classes_of c.args.supers.now)) primitive_bases c.loop-class.texts.items c.push.new.self.items c.loop-class.class c.in_ok-class_text.field-0 c.loop-class.invariant.some c.loop-class.invariant.texts its c.in_ok-push.ensures.items;
    }

pub returns : goal.returns
returns c =
    let many = class_count_is c.args.supers.now in
    let units : length c.units.result.now ≡ length c.args.supers.now = ap length c.units.ensures in
    let last : c.loop-class.class - 1 ≡ length (classes_of c.args.supers.now) = omega arith in
    let texts : c.deref.result.now ≡ primitive_bases ++ map (class_base (classes_of c.args.supers.now)) (range_with_len 1 (length (classes_of c.args.supers.now))) =
    c.deref.ensures.value ∙ c.loop-class.invariant.texts ∙ ap (λ (n : ℕ). primitive_bases ++ map (class_base (classes_of c.args.supers.now)) (range_with_len 1 n)) last in
    bases_right c.args.supers.now c.deref.result.now c.in_ok-bases.bases.items texts (c.in_ok-bases.ensures (base_text (classes_of c.args.supers.now)))
