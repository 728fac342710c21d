use Rattle.std.proofs.Common.{◌∙◌, ◌||◌, ◌&&◌, ◌==◌, ◌+◌, Bool, refl, length, ap}
use Rattle.std.proofs.lemmas.Option.{slice_get_read}
use Rattle.class_supers.specs.Above.{names}
use Rattle.class_supers.proofs.AboveLaws.{names_more}
use Rattle.class_supers.proofs.above.named_classes.Goals as goal

pub loop-i-preserved : goal.loop-i-preserved
loop-i-preserved c =
    let hs = c.args.headers.now in
    let i = c.loop-i.i in
    let h = c.index-headers-i.result in
    let at = slice_get_read hs (length hs) i h refl c.loop-i-test.true c.index-headers-i.is in
    record {
      size = c.relate_header.ensures.size ∙ c.loop-i.invariant.size;
      related = λ k d. c.relate_header.ensures.related k d ∙ ap (λ (b : Bool). b || (k == i + 1 && names h d)) (c.loop-i.invariant.related k d) ∙ names_more hs i h at k d;
    }
