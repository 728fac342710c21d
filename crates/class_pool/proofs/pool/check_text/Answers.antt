use Rattle.std.proofs.Common.{inr, refl}
use Rattle.class_pool.proofs.PoolMarkLaws.{fits_marks}
use Rattle.class_pool.proofs.pool.check_text.Goals as goal

pub returns-then-not-fits_uses : goal.returns-then-not-fits_uses
returns-then-not-fits_uses c =
    let decides = rw c.from.ensures at c.fits_uses.ensures in
    inr (
      c.is_modified_utf8.ensures.0 c.if-not-is_modified_utf8.false,
      (
        λ right.
            let t = decides.1 (fits_marks c.args.pool.now c.args.uses.now c.args.index c.args.text.now c.requires.uses c.requires.inside right) in
            let f = c.if-not-fits_uses.true in
            absurd cc,
        refl,
      ),
    )
