use Rattle.std.proofs.Common.{◌≡◌, ◌∙◌, ◌∷◌, [], ◌++◌, ℕ, Bool, true, false, Some, None, slice_index_or, length, cond, nat_le, ap, sym, arith}
use Rattle.std.proofs.lemmas.Bool.{le-leb, lt-leb}
use Rattle.std.proofs.lemmas.Option.{slice_get-get_or}
use Rattle.array_table.specs.Places.{place_of}
use Rattle.array_table.proofs.Rows.{bases_more}
use Rattle.array_table.proofs.row.dimension_row.Goals as goal
use Rattle.array_table.proofs.row.dimension_row.Goals.{then-limit-dimensions+in_ok-push+in_ok-push-2, else-limit-dimensions+in_ok-push-3}

pub loop-base-preserved : goal.loop-base-preserved
loop-base-preserved c =
    let at = slice_get-get_or c.args.most.now c.loop-base.base 0 c.loop-base-test.true in
    elim c.if-limit-dimensions.branch [
      | then-limit-dimensions+in_ok-push+in_ok-push-2 w ↦
          let test : nat_le c.args.dimensions (slice_index_or c.args.most.now c.loop-base.base 0) ≡ true = le-leb c.args.dimensions (slice_index_or c.args.most.now c.loop-base.base 0) w.if-limit-dimensions.true in
          let many : w.len.result ≡ length c.loop-base.places.items = omega (arith, c.loop-base.places.ok.0) in
          bases_more c.args.places.now.items c.args.dimensions c.args.most.now c.loop-base.base (slice_index_or c.args.most.now c.loop-base.base 0) c.loop-base.places.items c.if-limit-dimensions.places.items c.loop-base.row.items c.if-limit-dimensions.row.items at c.loop-base.invariant
          (ap (λ v. v.items) w.places-is ∙ w.in_ok-push-2.ensures.items ∙ ap (λ (b : Bool). c.loop-base.places.items ++ cond b (place_of c.args.dimensions c.loop-base.base ∷ []) []) (sym test))
          (ap (λ v. v.items) w.row-is ∙ w.in_ok-push.ensures.items ∙ ap (λ (k : ℕ). c.loop-base.row.items ++ Some k ∷ []) many ∙ ap (λ (b : Bool). c.loop-base.row.items ++ cond b (Some (length c.loop-base.places.items)) None ∷ []) (sym test))
      | else-limit-dimensions+in_ok-push-3 w ↦
          let test : nat_le c.args.dimensions (slice_index_or c.args.most.now c.loop-base.base 0) ≡ false = lt-leb c.args.dimensions (slice_index_or c.args.most.now c.loop-base.base 0) w.if-limit-dimensions.false in
          bases_more c.args.places.now.items c.args.dimensions c.args.most.now c.loop-base.base (slice_index_or c.args.most.now c.loop-base.base 0) c.loop-base.places.items c.if-limit-dimensions.places.items c.loop-base.row.items c.if-limit-dimensions.row.items at c.loop-base.invariant
          (ap (λ v. v.items) w.places-is ∙ sym (Rattle.std.proofs.lemmas.List.append-nil c.loop-base.places.items) ∙ ap (λ (b : Bool). c.loop-base.places.items ++ cond b (place_of c.args.dimensions c.loop-base.base ∷ []) []) (sym test))
          (ap (λ v. v.items) w.row-is ∙ w.in_ok-push-3.ensures.items ∙ ap (λ (b : Bool). c.loop-base.row.items ++ cond b (Some (length c.loop-base.places.items)) None ∷ []) (sym test))
    ]
