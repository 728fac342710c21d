use Rattle.std.proofs.Common.{◌≡◌, List, ℕ, Some, None, Err, ap, subst, arith, ◌∙◌}
use Rattle.std.proofs.lemmas.Result.{err_from_is_err_and}
use Rattle.assembler_bodies.specs.declared.refusal.BodyRefusal.{BodyRefusal}
use Rattle.assembler_bodies.specs.Making.{Fails}
use Rattle.assembler_bodies.specs.Body.{MadeBody, maps_of, content}
use Rattle.assembler_bodies.proofs.ContentLaws.{content_short, content_long, content_fails}
use Rattle.assembler_bodies.proofs.body.Body.finish.Goals as goal

pub returns-in_err-attributes : goal.returns-in_err-attributes
returns-in_err-attributes c =
    let p = err_from_is_err_and c.from_residual.result c.from_residual.ensures.1 in
    let P : MadeBody → Type 0 = λ b. Fails c.in_err-attributes.field-0.0 (content b) in
    rw (p.1, p.2) (subst P c.self.view_is (content_fails c.in_err-attributes.field-0.0 _ (λ is. rw (← c.deref.ensures.value) (c.in_err-attributes.ensures.refused (ap (λ (r : BodyRefusal). Err r) is)))))

pub returns-then-len-gt-MOST_CONTENT : goal.returns-then-len-gt-MOST_CONTENT
returns-then-len-gt-MOST_CONTENT c =
    let P : MadeBody → Type 0 = λ b. content b ≡ None in
    let maps = c.in_ok-attributes.ensures.maps ∙ ap (λ (fs : List ℕ). maps_of c.self.inside.map_name c.self.inside.frame_count fs) c.deref.ensures.value in
    subst P c.self.view_is (content_long _ c.in_ok-content.content.items c.from_vec.result c.from_vec-2.result c.in_ok-attributes.attributes c.in_ok-content.ensures c.from_vec.ensures c.from_vec-2.ensures maps (omega arith))

pub returns : goal.returns
returns c =
    let P : MadeBody → Type 0 = λ b. content b ≡ Some c.in_ok-content.content.items in
    let maps = c.in_ok-attributes.ensures.maps ∙ ap (λ (fs : List ℕ). maps_of c.self.inside.map_name c.self.inside.frame_count fs) c.deref.ensures.value in
    subst P c.self.view_is (content_short _ c.in_ok-content.content.items c.from_vec.result c.from_vec-2.result c.in_ok-attributes.attributes c.in_ok-content.ensures c.from_vec.ensures c.from_vec-2.ensures maps (omega arith))
