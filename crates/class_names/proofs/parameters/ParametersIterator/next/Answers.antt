use Rattle.std.proofs.Common.{rules, ap, ◌∙◌, sym, List, ℕ, ◌≡◌, [], ◌∷◌}
use Rattle.class_names.specs.declared.kind.Kind.{Kind}
use Rattle.class_names.specs.Shape.{kind_of}
use Rattle.class_names.specs.Kinds.{kinds_at}
use Rattle.class_names.proofs.BytesLaws.{kinds_first, kinds_none}
use Rattle.class_names.proofs.parameters.ParametersIterator.next.Goals as goal

pub returns-in_err-shape-clause-steps : goal.returns-in_err-shape-clause-steps
returns-in_err-shape-clause-steps c =
    let bytes = c.self.inside.bytes.now in
    let empty : c.args.self.now ≡ [] = sym c.self.view_is ∙ ap (λ (x : List Kind × List ℕ). x.0) (kinds_none bytes c.in_err-shape.ensures) in
    rw c.from_residual.ensures (empty, empty)

pub returns-clause-steps : goal.returns-clause-steps
returns-clause-steps c =
    sym c.self.view_is ∙ ap (λ (x : List Kind × List ℕ). x.0) (kinds_first c.self.inside.bytes.now (kind_of c.in_ok-shape.shape) c.in_ok-shape.rest.now c.in_ok-shape.ensures)

pub returns-clause-goes : goal.returns-clause-goes
returns-clause-goes c =
    let e : c.args.self.now ≡ kind_of c.in_ok-shape.shape ∷ (kinds_at c.in_ok-shape.rest.now).0 =
    sym c.self.view_is ∙ ap (λ (x : List Kind × List ℕ). x.0) (kinds_first c.self.inside.bytes.now (kind_of c.in_ok-shape.shape) c.in_ok-shape.rest.now c.in_ok-shape.ensures) in
    rw e (search rules)
