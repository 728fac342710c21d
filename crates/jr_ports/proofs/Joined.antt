-- Pieces that are joined: one piece more.
use Rattle.std.proofs.Common.{◌≡◌, ℕ, List, [], ◌∷◌, ◌++◌, map, Vec, sym, ◌∙◌, ap, append-nil}
use Rattle.std.specs.declared.alloc.Global.{Global}
use Rattle.std.specs.List.{concat}
use Rattle.std.proofs.lemmas.List.{map-append}
use Rattle.std.proofs.lemmas.List.Folds.{concat-append}

pub concat-more : (joined more piece : List ℕ) (old new : List (Vec ℕ Global)) (kept : Vec ℕ Global) → joined ≡ concat (map (λ v. v.items) old) → more ≡ joined ++ piece → new ≡ old ++ kept ∷ [] → kept.items ≡ piece → more ≡ concat (map (λ v. v.items) new)
concat-more joined more piece old new kept was grown pushed is =
    let items : Vec ℕ Global → List ℕ = λ v. v.items in
    let apart : concat (map items new) ≡ concat (map items old) ++ kept.items =
    ap (λ vs. concat (map items vs)) pushed ∙ ap concat (map-append items old (kept ∷ [])) ∙ concat-append (map items old) (kept.items ∷ []) ∙ ap (λ k. concat (map items old) ++ k) (append-nil kept.items) in
    grown ∙ ap (λ j. j ++ piece) was ∙ ap (λ k. concat (map items old) ++ k) (sym is) ∙ sym apart
