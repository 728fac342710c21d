use Rattle.std.proofs.Common.{◌≡◌, ℕ, Bool, true, false, cond, refl, ◌∙◌, ap, nat_eq}
use Rattle.method_selection.proofs.selected_rows.first_row.Goals as goal

same : (b : Bool) (n : ℕ) → cond b n n ≡ n
same true n = refl
same false n = refl

pub returns : goal.returns
returns c = λ place.
    ap (λ (f : ℕ → ℕ). f place) c.in_ok-set.ensures.ok ∙ ap (λ (f : ℕ → ℕ). cond (nat_eq place c.args.numbers) 0 (f place)) c.new-row.ensures ∙ same (nat_eq place c.args.numbers) 0
