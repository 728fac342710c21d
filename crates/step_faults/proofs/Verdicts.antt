-- The verdicts on the words on top of a stack.
use Rattle.std.proofs.Common.{◌≡◌, ℕ, ◌+◌, ◌≤◌, Bool, true, false, List, [], ◌∷◌, length, drop, slice_index_or, refl, sym, ap, ◌∙◌, arith}
use Rattle.std.specs.List.{list_any}
use Rattle.std.proofs.lemmas.Bool.{true≢false}
use Rattle.std.proofs.lemmas.List.{drop_more}
use Rattle.type_rules.specs.Environment.{Environment}
use Rattle.type_rules.specs.Wants.{Want, a_long, Verdict, right, wrong, uninitialized, verdict, verdicts, is_wrong, is_uninitialized}
use Rattle.type_rules.specs.declared.types.VerificationType.{VerificationType}
use Rattle.type_rules.specs.declared.types.VerificationType.TheVariants.{Top, Long, Second}
use Rattle.step_faults.specs.Worst.{worse, worst}

-- ---- one want

abbrev long_verdict : VerificationType → VerificationType → Verdict
long_verdict Second Long = right
long_verdict _ _ = wrong

long_cons : (env : Environment) (ws : List Want) (stack : List VerificationType) (x y : VerificationType) → verdicts env (a_long ∷ ws) (x ∷ y ∷ stack) ≡ long_verdict x y ∷ verdicts env ws stack
long_cons env ws stack Second Long = refl
long_cons env ws stack x y = refl

abbrev first_verdict : List Verdict → Verdict
first_verdict [] = right
first_verdict (v ∷ vs) = v

pub long_under : (env : Environment) (ws : List Want) (stack : List VerificationType) (d : ℕ) (x y : VerificationType) (v : Verdict) → d + 2 ≤ length stack
    → slice_index_or stack d Top ≡ x → slice_index_or stack (d + 1) Top ≡ y
    → v ∷ [] ≡ verdicts env (a_long ∷ []) (x ∷ y ∷ [])
    → verdicts env (a_long ∷ ws) (drop d stack) ≡ v ∷ verdicts env ws (drop (d + 2) stack)
long_under env ws stack d x y v room top second e =
    let two : d + 1 + 1 ≡ d + 2 = omega arith in
    let under : drop (d + 1) stack ≡ y ∷ drop (d + 2) stack =
    drop_more stack (d + 1) Top (omega arith) ∙ (ap (λ (n : ℕ). slice_index_or stack (d + 1) Top ∷ drop n stack) two ∙ ap (λ (w : VerificationType). w ∷ drop (d + 2) stack) second) in
    let here : drop d stack ≡ x ∷ y ∷ drop (d + 2) stack =
    drop_more stack d Top (omega arith) ∙ (ap (λ (w : VerificationType). w ∷ drop (d + 1) stack) top ∙ ap (λ (s : List VerificationType). x ∷ s) under) in
    let same : v ≡ long_verdict x y = ap first_verdict (e ∙ long_cons env [] [] x y) in
    ap (λ (s : List VerificationType). verdicts env (a_long ∷ ws) s) here
    ∙ (long_cons env ws (drop (d + 2) stack) x y ∙ ap (λ (u : Verdict). u ∷ verdicts env ws (drop (d + 2) stack)) (sym same))

abbrev pub is_single : Want → Bool
is_single a_long = false
is_single _ = true

single_cons : (env : Environment) (want : Want) (ws : List Want) (x : VerificationType) (stack : List VerificationType) → is_single want ≡ true → verdicts env (want ∷ ws) (x ∷ stack) ≡ verdict env want x ∷ verdicts env ws stack
single_cons env a_long ws x stack e = absurd (true≢false (sym e))
single_cons env _ ws x stack e = refl

pub single_under : (env : Environment) (want : Want) (ws : List Want) (stack : List VerificationType) (d : ℕ) (x : VerificationType) (v : Verdict) → is_single want ≡ true → d + 1 ≤ length stack
    → slice_index_or stack d Top ≡ x → v ≡ verdict env want x
    → verdicts env (want ∷ ws) (drop d stack) ≡ v ∷ verdicts env ws (drop (d + 1) stack)
single_under env want ws stack d x v single room top e =
    ap (λ (s : List VerificationType). verdicts env (want ∷ ws) s) (drop_more stack d Top (omega arith) ∙ ap (λ (w : VerificationType). w ∷ drop (d + 1) stack) top)
    ∙ (single_cons env want ws x (drop (d + 1) stack) single ∙ ap (λ (u : Verdict). u ∷ verdicts env ws (drop (d + 1) stack)) (sym e))

-- ---- the worst

worse_worse : (a b c : Verdict) → worse (worse a b) c ≡ worse a (worse b c)
worse_worse right b c = refl
worse_worse wrong b c = refl
worse_worse uninitialized wrong c = refl
worse_worse uninitialized right c = refl
worse_worse uninitialized uninitialized right = refl
worse_worse uninitialized uninitialized wrong = refl
worse_worse uninitialized uninitialized uninitialized = refl

pub worse_right : (a : Verdict) → worse a right ≡ a
worse_right right = refl
worse_right wrong = refl
worse_right uninitialized = refl

-- one more verdict
pub worst_goes_on : (before v now all : Verdict) (rest others : List Verdict) → worse before (worst rest) ≡ all → rest ≡ v ∷ others → now ≡ worse before v → worse now (worst others) ≡ all
worst_goes_on before v now all rest others e is new =
    ap (λ (u : Verdict). worse u (worst others)) new ∙ (worse_worse before v (worst others) ∙ (sym (ap (λ (vs : List Verdict). worse before (worst vs)) is) ∙ e))

pub worst_wrong : (vs : List Verdict) → is_wrong (worst vs) ≡ list_any is_wrong vs
worst_wrong [] = refl
worst_wrong (right ∷ vs) = worst_wrong vs
worst_wrong (wrong ∷ vs) = refl
worst_wrong (uninitialized ∷ vs) = under_uninitialized (worst vs) ∙ worst_wrong vs
  where
    under_uninitialized : (v : Verdict) → is_wrong (worse uninitialized v) ≡ is_wrong v
    under_uninitialized right = refl
    under_uninitialized wrong = refl
    under_uninitialized uninitialized = refl

pub worst_uninitialized : (vs : List Verdict) → is_wrong (worst vs) ≡ false → is_uninitialized (worst vs) ≡ list_any is_uninitialized vs
worst_uninitialized [] e = refl
worst_uninitialized (right ∷ vs) e = worst_uninitialized vs e
worst_uninitialized (wrong ∷ vs) e = absurd (true≢false e)
worst_uninitialized (uninitialized ∷ vs) e = stays (worst vs) e
  where
    stays : (v : Verdict) → is_wrong (worse uninitialized v) ≡ false → is_uninitialized (worse uninitialized v) ≡ true
    stays right e = refl
    stays wrong e = absurd (true≢false e)
    stays uninitialized e = refl
