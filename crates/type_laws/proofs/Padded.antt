-- What goes to a map frame goes to the frame that it stands for.
use Rattle.std.proofs.Common.{◌≡◌, ℕ, zero, suc, true, List, [], ◌∷◌, ◌++◌, take, replicate, refl}
use Rattle.std.proofs.lemmas.Bool.{and_parts, and_from}
use Rattle.type_rules.specs.declared.types.VerificationType.{VerificationType}
use Rattle.type_rules.specs.declared.types.VerificationType.TheVariants.{Top, Int, Float, Long, Double, Second, Null, UninitThis, Uninit, Object}
use Rattle.type_rules.specs.Assignable.{Hierarchy, is_assignable, are_assignable, are_locals_assignable}
use Rattle.type_rules.specs.Environment.{Environment, TypeFrame, frame_of_map}
use Rattle.type_rules.specs.TypeFaults.{is_frame_assignable}

top_takes : (h : Hierarchy) (a : VerificationType) → is_assignable h a Top ≡ true
top_takes h Top = refl
top_takes h Int = refl
top_takes h Float = refl
top_takes h Long = refl
top_takes h Double = refl
top_takes h Second = refl
top_takes h Null = refl
top_takes h UninitThis = refl
top_takes h (Uninit p) = refl
top_takes h (Object t) = refl

tops_take : (h : Hierarchy) (as' : List VerificationType) (n : ℕ) → are_locals_assignable h as' (replicate n Top) ≡ true
tops_take h [] zero = refl
tops_take h (a ∷ as') zero = refl
tops_take h [] (suc n) = tops_take h [] n
tops_take h (a ∷ as') (suc n) = and_from _ _ (top_takes h a) (tops_take h as' n)

longer : (h : Hierarchy) (as' bs : List VerificationType) (n : ℕ) → are_locals_assignable h as' bs ≡ true → are_locals_assignable h as' (bs ++ replicate n Top) ≡ true
longer h as' [] n e = tops_take h as' n
longer h [] (b ∷ bs) n e =
    let parts = and_parts (is_assignable h Top b) (are_locals_assignable h [] bs) e in
    and_from _ _ parts.0 (longer h [] bs n parts.1)
longer h (a ∷ as') (b ∷ bs) n e =
    let parts = and_parts (is_assignable h a b) (are_locals_assignable h as' bs) e in
    and_from _ _ parts.0 (longer h as' bs n parts.1)

shorter : (h : Hierarchy) (as' bs : List VerificationType) (n : ℕ) → are_locals_assignable h as' bs ≡ true → are_locals_assignable h as' (take n bs) ≡ true
shorter h [] [] zero e = refl
shorter h [] [] (suc n) e = refl
shorter h (a ∷ as') [] zero e = refl
shorter h (a ∷ as') [] (suc n) e = refl
shorter h [] (b ∷ bs) zero e = refl
shorter h (a ∷ as') (b ∷ bs) zero e = refl
shorter h [] (b ∷ bs) (suc n) e =
    let parts = and_parts (is_assignable h Top b) (are_locals_assignable h [] bs) e in
    and_from _ _ parts.0 (shorter h [] bs n parts.1)
shorter h (a ∷ as') (b ∷ bs) (suc n) e =
    let parts = and_parts (is_assignable h a b) (are_locals_assignable h as' bs) e in
    and_from _ _ parts.0 (shorter h as' bs n parts.1)

pub goes_to_padded : (env : Environment) (f g : TypeFrame) → is_frame_assignable env f g ≡ true → is_frame_assignable env f (frame_of_map env g) ≡ true
goes_to_padded env f g e =
    let stack = and_parts (are_assignable env.hierarchy f.stack g.stack) _ e in
    let locals = and_parts (are_locals_assignable env.hierarchy f.locals g.locals) _ stack.1 in
    let long : are_locals_assignable env.hierarchy f.locals (g.locals ++ replicate env.max_locals Top) ≡ true = longer env.hierarchy f.locals g.locals env.max_locals locals.0 in
    and_from _ _ stack.0 (and_from _ _ (shorter env.hierarchy f.locals (g.locals ++ replicate env.max_locals Top) env.max_locals long) locals.1)
