-- Laws of the toy code's saves.
use Rattle.std.proofs.Common.{◌≡◌, Bool, true, false, List, [], ◌∷◌, refl, sym, ◌∙◌, ap, subst}
use Rattle.std.specs.Prelude.{◌||◌, ◌&&◌, ◌==◌, map, slice_get}
use Rattle.std.specs.List.{list_any}
use Rattle.op_core.specs.ThreadCode.{leaves_any}
use Rattle.toy_code.specs.declared.script.ToyStep.{ToyStep}
use Rattle.toy_code.specs.declared.script.ToyScript.{ToyScript}
use Rattle.toy_code.specs.declared.script.ToyPlace.{ToyPlace}
use Rattle.toy_code.specs.Toy.{ToyState, toy_code, is_return}

-- whether a thread leaves a saved frame: it is at a return, and one of the saves has as many frames
module _ (scripts : List ToyScript) (steps : List ToyStep) (place : ToyPlace) where
  found_at : (returns : Bool) (saves : List ToyPlace) → list_any {X = ToyState} (λ save. returns && (save.place.frames == place.frames)) (map (λ p. record { scripts = scripts; steps = steps; place = p }) saves) ≡ (returns && list_any (λ p. p.frames == place.frames) saves)
  found_at true [] = refl
  found_at false [] = refl
  found_at true (p ∷ saves) = ap (λ b. (p.frames == place.frames) || b) (found_at true saves)
  found_at false (p ∷ saves) = found_at false saves

  leaves_saves : (saves : List ToyPlace) (returns : Bool) → returns ≡ is_return (slice_get steps place.step) → leaves_any toy_code (map (λ p. record { scripts = scripts; steps = steps; place = p }) saves) (record { scripts = scripts; steps = steps; place = place }) ≡ (returns && list_any (λ p. p.frames == place.frames) saves)
  leaves_saves saves returns is = subst (λ b. leaves_any toy_code (map (λ p. record { scripts = scripts; steps = steps; place = p }) saves) (record { scripts = scripts; steps = steps; place = place }) ≡ (b && list_any (λ p. p.frames == place.frames) saves)) (sym is) (found_at (is_return (slice_get steps place.step)) saves)

  pub leaves_at_return : (saves : List ToyPlace) (returns found : Bool) → returns ≡ is_return (slice_get steps place.step) → returns ≡ true → found ≡ list_any (λ p. p.frames == place.frames) saves → found ≡ leaves_any toy_code (map (λ p. record { scripts = scripts; steps = steps; place = p }) saves) (record { scripts = scripts; steps = steps; place = place })
  leaves_at_return saves returns found is returning finds =
      finds ∙ ap (λ b. b && list_any (λ p. p.frames == place.frames) saves) (sym returning) ∙ sym (leaves_saves saves returns is)

  pub leaves_elsewhere : (saves : List ToyPlace) (returns : Bool) → returns ≡ is_return (slice_get steps place.step) → returns ≡ false → returns ≡ leaves_any toy_code (map (λ p. record { scripts = scripts; steps = steps; place = p }) saves) (record { scripts = scripts; steps = steps; place = place })
  leaves_elsewhere saves returns is returning =
      returning ∙ ap (λ b. b && list_any (λ p. p.frames == place.frames) saves) (sym returning) ∙ sym (leaves_saves saves returns is)
