-- Lists of which one word is changed.
use Rattle.std.proofs.Common.{◌≡◌, ◌≢◌, ℕ, zero, suc, ◌+◌, ◌-◌, ◌*◌, ◌/◌, ◌%◌, ◌<◌, ◌≤◌, ◌==◌, inl, inr, true, false, Result, Ok, Err, refl, ◌∙◌, ap, arith}
use Rattle.std.proofs.lemmas.Bool.Decides.{leb_tells}
use Rattle.std.proofs.Math.Nat.{div-add-mod, div-eq_of_lt, mul-add-div, mod-lt, mul-le-mul_left}
use borrow.Author.Tests.{eq-eqb, ne_eqb}
use Rattle.std.specs.Result.{IfOk}
use Rattle.type_rules.specs.declared.types.VerificationType.{VerificationType}
use Rattle.type_lists.specs.Parts.{room, with_word}

pub on_ok : {T E : Type 0} (P Q : T → Type 0) (r : Result T E) → ((x : T) → P x → Q x) → IfOk r P → IfOk r Q
on_ok P Q (Ok x) f p = f x p
on_ok P Q (Err e) f p = tt

pub on_three : {T E : Type 0} (P Q R S : T → Type 0) (r : Result T E) → ((x : T) → P x → Q x → R x → S x) → IfOk r P → IfOk r Q → IfOk r R → IfOk r S
on_three P Q R S (Ok x) f p q r = f x p q r
on_three P Q R S (Err e) f p q r = tt

-- a place is determined by its digit and by its place in the child
pub same_place : (room n place : ℕ) → n / room ≡ place / room → n % room ≡ place % room → n ≡ place
same_place room n place high low =
    let product : room * (n / room) ≡ room * (place / room) = ap (λ x. room * x) high in
    omega (arith, div-add-mod n room, div-add-mod place room, product, low)

pub with_here : (f : ℕ → VerificationType) (place : ℕ) (word : VerificationType) (n : ℕ) → n ≡ place → with_word f place word n ≡ word
with_here f place word n e = let same : (n == place) ≡ true = eq-eqb n place e in rw same refl

pub with_other : (f : ℕ → VerificationType) (place : ℕ) (word : VerificationType) (n : ℕ) → n ≢ place → with_word f place word n ≡ f n
with_other f place word n ne = let other : (n == place) ≡ false = ne_eqb n place ne in rw other refl

-- ---- the place in a child

pub room_some : (height : ℕ) → 0 < room height
room_some zero = omega arith
room_some (suc height) = omega (arith, room_some height)

pub rest_small : (height place : ℕ) → place % room height < room height
rest_small height place = mod-lt place (room_some height)

pub digit_small : (height place : ℕ) → place < 32 * room height → place / room height < 32
digit_small height place h = elim (leb_tells 32 (place / room height)) [
  | inl past ↦
      let product : room height * 32 ≤ room height * (place / room height) = mul-le-mul_left (room height) past.1 in
      absurd (omega (arith, product, div-add-mod place (room height), h))
  | inr inside ↦ omega (arith, inside.1)
]

-- .. and back
pub place_of : (height digit n : ℕ) → n < room height → ((room height * digit + n) / room height ≡ digit) × ((room height * digit + n) % room height ≡ n)
place_of height digit n h =
    let d : (room height * digit + n) / room height ≡ digit = mul-add-div (room_some height) digit n ∙ (let z : n / room height ≡ 0 = div-eq_of_lt h in omega (arith, z)) in
    let product : room height * ((room height * digit + n) / room height) ≡ room height * digit = ap (λ x. room height * x) d in
    (d, omega (arith, div-add-mod (room height * digit + n) (room height), product))

pub room_step : (height : ℕ) → height ≢ 0 → room height ≡ 32 * room (height - 1)
room_step zero tall = absurd (tall refl)
room_step (suc height) tall = ap (λ k. 32 * room k) (let e : height ≡ suc height - 1 = omega arith in e)

pub digit_below : (height n : ℕ) → height ≢ 0 → n < room height → n / room (height - 1) < 32
digit_below height n tall h = digit_small (height - 1) n (omega (arith, h, room_step height tall))

pub place_inside : (k digit n : ℕ) → digit < 32 → n < room k → room k * digit + n < 32 * room k
place_inside k digit n within h =
    let product : room k * (digit + 1) ≤ room k * 32 = mul-le-mul_left (room k) (let l : digit + 1 ≤ 32 = omega (arith, within) in l) in
    omega (arith, product, h)
