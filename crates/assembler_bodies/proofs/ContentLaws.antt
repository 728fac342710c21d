-- The content of the attribute Code.
use Rattle.std.proofs.Common.{◌≡◌, ℕ, ◌+◌, ◌^◌, ◌<◌, ◌≤◌, Bool, true, false, cond, ltb, List, length, Some, None, ◌⊎◌, inl, inr, refl, sym, ap, ◌∙◌, arith, length-append}
use Rattle.std.specs.List.{flat_map}
use Rattle.std.proofs.lemmas.Bool.{cases_Bool}
use Rattle.std.proofs.lemmas.Bool.Decides.{Decides-ltb}
use Rattle.class_walk.specs.declared.class.RawAttribute.{RawAttribute}
use Rattle.class_walk.specs.declared.class.RawHandler.{RawHandler}
use Rattle.class_walk.specs.declared.class.RawCode.{RawCode}
use Rattle.class_walk.specs.Layout.{attribute, code_front, code_spelling, table, u2}
use Rattle.assembler_bodies.specs.declared.refusal.BodyRefusal.{BodyRefusal}
use Rattle.assembler_bodies.specs.declared.refusal.BodyRefusal.TheVariants.{Refused, NoMemory}
use Rattle.assembler_bodies.specs.Making.{Fails}
use Rattle.assembler_bodies.specs.Body.{MadeBody, maps_of, code_of, content}
use Rattle.assembler_bodies.proofs.StepLaws.{chosen}

content_by : (body : MadeBody) (b : Bool) → ltb (length (code_spelling (code_of body))) (2 ^ 32) ≡ b → content body ≡ cond b (Some (code_spelling (code_of body))) None
unfolding content
content_by body b is = rw is refl

-- what the content is, where there is one
pub content_is : (body : MadeBody) (bytes : List ℕ) → content body ≡ Some bytes → (length (code_spelling (code_of body)) < 2 ^ 32) × (bytes ≡ code_spelling (code_of body))
unfolding content
content_is body bytes e =
    let got = chosen (ltb (length (code_spelling (code_of body))) (2 ^ 32)) (code_spelling (code_of body)) bytes e in
    ((Decides-ltb (length (code_spelling (code_of body))) (2 ^ 32)).0 got.0, got.1)

is_long : (n : ℕ) → 2 ^ 32 ≤ n → (ltb n (2 ^ 32) ≡ true) ⊎ (ltb n (2 ^ 32) ≡ false) → ltb n (2 ^ 32) ≡ false
is_long n long (inl short) = absurd (let less = (Decides-ltb n (2 ^ 32)).0 short in omega arith)
is_long n long (inr is) = is

none_of : (body : MadeBody) → 2 ^ 32 ≤ length (code_spelling (code_of body)) → content body ≡ None
none_of body long = content_by body false (is_long (length (code_spelling (code_of body))) long (cases_Bool (ltb (length (code_spelling (code_of body))) (2 ^ 32))))

module _ (body : MadeBody) (bytes code : List ℕ) (handlers : List RawHandler) (maps : List RawAttribute) where
  abbrev written : RawCode
  written = record { max_stack = body.stack; max_locals = body.locals; bytes = code; handlers = handlers; attributes = maps }

  whole : code ≡ body.code → handlers ≡ body.handlers → maps ≡ maps_of body.map_name body.frame_count body.frames → written ≡ code_of body
  whole c h m = rw (c, h, m) refl

  pub content_short : bytes ≡ code_spelling written → code ≡ body.code → handlers ≡ body.handlers → maps ≡ maps_of body.map_name body.frame_count body.frames → length bytes ≤ 4294967295 → content body ≡ Some bytes
  content_short spelled c h m short =
      let is : bytes ≡ code_spelling (code_of body) = spelled ∙ ap (λ (r : RawCode). code_spelling r) (whole c h m) in
      let less : length (code_spelling (code_of body)) < 2 ^ 32 = omega (arith, ap length is, short) in
      content_by body true ((Decides-ltb (length (code_spelling (code_of body))) (2 ^ 32)).1 less) ∙ ap (λ (b : List ℕ). Some b) (sym is)

  pub content_long : bytes ≡ code_spelling written → code ≡ body.code → handlers ≡ body.handlers → maps ≡ maps_of body.map_name body.frame_count body.frames → 4294967295 < length bytes → content body ≡ None
  content_long spelled c h m long =
      let is : bytes ≡ code_spelling (code_of body) = spelled ∙ ap (λ (r : RawCode). code_spelling r) (whole c h m) in
      none_of body (omega (arith, ap length is, long))

content_refused : (body : MadeBody) → 2 ^ 32 ≤ length (flat_map attribute (maps_of body.map_name body.frame_count body.frames)) → content body ≡ None
content_refused body long =
    let maps = maps_of body.map_name body.frame_count body.frames in
    let whole : length (code_spelling (code_of body)) ≡ length (code_front (code_of body)) + length (table attribute maps) = length-append (code_front (code_of body)) (table attribute maps) in
    let rows : length (table attribute maps) ≡ length (u2 (length maps)) + length (flat_map attribute maps) = length-append (u2 (length maps)) (flat_map attribute maps) in
    none_of body (omega (arith, whole, rows, long))

pub content_fails : (refusal : BodyRefusal) (body : MadeBody) → (refusal ≡ Refused → 2 ^ 32 ≤ length (flat_map attribute (maps_of body.map_name body.frame_count body.frames))) → Fails refusal (content body)
content_fails NoMemory body long = tt
content_fails Refused body long = content_refused body (long refl)
