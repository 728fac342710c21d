-- Texts are made by operations that may be wanted, where nothing of them is kept apart.
use Rattle.std.proofs.Common.{◌≡◌, ◌<◌, ◌+◌, ◌-◌, ◌^◌, ℕ, zero, suc, None, Option, List, [], ◌∷◌, length, slice_get, ap, arith, if◌then◌else◌}
use Rattle.std.specs.Option.{option_map, unwrap_or}
use Rattle.std.proofs.lemmas.Bool.{le-leb}
use Rattle.builtin_world.specs.declared.number.TheConstants.{STRING}
use Rattle.builtin_world.specs.declared.word.TheConstants.{STRING_UNITS}
use Rattle.code_decode.specs.declared.code.ClassUnit.{ClassUnit}
use Rattle.link_types.specs.declared.types.ObjectType.TheVariants.{Class}
use Rattle.link_rules.specs.Classes.{classes_of}
use Rattle.link_rules.specs.Names.{program_names, type_named, type_numbered}
use Rattle.link_rules.proofs.Numbers.{class_count_is}
use Rattle.op_core.specs.declared.Op.{Op}
use Rattle.op_core.specs.declared.Op.TheVariants.{New as Make, Write}
use Rattle.op_core.specs.declared.Reply.{Reply}
use Rattle.op_core.specs.declared.Reply.TheVariants.{Done, Made}
use Rattle.op_core.specs.Replies.{Fits}
use Rattle.java_rows.specs.Plan.{Plan, want, on_made, on_done, makes, writes}
use Rattle.java_rows.specs.Texts.{writes_units, makes_string, makes_array}
use Rattle.row_soundness.specs.Senses.{Sense}
use Rattle.row_soundness.specs.Fits.{Returns, Follows, PlanFits, after_reply, anything}
use Rattle.row_soundness.specs.Texts.{char_array, AreWords}
use Rattle.row_soundness.specs.Knowledge.{CanBeMade}

pub unit_word : (units : List ℕ) (i : ℕ) → AreWords units → unwrap_or (slice_get units i) 0 < 2 ^ 32
unit_word [] i words = omega arith
unit_word (v ∷ units) zero words = words.0
unit_word (v ∷ units) (suc i) words = unit_word units i words.1

pub string_type : (us : List ClassUnit) → type_numbered (program_names us) STRING ≡ Class STRING
string_type us =
    let count : length (classes_of us) ≡ 28 + length us = class_count_is us in
    ap (λ b. unwrap_or (option_map (type_named (program_names us)) (if b then None else slice_get (program_names us).arrays (3 - suc (length (classes_of us))))) (Class STRING)) (le-leb 3 (length (classes_of us)) (omega arith))

-- what is known of the array and the String of a text: they may be written as others
pub record MakesTexts {P : Type 0} (know : Sense P) (us : List ClassUnit) : Type 0 where
  pub itself : (h : P) → know.extends h h
  pub both : (h h' h'' : P) → know.extends h h' → know.extends h' h'' → know.extends h h''
  pub fits : (h : P) (op : Op) (reply : Reply) → know.may_come h op reply → Fits op reply
  pub asks : (res : Option Returns) (h : P) (op : Op) (k : Reply → Plan) → Follows anything op → know.may_want h op
      → ((h' : P) (reply : Reply) → know.extends h h' → know.may_come h' op reply → PlanFits know us res (after_reply op reply) (k reply) h') → PlanFits know us res anything (want op k) h
  pub of_more : (h h' : P) (r : ℕ) → know.extends h h' → know.is_of h r char_array → know.is_of h' r char_array
  pub exactly_more : (h h' : P) (r c n : ℕ) → know.extends h h' → know.is_exactly h r c n → know.is_exactly h' r c n
  pub string_more : (h h' : P) (r : ℕ) → know.extends h h' → know.is_of h r (Class STRING) → know.is_of h' r (Class STRING)
  pub makes : (h : P) (c n : ℕ) → CanBeMade us c n → know.may_want h (Make c n)
  pub array : (h : P) (c n r : ℕ) → CanBeMade us c n → type_numbered (program_names us) c ≡ char_array → know.may_come h (Make c n) (Made r) → know.is_of h r char_array
  pub exactly : (h : P) (c n r : ℕ) → know.may_come h (Make c n) (Made r) → know.is_exactly h r c n
  pub string : (h : P) (r : ℕ) → CanBeMade us STRING 0 → know.may_come h (Make STRING 0) (Made r) → know.is_of h r (Class STRING)
  pub unit : (h : P) (r c n i v : ℕ) → know.is_of h r char_array → know.is_exactly h r c n → i < n → v < 2 ^ 32 → know.may_want h (Write r i v)
  pub name : (h : P) (s r : ℕ) → know.is_of h s (Class STRING) → know.is_of h r char_array → know.may_want h (Write s STRING_UNITS r)

module _ {P : Type 0} (know : Sense P) (us : List ClassUnit) (knows : MakesTexts know us) (res : Option Returns) where
  makes_fit : (h : P) (c n : ℕ) (k : ℕ → Plan) → CanBeMade us c n → ((h' : P) (r : ℕ) → know.extends h h' → know.may_come h' (Make c n) (Made r) → PlanFits know us res anything (k r) h') → PlanFits know us res anything (makes c n k) h
  makes_fit h c n k can next = knows.asks res h (Make c n) (on_made k) tt (knows.makes h c n can) go
    where
      go : (h' : P) (reply : Reply) → know.extends h h' → know.may_come h' (Make c n) reply → PlanFits know us res (after_reply (Make c n) reply) (on_made k reply) h'
      go h' (Made r) more come = next h' r more come
      go h' reply more come = absurd (knows.fits h' (Make c n) reply come)

  writes_fit : (h : P) (r i v : ℕ) (k : Plan) → know.may_want h (Write r i v) → ((h' : P) → know.extends h h' → PlanFits know us res anything k h') → PlanFits know us res anything (writes r i v k) h
  writes_fit h r i v k may next = knows.asks res h (Write r i v) (on_done k) tt may go
    where
      go : (h' : P) (reply : Reply) → know.extends h h' → know.may_come h' (Write r i v) reply → PlanFits know us res (after_reply (Write r i v) reply) (on_done k reply) h'
      go h' Done more come = next h' more
      go h' reply more come = absurd (knows.fits h' (Write r i v) reply come)

  writes_units_fit : (h : P) (array c n left i : ℕ) (units : List ℕ) (k : Plan) → know.is_of h array char_array → know.is_exactly h array c n → i + left ≡ n → AreWords units
      → ((h' : P) → know.extends h h' → PlanFits know us res anything k h') → PlanFits know us res anything (writes_units array units i left k) h
  writes_units_fit h array c n zero i units k of exactly sum words on = on h (knows.itself h)
  writes_units_fit h array c n (suc left) i units k of exactly sum words on =
      writes_fit h array i (unwrap_or (slice_get units i) 0) (writes_units array units (suc i) left k) (knows.unit h array c n i (unwrap_or (slice_get units i) 0) of exactly (omega (arith, sum)) (unit_word units i words))
      (λ h' more. writes_units_fit h' array c n left (suc i) units k (knows.of_more h h' array more of) (knows.exactly_more h h' array c n more exactly) (omega (arith, sum)) words (λ h'' more'. on h'' (knows.both h h' h'' more more')))

  makes_string_fits : (h : P) (array : ℕ) (k : ℕ → Plan) → know.is_of h array char_array → CanBeMade us STRING 0 → ((h' : P) (s : ℕ) → know.extends h h' → know.is_of h' s (Class STRING) → PlanFits know us res anything (k s) h')
      → PlanFits know us res anything (makes_string array k) h
  makes_string_fits h array k of can on =
      makes_fit h STRING 0 (λ s. writes s STRING_UNITS array (k s)) can (λ h' s more come.
      let string : know.is_of h' s (Class STRING) = knows.string h' s can come in
      writes_fit h' s STRING_UNITS array (k s) (knows.name h' s array string (knows.of_more h h' array more of))
      (λ h'' more'. on h'' s (knows.both h h' h'' more more') (knows.string_more h' h'' s more' string)))

  -- a text is made
  pub plain_text : (h : P) (c : ℕ) (units : List ℕ) (k : ℕ → Plan) → CanBeMade us c (length units) → type_numbered (program_names us) c ≡ char_array → CanBeMade us STRING 0 → AreWords units
      → ((h' : P) (s : ℕ) → know.extends h h' → know.is_of h' s (Class STRING) → PlanFits know us res anything (k s) h') → PlanFits know us res anything (makes_array c units k) h
  plain_text h c units k can type can_string words on =
      makes_fit h c (length units) (λ r. writes_units r units 0 (length units) (makes_string r k)) can (λ h' r more come.
      let of : know.is_of h' r char_array = knows.array h' c (length units) r can type come in
      writes_units_fit h' r c (length units) (length units) 0 units (makes_string r k) of (knows.exactly h' c (length units) r come) (omega arith) words
      (λ h'' more'. makes_string_fits h'' r k (knows.of_more h' h'' r more' of) can_string (λ h''' s more'' is. on h''' s (knows.both h h'' h''' (knows.both h h' h'' more more') more'') is)))
