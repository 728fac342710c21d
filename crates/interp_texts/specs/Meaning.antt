-- What the data of the code mean as stages.
use Rattle.std.specs.Prelude.{◌≤◌, ◌+◌, ◌^◌, ℕ, List, [], ◌∷◌, length}
use Rattle.std.specs.Coded.{×_prop, Unit-prop, le_prop}
use Rattle.code_decode.specs.declared.code.ClassUnit.{ClassUnit}
use Rattle.java_rows.specs.Units.{literal_units}
use Rattle.text_stages.specs.Stages as stages
use Rattle.interp_plans.specs.Jobs.{appended_of}
use Rattle.interp_texts.specs.Rows.{UnitsWithRoom}
use Rattle.interp_texts.specs.declared.stage.Part.{Part}
use Rattle.interp_texts.specs.declared.stage.Part.TheVariants as parts
use Rattle.interp_texts.specs.declared.stage.Tail.{Tail}
use Rattle.interp_texts.specs.declared.stage.Tail.TheVariants as tails
use Rattle.interp_texts.specs.declared.stage.TextStage.{TextStage}
use Rattle.interp_texts.specs.declared.stage.TextStage.TheVariants as at
use Rattle.interp_texts.specs.declared.stage.Known.{Known}
use Rattle.interp_texts.specs.declared.stage.Known.TheVariants as knowns

abbrev pub part_of : Part → stages.Part
part_of parts.First = stages.first
part_of parts.Second = stages.second

abbrev pub tail_of : Tail → stages.Tail
tail_of tails.Nothing = stages.no_tail
tail_of tails.Second = stages.read_tail
tail_of (tails.Value x) = stages.value_tail (appended_of x)

abbrev pub stage_of : TextStage → stages.TextStage
stage_of at.AsksOther = stages.asks_other
stage_of at.AsksBuilder = stages.asks_builder
stage_of (at.AsksWord p s) = stages.asks_word (part_of p) s
stage_of (at.AsksNumber p s) = stages.asks_number (part_of p) s
stage_of (at.AsksSize p array) = stages.asks_size (part_of p) array
stage_of (at.TakesRoom p array n) = stages.takes_room (part_of p) array n
stage_of (at.AsksUnit p array i n) = stages.asks_unit (part_of p) array i n
stage_of (at.MakesRoom tail) = stages.makes_room (tail_of tail)
stage_of (at.AsksArray class) = stages.asks_array class
stage_of (at.AsksWrite array i n) = stages.asks_write array i n
stage_of (at.AsksString array) = stages.asks_string array
stage_of (at.AsksBind array s) = stages.asks_bind array s
stage_of (at.AsksKeep s) = stages.asks_keep s

-- the units of a text
abbrev pub known_units : List ClassUnit → Known → UnitsWithRoom → List ℕ
known_units us (knowns.Literal n) row = literal_units us n
known_units us knowns.Read row = row.units

abbrev pub IsRead : Known → Type 0
IsRead knowns.Read = Unit {0}
IsRead (knowns.Literal n) = ⊥

abbrev pub IsReadWithin : Known → ℕ → ℕ → Type 0
IsReadWithin k end limit = IsRead k × (end ≤ limit)

-- where a unit is read there is room for it and those after it, and the row is the text; places are words
abbrev pub HasRoom : TextStage → Known → UnitsWithRoom → Known → UnitsWithRoom → UnitsWithRoom → Type 0
HasRoom (at.AsksUnit parts.First array i n) first firsts second seconds made =
    (n + 1 ≤ firsts.spare) × IsReadWithin first (i + n + 2) (2 ^ 32)
HasRoom (at.AsksUnit parts.Second array i n) first firsts second seconds made =
    (n + 1 ≤ seconds.spare) × IsReadWithin second (i + n + 2) (2 ^ 32)
HasRoom (at.AsksArray class) first firsts second seconds made = length made.units + 1 ≤ 2 ^ 31
HasRoom (at.AsksWrite array i n) first firsts second seconds made = i + n + 2 ≤ 2 ^ 32
HasRoom _ first firsts second seconds made = Unit {0}

IsRead-prop : (k : Known) → IsProp (IsRead k)
IsRead-prop knowns.Read = Unit-prop
IsRead-prop (knowns.Literal n) = λ a b. absurd a

IsReadWithin-prop : (k : Known) (end limit : ℕ) → IsProp (IsReadWithin k end limit)
IsReadWithin-prop k end limit = ×_prop (IsRead-prop k) le_prop

pub HasRoom-prop : (st : TextStage) (first : Known) (firsts : UnitsWithRoom) (second : Known) (seconds made : UnitsWithRoom) → IsProp (HasRoom st first firsts second seconds made)
HasRoom-prop (at.AsksUnit parts.First array i n) first firsts second seconds made = ×_prop le_prop (IsReadWithin-prop first (i + n + 2) (2 ^ 32))
HasRoom-prop (at.AsksUnit parts.Second array i n) first firsts second seconds made = ×_prop le_prop (IsReadWithin-prop second (i + n + 2) (2 ^ 32))
HasRoom-prop (at.AsksArray class) first firsts second seconds made = le_prop
HasRoom-prop (at.AsksWrite array i n) first firsts second seconds made = le_prop
HasRoom-prop at.AsksOther first firsts second seconds made = Unit-prop
HasRoom-prop at.AsksBuilder first firsts second seconds made = Unit-prop
HasRoom-prop (at.AsksWord p s) first firsts second seconds made = Unit-prop
HasRoom-prop (at.AsksNumber p s) first firsts second seconds made = Unit-prop
HasRoom-prop (at.AsksSize p array) first firsts second seconds made = Unit-prop
HasRoom-prop (at.TakesRoom p array n) first firsts second seconds made = Unit-prop
HasRoom-prop (at.MakesRoom tail) first firsts second seconds made = Unit-prop
HasRoom-prop (at.AsksString array) first firsts second seconds made = Unit-prop
HasRoom-prop (at.AsksBind array s) first firsts second seconds made = Unit-prop
HasRoom-prop (at.AsksKeep s) first firsts second seconds made = Unit-prop
