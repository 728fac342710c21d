-- What a call returns, with the rows that it leaves.
use Rattle.std.specs.Prelude.{◌≡◌, ◌≤◌, ℕ, List, [], ◌∷◌}
use Rattle.interp_texts.specs.declared.stage.Known.TheVariants as knowns
use Rattle.code_decode.specs.declared.code.ClassUnit.{ClassUnit}
use Rattle.text_stages.specs.Stages as stages
use Rattle.interp_texts.specs.declared.run.TextReached.{TextReached}
use Rattle.interp_texts.specs.declared.run.TextReached.TheVariants as reached
use Rattle.interp_texts.specs.declared.run.TextRun.{TextRun}
use Rattle.interp_texts.specs.declared.stage.Part.{Part}
use Rattle.interp_texts.specs.declared.stage.Part.TheVariants as parts
use Rattle.interp_texts.specs.Meaning.{stage_of, known_units, HasRoom, HasRoom-prop}

-- the texts that are read, so far
abbrev pub first_text : List ClassUnit → TextRun → List ℕ
first_text us run = known_units us run.first run.firsts

abbrev pub second_text : List ClassUnit → TextRun → List ℕ
second_text us run = known_units us run.second run.seconds

abbrev pub HasRoomNow : TextRun → Type 0
HasRoomNow run = HasRoom run.stage run.first run.firsts run.second run.seconds run.made

pub has_room-prop : (run : TextRun) → IsProp (HasRoomNow run)
has_room-prop run = HasRoom-prop run.stage run.first run.firsts run.second run.seconds run.made

-- where it comes to, with the texts
abbrev pub told : List ClassUnit → TextReached → TextRun → stages.TextReached
told us reached.Stands run =
    stages.stands_at (stage_of run.stage) (first_text us run) (second_text us run) run.made.units
told us reached.Answers run = stages.answers []
told us (reached.AnswersWord w) run = stages.answers (w ∷ [])
told us (reached.Breaks c) run = stages.breaks_by c
told us reached.Lost run = stages.lost

-- the text of a part
abbrev pub known_now : List ClassUnit → Part → TextRun → List ℕ
known_now us parts.First run = first_text us run
known_now us parts.Second run = second_text us run

-- a part has no units, and room for `count` of them; the other part is as before
abbrev pub HasBegun : Part → ℕ → TextRun → TextRun → Type 0
HasBegun parts.First count old new = (new.first ≡ knowns.Read) × (new.firsts.units ≡ []) × (count ≤ new.firsts.spare)
HasBegun parts.Second count old new =
    (new.second ≡ knowns.Read) × (new.seconds.units ≡ []) × (count ≤ new.seconds.spare)
    × (new.first ≡ old.first) × (new.firsts ≡ old.firsts)
