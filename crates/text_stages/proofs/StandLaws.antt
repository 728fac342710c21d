-- Stages and frames.
use Rattle.std.proofs.Common.{◌≡◌, refl, false, ℕ, zero, suc, List, [], ◌∷◌, ap, sym, subst, ◌∙◌}
use Rattle.code_decode.specs.declared.code.ClassUnit.{ClassUnit}
use Rattle.java_rows.specs.Plan.{Frame, FrameEnd, Plan, silently, Use, use_in}
use Rattle.java_rows.specs.Thread.{at, is_end, launch, settled}
use Rattle.text_stages.specs.Stages.{TextJob, lengthens, picks, matches, joins_both, copies, extends, measures, tells, Part, first, second, TextStage, asks_other, asks_builder, asks_word, asks_number, asks_size, takes_room, asks_unit, makes_room, asks_array, asks_write, asks_string, asks_bind, asks_keep, stage_plan, TextReached, stands_at, answers, breaks_by, lost, reached_plan, text_silent}
use Rattle.text_stages.specs.Laws.{at_silent, StagesStand, EndNoFrame, TextsEndNoFrame}
use Rattle.text_stages.proofs.StageLaws.{silent_steps_lead}

pub stages_stand : StagesStand
stages_stand us me u job (asks_word p s) a b m below = refl
stages_stand us me u job (asks_number p s) a b m below = refl
stages_stand us me u job (asks_size p array) a b m below = refl
stages_stand us me u job (takes_room p array n) a b m below = refl
stages_stand us me u job (asks_unit p array i n) a b m below = refl
stages_stand us me u job (makes_room tail) a b m below = refl
stages_stand us me u job (asks_array class) a b m below = refl
stages_stand us me u job (asks_write array i n) a b m below = refl
stages_stand us me u job (asks_string array) a b m below = refl
stages_stand us me u job (asks_bind array s) a b m below = refl
stages_stand us me u (matches s other) asks_other a b m below = refl
stages_stand us me u (lengthens s) asks_other a b m below = refl
stages_stand us me u (picks s i) asks_other a b m below = refl
stages_stand us me u (joins_both s other) asks_other a b m below = refl
stages_stand us me u (copies builder s) asks_other a b m below = refl
stages_stand us me u (extends builder x) asks_other a b m below = refl
stages_stand us me u (measures builder) asks_other a b m below = refl
stages_stand us me u (tells builder) asks_other a b m below = refl
stages_stand us me u (matches s other) asks_builder a b m below = refl
stages_stand us me u (lengthens s) asks_builder a b m below = refl
stages_stand us me u (picks s i) asks_builder a b m below = refl
stages_stand us me u (joins_both s other) asks_builder a b m below = refl
stages_stand us me u (copies builder s) asks_builder a b m below = refl
stages_stand us me u (extends builder x) asks_builder a b m below = refl
stages_stand us me u (measures builder) asks_builder a b m below = refl
stages_stand us me u (tells builder) asks_builder a b m below = refl
stages_stand us me u (matches s other) (asks_keep r) a b m below = refl
stages_stand us me u (lengthens s) (asks_keep r) a b m below = refl
stages_stand us me u (picks s i) (asks_keep r) a b m below = refl
stages_stand us me u (joins_both s other) (asks_keep r) a b m below = refl
stages_stand us me u (copies builder s) (asks_keep r) a b m below = refl
stages_stand us me u (extends builder x) (asks_keep r) a b m below = refl
stages_stand us me u (measures builder) (asks_keep r) a b m below = refl
stages_stand us me u (tells builder) (asks_keep r) a b m below = refl

-- after a silent step a stage isn't the end of a frame
behind : (us : List ClassUnit) (u : Use) (job : TextJob) (st : TextStage) (a b m : List ℕ) → is_end (silently (stage_plan us u job st a b m)) ≡ false
behind us u job (asks_word p s) a b m = refl
behind us u job (asks_number p s) a b m = refl
behind us u job (asks_size p array) a b m = refl
behind us u job (takes_room p array n) a b m = refl
behind us u job (asks_unit p array i n) a b m = refl
behind us u job (makes_room tail) a b m = refl
behind us u job (asks_array class) a b m = refl
behind us u job (asks_write array i n) a b m = refl
behind us u job (asks_string array) a b m = refl
behind us u job (asks_bind array s) a b m = refl
behind us u (matches s other) asks_other a b m = refl
behind us u (lengthens s) asks_other a b m = refl
behind us u (picks s i) asks_other a b m = refl
behind us u (joins_both s other) asks_other a b m = refl
behind us u (copies builder s) asks_other a b m = refl
behind us u (extends builder x) asks_other a b m = refl
behind us u (measures builder) asks_other a b m = refl
behind us u (tells builder) asks_other a b m = refl
behind us u (matches s other) asks_builder a b m = refl
behind us u (lengthens s) asks_builder a b m = refl
behind us u (picks s i) asks_builder a b m = refl
behind us u (joins_both s other) asks_builder a b m = refl
behind us u (copies builder s) asks_builder a b m = refl
behind us u (extends builder x) asks_builder a b m = refl
behind us u (measures builder) asks_builder a b m = refl
behind us u (tells builder) asks_builder a b m = refl
behind us u (matches s other) (asks_keep r) a b m = refl
behind us u (lengthens s) (asks_keep r) a b m = refl
behind us u (picks s i) (asks_keep r) a b m = refl
behind us u (joins_both s other) (asks_keep r) a b m = refl
behind us u (copies builder s) (asks_keep r) a b m = refl
behind us u (extends builder x) (asks_keep r) a b m = refl
behind us u (measures builder) (asks_keep r) a b m = refl
behind us u (tells builder) (asks_keep r) a b m = refl

module _ (u : Use) (stays : (words : List ℕ) → is_end (silently (u.value words)) ≡ false) where
  reached_stays : (us : List ClassUnit) (job : TextJob) (x : TextReached) → is_end (silently (reached_plan us u job x)) ≡ false
  reached_stays us job (stands_at st a b m) = behind us u job st a b m
  reached_stays us job (answers words) = stays words
  reached_stays us job (breaks_by c) = refl
  reached_stays us job lost = refl

  pub end_no_frame : EndNoFrame u
  end_no_frame us job (takes_room p array n) a b m =
      ap (λ plan. is_end (silently plan)) (silent_steps_lead us u job (takes_room p array n) a b m)
      ∙ reached_stays us job (text_silent us job (takes_room p array n) a b m)
  end_no_frame us job (makes_room tail) a b m =
      ap (λ plan. is_end (silently plan)) (silent_steps_lead us u job (makes_room tail) a b m)
      ∙ reached_stays us job (text_silent us job (makes_room tail) a b m)
  end_no_frame us job (asks_word p s) a b m = refl
  end_no_frame us job (asks_number p s) a b m = refl
  end_no_frame us job (asks_size p array) a b m = refl
  end_no_frame us job (asks_unit p array i n) a b m = refl
  end_no_frame us job (asks_array class) a b m = refl
  end_no_frame us job (asks_write array i n) a b m = refl
  end_no_frame us job (asks_string array) a b m = refl
  end_no_frame us job (asks_bind array s) a b m = refl
  end_no_frame us (matches s other) asks_other a b m = refl
  end_no_frame us (lengthens s) asks_other a b m = refl
  end_no_frame us (picks s i) asks_other a b m = refl
  end_no_frame us (joins_both s other) asks_other a b m = refl
  end_no_frame us (copies builder s) asks_other a b m = refl
  end_no_frame us (extends builder x) asks_other a b m = refl
  end_no_frame us (measures builder) asks_other a b m = refl
  end_no_frame us (tells builder) asks_other a b m = refl
  end_no_frame us (matches s other) asks_builder a b m = refl
  end_no_frame us (lengthens s) asks_builder a b m = refl
  end_no_frame us (picks s i) asks_builder a b m = refl
  end_no_frame us (joins_both s other) asks_builder a b m = refl
  end_no_frame us (copies builder s) asks_builder a b m = refl
  end_no_frame us (extends builder x) asks_builder a b m = refl
  end_no_frame us (measures builder) asks_builder a b m = refl
  end_no_frame us (tells builder) asks_builder a b m = refl
  end_no_frame us (matches s other) (asks_keep r) a b m = refl
  end_no_frame us (lengthens s) (asks_keep r) a b m = refl
  end_no_frame us (picks s i) (asks_keep r) a b m = refl
  end_no_frame us (joins_both s other) (asks_keep r) a b m = refl
  end_no_frame us (copies builder s) (asks_keep r) a b m = refl
  end_no_frame us (extends builder x) (asks_keep r) a b m = refl
  end_no_frame us (measures builder) (asks_keep r) a b m = refl
  end_no_frame us (tells builder) (asks_keep r) a b m = refl

pub texts_end_no_frame : TextsEndNoFrame
texts_end_no_frame = (λ f rest. end_no_frame (use_in f rest) (λ words. refl), end_no_frame launch (λ words. refl))
