-- A text that is made: what its operations leave in objects and words, and that it is the text of the new String.
use Rattle.std.specs.Prelude.{◌≡◌, ◌≢◌, ◌<◌, ◌^◌, ◌+◌, ◌==◌, ℕ, zero, suc, List, [], ◌∷◌, All, length, slice_get, unwrap_or, if◌then◌else◌}
use Rattle.builtin_world.specs.declared.number.TheConstants.{STRING}
use Rattle.builtin_world.specs.declared.word.TheConstants.{STRING_UNITS}
use Rattle.code_decode.specs.declared.code.ClassUnit.{ClassUnit}
use Rattle.op_core.specs.declared.Op.{Op}
use Rattle.op_core.specs.declared.Op.TheVariants.{New, Write}
use Rattle.op_core.specs.declared.Reply.{Reply}
use Rattle.op_core.specs.declared.Reply.TheVariants.{Made, Done}
use Rattle.op_core.specs.OrdinaryState.{set_at}
use Rattle.java_rows.specs.Plan.{Plan, want, silently}
use Rattle.java_rows.specs.Texts.{makes_array}
use Rattle.text_stages.specs.Reading.{Memory, text_in}

abbrev pub with_word : Memory → ℕ → ℕ → ℕ → Memory
with_word m r i v = record m { words = set_at m.words r (set_at (m.words r) i v) }

abbrev pub with_object : Memory → ℕ → ℕ → ℕ → Memory
with_object m r c n = record {
  class = set_at m.class r c;
  length = set_at m.length r n;
  words = set_at m.words r (λ i. 0);
}

-- a thread that goes on alone: the memory, the references that new objects get, and what is left
pub record Going : Type 0 where
  pub memory : Memory
  pub references : List ℕ
  pub plan : Plan

abbrev pub going : Memory → List ℕ → Plan → Going
going m rs plan = record { memory = m; references = rs; plan = plan }

abbrev pub made_by : Memory → ℕ → ℕ → (Reply → Plan) → Plan → List ℕ → Going
made_by m c n k same (r ∷ rs) = going (with_object m r c n) rs (k (Made r))
made_by m c n k same [] = going m [] same

abbrev pub gone_op : Memory → List ℕ → Op → (Reply → Plan) → Plan → Going
gone_op m rs (Write r i v) k same = going (with_word m r i v) rs (k Done)
gone_op m rs (New c n) k same = made_by m c n k same rs
gone_op m rs _ k same = going m rs same

abbrev pub gone : Memory → List ℕ → Plan → Going
gone m rs (want op k) = gone_op m rs op k (want op k)
gone m rs (silently plan) = going m rs plan
gone m rs plan = going m rs plan

abbrev pub gone_by : ℕ → Going → Going
gone_by zero g = g
gone_by (suc n) g = gone_by n (gone g.memory g.references g.plan)

-- units written from a place on
abbrev pub written : Memory → ℕ → List ℕ → ℕ → ℕ → Memory
written m array units i zero = m
written m array units i (suc n) = written (with_word m array i (unwrap_or (slice_get units i) 0)) array units (suc i) n

abbrev pub made_memory : Memory → ℕ → ℕ → ℕ → List ℕ → Memory
made_memory m class array s units =
    with_word (with_object (written (with_object m array class (length units)) array units 0 (length units)) s STRING 0) s STRING_UNITS array

-- the operations lead there: New of the array, a Write for each unit, New of the String, and its word
abbrev pub TextsAreMade : Type 0
TextsAreMade = (m : Memory) (class array s : ℕ) (rs units : List ℕ) (k : ℕ → Plan)
    → gone_by (suc (length units + 2)) (going m (array ∷ s ∷ rs) (makes_array class units k)) ≡ going (made_memory m class array s units) rs (k s)

-- and then the units are the text of the String
abbrev pub MadeTextsAreTexts : Type 0
MadeTextsAreTexts = (us : List ClassUnit) (m : Memory) (class array s : ℕ) (units : List ℕ)
    → array ≢ 0 → array ≢ s → All (λ u. u < 2 ^ 16) units → text_in us (made_memory m class array s units) s ≡ units
