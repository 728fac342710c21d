-- Exception tables (JVMS 4.7.3).
use Rattle.std.specs.Prelude.{◌≡◌, ℕ, ◌<◌, ◌⊎◌, ◌==◌, if◌then◌else◌, List, length, slice_get, Option, Some}
use Rattle.class_walk.specs.declared.class.Constant.{Constant}
use Rattle.class_walk.specs.declared.class.RawHandler.{RawHandler}
use Rattle.class_pool.specs.PoolRules.{IsClassEntry}
use Rattle.instructions.specs.declared.what.Instr.{Instr}
use Rattle.instructions.specs.declared.what.Target.{Target}
use Rattle.instructions.specs.Steps.{number_at}
use Rattle.code_decode.specs.declared.code.Handler.{Handler}
use Rattle.code_decode.specs.declared.refusal.CodeRefusal.{CodeRefusal}
use Rattle.code_decode.specs.declared.refusal.CodeRefusal.TheVariants as refusals

-- everything, or a class
abbrev pub IsCaught : List Constant → ℕ → Type 0
IsCaught pool kind = (kind ≡ 0) ⊎ IsClassEntry pool kind

-- the number of the instruction at an offset, or the count of instructions at the code's end
abbrev pub end_at : List (Instr Target) → ℕ → ℕ → Option ℕ
end_at steps size offset = if offset == size then Some (length steps) else number_at steps offset

-- an entry of the exception table of a code of size bytes, and the handler that it stands for
pub record IsHandler (pool : List Constant) (steps : List (Instr Target)) (size : ℕ) (raw : RawHandler) (h : Handler) : Type 0 where
  pub places : (h.from ≡ raw.from) × (h.to ≡ raw.to) × (h.at ≡ raw.at) × (h.kind ≡ raw.kind)
  pub first : number_at steps raw.from ≡ Some h.first
  pub end : end_at steps size raw.to ≡ Some h.end
  pub entry : number_at steps raw.at ≡ Some h.entry
  pub covers : raw.from < raw.to
  pub caught : IsCaught pool raw.kind

-- the handlers that the table stands for, entry by entry
pub record AreHandlers (pool : List Constant) (steps : List (Instr Target)) (size : ℕ) (table : List RawHandler) (handlers : List Handler) : Type 0 where
  pub count : length handlers ≡ length table
  pub each : (k : ℕ) (raw : RawHandler) (h : Handler) → slice_get table k ≡ Some raw → slice_get handlers k ≡ Some h → IsHandler pool steps size raw h

-- the entry of this number stands for a handler, if there is one
abbrev pub StandsFor : List Constant → List (Instr Target) → ℕ → List RawHandler → ℕ → Type 0
StandsFor pool steps size table k = (raw : RawHandler) → slice_get table k ≡ Some raw → (h : Handler) × IsHandler pool steps size raw h

-- the first entry that stands for no handler
pub record IsFirstBadHandler (pool : List Constant) (steps : List (Instr Target)) (size : ℕ) (table : List RawHandler) (k : ℕ) : Type 0 where
  pub raw : RawHandler
  pub there : slice_get table k ≡ Some raw
  pub bad : (h : Handler) → ¬ IsHandler pool steps size raw h
  pub before : (j : ℕ) → j < k → StandsFor pool steps size table j

abbrev pub HandlersRefuse : List Constant → List (Instr Target) → ℕ → List RawHandler → CodeRefusal → Type 0
HandlersRefuse pool steps size table e = (k : ℕ) × IsFirstBadHandler pool steps size table k × (e ≡ refusals.Handler k)
