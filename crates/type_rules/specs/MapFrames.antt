-- The frames that a StackMapTable stands for (JVMS 4.7.4, 4.10.1.6).
use Rattle.std.specs.Prelude.{ℕ, suc, ◌==◌, ◌&&◌, Bool, true, false, Option, List, length, map, reverse, take, flat_map, slice_get, slice_index_or, option_map, option_and_then}
use Rattle.std.specs.List.{list_any, position_from}
use Rattle.builtin_world.specs.declared.number.TheConstants.{OBJECT}
use Rattle.code_frames.specs.declared.types.VType.{VType}
use Rattle.code_frames.specs.declared.types.VType.TheVariants as items
use Rattle.code_frames.specs.declared.types.MapFrame.{MapFrame}
use Rattle.code_frames.specs.Locals.{entry_locals, locals_after}
use Rattle.link_types.specs.declared.types.ObjectType.{ObjectType}
use Rattle.link_types.specs.declared.types.ObjectType.TheVariants.{Class}
use Rattle.link_types.specs.declared.operands.Operand.{Operand}
use Rattle.link_types.specs.declared.operands.Operand.TheVariants as operands
use Rattle.type_rules.specs.declared.types.VerificationType.{VerificationType}
use Rattle.type_rules.specs.declared.types.VerificationType.TheVariants.{Top, Int, Float, Long, Double, Null, UninitThis, Uninit, Object}
use Rattle.type_rules.specs.Environment.{TypeFrame, in_locals}

-- the type of references to a class that an index names
abbrev pub object_type : Operand → ObjectType
object_type (operands.Class c) = c.kind
object_type _ = Class OBJECT

-- the type that an item of a frame stands for, where the values at the method's entry have these words
abbrev pub item_type : (ℕ → Operand) → List VerificationType → VType → VerificationType
item_type operand entry items.Top = Top
item_type operand entry items.Int = Int
item_type operand entry items.Float = Float
item_type operand entry items.Double = Double
item_type operand entry items.Long = Long
item_type operand entry items.Null = Null
item_type operand entry items.UninitThis = UninitThis
item_type operand entry (items.Object index) = Object (object_type (operand index))
item_type operand entry (items.Uninit at) = Uninit at
item_type operand entry (items.Entry local) = slice_index_or entry local Top

-- the words of items, one after another
abbrev pub item_words : (VType → VerificationType) → List VType → List VerificationType
item_words item types = flat_map (λ t. in_locals (item t)) types

abbrev pub is_uninit_this : VerificationType → Bool
is_uninit_this UninitThis = true
is_uninit_this _ = false

-- in a constructor, a frame with the object that isn't initialized among its locals says that it isn't
abbrev pub frame_with_flag : Bool → List VerificationType → List VerificationType → TypeFrame
frame_with_flag constructs locals stack =
    record { locals = locals; stack = stack; flag_this_uninit = constructs && list_any is_uninit_this locals }

-- how many locals the values at a method's entry take
abbrev pub value_widths : List VerificationType → List ℕ
value_widths values = map (λ v. length (in_locals v)) values

-- the frame of a number, where the method begins with these values
abbrev pub frame_numbered : (VType → VerificationType) → Bool → List VerificationType → List MapFrame → ℕ → MapFrame → TypeFrame
frame_numbered item constructs values frames number f =
    frame_with_flag constructs
    (item_words item (locals_after (entry_locals 0 (value_widths values)) (take (suc number) frames)))
    (reverse (item_words item f.stack))

-- the frame at the instruction of a number, if there is one
abbrev pub map_frame_at : (VType → VerificationType) → Bool → List VerificationType → List MapFrame → ℕ → Option TypeFrame
map_frame_at item constructs values frames k =
    option_and_then (λ j. option_map (frame_numbered item constructs values frames j) (slice_get frames j))
    (position_from (λ (f : MapFrame). f.step == k) 0 frames)
