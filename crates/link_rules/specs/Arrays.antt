-- The array classes of a program (JVMS 4.4.1, 6.5 newarray, anewarray, checkcast, instanceof).
use Rattle.std.specs.Prelude.{ℕ, ◌==◌, ◌&&◌, ◌||◌, Bool, true, false, nat_lt, Option, List, [], ◌∷◌, ◌++◌, codes, bytes_eq, fold, flat_map, if◌then◌else◌}
use Rattle.std.specs.Option.{option_map_or}
use Rattle.class_walk.specs.declared.class.Constant.{Constant}
use Rattle.instructions.specs.declared.operation.ClassUse.{ClassUse}
use Rattle.instructions.specs.declared.operation.ClassUse.TheVariants as uses
use Rattle.instructions.specs.declared.operation.PrimitiveType.{PrimitiveType}
use Rattle.instructions.specs.declared.operation.PrimitiveType.TheVariants.{Boolean, Char, Byte, Short, Int, Long}
use Rattle.instructions.specs.declared.what.What.{What}
use Rattle.instructions.specs.declared.what.What.TheVariants as whats
use Rattle.instructions.specs.declared.what.Instr.{Instr}
use Rattle.instructions.specs.declared.what.Target.{Target}
use Rattle.code_decode.specs.declared.code.Code.{Code}
use Rattle.code_decode.specs.declared.code.ClassUnit.{ClassUnit}
use Rattle.link_rules.specs.Classes.{class_name_at, reference_at, is_array_name}

abbrev pub primitive_array : PrimitiveType → List ℕ
primitive_array Boolean = codes "[Z"
primitive_array Char = codes "[C"
primitive_array Byte = codes "[B"
primitive_array Short = codes "[S"
primitive_array Int = codes "[I"
primitive_array Long = codes "[J"

-- the array class whose elements are of a class or array class
abbrev pub array_of : List ℕ → List ℕ
array_of name = if is_array_name name then 91 ∷ name else 91 ∷ 76 ∷ (name ++ 59 ∷ [])

abbrev pub where_array : List ℕ → List (List ℕ)
where_array name = if is_array_name name then name ∷ [] else []

abbrev pub arrays_of_class_use : ClassUse → List ℕ → List (List ℕ)
arrays_of_class_use uses.NewArray name = array_of name ∷ []
arrays_of_class_use uses.CheckCast name = where_array name
arrays_of_class_use uses.InstanceOf name = where_array name
arrays_of_class_use uses.New name = []

-- the array class that an instruction makes, tests or names as the owner of a member
abbrev pub arrays_of_what : List Constant → What Target → List (List ℕ)
arrays_of_what pool (whats.NewArray kind) = primitive_array kind ∷ []
arrays_of_what pool (whats.Class purpose at) = arrays_of_class_use purpose (class_name_at pool at)
arrays_of_what pool (whats.Field access at) = where_array (reference_at pool at).class
arrays_of_what pool (whats.Call call at) = where_array (reference_at pool at).class
arrays_of_what pool (whats.InterfaceCall at) = where_array (reference_at pool at).class
arrays_of_what pool _ = []

abbrev pub steps_of_code : Option Code → List (Instr Target)
steps_of_code code = option_map_or (λ (c : Code). c.steps) code []

abbrev pub arrays_of_unit : ClassUnit → List (List ℕ)
arrays_of_unit u = flat_map (λ (s : Instr Target). arrays_of_what u.file.pool s.what) (flat_map steps_of_code u.codes)

-- an array class, and the array classes of its elements
abbrev pub with_elements : List ℕ → List (List ℕ)
with_elements [] = []
with_elements (b ∷ name) = if b == 91 then (b ∷ name) ∷ with_elements name else []

-- a text comes before another one by its bytes
abbrev pub is_before : List ℕ → List ℕ → Bool
is_before text [] = false
is_before [] (b ∷ other) = true
is_before (a ∷ text) (b ∷ other) = nat_lt a b || (a == b && is_before text other)

-- a text put into others that are in order; one that is there isn't put again
abbrev pub put_in_order : List ℕ → List (List ℕ) → List (List ℕ)
put_in_order text [] = text ∷ []
put_in_order text (other ∷ others) =
    if is_before text other then text ∷ other ∷ others
    else if bytes_eq text other then other ∷ others
    else other ∷ put_in_order text others

abbrev pub in_order : List (List ℕ) → List (List ℕ)
in_order texts = fold (λ sorted text. put_in_order text sorted) [] texts

-- the array class of the arguments of `main`
abbrev pub arguments_array : List ℕ
arguments_array = codes "[Ljava/lang/String;"

-- the array classes that each program has: those of the units of Strings and of the arguments of `main`
abbrev pub arrays_always : List (List ℕ)
arrays_always = primitive_array Char ∷ arguments_array ∷ []

-- the array classes by the bytes of their descriptors, each once: those that each program has, and those that
-- instructions make, test or name as owners, with those of their elements
abbrev pub array_names : List ClassUnit → List (List ℕ)
array_names us = in_order (flat_map with_elements (arrays_always ++ flat_map arrays_of_unit us))
