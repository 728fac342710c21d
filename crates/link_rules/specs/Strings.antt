-- String literals (JVMS 4.4.3, 5.1).
use Rattle.std.specs.Prelude.{ℕ, List, [], ◌∷◌, ◌++◌, Option, None, Some, fold, flat_map, filter_map, bytes_eq, unwrap_or, if◌then◌else◌}
use Rattle.std.specs.List.{list_any}
use Rattle.class_walk.specs.declared.class.Constant.{Constant}
use Rattle.class_walk.specs.declared.class.Constant.TheVariants.{Str}
use Rattle.code_decode.specs.declared.code.ClassUnit.{ClassUnit}
use Rattle.link_rules.specs.Classes.{utf8_at}
use Rattle.class_names.specs.Units.{text_of}

-- the text, in UTF-8, that modified UTF-8 stands for
abbrev pub literal_text : List ℕ → List ℕ
literal_text bytes = unwrap_or (text_of bytes) []

abbrev pub literal_in : List Constant → Constant → Option (List ℕ)
literal_in pool (Str text) = Some (literal_text (utf8_at pool text))
literal_in pool _ = None

-- texts in order, each once
abbrev pub each_once : List (List ℕ) → List (List ℕ)
each_once texts = fold (λ known text. if list_any (bytes_eq text) known then known else known ++ text ∷ []) [] texts

-- the string literals of all files, used or not; literals of one text are one
abbrev pub string_texts : List ClassUnit → List (List ℕ)
string_texts us = each_once (flat_map (λ (u : ClassUnit). filter_map (literal_in u.file.pool) u.file.pool) us)
