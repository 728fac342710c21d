-- What bytes are the descriptor of, as a function of them (JVMS SE 8, 4.3).
use Rattle.std.specs.Prelude.{ℕ, zero, suc, List, [], ◌∷◌, length, Option, Some, None, option_map, nat_le, ◌==◌, ◌&&◌, codes, bytes_eq, if◌then◌else◌}
use Rattle.std.specs.Option.{option_map_or}
use Rattle.class_names.specs.declared.kind.Kind.{Kind}
use Rattle.class_names.specs.Descriptor.{parameter_words_of}
use Rattle.class_names.specs.Reading.{kind_at}

-- a kind, where nothing comes after it
abbrev pub lone : Option (Kind × List ℕ) → Option Kind
lone None = None
lone (Some x) = if length x.1 == 0 then Some x.0 else None

-- the kind of which the bytes are the descriptor (JVMS 4.3.2)
abbrev pub field_kind : List ℕ → Option Kind
field_kind bytes = lone (kind_at bytes)

-- the kind of the result, which the bytes are up to their end: none in it where it is void (JVMS 4.3.3)
abbrev pub result_kind : List ℕ → Option (Option Kind)
result_kind bytes = if bytes_eq bytes (codes "V") then Some None else option_map (λ (kind : Kind). Some kind) (field_kind bytes)

abbrev pub behind_first : Kind → List Kind × List ℕ → List Kind × List ℕ
behind_first kind others = (kind ∷ others.0, others.1)

-- at most n kinds at the front, one after another, and what comes after them
unfoldable pub kinds_within : ℕ → List ℕ → List Kind × List ℕ
kinds_within zero bytes = ([], bytes)
kinds_within (suc n) bytes = option_map_or (λ x. behind_first x.0 (kinds_within n x.1)) (kind_at bytes) ([], bytes)

-- all of them
abbrev pub kinds_at : List ℕ → List Kind × List ℕ
kinds_at bytes = kinds_within (length bytes) bytes

-- parameters of at most 255 words, a ), and the result
abbrev pub closed : List Kind → List ℕ → Option (List Kind × Option Kind)
closed kinds [] = None
closed kinds (b ∷ bytes) =
    if b == 41 && nat_le (parameter_words_of kinds) 255 then option_map (λ returned. (kinds, returned)) (result_kind bytes) else None

-- the kinds of the parameters and of the result of the method of which the bytes are the descriptor (JVMS 4.3.3)
abbrev pub method_kinds : List ℕ → Option (List Kind × Option Kind)
method_kinds [] = None
method_kinds (b ∷ bytes) = if b == 40 then closed (kinds_at bytes).0 (kinds_at bytes).1 else None
