-- Options that are read word by word.
use Rattle.std.proofs.Common.{◌≡◌, ◌<◌, ◌+◌, ℕ, List, [], ◌∷◌, ◌++◌, length, get_or, drop, drop-cons, add-one, map, Option, Some, None, option_map, String, string_bytes, refl, ap, sym, ◌∙◌}
use Rattle.std.specs.List.{All}
use Rattle.std.proofs.lemmas.List.{append_assoc}
use Rattle.std.proofs.lemmas.List.Elements.{All-push}
use Rattle.std.specs.declared.alloc.Global.{Global}
use Rattle.command_words.specs.declared.options.CommandOption.{CommandOption}
use Rattle.command_words.specs.Options.{option_of, each_of, IsInRange}

-- some options, and then others, if there are any
abbrev pub behind_options : List CommandOption → Option (List CommandOption) → Option (List CommandOption)
behind_options read others = option_map (λ os. read ++ os) others

-- what is known where the words before a number are read
abbrev pub AreReadTo : List (String Global) → List CommandOption → ℕ → Type 0
AreReadTo words read at = each_of option_of (map string_bytes words) ≡ behind_options read (each_of option_of (map string_bytes (drop at words)))

append-one : (read : List CommandOption) (made : CommandOption) (others : Option (List CommandOption)) → behind_options read (option_map (λ os. made ∷ os) others) ≡ behind_options (read ++ made ∷ []) others
append-one read made None = refl
append-one read made (Some os) = ap (λ l. Some l) (sym (append_assoc read (made ∷ []) os))

one-read : (read : List CommandOption) (word : List ℕ) (made : CommandOption) (others : List (List ℕ)) → option_of word ≡ Some made
    → behind_options read (each_of option_of (word ∷ others)) ≡ behind_options (read ++ made ∷ []) (each_of option_of others)
one-read read word made others is = rw is (append-one read made (each_of option_of others))

pub read-more : (words : List (String Global)) (read : List CommandOption) (at : ℕ) (word : String Global) (made : CommandOption) → AreReadTo words read at → at < length words
    → get_or words at word ≡ word → option_of (string_bytes word) ≡ Some made → AreReadTo words (read ++ made ∷ []) (at + 1)
read-more words read at word made known inside is says =
    let left : drop at words ≡ get_or words at word ∷ drop (at + 1) words = rw add-one (drop-cons words at word inside) in
    let here : map string_bytes (drop at words) ≡ string_bytes word ∷ map string_bytes (drop (at + 1) words) = rw (left, is) refl in
    known ∙ (ap (λ ws. behind_options read (each_of option_of ws)) here ∙ one-read read (string_bytes word) made (map string_bytes (drop (at + 1) words)) says)

pub ranges-more : (read : List CommandOption) (made : CommandOption) → All IsInRange read → IsInRange made → All IsInRange (read ++ made ∷ [])
ranges-more read made ranges range = All-push IsInRange read made ranges range
