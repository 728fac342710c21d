-- The numbers of the name and the descriptor of a declared method.
use Rattle.std.proofs.Common.{◌≡◌, ◌≢◌, ℕ, List, [], slice_get, Option, None, Some, refl, sym, true≢false, unwrap_or}
use Rattle.std.specs.Option.{IsSome, option_map_or}
use Rattle.class_pool.specs.Lookup.{utf8_of}
use Rattle.class_read.specs.declared.class_file.Member.{Member}
use Rattle.class_walk.specs.declared.class.Constant.{Constant}
use Rattle.class_texts.specs.Texts.{ProgramTexts, entry_number, KnowsEntry}
use Rattle.text_numbers.specs.Numbers.{number_of}
use Rattle.link_rules.specs.Classes.{member_of_file, utf8_at}
use Rattle.link_rules.specs.Members.{signature_of}
use Rattle.member_lookup.specs.Found.{HaveNumbers}

text_is : (ts : List (List ℕ)) (pool : List Constant) (i n : ℕ) → IsSome (utf8_of (slice_get pool i)) → n ≡ entry_number ts (slice_get pool i) → KnowsEntry ts (slice_get pool i) → (n ≡ number_of ts (utf8_at pool i)) × (number_of ts (utf8_at pool i) ≢ 0)
text_is ts pool i n some is known = go (utf8_of (slice_get pool i)) some is known
  where
    go : (o : Option (List ℕ)) → IsSome o → n ≡ option_map_or (number_of ts) o 0 → ((t : List ℕ) → o ≡ Some t → number_of ts t ≢ 0) → (n ≡ number_of ts (unwrap_or o [])) × (number_of ts (unwrap_or o []) ≢ 0)
    go None some is known = absurd (true≢false (sym some))
    go (Some t) some is known = (is, known t refl)

pub have_texts : (p : ProgramTexts) (pool : List Constant) (m : Member) (name descriptor : ℕ) → IsSome (utf8_of (slice_get pool m.name)) → IsSome (utf8_of (slice_get pool m.descriptor))
    → name ≡ entry_number p.texts (slice_get pool m.name) → KnowsEntry p.texts (slice_get pool m.name)
    → descriptor ≡ entry_number p.texts (slice_get pool m.descriptor) → KnowsEntry p.texts (slice_get pool m.descriptor)
    → HaveNumbers p name descriptor (signature_of (member_of_file pool m))
have_texts p pool m name descriptor named typed is known its knows =
    let n = text_is p.texts pool m.name name named is known in
    let d = text_is p.texts pool m.descriptor descriptor typed its knows in
    record { name_is = n.0; descriptor_is = d.0; name_has = n.1; descriptor_has = d.1 }
