-- A journal in the newest version.
use Rattle.std.proofs.Common.{◌≡◌, ◌⊎◌, inl, inr, ℕ, suc, ◌<◌, ◌==◌, Bool, true, List, [], ◌∷◌, ◌++◌, length, map, Result, Ok, Err, refl, sym, ap, ◌∙◌, subst, arith, codes, append-nil, append_assoc, length-append}
use Rattle.std.specs.List.{concat, slice_set}
use Rattle.std.specs.Fmt.{decimal}
use Rattle.std.proofs.lemmas.Bool.{eqb-true}
use Rattle.trace_journal.specs.declared.item.JournalFault.{JournalFault}
use Rattle.trace_journal.specs.declared.item.JournalItem.{JournalItem}
use Rattle.trace_journal.specs.declared.item.TheConstants.{LARGEST}
use Rattle.trace_journal.specs.declared.state.JournalReader.{JournalReader}
use Rattle.trace_journal.specs.Spelling.{spelled, head_line, end_line}
use Rattle.trace_journal.specs.Text.{ended, events_in, text_of}
use Rattle.trace_journal.specs.Reading.{Read, IsRead, IsKnown}
use Rattle.trace_journal.specs.Reader.{with_items, ReadsOn, Feeds}
use Rattle.trace_journal.proofs.StageLemmas.{none_added, version_1, version_2}
use Rattle.trace_journal.proofs.FeedLemmas.{twice}
use Rattle.trace_journal.proofs.LawLemmas.{readings_are_journals}

-- what the loop keeps: the items so far, which aren't kept
pub record IsReadTo (now : JournalReader) (text rest : List ℕ) : Type 0 where
  pub done : List JournalItem
  pub reads : (found : Result Read JournalFault) → ReadsOn now rest found → IsRead LARGEST text (with_items done found)

pub nothing_read : (reader : JournalReader) (text : List ℕ) → ((text : List ℕ) (found : Result Read JournalFault) → ReadsOn reader text found → IsRead LARGEST text found) → IsReadTo reader text text
nothing_read reader text begins = record { done = []; reads = λ found h. subst (IsRead LARGEST text) (sym (none_added found)) (begins text found h) }

pub piece_read : (now new : JournalReader) (text rest piece after : List ℕ) (items : List JournalItem) → IsReadTo now text rest → rest ≡ piece ++ after → Feeds now new piece [] items → IsReadTo new text after
piece_read now new text rest piece after items so_far is fed = record {
  done = so_far.done ++ fed.added;
  reads = λ found h. subst (IsRead LARGEST text) (twice so_far.done fed.added found) (so_far.reads (with_items fed.added found) (subst (λ bytes. ReadsOn now bytes (with_items fed.added found)) (sym is) (fed.reads after found h)));
}

pub no_rest : (rest : List ℕ) (b : Bool) → b ≡ (length rest == 0) → b ≡ true → rest ≡ []
no_rest [] b is none = refl
no_rest (x ∷ rest) b is none = absurd (let zero = eqb-true (length (x ∷ rest)) 0 (sym is ∙ none) in omega (arith, zero))

pub all_read : (now : JournalReader) (text rest : List ℕ) (version : ℕ) → IsReadTo now text rest → rest ≡ [] → ReadsOn now [] (Ok (record { version = version; items = [] }))
    → (items : List JournalItem) × IsRead LARGEST text (Ok (record { version = version; items = items }))
all_read now text rest version so_far none ends =
    (so_far.done, subst (λ items. IsRead LARGEST text (Ok (record { version = version; items = items }))) (append-nil so_far.done) (so_far.reads _ (subst (λ bytes. ReadsOn now bytes (Ok (record { version = version; items = [] }))) (sym none) ends)))

pub all_wrong : (now : JournalReader) (text rest : List ℕ) (fault : JournalFault) → IsReadTo now text rest → rest ≡ [] → ReadsOn now [] (Err fault) → IsRead LARGEST text (Err fault)
all_wrong now text rest fault so_far none ends = so_far.reads (Err fault) (subst (λ bytes. ReadsOn now bytes (Err fault)) (sym none) ends)

-- ---- the byte of the version

-- what comes after it
abbrev after_version : List JournalItem → List ℕ
after_version items = 10 ∷ concat (map ended (map spelled items ++ end_line (length (events_in items)) ∷ []))

text_with : (version digit : ℕ) (items : List JournalItem) → decimal version ≡ digit ∷ [] → text_of version items ≡ codes "jrev-trace" ++ 32 ∷ digit ∷ after_version items
text_with version digit items is = ap (λ d. ended (codes "jrev-trace" ++ 32 ∷ d) ++ concat (map ended (map spelled items ++ end_line (length (events_in items)) ∷ []))) is

shape : (version : ℕ) (items : List JournalItem) → IsKnown version → (digit : ℕ) × (text_of version items ≡ codes "jrev-trace" ++ 32 ∷ digit ∷ after_version items)
shape version items (inl one) = (49, ap (λ v. text_of v items) one ∙ text_with 1 49 items version_1)
shape version items (inr two) = (50, ap (λ v. text_of v items) two ∙ text_with 2 50 items version_2)

shape_of : (text : List ℕ) (read : Read) → IsRead LARGEST text (Ok read) → (digit : ℕ) × (text ≡ codes "jrev-trace" ++ 32 ∷ digit ∷ after_version read.items)
shape_of text read is =
    let (known, same, _) = readings_are_journals LARGEST text read is in
    let (digit, has) = shape read.version read.items known in (digit, same ∙ has)

long_enough : (n : ℕ) (rest : List ℕ) → n ≡ suc (suc (suc (suc (suc (suc (suc (suc (suc (suc (suc (suc (length rest)))))))))))) → 11 < n
long_enough n rest is = omega (arith, is)

pub has_version : (text : List ℕ) (version : ℕ) → ((items : List JournalItem) × IsRead LARGEST text (Ok (record { version = version; items = items }))) → 11 < length text
has_version text version (items, is) =
    let shown = shape_of text (record { version = version; items = items }) is in
    long_enough (length text) (after_version items) (ap length shown.1)

pub newest : (text : List ℕ) (version : ℕ) (new : List ℕ) → ((items : List JournalItem) × IsRead LARGEST text (Ok (record { version = version; items = items }))) → new ≡ slice_set text 11 50
    → (read : Read) × IsRead LARGEST text (Ok read) × (new ≡ text_of 2 read.items)
newest text version new (items, is) set =
    let (digit, has) = shape_of text (record { version = version; items = items }) is in (
      record { version = version; items = items },
      is,
      set ∙ ap (λ t. slice_set t 11 50) has ∙ sym (text_with 2 50 items version_2),
    )
