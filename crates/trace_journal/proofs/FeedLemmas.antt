-- A reader goes on over the bytes of a text.
use Rattle.std.proofs.Common.{◌≡◌, ℕ, suc, ◌+◌, ◌<◌, ◌≤◌, ◌==◌, ◌&&◌, Bool, true, false, not, nat_lt, cond, List, [], ◌∷◌, ◌++◌, length, take, get_or, Result, Ok, Err, refl, sym, ap, ◌∙◌, subst, arith, append-nil, append_assoc, length-append, add-one, inl, inr}
use Rattle.std.proofs.lemmas.Bool.{lt-ltb, le-ltb, ltb-true, ltb-false, cases_Bool, and_parts, ne_eqb}
use Rattle.std.proofs.lemmas.List.{take_all, take_more}
use Rattle.trace_journal.specs.declared.item.JournalFault.{JournalFault}
use Rattle.trace_journal.specs.declared.item.JournalFault.TheVariants.{Line, TooMany}
use Rattle.trace_journal.specs.declared.item.JournalItem.{JournalItem}
use Rattle.trace_journal.specs.declared.state.JournalReader.{JournalReader}
use Rattle.trace_journal.specs.declared.state.Stage.{Stage}
use Rattle.trace_journal.specs.declared.state.Stage.TheVariants.{Head, Items, Closed, Failed}
use Rattle.trace_journal.specs.Text.{Lines, before_first, onto, lines_of, is_inside}
use Rattle.trace_journal.specs.Reading.{Read}
use Rattle.trace_journal.specs.Reader.{with_items, FromStage, ReadsOn, Feeds, LineTakes, line_in}
use Rattle.trace_journal.proofs.StageLemmas.{none_added}

-- lines

onto_other : (b : ℕ) (lines : Lines) → (b == 10) ≡ false → onto b lines ≡ before_first b lines.ended lines.rest
onto_other b lines other = ap (λ x. cond x (record { ended = [] ∷ lines.ended; rest = lines.rest }) (before_first b lines.ended lines.rest)) other

not_true : (b : Bool) → not b ≡ true → b ≡ false
not_true true e = absurd cc
not_true false e = refl

pub line_ends : (part rest : List ℕ) → is_inside part ≡ true → lines_of (part ++ 10 ∷ rest) ≡ record { ended = part ∷ (lines_of rest).ended; rest = (lines_of rest).rest }
line_ends [] rest inside = refl
line_ends (b ∷ part) rest inside =
    let k = and_parts (not (b == 10)) (is_inside part) inside in
    ap (onto b) (line_ends part rest k.1) ∙ onto_other b _ (not_true (b == 10) k.0)

line_goes_on : (part : List ℕ) → is_inside part ≡ true → lines_of part ≡ record { ended = []; rest = part }
line_goes_on [] inside = refl
line_goes_on (b ∷ part) inside =
    let k = and_parts (not (b == 10)) (is_inside part) inside in
    ap (onto b) (line_goes_on part k.1) ∙ onto_other b _ (not_true (b == 10) k.0)

pub inside_more : (part : List ℕ) (b : ℕ) → is_inside part ≡ true → (b ≡ 10 → ⊥) → is_inside (part ++ b ∷ []) ≡ true
inside_more [] b inside other = λ i. not (no_end i) && true
  where
    no_end : (b == 10) ≡ false
    no_end = ne_eqb b 10 other
inside_more (c ∷ part) b inside other =
    let k = and_parts (not (c == 10)) (is_inside part) inside in
    λ i. k.0 i && inside_more part b k.1 other i

-- the limit of bytes

past_same : (l n : ℕ) → nat_lt (suc l) (suc n) ≡ nat_lt l n
past_same l n = elim (cases_Bool (nat_lt l n)) [
  | inl t ↦ lt-ltb (suc l) (suc n) (let lt = ltb-true l n t in omega (arith, lt)) ∙ sym t
  | inr f ↦ le-ltb (suc l) (suc n) (let le = ltb-false l n f in omega (arith, le)) ∙ sym f
]

past_none : (n : ℕ) → nat_lt 0 (suc n) ≡ true
past_none n = lt-ltb 0 (suc n) (omega arith)

never_past : (l : ℕ) → nat_lt l 0 ≡ false
never_past l = le-ltb l 0 (omega arith)

-- one byte after another

end_reads : (most : ℕ) (part : List ℕ) (stage stage' : Stage) (count events count' events' l : ℕ) (before after : List JournalItem) → is_inside part ≡ true
    → (h : LineTakes most part stage count events stage' count' events' before after) (more : List ℕ) (found : Result Read JournalFault)
    → FromStage stage' (nat_lt l (length more)) most count' events' (lines_of (take l more)) found
    → FromStage stage (nat_lt (suc l) (length (10 ∷ more))) most count events (lines_of (part ++ take (suc l) (10 ∷ more))) (with_items h.added found)
end_reads most part stage stage' count events count' events' l before after inside h more found reads =
    let rest = lines_of (take l more) in
    let now : FromStage stage (nat_lt l (length more)) most count events (record { ended = part ∷ rest.ended; rest = rest.rest }) (with_items h.added found) = h.reads (nat_lt l (length more)) rest found reads in
    subst (λ past. FromStage stage past most count events (lines_of (part ++ take (suc l) (10 ∷ more))) (with_items h.added found)) (sym (past_same l (length more)))
    (subst (λ lines. FromStage stage (nat_lt l (length more)) most count events lines (with_items h.added found)) (sym (line_ends part (take l more) inside)) now)

-- the line that a reader is in ends
pub line_feeds : (old new : JournalReader) (stage : Stage) (count events : ℕ) (before after : List JournalItem)
    → LineTakes old.limits.items old.part.items old.stage old.count old.events stage count events before after → is_inside old.part.items ≡ true
    → new.stage ≡ stage → new.count ≡ count → new.events ≡ events → new.limits ≡ old.limits → new.part.items ≡ [] → old.left ≡ new.left + 1
    → Feeds old new (10 ∷ []) before after
line_feeds old new stage count events before after leads inside is_stage is_count is_events is_limits is_part is_left = record {
  added = leads.added;
  items = leads.items;
  counts = is_count ∙ leads.counts;
  reads = λ more found h.
      let left : old.left ≡ suc new.left = is_left ∙ add-one new.left in
      let now : FromStage stage (nat_lt new.left (length more)) old.limits.items count events (lines_of (take new.left more)) found
      = subst (λ x. x) (λ i. FromStage (is_stage i) (nat_lt new.left (length more)) (is_limits i).items (is_count i) (is_events i) (lines_of (is_part i ++ take new.left more)) found) h in
      let was = end_reads old.limits.items old.part.items old.stage stage old.count old.events count events new.left before after inside leads more found now in
      subst (λ l. FromStage old.stage (nat_lt l (length (10 ∷ more))) old.limits.items old.count old.events (lines_of (old.part.items ++ take l (10 ∷ more))) (with_items leads.added found)) (sym left) was;
}

-- no item is added
no_items : (old new : JournalReader) (piece : List ℕ) (items : List JournalItem) → new.count ≡ old.count → ((more : List ℕ) (found : Result Read JournalFault) → ReadsOn new more found → ReadsOn old (piece ++ more) found) → Feeds old new piece items items
no_items old new piece items same reads = record {
  added = [];
  items = sym (append-nil items);
  counts = omega (arith, same);
  reads = λ more found h. subst (ReadsOn old (piece ++ more)) (sym (none_added found)) (reads more found h);
}

-- a byte in the midst of a line
pub byte_feeds : (old new : JournalReader) (b : ℕ) (items : List JournalItem)
    → new.stage ≡ old.stage → new.count ≡ old.count → new.events ≡ old.events → new.limits ≡ old.limits → new.part.items ≡ old.part.items ++ b ∷ [] → old.left ≡ new.left + 1
    → Feeds old new (b ∷ []) items items
byte_feeds old new b items is_stage is_count is_events is_limits is_part is_left = no_items old new (b ∷ []) items is_count (λ more found h.
    let left : old.left ≡ suc new.left = is_left ∙ add-one new.left in
    let bytes : new.part.items ++ take new.left more ≡ old.part.items ++ (b ∷ take new.left more) = ap (λ p. p ++ take new.left more) is_part ∙ append_assoc old.part.items (b ∷ []) (take new.left more) in
    let now : FromStage old.stage (nat_lt new.left (length more)) old.limits.items old.count old.events (lines_of (old.part.items ++ (b ∷ take new.left more))) found
    = subst (λ x. x) (λ i. FromStage (is_stage i) (nat_lt new.left (length more)) (is_limits i).items (is_count i) (is_events i) (lines_of (bytes i)) found) h in
    let past : FromStage old.stage (nat_lt (suc new.left) (length (b ∷ more))) old.limits.items old.count old.events (lines_of (old.part.items ++ take (suc new.left) (b ∷ more))) found
    = subst (λ x. FromStage old.stage x old.limits.items old.count old.events (lines_of (old.part.items ++ (b ∷ take new.left more))) found) (sym (past_same new.left (length more))) now in
    subst (λ l. FromStage old.stage (nat_lt l (length (b ∷ more))) old.limits.items old.count old.events (lines_of (old.part.items ++ take l (b ∷ more))) found) (sym left) past)

-- the byte past the limit
past_reads : (stage : Stage) (most count events : ℕ) (part : List ℕ) (found : Result Read JournalFault) → ((fault : JournalFault) → stage ≡ Failed fault → ⊥)
    → found ≡ Err (TooMany (line_in stage count)) → FromStage stage true most count events (record { ended = []; rest = part }) found
past_reads Head most count events part found going e = e
past_reads (Items version) most count events part found going e = (Err (TooMany (count + 2)), refl, e)
past_reads (Closed version) most count events part found going e = (Err (TooMany (count + 3)), refl, e)
past_reads (Failed fault) most count events part found going e = absurd (going fault refl)

pub past_feeds : (old new : JournalReader) (b : ℕ) (items : List JournalItem) → ((fault : JournalFault) → old.stage ≡ Failed fault → ⊥) → is_inside old.part.items ≡ true
    → old.left ≡ 0 → new.count ≡ old.count → new.stage ≡ Failed (TooMany (line_in old.stage old.count)) → Feeds old new (b ∷ []) items items
past_feeds old new b items going inside none is_count is_stage = no_items old new (b ∷ []) items is_count (λ more found h.
    let e : found ≡ Err (TooMany (line_in old.stage old.count)) = subst (λ s. FromStage s (nat_lt new.left (length more)) new.limits.items new.count new.events (lines_of (new.part.items ++ take new.left more)) found) is_stage h in
    let now : FromStage old.stage true old.limits.items old.count old.events (record { ended = []; rest = old.part.items }) found = past_reads old.stage old.limits.items old.count old.events old.part.items found going e in
    let lines : lines_of (old.part.items ++ take 0 (b ∷ more)) ≡ record { ended = []; rest = old.part.items } = ap lines_of (append-nil old.part.items) ∙ line_goes_on old.part.items inside in
    let past : nat_lt 0 (length (b ∷ more)) ≡ true = past_none (length more) in
    let was : FromStage old.stage (nat_lt 0 (length (b ∷ more))) old.limits.items old.count old.events (lines_of (old.part.items ++ take 0 (b ∷ more))) found
    = subst (λ x. x) (λ i. FromStage old.stage (sym past i) old.limits.items old.count old.events (sym lines i) found) now in
    subst (λ l. FromStage old.stage (nat_lt l (length (b ∷ more))) old.limits.items old.count old.events (lines_of (old.part.items ++ take l (b ∷ more))) found) (sym none) was)

-- after a fault nothing is read
pub failed_feeds : (reader : JournalReader) (piece : List ℕ) (items : List JournalItem) (fault : JournalFault) → reader.stage ≡ Failed fault → Feeds reader reader piece items items
failed_feeds reader piece items fault is = no_items reader reader piece items refl (λ more found h.
    let e : found ≡ Err fault = subst (λ s. FromStage s (nat_lt reader.left (length more)) reader.limits.items reader.count reader.events (lines_of (reader.part.items ++ take reader.left more)) found) is h in
    subst (λ s. FromStage s (nat_lt reader.left (length (piece ++ more))) reader.limits.items reader.count reader.events (lines_of (reader.part.items ++ take reader.left (piece ++ more))) found) (sym is) e)

-- pieces

pub twice : (xs ys : List JournalItem) (found : Result Read JournalFault) → with_items xs (with_items ys found) ≡ with_items (xs ++ ys) found
twice xs ys (Ok read) = ap (λ items. Ok (record { version = read.version; items = items })) (sym (append_assoc xs ys read.items))
twice xs ys (Err fault) = refl

pub nothing_feeds : (reader : JournalReader) (items : List JournalItem) → Feeds reader reader [] items items
nothing_feeds reader items = no_items reader reader [] items refl (λ more found h. h)

pub joined_feeds : (a b c : JournalReader) (p q : List ℕ) (xs ys zs : List JournalItem) → Feeds a b p xs ys → Feeds b c q ys zs → Feeds a c (p ++ q) xs zs
joined_feeds a b c p q xs ys zs f g = record {
  added = f.added ++ g.added;
  items = g.items ∙ ap (λ l. l ++ g.added) f.items ∙ append_assoc xs f.added g.added;
  counts = let first = f.counts in let later = g.counts in let long = length-append f.added g.added in omega (arith, first, later, long);
  reads = λ more found h.
      subst (λ x. x) (λ i. ReadsOn a (sym (append_assoc p q more) i) (twice f.added g.added found i)) (f.reads (q ++ more) (with_items g.added found) (g.reads more found h));
}

pub more_feeds : (a b c : JournalReader) (piece : List ℕ) (i : ℕ) (xs ys zs : List JournalItem) → i < length piece → Feeds a b (take i piece) xs ys → Feeds b c (get_or piece i 0 ∷ []) ys zs → Feeds a c (take (i + 1) piece) xs zs
more_feeds a b c piece i xs ys zs lt f g = subst (λ p. Feeds a c p xs zs) (sym (take_more piece i 0 lt)) (joined_feeds a b c (take i piece) (get_or piece i 0 ∷ []) xs ys zs f g)

pub all_feeds : (a b : JournalReader) (piece : List ℕ) (i : ℕ) (xs ys : List JournalItem) → length piece ≤ i → Feeds a b (take i piece) xs ys → Feeds a b piece xs ys
all_feeds a b piece i xs ys le f = subst (λ p. Feeds a b p xs ys) (take_all i piece le) f

-- the end of a text

no_more_bytes : (reader : JournalReader) (found : Result Read JournalFault) → is_inside reader.part.items ≡ true
    → FromStage reader.stage false reader.limits.items reader.count reader.events (record { ended = []; rest = reader.part.items }) found → ReadsOn reader [] found
no_more_bytes reader found inside now =
    let none : reader.part.items ++ take reader.left [] ≡ reader.part.items = ap (λ x. reader.part.items ++ x) (take_all reader.left [] (omega arith)) ∙ append-nil reader.part.items in
    let lines : lines_of (reader.part.items ++ take reader.left []) ≡ record { ended = []; rest = reader.part.items } = ap lines_of none ∙ line_goes_on reader.part.items inside in
    let past : nat_lt reader.left 0 ≡ false = never_past reader.left in
    subst (λ x. x) (λ i. FromStage reader.stage (sym past i) reader.limits.items reader.count reader.events (sym lines i) found) now

pub closes : (reader : JournalReader) (version : ℕ) → is_inside reader.part.items ≡ true → reader.stage ≡ Closed version → reader.part.items ≡ [] → ReadsOn reader [] (Ok (record { version = version; items = [] }))
closes reader version inside is empty = no_more_bytes reader _ inside
    (subst (λ x. x) (λ i. FromStage (sym is i) false reader.limits.items reader.count reader.events (record { ended = []; rest = sym empty i }) (Ok (record { version = version; items = [] }))) (Ok [], refl, refl))

break_reads : (stage : Stage) (most count events : ℕ) (part : List ℕ) → ((version : ℕ) → stage ≡ Closed version → part ≡ [] → ⊥) → ((fault : JournalFault) → stage ≡ Failed fault → ⊥)
    → FromStage stage false most count events (record { ended = []; rest = part }) (Err (Line (line_in stage count)))
break_reads Head most count events part unended going = refl
break_reads (Items version) most count events part unended going = (Err (Line (count + 2)), refl, refl)
break_reads (Closed version) most count events [] unended going = absurd (unended version refl refl)
break_reads (Closed version) most count events (b ∷ part) unended going = (Err (Line (count + 3)), refl, refl)
break_reads (Failed fault) most count events part unended going = absurd (going fault refl)

breaks : (reader : JournalReader) → is_inside reader.part.items ≡ true → ((version : ℕ) → reader.stage ≡ Closed version → reader.part.items ≡ [] → ⊥) → ((fault : JournalFault) → reader.stage ≡ Failed fault → ⊥)
    → ReadsOn reader [] (Err (Line (line_in reader.stage reader.count)))
breaks reader inside unended going = no_more_bytes reader _ inside (break_reads reader.stage reader.limits.items reader.count reader.events reader.part.items unended going)

pub head_breaks : (reader : JournalReader) → is_inside reader.part.items ≡ true → reader.stage ≡ Head → ReadsOn reader [] (Err (Line 1))
head_breaks reader inside is =
    subst (λ s. ReadsOn reader [] (Err (Line (line_in s reader.count)))) is (breaks reader inside (λ version e none. absurd (let no : Head ≡ Closed version = sym is ∙ e in cc)) (λ fault e. absurd (let no : Head ≡ Failed fault = sym is ∙ e in cc)))

pub items_break : (reader : JournalReader) (version : ℕ) → is_inside reader.part.items ≡ true → reader.stage ≡ Items version → ReadsOn reader [] (Err (Line (reader.count + 2)))
items_break reader version inside is =
    subst (λ s. ReadsOn reader [] (Err (Line (line_in s reader.count)))) is (breaks reader inside (λ other e none. absurd (let no : Items version ≡ Closed other = sym is ∙ e in cc)) (λ fault e. absurd (let no : Items version ≡ Failed fault = sym is ∙ e in cc)))

pub closed_breaks : (reader : JournalReader) (version : ℕ) → is_inside reader.part.items ≡ true → reader.stage ≡ Closed version → (reader.part.items ≡ [] → ⊥) → ReadsOn reader [] (Err (Line (reader.count + 3)))
closed_breaks reader version inside is some =
    subst (λ s. ReadsOn reader [] (Err (Line (line_in s reader.count)))) is (breaks reader inside (λ other e none. some none) (λ fault e. absurd (let no : Closed version ≡ Failed fault = sym is ∙ e in cc)))

pub fails : (reader : JournalReader) (fault : JournalFault) → reader.stage ≡ Failed fault → ReadsOn reader [] (Err fault)
fails reader fault is = subst (λ s. FromStage s (nat_lt reader.left 0) reader.limits.items reader.count reader.events (lines_of (reader.part.items ++ take reader.left [])) (Err fault)) (sym is) refl
