-- Texts and journals: each text is read in one way, and a journal is read of its own text alone.
use Rattle.std.proofs.Common.{◌≡◌, ℕ, suc, ◌+◌, ◌<◌, ◌≤◌, ◌^◌, ◌==◌, ◌&&◌, Bool, true, false, not, nat_le, nat_lt, MatchBool, cond, codes, List, [], ◌∷◌, ◌++◌, length, map, take, drop, Some, None, Result, Ok, Err, refl, sym, ap, ◌∙◌, subst, arith, inl, inr, append-nil, append_assoc}
use Rattle.std.specs.List.{AllByRecursion, concat}
use Rattle.std.specs.Fmt.{decimal}
use Rattle.std.proofs.lemmas.Bool.{cases_Bool, and_parts, lt-ltb, le-ltb, ltb-true, ltb-false, leb-true, eqb-true, ne_eqb}
use Rattle.std.proofs.lemmas.List.{take_all}
use Rattle.std.proofs.lemmas.Option.{same_Some}
use Rattle.std.proofs.lemmas.Fmt.{decimal_injective}
use Rattle.decimal_numbers.specs.Numbers.{is_digit, are_digits}
use Rattle.op_core.specs.declared.Event.{Event}
use Rattle.op_core.specs.declared.Op.{Op}
use Rattle.op_core.specs.Replies.{Fits}
use Rattle.op_core.specs.declared.Op.TheVariants as ops
use Rattle.op_core.specs.declared.Reply.{Reply}
use Rattle.op_core.specs.declared.Reply.TheVariants.{Class, Value, Made, Done, NotOwner, Woken, Number, Already, Ready, Bad, Claimed}
use Rattle.trace_journal.specs.declared.item.JournalFault.{JournalFault}
use Rattle.trace_journal.specs.declared.item.JournalFault.TheVariants.{Line, Version, TooMany}
use Rattle.trace_journal.specs.declared.item.JournalItem.{JournalItem}
use Rattle.trace_journal.specs.declared.item.JournalLimits.{JournalLimits}
use Rattle.trace_journal.specs.declared.item.JournalItem.TheVariants.{Event as event_item, Undone}
use Rattle.trace_journal.specs.Parsing.{cut, item_at}
use Rattle.trace_journal.specs.Spelling.{joined, event_words, spelled, head_line, end_line, CanBeSaid, IsItem, Says}
use Rattle.trace_journal.specs.Text.{Lines, before_first, onto, lines_of, ended, is_inside, events_in, text_lines, text_of}
use Rattle.trace_journal.specs.Reading.{IsRead, Read, GoesOn, AreRead, AreReadFrom, IsHead, IsKnown, Closes, of_version, with_item, events_with}
use Rattle.trace_journal.specs.Laws.{TextsHaveOneReading, ReadingsAreJournals, JournalsReadBack}
use Rattle.trace_journal.proofs.FeedLemmas.{line_ends}
use Rattle.trace_journal.proofs.SaidLemmas.{read_back}
use Rattle.trace_journal.proofs.NumberLemmas.{decimal_digits, decimal_leads}

-- each line says one thing

says_one : (version : ℕ) (line : List ℕ) (item other : JournalItem) → Says version line item → Says version line other → other ≡ item
says_one version line item other h g =
    let read : item_at version (cut line) ≡ Some item = ap (λ w. item_at version (cut w)) h.1 ∙ read_back version item h.0 in
    let again : item_at version (cut line) ≡ Some other = ap (λ w. item_at version (cut w)) g.1 ∙ read_back version other g.0 in
    same_Some other item (sym again ∙ read)

end_says_none : (version events : ℕ) (item : JournalItem) → Says version (end_line events) item → ⊥
end_says_none version events item h =
    let read : item_at version (cut (end_line events)) ≡ Some item = ap (λ w. item_at version (cut w)) h.1 ∙ read_back version item h.0 in
    let none : item_at version (cut (end_line events)) ≡ None = refl in
    let no : None ≡ Some item = sym none ∙ read in
    cc

-- one reading

closes_once : (past : Bool) (n : ℕ) (lines : List (List ℕ)) (rest : List ℕ) (found other : Result (List JournalItem) JournalFault) → Closes past n lines rest found → Closes past n lines rest other → other ≡ found
closes_once past n (line ∷ lines) rest found other h g = g ∙ sym h
closes_once true n [] rest found other h g = g ∙ sym h
closes_once false n [] (b ∷ rest) found other h g = g ∙ sym h
closes_once false n [] [] found other h g = g ∙ sym h

goes_on_once : (few : Bool) (count : ℕ) (item : JournalItem) (found other : Result (List JournalItem) JournalFault) (AreOthers : Result (List JournalItem) JournalFault → Type 0)
    → ((x y : Result (List JournalItem) JournalFault) → AreOthers x → AreOthers y → y ≡ x)
    → MatchBool few ((others : Result (List JournalItem) JournalFault) × AreOthers others × (found ≡ with_item item others)) (found ≡ Err (TooMany (count + 2)))
    → MatchBool few ((others : Result (List JournalItem) JournalFault) × AreOthers others × (other ≡ with_item item others)) (other ≡ Err (TooMany (count + 2))) → other ≡ found
goes_on_once true count item found other AreOthers once h g = g.2 ∙ ap (with_item item) (once h.0 g.0 h.1 g.1) ∙ sym h.2
goes_on_once false count item found other AreOthers once h g = g ∙ sym h

read_once : (past : Bool) (version most count events : ℕ) (lines : List (List ℕ)) (rest : List ℕ) (found other : Result (List JournalItem) JournalFault)
    → AreRead past version most count events lines rest found → AreRead past version most count events lines rest other → other ≡ found
read_once past version most count events [] rest found other h g = g ∙ sym h
read_once past version most count events (line ∷ lines) rest found other (inl h) (inl g) = closes_once past (count + 3) lines rest found other h.1 g.1
read_once past version most count events (line ∷ lines) rest found other (inl h) (inr (inl g)) = absurd (end_says_none version events g.0 (subst (λ w. Says version w g.0) h.0 g.1))
read_once past version most count events (line ∷ lines) rest found other (inl h) (inr (inr g)) = absurd (g.0 h.0)
read_once past version most count events (line ∷ lines) rest found other (inr (inl h)) (inl g) = absurd (end_says_none version events h.0 (subst (λ w. Says version w h.0) g.0 h.1))
read_once past version most count events (line ∷ lines) rest found other (inr (inl h)) (inr (inl g)) =
    let same : g.0 ≡ h.0 = says_one version line h.0 g.0 h.1 g.1 in
    let again : GoesOn most count h.0 other (AreRead past version most (count + 1) (events_with events h.0) lines rest)
    = subst (λ item. GoesOn most count item other (AreRead past version most (count + 1) (events_with events item) lines rest)) same g.2 in
    goes_on_once (nat_lt count most) count h.0 found other (AreRead past version most (count + 1) (events_with events h.0) lines rest)
    (λ x y a b. read_once past version most (count + 1) (events_with events h.0) lines rest x y a b) h.2 again
read_once past version most count events (line ∷ lines) rest found other (inr (inl h)) (inr (inr g)) = absurd (g.1 h.0 h.1)
read_once past version most count events (line ∷ lines) rest found other (inr (inr h)) (inl g) = absurd (h.0 g.0)
read_once past version most count events (line ∷ lines) rest found other (inr (inr h)) (inr (inl g)) = absurd (h.1 g.0 g.1)
read_once past version most count events (line ∷ lines) rest found other (inr (inr h)) (inr (inr g)) = g.2 ∙ sym h.2

-- first lines

one_is_head : IsHead (head_line 1) (decimal 1)
one_is_head = record { spelled = refl; digits = decimal_digits 1 (omega arith); lead = decimal_leads 1 (omega arith) }

known_is_head : (version : ℕ) → IsKnown version → IsHead (head_line version) (decimal version)
known_is_head version (inl one) = subst (λ v. IsHead (head_line v) (decimal v)) (sym one) one_is_head
known_is_head version (inr two) = subst (λ v. IsHead (head_line v) (decimal v)) (sym two) (record { spelled = refl; digits = decimal_digits 2 (omega arith); lead = decimal_leads 2 (omega arith) })

small_version : (version : ℕ) → IsKnown version → version ≤ 2
small_version version (inl one) = omega (arith, one)
small_version version (inr two) = omega (arith, two)

one_version : (version other : ℕ) → IsKnown version → IsKnown other → head_line version ≡ head_line other → other ≡ version
one_version version other h g e =
    let a = small_version version h in
    let b = small_version other g in
    sym (decimal_injective version other (omega (arith, a)) (omega (arith, b)) (ap (drop 11) e))

from_once : (past : Bool) (most : ℕ) (lines : List (List ℕ)) (rest : List ℕ) (found other : Result Read JournalFault) → AreReadFrom past most lines rest found → AreReadFrom past most lines rest other → other ≡ found
from_once past most [] rest found other h g = g ∙ sym h
from_once past most (line ∷ lines) rest found other (inl h) (inl g) =
    let same : g.0 ≡ h.0 = one_version h.0 g.0 h.2 g.2 (sym h.3 ∙ g.3) in
    let again : AreRead past h.0 most 0 0 lines rest g.1 = subst (λ v. AreRead past v most 0 0 lines rest g.1) same g.4 in
    g.5 ∙ (λ i. of_version (same i) (read_once past h.0 most 0 0 lines rest h.1 g.1 h.4 again i)) ∙ sym h.5
from_once past most (line ∷ lines) rest found other (inl h) (inr (inl g)) = absurd (g.2 h.0 h.2 h.3)
from_once past most (line ∷ lines) rest found other (inl h) (inr (inr g)) = absurd (g.0 (decimal h.0) (subst (λ w. IsHead w (decimal h.0)) (sym h.3) (known_is_head h.0 h.2)))
from_once past most (line ∷ lines) rest found other (inr (inl h)) (inl g) = absurd (h.2 g.0 g.2 g.3)
from_once past most (line ∷ lines) rest found other (inr (inl h)) (inr (inl g)) = g.3 ∙ sym h.3
from_once past most (line ∷ lines) rest found other (inr (inl h)) (inr (inr g)) = absurd (g.0 h.0 h.1)
from_once past most (line ∷ lines) rest found other (inr (inr h)) (inl g) = absurd (h.0 (decimal g.0) (subst (λ w. IsHead w (decimal g.0)) (sym g.3) (known_is_head g.0 g.2)))
from_once past most (line ∷ lines) rest found other (inr (inr h)) (inr (inl g)) = absurd (h.0 g.0 g.1)
from_once past most (line ∷ lines) rest found other (inr (inr h)) (inr (inr g)) = g.1 ∙ sym h.1

pub texts_have_one_reading : TextsHaveOneReading
texts_have_one_reading limits text found other h g = from_once _ limits.items _ _ found other h.read g.read

-- lines and text

abbrev text_again : Lines → List ℕ
text_again lines = concat (map ended lines.ended) ++ lines.rest

first_again : (b : ℕ) (lines : List (List ℕ)) (rest : List ℕ) → text_again (before_first b lines rest) ≡ b ∷ text_again (record { ended = lines; rest = rest })
first_again b [] rest = refl
first_again b (line ∷ lines) rest = refl

onto_again : (b : ℕ) (lines : Lines) → text_again (onto b lines) ≡ b ∷ text_again lines
onto_again b lines = elim (cases_Bool (b == 10)) [
  | inl is ↦ ap (λ x. text_again (cond x (record { ended = [] ∷ lines.ended; rest = lines.rest }) (before_first b lines.ended lines.rest))) is ∙ new_line (sym (eqb-true b 10 is))
  | inr other ↦ ap (λ x. text_again (cond x (record { ended = [] ∷ lines.ended; rest = lines.rest }) (before_first b lines.ended lines.rest))) other ∙ first_again b lines.ended lines.rest
]
  where
    new_line : 10 ≡ b → text_again (record { ended = [] ∷ lines.ended; rest = lines.rest }) ≡ b ∷ text_again lines
    new_line is = ap (λ x. x ∷ text_again lines) is

lines_again : (text : List ℕ) → text_again (lines_of text) ≡ text
lines_again [] = refl
lines_again (b ∷ text) = onto_again b (lines_of text) ∙ ap (λ x. b ∷ x) (lines_again text)

-- a journal is read of its own text alone

count_more : (events : ℕ) (item : JournalItem) (items : List JournalItem) → events_with events item + length (events_in items) ≡ events + length (events_in (item ∷ items))
count_more events (event_item e) items = omega arith
count_more events (Undone t l k) items = omega arith

closes_is : (past : Bool) (n : ℕ) (lines : List (List ℕ)) (rest : List ℕ) (items : List JournalItem) → Closes past n lines rest (Ok items) → (past ≡ false) × (lines ≡ []) × (rest ≡ []) × (items ≡ [])
closes_is past n (line ∷ lines) rest items e = absurd cc
closes_is true n [] rest items e = absurd cc
closes_is false n [] (b ∷ rest) items e = absurd cc
closes_is false n [] [] items e = (refl, refl, refl, ap (λ (r : Result (List JournalItem) JournalFault). elim r [ Ok x ↦ x | Err y ↦ items ]) e)

-- what the lines of a journal are
record AreLines (past : Bool) (version events : ℕ) (lines : List (List ℕ)) (rest : List ℕ) (items : List JournalItem) : Type 0 where
  whole : past ≡ false
  none : rest ≡ []
  lines_are : lines ≡ map spelled items ++ end_line (events + length (events_in items)) ∷ []
  all : AllByRecursion (IsItem version) items

more_lines : (past : Bool) (version events : ℕ) (line : List ℕ) (lines : List (List ℕ)) (rest : List ℕ) (item : JournalItem) (items : List JournalItem) → Says version line item
    → AreLines past version (events_with events item) lines rest items → AreLines past version events (line ∷ lines) rest (item ∷ items)
more_lines past version events line lines rest item items says others = record {
  whole = others.whole;
  none = others.none;
  lines_are = (λ i. says.1 i ∷ others.lines_are i) ∙ ap (λ n. spelled item ∷ (map spelled items ++ end_line n ∷ [])) (count_more events item items);
  all = (says.0, others.all);
}

abbrev all_of : List JournalItem → Result (List JournalItem) JournalFault
all_of items = Ok items

ok_same : (items others : List JournalItem) → all_of items ≡ all_of others → items ≡ others
ok_same items others e = ap (λ (r : Result (List JournalItem) JournalFault). elim r [ Ok x ↦ x | Err y ↦ items ]) e

with_is : (item : JournalItem) (items : List JournalItem) (others : Result (List JournalItem) JournalFault) → Ok items ≡ with_item item others → (its : List JournalItem) × (others ≡ Ok its) × (items ≡ item ∷ its)
with_is item items (Ok its) e = (its, refl, ok_same items (item ∷ its) e)
with_is item items (Err fault) e = absurd cc

goes_on_lines : (few past : Bool) (version count events : ℕ) (line : List ℕ) (lines : List (List ℕ)) (rest : List ℕ) (item : JournalItem) (items : List JournalItem)
    (AreOthers : Result (List JournalItem) JournalFault → Type 0) → ((its : List JournalItem) → AreOthers (Ok its) → AreLines past version (events_with events item) lines rest its) → Says version line item
    → MatchBool few ((others : Result (List JournalItem) JournalFault) × AreOthers others × (Ok items ≡ with_item item others)) (Ok items ≡ Err (TooMany (count + 2)))
    → AreLines past version events (line ∷ lines) rest items
goes_on_lines true past version count events line lines rest item items AreOthers are says h =
    let k = with_is item items h.0 h.2 in
    subst (AreLines past version events (line ∷ lines) rest) (sym k.2) (more_lines past version events line lines rest item k.0 says (are k.0 (subst AreOthers k.1 h.1)))
goes_on_lines false past version count events line lines rest item items AreOthers are says h = absurd cc

last_line : (past : Bool) (version count events : ℕ) (line : List ℕ) (lines : List (List ℕ)) (rest : List ℕ) (items : List JournalItem) → line ≡ end_line events → Closes past (count + 3) lines rest (Ok items)
    → AreLines past version events (line ∷ lines) rest items
last_line past version count events line lines rest items is closes =
    let k = closes_is past (count + 3) lines rest items closes in
    subst (AreLines past version events (line ∷ lines) rest) (sym k.3) (record {
      whole = k.0;
      none = k.2;
      lines_are = (λ i. is i ∷ k.1 i) ∙ ap (λ n. end_line n ∷ []) (let same : events ≡ events + 0 = omega arith in same);
      all = tt;
    })

lines_of_read : (past : Bool) (version most count events : ℕ) (lines : List (List ℕ)) (rest : List ℕ) (items : List JournalItem)
    → AreRead past version most count events lines rest (Ok items) → AreLines past version events lines rest items
lines_of_read past version most count events [] rest items e = absurd cc
lines_of_read past version most count events (line ∷ lines) rest items (inl h) = last_line past version count events line lines rest items h.0 h.1
lines_of_read past version most count events (line ∷ lines) rest items (inr (inl h)) =
    goes_on_lines (nat_lt count most) past version count events line lines rest h.0 items (AreRead past version most (count + 1) (events_with events h.0) lines rest)
    (λ its g. lines_of_read past version most (count + 1) (events_with events h.0) lines rest its g) h.1 h.2
lines_of_read past version most count events (line ∷ lines) rest items (inr (inr h)) = absurd (let no : Ok items ≡ Err (Line (count + 2)) = h.2 in cc)

few_goes_on : (few : Bool) (most count : ℕ) (item : JournalItem) (items : List JournalItem) (AreOthers : Result (List JournalItem) JournalFault → Type 0) → few ≡ nat_lt count most
    → ((its : List JournalItem) → count + 1 ≤ most → AreOthers (Ok its) → count + 1 + length its ≤ most)
    → MatchBool few ((others : Result (List JournalItem) JournalFault) × AreOthers others × (Ok items ≡ with_item item others)) (Ok items ≡ Err (TooMany (count + 2)))
    → count + length items ≤ most
few_goes_on true most count item items AreOthers is others h =
    let k = with_is item items h.0 h.2 in
    let less : count < most = ltb-true count most (sym is) in
    let le : count + 1 + length k.0 ≤ most = others k.0 (omega (arith, less)) (subst AreOthers k.1 h.1) in
    let longer : length items ≡ suc (length k.0) = ap length k.2 in
    omega (arith, le, longer)
few_goes_on false most count item items AreOthers is others h = absurd cc

few_read : (past : Bool) (version most count events : ℕ) (lines : List (List ℕ)) (rest : List ℕ) (items : List JournalItem) → count ≤ most
    → AreRead past version most count events lines rest (Ok items) → count + length items ≤ most
few_read past version most count events [] rest items le e = absurd cc
few_read past version most count events (line ∷ lines) rest items le (inl h) =
    let none : length items ≡ 0 = ap length (closes_is past (count + 3) lines rest items h.1).3 in
    omega (arith, le, none)
few_read past version most count events (line ∷ lines) rest items le (inr (inl h)) =
    few_goes_on (nat_lt count most) most count h.0 items (AreRead past version most (count + 1) (events_with events h.0) lines rest) refl
    (λ its less g. few_read past version most (count + 1) (events_with events h.0) lines rest its less g) h.2
few_read past version most count events (line ∷ lines) rest items le (inr (inr h)) = absurd (let no : Ok items ≡ Err (Line (count + 2)) = h.2 in cc)

version_is : (version : ℕ) (others : Result (List JournalItem) JournalFault) (read : Read) → Ok read ≡ of_version version others
    → (items : List JournalItem) × (others ≡ Ok items) × (read ≡ record { version = version; items = items })
version_is version (Ok items) read e = (items, refl, ap (λ (r : Result Read JournalFault). elim r [ Ok x ↦ x | Err y ↦ read ]) e)
version_is version (Err fault) read e = absurd cc

-- the lines of a text that is read
record IsWhole (past : Bool) (lines : List (List ℕ)) (rest : List ℕ) (read : Read) : Type 0 where
  whole : past ≡ false
  none : rest ≡ []
  lines_are : lines ≡ text_lines read.version read.items
  known : IsKnown read.version
  all : AllByRecursion (IsItem read.version) read.items

from_whole : (past : Bool) (most : ℕ) (lines : List (List ℕ)) (rest : List ℕ) (read : Read) → AreReadFrom past most lines rest (Ok read) → IsWhole past lines rest read
from_whole past most [] rest read e = absurd cc
from_whole past most (line ∷ lines) rest read (inl h) =
    let k = version_is h.0 h.1 read h.5 in
    let are = lines_of_read past h.0 most 0 0 lines rest k.0 (subst (AreRead past h.0 most 0 0 lines rest) k.1 h.4) in
    subst (IsWhole past (line ∷ lines) rest) (sym k.2) (record {
      whole = are.whole;
      none = are.none;
      lines_are = (λ i. h.3 i ∷ are.lines_are i) ∙ ap (λ n. head_line h.0 ∷ (map spelled k.0 ++ end_line n ∷ [])) (let same : 0 + length (events_in k.0) ≡ length (events_in k.0) = omega arith in same);
      known = h.2;
      all = are.all;
    })
from_whole past most (line ∷ lines) rest read (inr (inl h)) = absurd (let no : Ok read ≡ Err Version = h.3 in cc)
from_whole past most (line ∷ lines) rest read (inr (inr h)) = absurd (let no : Ok read ≡ Err (Line 1) = h.1 in cc)

few_from : (past : Bool) (most : ℕ) (lines : List (List ℕ)) (rest : List ℕ) (read : Read) → AreReadFrom past most lines rest (Ok read) → length read.items ≤ most
few_from past most [] rest read e = absurd cc
few_from past most (line ∷ lines) rest read (inl h) =
    let k = version_is h.0 h.1 read h.5 in
    let le : 0 + length k.0 ≤ most = few_read past h.0 most 0 0 lines rest k.0 (omega arith) (subst (AreRead past h.0 most 0 0 lines rest) k.1 h.4) in
    let same : length read.items ≡ length k.0 = ap (λ (r : Read). length r.items) k.2 in
    omega (arith, le, same)
few_from past most (line ∷ lines) rest read (inr (inl h)) = absurd (let no : Ok read ≡ Err Version = h.3 in cc)
few_from past most (line ∷ lines) rest read (inr (inr h)) = absurd (let no : Ok read ≡ Err (Line 1) = h.1 in cc)

-- as many items as there may be, at most
pub few_items : (limits : JournalLimits) (text : List ℕ) (read : Read) → IsRead limits text (Ok read) → length read.items ≤ limits.items
few_items limits text read h = few_from _ limits.items _ _ read h.read

pub readings_are_journals : ReadingsAreJournals
readings_are_journals limits text read h =
    let lines = lines_of (take limits.bytes text) in
    let w = from_whole _ limits.items lines.ended lines.rest read h.read in
    let few : length text ≤ limits.bytes = ltb-false limits.bytes (length text) w.whole in
    let all : take limits.bytes text ≡ text = take_all limits.bytes text few in
    let parts : concat (map ended lines.ended) ++ lines.rest ≡ text = lines_again (take limits.bytes text) ∙ all in
    (w.known, sym parts ∙ (λ i. concat (map ended (w.lines_are i)) ++ w.none i) ∙ append-nil _, w.all)

-- the text of a journal is read

number_inside : (n : ℕ) → n < 2 ^ 64 → is_inside (decimal n) ≡ true
number_inside n h = digits_inside (decimal n) (decimal_digits n h)
  where
    digits_inside : (ds : List ℕ) → are_digits ds ≡ true → is_inside ds ≡ true
    digits_inside [] digits = refl
    digits_inside (b ∷ ds) digits =
        let k = and_parts (is_digit b) (are_digits ds) digits in
        let m = and_parts (nat_le 48 b) (nat_le b 57) k.0 in
        let low = leb-true 48 b m.0 in
        let other : (b == 10) ≡ false = ne_eqb b 10 (λ e. omega (arith, e, low)) in
        λ i. not (other i) && digits_inside ds k.1 i

abbrev AreInside : List (List ℕ) → Type 0
AreInside words = AllByRecursion (λ w. is_inside w ≡ true) words

both_inside : (a b : List ℕ) → is_inside a ≡ true → is_inside b ≡ true → is_inside (a ++ b) ≡ true
both_inside [] b h g = g
both_inside (c ∷ a) b h g = let k = and_parts (not (c == 10)) (is_inside a) h in λ i. k.0 i && both_inside a b k.1 g i

joined_inside : (words : List (List ℕ)) → AreInside words → is_inside (joined words) ≡ true
joined_inside [] h = refl
joined_inside (w ∷ []) h = h.0
joined_inside (w ∷ v ∷ words) h = both_inside w (32 ∷ joined (v ∷ words)) h.0 (joined_inside (v ∷ words) h.1)

word_inside : (n : ℕ) → n < 2 ^ 32 → is_inside (decimal n) ≡ true
word_inside n h = number_inside n (omega (arith, h))

byte_inside : (n : ℕ) → n < 2 ^ 8 → is_inside (decimal n) ≡ true
byte_inside n h = number_inside n (omega (arith, h))

words_inside : (op : Op) (reply : Reply) → CanBeSaid op reply → AreInside (event_words op reply)
words_inside (ops.ClassOf r) (Class c l) h = (refl, (word_inside r h.op_range, (word_inside c h.reply_range.0, (word_inside l h.reply_range.1, tt))))
words_inside (ops.Read r i) (Value v) h = (refl, (word_inside r h.op_range.0, (word_inside i h.op_range.1, (word_inside v h.reply_range, tt))))
words_inside (ops.Write r i v) Done h = (refl, (word_inside r h.op_range.0, (word_inside i h.op_range.1, (word_inside v h.op_range.2, tt))))
words_inside (ops.New c l) (Made r) h = (refl, (word_inside c h.op_range.0, (word_inside l h.op_range.1, (word_inside r h.reply_range, tt))))
words_inside (ops.Enter r) Done h = (refl, (word_inside r h.op_range, tt))
words_inside (ops.Exit r) Done h = (refl, (word_inside r h.op_range, tt))
words_inside (ops.Exit r) NotOwner h = (refl, (word_inside r h.op_range, (refl, tt)))
words_inside (ops.Wait r) Done h = (refl, (word_inside r h.op_range, tt))
words_inside (ops.Wait r) NotOwner h = (refl, (word_inside r h.op_range, (refl, tt)))
words_inside (ops.Rewake r) Done h = (refl, (word_inside r h.op_range, tt))
words_inside (ops.Notify r) (Woken n) h = (refl, (word_inside r h.op_range, (byte_inside n h.reply_range, tt)))
words_inside (ops.Notify r) NotOwner h = (refl, (word_inside r h.op_range, (refl, tt)))
words_inside (ops.Print x) Done h = (refl, tt)
words_inside (ops.Start r p) (Number n) h = (refl, (word_inside r h.op_range.0, (byte_inside p h.op_range.1, (byte_inside n h.reply_range, tt))))
words_inside (ops.Start r p) Already h = (refl, (word_inside r h.op_range.0, (byte_inside p h.op_range.1, (refl, tt))))
words_inside (ops.Join r) Done h = (refl, (word_inside r h.op_range, tt))
words_inside (ops.Init c) Ready h = (refl, (word_inside c h.op_range, (refl, tt)))
words_inside (ops.Init c) Bad h = (refl, (word_inside c h.op_range, (refl, tt)))
words_inside (ops.Init c) Claimed h = (refl, (word_inside c h.op_range, (refl, tt)))
words_inside (ops.InitDone c true) Done h = (refl, (word_inside c h.op_range, (refl, tt)))
words_inside (ops.InitDone c false) Done h = (refl, (word_inside c h.op_range, (refl, tt)))
words_inside (ops.End None) Done h = (refl, tt)
words_inside (ops.End (Some c)) Done h = (refl, (word_inside c h.line, tt))
words_inside op reply h = absurd h.fits

item_inside : (version : ℕ) (item : JournalItem) → IsItem version item → is_inside (spelled item) ≡ true
item_inside version (event_item e) h =
    joined_inside (decimal e.thread ∷ decimal e.silent ∷ joined (event_words e.op e.reply) ∷ [])
    (byte_inside e.thread h.thread.1, (number_inside e.silent (let le = h.silent in omega (arith, le)), (joined_inside (event_words e.op e.reply) (words_inside e.op e.reply h.said), tt)))
item_inside version (Undone t l k) h = joined_inside (codes "undone" ∷ decimal t ∷ decimal l ∷ decimal k ∷ []) (refl, (byte_inside t h.1.1, (byte_inside l h.2.1, (word_inside k h.3, tt))))

items_inside : (version : ℕ) (items : List JournalItem) (last : List ℕ) → AllByRecursion (IsItem version) items → is_inside last ≡ true → AreInside (map spelled items ++ last ∷ [])
items_inside version [] last all h = (h, tt)
items_inside version (item ∷ items) last all h = (item_inside version item all.0, items_inside version items last all.1 h)

lines_back : (lines : List (List ℕ)) → AreInside lines → lines_of (concat (map ended lines)) ≡ record { ended = lines; rest = [] }
lines_back [] h = refl
lines_back (line ∷ lines) h =
    ap lines_of (append_assoc line (10 ∷ []) (concat (map ended lines))) ∙ line_ends line (concat (map ended lines)) h.0 ∙ ap (λ (x : Lines). record { ended = line ∷ x.ended; rest = x.rest }) (lines_back lines h.1)

goes_on_if : (few : Bool) (count : ℕ) (item : JournalItem) (items : List JournalItem) (AreOthers : Result (List JournalItem) JournalFault → Type 0) → few ≡ true → AreOthers (Ok items)
    → MatchBool few ((others : Result (List JournalItem) JournalFault) × AreOthers others × (Ok (item ∷ items) ≡ with_item item others)) (Ok (item ∷ items) ≡ Err (TooMany (count + 2)))
goes_on_if true count item items AreOthers t h = (Ok items, h, refl)
goes_on_if false count item items AreOthers t h = absurd cc

items_read : (version most count events events' : ℕ) (items : List JournalItem) → AllByRecursion (IsItem version) items → count + length items ≤ most → events' ≡ events + length (events_in items)
    → AreRead false version most count events (map spelled items ++ end_line events' ∷ []) [] (Ok items)
items_read version most count events events' [] all few is = inl (ap end_line (let same : events' ≡ events = omega (arith, is) in same), refl)
items_read version most count events events' (item ∷ items) all few is =
    inr (inl (
      item,
      (all.0, refl),
      goes_on_if (nat_lt count most) count item items _ (lt-ltb count most (omega (arith, few)))
          (items_read version most (count + 1) (events_with events item) events' items all.1 (omega (arith, few)) (is ∙ sym (count_more events item items))),
    ))

events_few : (items : List JournalItem) → length (events_in items) ≤ length items
events_few [] = omega arith
events_few (event_item e ∷ items) = let le = events_few items in omega (arith, le)
events_few (Undone t l k ∷ items) = let le = events_few items in omega (arith, le)

version_inside : (version : ℕ) → IsKnown version → is_inside (head_line version) ≡ true
version_inside version known = joined_inside (codes "jrev-trace" ∷ decimal version ∷ []) (refl, (number_inside version (let le = small_version version known in omega (arith, le)), tt))

whole_read : (most : ℕ) (read : Read) → IsKnown read.version → AllByRecursion (IsItem read.version) read.items → length read.items ≤ most
    → AreReadFrom false most (text_lines read.version read.items) [] (Ok read)
whole_read most read known all few =
    inl (read.version, Ok read.items, known, refl, items_read read.version most 0 0 (length (events_in read.items)) read.items all (omega (arith, few)) (omega arith), refl)

text_inside : (read : Read) → IsKnown read.version → AllByRecursion (IsItem read.version) read.items → length read.items < 2 ^ 32 → AreInside (text_lines read.version read.items)
text_inside read known all small =
    let few = events_few read.items in
    let last : is_inside (end_line (length (events_in read.items))) ≡ true = joined_inside (codes "end" ∷ decimal (length (events_in read.items)) ∷ []) (refl, (number_inside (length (events_in read.items)) (omega (arith, few, small)), tt)) in
    (version_inside read.version known, items_inside read.version read.items (end_line (length (events_in read.items))) all last)

pub journals_read_back : JournalsReadBack
journals_read_back limits read small known all few short =
    let text = text_of read.version read.items in
    let fits : nat_lt limits.bytes (length text) ≡ false = le-ltb limits.bytes (length text) short in
    let takes : take limits.bytes text ≡ text = take_all limits.bytes text short in
    let lines : lines_of (take limits.bytes text) ≡ record { ended = text_lines read.version read.items; rest = [] }
    = ap lines_of takes ∙ lines_back (text_lines read.version read.items) (text_inside read known all (omega (arith, few, small))) in
    record { read = subst (λ x. x) (λ i. AreReadFrom (sym fits i) limits.items (sym lines i).ended (sym lines i).rest (Ok read)) (whole_read limits.items read known all few) }

all_fit : (version : ℕ) (items : List JournalItem) → AllByRecursion (IsItem version) items → AllByRecursion (λ (e : Event). Fits e.op e.reply) (events_in items)
all_fit version [] all = tt
all_fit version (event_item e ∷ items) all = (all.0.said.fits, all_fit version items all.1)
all_fit version (Undone t l k ∷ items) all = all_fit version items all.1

-- in the events of a journal each reply fits its operation
pub events_fit : (version : ℕ) (items : List JournalItem) (events : List Event) → events ≡ events_in items → AllByRecursion (IsItem version) items → AllByRecursion (λ (e : Event). Fits e.op e.reply) events
events_fit version items events is all = subst (AllByRecursion (λ (e : Event). Fits e.op e.reply)) (sym is) (all_fit version items all)
