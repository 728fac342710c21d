-- Where a line of a journal leads.
use Rattle.std.proofs.Common.{◌≡◌, ℕ, ◌+◌, ◌<◌, ◌^◌, ◌&&◌, Bool, true, false, nat_lt, cond, codes, bytes_eq, Option, Some, None, List, [], ◌∷◌, ◌++◌, drop, Result, Ok, Err, refl, sym, ap, ◌∙◌, subst, arith, inl, inr, append-nil}
use Rattle.std.specs.Fmt.{decimal}
use Rattle.std.proofs.lemmas.Bool.{lt-ltb, ltb-true, false_from_ne_true, cond_both, cases_Bool, eqb-true, eq-eqb}
use Rattle.std.proofs.lemmas.Fmt.{decimal_digit}
use Rattle.std.proofs.lemmas.Slice.Eq.{bytes_eq-Decides}
use Rattle.decimal_numbers.specs.Numbers.{are_digits, has_no_leading_zero}
use Rattle.trace_journal.specs.declared.head.Head.{Head as Heads}
use Rattle.trace_journal.specs.declared.head.Head.TheVariants.{Known, Other, Wrong}
use Rattle.trace_journal.specs.declared.item.JournalFault.{JournalFault}
use Rattle.trace_journal.specs.declared.item.JournalFault.TheVariants.{Line, Version, TooMany}
use Rattle.trace_journal.specs.declared.item.JournalItem.{JournalItem}
use Rattle.trace_journal.specs.declared.state.Stage.{Stage}
use Rattle.trace_journal.specs.declared.state.Stage.TheVariants.{Head, Items, Closed, Failed}
use Rattle.trace_journal.specs.Parsing.{Cut, cut, u32_of, version_at, head_at, is_number, ends_at}
use Rattle.trace_journal.specs.Spelling.{Says, head_line, end_line}
use Rattle.trace_journal.specs.Text.{Lines}
use Rattle.trace_journal.specs.Reading.{Read, GoesOn, AreRead, IsHead, IsKnown, Closes, of_version, with_item, events_with}
use Rattle.trace_journal.specs.Reader.{with_items, FromStage, LineTakes}
use Rattle.trace_journal.proofs.CutLemmas.{uncut, uncut_cut}
use Rattle.trace_journal.proofs.NumberLemmas.{number_of, number_is}

pub none_added : (found : Result Read JournalFault) → with_items [] found ≡ found
none_added (Ok read) = refl
none_added (Err fault) = refl

one_added : (item : JournalItem) (version : ℕ) (others : Result (List JournalItem) JournalFault) → with_items (item ∷ []) (of_version version others) ≡ of_version version (with_item item others)
one_added item version (Ok items) = refl
one_added item version (Err fault) = refl

-- no item is added
no_more : {most : ℕ} {line : List ℕ} {old new : Stage} {count events : ℕ} (items : List JournalItem)
    → ((past : Bool) (lines : Lines) (found : Result Read JournalFault) → FromStage new past most count events lines found
    → FromStage old past most count events (record { ended = line ∷ lines.ended; rest = lines.rest }) found)
    → LineTakes most line old count events new count events items items
no_more {most} {line} {old} {new} {count} {events} items reads = record {
  added = [];
  items = sym (append-nil items);
  counts = omega arith;
  reads = λ past lines found h. subst (FromStage old past most count events (record { ended = line ∷ lines.ended; rest = lines.rest })) (sym (none_added found)) (reads past lines found h);
}

known : (most : ℕ) (line : List ℕ) (version : ℕ) (items : List JournalItem) → IsKnown version → line ≡ head_line version → LineTakes most line Head 0 0 (Items version) 0 0 items items
known most line version items is spelled = no_more items (λ past lines found h. inl (version, h.0, is, spelled, h.1, h.2))

other_version : (most : ℕ) (line : List ℕ) (items : List JournalItem)
    → (number : List ℕ) × IsHead line number × ((version : ℕ) → IsKnown version → line ≡ head_line version → ⊥) → LineTakes most line Head 0 0 (Failed Version) 0 0 items items
other_version most line items h = no_more items (λ past lines found e. inr (inl (h.0, h.1, h.2, e)))

no_head : (most : ℕ) (line : List ℕ) (items : List JournalItem) → ((number : List ℕ) → ¬ IsHead line number) → LineTakes most line Head 0 0 (Failed (Line 1)) 0 0 items items
no_head most line items wrong = no_more items (λ past lines found e. inr (inr (wrong, e)))

-- digits alone name the versions that are read
pub version_1 : decimal 1 ≡ 49 ∷ []
version_1 = decimal_digit 1 (omega arith)

pub version_2 : decimal 2 ≡ 50 ∷ []
version_2 = decimal_digit 2 (omega arith)

abbrev head_stage : Heads → Stage
head_stage (Known version) = Items version
head_stage Other = Failed Version
head_stage Wrong = Failed (Line 1)

line_with : List ℕ → List ℕ
line_with number = codes "jrev-trace" ++ 32 ∷ number

named_again : (a b : List ℕ) → codes "jrev-trace" ++ 32 ∷ a ≡ codes "jrev-trace" ++ 32 ∷ b → a ≡ b
named_again a b e = ap (drop 11) e

version_leads : (most : ℕ) (line number : List ℕ) (items : List JournalItem) → line ≡ codes "jrev-trace" ++ 32 ∷ number → LineTakes most line Head 0 0 (head_stage (version_at number)) 0 0 items items
version_leads most line number items is =
    by_choice number (codes "1") (λ h. LineTakes most line Head 0 0 (head_stage h) 0 0 items items) _ _
    (λ one. known most line 1 items (inl refl) (is ∙ ap (λ w. codes "jrev-trace" ++ 32 ∷ w) (one ∙ sym version_1)))
    (λ not_one. by_choice number (codes "2") (λ h. LineTakes most line Head 0 0 (head_stage h) 0 0 items items) _ _
    (λ two. known most line 2 items (inr refl) (is ∙ ap (λ w. codes "jrev-trace" ++ 32 ∷ w) (two ∙ sym version_2)))
    (λ not_two. by_digits (has_no_leading_zero number) (are_digits number) refl refl not_one not_two))
  where
    by_choice : (name word : List ℕ) (P : Heads → Type 0) (x y : Heads) → (name ≡ word → P x) → ((name ≡ word → ⊥) → P y) → P (cond (bytes_eq name word) x y)
    by_choice name word P x y is other = cond_both (bytes_eq name word) x y P (λ t. is ((bytes_eq-Decides name word).0 t)) (λ f. other (λ e. absurd (let t : bytes_eq name word ≡ true = (bytes_eq-Decides name word).1 e in let no : true ≡ false = sym t ∙ f in cc)))

    by_digits : (lead digits : Bool) → lead ≡ has_no_leading_zero number → digits ≡ are_digits number → (number ≡ codes "1" → ⊥) → (number ≡ codes "2" → ⊥)
        → LineTakes most line Head 0 0 (head_stage (cond (lead && digits) Other Wrong)) 0 0 items items
    by_digits true true led all not_one not_two = other_version most line items (
      number,
      record { spelled = is; digits = sym all; lead = sym led },
      λ version known spelled. elim known [
        | inl one ↦ not_one (named_again _ _ (sym is ∙ spelled ∙ ap (λ v. codes "jrev-trace" ++ 32 ∷ decimal v) one) ∙ version_1)
        | inr two ↦ not_two (named_again _ _ (sym is ∙ spelled ∙ ap (λ v. codes "jrev-trace" ++ 32 ∷ decimal v) two) ∙ version_2)
      ],
    )
    by_digits true false led all not_one not_two = no_head most line items (λ other h. absurd (let same : number ≡ other = named_again _ _ (sym is ∙ h.spelled) in let no : true ≡ false = sym h.digits ∙ ap are_digits (sym same) ∙ sym all in cc))
    by_digits false digits led all not_one not_two = no_head most line items (λ other h. absurd (let same : number ≡ other = named_again _ _ (sym is ∙ h.spelled) in let no : true ≡ false = sym h.lead ∙ ap has_no_leading_zero (sym same) ∙ sym led in cc))

cut_leads : (most : ℕ) (line word : List ℕ) (rest : Option (List ℕ)) (items : List JournalItem) → line ≡ uncut word rest → cut line ≡ record { word = word; rest = rest }
    → LineTakes most line Head 0 0 (head_stage (head_at (record { word = word; rest = rest }))) 0 0 items items
cut_leads most line word None items is cuts = no_head most line items (λ number h. absurd (let other : cut line ≡ record { word = codes "jrev-trace"; rest = Some number } = ap cut h.spelled in let no : None ≡ Some number = ap (λ (c : Cut). c.rest) (sym cuts ∙ other) in cc))
cut_leads most line word (Some number) items is cuts = cond_both (bytes_eq word (codes "jrev-trace")) (version_at number) Wrong (λ h. LineTakes most line Head 0 0 (head_stage h) 0 0 items items)
    (λ t. version_leads most line number items (is ∙ ap (λ w. w ++ 32 ∷ number) ((bytes_eq-Decides word (codes "jrev-trace")).0 t)))
    (λ f. no_head most line items (λ other h. absurd (
    let again : cut line ≡ record { word = codes "jrev-trace"; rest = Some other } = ap cut h.spelled in
    let same : word ≡ codes "jrev-trace" = ap (λ (c : Cut). c.word) (sym cuts ∙ again) in
    let no : true ≡ false = sym ((bytes_eq-Decides word (codes "jrev-trace")).1 same) ∙ f in cc)))

head_leads : (most : ℕ) (line : List ℕ) (items : List JournalItem) → LineTakes most line Head 0 0 (head_stage (head_at (cut line))) 0 0 items items
head_leads most line items = cut_leads most line (cut line).word (cut line).rest items (sym (uncut_cut line)) refl

pub head_known : (most : ℕ) (line : List ℕ) (version : ℕ) (items : List JournalItem) → head_at (cut line) ≡ Known version → LineTakes most line Head 0 0 (Items version) 0 0 items items
head_known most line version items is = subst (λ h. LineTakes most line Head 0 0 (head_stage h) 0 0 items items) is (head_leads most line items)

pub head_other : (most : ℕ) (line : List ℕ) (items : List JournalItem) → head_at (cut line) ≡ Other → LineTakes most line Head 0 0 (Failed Version) 0 0 items items
head_other most line items is = subst (λ h. LineTakes most line Head 0 0 (head_stage h) 0 0 items items) is (head_leads most line items)

pub head_wrong : (most : ℕ) (line : List ℕ) (items : List JournalItem) → head_at (cut line) ≡ Wrong → LineTakes most line Head 0 0 (Failed (Line 1)) 0 0 items items
head_wrong most line items is = subst (λ h. LineTakes most line Head 0 0 (head_stage h) 0 0 items items) is (head_leads most line items)

is_the_number : (events : ℕ) (number : List ℕ) → is_number events (u32_of number) ≡ true → number ≡ decimal events
is_the_number events number t = by_number (u32_of number) refl t
  where
    by_number : (o : Option ℕ) → u32_of number ≡ o → is_number events o ≡ true → number ≡ decimal events
    by_number None e t = absurd cc
    by_number (Some n) e t = (number_is 4294967295 number n (omega arith) e).1 ∙ ap decimal (eqb-true n events t)

ends_is : (events : ℕ) (word : List ℕ) (rest : Option (List ℕ)) → ends_at events (record { word = word; rest = rest }) ≡ true → uncut word rest ≡ end_line events
ends_is events word None t = absurd cc
ends_is events word (Some number) t = elim (cases_Bool (bytes_eq word (codes "end"))) [
  | inl named ↦
      let is : word ≡ codes "end" = (bytes_eq-Decides word (codes "end")).0 named in
      let n : number ≡ decimal events = is_the_number events number (ap (λ b. cond b (is_number events (u32_of number)) false) (sym named) ∙ t) in
      λ i. is i ++ 32 ∷ n i
  | inr other ↦ absurd (let no : false ≡ true = ap (λ b. cond b (is_number events (u32_of number)) false) (sym other) ∙ t in cc)
]

-- a line that is found to be the last is the last
ends : (events : ℕ) (line : List ℕ) → ends_at events (cut line) ≡ true → line ≡ end_line events
ends events line t = sym (uncut_cut line) ∙ ends_is events (cut line).word (cut line).rest t

-- .. and the last one is found to be the last
ended : (events : ℕ) → events < 2 ^ 32 → ends_at events (cut (end_line events)) ≡ true
ended events h = ap (is_number events) (number_of 4294967295 events (omega arith) (omega (arith, h))) ∙ eq-eqb events events refl

pub at_end : (most : ℕ) (line : List ℕ) (version count events : ℕ) (items : List JournalItem) → ends_at events (cut line) ≡ true
    → LineTakes most line (Items version) count events (Closed version) count events items items
at_end most line version count events items is = no_more items (λ past lines found h. (h.0, inl (ends events line is, h.1), h.2))

pub wrong_line : (most : ℕ) (line : List ℕ) (version count events : ℕ) (items : List JournalItem) → events < 2 ^ 32 → ends_at events (cut line) ≡ false → ((item : JournalItem) → ¬ Says version line item)
    → LineTakes most line (Items version) count events (Failed (Line (count + 2))) count events items items
wrong_line most line version count events items small other nothing =
    let differs : line ≡ end_line events → ⊥ = λ is. absurd (let t : ends_at events (cut line) ≡ true = ap (λ w. ends_at events (cut w)) is ∙ ended events small in let no : true ≡ false = sym t ∙ other in cc) in
    no_more items (λ past lines found e. (Err (Line (count + 2)), inr (inr (differs, nothing, refl)), e))

pub too_many : (most : ℕ) (line : List ℕ) (version count events : ℕ) (items : List JournalItem) (item : JournalItem) → Says version line item → (count < most → ⊥)
    → LineTakes most line (Items version) count events (Failed (TooMany (count + 2))) count events items items
too_many most line version count events items item says full =
    let few : nat_lt count most ≡ false = false_from_ne_true (nat_lt count most) (λ t. full (ltb-true count most t)) in
    no_more items (λ past lines found e.
    (Err (TooMany (count + 2)), inr (inl (item, says, goes_on_full most count item _ few)), e))
  where
    goes_on_full : (most count : ℕ) (item : JournalItem) (AreOthers : Result (List JournalItem) JournalFault → Type 0) → nat_lt count most ≡ false → GoesOn most count item (Err (TooMany (count + 2))) AreOthers
    goes_on_full most count item AreOthers few = rw few refl

pub one_more : (most : ℕ) (line : List ℕ) (version count events count' events' : ℕ) (item : JournalItem) (before after : List JournalItem) → Says version line item → count < most
    → count' ≡ count + 1 → events' ≡ events_with events item → after ≡ before ++ item ∷ []
    → LineTakes most line (Items version) count events (Items version) count' events' before after
one_more most line version count events count' events' item before after says few one more is = record {
  added = item ∷ [];
  items = is;
  counts = one;
  reads = λ past lines found h.
      let fits : nat_lt count most ≡ true = lt-ltb count most few in
      let read : AreRead past version most (count + 1) (events_with events item) lines.ended lines.rest h.0 = subst (λ c. AreRead past version most c (events_with events item) lines.ended lines.rest h.0) one (subst (λ e. AreRead past version most count' e lines.ended lines.rest h.0) more h.1) in
      (with_item item h.0, inr (inl (item, says, goes_on most count item h.0 _ fits read)), ap (with_items (item ∷ [])) h.2 ∙ one_added item version h.0);
}
  where
    goes_on : (most count : ℕ) (item : JournalItem) (others : Result (List JournalItem) JournalFault) (AreOthers : Result (List JournalItem) JournalFault → Type 0) → nat_lt count most ≡ true → AreOthers others → GoesOn most count item (with_item item others) AreOthers
    goes_on most count item others AreOthers fits h = rw fits (others, h, refl)

-- after the end there is no line
pub after_end : (most : ℕ) (line : List ℕ) (version count events : ℕ) (items : List JournalItem) → LineTakes most line (Closed version) count events (Failed (Line (count + 3))) count events items items
after_end most line version count events items = no_more items (λ past lines found e. (Err (Line (count + 3)), closes past lines, e))
  where
    closes : (past : Bool) (lines : Lines) → Closes past (count + 3) (line ∷ lines.ended) lines.rest (Err (Line (count + 3)))
    closes true lines = refl
    closes false lines = refl

pub failed : (most : ℕ) (line : List ℕ) (fault : JournalFault) (count events : ℕ) (items : List JournalItem) → LineTakes most line (Failed fault) count events (Failed fault) count events items items
failed most line fault count events items = no_more items (λ past lines found e. e)
