-- What is read of the operands of a switch is what they say.
use Rattle.std.proofs.Common.{◌≡◌, ℕ, ℤ, ◌<◌, true, cond, List, [], ◌∷◌, ◌++◌, length, Option, Some, None, option_map, refl, sym, ap, ◌∙◌, subst, inl, inr, arith}
use Rattle.std.specs.Prelude.{FitsSigned}
use Rattle.std.specs.Int.{w32}
use Rattle.std.proofs.lemmas.List.{append-nil}
use Rattle.std.proofs.lemmas.Option.{same_Some}
use Rattle.std.proofs.lemmas.Int.{ints}
use Rattle.assembler_lines.specs.declared.word.LineRefusal.{LineRefusal}
use Rattle.assembler_lines.specs.declared.word.LineRefusal.TheVariants.{Malformed, NoMemory}
use Rattle.assembler_lines.specs.declared.word.Word.{Word}
use Rattle.assembler_lines.specs.declared.word.Word.TheVariants.{Plain, Quoted}
use Rattle.assembler_lines.specs.declared.operation.LabelledCase.{LabelledCase}
use Rattle.assembler_lines.specs.declared.operation.Operands.{Operands}
use Rattle.assembler_lines.specs.declared.operation.Operands.TheVariants.{TableSwitch, LookupSwitch}
use Rattle.assembler_lines.specs.Words.{plain_words}
use Rattle.assembler_lines.specs.Switches.{IsKey, highest_key, SaysTableSwitch, AreCases, SaysLookupSwitch}
use Rattle.assembler_lines.specs.Front.{◌>>=◌, Fails, plain_at, each}
use Rattle.assembler_lines.specs.ReadingSwitches.{int, plain_name, is_int, table_switch_at, case_at, case_of, cases_at, lookup_switch_at}
use Rattle.class_names.proofs.Cases.{chosen, mapped}
use Rattle.assembler_lines.proofs.FrontLaws.{bound, plain_takes}
use Rattle.assembler_lines.proofs.EachLaws.{with_front, regroup}

-- ---- labels

name_takes : (said : Word) (name : List ℕ) → plain_name said ≡ Some name → said ≡ Plain name
name_takes (Plain written) name e = ap (λ (n : List ℕ). Plain n) (same_Some written name e)
name_takes (Quoted units) name e = absurd cc

labels_take : (words : List Word) (labels : List (List ℕ)) → each plain_name words ≡ Some labels → words ≡ plain_words labels
labels_take [] labels e = ap plain_words (same_Some [] labels e)
labels_take (w ∷ words) labels e =
    let n = bound (plain_name w) _ labels e in
    let o = bound (each plain_name words) (λ (others : List (List ℕ)). Some (n.0 ∷ others)) labels n.2 in
    ap (λ (s : Word). s ∷ words) (name_takes w n.0 n.1) ∙ (ap (λ (ws : List Word). Plain n.0 ∷ ws) (labels_take words o.0 o.1) ∙ ap plain_words (same_Some (n.0 ∷ o.0) labels o.2))

labels_again : (labels : List (List ℕ)) → each plain_name (plain_words labels) ≡ Some labels
labels_again [] = refl
labels_again (l ∷ labels) = rw (labels_again labels) refl

-- ---- tableswitch

int_fits : (n : ℤ) → is_int n ≡ true → FitsSigned w32 n
int_fits n e = grind (arith, ints)

fits_int : (n : ℤ) → FitsSigned w32 n → is_int n ≡ true
fits_int n fits = grind (arith, ints)

pub table_switch_takes : (words : List Word) (made : Operands) → table_switch_at words ≡ Some made → SaysTableSwitch words made
unfolding table_switch_at
table_switch_takes words made e =
    let a = bound (plain_at words) _ made e in
    let d = bound (plain_at a.0.1) _ made a.2 in
    let k = bound (int a.0.0) _ made d.2 in
    let l = bound (each plain_name d.0.1) (λ (labels : List (List ℕ)). cond (is_int (highest_key k.0 (length labels))) (Some (TableSwitch k.0 d.0.0 labels)) None) made k.2 in
    let spelled = plain_takes words a.0 a.1 ∙ (ap (λ (ws : List Word). Plain a.0.0 ∷ ws) (plain_takes a.0.1 d.0 d.1) ∙ ap (λ (ws : List Word). Plain a.0.0 ∷ Plain d.0.0 ∷ ws) (labels_take d.0.1 l.0 l.1)) in
    elim (chosen (is_int (highest_key k.0 (length l.0))) (Some (TableSwitch k.0 d.0.0 l.0)) None (Some made) l.2) [
      | inl t ↦ record {
        low_written = a.0.0;
        low = k.0;
        default = d.0.0;
        labels = l.0;
        spelled = spelled;
        low_is = k.1;
        high_is = int_fits (highest_key k.0 (length l.0)) t.0;
        made_is = sym (same_Some (TableSwitch k.0 d.0.0 l.0) made t.1);
      }
      | inr t ↦ absurd (let none = t.1 in cc)
    ]

pub table_switch_again : (words : List Word) (made : Operands) → SaysTableSwitch words made → table_switch_at words ≡ Some made
unfolding table_switch_at
table_switch_again words made h =
    let l = labels_again h.labels in
    let fits = fits_int (highest_key h.low (length h.labels)) h.high_is in
    ap table_switch_at h.spelled ∙ rw (h.low_is, l, fits, h.made_is) refl

-- ---- lookupswitch

case_of_takes : (first second : Word) (words : List Word) (case : LabelledCase) → case_of first second ≡ Some case → (written : List ℕ) × (first ∷ second ∷ words ≡ Plain written ∷ Plain case.label ∷ words) × IsKey written case.key
case_of_takes (Plain written) (Plain label) words case e =
    let m = mapped (λ (key : ℤ). let c : LabelledCase = record { key = key; label = label } in c) (int written) case e in
    (written, ap (λ (c : LabelledCase). Plain written ∷ Plain c.label ∷ words) m.2, m.1 ∙ ap (λ (c : LabelledCase). Some c.key) m.2)
case_of_takes (Plain written) (Quoted units) words case e = absurd cc
case_of_takes (Quoted units) second words case e = absurd cc

cases_take : (words : List Word) (cases : List LabelledCase) → cases_at words ≡ Some cases → AreCases words cases
cases_take [] cases e = subst (AreCases []) (same_Some [] cases e) refl
cases_take (w ∷ []) cases e = absurd cc
cases_take (first ∷ second ∷ words) cases e =
    let c = bound (case_of first second) _ cases e in
    let o = bound (cases_at words) (λ (others : List LabelledCase). Some (c.0 ∷ others)) cases c.2 in
    let t = case_of_takes first second words c.0 c.1 in
    subst (AreCases (first ∷ second ∷ words)) (same_Some (c.0 ∷ o.0) cases o.2) (t.0, words, t.1, t.2, cases_take words o.0 o.1)

cases_again : (words : List Word) (cases : List LabelledCase) → AreCases words cases → cases_at words ≡ Some cases
cases_again words [] h = ap cases_at h
cases_again words (case ∷ cases) h =
    let others = cases_again h.1 cases h.4 in
    let key = h.3 in
    ap cases_at h.2 ∙ rw (key, others) refl

pub lookup_switch_takes : (words : List Word) (made : Operands) → lookup_switch_at words ≡ Some made → SaysLookupSwitch words made
unfolding lookup_switch_at
lookup_switch_takes words made e =
    let d = bound (plain_at words) _ made e in
    let c = bound (cases_at d.0.1) (λ (cases : List LabelledCase). Some (LookupSwitch d.0.0 cases)) made d.2 in
    record { default = d.0.0; others = d.0.1; cases = c.0; spelled = plain_takes words d.0 d.1; cases_are = cases_take d.0.1 c.0 c.1; made_is = sym (same_Some (LookupSwitch d.0.0 c.0) made c.2) }

pub lookup_switch_again : (words : List Word) (made : Operands) → SaysLookupSwitch words made → lookup_switch_at words ≡ Some made
unfolding lookup_switch_at
lookup_switch_again words made h =
    let c = cases_again h.others h.cases h.cases_are in
    ap lookup_switch_at h.spelled ∙ rw (c, h.made_is) refl

-- ---- the loop over the keys

abbrev with_words : List Word → LabelledCase → Option (LabelledCase × List Word)
with_words words case = Some (case, words)

abbrev with_others : List Word → LabelledCase → Option (List LabelledCase)
with_others words case = cases_at words >>= λ (cases : List LabelledCase). Some (case ∷ cases)

-- what is read at the front is the case of the first two words
by_case : (first second : Word) (words : List Word) → case_at (first ∷ second ∷ words) ≡ (case_of first second >>= with_words words)
unfolding case_at
by_case (Plain written) (Plain label) words = by_key (int written)
  where
    labelled : ℤ → LabelledCase
    labelled key = record { key = key; label = label }

    by_key : (o : Option ℤ) → (o >>= λ (key : ℤ). with_words words (labelled key)) ≡ (option_map labelled o >>= with_words words)
    by_key None = refl
    by_key (Some key) = refl
by_case (Plain written) (Quoted units) words = refl
by_case (Quoted units) second words = refl

record CaseBefore (words : List Word) (case : LabelledCase) (after : List Word) : Type 0 where
  first : Word
  second : Word
  spelled : words ≡ first ∷ second ∷ after
  reads : case_of first second ≡ Some case

case_before : (words : List Word) (case : LabelledCase) (after : List Word) → case_at words ≡ Some (case, after) → CaseBefore words case after
unfolding case_at
case_before [] case after e = absurd cc
case_before (Plain written ∷ []) case after e = absurd cc
case_before (Quoted units ∷ []) case after e = absurd cc
case_before (first ∷ second ∷ words) case after e =
    let c = bound (case_of first second) (with_words words) (case, after) (sym (by_case first second words) ∙ e) in
    let same = same_Some (c.0, words) (case, after) c.2 in
    record {
      first = first;
      second = second;
      spelled = ap (λ (y : LabelledCase × List Word). first ∷ second ∷ y.1) same;
      reads = c.1 ∙ ap (λ (y : LabelledCase × List Word). Some y.0) same;
    }

pub case_shorter : (words : List Word) (case : LabelledCase) (after : List Word) → case_at words ≡ Some (case, after) → length after < length words
case_shorter words case after e =
    let b = case_before words case after e in
    rw b.spelled (omega arith)

pub cases_on : (front : List LabelledCase) (words : List Word) (case : LabelledCase) (after : List Word) (total : Option (List LabelledCase))
    → case_at words ≡ Some (case, after) → with_front front (cases_at words) ≡ total → with_front (front ++ case ∷ []) (cases_at after) ≡ total
cases_on front words case after total e so_far =
    let b = case_before words case after e in
    let reads = b.reads in
    let one : with_front front (cases_at words) ≡ with_front (front ++ case ∷ []) (cases_at after) = rw (b.spelled, reads) (regroup front case (cases_at after)) in
    sym one ∙ so_far

no_case : (words : List Word) → (words ≡ [] → ⊥) → case_at words ≡ None → cases_at words ≡ None
unfolding case_at
no_case [] some e = absurd (some refl)
no_case (w ∷ []) some e = refl
no_case (first ∷ second ∷ words) some e = by_first (case_of first second) (sym (by_case first second words) ∙ e)
  where
    by_first : (o : Option LabelledCase) → (o >>= with_words words) ≡ None → (o >>= with_others words) ≡ None
    by_first None e = refl
    by_first (Some case) e = absurd cc

pub cases_fail : (front : List LabelledCase) (words : List Word) (refusal : LineRefusal) (total : Option (List LabelledCase))
    → (words ≡ [] → ⊥) → Fails refusal (case_at words) → with_front front (cases_at words) ≡ total → Fails refusal total
cases_fail front words NoMemory total some f so_far = tt
cases_fail front words Malformed total some f so_far =
    let none = no_case words some f in
    let one : with_front front (cases_at words) ≡ None = rw none refl in
    sym so_far ∙ one

pub cases_done : (front : List LabelledCase) (words : List Word) (total : Option (List LabelledCase)) → words ≡ [] → with_front front (cases_at words) ≡ total → total ≡ Some front
cases_done front words total none so_far =
    let one : with_front front (cases_at words) ≡ Some front = rw none (ap (λ (cases : List LabelledCase). Some cases) (append-nil front)) in
    sym so_far ∙ one
