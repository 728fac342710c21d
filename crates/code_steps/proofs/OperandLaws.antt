-- What is read of operands is what is there, and what is there is read.
use Rattle.std.proofs.Common.{◌≡◌, ℕ, ◌<◌, Bool, true, false, List, [], ◌∷◌, ◌++◌, length, Option, Some, None, Result, Ok, Err, refl, sym, ap, subst, ◌∙◌, append_assoc, arith, inl, inr}
use Rattle.std.specs.Prelude.{ℤ, pos, ◌+ℤ◌, ◌≤ℤ◌, ◌<ℤ◌, int_lt, ◌&&◌}
use Rattle.std.specs.Int.{w8, w16, w32, cast_signed}
use Rattle.std.proofs.lemmas.Int.{ints}
use Rattle.byteorder.specs.Endian.{big_bytes}
use Rattle.class_walk.specs.Layout.{u1, u2, u4}
use Rattle.class_walk.specs.declared.class.Constant.{Constant}
use Rattle.class_walk.specs.Layout.{IsBytes}
use Rattle.class_walk.proofs.Fields.{bind_ok, guard_ok, ok_is, IsWide, wide1, wide2, wide4}
use Rattle.instructions.specs.declared.form.Form.{Form}
use Rattle.instructions.specs.declared.form.Form.TheVariants as forms
use Rattle.instructions.specs.declared.what.Case.{Case}
use Rattle.instructions.specs.declared.what.What.{What}
use Rattle.instructions.specs.declared.what.What.TheVariants.{Plain, Int, Long, Local, Increment, Branch, TableSwitch, LookupSwitch, InterfaceCall}
use Rattle.instructions.specs.Table.{Instruction, row_numbered}
use Rattle.code_steps.specs.declared.fault.StepFault.{StepFault}
use Rattle.code_steps.specs.declared.fault.StepFault.TheVariants.{Switch}
use Rattle.code_steps.specs.Operands.{HasNone, HasOne, HasTwo, Any, near_target, far_target, IsTarget, IsKey, IsCase, AreItems, padding_of, IsTableSwitch, Rise, IsLookupSwitch, AreWideOf, AreWide, IsElementCode, IsOperands, IsInterfaceCall}
use Rattle.code_steps.specs.Operands as operands
use Rattle.class_walk.specs.Reading.{items_at}
use Rattle.code_steps.specs.Reading.{bytes_at, number_at, one_at, two_at, target_at, key_at, case_at, keys_between, table_switch_at, rise, lookup_switch_at, widened_form_at, widened_at, wide_at, interface_call_at, ChecksInterfaceCall, new_array_of, ReadsOperands}
use Rattle.code_steps.proofs.Fields.{bytes_after, passes_ok, bytes_take, bytes_again, number_takes, number_again, Law, items_take, items_again}
use Rattle.code_steps.proofs.PoolLaws.{Rule, constant_rule, long_constant_rule, field_rule, call_rule, class_rule, element_takes, element_again}

-- ---- texts one after another

joined_three : (bytes a p b q c rest : List ℕ) → bytes ≡ a ++ p → p ≡ b ++ q → q ≡ c ++ rest → bytes ≡ (a ++ (b ++ c)) ++ rest
joined_three bytes a p b q c rest ea eb ec = ea ∙ ap (λ (s : List ℕ). a ++ s) (eb ∙ ap (λ (s : List ℕ). b ++ s) ec) ∙ simp append_assoc

joined_four : (bytes a p b q c r d rest : List ℕ) → bytes ≡ a ++ p → p ≡ b ++ q → q ≡ c ++ r → r ≡ d ++ rest → bytes ≡ (a ++ (b ++ (c ++ d))) ++ rest
joined_four bytes a p b q c r d rest ea eb ec ed = ea ∙ ap (λ (s : List ℕ). a ++ s) (joined_three p b q c r d rest eb ec ed) ∙ simp append_assoc

joined_five : (bytes a p b q c r d s e rest : List ℕ) → bytes ≡ a ++ p → p ≡ b ++ q → q ≡ c ++ r → r ≡ d ++ s → s ≡ e ++ rest → bytes ≡ (a ++ (b ++ (c ++ (d ++ e)))) ++ rest
joined_five bytes a p b q c r d s e rest ea eb ec ed ee = ea ∙ ap (λ (t : List ℕ). a ++ t) (joined_four p b q c r d s e rest eb ec ed ee) ∙ simp append_assoc

parted_three : (a b c rest : List ℕ) → (a ++ (b ++ c)) ++ rest ≡ a ++ (b ++ (c ++ rest))
parted_three a b c rest = simp append_assoc

parted_four : (a b c d rest : List ℕ) → (a ++ (b ++ (c ++ d))) ++ rest ≡ a ++ (b ++ (c ++ (d ++ rest)))
parted_four a b c d rest = simp append_assoc

parted_five : (a b c d e rest : List ℕ) → (a ++ (b ++ (c ++ (d ++ e)))) ++ rest ≡ a ++ (b ++ (c ++ (d ++ (e ++ rest))))
parted_five a b c d e rest = simp append_assoc

abbrev nothing_at : What ℤ → List ℕ → Result (What ℤ × List ℕ) StepFault
nothing_at made bytes = Ok (made, bytes)

none_law : (made : What ℤ) → Law (nothing_at made) (HasNone made)
none_law made = record { takes = takes; again = again }
  where
    takes : (bytes : List ℕ) (what : What ℤ) (rest : List ℕ) → IsBytes bytes → nothing_at made bytes ≡ Ok (what, rest) → (text : List ℕ) × HasNone made what text × (bytes ≡ text ++ rest)
    takes bytes what rest fits e =
        let same = ok_is {A = What ℤ × List ℕ} (made, bytes) (what, rest) e in
        ([], (refl, sym (ap (λ (y : What ℤ × List ℕ). y.0) same)), ap (λ (y : What ℤ × List ℕ). y.1) same)

    again : (bytes : List ℕ) (what : What ℤ) (rest text : List ℕ) → HasNone made what text → bytes ≡ text ++ rest → nothing_at made bytes ≡ Ok (what, rest)
    again bytes what rest text is parts =
        let same : bytes ≡ rest = parts ∙ ap (λ (s : List ℕ). s ++ rest) is.0 in
        rw (same, is.1) refl

one_law : (at n : ℕ) (made : ℕ → Result (What ℤ) StepFault) (want : ℕ → What ℤ) (IsRight : ℕ → Type 0) → IsWide n → Rule made want IsRight → Law (one_at at n made) (HasOne n want IsRight)
one_law at n made want IsRight wide rule = record { takes = takes; again = again }
  where
    takes : (bytes : List ℕ) (what : What ℤ) (rest : List ℕ) → IsBytes bytes → one_at at n made bytes ≡ Ok (what, rest) → (text : List ℕ) × HasOne n want IsRight what text × (bytes ≡ text ++ rest)
    takes bytes what rest fits e =
        let a = bind_ok (number_at at n bytes) _ _ e in
        let b = bind_ok (made a.0.0) _ _ a.2 in
        let t = number_takes n wide at bytes a.0.0 a.0.1 fits a.1 in
        let r = rule.takes a.0.0 b.0 b.1 in
        subst (λ (y : What ℤ × List ℕ). (text : List ℕ) × HasOne n want IsRight y.0 text × (bytes ≡ text ++ y.1)) (ok_is (b.0, a.0.1) (what, rest) b.2)
        (big_bytes n a.0.0, (a.0.0, t.small, refl, r.0, r.1), t.parts)

    again : (bytes : List ℕ) (what : What ℤ) (rest text : List ℕ) → HasOne n want IsRight what text → bytes ≡ text ++ rest → one_at at n made bytes ≡ Ok (what, rest)
    again bytes what rest text is parts =
        let number = number_again n at bytes is.0 rest is.1 (parts ∙ ap (λ (s : List ℕ). s ++ rest) is.2) in
        rw (number, rule.again is.0 is.4, is.3) refl

any_rule : (want : ℕ → What ℤ) → Rule (λ x. Ok (want x)) want Any
any_rule want = record { takes = λ x what e. (sym (ok_is (want x) what e), tt); again = λ x any. refl }

two_law : (at n : ℕ) (made : ℕ → ℕ → What ℤ) → IsWide n → Law (two_at at n made) (HasTwo n made)
two_law at n made wide = record { takes = takes; again = again }
  where
    takes : (bytes : List ℕ) (what : What ℤ) (rest : List ℕ) → IsBytes bytes → two_at at n made bytes ≡ Ok (what, rest) → (text : List ℕ) × HasTwo n made what text × (bytes ≡ text ++ rest)
    takes bytes what rest fits e =
        let a = bind_ok (number_at at n bytes) _ _ e in
        let b = bind_ok (number_at at n a.0.1) _ _ a.2 in
        let t = number_takes n wide at bytes a.0.0 a.0.1 fits a.1 in
        let u = number_takes n wide at a.0.1 b.0.0 b.0.1 t.fits b.1 in
        subst (λ (y : What ℤ × List ℕ). (text : List ℕ) × HasTwo n made y.0 text × (bytes ≡ text ++ y.1)) (ok_is (made a.0.0 b.0.0, b.0.1) (what, rest) b.2)
        (big_bytes n a.0.0 ++ big_bytes n b.0.0, (a.0.0, b.0.0, t.small, u.small, refl, refl), t.parts ∙ ap (λ (s : List ℕ). big_bytes n a.0.0 ++ s) u.parts ∙ sym (append_assoc (big_bytes n a.0.0) (big_bytes n b.0.0) b.0.1))

    again : (bytes : List ℕ) (what : What ℤ) (rest text : List ℕ) → HasTwo n made what text → bytes ≡ text ++ rest → two_at at n made bytes ≡ Ok (what, rest)
    again bytes what rest text is parts =
        let whole : bytes ≡ big_bytes n is.0 ++ (big_bytes n is.1 ++ rest) = parts ∙ ap (λ (s : List ℕ). s ++ rest) is.4 ∙ append_assoc (big_bytes n is.0) (big_bytes n is.1) rest in
        let first = number_again n at bytes is.0 (big_bytes n is.1 ++ rest) is.2 whole in
        let second = number_again n at (big_bytes n is.1 ++ rest) is.1 rest is.3 refl in
        rw (first, second, is.5) refl

-- ---- switches

target_law : (at : ℕ) → Law (target_at at) (IsTarget at)
unfolding target_at
target_law at = record { takes = takes; again = again }
  where
    takes : (bytes : List ℕ) (target : ℤ) (rest : List ℕ) → IsBytes bytes → target_at at bytes ≡ Ok (target, rest) → (text : List ℕ) × IsTarget at target text × (bytes ≡ text ++ rest)
    takes bytes target rest fits e =
        let a = bind_ok (number_at at 4 bytes) _ _ e in
        let t = number_takes 4 wide4 at bytes a.0.0 a.0.1 fits a.1 in
        subst (λ (y : ℤ × List ℕ). (text : List ℕ) × IsTarget at y.0 text × (bytes ≡ text ++ y.1)) (ok_is (far_target at a.0.0, a.0.1) (target, rest) a.2)
        (u4 a.0.0, (a.0.0, t.small, refl, refl), t.parts)

    again : (bytes : List ℕ) (target : ℤ) (rest text : List ℕ) → IsTarget at target text → bytes ≡ text ++ rest → target_at at bytes ≡ Ok (target, rest)
    again bytes target rest text is parts =
        let number = number_again 4 at bytes is.0 rest is.1 (parts ∙ ap (λ (s : List ℕ). s ++ rest) is.2) in
        rw (number, is.3) refl

key_law : (at : ℕ) → Law (key_at at) IsKey
unfolding key_at
key_law at = record { takes = takes; again = again }
  where
    takes : (bytes : List ℕ) (key : ℤ) (rest : List ℕ) → IsBytes bytes → key_at at bytes ≡ Ok (key, rest) → (text : List ℕ) × IsKey key text × (bytes ≡ text ++ rest)
    takes bytes key rest fits e =
        let a = bind_ok (number_at at 4 bytes) _ _ e in
        let t = number_takes 4 wide4 at bytes a.0.0 a.0.1 fits a.1 in
        subst (λ (y : ℤ × List ℕ). (text : List ℕ) × IsKey y.0 text × (bytes ≡ text ++ y.1)) (ok_is (cast_signed w32 a.0.0, a.0.1) (key, rest) a.2)
        (u4 a.0.0, (a.0.0, t.small, refl, refl), t.parts)

    again : (bytes : List ℕ) (key : ℤ) (rest text : List ℕ) → IsKey key text → bytes ≡ text ++ rest → key_at at bytes ≡ Ok (key, rest)
    again bytes key rest text is parts =
        let number = number_again 4 at bytes is.0 rest is.1 (parts ∙ ap (λ (s : List ℕ). s ++ rest) is.2) in
        rw (number, is.3) refl

case_law : (at : ℕ) → Law (case_at at) (IsCase at)
unfolding case_at
case_law at = record { takes = takes; again = again }
  where
    takes : (bytes : List ℕ) (x : Case ℤ) (rest : List ℕ) → IsBytes bytes → case_at at bytes ≡ Ok (x, rest) → (text : List ℕ) × IsCase at x text × (bytes ≡ text ++ rest)
    takes bytes x rest fits e =
        let a = bind_ok (key_at at bytes) _ _ e in
        let b = bind_ok (target_at at a.0.1) _ _ a.2 in
        let t = (key_law at).takes bytes a.0.0 a.0.1 fits a.1 in
        let u = (target_law at).takes a.0.1 b.0.0 b.0.1 (bytes_after t.0 bytes a.0.1 fits t.2) b.1 in
        let made : Case ℤ × List ℕ = (record { key = a.0.0; target = b.0.0 }, b.0.1) in
        subst (λ (y : Case ℤ × List ℕ). (text : List ℕ) × IsCase at y.0 text × (bytes ≡ text ++ y.1)) {x = made} (ok_is made (x, rest) b.2)
        (t.0 ++ u.0, (t.0, u.0, t.1, u.1, refl), t.2 ∙ ap (λ (s : List ℕ). t.0 ++ s) u.2 ∙ sym (append_assoc t.0 u.0 b.0.1))

    again : (bytes : List ℕ) (x : Case ℤ) (rest text : List ℕ) → IsCase at x text → bytes ≡ text ++ rest → case_at at bytes ≡ Ok (x, rest)
    again bytes x rest text is parts =
        let whole : bytes ≡ is.0 ++ (is.1 ++ rest) = parts ∙ ap (λ (s : List ℕ). s ++ rest) is.4 ∙ append_assoc is.0 is.1 rest in
        let first = (key_law at).again bytes x.key (is.1 ++ rest) is.0 is.2 whole in
        let second = (target_law at).again (is.1 ++ rest) x.target rest is.1 is.3 refl in
        rw (first, second) refl

-- how many keys there are

not_below : (low high : ℤ) → int_lt high low ≡ false → low ≤ℤ high
not_below low high e = grind (arith, ints)

below_not : (low high : ℤ) → low ≤ℤ high → int_lt high low ≡ false
below_not low high le = grind (arith, ints)

keys_reach : (low high : ℤ) → low ≤ℤ high → low +ℤ pos (keys_between low high) ≡ high +ℤ pos 1
keys_reach low high le = omega (arith, ints)

keys_are : (low high : ℤ) (n : ℕ) → low ≤ℤ high → low +ℤ pos n ≡ high +ℤ pos 1 → keys_between low high ≡ n
keys_are low high n le e = omega (arith, ints)

table_switch_law : (at : ℕ) → Law (table_switch_at at) (IsTableSwitch at)
unfolding table_switch_at
table_switch_law at = record { takes = takes; again = again }
  where
    takes : (bytes : List ℕ) (what : What ℤ) (rest : List ℕ) → IsBytes bytes → table_switch_at at bytes ≡ Ok (what, rest) → (text : List ℕ) × IsTableSwitch at what text × (bytes ≡ text ++ rest)
    takes bytes what rest fits e =
        let a = bind_ok (bytes_at at (padding_of at) bytes) _ _ e in
        let b = bind_ok (target_at at a.0.1) _ _ a.2 in
        let c = bind_ok (key_at at b.0.1) _ _ b.2 in
        let d = bind_ok (key_at at c.0.1) _ _ c.2 in
        let g = guard_ok (int_lt d.0.0 c.0.0) (Switch at) _ (what, rest) d.2 in
        let f = bind_ok (items_at (target_at at) (keys_between c.0.0 d.0.0) d.0.1) _ _ g.1 in
        let ta = bytes_take at (padding_of at) bytes a.0.0 a.0.1 a.1 in
        let fa = bytes_after a.0.0 bytes a.0.1 fits ta.parts in
        let tb = (target_law at).takes a.0.1 b.0.0 b.0.1 fa b.1 in
        let fb = bytes_after tb.0 a.0.1 b.0.1 fa tb.2 in
        let tc = (key_law at).takes b.0.1 c.0.0 c.0.1 fb c.1 in
        let fc = bytes_after tc.0 b.0.1 c.0.1 fb tc.2 in
        let td = (key_law at).takes c.0.1 d.0.0 d.0.1 fc d.1 in
        let fd = bytes_after td.0 c.0.1 d.0.1 fc td.2 in
        let tf = items_take (target_at at) (IsTarget at) (target_law at) (keys_between c.0.0 d.0.0) d.0.1 f.0.0 f.0.1 fd f.1 in
        let ordered = not_below c.0.0 d.0.0 g.0 in
        let made : What ℤ × List ℕ = (TableSwitch b.0.0 c.0.0 f.0.0, f.0.1) in
        subst (λ (y : What ℤ × List ℕ). (text : List ℕ) × IsTableSwitch at y.0 text × (bytes ≡ text ++ y.1)) {x = made} (ok_is made (what, rest) f.2) (
          a.0.0 ++ (tb.0 ++ (tc.0 ++ (td.0 ++ tf.text))),
          record {
            padding = a.0.0;
            default = b.0.0;
            default_bytes = tb.0;
            low = c.0.0;
            low_bytes = tc.0;
            high = d.0.0;
            high_bytes = td.0;
            targets = f.0.0;
            targets_bytes = tf.text;
            filled = ta.size;
            default_is = tb.1;
            low_is = tc.1;
            high_is = td.1;
            targets_are = tf.are;
            ordered = ordered;
            count = ap (λ (n : ℕ). c.0.0 +ℤ pos n) tf.count ∙ keys_reach c.0.0 d.0.0 ordered;
            spelled = refl;
            made = refl;
          },
          joined_five bytes a.0.0 a.0.1 tb.0 b.0.1 tc.0 c.0.1 td.0 d.0.1 tf.text f.0.1 ta.parts tb.2 tc.2 td.2 tf.parts,
        )

    again : (bytes : List ℕ) (what : What ℤ) (rest text : List ℕ) → IsTableSwitch at what text → bytes ≡ text ++ rest → table_switch_at at bytes ≡ Ok (what, rest)
    again bytes what rest text is parts =
        let whole = parts ∙ ap (λ (s : List ℕ). s ++ rest) is.spelled ∙ parted_five is.padding is.default_bytes is.low_bytes is.high_bytes is.targets_bytes rest in
        let r4 : List ℕ = is.targets_bytes ++ rest in
        let r3 : List ℕ = is.high_bytes ++ r4 in
        let r2 : List ℕ = is.low_bytes ++ r3 in
        let r1 : List ℕ = is.default_bytes ++ r2 in
        let a = bytes_again at (padding_of at) bytes is.padding r1 is.filled whole in
        let b = (target_law at).again r1 is.default r2 is.default_bytes is.default_is refl in
        let c = (key_law at).again r2 is.low r3 is.low_bytes is.low_is refl in
        let d = (key_law at).again r3 is.high r4 is.high_bytes is.high_is refl in
        let f = items_again (target_at at) (IsTarget at) (target_law at) r4 is.targets rest is.targets_bytes is.targets_are refl in
        rw (a, b, c, d, below_not is.low is.high is.ordered, keys_are is.low is.high (length is.targets) is.ordered is.count, f, is.made) refl

rises : (cases : List (Case ℤ)) → rise cases ≡ true → Rise cases
unfolding rise
rises [] e = tt
rises (a ∷ []) e = tt
rises (a ∷ b ∷ cases) e = let h = both (int_lt a.key b.key) (rise (b ∷ cases)) e in (below a.key b.key h.0, rises (b ∷ cases) h.1)
  where
    both : (s t : Bool) → (s && t) ≡ true → (s ≡ true) × (t ≡ true)
    both true t e = (refl, e)
    both false t e = absurd cc

    below : (s t : ℤ) → int_lt s t ≡ true → s <ℤ t
    below s t e = grind (arith, ints)

rises_again : (cases : List (Case ℤ)) → Rise cases → rise cases ≡ true
unfolding rise
rises_again [] h = refl
rises_again (a ∷ []) h = refl
rises_again (a ∷ b ∷ cases) h = rw (below a.key b.key h.0, rises_again (b ∷ cases) h.1) refl
  where
    below : (s t : ℤ) → s <ℤ t → int_lt s t ≡ true
    below s t lt = grind (arith, ints)

lookup_switch_law : (at : ℕ) → Law (lookup_switch_at at) (IsLookupSwitch at)
unfolding lookup_switch_at
lookup_switch_law at = record { takes = takes; again = again }
  where
    takes : (bytes : List ℕ) (what : What ℤ) (rest : List ℕ) → IsBytes bytes → lookup_switch_at at bytes ≡ Ok (what, rest) → (text : List ℕ) × IsLookupSwitch at what text × (bytes ≡ text ++ rest)
    takes bytes what rest fits e =
        let a = bind_ok (bytes_at at (padding_of at) bytes) _ _ e in
        let b = bind_ok (target_at at a.0.1) _ _ a.2 in
        let c = bind_ok (number_at at 4 b.0.1) _ _ b.2 in
        let d = bind_ok (items_at (case_at at) c.0.0 c.0.1) _ _ c.2 in
        let g = passes_ok (rise d.0.0) (Switch at) (Ok (LookupSwitch b.0.0 d.0.0, d.0.1)) (what, rest) d.2 in
        let ta = bytes_take at (padding_of at) bytes a.0.0 a.0.1 a.1 in
        let fa = bytes_after a.0.0 bytes a.0.1 fits ta.parts in
        let tb = (target_law at).takes a.0.1 b.0.0 b.0.1 fa b.1 in
        let fb = bytes_after tb.0 a.0.1 b.0.1 fa tb.2 in
        let tc = number_takes 4 wide4 at b.0.1 c.0.0 c.0.1 fb c.1 in
        let td = items_take (case_at at) (IsCase at) (case_law at) c.0.0 c.0.1 d.0.0 d.0.1 tc.fits d.1 in
        let made : What ℤ × List ℕ = (LookupSwitch b.0.0 d.0.0, d.0.1) in
        subst (λ (y : What ℤ × List ℕ). (text : List ℕ) × IsLookupSwitch at y.0 text × (bytes ≡ text ++ y.1)) {x = made} (ok_is made (what, rest) g.1) (
          a.0.0 ++ (tb.0 ++ (u4 c.0.0 ++ td.text)),
          record {
            padding = a.0.0;
            default = b.0.0;
            default_bytes = tb.0;
            cases = d.0.0;
            cases_bytes = td.text;
            filled = ta.size;
            default_is = tb.1;
            count = omega (arith, tc.small, td.count);
            cases_are = td.are;
            rising = rises d.0.0 g.0;
            spelled = ap (λ (n : ℕ). a.0.0 ++ (tb.0 ++ (u4 n ++ td.text))) (sym td.count);
            made = refl;
          },
          joined_four bytes a.0.0 a.0.1 tb.0 b.0.1 (u4 c.0.0) c.0.1 td.text d.0.1 ta.parts tb.2 tc.parts td.parts,
        )

    again : (bytes : List ℕ) (what : What ℤ) (rest text : List ℕ) → IsLookupSwitch at what text → bytes ≡ text ++ rest → lookup_switch_at at bytes ≡ Ok (what, rest)
    again bytes what rest text is parts =
        let whole = parts ∙ ap (λ (s : List ℕ). s ++ rest) is.spelled ∙ parted_four is.padding is.default_bytes (u4 (length is.cases)) is.cases_bytes rest in
        let r3 : List ℕ = is.cases_bytes ++ rest in
        let r2 : List ℕ = u4 (length is.cases) ++ r3 in
        let r1 : List ℕ = is.default_bytes ++ r2 in
        let a = bytes_again at (padding_of at) bytes is.padding r1 is.filled whole in
        let b = (target_law at).again r1 is.default r2 is.default_bytes is.default_is refl in
        let c = number_again 4 at r2 (length is.cases) r3 is.count refl in
        let d = items_again (case_at at) (IsCase at) (case_law at) r3 is.cases rest is.cases_bytes is.cases_are refl in
        rw (a, b, c, d, rises_again is.cases is.rising, is.made) refl

-- ---- wide

widened_form_law : (at : ℕ) (form : Form) → Law (widened_form_at at form) (AreWideOf form)
widened_form_law at (forms.Local access) = one_law at 2 _ (λ local. Local access local) Any wide2 (any_rule (λ local. Local access local))
widened_form_law at forms.Increment = two_law at 2 (λ local by. Increment local (cast_signed w16 by)) wide2
widened_form_law at _ = record { takes = λ bytes what rest fits e. absurd cc; again = λ bytes what rest text is parts. absurd is }

widened_law : (at : ℕ) (row : Option Instruction) → Law (widened_at at row) (AreWide row)
widened_law at None = record { takes = λ bytes what rest fits e. absurd cc; again = λ bytes what rest text is parts. absurd is }
widened_law at (Some row) = record { takes = (widened_form_law at row.form).takes; again = (widened_form_law at row.form).again }

wide_law : (at : ℕ) → Law (wide_at at) operands.IsWide
unfolding wide_at
wide_law at = record { takes = takes; again = again }
  where
    takes : (bytes : List ℕ) (what : What ℤ) (rest : List ℕ) → IsBytes bytes → wide_at at bytes ≡ Ok (what, rest) → (text : List ℕ) × operands.IsWide what text × (bytes ≡ text ++ rest)
    takes bytes what rest fits e =
        let a = bind_ok (number_at at 1 bytes) _ _ e in
        let t = number_takes 1 wide1 at bytes a.0.0 a.0.1 fits a.1 in
        let u = (widened_law at (row_numbered a.0.0)).takes a.0.1 what rest t.fits a.2 in
        (u1 a.0.0 ++ u.0, (a.0.0, u.0, t.small, u.1, refl), t.parts ∙ ap (λ (s : List ℕ). u1 a.0.0 ++ s) u.2 ∙ sym (append_assoc (u1 a.0.0) u.0 rest))

    again : (bytes : List ℕ) (what : What ℤ) (rest text : List ℕ) → operands.IsWide what text → bytes ≡ text ++ rest → wide_at at bytes ≡ Ok (what, rest)
    again bytes what rest text is parts =
        let whole : bytes ≡ u1 is.0 ++ (is.1 ++ rest) = parts ∙ ap (λ (s : List ℕ). s ++ rest) is.4 ∙ append_assoc (u1 is.0) is.1 rest in
        let first = number_again 1 at bytes is.0 (is.1 ++ rest) is.2 whole in
        rw first ((widened_law at (row_numbered is.0)).again (is.1 ++ rest) what rest is.1 is.3 refl)

-- ---- newarray

element_small : (code : ℕ) (what : What ℤ) → IsElementCode code what → code < 256
element_small code what (inl a) = omega (arith, a.0)
element_small code what (inr (inl a)) = omega (arith, a.0)
element_small code what (inr (inr (inl a))) = omega (arith, a.0)
element_small code what (inr (inr (inr (inl a)))) = omega (arith, a.0)
element_small code what (inr (inr (inr (inr (inl a))))) = omega (arith, a.0)
element_small code what (inr (inr (inr (inr (inr a))))) = omega (arith, a.0)

abbrev IsNewArray : What ℤ → List ℕ → Type 0
IsNewArray what text = (code : ℕ) × (text ≡ u1 code) × IsElementCode code what

new_array_law : (at : ℕ) → Law (one_at at 1 (new_array_of at)) IsNewArray
new_array_law at = record { takes = takes; again = again }
  where
    takes : (bytes : List ℕ) (what : What ℤ) (rest : List ℕ) → IsBytes bytes → one_at at 1 (new_array_of at) bytes ≡ Ok (what, rest) → (text : List ℕ) × IsNewArray what text × (bytes ≡ text ++ rest)
    takes bytes what rest fits e =
        let a = bind_ok (number_at at 1 bytes) _ _ e in
        let b = bind_ok (new_array_of at a.0.0) _ _ a.2 in
        let t = number_takes 1 wide1 at bytes a.0.0 a.0.1 fits a.1 in
        subst (λ (y : What ℤ × List ℕ). (text : List ℕ) × IsNewArray y.0 text × (bytes ≡ text ++ y.1)) (ok_is (b.0, a.0.1) (what, rest) b.2)
        (u1 a.0.0, (a.0.0, refl, element_takes at a.0.0 b.0 b.1), t.parts)

    again : (bytes : List ℕ) (what : What ℤ) (rest text : List ℕ) → IsNewArray what text → bytes ≡ text ++ rest → one_at at 1 (new_array_of at) bytes ≡ Ok (what, rest)
    again bytes what rest text is parts =
        let number = number_again 1 at bytes is.0 rest (element_small is.0 what is.2) (parts ∙ ap (λ (s : List ℕ). s ++ rest) is.1) in
        rw (number, element_again at is.0 what is.2) refl

-- ---- invokeinterface

interface_takes : (pool : List Constant) (at : ℕ) (bytes : List ℕ) (read : Result ((ℕ × ℕ × ℕ) × List ℕ) StepFault) (what : What ℤ) (rest : List ℕ) → IsBytes bytes → interface_call_at at bytes ≡ read
    → ChecksInterfaceCall pool at read (Ok (what, rest)) → (text : List ℕ) × IsOperands pool at forms.InterfaceCall what text × (bytes ≡ text ++ rest)
interface_takes pool at bytes (Err f) what rest fits e checks = absurd cc
interface_takes pool at bytes (Ok x) what rest fits e checks =
    let a = bind_ok (number_at at 2 bytes) _ _ e in
    let b = bind_ok (number_at at 1 a.0.1) _ _ a.2 in
    let c = bind_ok (number_at at 1 b.0.1) _ _ b.2 in
    let ta = number_takes 2 wide2 at bytes a.0.0 a.0.1 fits a.1 in
    let tb = number_takes 1 wide1 at a.0.1 b.0.0 b.0.1 ta.fits b.1 in
    let tc = number_takes 1 wide1 at b.0.1 c.0.0 c.0.1 tb.fits c.1 in
    let made : (ℕ × ℕ × ℕ) × List ℕ = ((a.0.0, b.0.0, c.0.0), c.0.1) in
    let same : made ≡ x = ok_is made x c.2 in
    let right : IsInterfaceCall pool a.0.0 b.0.0 c.0.0 = subst (λ (y : (ℕ × ℕ × ℕ) × List ℕ). IsInterfaceCall pool y.0.0 y.0.1 y.0.2) (sym same) checks.0 in
    let given : What ℤ × List ℕ = (InterfaceCall a.0.0, c.0.1) in
    let is : given ≡ (what, rest) = ap (λ (y : (ℕ × ℕ × ℕ) × List ℕ). (InterfaceCall y.0.0, y.1)) same ∙ sym checks.1 in
    subst (λ (y : What ℤ × List ℕ). (text : List ℕ) × IsOperands pool at forms.InterfaceCall y.0 text × (bytes ≡ text ++ y.1)) {x = given} is
    (u2 a.0.0 ++ (u1 b.0.0 ++ u1 c.0.0), (a.0.0, b.0.0, c.0.0, ta.small, tb.small, tc.small, right, refl, refl), joined_three bytes (u2 a.0.0) a.0.1 (u1 b.0.0) b.0.1 (u1 c.0.0) c.0.1 ta.parts tb.parts tc.parts)

interface_again : (pool : List Constant) (at : ℕ) (bytes : List ℕ) (what : What ℤ) (rest text : List ℕ) → IsOperands pool at forms.InterfaceCall what text → bytes ≡ text ++ rest
    → ChecksInterfaceCall pool at (interface_call_at at bytes) (Ok (what, rest))
interface_again pool at bytes what rest text is parts =
    let whole = parts ∙ ap (λ (s : List ℕ). s ++ rest) is.7 ∙ parted_three (u2 is.0) (u1 is.1) (u1 is.2) rest in
    let r2 : List ℕ = u1 is.2 ++ rest in
    let r1 : List ℕ = u1 is.1 ++ r2 in
    let a = number_again 2 at bytes is.0 r1 is.3 whole in
    let b = number_again 1 at r1 is.1 r2 is.4 refl in
    let c = number_again 1 at r2 is.2 rest is.5 refl in
    rw (a, b, c) (is.6, ap (λ (w : What ℤ). (w, rest)) is.8)

-- ---- each form

pub operands_take : (pool : List Constant) (at : ℕ) (form : Form) (bytes : List ℕ) (what : What ℤ) (rest : List ℕ) → IsBytes bytes → ReadsOperands pool at form bytes (Ok (what, rest))
    → (text : List ℕ) × IsOperands pool at form what text × (bytes ≡ text ++ rest)
unfolding ReadsOperands
operands_take pool at (forms.Plain plain) bytes what rest fits e = (none_law (Plain plain)).takes bytes what rest fits (sym e)
operands_take pool at (forms.FixedInt n) bytes what rest fits e = (none_law (Int n)).takes bytes what rest fits (sym e)
operands_take pool at (forms.FixedLong n) bytes what rest fits e = (none_law (Long n)).takes bytes what rest fits (sym e)
operands_take pool at (forms.FixedLocal access local) bytes what rest fits e = (none_law (Local access local)).takes bytes what rest fits (sym e)
operands_take pool at forms.ByteInt bytes what rest fits e = (one_law at 1 _ _ Any wide1 (any_rule (λ n. Int (cast_signed w8 n)))).takes bytes what rest fits (sym e)
operands_take pool at forms.ShortInt bytes what rest fits e = (one_law at 2 _ _ Any wide2 (any_rule (λ n. Int (cast_signed w16 n)))).takes bytes what rest fits (sym e)
operands_take pool at forms.ByteConstant bytes what rest fits e = (one_law at 1 _ _ _ wide1 (constant_rule pool at)).takes bytes what rest fits (sym e)
operands_take pool at forms.Constant bytes what rest fits e = (one_law at 2 _ _ _ wide2 (constant_rule pool at)).takes bytes what rest fits (sym e)
operands_take pool at forms.LongConstant bytes what rest fits e = (one_law at 2 _ _ _ wide2 (long_constant_rule pool at)).takes bytes what rest fits (sym e)
operands_take pool at (forms.Local access) bytes what rest fits e = (one_law at 1 _ _ Any wide1 (any_rule (λ local. Local access local))).takes bytes what rest fits (sym e)
operands_take pool at forms.Increment bytes what rest fits e = (two_law at 1 (λ local by. Increment local (cast_signed w8 by)) wide1).takes bytes what rest fits (sym e)
operands_take pool at (forms.Branch test) bytes what rest fits e = (one_law at 2 _ _ Any wide2 (any_rule (λ distance. Branch test (near_target at distance)))).takes bytes what rest fits (sym e)
operands_take pool at (forms.FarBranch test) bytes what rest fits e = (one_law at 4 _ _ Any wide4 (any_rule (λ distance. Branch test (far_target at distance)))).takes bytes what rest fits (sym e)
operands_take pool at forms.TableSwitch bytes what rest fits e = (table_switch_law at).takes bytes what rest fits (sym e)
operands_take pool at forms.LookupSwitch bytes what rest fits e = (lookup_switch_law at).takes bytes what rest fits (sym e)
operands_take pool at (forms.Field access) bytes what rest fits e = (one_law at 2 _ _ _ wide2 (field_rule pool access at)).takes bytes what rest fits (sym e)
operands_take pool at (forms.Call call) bytes what rest fits e = (one_law at 2 _ _ _ wide2 (call_rule pool call at)).takes bytes what rest fits (sym e)
operands_take pool at forms.InterfaceCall bytes what rest fits e = interface_takes pool at bytes (interface_call_at at bytes) what rest fits refl e
operands_take pool at (forms.Class purpose) bytes what rest fits e = (one_law at 2 _ _ _ wide2 (class_rule pool purpose at)).takes bytes what rest fits (sym e)
operands_take pool at forms.NewArray bytes what rest fits e = (new_array_law at).takes bytes what rest fits (sym e)
operands_take pool at forms.Wide bytes what rest fits e = (wide_law at).takes bytes what rest fits (sym e)

pub operands_again : (pool : List Constant) (at : ℕ) (form : Form) (bytes : List ℕ) (what : What ℤ) (rest text : List ℕ) → IsOperands pool at form what text → bytes ≡ text ++ rest
    → ReadsOperands pool at form bytes (Ok (what, rest))
unfolding ReadsOperands
operands_again pool at (forms.Plain plain) bytes what rest text is parts = sym ((none_law (Plain plain)).again bytes what rest text is parts)
operands_again pool at (forms.FixedInt n) bytes what rest text is parts = sym ((none_law (Int n)).again bytes what rest text is parts)
operands_again pool at (forms.FixedLong n) bytes what rest text is parts = sym ((none_law (Long n)).again bytes what rest text is parts)
operands_again pool at (forms.FixedLocal access local) bytes what rest text is parts = sym ((none_law (Local access local)).again bytes what rest text is parts)
operands_again pool at forms.ByteInt bytes what rest text is parts = sym ((one_law at 1 _ _ Any wide1 (any_rule (λ n. Int (cast_signed w8 n)))).again bytes what rest text is parts)
operands_again pool at forms.ShortInt bytes what rest text is parts = sym ((one_law at 2 _ _ Any wide2 (any_rule (λ n. Int (cast_signed w16 n)))).again bytes what rest text is parts)
operands_again pool at forms.ByteConstant bytes what rest text is parts = sym ((one_law at 1 _ _ _ wide1 (constant_rule pool at)).again bytes what rest text is parts)
operands_again pool at forms.Constant bytes what rest text is parts = sym ((one_law at 2 _ _ _ wide2 (constant_rule pool at)).again bytes what rest text is parts)
operands_again pool at forms.LongConstant bytes what rest text is parts = sym ((one_law at 2 _ _ _ wide2 (long_constant_rule pool at)).again bytes what rest text is parts)
operands_again pool at (forms.Local access) bytes what rest text is parts = sym ((one_law at 1 _ _ Any wide1 (any_rule (λ local. Local access local))).again bytes what rest text is parts)
operands_again pool at forms.Increment bytes what rest text is parts = sym ((two_law at 1 (λ local by. Increment local (cast_signed w8 by)) wide1).again bytes what rest text is parts)
operands_again pool at (forms.Branch test) bytes what rest text is parts = sym ((one_law at 2 _ _ Any wide2 (any_rule (λ distance. Branch test (near_target at distance)))).again bytes what rest text is parts)
operands_again pool at (forms.FarBranch test) bytes what rest text is parts = sym ((one_law at 4 _ _ Any wide4 (any_rule (λ distance. Branch test (far_target at distance)))).again bytes what rest text is parts)
operands_again pool at forms.TableSwitch bytes what rest text is parts = sym ((table_switch_law at).again bytes what rest text is parts)
operands_again pool at forms.LookupSwitch bytes what rest text is parts = sym ((lookup_switch_law at).again bytes what rest text is parts)
operands_again pool at (forms.Field access) bytes what rest text is parts = sym ((one_law at 2 _ _ _ wide2 (field_rule pool access at)).again bytes what rest text is parts)
operands_again pool at (forms.Call call) bytes what rest text is parts = sym ((one_law at 2 _ _ _ wide2 (call_rule pool call at)).again bytes what rest text is parts)
operands_again pool at forms.InterfaceCall bytes what rest text is parts = interface_again pool at bytes what rest text is parts
operands_again pool at (forms.Class purpose) bytes what rest text is parts = sym ((one_law at 2 _ _ _ wide2 (class_rule pool purpose at)).again bytes what rest text is parts)
operands_again pool at forms.NewArray bytes what rest text is parts = sym ((new_array_law at).again bytes what rest text is parts)
operands_again pool at forms.Wide bytes what rest text is parts = sym ((wide_law at).again bytes what rest text is parts)
