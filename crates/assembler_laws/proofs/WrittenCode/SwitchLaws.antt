-- The targets of a switch are those that were written.
use Rattle.std.proofs.Common.{◌≡◌, ℕ, ◌<◌, ℤ, pos, ◌+ℤ◌, ◌-ℤ◌, ◌≤ℤ◌, List, [], ◌∷◌, ◌++◌, length, refl, sym, ap, subst, ◌∙◌, arith, FitsSigned}
use Rattle.std.specs.List.{All, flat_map}
use Rattle.std.specs.Int.{w32, cast_unsigned, cast_signed}
use Rattle.std.proofs.lemmas.Int.{ints, to_z-of_z}
use Rattle.std.proofs.lemmas.List.Elements.{All-head, All-tail}
use Rattle.class_walk.specs.Layout.{u4}
use Rattle.instructions.specs.declared.what.Case.{Case}
use Rattle.instructions.specs.declared.what.What.{What}
use Rattle.instructions.specs.declared.what.What.TheVariants as whats
use Rattle.code_steps.specs.Operands.{far_target, IsTarget, IsKey, IsCase, AreItems, padding_of, IsTableSwitch, IsLookupSwitch, Rise}
use Rattle.code_steps.specs.CodeArray.{with_target}
use Rattle.code_write.specs.Instruction.{s4, distance, far_bytes, padding_bytes, highest, table_bytes, case_bytes, lookup_bytes, IsFar, IsTableInRange, IsCaseInRange, IsLookupInRange, HasKey}
use Rattle.code_write.specs.Meaning.{targets_read, cases_read}
use Rattle.code_write.proofs.SizeLaws.{length_zeros}
use Rattle.code_write.proofs.CodeLaws.{below32, far_back}
use Rattle.assembler_laws.proofs.WrittenCode.NumberLaws.{text_same, number_same, front_same, parted}

-- ---- a target, a key, a case

target_same : (at target : ℕ) (read : ℤ) (text rest behind : List ℕ) → IsFar at target → IsTarget at read text → text ++ rest ≡ far_bytes at target ++ behind → (read ≡ pos target) × (rest ≡ behind)
target_same at target read text rest behind fits is e =
    let same = text_same 4 is.0 (cast_unsigned w32 (distance at target)) text rest behind is.1 (below32 (distance at target) fits) is.2 e in
    (is.3 ∙ ap (far_target at) same.0 ∙ sym (far_back at target fits), same.1)

key_same : (key read : ℤ) (text rest behind : List ℕ) → FitsSigned w32 key → IsKey read text → text ++ rest ≡ s4 key ++ behind → (read ≡ key) × (rest ≡ behind)
key_same key read text rest behind fits is e =
    let same = text_same 4 is.0 (cast_unsigned w32 key) text rest behind is.1 (below32 key fits) is.2 e in
    (is.3 ∙ ap (cast_signed w32) same.0 ∙ to_z-of_z w32 key fits, same.1)

case_of : (read : Case ℤ) (key target : ℤ) → read.key ≡ key → read.target ≡ target → read ≡ record { key = key; target = target }
case_of read key target of_key of_target =
    let Keyed : ℤ → Case ℤ = λ k. record { key = k; target = read.target } in
    let Aimed : ℤ → Case ℤ = λ t. record { key = key; target = t } in
    ap Keyed of_key ∙ ap Aimed of_target

case_same : (at : ℕ) (c : Case ℕ) (read : Case ℤ) (text rest behind : List ℕ) → IsFar at c.target → FitsSigned w32 c.key → IsCase at read text → text ++ rest ≡ case_bytes at c ++ behind → (read ≡ with_target (λ t. pos t) c) × (rest ≡ behind)
case_same at c read text rest behind fits width is e =
    let parts = parted text is.0 is.1 rest (s4 c.key) (far_bytes at c.target) behind is.4 e in
    let key = key_same c.key read.key is.0 (is.1 ++ rest) (far_bytes at c.target ++ behind) width is.2 parts in
    let target = target_same at c.target read.target is.1 rest behind fits is.3 key.1 in
    (case_of read c.key (pos c.target) key.0 target.0, target.1)

-- ---- as many targets, as many cases

targets_same : (at : ℕ) (targets : List ℕ) (read : List ℤ) (text rest behind : List ℕ) → All (IsFar at) targets → AreItems (IsTarget at) read text → length read ≡ length targets
    → text ++ rest ≡ flat_map (far_bytes at) targets ++ behind → (read ≡ targets_read targets) × (rest ≡ behind)
targets_same at [] [] text rest behind fit are count e = (refl, ap (λ (s : List ℕ). s ++ rest) (sym are) ∙ e)
targets_same at [] (r ∷ rs) text rest behind fit are count e = absurd (omega arith)
targets_same at (t ∷ ts) [] text rest behind fit are count e = absurd (omega arith)
targets_same at (t ∷ ts) (r ∷ rs) text rest behind fit are count e =
    let parts = parted text are.0 are.1 rest (far_bytes at t) (flat_map (far_bytes at) ts) behind are.4 e in
    let first = target_same at t r are.0 (are.1 ++ rest) (flat_map (far_bytes at) ts ++ behind) (All-head (IsFar at) t ts fit) are.2 parts in
    let others = targets_same at ts rs are.1 rest behind (All-tail (IsFar at) t ts fit) are.3 (omega arith) first.1 in
    (ap (λ (x : ℤ). x ∷ rs) first.0 ∙ ap (λ (xs : List ℤ). pos t ∷ xs) others.0, others.1)

cases_same : (at : ℕ) (cases : List (Case ℕ)) (read : List (Case ℤ)) (text rest behind : List ℕ) → All (IsCaseInRange at) cases → All HasKey cases → AreItems (IsCase at) read text → length read ≡ length cases
    → text ++ rest ≡ flat_map (case_bytes at) cases ++ behind → (read ≡ cases_read cases) × (rest ≡ behind)
cases_same at [] [] text rest behind fit keys are count e = (refl, ap (λ (s : List ℕ). s ++ rest) (sym are) ∙ e)
cases_same at [] (r ∷ rs) text rest behind fit keys are count e = absurd (omega arith)
cases_same at (c ∷ cs) [] text rest behind fit keys are count e = absurd (omega arith)
cases_same at (c ∷ cs) (r ∷ rs) text rest behind fit keys are count e =
    let parts = parted text are.0 are.1 rest (case_bytes at c) (flat_map (case_bytes at) cs) behind are.4 e in
    let first = case_same at c r are.0 (are.1 ++ rest) (flat_map (case_bytes at) cs ++ behind) (All-head (IsCaseInRange at) c cs fit) (All-head HasKey c cs keys) are.2 parts in
    let others = cases_same at cs rs are.1 rest behind (All-tail (IsCaseInRange at) c cs fit) (All-tail HasKey c cs keys) are.3 (omega arith) first.1 in
    (ap (λ (x : Case ℤ). x ∷ rs) first.0 ∙ ap (λ (xs : List (Case ℤ)). with_target (λ t. pos t) c ∷ xs) others.0, others.1)

-- ---- how many targets a table has

-- the keys of n targets from the lowest on
as_many : (low high given : ℤ) (read n : ℕ) → given ≡ low → high ≡ low +ℤ pos n -ℤ pos 1 → given +ℤ pos read ≡ high +ℤ pos 1 → read ≡ n
as_many low high given read n same top count = omega (arith, ints)

some_keys : (low high given : ℤ) (n : ℕ) → given ≡ low → high ≡ low +ℤ pos n -ℤ pos 1 → given ≤ℤ high → 0 < n
some_keys low high given n same top ordered = grind (arith, ints)

-- ---- switches

pub table_same : (at default : ℕ) (low : ℤ) (targets : List ℕ) (what : What ℤ) (text rest behind : List ℕ) → IsTableInRange at default low targets → FitsSigned w32 low → IsTableSwitch at what text
    → text ++ rest ≡ table_bytes at default low targets ++ behind → (what ≡ whats.TableSwitch (pos default) low (targets_read targets)) × (0 < length targets) × (rest ≡ behind)
table_same at default low targets what text rest behind fits width is e =
    let each : List ℕ = flat_map (far_bytes at) targets in
    let high_more : List ℕ = s4 (highest low targets) ++ each in
    let low_more : List ℕ = s4 low ++ high_more in
    let default_more : List ℕ = far_bytes at default ++ low_more in
    let highs : List ℕ = is.high_bytes ++ is.targets_bytes in
    let lows : List ℕ = is.low_bytes ++ highs in
    let defaults : List ℕ = is.default_bytes ++ lows in
    let whole = parted text is.padding defaults rest (padding_bytes at) default_more behind is.spelled e in
    let padding = front_same is.padding (padding_bytes at) (defaults ++ rest) (default_more ++ behind) (is.filled ∙ sym (length_zeros (padding_of at))) whole in
    let of_default = target_same at default is.default is.default_bytes (lows ++ rest) (low_more ++ behind) fits.default_fits is.default_is (parted defaults is.default_bytes lows rest (far_bytes at default) low_more behind refl padding.1) in
    let of_low = key_same low is.low is.low_bytes (highs ++ rest) (high_more ++ behind) width is.low_is (parted lows is.low_bytes highs rest (s4 low) high_more behind refl of_default.1) in
    let of_high = key_same (highest low targets) is.high is.high_bytes (is.targets_bytes ++ rest) (each ++ behind) fits.highest_fits is.high_is (parted highs is.high_bytes is.targets_bytes rest (s4 (highest low targets)) each behind refl of_low.1) in
    let count = as_many low is.high is.low (length is.targets) (length targets) of_low.0 of_high.0 is.count in
    let others = targets_same at targets is.targets is.targets_bytes rest behind fits.targets_fit is.targets_are count of_high.1 in
    let made : What ℤ = whats.TableSwitch is.default is.low is.targets in
    let same : made ≡ whats.TableSwitch (pos default) low (targets_read targets) =
    ap (λ (d : ℤ). whats.TableSwitch d is.low is.targets) of_default.0
    ∙ ap (λ (l : ℤ). whats.TableSwitch (pos default) l is.targets) of_low.0
    ∙ ap (λ (ts : List ℤ). whats.TableSwitch (pos default) low ts) others.0 in
    (is.made ∙ same, some_keys low is.high is.low (length targets) of_low.0 of_high.0 is.ordered, others.1)

pub lookup_same : (at default : ℕ) (cases : List (Case ℕ)) (what : What ℤ) (text rest behind : List ℕ) → IsLookupInRange at default cases → All HasKey cases → IsLookupSwitch at what text
    → text ++ rest ≡ lookup_bytes at default cases ++ behind → (what ≡ whats.LookupSwitch (pos default) (cases_read cases)) × Rise (cases_read cases) × (rest ≡ behind)
lookup_same at default cases what text rest behind fits keys is e =
    let each : List ℕ = flat_map (case_bytes at) cases in
    let count_more : List ℕ = u4 (length cases) ++ each in
    let default_more : List ℕ = far_bytes at default ++ count_more in
    let counts : List ℕ = u4 (length is.cases) ++ is.cases_bytes in
    let defaults : List ℕ = is.default_bytes ++ counts in
    let whole = parted text is.padding defaults rest (padding_bytes at) default_more behind is.spelled e in
    let padding = front_same is.padding (padding_bytes at) (defaults ++ rest) (default_more ++ behind) (is.filled ∙ sym (length_zeros (padding_of at))) whole in
    let of_default = target_same at default is.default is.default_bytes (counts ++ rest) (count_more ++ behind) fits.default_fits is.default_is (parted defaults is.default_bytes counts rest (far_bytes at default) count_more behind refl padding.1) in
    let of_count = number_same 4 (length is.cases) (length cases) (is.cases_bytes ++ rest) (each ++ behind) is.count fits.count (parted counts (u4 (length is.cases)) is.cases_bytes rest (u4 (length cases)) each behind refl of_default.1) in
    let others = cases_same at cases is.cases is.cases_bytes rest behind fits.cases_fit keys is.cases_are of_count.0 of_count.1 in
    let made : What ℤ = whats.LookupSwitch is.default is.cases in
    let same : made ≡ whats.LookupSwitch (pos default) (cases_read cases) =
    ap (λ (d : ℤ). whats.LookupSwitch d is.cases) of_default.0 ∙ ap (λ (cs : List (Case ℤ)). whats.LookupSwitch (pos default) cs) others.0 in
    (is.made ∙ same, subst Rise others.0 is.rising, others.1)
