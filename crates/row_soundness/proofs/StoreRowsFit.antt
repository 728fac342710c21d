-- The rows that store numbers into arrays (JVMS 6.5 iastore, lastore).
use Rattle.std.proofs.Common.{◌≡◌, ◌<◌, ◌^◌, ◌*◌, ◌%◌, ℕ, suc, Bool, true, false, inl, inr, Some, List, [], ◌∷◌, drop, refl, sym, ap, subst, ◌∙◌, arith, if◌then◌else◌}
use Rattle.builtin_world.specs.declared.number.TheConstants.{OBJECT}
use Rattle.code_decode.specs.declared.code.ClassUnit.{ClassUnit}
use Rattle.instructions.specs.declared.operation.ElementKind.{ElementKind}
use Rattle.instructions.specs.declared.what.Instr.{Instr}
use Rattle.instructions.specs.declared.what.Target.{Target}
use Rattle.link_types.specs.declared.types.ObjectType.TheVariants.{Class}
use Rattle.type_rules.specs.declared.types.VerificationType.{VerificationType}
use Rattle.type_rules.specs.Wants.{an_int, an_array_of, array_wanted, element_wanted, element_types, is_array_of_one, words_wanted}
use Rattle.java_rows.specs.Numbers.{byte_of}
use Rattle.java_rows.specs.Objects.{stores_element, stores_word, stores_long, kept_element, writes_long}
use Rattle.java_rows.specs.Plan.{Frame, completes, writes}
use Rattle.java_rows.specs.Program.{is_boolean_array}
use Rattle.row_soundness.specs.Senses.{Sense, number, IsWord}
use Rattle.row_soundness.specs.Fits.{HaveTypes, env_of, returns_of}
use Rattle.row_soundness.specs.Operands.{Begins, Operands, IsTested, at_offset}
use Rattle.row_soundness.specs.Knowledge.{Knows, HasWords, IsNumeric, element_place, element_contents}
use Rattle.row_soundness.specs.Accepted.{Accepted}
use Rattle.row_soundness.proofs.Basics.{types_more}
use Rattle.row_soundness.proofs.Flow.{begins_more}
use Rattle.row_soundness.proofs.Plans.{writes_fit}
use Rattle.row_soundness.proofs.RowBasics.{RowFits, takes, Fit, completes_fit}
use Rattle.row_soundness.proofs.ElementRowsFit.{element_fits}
use Rattle.instructions.specs.declared.operation.ElementKind.TheVariants as elements
use Rattle.instructions.specs.declared.operation.Plain.TheVariants as plain
use Rattle.instructions.specs.declared.what.What.TheVariants as whats

module _ {P : Type 0} (know : Sense P) (us : List ClassUnit) (knows : Knows know us) (accepted : Accepted us) (me : ℕ) where
  -- ---- stores of numbers into arrays

  -- what is kept of an int in an array is a word
  pub kept_small : (kind : ElementKind) (c v : ℕ) → (know.exact → v < 2 ^ 32) → know.exact → kept_element us kind c v < 2 ^ 32
  kept_small elements.ByteOrBoolean c v fits exact = by_boolean (is_boolean_array us c)
    where
      by_boolean : (x : Bool) → (if x then v % 2 else byte_of v) < 2 ^ 32
      by_boolean true = omega arith
      by_boolean false = accepted.numbers.bytes v
  kept_small elements.Char c v fits exact = omega arith
  kept_small elements.Short c v fits exact = accepted.numbers.shorts v
  kept_small kind c v fits exact = fits exact

  -- an array of numbers of one word
  pub record IsWordKind (kind : ElementKind) : Type 0 where
    pub is : IsNumeric kind
    pub value : element_wanted kind ≡ an_int
    pub array : array_wanted kind ≡ an_array_of (element_types kind)
    pub contents : element_contents kind ≡ number ∷ []
    pub place : (i : ℕ) → element_place kind i ≡ i
    pub row : (f : Frame) (stack : List ℕ) → stores_element us f kind stack ≡ stores_word us f kind stack

  module _ (kind : ElementKind) (words : IsWordKind kind) (at next : ℕ) where
    abbrev store : Instr Target
    store = at_offset at next (whats.Plain (plain.ArrayStore kind))

    stored : (h : P) (f : Frame) (b : Begins know us h f store) (rest : List ℕ) → HaveTypes know (env_of us f.method b.stands.of) b.stands.unset h rest (drop 3 (b.stands.frames f.step).stack) → Fit know us knows accepted me h f store b (completes f rest)
    stored h f b rest left = completes_fit know us knows accepted me h f store b rest refl (record {
      locals_fit = b.stands.locals;
      stack_fits = subst (λ w. HaveTypes know (env_of us f.method b.stands.of) b.stands.unset h rest (drop (words_wanted (w ∷ an_int ∷ array_wanted kind ∷ [])) (b.stands.frames f.step).stack)) (sym words.value)
          (subst (λ w. HaveTypes know (env_of us f.method b.stands.of) b.stands.unset h rest (drop (words_wanted (an_int ∷ an_int ∷ w ∷ [])) (b.stands.frames f.step).stack)) (sym words.array) left);
      set = b.stands.set;
    })

    by_numbers : (h : P) (f : Frame) (b : Begins know us h f store) (v i r : ℕ) (rest : List ℕ) (t : VerificationType) → IsWord know v
        → IsTested know (env_of us f.method b.stands.of) b.stands.unset h (λ s. is_array_of_one (element_types kind) s ≡ true) r t
        → HaveTypes know (env_of us f.method b.stands.of) b.stands.unset h rest (drop 3 (b.stands.frames f.step).stack)
        → Fit know us knows accepted me h f store b (stores_word us f kind (v ∷ i ∷ r ∷ rest))
    by_numbers h f b v i r rest t v_fits (inl null) left =
        element_fits know us knows accepted me h f b.stands r i (Class OBJECT) (λ c. writes r i (kept_element us kind c v) (completes f rest)) (λ other. absurd (other null)) (λ h' c n more other of is within. absurd (other null))
    by_numbers h f b v i r rest t v_fits (inr (s, same, of, test)) left =
        element_fits know us knows accepted me h f b.stands r i s (λ c. writes r i (kept_element us kind c v) (completes f rest)) (λ x. of) (λ h' c n more other of' is within.
        let has : HasWords know h' r i (number ∷ []) = subst (λ ks. HasWords know h' r i ks) words.contents (subst (λ k. HasWords know h' r k (element_contents kind)) (words.place i) (knows.elements h' r c n i kind s words.is of' test is within)) in
        writes_fit know us knows (Some (returns_of know us h f b.stands)) h' r i (kept_element us kind c v) number (completes f rest) has.0 (kept_small kind c v v_fits) (λ h'' more'.
        let both = knows.both h h' h'' more more' in
        stored h'' f (begins_more know us knows accepted h h'' both f store b) rest (types_more know us knows (env_of us f.method b.stands.of) b.stands.unset h h'' rest _ both left)))

    pub store_fits : (h : P) (f : Frame) (b : Begins know us h f store) → RowFits know us knows accepted me h f store b
    store_fits h f b =
        let env = env_of us f.method b.stands.of in
        let here = b.stands.frames f.step in
        let (v, vs, are, v_fits, (i, rs, are', i_fits, more)) = subst (λ w. Operands know env b.stands.unset h here.stack 0 (w ∷ an_int ∷ array_wanted kind ∷ []) f.stack) words.value (takes know us knows accepted me h f store b) in
        let (r, rest, are'', r_fits, left) = subst (λ w. Operands know env b.stands.unset h here.stack 2 (w ∷ []) rs) words.array more in
        subst (λ p. Fit know us knows accepted me h f store b p) (sym (words.row f f.stack))
        (subst (λ s. Fit know us knows accepted me h f store b (stores_word us f kind s)) (sym (are ∙ ap (λ s. v ∷ s) (are' ∙ ap (λ s. i ∷ s) are'')))
        (by_numbers h f b v i r rest _ v_fits r_fits left))

  module _ (at next : ℕ) where
    abbrev lastore : Instr Target
    lastore = at_offset at next (whats.Plain (plain.ArrayStore elements.Long))

    by_longs : (h : P) (f : Frame) (b : Begins know us h f lastore) (high low i r : ℕ) (rest : List ℕ) (t : VerificationType) → IsWord know high → IsWord know low
        → IsTested know (env_of us f.method b.stands.of) b.stands.unset h (λ s. is_array_of_one (element_types elements.Long) s ≡ true) r t
        → HaveTypes know (env_of us f.method b.stands.of) b.stands.unset h rest (drop 4 (b.stands.frames f.step).stack)
        → Fit know us knows accepted me h f lastore b (stores_long f (high ∷ low ∷ i ∷ r ∷ rest))
    by_longs h f b high low i r rest t high_fits low_fits (inl null) left =
        element_fits know us knows accepted me h f b.stands r i (Class OBJECT) (λ c. writes_long r (2 * i) low high (completes f rest)) (λ other. absurd (other null)) (λ h' c n more other of is within. absurd (other null))
    by_longs h f b high low i r rest t high_fits low_fits (inr (s, same, of, test)) left =
        element_fits know us knows accepted me h f b.stands r i s (λ c. writes_long r (2 * i) low high (completes f rest)) (λ x. of) (λ h' c n more other of' is within.
        let has = knows.elements h' r c n i elements.Long s tt of' test is within in
        writes_fit know us knows (Some (returns_of know us h f b.stands)) h' r (2 * i) low number (writes r (suc (2 * i)) high (completes f rest)) has.0 low_fits (λ h'' more'.
        writes_fit know us knows (Some (returns_of know us h f b.stands)) h'' r (suc (2 * i)) high number (completes f rest) (knows.word_more h' h'' r (suc (2 * i)) number more' has.1.0) high_fits (λ h3 more3.
        let all = knows.both h h'' h3 (knows.both h h' h'' more more') more3 in
        let b' = begins_more know us knows accepted h h3 all f lastore b in
        completes_fit know us knows accepted me h3 f lastore b' rest refl (record { locals_fit = b'.stands.locals; stack_fits = types_more know us knows (env_of us f.method b.stands.of) b.stands.unset h h3 rest _ all left; set = b'.stands.set }))))

    pub lastore_fits : (h : P) (f : Frame) (b : Begins know us h f lastore) → RowFits know us knows accepted me h f lastore b
    lastore_fits h f b =
        let (high, low, vs, are, high_fits, low_fits, (i, rs, are', i_fits, (r, rest, are'', r_fits, left))) = takes know us knows accepted me h f lastore b in
        subst (λ s. Fit know us knows accepted me h f lastore b (stores_long f s)) (sym (are ∙ ap (λ s. high ∷ low ∷ s) (are' ∙ ap (λ s. i ∷ s) are'')))
        (by_longs h f b high low i r rest _ high_fits low_fits r_fits left)
