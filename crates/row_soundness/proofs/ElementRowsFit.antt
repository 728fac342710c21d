-- The rows that load elements of arrays, and aastore (JVMS 6.5).
use Rattle.std.proofs.Common.{◌≡◌, ◌≢◌, ◌<◌, ◌==◌, ◌*◌, ◌-◌, ◌||◌, ◌&&◌, nat_lt, ℕ, Bool, true, false, inl, inr, Option, Some, List, [], ◌∷◌, ◌++◌, drop, refl, sym, ap, subst, ◌∙◌, if◌then◌else◌}
use Rattle.std.proofs.lemmas.Bool.{and_parts, ltb-true, eqb-true, eq-eqb}
use Rattle.builtin_world.specs.declared.number.TheConstants.{OBJECT, ARRAY_INDEX_OUT_OF_BOUNDS_EXCEPTION, ARRAY_STORE_EXCEPTION}
use Rattle.code_decode.specs.declared.code.ClassUnit.{ClassUnit}
use Rattle.instructions.specs.declared.operation.ElementKind.{ElementKind}
use Rattle.instructions.specs.declared.what.Instr.{Instr}
use Rattle.instructions.specs.declared.what.Target.{Target}
use Rattle.link_types.specs.declared.types.ElementType.{ElementType}
use Rattle.link_types.specs.declared.types.ObjectType.{ObjectType}
use Rattle.link_types.specs.declared.types.ObjectType.TheVariants.{Class, Other, Array}
use Rattle.link_types.specs.declared.types.ValueType.{ValueType}
use Rattle.type_rules.specs.declared.types.VerificationType.{VerificationType}
use Rattle.type_rules.specs.declared.types.VerificationType.TheVariants.{Object}
use Rattle.type_rules.specs.Environment.{on_stack, Environment, TypeFrame, type_of_value}
use Rattle.type_rules.specs.FrameAfter.{plain_pushes, element_of, type_of_element, stack_at}
use Rattle.type_rules.specs.Wants.{is_class_element, an_int, an_array_of, words_wanted, array_wanted, element_types, is_array_of_one, is_array_of_references}
use Rattle.java_rows.specs.Numbers.{is_index}
use Rattle.java_rows.specs.Objects.{at_element, reads_element, loads_element, stores_reference, stores_checked, reads_word}
use Rattle.java_rows.specs.Plan.{Frame, Plan, completes, fails, asks_class, writes}
use Rattle.java_rows.specs.Program.{takes_element}
use Rattle.row_soundness.specs.Senses.{Sense, reference, IsReference}
use Rattle.row_soundness.specs.Fits.{Unset, Holds, HaveTypes, ValueFits, Returns, StandsIn, returns_of, PlanFits, anything, env_of}
use Rattle.row_soundness.specs.Operands.{Begins, Operands, IsTested, at_offset}
use Rattle.row_soundness.specs.Knowledge.{Knows, AreElements, HasWords, IsNumeric, element_place, element_contents, element_reference}
use Rattle.row_soundness.specs.Accepted.{Accepted}
use Rattle.row_soundness.proofs.Basics.{append_typed, types_more, reference_more}
use Rattle.row_soundness.proofs.Flow.{stands_more, begins_more}
use Rattle.row_soundness.proofs.Plans.{reads_fit, writes_fit, asks_class_fit}
use Rattle.row_soundness.proofs.RowBasics.{RowFits, takes, Fit, fails_fit, completes_fit}
use Rattle.row_soundness.proofs.ReadValues.{value_read, value_typed, unless_null_fits, there}
use Rattle.instructions.specs.declared.operation.ElementKind.TheVariants as elements
use Rattle.instructions.specs.declared.operation.Plain.TheVariants as plain
use Rattle.instructions.specs.declared.what.What.TheVariants as whats
use Rattle.link_types.specs.declared.types.ElementType.TheVariants as element
use Rattle.link_types.specs.declared.types.ValueType.TheVariants as values

-- the elements of an array of references are references
reference_element : (s : ObjectType) → is_array_of_references s ≡ true → (x : ObjectType) × (element_of (Object s) ≡ Object x)
reference_element (Class c) e = cc
reference_element (Other m) e = cc
reference_element (Array d y) e = by_one (d == 1) refl
  where
    of_element : (y : ElementType) → is_class_element y ≡ true → (x : ObjectType) × (type_of_element y ≡ Object x)
    of_element (element.Class c) e = (Class c, refl)
    of_element (element.Other n) e = (Other n, refl)
    of_element y e = cc

    by_one : (b : Bool) → (d == 1) ≡ b → (x : ObjectType) × ((if d == 1 then type_of_element y else Object (Array (d - 1) y)) ≡ Object x)
    by_one true one =
        let array : (nat_lt 1 1 || ((1 == 1) && is_class_element y)) ≡ true = subst (λ n. (nat_lt 1 n || ((n == 1) && is_class_element y)) ≡ true) (eqb-true d 1 one) e in
        let (x, is) = of_element y array in
        (x, ap (λ b. if b then type_of_element y else Object (Array (d - 1) y)) one ∙ is)
    by_one false one = (Array (d - 1) y, ap (λ b. if b then type_of_element y else Object (Array (d - 1) y)) one)

module _ {P : Type 0} (know : Sense P) (us : List ClassUnit) (knows : Knows know us) (accepted : Accepted us) (me : ℕ) where
  -- after the check for null, the class of the array is asked and the index is checked
  pub element_fits : (h : P) (f : Frame) (s : StandsIn know us h f) (r i : ℕ) (t : ObjectType) (k : ℕ → Plan) → (r ≢ 0 → know.is_of h r t)
      → ((h' : P) (c n : ℕ) → know.extends h h' → r ≢ 0 → know.is_of h' r t → know.is_exactly h' r c n → i < n → PlanFits know us (Some (returns_of know us h f s)) anything (k c) h')
      → PlanFits know us (Some (returns_of know us h f s)) anything (at_element f r i k) h
  element_fits h f s r i t k of next =
      unless_null_fits know us knows accepted me h f s r (asks_class r (λ c n. if is_index i n then k c else fails f ARRAY_INDEX_OUT_OF_BOUNDS_EXCEPTION)) (λ other.
      asks_class_fit know us knows (Some (returns_of know us h f s)) h r (λ c n. if is_index i n then k c else fails f ARRAY_INDEX_OUT_OF_BOUNDS_EXCEPTION)
      (knows.looks h r (knows.there_of h r t (knows.raw_of h r t (of other)))) (λ h' c n more is.
      by_test other h' c n more (knows.of_more h h' r t more (of other)) is (is_index i n) refl))
    where
      by_test : r ≢ 0 → (h' : P) (c n : ℕ) → know.extends h h' → know.is_of h' r t → know.is_exactly h' r c n → (b : Bool) → is_index i n ≡ b
          → PlanFits know us (Some (returns_of know us h f s)) anything (if b then k c else fails f ARRAY_INDEX_OUT_OF_BOUNDS_EXCEPTION) h'
      by_test other h' c n more of is true e = next h' c n more other of is (ltb-true i n (and_parts _ _ e).1)
      by_test other h' c n more of is false e = fails_fit know us knows accepted me h' f (stands_more know us knows accepted h h' more f s) ARRAY_INDEX_OUT_OF_BOUNDS_EXCEPTION refl

  -- ---- numbers

  abbrev pub number_type : ElementKind → ValueType
  number_type elements.Long = values.Long
  number_type _ = values.Int

  element_read : (h : P) (res : Option Returns) (kind : ElementKind) (r i : ℕ) (k : List ℕ → Plan) → IsNumeric kind → HasWords know h r (element_place kind i) (element_contents kind)
      → ((h' : P) (words : List ℕ) → know.extends h h' → ValueFits know h' (number_type kind) words → PlanFits know us res anything (k words) h')
      → PlanFits know us res anything (reads_element kind r i k) h
  element_read h res elements.Long r i k is has next = value_read know us knows accepted me h res values.Long r (2 * i) k has next
  element_read h res elements.Reference r i k is has next = absurd is
  element_read h res kind r i k is has next = value_read know us knows accepted me h res values.Int r i k has next

  -- what an array of numbers of a kind gives is known by its kind
  pub record IsNumberKind (kind : ElementKind) : Type 0 where
    pub is : IsNumeric kind
    pub pushes : (t : TypeFrame) → plain_pushes (plain.ArrayLoad kind) t ≡ on_stack (type_of_value (number_type kind))
    pub wanted : array_wanted kind ≡ an_array_of (element_types kind)

  module _ (kind : ElementKind) (numbers : IsNumberKind kind) (at next : ℕ) where
    abbrev array_load : Instr Target
    array_load = at_offset at next (whats.Plain (plain.ArrayLoad kind))

    abbrev IsLoaded : (h : P) (f : Frame) → Begins know us h f array_load → List ℕ → Type 0
    IsLoaded h f b rest = HaveTypes know (env_of us f.method b.stands.of) b.stands.unset h rest (drop 2 (b.stands.frames f.step).stack)

    got_element : (h : P) (f : Frame) (b : Begins know us h f array_load) (words rest : List ℕ) → ValueFits know h (number_type kind) words → IsLoaded h f b rest
        → Fit know us knows accepted me h f array_load b (completes f (words ++ rest))
    got_element h f b words rest fits left =
        let env = env_of us f.method b.stands.of in
        let stack : HaveTypes know env b.stands.unset h (words ++ rest) (on_stack (type_of_value (number_type kind)) ++ drop 2 (b.stands.frames f.step).stack) =
        append_typed know env b.stands.unset h words rest _ _ (value_typed know us knows accepted me env b.stands.unset h (number_type kind) words fits) left in
        completes_fit know us knows accepted me h f array_load b (words ++ rest) refl (record {
          locals_fit = b.stands.locals;
          stack_fits = subst (λ w. HaveTypes know env b.stands.unset h (words ++ rest) (plain_pushes (plain.ArrayLoad kind) (b.stands.frames f.step) ++ drop (words_wanted (an_int ∷ w ∷ [])) (b.stands.frames f.step).stack)) (sym numbers.wanted)
              (subst (λ ts. HaveTypes know env b.stands.unset h (words ++ rest) (ts ++ drop 2 (b.stands.frames f.step).stack)) (sym (numbers.pushes (b.stands.frames f.step))) stack);
          set = b.stands.set;
        })

    by_array : (h : P) (f : Frame) (b : Begins know us h f array_load) (i r : ℕ) (rest : List ℕ) (t : VerificationType)
        → IsTested know (env_of us f.method b.stands.of) b.stands.unset h (λ s. is_array_of_one (element_types kind) s ≡ true) r t → IsLoaded h f b rest
        → Fit know us knows accepted me h f array_load b (loads_element f kind (i ∷ r ∷ rest))
    by_array h f b i r rest t (inl null) left =
        element_fits h f b.stands r i (Class OBJECT) (λ c. reads_element kind r i (λ words. completes f (words ++ rest))) (λ other. absurd (other null)) (λ h' c n more other of is within. absurd (other null))
    by_array h f b i r rest t (inr (s, same, of, test)) left =
        element_fits h f b.stands r i s (λ c. reads_element kind r i (λ words. completes f (words ++ rest))) (λ x. of) (λ h' c n more other of' is within.
        element_read h' (Some (returns_of know us h f b.stands)) kind r i (λ words. completes f (words ++ rest)) numbers.is (knows.elements h' r c n i kind s numbers.is of' test is within) (λ h'' words more' fits.
        let both = knows.both h h' h'' more more' in
        got_element h'' f (begins_more know us knows accepted h h'' both f array_load b) words rest fits (types_more know us knows (env_of us f.method b.stands.of) b.stands.unset h h'' rest _ both left)))

    pub load_fits : (h : P) (f : Frame) (b : Begins know us h f array_load) → RowFits know us knows accepted me h f array_load b
    load_fits h f b =
        let (i, rs, are, i_fits, more) = takes know us knows accepted me h f array_load b in
        let (r, rest, are', r_fits, left) = subst (λ w. Operands know (env_of us f.method b.stands.of) b.stands.unset h (b.stands.frames f.step).stack 1 (w ∷ []) rs) numbers.wanted more in
        subst (λ s. Fit know us knows accepted me h f array_load b (loads_element f kind s)) (sym (are ∙ ap (λ s. i ∷ s) are'))
        (by_array h f b i r rest _ r_fits left)

  -- ---- references

  module _ (at next : ℕ) where
    abbrev aaload : Instr Target
    aaload = at_offset at next (whats.Plain (plain.ArrayLoad elements.Reference))

    element_typed : (h h' : P) (c v : ℕ) (s e x : ObjectType) → know.extends h h' → AreElements know us h c s e → IsReference know h' v e → element_of (Object s) ≡ Object x → (env : Environment) (u : Unset) → Holds know env u h' v (element_of (Object s))
    element_typed h h' c v s e x more are v_fits same env u =
        subst (λ t. Holds know env u h' v t) (sym same) (elim v_fits [ inl null ↦ inl null | inr of ↦ inr (are.up h' v x more (ap element_reference same) of) ])

    got_reference : (h : P) (f : Frame) (b : Begins know us h f aaload) (v : ℕ) (rest : List ℕ) → Holds know (env_of us f.method b.stands.of) b.stands.unset h v (element_of (stack_at (b.stands.frames f.step) 1))
        → HaveTypes know (env_of us f.method b.stands.of) b.stands.unset h rest (drop 2 (b.stands.frames f.step).stack) → Fit know us knows accepted me h f aaload b (completes f (v ∷ rest))
    got_reference h f b v rest fits left = completes_fit know us knows accepted me h f aaload b (v ∷ rest) refl (record {
      locals_fit = b.stands.locals;
      stack_fits = on_top (element_of (stack_at (b.stands.frames f.step) 1)) (whole (stack_at (b.stands.frames f.step) 1)) fits;
      set = b.stands.set;
    })
      where
        -- an element is one word
        whole : (t : VerificationType) → on_stack (element_of t) ≡ element_of t ∷ []
        whole (Object (Array dimensions x)) = by_one (dimensions == 1)
          where
            by_one : (one : Bool) → on_stack (if one then type_of_element x else Object (Array (dimensions - 1) x)) ≡ (if one then type_of_element x else Object (Array (dimensions - 1) x)) ∷ []
            by_one false = refl
            by_one true = by_element x
              where
                by_element : (x : ElementType) → on_stack (type_of_element x) ≡ type_of_element x ∷ []
                by_element (element.Class c) = refl
                by_element (element.Other n) = refl
                by_element x = refl
        whole t = refl

        on_top : (t : VerificationType) → on_stack t ≡ t ∷ [] → Holds know (env_of us f.method b.stands.of) b.stands.unset h v t
            → HaveTypes know (env_of us f.method b.stands.of) b.stands.unset h (v ∷ rest) (on_stack t ++ drop 2 (b.stands.frames f.step).stack)
        on_top t e is = subst (λ ts. HaveTypes know (env_of us f.method b.stands.of) b.stands.unset h (v ∷ rest) (ts ++ drop 2 (b.stands.frames f.step).stack)) (sym e) (is, left)

    by_references : (h : P) (f : Frame) (b : Begins know us h f aaload) (i r : ℕ) (rest : List ℕ)
        → IsTested know (env_of us f.method b.stands.of) b.stands.unset h (λ s. is_array_of_references s ≡ true) r (stack_at (b.stands.frames f.step) 1)
        → HaveTypes know (env_of us f.method b.stands.of) b.stands.unset h rest (drop 2 (b.stands.frames f.step).stack)
        → Fit know us knows accepted me h f aaload b (loads_element f elements.Reference (i ∷ r ∷ rest))
    by_references h f b i r rest (inl null) left =
        element_fits h f b.stands r i (Class OBJECT) (λ c. reads_word r i (λ words. completes f (words ++ rest))) (λ other. absurd (other null)) (λ h' c n more other of is within. absurd (other null))
    by_references h f b i r rest (inr (s, same, of, test)) left =
        element_fits h f b.stands r i s (λ c. reads_word r i (λ words. completes f (words ++ rest))) (λ x. of) (λ h' c n more other of' is within.
        let (e, has, elem) = knows.references h' r c n i s of' test is within in
        let (x, x_is) = reference_element s test in
        reads_fit know us knows (Some (returns_of know us h f b.stands)) h' r i (reference e) (λ v. completes f (v ∷ rest)) has (λ h'' v more' fits.
        let both = knows.both h h' h'' more more' in
        got_reference h'' f (begins_more know us knows accepted h h'' both f aaload b) v rest
        (subst (λ t. Holds know (env_of us f.method b.stands.of) b.stands.unset h'' v (element_of t)) (sym same)
        (element_typed h' h'' c v s e x more' elem fits x_is (env_of us f.method b.stands.of) b.stands.unset))
        (types_more know us knows (env_of us f.method b.stands.of) b.stands.unset h h'' rest _ both left)))

    pub aaload_fits : (h : P) (f : Frame) (b : Begins know us h f aaload) → RowFits know us knows accepted me h f aaload b
    aaload_fits h f b =
        let (i, rs, are, i_fits, (r, rest, are', r_fits, left)) = takes know us knows accepted me h f aaload b in
        subst (λ s. Fit know us knows accepted me h f aaload b (loads_element f elements.Reference s)) (sym (are ∙ ap (λ s. i ∷ s) are'))
        (by_references h f b i r rest r_fits left)

    abbrev aastore : Instr Target
    aastore = at_offset at next (whats.Plain (plain.ArrayStore elements.Reference))

    stored : (h : P) (f : Frame) (b : Begins know us h f aastore) (rest : List ℕ) → HaveTypes know (env_of us f.method b.stands.of) b.stands.unset h rest (drop 3 (b.stands.frames f.step).stack)
        → Fit know us knows accepted me h f aastore b (completes f rest)
    stored h f b rest left = completes_fit know us knows accepted me h f aastore b rest refl (record { locals_fit = b.stands.locals; stack_fits = left; set = b.stands.set })

    checked : (h : P) (f : Frame) (b : Begins know us h f aastore) (v c : ℕ) (s e : ObjectType) (k : Plan) → AreElements know us h c s e → IsReference know h v (Class OBJECT)
        → ((h' : P) → know.extends h h' → IsReference know h' v e → PlanFits know us (Some (returns_of know us h f b.stands)) anything k h')
        → PlanFits know us (Some (returns_of know us h f b.stands)) anything (stores_checked us f v c k) h
    checked h f b v c s e k elem v_fits next = by_null (v == 0) refl
      where
        by_class : (h' : P) (d n : ℕ) → know.extends h h' → know.is_of h' v (Class OBJECT) → know.is_exactly h' v d n → (x : Bool) → takes_element us c d ≡ x
            → PlanFits know us (Some (returns_of know us h f b.stands)) anything (if x then k else fails f ARRAY_STORE_EXCEPTION) h'
        by_class h' d n more of is true same = next h' more (inr (elem.stored h' v d n more of is same))
        by_class h' d n more of is false same = fails_fit know us knows accepted me h' f (stands_more know us knows accepted h h' more f b.stands) ARRAY_STORE_EXCEPTION refl

        by_null : (x : Bool) → (v == 0) ≡ x → PlanFits know us (Some (returns_of know us h f b.stands)) anything (if x then k else asks_class v (λ d n. if takes_element us c d then k else fails f ARRAY_STORE_EXCEPTION)) h
        by_null true same = next h (knows.itself h) (inl (eqb-true v 0 same))
        by_null false same =
            let of : know.is_of h v (Class OBJECT) = there know us knows accepted me h v (Class OBJECT) (λ null. let bad : (v == 0) ≡ true = eq-eqb v 0 null in let worse : true ≡ false = sym bad ∙ same in cc) v_fits in
            asks_class_fit know us knows (Some (returns_of know us h f b.stands)) h v (λ d n. if takes_element us c d then k else fails f ARRAY_STORE_EXCEPTION) (knows.looks h v (knows.there_of h v (Class OBJECT) (knows.raw_of h v (Class OBJECT) of))) (λ h' d n more is.
            by_class h' d n more (knows.of_more h h' v (Class OBJECT) more of) is (takes_element us c d) refl)

    pub aastore_fits : (h : P) (f : Frame) (b : Begins know us h f aastore) → RowFits know us knows accepted me h f aastore b
    aastore_fits h f b =
        let (v, vs, are, v_fits, (i, rs, are', i_fits, (r, rest, are'', r_fits, left))) = takes know us knows accepted me h f aastore b in
        subst (λ s. Fit know us knows accepted me h f aastore b (stores_reference us f s)) (sym (are ∙ ap (λ s. v ∷ s) (are' ∙ ap (λ s. i ∷ s) are'')))
        (by_references_to v i r rest v_fits r_fits left)
      where
        by_references_to : (v i r : ℕ) (rest : List ℕ) → IsReference know h v (Class OBJECT) → IsTested know (env_of us f.method b.stands.of) b.stands.unset h (λ s. is_array_of_references s ≡ true) r (stack_at (b.stands.frames f.step) 2)
            → HaveTypes know (env_of us f.method b.stands.of) b.stands.unset h rest (drop 3 (b.stands.frames f.step).stack)
            → Fit know us knows accepted me h f aastore b (stores_reference us f (v ∷ i ∷ r ∷ rest))
        by_references_to v i r rest v_fits (inl null) left =
            element_fits h f b.stands r i (Class OBJECT) (λ c. stores_checked us f v c (writes r i v (completes f rest))) (λ other. absurd (other null)) (λ h' c n more other of is within. absurd (other null))
        by_references_to v i r rest v_fits (inr (s, same, of, test)) left =
            element_fits h f b.stands r i s (λ c. stores_checked us f v c (writes r i v (completes f rest))) (λ x. of) (λ h' c n more other of' is within.
            let (e, has, elem) = knows.references h' r c n i s of' test is within in
            let b' = begins_more know us knows accepted h h' more f aastore b in
            checked h' f b' v c s e (writes r i v (completes f rest)) elem (reference_more know us knows h h' v (Class OBJECT) more v_fits) (λ h'' more' fits. written h' h'' more more' r i v rest c e has left fits))
          where
            written : (h' h'' : P) → know.extends h h' → know.extends h' h'' → (r i v : ℕ) (rest : List ℕ) (c : ℕ) (e : ObjectType) → know.has_word h' r i (reference e)
                → HaveTypes know (env_of us f.method b.stands.of) b.stands.unset h rest (drop 3 (b.stands.frames f.step).stack) → IsReference know h'' v e
                → PlanFits know us (Some (returns_of know us h f b.stands)) anything (writes r i v (completes f rest)) h''
            written h' h'' more more' r i v rest c e has left fits =
                writes_fit know us knows (Some (returns_of know us h f b.stands)) h'' r i v (reference e) (completes f rest) (knows.word_more h' h'' r i (reference e) more' has) fits (λ h3 more3.
                let all = knows.both h h'' h3 (knows.both h h' h'' more more') more3 in
                stored h3 f (begins_more know us knows accepted h h3 all f aastore b) rest (types_more know us knows (env_of us f.method b.stands.of) b.stands.unset h h3 rest _ all left))
