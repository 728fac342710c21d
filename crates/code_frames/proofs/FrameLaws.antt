-- The two laws of a frame: what is read is what the layout puts there, and what the layout puts there is read.
use Rattle.std.proofs.Common.{◌≡◌, ℕ, zero, suc, ◌+◌, ◌-◌, ◌^◌, ◌<◌, ◌≤◌, List, [], ◌∷◌, ◌++◌, length, Some, refl, sym, ap, subst, ◌∙◌, arith, inl, inr}
use Rattle.std.specs.Prelude.{◌==◌, nat_lt, ◌⊎◌}
use Rattle.std.specs.List.{flat_map}
use Rattle.std.proofs.lemmas.Bool.{eqb-true, eqb-false, ltb-true, ltb-false, lt-ltb, le-ltb}
use Rattle.class_walk.specs.declared.class.Constant.{Constant}
use Rattle.class_walk.specs.Layout.{u1, u2, table, IsCounted}
use Rattle.class_walk.proofs.Fields.{wide1, wide2}
use Rattle.instructions.specs.declared.what.Instr.{Instr}
use Rattle.instructions.specs.declared.what.Target.{Target}
use Rattle.instructions.specs.Steps.{number_at}
use Rattle.code_frames.specs.declared.types.VType.{VType}
use Rattle.code_frames.specs.declared.types.LocalsChange.{LocalsChange}
use Rattle.code_frames.specs.declared.types.LocalsChange.TheVariants.{Same, Append, Chop, Full}
use Rattle.code_frames.specs.declared.types.MapFrame.{MapFrame}
use Rattle.code_frames.specs.declared.form.FrameForm.{FrameForm}
use Rattle.code_frames.specs.declared.form.FrameForm.TheVariants as forms
use Rattle.code_frames.specs.Locals.{count_after}
use Rattle.code_frames.specs.StackMap.{item, IsItem, IsFrameText, IsChange, Previous, BeginsWith}
use Rattle.class_walk.specs.Layout.{IsBytes}
use Rattle.code_frames.specs.Reading.{unsigned_at, item_at, items_at, items_table_at, form_of, delta_at, content_at, frame_at}
use Rattle.code_frames.proofs.ByteLaws.{Takes, Takes-then, split_then, bind_then, found, some_is, chosen, unsigned_takes, unsigned_again}
use Rattle.code_frames.proofs.ItemLaws.{item_takes, item_again, items_take, items_again, table_takes, table_again}

-- ---- kinds and forms

-- the kinds of a form
abbrev IsKind : ℕ → FrameForm → Type 0
IsKind kind forms.Same = (kind < 64) ⊎ (kind ≡ 251)
IsKind kind forms.OneItem = ((64 ≤ kind) × (kind < 128)) ⊎ (kind ≡ 247)
IsKind kind (forms.Chop removed) = (0 < removed) × (removed ≤ 3) × (kind ≡ 251 - removed)
IsKind kind (forms.Append added) = (0 < added) × (added ≤ 3) × (kind ≡ 251 + added)
IsKind kind forms.Full = 255 ≤ kind

is_kind : (kind : ℕ) (form wanted : FrameForm) → IsKind kind form → Some form ≡ Some wanted → IsKind kind wanted
is_kind kind form wanted is same = subst (λ (f : FrameForm). IsKind kind f) (some_is form wanted same) is

kind_of : (kind : ℕ) (form : FrameForm) → form_of kind ≡ Some form → IsKind kind form
unfolding form_of
kind_of kind form e =
    chosen (nat_lt kind 64) _ _ _ _ e (λ t e. is_kind kind forms.Same form (inl (ltb-true _ _ t)) e) (λ a e.
    chosen (nat_lt kind 128) _ _ _ _ e (λ t e. is_kind kind forms.OneItem form (inl (ltb-false _ _ a, ltb-true _ _ t)) e) (λ b e.
    chosen (nat_lt kind 247) _ _ _ _ e (λ t e. absurd cc) (λ c e.
    chosen (kind == 247) _ _ _ _ e (λ t e. is_kind kind forms.OneItem form (inr (eqb-true _ _ t)) e) (λ d e.
    chosen (nat_lt kind 251) _ _ _ _ e (λ t e.
    let low : 247 ≤ kind = ltb-false _ _ c in
    let high : kind < 251 = ltb-true _ _ t in
    let other : kind ≡ 247 → ⊥ = eqb-false _ _ d in
    is_kind kind (forms.Chop (251 - kind)) form (omega arith, omega arith, omega arith) e) (λ f e.
    chosen (kind == 251) _ _ _ _ e (λ t e. is_kind kind forms.Same form (inr (eqb-true _ _ t)) e) (λ g e.
    chosen (nat_lt kind 255) _ _ _ _ e (λ t e.
    let low : 251 ≤ kind = ltb-false _ _ f in
    let high : kind < 255 = ltb-true _ _ t in
    let other : kind ≡ 251 → ⊥ = eqb-false _ _ g in
    is_kind kind (forms.Append (kind - 251)) form (omega arith, omega arith, omega arith) e) (λ h e.
    is_kind kind forms.Full form (ltb-false _ _ h) e)))))))

form_short : (kind : ℕ) → kind < 64 → form_of kind ≡ Some forms.Same
unfolding form_of
form_short kind lt = rw (lt-ltb kind 64 lt) refl

form_one : (kind : ℕ) → 64 ≤ kind → kind < 128 → form_of kind ≡ Some forms.OneItem
unfolding form_of
form_one kind le lt = rw (le-ltb kind 64 le, lt-ltb kind 128 lt) refl

form_chop : (removed : ℕ) → 0 < removed → removed ≤ 3 → form_of (251 - removed) ≡ Some (forms.Chop removed)
unfolding form_of
form_chop zero some few = absurd (omega arith)
form_chop (suc zero) some few = refl
form_chop (suc (suc zero)) some few = refl
form_chop (suc (suc (suc zero))) some few = refl
form_chop (suc (suc (suc (suc n)))) some few = absurd (omega arith)

form_append : (added : ℕ) → 0 < added → added ≤ 3 → form_of (251 + added) ≡ Some (forms.Append added)
unfolding form_of
form_append zero some few = absurd (omega arith)
form_append (suc zero) some few = refl
form_append (suc (suc zero)) some few = refl
form_append (suc (suc (suc zero))) some few = refl
form_append (suc (suc (suc (suc n)))) some few = absurd (omega arith)

delta_short : (kind : ℕ) (bytes : List ℕ) → kind < 64 → delta_at kind bytes ≡ found kind bytes
unfolding delta_at
delta_short kind bytes lt = rw (lt-ltb kind 64 lt) refl

delta_one : (kind : ℕ) (bytes : List ℕ) → 64 ≤ kind → kind < 128 → delta_at kind bytes ≡ found (kind - 64) bytes
unfolding delta_at
delta_one kind bytes le lt = rw (le-ltb kind 64 le, lt-ltb kind 128 lt) refl

delta_long : (kind : ℕ) (bytes : List ℕ) → 128 ≤ kind → delta_at kind bytes ≡ unsigned_at 2 bytes
unfolding delta_at
delta_long kind bytes le = rw (le-ltb kind 64 (omega arith), le-ltb kind 128 le) refl

-- ---- what is read

-- the locals and the stack of a frame, and the bytes after it
abbrev Content : Type 0
Content = (LocalsChange × List VType) × List ℕ

abbrev content : LocalsChange → List VType → List ℕ → Content
content change stack others = ((change, stack), others)

-- a frame with this distance from the one before
record IsRead (pool : List Constant) (steps : List (Instr Target)) (locals delta : ℕ) (bytes : List ℕ) (c : Content) : Type 0 where
  pub text : List ℕ
  pub width : delta < 2 ^ 16
  pub spelled : IsFrameText delta c.0.0 c.0.1 text
  pub taken : Takes bytes text c.1
  pub change : IsChange pool steps locals c.0.0
  pub stack : IsCounted (IsItem pool steps) c.0.1

abbrev both : ℕ → List ℕ → ℕ × List ℕ
both n others = (n, others)

short_takes : (kind : ℕ) (delta : ℕ) (bytes others front : List ℕ) → kind < 64 → Takes front (u1 kind) bytes → delta_at kind bytes ≡ found delta others → (delta < 64) × Takes front (u1 delta) others
short_takes kind delta bytes others front lt taken e =
    let same : both kind bytes ≡ both delta others = some_is (kind, bytes) (delta, others) (sym (delta_short kind bytes lt) ∙ e) in
    subst (λ (p : ℕ × List ℕ). (p.0 < 64) × Takes front (u1 p.0) p.1) {x = (kind, bytes)} same (lt, taken)

one_takes : (kind : ℕ) (delta : ℕ) (bytes others front : List ℕ) → 64 ≤ kind → kind < 128 → Takes front (u1 kind) bytes → delta_at kind bytes ≡ found delta others → (delta < 64) × Takes front (u1 (64 + delta)) others
one_takes kind delta bytes others front le lt taken e =
    let same : both (kind - 64) bytes ≡ both delta others = some_is (kind - 64, bytes) (delta, others) (sym (delta_one kind bytes le lt) ∙ e) in
    let back : kind ≡ 64 + (kind - 64) = omega arith in
    subst (λ (p : ℕ × List ℕ). (p.0 < 64) × Takes front (u1 (64 + p.0)) p.1) {x = (kind - 64, bytes)} same
    (omega arith, subst (λ (n : ℕ). Takes front (u1 n) bytes) back taken)

long_takes : (kind wanted : ℕ) (delta : ℕ) (bytes others front : List ℕ) → kind ≡ wanted → 128 ≤ wanted → Takes front (u1 kind) bytes → delta_at kind bytes ≡ found delta others → Takes front (u1 wanted ++ u2 delta) others × (delta < 2 ^ 16)
long_takes kind wanted delta bytes others front is le taken e =
    let number = unsigned_takes 2 wide2 bytes delta others taken.fits (sym (delta_long kind bytes (omega arith)) ∙ e) in
    (Takes-then (subst (λ (n : ℕ). Takes front (u1 n) bytes) is taken) number.0, number.1)

content_takes : (pool : List Constant) (steps : List (Instr Target)) (locals kind : ℕ) (form : FrameForm) (bytes front : List ℕ) (delta : ℕ) (rest : List ℕ) (c : Content)
    → IsKind kind form → kind < 256 → Takes front (u1 kind) bytes → delta_at kind bytes ≡ found delta rest → content_at pool steps locals form rest ≡ Some c
    → IsRead pool steps locals delta front c
unfolding content_at
content_takes pool steps locals kind forms.Same bytes front delta rest c is small taken read e =
    subst (λ (y : Content). IsRead pool steps locals delta front y) {x = content Same [] rest} (some_is (content Same [] rest) c e)
    (elim is [
      | inl lt ↦
          let d = short_takes kind delta bytes rest front lt taken read in
          record { text = u1 delta; width = omega (arith, d.0); spelled = inl (d.0, refl); taken = d.1; change = tt; stack = (omega arith, tt) }
      | inr at ↦
          let d = long_takes kind 251 delta bytes rest front at (omega arith) taken read in
          record { text = u1 251 ++ u2 delta; width = d.1; spelled = inr refl; taken = d.0; change = tt; stack = (omega arith, tt) }
    ])
content_takes pool steps locals kind forms.OneItem bytes front delta rest c is small taken read e =
    bind_then (item_at pool steps rest) _ _ _ e (λ x item_read e.
    subst (λ (y : Content). IsRead pool steps locals delta front y) {x = content Same (x.0 ∷ []) x.1} (some_is (content Same (x.0 ∷ []) x.1) c e)
    (elim is [
      | inl range ↦
          let d = one_takes kind delta bytes rest front range.0 range.1 taken read in
          let i = item_takes pool steps rest x.0 x.1 d.1.fits item_read in
          record { text = u1 (64 + delta) ++ item x.0; width = omega (arith, d.0); spelled = inl (d.0, refl); taken = Takes-then d.1 i.0; change = tt; stack = (omega arith, (i.1, tt)) }
      | inr at ↦
          let d = long_takes kind 247 delta bytes rest front at (omega arith) taken read in
          let i = item_takes pool steps rest x.0 x.1 d.0.fits item_read in
          record { text = u1 247 ++ u2 delta ++ item x.0; width = d.1; spelled = inr refl; taken = Takes-then d.0 i.0; change = tt; stack = (omega arith, (i.1, tt)) }
    ]))
content_takes pool steps locals kind (forms.Chop removed) bytes front delta rest c is small taken read e =
    chosen (nat_lt locals removed) _ _ _ _ e (λ many none. absurd cc) (λ few same.
    let d = long_takes kind (251 - removed) delta bytes rest front is.2 (omega (arith, is.1)) taken read in
    subst (λ (y : Content). IsRead pool steps locals delta front y) {x = content (Chop removed) [] rest} (some_is (content (Chop removed) [] rest) c same)
    (record { text = u1 (251 - removed) ++ u2 delta; width = d.1; spelled = (is.0, is.1, refl); taken = d.0; change = ltb-false _ _ few; stack = (omega arith, tt) }))
content_takes pool steps locals kind (forms.Append added) bytes front delta rest c is small taken read e =
    bind_then (items_at pool steps added rest) _ _ _ e (λ xs items_read e.
    let d = long_takes kind (251 + added) delta bytes rest front is.2 (omega arith) taken read in
    let i = items_take pool steps added rest xs.0 xs.1 d.0.fits items_read in
    subst (λ (y : Content). IsRead pool steps locals delta front y) {x = content (Append xs.0) [] xs.1} (some_is (content (Append xs.0) [] xs.1) c e)
    (record {
      text = u1 (251 + length xs.0) ++ u2 delta ++ flat_map item xs.0;
      width = d.1;
      spelled = (omega (arith, is.0, i.1), omega (arith, is.1, i.1), refl);
      taken = subst (λ (n : ℕ). Takes front (u1 (251 + n) ++ u2 delta ++ flat_map item xs.0) xs.1) (sym i.1) (Takes-then d.0 i.0);
      change = i.2;
      stack = (omega arith, tt);
    }))
content_takes pool steps locals kind forms.Full bytes front delta rest c is small taken read e =
    bind_then (items_table_at pool steps rest) _ _ _ e (λ xs locals_read e.
    bind_then (items_table_at pool steps xs.1) _ _ _ e (λ ys stack_read e.
    let d = long_takes kind 255 delta bytes rest front (omega (arith, is)) (omega arith) taken read in
    let i = table_takes pool steps rest xs.0 xs.1 d.0.fits locals_read in
    let j = table_takes pool steps xs.1 ys.0 ys.1 i.0.fits stack_read in
    subst (λ (y : Content). IsRead pool steps locals delta front y) {x = content (Full xs.0) ys.0 ys.1} (some_is (content (Full xs.0) ys.0 ys.1) c e)
    (record {
      text = u1 255 ++ u2 delta ++ table item xs.0 ++ table item ys.0;
      width = d.1;
      spelled = refl;
      taken = Takes-then (Takes-then d.0 i.0) j.0;
      change = i.1;
      stack = j.1;
    })))

-- a frame at the front, and bytes after it
pub record IsFrontFrame (pool : List Constant) (steps : List (Instr Target)) (previous : Previous) (bytes : List ℕ) (f : MapFrame) (others : List ℕ) : Type 0 where
  pub begins : BeginsWith pool steps previous bytes f others
  pub fits : IsBytes others

abbrev made : Previous → ℕ → ℕ → Content → MapFrame × List ℕ
made previous delta step c = (record { at = previous.least + delta; step = step; locals = c.0.0; stack = c.0.1 }, c.1)

pub frame_takes : (pool : List Constant) (steps : List (Instr Target)) (previous : Previous) (bytes : List ℕ) (f : MapFrame) (others : List ℕ) → IsBytes bytes
    → frame_at pool steps previous bytes ≡ Some (f, others) → IsFrontFrame pool steps previous bytes f others
unfolding frame_at
frame_takes pool steps previous bytes f others fits e =
    bind_then (unsigned_at 1 bytes) _ _ _ e (λ kind kind_read e.
    bind_then (form_of kind.0) _ _ _ e (λ form form_is e.
    bind_then (delta_at kind.0 kind.1) _ _ _ e (λ delta delta_read e.
    bind_then (number_at steps (previous.least + delta.0)) _ _ _ e (λ step there e.
    bind_then (content_at pool steps previous.locals form delta.1) _ _ _ e (λ c content_read e.
    let t = unsigned_takes 1 wide1 bytes kind.0 kind.1 fits kind_read in
    let r = content_takes pool steps previous.locals kind.0 form kind.1 bytes delta.0 delta.1 c (kind_of kind.0 form form_is) (omega (arith, t.1)) t.0 delta_read content_read in
    subst (λ (y : MapFrame × List ℕ). IsFrontFrame pool steps previous bytes y.0 y.1) {x = made previous delta.0 step c} (some_is _ (f, others) e)
    (record {
      begins = record { delta = delta.0; text = r.text; width = r.width; offset = refl; step = there; locals = r.change; stack = r.stack; spelled = r.spelled; parts = r.taken.parts };
      fits = r.taken.fits;
    }))))))

-- ---- what is read again

-- the parts of a frame, as they are read
record IsReadAgain (pool : List Constant) (steps : List (Instr Target)) (locals delta : ℕ) (bytes : List ℕ) (change : LocalsChange) (stack : List VType) (others : List ℕ) : Type 0 where
  pub kind : ℕ
  pub form : FrameForm
  pub behind_kind : List ℕ
  pub behind_delta : List ℕ
  pub kind_is : unsigned_at 1 bytes ≡ found kind behind_kind
  pub form_is : form_of kind ≡ Some form
  pub delta_is : delta_at kind behind_kind ≡ found delta behind_delta
  pub content_is : content_at pool steps locals form behind_delta ≡ Some (content change stack others)

-- a kind that has the distance in itself
short_again : (pool : List Constant) (steps : List (Instr Target)) (locals delta kind : ℕ) (form : FrameForm) (bytes rest : List ℕ) (change : LocalsChange) (stack : List VType) (others : List ℕ)
    → kind < 256 → bytes ≡ u1 kind ++ rest → form_of kind ≡ Some form → delta_at kind rest ≡ found delta rest → content_at pool steps locals form rest ≡ Some (content change stack others)
    → IsReadAgain pool steps locals delta bytes change stack others
short_again pool steps locals delta kind form bytes rest change stack others small parts form_is delta_is content_is =
    record { kind = kind; form = form; behind_kind = rest; behind_delta = rest; kind_is = unsigned_again 1 bytes kind rest small parts; form_is = form_is; delta_is = delta_is; content_is = content_is }

-- a kind that has the distance after it
long_again : (pool : List Constant) (steps : List (Instr Target)) (locals delta kind : ℕ) (form : FrameForm) (bytes rest : List ℕ) (change : LocalsChange) (stack : List VType) (others : List ℕ)
    → 128 ≤ kind → kind < 256 → delta < 2 ^ 16 → bytes ≡ (u1 kind ++ u2 delta) ++ rest → form_of kind ≡ Some form → content_at pool steps locals form rest ≡ Some (content change stack others)
    → IsReadAgain pool steps locals delta bytes change stack others
long_again pool steps locals delta kind form bytes rest change stack others large small width parts form_is content_is =
    split_then bytes (u1 kind) (u2 delta) rest _ parts (λ behind first second.
    record {
      kind = kind;
      form = form;
      behind_kind = behind;
      behind_delta = rest;
      kind_is = unsigned_again 1 bytes kind behind small first;
      form_is = form_is;
      delta_is = delta_long kind behind large ∙ unsigned_again 2 behind delta rest width second;
      content_is = content_is;
    })

text_parts : (bytes text wanted others : List ℕ) → bytes ≡ text ++ others → text ≡ wanted → bytes ≡ wanted ++ others
text_parts bytes text wanted others parts is = parts ∙ ap (λ (t : List ℕ). t ++ others) is

content_again : (pool : List Constant) (steps : List (Instr Target)) (locals delta : ℕ) (bytes : List ℕ) (change : LocalsChange) (stack : List VType) (text others : List ℕ)
    → delta < 2 ^ 16 → IsFrameText delta change stack text → IsChange pool steps locals change → IsCounted (IsItem pool steps) stack → bytes ≡ text ++ others
    → IsReadAgain pool steps locals delta bytes change stack others
unfolding content_at form_of
content_again pool steps locals delta bytes Same [] text others width spelled right items parts =
    elim spelled [
      | inl is ↦ short_again pool steps locals delta delta forms.Same bytes others Same [] others (omega (arith, is.0)) (text_parts bytes text (u1 delta) others parts is.1) (form_short delta is.0) (delta_short delta others is.0) refl
      | inr is ↦ long_again pool steps locals delta 251 forms.Same bytes others Same [] others (omega arith) (omega arith) width (text_parts bytes text (u1 251 ++ u2 delta) others parts is) refl refl
    ]
content_again pool steps locals delta bytes Same (x ∷ []) text others width spelled right items parts =
    elim spelled [
      | inl is ↦
          split_then bytes (u1 (64 + delta)) (item x) others _ (text_parts bytes text (u1 (64 + delta) ++ item x) others parts is.1) (λ rest first second.
          let back : (64 + delta) - 64 ≡ delta = omega arith in
          let one : delta_at (64 + delta) rest ≡ found delta rest = delta_one (64 + delta) rest (omega arith) (omega (arith, is.0)) ∙ ap (λ (n : ℕ). found n rest) back in
          let read : content_at pool steps locals forms.OneItem rest ≡ Some (content Same (x ∷ []) others) = rw (item_again pool steps x rest others items.1.0 second) refl in
          short_again pool steps locals delta (64 + delta) forms.OneItem bytes rest Same (x ∷ []) others (omega (arith, is.0)) first (form_one (64 + delta) (omega arith) (omega (arith, is.0))) one read)
      | inr is ↦
          split_then bytes (u1 247 ++ u2 delta) (item x) others _ (text_parts bytes text (u1 247 ++ u2 delta ++ item x) others parts is) (λ rest first second.
          let read : content_at pool steps locals forms.OneItem rest ≡ Some (content Same (x ∷ []) others) = rw (item_again pool steps x rest others items.1.0 second) refl in
          long_again pool steps locals delta 247 forms.OneItem bytes rest Same (x ∷ []) others (omega arith) (omega arith) width first refl read)
    ]
content_again pool steps locals delta bytes (Chop removed) [] text others width spelled right items parts =
    let read : content_at pool steps locals (forms.Chop removed) others ≡ Some (content (Chop removed) [] others) = rw (le-ltb locals removed right) refl in
    long_again pool steps locals delta (251 - removed) (forms.Chop removed) bytes others (Chop removed) [] others (omega (arith, spelled.1)) (omega (arith, spelled.0)) width
    (text_parts bytes text (u1 (251 - removed) ++ u2 delta) others parts spelled.2) (form_chop removed spelled.0 spelled.1) read
content_again pool steps locals delta bytes (Append added) [] text others width spelled right items parts =
    split_then bytes (u1 (251 + length added) ++ u2 delta) (flat_map item added) others _ (text_parts bytes text (u1 (251 + length added) ++ u2 delta ++ flat_map item added) others parts spelled.2) (λ rest first second.
    let read : content_at pool steps locals (forms.Append (length added)) rest ≡ Some (content (Append added) [] others) = rw (items_again pool steps added rest others right second) refl in
    long_again pool steps locals delta (251 + length added) (forms.Append (length added)) bytes rest (Append added) [] others (omega arith) (omega (arith, spelled.1)) width first (form_append (length added) spelled.0 spelled.1) read)
content_again pool steps locals delta bytes (Full all) stack text others width spelled right items parts =
    split_then bytes (u1 255 ++ u2 delta ++ table item all) (table item stack) others _ (text_parts bytes text (u1 255 ++ u2 delta ++ table item all ++ table item stack) others parts spelled) (λ behind front last.
    split_then bytes (u1 255 ++ u2 delta) (table item all) behind _ front (λ rest first second.
    let read : content_at pool steps locals forms.Full rest ≡ Some (content (Full all) stack others) = rw (table_again pool steps all rest behind right second, table_again pool steps stack behind others items last) refl in
    long_again pool steps locals delta 255 forms.Full bytes rest (Full all) stack others (omega arith) (omega arith) width first refl read))
content_again pool steps locals delta bytes _ _ text others width spelled right items parts = absurd spelled

pub frame_again : (pool : List Constant) (steps : List (Instr Target)) (previous : Previous) (bytes : List ℕ) (f : MapFrame) (others : List ℕ)
    → BeginsWith pool steps previous bytes f others → frame_at pool steps previous bytes ≡ Some (f, others)
unfolding frame_at
frame_again pool steps previous bytes f others b =
    let r = content_again pool steps previous.locals b.delta bytes f.locals f.stack b.text others b.width b.spelled b.locals b.stack b.parts in
    let there : number_at steps (previous.least + b.delta) ≡ Some f.step = ap (number_at steps) (sym b.offset) ∙ b.step in
    let whole : MapFrame × List ℕ = made previous b.delta f.step (content f.locals f.stack others) in
    let read : frame_at pool steps previous bytes ≡ Some whole = rw (r.kind_is, r.form_is, r.delta_is, there, r.content_is) refl in
    read ∙ ap (λ (at : ℕ). Some (shown at, others)) (sym b.offset)
  where
    shown : ℕ → MapFrame
    shown at = record { at = at; step = f.step; locals = f.locals; stack = f.stack }

-- ---- frames one after another

-- a frame that is read once more is the same
pub frame_once : (pool : List Constant) (steps : List (Instr Target)) (previous : Previous) (bytes : List ℕ) (f g : MapFrame) (a b : List ℕ)
    → BeginsWith pool steps previous bytes f a → BeginsWith pool steps previous bytes g b → (f ≡ g) × (a ≡ b)
frame_once pool steps previous bytes f g a b x y =
    let same : (f, a) ≡ (g, b) = some_is (f, a) (g, b) (sym (frame_again pool steps previous bytes f a x) ∙ frame_again pool steps previous bytes g b y) in
    (ap (λ (p : MapFrame × List ℕ). p.0) same, ap (λ (p : MapFrame × List ℕ). p.1) same)

-- the locals grow by less than 2 ^ 16
pub few_locals : (pool : List Constant) (steps : List (Instr Target)) (previous : Previous) (bytes : List ℕ) (f : MapFrame) (others : List ℕ)
    → BeginsWith pool steps previous bytes f others → count_after previous.locals f.locals ≤ previous.locals + 65535
few_locals pool steps previous bytes f others b = few f.locals f.stack b.spelled b.locals
  where
    few : (change : LocalsChange) (stack : List VType) → IsFrameText b.delta change stack b.text → IsChange pool steps previous.locals change → count_after previous.locals change ≤ previous.locals + 65535
    few Same stack spelled right = omega arith
    few (Append added) [] spelled right = omega (arith, spelled.1)
    few (Append added) (x ∷ stack) spelled right = absurd spelled
    few (Chop removed) stack spelled right = omega arith
    few (Full all) stack spelled right = omega (arith, right.0)
