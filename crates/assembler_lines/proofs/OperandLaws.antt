-- What is read of operands is what they say.
use Rattle.std.proofs.Common.{◌≡◌, ℕ, ℤ, List, [], ◌∷◌, Option, Some, None, Result, Ok, Err, option_map, refl, sym, ap, ◌∙◌, subst, inl, inr, codes}
use Rattle.std.specs.Str.{bytes_eq}
use Rattle.std.proofs.lemmas.Option.{same_Some}
use Rattle.instructions.specs.declared.form.Form.{Form}
use Rattle.instructions.specs.declared.form.Form.TheVariants as forms
use Rattle.instructions.specs.declared.operation.PrimitiveType.{PrimitiveType}
use Rattle.instructions.specs.declared.operation.PrimitiveType.TheVariants as primitives
use Rattle.assembler_lines.specs.declared.word.LineRefusal.{LineRefusal}
use Rattle.assembler_lines.specs.declared.word.Word.{Word}
use Rattle.assembler_lines.specs.declared.word.Word.TheVariants.{Plain, Quoted}
use Rattle.assembler_lines.specs.declared.operation.Loaded.{Loaded}
use Rattle.assembler_lines.specs.declared.operation.Loaded.TheVariants as loaded
use Rattle.assembler_lines.specs.declared.operation.Operands.{Operands}
use Rattle.assembler_lines.specs.declared.operation.Operands.TheVariants as operands
use Rattle.decimal_numbers.specs.Numbers.{number_up_to, integer_up_to}
use Rattle.assembler_lines.specs.Operands.{IsNumber, IsInteger, IsName, IsElementType, SaysNone, SaysOne, SaysIncrement, IsLoaded, SaysConstant, SaysMember, IsCount, SaysInterfaceMethod, SaysOperands}
use Rattle.assembler_lines.specs.Front.{◌>>=◌, Fails, Answers, plain_at, only_plain, only_word}
use Rattle.assembler_lines.specs.ReadingSwitches.{table_switch_at, lookup_switch_at}
use Rattle.assembler_lines.specs.ReadingOperands.{none_at, one_at, name_of, increment_at, loaded_of, constant_at, member_words, member_at, element_type, Reads, ReadsOperands}
use Rattle.class_names.proofs.Cases.{chosen, mapped}
use Rattle.assembler_lines.proofs.TextLaws.{text_same}
use Rattle.assembler_lines.proofs.FrontLaws.{bound, plain_takes, only_takes, word_takes, answers, refuses}
use Rattle.assembler_lines.proofs.SwitchLaws.{table_switch_takes, table_switch_again, lookup_switch_takes, lookup_switch_again}

none_takes : (words : List Word) (made : Operands) → none_at words ≡ Some made → SaysNone words made
none_takes [] made e = (refl, sym (same_Some operands.None made e))
none_takes (w ∷ words) made e = absurd cc

none_again : (words : List Word) (made : Operands) → SaysNone words made → none_at words ≡ Some made
none_again words made h = rw (h.0, h.1) refl

-- ---- one word

pub one_takes : {A : Type 0} (Is : List ℕ → A → Type 0) (read : List ℕ → Option A) (make : A → Operands) → ((written : List ℕ) (x : A) → read written ≡ Some x → Is written x)
    → (words : List Word) (made : Operands) → one_at read make words ≡ Some made → SaysOne Is make words made
one_takes {A} Is read make takes words made e =
    let w = bound (only_plain words) (λ (written : List ℕ). read written >>= λ (x : A). Some (make x)) made e in
    let x = bound (read w.0) (λ (x : A). Some (make x)) made w.2 in
    (w.0, x.0, only_takes words w.0 w.1, takes w.0 x.0 x.1, sym (same_Some (make x.0) made x.2))

pub one_again : {A : Type 0} (Is : List ℕ → A → Type 0) (read : List ℕ → Option A) (make : A → Operands) → ((written : List ℕ) (x : A) → Is written x → read written ≡ Some x)
    → (words : List Word) (made : Operands) → SaysOne Is make words made → one_at read make words ≡ Some made
one_again {A} Is read make again words made h =
    let r = again h.0 h.1 h.3 in
    ap (one_at read make) h.2 ∙ rw (r, h.4) refl

one_answers : {A : Type 0} (Is : List ℕ → A → Type 0) (read : List ℕ → Option A) (make : A → Operands) → ((written : List ℕ) (x : A) → read written ≡ Some x → Is written x)
    → ((written : List ℕ) (x : A) → Is written x → read written ≡ Some x) → (words : List Word) (result : Result Operands LineRefusal)
    → Reads result (one_at read make words) → Answers (SaysOne Is make words) result
one_answers Is read make takes again words result g =
    answers (SaysOne Is make words) (one_at read make words) result (one_takes Is read make takes words) (one_again Is read make again words) g

number_answers : (most : ℕ) (make : ℕ → Operands) (words : List Word) (result : Result Operands LineRefusal) → Reads result (one_at (number_up_to most) make words) → Answers (SaysOne (IsNumber most) make words) result
number_answers most make words result g = one_answers (IsNumber most) (number_up_to most) make (λ written x e. e) (λ written x e. e) words result g

integer_answers : (most : ℕ) (make : ℤ → Operands) (words : List Word) (result : Result Operands LineRefusal) → Reads result (one_at (integer_up_to most) make words) → Answers (SaysOne (IsInteger most) make words) result
integer_answers most make words result g = one_answers (IsInteger most) (integer_up_to most) make (λ written x e. e) (λ written x e. e) words result g

name_answers : (make : List ℕ → Operands) (words : List Word) (result : Result Operands LineRefusal) → Reads result (one_at name_of make words) → Answers (SaysOne IsName make words) result
name_answers make words result g = one_answers IsName name_of make (λ written x e. same_Some written x e) (λ written x e. ap (λ (n : List ℕ). Some n) e) words result g

element_takes : (written : List ℕ) (element : PrimitiveType) → element_type written ≡ Some element → IsElementType written element
element_takes written element e =
    elim (chosen (bytes_eq written (codes "boolean")) (Some primitives.Boolean) _ (Some element) e) [
      | inl t ↦ subst (IsElementType written) (same_Some primitives.Boolean element t.1) (text_same written (codes "boolean") t.0)
      | inr f1 ↦ elim (chosen (bytes_eq written (codes "char")) (Some primitives.Char) _ (Some element) f1.1) [
        | inl t ↦ subst (IsElementType written) (same_Some primitives.Char element t.1) (text_same written (codes "char") t.0)
        | inr f2 ↦ elim (chosen (bytes_eq written (codes "byte")) (Some primitives.Byte) _ (Some element) f2.1) [
          | inl t ↦ subst (IsElementType written) (same_Some primitives.Byte element t.1) (text_same written (codes "byte") t.0)
          | inr f3 ↦ elim (chosen (bytes_eq written (codes "short")) (Some primitives.Short) _ (Some element) f3.1) [
            | inl t ↦ subst (IsElementType written) (same_Some primitives.Short element t.1) (text_same written (codes "short") t.0)
            | inr f4 ↦ elim (chosen (bytes_eq written (codes "int")) (Some primitives.Int) _ (Some element) f4.1) [
              | inl t ↦ subst (IsElementType written) (same_Some primitives.Int element t.1) (text_same written (codes "int") t.0)
              | inr f5 ↦ elim (chosen (bytes_eq written (codes "long")) (Some primitives.Long) None (Some element) f5.1) [
                | inl t ↦ subst (IsElementType written) (same_Some primitives.Long element t.1) (text_same written (codes "long") t.0)
                | inr f6 ↦ absurd (let none = f6.1 in cc)
              ]
            ]
          ]
        ]
      ]
    ]

element_again : (written : List ℕ) (element : PrimitiveType) → IsElementType written element → element_type written ≡ Some element
element_again written primitives.Boolean h = ap element_type h
element_again written primitives.Char h = ap element_type h
element_again written primitives.Byte h = ap element_type h
element_again written primitives.Short h = ap element_type h
element_again written primitives.Int h = ap element_type h
element_again written primitives.Long h = ap element_type h

-- ---- a local and a number

pub increment_takes : (most_local most : ℕ) (words : List Word) (made : Operands) → increment_at most_local most words ≡ Some made → SaysIncrement most_local most words made
unfolding increment_at
increment_takes most_local most words made e =
    let a = bound (plain_at words) _ made e in
    let b = bound (only_plain a.0.1) _ made a.2 in
    let l = bound (number_up_to most_local a.0.0) _ made b.2 in
    let n = bound (integer_up_to most b.0) (λ (by : ℤ). Some (operands.Increment l.0 by)) made l.2 in
    let spelled = plain_takes words a.0 a.1 ∙ ap (λ (ws : List Word). Plain a.0.0 ∷ ws) (only_takes a.0.1 b.0 b.1) in
    (a.0.0, b.0, l.0, n.0, spelled, l.1, n.1, sym (same_Some (operands.Increment l.0 n.0) made n.2))

pub increment_again : (most_local most : ℕ) (words : List Word) (made : Operands) → SaysIncrement most_local most words made → increment_at most_local most words ≡ Some made
unfolding increment_at
increment_again most_local most words made h = ap (increment_at most_local most) h.4 ∙ rw (h.5, h.6, h.7) refl

increment_answers : (most_local most : ℕ) (words : List Word) (result : Result Operands LineRefusal) → Reads result (increment_at most_local most words) → Answers (SaysIncrement most_local most words) result
increment_answers most_local most words result g =
    answers (SaysIncrement most_local most words) (increment_at most_local most words) result (increment_takes most_local most words) (increment_again most_local most words) g

-- ---- constants

loaded_takes : (kind : List ℕ) (said : Word) (constant : Loaded) → loaded_of kind said ≡ Some constant → IsLoaded (Plain kind ∷ said ∷ []) constant
loaded_takes kind (Plain written) constant e =
    elim (chosen (bytes_eq kind (codes "int")) (option_map (λ (n : ℤ). loaded.Int n) (integer_up_to 2147483647 written)) _ (Some constant) e) [
      | inl t ↦
          let m = mapped (λ (n : ℤ). loaded.Int n) (integer_up_to 2147483647 written) constant t.1 in
          subst (IsLoaded (Plain kind ∷ Plain written ∷ [])) m.2 (written, ap (λ (k : List ℕ). Plain k ∷ Plain written ∷ []) (text_same kind (codes "int") t.0), m.1)
      | inr f ↦ elim (chosen (bytes_eq kind (codes "class")) (Some (loaded.Class written)) None (Some constant) f.1) [
        | inl t ↦ subst (IsLoaded (Plain kind ∷ Plain written ∷ [])) (same_Some (loaded.Class written) constant t.1) (ap (λ (k : List ℕ). Plain k ∷ Plain written ∷ []) (text_same kind (codes "class") t.0))
        | inr t ↦ absurd (let none = t.1 in cc)
      ]
    ]
loaded_takes kind (Quoted units) constant e =
    elim (chosen (bytes_eq kind (codes "str")) (Some (loaded.Text units)) None (Some constant) e) [
      | inl t ↦ subst (IsLoaded (Plain kind ∷ Quoted units ∷ [])) (same_Some (loaded.Text units) constant t.1) (ap (λ (k : List ℕ). Plain k ∷ Quoted units ∷ []) (text_same kind (codes "str") t.0))
      | inr t ↦ absurd (let none = t.1 in cc)
    ]

constant_takes : (words : List Word) (made : Operands) → constant_at words ≡ Some made → SaysConstant words made
unfolding constant_at
constant_takes words made e =
    let k = bound (plain_at words) _ made e in
    let s = bound (only_word k.0.1) _ made k.2 in
    let l = bound (loaded_of k.0.0 s.0) (λ (constant : Loaded). Some (operands.Constant constant)) made s.2 in
    let spelled = plain_takes words k.0 k.1 ∙ ap (λ (ws : List Word). Plain k.0.0 ∷ ws) (word_takes k.0.1 s.0 s.1) in
    (l.0, subst (λ (ws : List Word). IsLoaded ws l.0) (sym spelled) (loaded_takes k.0.0 s.0 l.0 l.1), sym (same_Some (operands.Constant l.0) made l.2))

loaded_again : (words : List Word) (constant : Loaded) → IsLoaded words constant → constant_at words ≡ Some (operands.Constant constant)
unfolding constant_at
loaded_again words (loaded.Int n) h = let s = h.2 in ap constant_at h.1 ∙ rw s refl
loaded_again words (loaded.Text units) h = ap constant_at h
loaded_again words (loaded.Class name) h = ap constant_at h

constant_again : (words : List Word) (made : Operands) → SaysConstant words made → constant_at words ≡ Some made
constant_again words made h = loaded_again words h.0 h.1 ∙ ap (λ (o : Operands). Some o) (sym h.2)

constant_answers : (words : List Word) (result : Result Operands LineRefusal) → Reads result (constant_at words) → Answers (SaysConstant words) result
constant_answers words result g = answers (SaysConstant words) (constant_at words) result (constant_takes words) (constant_again words) g

-- ---- members

member_words_take : (words : List Word) (x : List ℕ × List ℕ × List ℕ) → member_words words ≡ Some x → words ≡ Plain x.0 ∷ Plain x.1 ∷ Plain x.2 ∷ []
unfolding member_words
member_words_take words x e =
    let a = bound (plain_at words) _ x e in
    let b = bound (plain_at a.0.1) _ x a.2 in
    let c = bound (only_plain b.0.1) (λ (descriptor : List ℕ). Some (a.0.0, b.0.0, descriptor)) x b.2 in
    let spelled = plain_takes words a.0 a.1 ∙ (ap (λ (ws : List Word). Plain a.0.0 ∷ ws) (plain_takes a.0.1 b.0 b.1) ∙ ap (λ (ws : List Word). Plain a.0.0 ∷ Plain b.0.0 ∷ ws) (only_takes b.0.1 c.0 c.1)) in
    subst (λ (y : List ℕ × List ℕ × List ℕ). words ≡ Plain y.0 ∷ Plain y.1 ∷ Plain y.2 ∷ []) (same_Some (a.0.0, b.0.0, c.0) x c.2) spelled

member_words_again : (words : List Word) (class name descriptor : List ℕ) → words ≡ Plain class ∷ Plain name ∷ Plain descriptor ∷ [] → member_words words ≡ Some (class, name, descriptor)
unfolding member_words
member_words_again words class name descriptor e = ap member_words e

member_takes : (words : List Word) (made : Operands) → member_at words ≡ Some made → SaysMember words made
member_takes words made e =
    let m = bound (member_words words) (λ (x : List ℕ × List ℕ × List ℕ). Some (operands.Member x.0 x.1 x.2)) made e in
    (m.0.0, m.0.1, m.0.2, member_words_take words m.0 m.1, sym (same_Some (operands.Member m.0.0 m.0.1 m.0.2) made m.2))

member_again : (words : List Word) (made : Operands) → SaysMember words made → member_at words ≡ Some made
member_again words made h =
    let m = member_words_again words h.0 h.1 h.2 h.3 in
    rw (m, h.4) refl

member_answers : (words : List Word) (result : Result Operands LineRefusal) → Reads result (member_at words) → Answers (SaysMember words) result
member_answers words result g = answers (SaysMember words) (member_at words) result (member_takes words) (member_again words) g

-- ---- methods of interfaces

pub no_member_refuses : (words : List Word) (refusal : LineRefusal) → Fails refusal (member_words words) → Answers (SaysInterfaceMethod words) (Err refusal)
no_member_refuses words refusal f =
    refuses (SaysInterfaceMethod words) (member_words words) refusal f (λ y says. ((says.0, says.1, says.2), member_words_again words says.0 says.1 says.2 says.4))

member_is : (words : List Word) (x : List ℕ × List ℕ × List ℕ) (made : Operands) → member_words words ≡ Some x → (says : SaysInterfaceMethod words made) → x ≡ (says.0, says.1, says.2)
member_is words x made e says = same_Some x (says.0, says.1, says.2) (sym e ∙ member_words_again words says.0 says.1 says.2 says.4)

pub no_count_refuses : (words : List Word) (x : List ℕ × List ℕ × List ℕ) (refusal : LineRefusal) → member_words words ≡ Some x → Answers (IsCount x.2) (Err refusal) → Answers (SaysInterfaceMethod words) (Err refusal)
no_count_refuses words x refusal e a = record {
  found = tt;
  only = λ y says. a.only says.3 (subst (λ (z : List ℕ × List ℕ × List ℕ). IsCount z.2 says.3) (sym (member_is words x y e says)) says.5);
}

pub count_gives : (words : List Word) (x : List ℕ × List ℕ × List ℕ) (count : ℕ) → member_words words ≡ Some x → Answers (IsCount x.2) (Ok count) → Answers (SaysInterfaceMethod words) (Ok (operands.InterfaceMethod x.0 x.1 x.2 count))
count_gives words x count e a = record {
  found = (x.0, x.1, x.2, count, member_words_take words x e, a.found, refl);
  only = λ y says.
      let same = member_is words x y e says in
      let one = a.only says.3 (subst (λ (z : List ℕ × List ℕ × List ℕ). IsCount z.2 says.3) (sym same) says.5) in
      ap (λ (z : List ℕ × List ℕ × List ℕ). operands.InterfaceMethod z.0 z.1 z.2 count) same ∙ (ap (λ (n : ℕ). operands.InterfaceMethod says.0 says.1 says.2 n) one ∙ sym says.6);
}

-- ---- any form

none_answers : (words : List Word) (result : Result Operands LineRefusal) → Reads result (none_at words) → Answers (SaysNone words) result
none_answers words result g = answers (SaysNone words) (none_at words) result (none_takes words) (none_again words) g

nothing_answers : (result : Result Operands LineRefusal) → Reads result None → Answers (λ (y : Operands). ⊥) result
nothing_answers result g = answers (λ (y : Operands). ⊥) None result (λ y e. cc) (λ y bad. absurd bad) g

pub operands_answer : (form : Form) (words : List Word) (result : Result Operands LineRefusal) → ReadsOperands form words result → Answers (SaysOperands form words) result
unfolding ReadsOperands
operands_answer (forms.Plain plain) words result g = none_answers words result g
operands_answer (forms.FixedInt n) words result g = none_answers words result g
operands_answer (forms.FixedLong n) words result g = none_answers words result g
operands_answer (forms.FixedLocal access local) words result g = none_answers words result g
operands_answer forms.ByteInt words result g = integer_answers 127 (λ n. operands.Number n) words result g
operands_answer forms.ShortInt words result g = integer_answers 32767 (λ n. operands.Number n) words result g
operands_answer forms.ByteConstant words result g = constant_answers words result g
operands_answer forms.Constant words result g = constant_answers words result g
operands_answer forms.LongConstant words result g = integer_answers 9223372036854775807 (λ n. operands.Long n) words result g
operands_answer (forms.Local access) words result g = number_answers 255 (λ n. operands.Local n) words result g
operands_answer forms.Increment words result g = increment_answers 255 127 words result g
operands_answer (forms.Branch test) words result g = name_answers (λ n. operands.Label n) words result g
operands_answer (forms.FarBranch test) words result g = name_answers (λ n. operands.Label n) words result g
operands_answer forms.TableSwitch words result g = answers (SaysOperands forms.TableSwitch words) (table_switch_at words) result (table_switch_takes words) (table_switch_again words) g
operands_answer forms.LookupSwitch words result g = answers (SaysOperands forms.LookupSwitch words) (lookup_switch_at words) result (lookup_switch_takes words) (lookup_switch_again words) g
operands_answer (forms.Field access) words result g = member_answers words result g
operands_answer (forms.Call call) words result g = member_answers words result g
operands_answer forms.InterfaceCall words result g = g
operands_answer (forms.Class purpose) words result g = name_answers (λ n. operands.Class n) words result g
operands_answer forms.NewArray words result g = one_answers IsElementType element_type (λ e. operands.NewArray e) element_takes element_again words result g
operands_answer forms.Wide words result g = nothing_answers result g
