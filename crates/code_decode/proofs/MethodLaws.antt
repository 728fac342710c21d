-- The code of a method, from that of its attribute.
use Rattle.std.proofs.Common.{◌≡◌, ℕ, ◌+◌, List, length, refl, sym, ap, subst, ◌∙◌, inl, inr}
use Rattle.std.specs.Prelude.{◌⊎◌, Some, None, Result, Ok, Err, IfOk, IfErr}
use Rattle.std.proofs.lemmas.Option.{same_Some}
use Rattle.class_walk.specs.declared.class.Constant.{Constant}
use Rattle.class_names.specs.Descriptor.{IsMethodDescriptor, size_of}
use Rattle.class_names.specs.declared.kind.ParameterSize.{ParameterSize}
use Rattle.class_names.proofs.DescriptorLaws.{one_method}
use Rattle.class_read.specs.declared.class_file.ClassFile.{ClassFile}
use Rattle.class_read.specs.declared.class_file.CodeAttribute.{CodeAttribute}
use Rattle.class_read.specs.declared.class_file.Member.{Member}
use Rattle.class_read.specs.MemberRules.{receiver_words}
use Rattle.class_read.proofs.TextLaws.{same_bytes}
use Rattle.class_pool.specs.TextUses.{IsUseOf, IsUseAt}
use Rattle.class_pool.specs.declared.text_uses.TextUse.{TextUse}
use Rattle.code_decode.specs.declared.code.Code.{Code}
use Rattle.code_decode.specs.declared.refusal.CodeRefusal.{CodeRefusal}
use Rattle.code_decode.specs.declared.refusal.CodeRefusal.TheVariants.{NoMemory}
use Rattle.code_decode.specs.Answer.{IsAnswer, IsRead, IsRefused}
use Rattle.code_decode.specs.Entry.{HasMethodType, IsEntryCount}
use Rattle.code_decode.specs.Code.{IsCode, CodeRefuses}
use Rattle.code_decode.specs.Method.{IsMethodWith, IsMethodCode, MethodRefuses, IsCodeOf, CodeOfRefuses}

-- a method begins with one number of values
one_count : (pool : List Constant) (m : Member) (x y : ℕ) → IsEntryCount pool m x → IsEntryCount pool m y → x ≡ y
one_count pool m x y (text, parameters, returned, at, is, count) (other, others, last, there, as_well, size) =
    let P : List ℕ → Type 0 = λ t. IsMethodDescriptor t others last in
    let same : parameters ≡ others = (one_method text parameters others returned last is (subst P (same_bytes pool m.descriptor other text there at) as_well)).0 in
    count ∙ ap (λ ps. receiver_words m.flags + length ps) same ∙ sym size

-- the descriptor of a method has parameters of one size
pub with_size : (pool : List Constant) (m : Member) (u : TextUse) (size : ParameterSize) → IsUseAt pool m.descriptor u → u.parameters ≡ Some size → IsEntryCount pool m (receiver_words m.flags + size.count)
with_size pool m u size at e =
    let p = at.2.parameters size e in
    (at.0, p.0, p.1, at.1, p.2, ap (λ (s : ParameterSize). receiver_words m.flags + s.count) p.3)

pub without_size : (pool : List Constant) (m : Member) (u : TextUse) → HasMethodType pool m → IsUseAt pool m.descriptor u → u.parameters ≡ None → ⊥
without_size pool m u has at e =
    let P : List ℕ → Type 0 = λ t. IsUseOf t u in
    let is = subst P (same_bytes pool m.descriptor at.0 has.0 at.1 has.1) at.2 in
    let some = is.only (size_of has.2.0) (has.2.0, has.2.1, has.2.2, refl) in
    absurd cc

-- the answer for the attribute is that for the method
pub with_entry : (pool : List Constant) (m : Member) (a : CodeAttribute) (entry : ℕ) (r : Result Code CodeRefusal) → IsEntryCount pool m entry → IsAnswer r (IsCode pool entry a) (CodeRefuses pool entry a) → IsAnswer r (IsMethodCode pool m a) (MethodRefuses pool m a)
with_entry pool m a entry (Ok code) count answer = record {
  right = (entry, count, answer.right);
  only = λ d is. let P : ℕ → Type 0 = λ n. IsCode pool n a d in answer.only d (subst P (one_count pool m is.0 entry is.1 count) is.2);
  accepted = λ e wrong. let P : ℕ → Type 0 = λ n. CodeRefuses pool n a e in answer.accepted e (subst P (one_count pool m wrong.0 entry wrong.1 count) wrong.2);
}
with_entry pool m a entry (Err e) count answer =
    elim answer [
      | inl no_memory ↦ inl no_memory
      | inr refused ↦ inr record {
        right = (entry, count, refused.right);
        only = λ other wrong. let P : ℕ → Type 0 = λ n. CodeRefuses pool n a other in refused.only other (subst P (one_count pool m wrong.0 entry wrong.1 count) wrong.2);
        none = λ d is. let P : ℕ → Type 0 = λ n. IsCode pool n a d in refused.none d (subst P (one_count pool m is.0 entry is.1 count) is.2);
      }
    ]

same_member : (file : ClassFile) (n : ℕ) (m k : Member) (a b : CodeAttribute) → IsMethodWith file n m a → IsMethodWith file n k b → (k ≡ m) × (b ≡ a)
same_member file n m k a b x y =
    let member : k ≡ m = same_Some k m (sym y.0 ∙ x.0) in
    let P : Member → Type 0 = λ z. z.code ≡ Some b in
    (member, same_Some b a (sym (subst P member y.1) ∙ x.1))

code_there : (file : ClassFile) (n : ℕ) (m : Member) (a : CodeAttribute) (d : Code) → IsMethodWith file n m a → IsCodeOf file n d → IsMethodCode file.pool m a d
code_there file n m a d there (k, b, here, is) =
    let same = same_member file n m k a b there here in
    let P : Member → Type 0 = λ z. IsMethodCode file.pool z b d in
    let Q : CodeAttribute → Type 0 = λ z. IsMethodCode file.pool m z d in
    subst Q same.1 (subst P same.0 is)

refused_there : (file : ClassFile) (n : ℕ) (m : Member) (a : CodeAttribute) (e : CodeRefusal) → IsMethodWith file n m a → CodeOfRefuses file n e → MethodRefuses file.pool m a e
refused_there file n m a e there (k, b, here, wrong) =
    let same = same_member file n m k a b there here in
    let P : Member → Type 0 = λ z. MethodRefuses file.pool z b e in
    let Q : CodeAttribute → Type 0 = λ z. MethodRefuses file.pool m z e in
    subst Q same.1 (subst P same.0 wrong)

-- the answer for the method is that for its number
pub with_number : (file : ClassFile) (n : ℕ) (m : Member) (a : CodeAttribute) (r : Result Code CodeRefusal) → IsMethodWith file n m a → IsAnswer r (IsMethodCode file.pool m a) (MethodRefuses file.pool m a) → IsAnswer r (IsCodeOf file n) (CodeOfRefuses file n)
with_number file n m a (Ok code) there answer = record {
  right = (m, a, there, answer.right);
  only = λ d is. answer.only d (code_there file n m a d there is);
  accepted = λ e wrong. answer.accepted e (refused_there file n m a e there wrong);
}
with_number file n m a (Err e) there answer =
    elim answer [
      | inl no_memory ↦ inl no_memory
      | inr refused ↦ inr record {
        right = (m, a, there, refused.right);
        only = λ other wrong. refused.only other (refused_there file n m a other there wrong);
        none = λ d is. refused.none d (code_there file n m a d there is);
      }
    ]

-- the clauses of an answer
pub answer_found : {X : Type 0} (Is : X → Type 0) (Refuses : CodeRefusal → Type 0) (r : Result X CodeRefusal) → IsAnswer r Is Refuses → IfOk r Is
answer_found Is Refuses (Ok x) answer = answer.right
answer_found Is Refuses (Err e) answer = tt

pub answer_only : {X : Type 0} (Is : X → Type 0) (Refuses : CodeRefusal → Type 0) (r : Result X CodeRefusal) → IsAnswer r Is Refuses → (x : X) → Is x → IsRead r x
answer_only Is Refuses (Ok x) answer y is = answer.only y is
answer_only Is Refuses (Err e) answer y is = elim answer [ inl no_memory ↦ no_memory | inr refused ↦ absurd (refused.none y is) ]

pub answer_exact : {X : Type 0} (Is : X → Type 0) (Refuses : CodeRefusal → Type 0) (r : Result X CodeRefusal) → IsAnswer r Is Refuses → IfErr r (λ e. (e ≡ NoMemory) ⊎ Refuses e)
answer_exact Is Refuses (Ok x) answer = tt
answer_exact Is Refuses (Err e) answer = elim answer [ inl no_memory ↦ inl no_memory | inr refused ↦ inr refused.right ]

pub answer_first : {X : Type 0} (Is : X → Type 0) (Refuses : CodeRefusal → Type 0) (r : Result X CodeRefusal) → IsAnswer r Is Refuses → (e : CodeRefusal) → Refuses e → IsRefused r e
answer_first Is Refuses (Ok x) answer e wrong = answer.accepted e wrong
answer_first Is Refuses (Err d) answer e wrong = elim answer [ inl no_memory ↦ inl no_memory | inr refused ↦ inr (refused.only e wrong) ]
