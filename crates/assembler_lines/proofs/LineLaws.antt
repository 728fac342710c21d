-- Reading the words of a line gives what they say.
use Rattle.std.proofs.Common.{◌≡◌, ℕ, ℤ, Bool, true, false, cond, List, [], ◌∷◌, ◌++◌, ◌⊎◌, Option, Some, None, Result, Ok, Err, option_map, refl, sym, ap, ◌∙◌, subst, inl, inr, IfOk, MatchResult, codes}
use Rattle.std.specs.Str.{bytes_eq}
use Rattle.std.proofs.lemmas.Option.{same_Some}
use Rattle.assembler_lines.specs.declared.word.LineRefusal.{LineRefusal}
use Rattle.assembler_lines.specs.declared.word.LineRefusal.TheVariants.{Malformed, NoMemory}
use Rattle.assembler_lines.specs.declared.word.Word.{Word}
use Rattle.assembler_lines.specs.declared.word.Word.TheVariants.{Plain, Quoted}
use Rattle.assembler_lines.specs.declared.line.FieldValue.{FieldValue}
use Rattle.assembler_lines.specs.declared.line.FieldValue.TheVariants as values
use Rattle.assembler_lines.specs.declared.line.Room.{Room}
use Rattle.assembler_lines.specs.declared.line.Line.{Line}
use Rattle.assembler_lines.specs.declared.line.Line.TheVariants.{Class, Super, Implements, Field, Method, End, Label, Handler, Instruction, Frame}
use Rattle.decimal_numbers.specs.Numbers.{integer_up_to}
use Rattle.assembler_lines.specs.Words.{AreWords, word}
use Rattle.assembler_lines.specs.Lines.{IsShort, SaysValue, Says, IsLine}
use Rattle.assembler_lines.specs.Front.{◌>>=◌, Fails, Gives, Answers, plain_at, only, only_plain, only_word, behind, short}
use Rattle.assembler_lines.specs.ReadingLine.{class_flags, class_at, super_at, implements_at, header_at, is_int_descriptor, value_of, constant_at, value_at, field_at, frame_room_at, room_at, method_at, handler_class, handler_at, label_of, word_line, keyword_line, line_with}
use Rattle.class_names.proofs.Cases.{chosen, mapped}
use Rattle.assembler_lines.proofs.FrontLaws.{bound, plain_takes, only_takes, word_takes, behind_takes, answers, refuses}
use Rattle.assembler_lines.specs.ReadingFrames.{frame_at}
use Rattle.instructions.specs.Table.{Instruction as Row, row_named}
use Rattle.assembler_lines.specs.declared.operation.Operation.{Operation}
use Rattle.assembler_lines.specs.Operands.{SaysOperation}
use Rattle.assembler_lines.proofs.WordLaws.{one_list}
use Rattle.assembler_lines.proofs.RowLaws.{class_no_row, super_no_row, implements_no_row, field_no_row, method_no_row, end_no_row, handler_no_row, frame_no_row, label_no_row}
use Rattle.assembler_lines.proofs.FrameLaws.{frame_takes, frame_again}
use Rattle.assembler_lines.proofs.TextLaws.{text_same, text_isnt, text_other, int_again, int_takes, label_again, label_takes}

-- ---- classes

flags_takes : (words : List Word) (flags : ℕ) → class_flags words ≡ Some flags → ((words ≡ []) × (flags ≡ 33)) ⊎ ((written : List ℕ) × (words ≡ Plain written ∷ []) × IsShort written flags)
flags_takes [] flags e = inl (refl, sym (same_Some 33 flags e))
flags_takes (w ∷ words) flags e =
    let b = bound (only_plain (w ∷ words)) short flags e in
    inr (b.0, only_takes (w ∷ words) b.0 b.1, b.2)

class_takes : (words : List Word) (line : Line) → class_at words ≡ Some line → Says (word "class" ∷ words) line
unfolding class_at
class_takes words line e =
    let n = bound (plain_at words) (λ (name : List ℕ × List Word). class_flags name.1 >>= λ (flags : ℕ). Some (Class name.0 flags)) line e in
    let f = bound (class_flags n.0.1) (λ (flags : ℕ). Some (Class n.0.0 flags)) line n.2 in
    let p = plain_takes words n.0 n.1 in
    subst (λ (l : Line). Says (word "class" ∷ words) l) (same_Some (Class n.0.0 f.0) line f.2)
    (elim (flags_takes n.0.1 f.0 f.1) [
      | inl t ↦ inl (ap (λ (ws : List Word). word "class" ∷ ws) (p ∙ ap (λ (ws : List Word). Plain n.0.0 ∷ ws) t.0), t.1)
      | inr t ↦ inr (t.0, ap (λ (ws : List Word). word "class" ∷ ws) (p ∙ ap (λ (ws : List Word). Plain n.0.0 ∷ ws) t.1), t.2)
    ])

super_takes : (words : List Word) (line : Line) → super_at words ≡ Some line → Says (word "super" ∷ words) line
unfolding super_at
super_takes words line e =
    let n = bound (only_plain words) (λ (name : List ℕ). Some (Super name)) line e in
    subst (λ (l : Line). Says (word "super" ∷ words) l) (same_Some (Super n.0) line n.2) (ap (λ (ws : List Word). word "super" ∷ ws) (only_takes words n.0 n.1))

implements_takes : (words : List Word) (line : Line) → implements_at words ≡ Some line → Says (word "implements" ∷ words) line
unfolding implements_at
implements_takes words line e =
    let n = bound (only_plain words) (λ (name : List ℕ). Some (Implements name)) line e in
    subst (λ (l : Line). Says (word "implements" ∷ words) l) (same_Some (Implements n.0) line n.2) (ap (λ (ws : List Word). word "implements" ∷ ws) (only_takes words n.0 n.1))

-- ---- members

record TakesHeader (words : List Word) (x : ℕ × List ℕ × List ℕ × List Word) : Type 0 where
  written : List ℕ
  spelled : words ≡ Plain written ∷ Plain x.1 ∷ Plain x.2 ∷ x.3
  flags : IsShort written x.0

header_takes : (words : List Word) (x : ℕ × List ℕ × List ℕ × List Word) → header_at words ≡ Some x → TakesHeader words x
unfolding header_at
header_takes words x e =
    let w = bound (plain_at words) _ x e in
    let n = bound (plain_at w.0.1) _ x w.2 in
    let d = bound (plain_at n.0.1) _ x n.2 in
    let f = bound (short w.0.0) (λ (flags : ℕ). Some (flags, n.0.0, d.0.0, d.0.1)) x d.2 in
    let spelled = plain_takes words w.0 w.1 ∙ (ap (λ (ws : List Word). Plain w.0.0 ∷ ws) (plain_takes w.0.1 n.0 n.1) ∙ ap (λ (ws : List Word). Plain w.0.0 ∷ Plain n.0.0 ∷ ws) (plain_takes n.0.1 d.0 d.1)) in
    subst (λ (y : ℕ × List ℕ × List ℕ × List Word). TakesHeader words y) (same_Some (f.0, n.0.0, d.0.0, d.0.1) x f.2)
    (record { written = w.0.0; spelled = spelled; flags = f.1 })

-- ---- values

value_again : (descriptor : List ℕ) (said : Word) (value : FieldValue) → SaysValue descriptor said value → value_of descriptor said ≡ Some value
value_again descriptor said (values.Int n) h =
    let test = int_again descriptor h.2 in
    ap (value_of descriptor) h.1 ∙ rw (test, h.3) refl
value_again descriptor said (values.Long n) h = ap (value_of descriptor) h.1 ∙ rw (h.2, h.3) refl
value_again descriptor said (values.Text units) h = ap (value_of descriptor) h.0 ∙ rw h.1 refl

value_takes : (descriptor : List ℕ) (said : Word) (value : FieldValue) → value_of descriptor said ≡ Some value → SaysValue descriptor said value
value_takes descriptor (Plain written) value e =
    elim (chosen (is_int_descriptor descriptor) (option_map (λ (n : ℤ). values.Int n) (integer_up_to 2147483647 written)) _ (Some value) e) [
      | inl t ↦
          let m = mapped (λ (n : ℤ). values.Int n) (integer_up_to 2147483647 written) value t.1 in
          subst (SaysValue descriptor (Plain written)) m.2 (written, refl, int_takes descriptor t.0, m.1)
      | inr t ↦
          elim (chosen (bytes_eq descriptor (codes "J")) (option_map (λ (n : ℤ). values.Long n) (integer_up_to 9223372036854775807 written)) None (Some value) t.1) [
            | inl u ↦
                let m = mapped (λ (n : ℤ). values.Long n) (integer_up_to 9223372036854775807 written) value u.1 in
                subst (SaysValue descriptor (Plain written)) m.2 (written, refl, text_same descriptor (codes "J") u.0, m.1)
            | inr u ↦ absurd (let none = u.1 in cc)
          ]
    ]
value_takes descriptor (Quoted units) value e =
    elim (chosen (bytes_eq descriptor (codes "Ljava/lang/String;")) (Some (values.Text units)) None (Some value) e) [
      | inl t ↦ subst (SaysValue descriptor (Quoted units)) (same_Some (values.Text units) value t.1) (refl, text_same descriptor (codes "Ljava/lang/String;") t.0)
      | inr t ↦ absurd (let none = t.1 in cc)
    ]

constant_takes : (descriptor : List ℕ) (words : List Word) (value : FieldValue) → constant_at descriptor words ≡ Some value → (said : Word) × (words ≡ word "=" ∷ said ∷ []) × SaysValue descriptor said value
unfolding constant_at
constant_takes descriptor words value e =
    let b = bound (behind (codes "=") words) _ value e in
    let s = bound (only_word b.0) (value_of descriptor) value b.2 in
    (s.0, behind_takes (codes "=") words b.0 b.1 ∙ ap (λ (ws : List Word). word "=" ∷ ws) (word_takes b.0 s.0 s.1), value_takes descriptor s.0 value s.2)

optional_takes : {A : Type 0} (o : Option A) (y : Option A) → option_map (λ (a : A). Some a) o ≡ Some y → (a : A) × (o ≡ Some a) × (Some a ≡ y)
optional_takes {A} o y e = mapped (λ (a : A). Some a) o y e

field_with : (written name descriptor : List ℕ) (flags : ℕ) (words : List Word) (value : Option FieldValue) → IsShort written flags → value_at descriptor words ≡ Some value
    → Says (word "field" ∷ Plain written ∷ Plain name ∷ Plain descriptor ∷ words) (Field flags name descriptor value)
field_with written name descriptor flags [] value f e = subst (λ (v : Option FieldValue). Says (word "field" ∷ Plain written ∷ Plain name ∷ Plain descriptor ∷ []) (Field flags name descriptor v)) (same_Some None value e) (written, refl, f)
field_with written name descriptor flags (w ∷ words) value f e =
    let m = optional_takes (constant_at descriptor (w ∷ words)) value e in
    let c = constant_takes descriptor (w ∷ words) m.0 m.1 in
    subst (λ (v : Option FieldValue). Says (word "field" ∷ Plain written ∷ Plain name ∷ Plain descriptor ∷ w ∷ words) (Field flags name descriptor v)) m.2
    (written, c.0, ap (λ (ws : List Word). word "field" ∷ Plain written ∷ Plain name ∷ Plain descriptor ∷ ws) c.1, f, c.2)

field_takes : (words : List Word) (line : Line) → field_at words ≡ Some line → Says (word "field" ∷ words) line
unfolding field_at
field_takes words line e =
    let h = bound (header_at words) _ line e in
    let v = bound (value_at h.0.2 h.0.3) (λ (value : Option FieldValue). Some (Field h.0.0 h.0.1 h.0.2 value)) line h.2 in
    let t = header_takes words h.0 h.1 in
    subst (λ (l : Line). Says (word "field" ∷ words) l) (same_Some (Field h.0.0 h.0.1 h.0.2 v.0) line v.2)
    (subst (λ (ws : List Word). Says (word "field" ∷ ws) (Field h.0.0 h.0.1 h.0.2 v.0)) (sym t.spelled) (field_with t.written h.0.1 h.0.2 h.0.0 h.0.3 v.0 t.flags v.1))

record TakesRoom (words : List Word) (room : Room) : Type 0 where
  stack : List ℕ
  locals : List ℕ
  spelled : words ≡ word "stack" ∷ Plain stack ∷ word "locals" ∷ Plain locals ∷ []
  has_stack : IsShort stack room.stack
  has_locals : IsShort locals room.locals

room_takes : (words : List Word) (room : Room) → frame_room_at words ≡ Some room → TakesRoom words room
unfolding frame_room_at
room_takes words room e =
    let a = bound (behind (codes "stack") words) _ room e in
    let b = bound (plain_at a.0) _ room a.2 in
    let c = bound (behind (codes "locals") b.0.1) _ room b.2 in
    let d = bound (only_plain c.0) _ room c.2 in
    let s = bound (short b.0.0) _ room d.2 in
    let l = bound (short d.0) (λ (locals : ℕ). Some (let r : Room = record { stack = s.0; locals = locals } in r)) room s.2 in
    let spelled = behind_takes (codes "stack") words a.0 a.1 ∙ (ap (λ (ws : List Word). word "stack" ∷ ws) (plain_takes a.0 b.0 b.1) ∙ (ap (λ (ws : List Word). word "stack" ∷ Plain b.0.0 ∷ ws) (behind_takes (codes "locals") b.0.1 c.0 c.1) ∙ ap (λ (ws : List Word). word "stack" ∷ Plain b.0.0 ∷ word "locals" ∷ ws) (only_takes c.0 d.0 d.1))) in
    subst (λ (r : Room). TakesRoom words r) (same_Some (let r : Room = record { stack = s.0; locals = l.0 } in r) room l.2)
    (record { stack = b.0.0; locals = d.0; spelled = spelled; has_stack = s.1; has_locals = l.1 })

method_with : (written name descriptor : List ℕ) (flags : ℕ) (words : List Word) (room : Option Room) → IsShort written flags → room_at words ≡ Some room
    → Says (word "method" ∷ Plain written ∷ Plain name ∷ Plain descriptor ∷ words) (Method flags name descriptor room)
method_with written name descriptor flags [] room f e = subst (λ (r : Option Room). Says (word "method" ∷ Plain written ∷ Plain name ∷ Plain descriptor ∷ []) (Method flags name descriptor r)) (same_Some None room e) (written, refl, f)
method_with written name descriptor flags (w ∷ words) room f e =
    let m = optional_takes (frame_room_at (w ∷ words)) room e in
    let r = room_takes (w ∷ words) m.0 m.1 in
    subst (λ (o : Option Room). Says (word "method" ∷ Plain written ∷ Plain name ∷ Plain descriptor ∷ w ∷ words) (Method flags name descriptor o)) m.2
    (written, r.stack, r.locals, ap (λ (ws : List Word). word "method" ∷ Plain written ∷ Plain name ∷ Plain descriptor ∷ ws) r.spelled, f, r.has_stack, r.has_locals)

method_takes : (words : List Word) (line : Line) → method_at words ≡ Some line → Says (word "method" ∷ words) line
unfolding method_at
method_takes words line e =
    let h = bound (header_at words) _ line e in
    let r = bound (room_at h.0.3) (λ (room : Option Room). Some (Method h.0.0 h.0.1 h.0.2 room)) line h.2 in
    let t = header_takes words h.0 h.1 in
    subst (λ (l : Line). Says (word "method" ∷ words) l) (same_Some (Method h.0.0 h.0.1 h.0.2 r.0) line r.2)
    (subst (λ (ws : List Word). Says (word "method" ∷ ws) (Method h.0.0 h.0.1 h.0.2 r.0)) (sym t.spelled) (method_with t.written h.0.1 h.0.2 h.0.0 h.0.3 r.0 t.flags r.1))

-- ---- handlers

handler_with : (from to at class : List ℕ) (b : Bool) → bytes_eq class (codes "any") ≡ b → Says (word "handler" ∷ Plain from ∷ Plain to ∷ Plain at ∷ Plain class ∷ []) (Handler from to at (cond b None (Some class)))
handler_with from to at class true e = ap (λ (c : List ℕ). word "handler" ∷ Plain from ∷ Plain to ∷ Plain at ∷ Plain c ∷ []) (text_same class (codes "any") e)
handler_with from to at class false e = (refl, λ same. let yes : bytes_eq class (codes "any") ≡ true = ap (λ (c : List ℕ). bytes_eq c (codes "any")) same in cc)

handler_takes : (words : List Word) (line : Line) → handler_at words ≡ Some line → Says (word "handler" ∷ words) line
unfolding handler_at
handler_takes words line e =
    let a = bound (plain_at words) _ line e in
    let b = bound (plain_at a.0.1) _ line a.2 in
    let c = bound (plain_at b.0.1) _ line b.2 in
    let d = bound (only_plain c.0.1) (λ (class : List ℕ). Some (Handler a.0.0 b.0.0 c.0.0 (handler_class class))) line c.2 in
    let spelled = plain_takes words a.0 a.1 ∙ (ap (λ (ws : List Word). Plain a.0.0 ∷ ws) (plain_takes a.0.1 b.0 b.1) ∙ (ap (λ (ws : List Word). Plain a.0.0 ∷ Plain b.0.0 ∷ ws) (plain_takes b.0.1 c.0 c.1) ∙ ap (λ (ws : List Word). Plain a.0.0 ∷ Plain b.0.0 ∷ Plain c.0.0 ∷ ws) (only_takes c.0.1 d.0 d.1))) in
    subst (λ (l : Line). Says (word "handler" ∷ words) l) (same_Some (Handler a.0.0 b.0.0 c.0.0 (handler_class d.0)) line d.2)
    (subst (λ (ws : List Word). Says (word "handler" ∷ ws) (Handler a.0.0 b.0.0 c.0.0 (handler_class d.0))) (sym spelled) (handler_with a.0.0 b.0.0 c.0.0 d.0 (bytes_eq d.0 (codes "any")) refl))

-- ---- any line

known : (text keyword : List ℕ) (words : List Word) (line : Line) → bytes_eq keyword text ≡ true → Says (Plain text ∷ words) line → Says (Plain keyword ∷ words) line
known text keyword words line t h = subst (λ (k : List ℕ). Says (Plain k ∷ words) line) (sym (text_same keyword text t)) h

keyword_takes : (keyword : List ℕ) (words : List Word) (line : Line) → keyword_line keyword words ≡ Some line → Says (Plain keyword ∷ words) line
unfolding keyword_line
keyword_takes keyword words line e =
    elim (chosen (bytes_eq keyword (codes "class")) (class_at words) _ (Some line) e) [
      | inl t ↦ known (codes "class") keyword words line t.0 (class_takes words line t.1)
      | inr f1 ↦ elim (chosen (bytes_eq keyword (codes "super")) (super_at words) _ (Some line) f1.1) [
        | inl t ↦ known (codes "super") keyword words line t.0 (super_takes words line t.1)
        | inr f2 ↦ elim (chosen (bytes_eq keyword (codes "implements")) (implements_at words) _ (Some line) f2.1) [
          | inl t ↦ known (codes "implements") keyword words line t.0 (implements_takes words line t.1)
          | inr f3 ↦ elim (chosen (bytes_eq keyword (codes "field")) (field_at words) _ (Some line) f3.1) [
            | inl t ↦ known (codes "field") keyword words line t.0 (field_takes words line t.1)
            | inr f4 ↦ elim (chosen (bytes_eq keyword (codes "method")) (method_at words) _ (Some line) f4.1) [
              | inl t ↦ known (codes "method") keyword words line t.0 (method_takes words line t.1)
              | inr f5 ↦ elim (chosen (bytes_eq keyword (codes "handler")) (handler_at words) _ (Some line) f5.1) [
                | inl t ↦ known (codes "handler") keyword words line t.0 (handler_takes words line t.1)
                | inr f6 ↦ elim (chosen (bytes_eq keyword (codes "frame")) (frame_at words) None (Some line) f6.1) [
                  | inl t ↦ known (codes "frame") keyword words line t.0 (frame_takes words line t.1)
                  | inr f7 ↦ absurd (let none = f7.1 in cc)
                ]
              ]
            ]
          ]
        ]
      ]
    ]

single_takes : (text : List ℕ) (line : Line) → word_line text ≡ Some line → Says (Plain text ∷ []) line
unfolding word_line
single_takes text line e =
    elim (chosen (bytes_eq text (codes "end")) (Some End) (option_map (λ (name : List ℕ). Label name) (label_of text)) (Some line) e) [
      | inl t ↦ subst (λ (l : Line). Says (Plain text ∷ []) l) (same_Some End line t.1) (ap (λ (n : List ℕ). Plain n ∷ []) (text_same text (codes "end") t.0))
      | inr t ↦
          let m = mapped (λ (name : List ℕ). Label name) (label_of text) line t.1 in
          let l = label_takes text m.0 m.1 in
          subst (λ (l : Line). Says (Plain text ∷ []) l) m.2 (ap (λ (n : List ℕ). Plain n ∷ []) l.0, l.1)
    ]

with_takes : (keyword : List ℕ) (words : List Word) (line : Line) → line_with (keyword, words) ≡ Some line → Says (Plain keyword ∷ words) line
with_takes keyword [] line e = single_takes keyword line e
with_takes keyword (w ∷ words) line e = keyword_takes keyword (w ∷ words) line e

-- what a first word that is not a mnemonic, and the words after it, say
abbrev line_at : List Word → Option Line
line_at words = plain_at words >>= line_with

abbrev NoMnemonic : List Word → Type 0
NoMnemonic words = (x : List ℕ × List Word) → plain_at words ≡ Some x → row_named x.0 ≡ None

line_again : (words : List Word) → NoMnemonic words → (line : Line) → Says words line → line_at words ≡ Some line
unfolding keyword_line word_line class_at super_at implements_at header_at field_at constant_at method_at frame_room_at handler_at
line_again words none (Class name flags) h =
    elim h [
      | inl t ↦ ap line_at t.0 ∙ ap (λ (f : ℕ). Some (Class name f)) (sym t.1)
      | inr t ↦ let s = t.2 in ap line_at t.1 ∙ rw s refl
    ]
line_again words none (Super name) h = ap line_at h
line_again words none (Implements name) h = ap line_at h
line_again words none (Field flags name descriptor None) h = let s = h.2 in ap line_at h.1 ∙ rw s refl
line_again words none (Field flags name descriptor (Some value)) h =
    let s = h.3 in
    let v = value_again descriptor h.1 value h.4 in
    ap line_at h.2 ∙ rw (s, v) refl
line_again words none (Method flags name descriptor None) h = let s = h.2 in ap line_at h.1 ∙ rw s refl
line_again words none (Method flags name descriptor (Some room)) h = ap line_at h.3 ∙ rw (h.4, h.5, h.6) refl
line_again words none End h = ap line_at h
line_again words none (Label name) h =
    let l = label_again name h.1 in
    let other = text_other name in
    ap line_at h.0 ∙ rw (other, l) refl
line_again words none (Handler from to at None) h = ap line_at h
line_again words none (Handler from to at (Some class)) h =
    let other = text_isnt class (codes "any") h.1 in
    ap line_at h.0 ∙ rw other refl
line_again words none (Instruction operation) h = absurd (let some = h.named in let no = none (h.mnemonic, h.others) (ap plain_at h.spelled) in cc)
line_again words none (Frame locals stack) h = ap line_at h.spelled ∙ line_of_frame h.before h.behind (frame_again h.before h.behind locals stack h.locals_are h.stack_are)
  where
    line_of_frame : (before behind : List Word) → frame_at (before ++ word "/" ∷ behind) ≡ Some (Frame locals stack) → line_with (codes "frame", before ++ word "/" ∷ behind) ≡ Some (Frame locals stack)
    line_of_frame [] behind e = e
    line_of_frame (w ∷ before) behind e = e

pub other_answers : (words rest : List Word) (first : List ℕ) (result : Result Line LineRefusal) → plain_at words ≡ Some (first, rest) → None ≡ row_named first → Gives (λ (l : Line). l) result (line_with (first, rest)) → Answers (Says words) result
other_answers words rest first result e none g =
    let spelled = plain_takes words (first, rest) e in
    let no : NoMnemonic words = λ x f. ap (λ (y : List ℕ × List Word). row_named y.0) (same_Some x (first, rest) (sym f ∙ e)) ∙ sym none in
    answers (Says words) (line_with (first, rest)) result
    (λ line t. subst (λ (ws : List Word). Says ws line) (sym spelled) (with_takes first rest line t))
    (λ line says. subst (λ (ws : List Word). line_at ws ≡ Some line) spelled (line_again words no line says))
    g

-- ---- lines of instructions

keyword_first : (text : List ℕ) (words others : List Word) (x : List ℕ × List Word) (row : Row) → row_named text ≡ None → words ≡ Plain text ∷ others → plain_at words ≡ Some x → row_named x.0 ≡ Some row → ⊥
keyword_first text words others x row none spelled e some =
    let same : x ≡ (text, others) = same_Some x (text, others) (sym e ∙ ap plain_at spelled) in
    let no : row_named x.0 ≡ None = ap (λ (y : List ℕ × List Word). row_named y.0) same ∙ none in
    absurd (cc)

abbrev OperationLine : Row → List Word → Line → Type 0
OperationLine row words line = (operation : Operation) × (line ≡ Instruction operation) × SaysOperation row words operation

mnemonic_says : (words : List Word) (x : List ℕ × List Word) (row : Row) → plain_at words ≡ Some x → row_named x.0 ≡ Some row → (line : Line) → Says words line → OperationLine row x.1 line
mnemonic_says words x row e some (Class name flags) h =
    elim h [
      | inl t ↦ absurd (keyword_first (codes "class") words _ x row class_no_row t.0 e some)
      | inr t ↦ absurd (keyword_first (codes "class") words _ x row class_no_row t.1 e some)
    ]
mnemonic_says words x row e some (Super name) h = absurd (keyword_first (codes "super") words _ x row super_no_row h e some)
mnemonic_says words x row e some (Implements name) h = absurd (keyword_first (codes "implements") words _ x row implements_no_row h e some)
mnemonic_says words x row e some (Field flags name descriptor None) h = absurd (keyword_first (codes "field") words _ x row field_no_row h.1 e some)
mnemonic_says words x row e some (Field flags name descriptor (Some value)) h = absurd (keyword_first (codes "field") words _ x row field_no_row h.2 e some)
mnemonic_says words x row e some (Method flags name descriptor None) h = absurd (keyword_first (codes "method") words _ x row method_no_row h.1 e some)
mnemonic_says words x row e some (Method flags name descriptor (Some room)) h = absurd (keyword_first (codes "method") words _ x row method_no_row h.3 e some)
mnemonic_says words x row e some End h = absurd (keyword_first (codes "end") words _ x row end_no_row h e some)
mnemonic_says words x row e some (Label name) h = absurd (keyword_first (name ++ 58 ∷ []) words _ x row (label_no_row name) h.0 e some)
mnemonic_says words x row e some (Handler from to at None) h = absurd (keyword_first (codes "handler") words _ x row handler_no_row h e some)
mnemonic_says words x row e some (Handler from to at (Some class)) h = absurd (keyword_first (codes "handler") words _ x row handler_no_row h.0 e some)
mnemonic_says words x row e some (Instruction operation) h =
    let same : x ≡ (h.mnemonic, h.others) = same_Some x (h.mnemonic, h.others) (sym e ∙ ap plain_at h.spelled) in
    let row_is : row ≡ h.row = same_Some row h.row (sym some ∙ (ap (λ (y : List ℕ × List Word). row_named y.0) same ∙ h.named)) in
    (operation, refl, subst (λ (r : Row). SaysOperation r x.1 operation) (sym row_is) (subst (λ (y : List ℕ × List Word). SaysOperation h.row y.1 operation) (sym same) h.says))
mnemonic_says words x row e some (Frame locals stack) h = absurd (keyword_first (codes "frame") words _ x row frame_no_row h.spelled e some)

pub operation_refuses : (words : List Word) (x : List ℕ × List Word) (row : Row) (refusal : LineRefusal) → plain_at words ≡ Some x → Some row ≡ row_named x.0 → Answers (SaysOperation row x.1) (Err refusal) → Answers (Says words) (Err refusal)
operation_refuses words x row refusal e some a = record {
  found = tt;
  only = λ line says. let o = mnemonic_says words x row e (sym some) line says in a.only o.0 o.2;
}

pub operation_gives : (words : List Word) (x : List ℕ × List Word) (row : Row) (operation : Operation) → plain_at words ≡ Some x → Some row ≡ row_named x.0 → Answers (SaysOperation row x.1) (Ok operation) → Answers (Says words) (Ok (Instruction operation))
operation_gives words x row operation e some a = record {
  found = record { mnemonic = x.0; others = x.1; row = row; spelled = plain_takes words x e; named = sym some; says = a.found };
  only = λ line says.
      let o = mnemonic_says words x row e (sym some) line says in
      ap (λ (p : Operation). Instruction p) (a.only o.0 o.2) ∙ sym o.1;
}

-- ---- a line without a plain word in front

first_is_plain : (words : List Word) (line : Line) → Says words line → (x : List ℕ × List Word) × (plain_at words ≡ Some x)
first_is_plain words (Class name flags) h = elim h [ inl t ↦ (_, ap plain_at t.0) | inr t ↦ (_, ap plain_at t.1) ]
first_is_plain words (Super name) h = (_, ap plain_at h)
first_is_plain words (Implements name) h = (_, ap plain_at h)
first_is_plain words (Field flags name descriptor None) h = (_, ap plain_at h.1)
first_is_plain words (Field flags name descriptor (Some value)) h = (_, ap plain_at h.2)
first_is_plain words (Method flags name descriptor None) h = (_, ap plain_at h.1)
first_is_plain words (Method flags name descriptor (Some room)) h = (_, ap plain_at h.3)
first_is_plain words End h = (_, ap plain_at h)
first_is_plain words (Label name) h = (_, ap plain_at h.0)
first_is_plain words (Handler from to at None) h = (_, ap plain_at h)
first_is_plain words (Handler from to at (Some class)) h = (_, ap plain_at h.0)
first_is_plain words (Instruction operation) h = (_, ap plain_at h.spelled)
first_is_plain words (Frame locals stack) h = (_, ap plain_at h.spelled)

pub no_plain_refuses : (words : List Word) (refusal : LineRefusal) → Fails refusal (plain_at words) → Answers (Says words) (Err refusal)
no_plain_refuses words refusal f = refuses (Says words) (plain_at words) refusal f (first_is_plain words)

-- ---- the function

pub line_found : (text : List ℕ) (words : List Word) (r : Result Line LineRefusal) → AreWords text words → Answers (Says words) r → IfOk r (IsLine text)
line_found text words (Ok line) are a = (words, are, a.found)
line_found text words (Err refusal) are a = tt

pub line_only : (text : List ℕ) (words : List Word) (r : Result Line LineRefusal) → AreWords text words → Answers (Says words) r → (line : Line) → IsLine text line → MatchResult r (λ found. found ≡ line) (λ refusal. refusal ≡ NoMemory)
line_only text words r are a line h = a.only line (subst (λ (ws : List Word). Says ws line) (one_list text h.0 words h.1 are) h.2)

pub line_exact : (text : List ℕ) (r : Result Line LineRefusal) → ((line : Line) → IsLine text line → MatchResult r (λ found. found ≡ line) (λ refusal. refusal ≡ NoMemory)) → r ≡ Err Malformed → (line : Line) → IsLine text line → ⊥
line_exact text r only e line h = let bad : Malformed ≡ NoMemory = subst (λ (s : Result Line LineRefusal). MatchResult s (λ found. found ≡ line) (λ refusal. refusal ≡ NoMemory)) e (only line h) in cc
