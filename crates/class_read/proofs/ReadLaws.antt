-- A reader that gives what the rules allow gives each class file, and each refusal.
use Rattle.std.proofs.Common.{◌≡◌, ℕ, List, IfOk, Result, Ok, Err, inl, inr, sym, ◌∙◌, ap, subst}
use Rattle.class_walk.specs.declared.class.RawClass.{RawClass}
use Rattle.class_walk.specs.declared.refusal.WalkFault.{WalkFault}
use Rattle.class_read.specs.declared.class_file.ClassFile.{ClassFile}
use Rattle.class_pool.specs.declared.refusal.ReadRefusal.{ReadRefusal}
use Rattle.class_read.specs.ClassFile.{class_of, IsFile, IsRead, IsRefused}
use Rattle.class_walk.specs.Layout.{IsClassFile}
use Rattle.class_read.proofs.SoundLaws.{holds_sound}
use Rattle.class_read.specs.ClassRules.{class_rules}
use Rattle.class_pool.specs.Answers.{Gives}
use Rattle.class_read.proofs.SharpLaws.{sharp_class}

abbrev walked : RawClass → Result RawClass WalkFault
walked c = Ok c

pub same_class : (c d : RawClass) → walked c ≡ walked d → c ≡ d
same_class c d e = cc

pub read_only : (r : Result ClassFile ReadRefusal) (c d : RawClass) (file : ClassFile) → Gives r (class_rules c) (λ f. f ≡ class_of c) → d ≡ c → (class_rules d).Hold → file ≡ class_of d → IsRead r file
read_only (Ok f) c d file given same holds is = given.1 ∙ ap class_of (sym same) ∙ sym is
read_only (Err e) c d file refused same holds is =
    elim refused [
      | inl no_memory ↦ no_memory
      | inr broken ↦
          let P : RawClass → Type 0 = λ x. (class_rules x).Hold in
          absurd ((sharp_class c).apart e (subst P same holds) broken)
    ]

pub read_first : (r : Result ClassFile ReadRefusal) (c : RawClass) (e : ReadRefusal) → Gives r (class_rules c) (λ f. f ≡ class_of c) → (class_rules c).Refuse e → IsRefused r e
read_first (Ok f) c e given broken = (sharp_class c).apart e given.0 broken
read_first (Err d) c e refused broken =
    elim refused [
      | inl no_memory ↦ inl no_memory
      | inr other ↦ inr ((sharp_class c).one d e other broken)
    ]

pub read_found : (r : Result ClassFile ReadRefusal) (bytes : List ℕ) (c : RawClass) → IsClassFile bytes c → Gives r (class_rules c) (λ f. f ≡ class_of c) → IfOk r (λ f. IsFile bytes f)
read_found (Ok f) bytes c spelled given = (c, spelled, holds_sound c given.0, given.1)
read_found (Err e) bytes c spelled refused = tt
