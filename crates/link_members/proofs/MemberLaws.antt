-- The names and the descriptors of the methods of a file that was read are there.
use Rattle.std.proofs.Common.{◌≡◌, ℕ, List, Result, Ok, Err, Some, slice_get, ap, inr}
use Rattle.std.specs.Option.{IsSome, is_some}
use Rattle.class_walk.specs.declared.class.Constant.{Constant}
use Rattle.class_pool.specs.Lookup.{utf8_of}
use Rattle.class_read.specs.declared.class_file.Member.{Member}
use Rattle.class_names.specs.Names.{IsMethodName}
use Rattle.class_read.specs.MemberRules.{IsTextAt, IsTypeOfMethod}
use Rattle.code_decode.specs.declared.code.ClassUnit.{ClassUnit}
use Rattle.code_laws.proofs.FileLaws.{methods}
use Rattle.access_flags.specs.Flags.{has}
use Rattle.rules.specs.Rules.{Rules, ◌then◌}
use Rattle.rules.proofs.SharpLaws.{IsSharp, sharp_must, sharp_then, sharp_each}
use Rattle.class_supers.proofs.RuleLaws.{broken_is_refused}
use Rattle.link_rules.specs.Classes.{classes_of, class_of_unit}
use Rattle.link_rules.specs.LinkRules.{members_rules, declared_field_rules, declared_method_rules}
use Rattle.link_members.specs.Members.{all_members_rules}
use Rattle.link_types.specs.declared.refusal.LinkRefusal.{LinkRefusal}
use Rattle.class_supers.specs.Answers.{KeepsExactly, Gives, IsRefused}
use Rattle.link_rules.specs.Units.{IsDecoded}

-- an entry that has a text is a Utf8 entry
text_there : (pool : List Constant) (i : ℕ) (Is : List ℕ → Type 0) → IsTextAt Is pool i → IsSome (utf8_of (slice_get pool i))
text_there pool i Is t = ap is_some (ap utf8_of t.1)

pub named : (u : ClassUnit) → IsDecoded u → (i : ℕ) (m : Member) → slice_get u.file.methods i ≡ Some m → IsSome (utf8_of (slice_get u.file.pool m.name))
named u decoded i m at = text_there u.file.pool m.name IsMethodName (methods u.file decoded.file i m at).name

pub described : (u : ClassUnit) → IsDecoded u → (i : ℕ) (m : Member) → slice_get u.file.methods i ≡ Some m → IsSome (utf8_of (slice_get u.file.pool m.descriptor))
described u decoded i m at = text_there u.file.pool m.descriptor (IsTypeOfMethod m.flags) (methods u.file decoded.file i m at).descriptor

-- they refuse one thing at most
sharp_members : (us : List ClassUnit) → IsSharp (all_members_rules us)
sharp_members us =
    sharp_each (λ k u. members_rules (classes_of us) k (class_of_unit u)) us (λ k u.
    sharp_then _ _
    (sharp_each (λ i f. declared_field_rules (classes_of us) k f) (class_of_unit u).fields (λ i f. sharp_then _ _ (sharp_must _ _) (sharp_must _ _)))
    (sharp_each (λ i m. declared_method_rules (classes_of us) k (has u.file.flags 512) m) (class_of_unit u).methods (λ i m.
    sharp_then _ _ (sharp_must _ _) (sharp_then _ _ (sharp_must _ _) (sharp_then _ _ (sharp_must _ _) (sharp_must _ _))))))

pub members_refused : {T : Type 0} (us : List ClassUnit) (r : Result T LinkRefusal) → Gives r (all_members_rules us) (λ x. Unit {0})
    → (e : LinkRefusal) → (all_members_rules us).Refuse e → IsRefused r e
members_refused us r g = broken_is_refused (all_members_rules us) (sharp_members us) (λ x. Unit {0}) r g

pub gives_kept : {T : Type 0} (rules : Rules LinkRefusal) (r : Result T LinkRefusal) → KeepsExactly r rules → Gives r rules (λ x. Unit {0})
gives_kept rules (Ok t) kept = (kept, tt)
gives_kept rules (Err e) kept = inr kept
