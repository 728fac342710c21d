-- Answers to what was found.
use Rattle.std.proofs.Common.{◌≡◌, inl, inr, length, ℕ, List, map, take, String, string_bytes, sym, ◌∙◌, subst, Option}
use Rattle.std.specs.Prelude.{◌⊎◌}
use Rattle.std.specs.declared.alloc.Global.{Global}
use Rattle.jr_ports.specs.Folder.{File, Asked}
use Rattle.jr_ports.specs.Stream.{Gains}
use Rattle.program_input.specs.Folder.{AreRead}
use Rattle.program_answers.specs.declared.answer.Answer.{Answer}
use Rattle.std.proofs.lemmas.List.{take-map}
use Rattle.file_answers.specs.Answers.{ComeTo, IsJudged, RefuseOnly}
use Rattle.file_answers.specs.declared.loading.Judged.{Judged}
use Rattle.file_answers.specs.declared.loading.Judged.TheVariants as judged
use Rattle.rules.specs.Rules.{Rules}
use Rattle.program_accept.specs.Accepted.{Accepted}
use Rattle.program_accept.specs.declared.refusal.AcceptRefusal.{AcceptRefusal}
use Rattle.program_accept.specs.declared.refusal.AcceptRefusal.TheVariants.{NoMemory}
use Rattle.file_answers.specs.Folder.{AreListed}
use Rattle.file_answers.proofs.Found.{Told, listed}

-- what holds of the class files of a folder that were read, by their names and bytes
pub loaded : (Is : List (List ℕ) → List (List ℕ) → Type 0) (asked now : Option Asked) (files given : Option (List File)) (first before after : Option (List (List ℕ))) (dir : List ℕ) (sorted read judged : List (String Global)) (bytes : List (List ℕ))
    → Told asked files dir (map string_bytes sorted) → now ≡ asked → given ≡ files → before ≡ first → read ≡ take 1025 sorted → judged ≡ take 1025 sorted
    → AreRead given (map string_bytes read) bytes → Gains before after (map string_bytes read) → Is (map string_bytes judged) bytes
    → (names : List (List ℕ)) × AreListed now files dir names × Gains first after (take 1025 names) × ((found : List (List ℕ)) × AreRead files (take 1025 names) found × Is (take 1025 names) found)
loaded Is asked now files given first before after dir sorted read judged bytes told same told_too none all all_too are gains is =
    let Listed : Option Asked → Type 0 = λ a. AreListed a files dir (map string_bytes sorted) in
    let From : Option (List File) → Type 0 = λ f. AreRead f (map string_bytes read) bytes in
    let Read : List (String Global) → Type 0 = λ r. AreRead files (map string_bytes r) bytes in
    let Named : List (List ℕ) → Type 0 = λ n. AreRead files n bytes in
    let Since : Option (List (List ℕ)) → Type 0 = λ b. Gains b after (map string_bytes read) in
    let Gained : List (String Global) → Type 0 = λ r. Gains first after (map string_bytes r) in
    let All : List (List ℕ) → Type 0 = λ n. Gains first after n in
    let Judged : List (String Global) → Type 0 = λ r. Is (map string_bytes r) bytes in
    let Said : List (List ℕ) → Type 0 = λ n. Is n bytes in
    let front = take-map string_bytes 1025 sorted in (
      map string_bytes sorted,
      subst Listed (sym same) (listed asked files dir (map string_bytes sorted) told),
      subst All (sym front) (subst Gained all (subst Since none gains)),
      (bytes, subst Named (sym front) (subst Read all (subst From told_too are)), subst Said (sym front) (subst Judged all_too is)),
    )

refuses-as : (rules : Rules AcceptRefusal) (e wanted : AcceptRefusal) → (e ≡ NoMemory) ⊎ rules.Refuse e → e ≡ wanted → (wanted ≡ NoMemory → ⊥) → rules.Refuse wanted
refuses-as rules e wanted (inl none) same other = absurd (other (sym same ∙ none))
refuses-as rules e wanted (inr is) same other = subst rules.Refuse same is

only-one : (e wanted o : AcceptRefusal) → (e ≡ NoMemory) ⊎ (e ≡ o) → e ≡ wanted → (wanted ≡ NoMemory → ⊥) → o ≡ wanted
only-one e wanted o (inl none) same other = absurd (other (sym same ∙ none))
only-one e wanted o (inr is) same other = sym is ∙ same

-- what the rules refuse, out of memory aside; only that, where it isn't out of memory
pub refuses-only : (rules : Rules AcceptRefusal) (e wanted : AcceptRefusal) → (e ≡ NoMemory) ⊎ rules.Refuse e → ((o : AcceptRefusal) → rules.Refuse o → (e ≡ NoMemory) ⊎ (e ≡ o)) → (rules.Hold → e ≡ NoMemory)
    → e ≡ wanted → (wanted ≡ NoMemory → ⊥) → RefuseOnly rules wanted
refuses-only rules e wanted exact first hold same other = record {
  refused = refuses-as rules e wanted exact same other;
  only = λ o refused. only-one e wanted o (first o refused) same other;
  broken = λ holds. other (sym same ∙ hold holds);
}

-- the answer to class files that come to a program, of which this holds; or to others
pub judged_program : (answers : ℕ → Accepted → Answer → Type 0) (main : List ℕ) (names files : List (List ℕ)) (came : Judged) (program : Accepted) (count : ℕ) (answer : Answer)
    → ComeTo main names files came → came ≡ judged.Program program → answers count program answer → count ≡ length files → IsJudged answers main names files answer
judged_program answers main names files came program count answer come is holds long =
    inl (program, subst (ComeTo main names files) is come, subst (λ n. answers n program answer) long holds)

pub judged_other : (answers : ℕ → Accepted → Answer → Type 0) (main : List ℕ) (names files : List (List ℕ)) (came : Judged) (answer : Answer)
    → ComeTo main names files came → came ≡ judged.Other answer → IsJudged answers main names files answer
judged_other answers main names files came answer come is = inr (subst (ComeTo main names files) is come)
