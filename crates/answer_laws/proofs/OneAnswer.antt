-- A request has one answer over what a folder and an input hold.
use Rattle.std.proofs.Common.{◌≡◌, inl, inr, ℕ, Bool, false, true≢false, List, [], ◌∷◌, map, take, length, Option, Some, None, IfSome, Result, Ok, Err, refl, sym, ◌∙◌, ap, subst}
use Rattle.std.specs.List.Sorted.{IsPermutation}
use Rattle.op_core.specs.declared.Event.{Event}
use Rattle.op_core.specs.declared.Undo.{Undo}
use Rattle.op_core.specs.declared.Limits.{Limits}
use Rattle.op_core.specs.declared.Outcome.{Outcome}
use Rattle.schedules.specs.declared.order.Schedule.{Schedule}
use Rattle.ordinary_machine.specs.Machine.{Machine}
use Rattle.ordinary_runs.proofs.MadeLemmas.{made_one}
use Rattle.trace_journal.specs.declared.item.JournalFault.{JournalFault}
use Rattle.trace_journal.specs.declared.item.TheConstants.{LARGEST}
use Rattle.trace_journal.specs.Reading.{Read, line_of}
use Rattle.trace_journal.specs.Text.{text_of}
use Rattle.trace_journal.proofs.LawLemmas.{texts_have_one_reading}
use Rattle.journal_check.specs.Checked.{IsChecked}
use Rattle.journal_check.proofs.LawLemmas.{one_check}
use Rattle.code_decode.specs.declared.code.ClassUnit.{ClassUnit}
use Rattle.java_rows.specs.Thread.{Local, java_code}
use Rattle.java_machine.specs.Lines.{line_bytes}
use Rattle.java_words.specs.WordRun.{machine_at_start}
use Rattle.java_words.proofs.OutcomeLemmas.{one_word_run, one_traced_run}
use Rattle.java_run.specs.Run.{answer_of, journal_answer}
use Rattle.java_run.specs.Check.{Shows}
use Rattle.java_run.specs.declared.checking.Checked.{Checked}
use Rattle.java_run.specs.declared.checking.Checked.TheVariants.{Execution, NotExecution}
use Rattle.class_make.proofs.TextLaws as texts
use Rattle.class_make.specs.Texts.{front}
use Rattle.jr_ports.specs.Folder.{File, AreDifferent, names_of}
use Rattle.program_input.specs.Folder.{AreRead}
use Rattle.program_accept.specs.declared.refusal.Refusal.{Refusal}
use Rattle.program_accept.specs.declared.refusal.AcceptRefusal.TheVariants.{NoMain, Refused}
use Rattle.program_accept.specs.Accepted.{Accepted}
use Rattle.program_answers.specs.declared.answer.Answer.{Answer}
use Rattle.encoded_texts.specs.Encoded.{encoded_text}
use Rattle.command_words.specs.declared.request.Request.{Request}
use Rattle.command_words.specs.declared.request.Request.TheVariants.{Pick, Trace, Run, Check, Load, Make, Migrate, Stress, Help, Version}
use Rattle.command_answers.specs.Answers.{IsJudged, IsMade, IsText, IsJournalText, IsMigrated, Counts, Runs, Traces, Checks, checked_answer, refused, given, not_made, not_execution}
use Rattle.jrev_top.specs.Headline.{Outside, IsOfProgram, IsAnswerTo}
use Rattle.answer_laws.specs.OneAnswer.{Tells, runs_on_hosts, RequestsHaveOneAnswer}
use Rattle.answer_laws.proofs.Sorted.{one_order}
use Rattle.answer_laws.proofs.Files.{one_content}

-- ---- the answer to class files

-- what is answered to a program is one thing
abbrev AnswersOnce : (ℕ → Accepted → Answer → Type 0) → Type 0
AnswersOnce answers = (count : ℕ) (program : Accepted) (answer other : Answer) → answers count program answer → answers count program other → other ≡ answer

counts_once : AnswersOnce Counts
counts_once count program answer other one two = two ∙ sym one

runs_once : (schedule : Schedule) (limits : Limits) (counts : Bool) → AnswersOnce (Runs schedule limits counts)
runs_once schedule limits counts count program answer other one two =
    two.answered ∙ ap (answer_of program.units counts) (one_word_run program.units program.main schedule limits one.outcome two.outcome one.run two.run) ∙ sym one.answered

same_events : (es fs : List Event) → (let x : Option (List Event) = Some es in let y : Option (List Event) = Some fs in x ≡ y) → es ≡ fs
same_events es fs same = cc

same_undos : (us vs : List Undo) → (let x : Option (List Undo) = Some us in let y : Option (List Undo) = Some vs in x ≡ y) → us ≡ vs
same_undos us vs same = cc

traces_once : (schedule : Schedule) (limits : Limits) → AnswersOnce (Traces schedule limits)
traces_once schedule limits count program answer other one two =
    let outcomes : two.outcome ≡ one.outcome = one_traced_run program.units program.main schedule limits one.outcome two.outcome one.run two.run in
    let firsts = one.run.executed in
    let seconds = two.run.executed in
    let events : seconds.events ≡ firsts.events = same_events seconds.events firsts.events (sym seconds.kept ∙ ap (λ (o : Outcome). o.events) outcomes ∙ firsts.kept) in
    let undos : two.run.undos ≡ one.run.undos = same_undos two.run.undos one.run.undos (sym two.run.kept ∙ ap (λ (o : Outcome). o.undos) outcomes ∙ one.run.kept) in
    two.answered ∙ ap (λ es. journal_answer program.units es two.run.undos two.outcome) events ∙ ap (λ us. journal_answer program.units firsts.events us two.outcome) undos
    ∙ ap (journal_answer program.units firsts.events one.run.undos) outcomes ∙ sym one.answered

-- what is shown of a check is one thing
one_shown : (us : List ClassUnit) (found : Result (Machine Local) ℕ) (checked other : Checked) → Shows us found checked → Shows us found other → checked_answer other ≡ checked_answer checked
one_shown us (Ok last) (Execution lines) (Execution others) (made, are, same) (made_too, are_too, same_too) =
    let texts : made_too ≡ made = made_one last.now last.now.lines made made_too are are_too in
    ap (λ ls. checked_answer (Execution ls)) (same_too ∙ ap (λ ms. map (line_bytes us ms) last.now.lines) texts ∙ sym same)
one_shown us (Err n) (NotExecution line) (NotExecution another) same same_too = ap not_execution (same_too ∙ sym same)
one_shown us (Ok last) (NotExecution line) other is is_too = absurd is
one_shown us (Ok last) (Execution lines) (NotExecution line) is is_too = absurd is_too
one_shown us (Err n) (Execution lines) other is is_too = absurd is
one_shown us (Err n) (NotExecution line) (Execution lines) is is_too = absurd is_too

checks_once : (input : List ℕ) → AnswersOnce (Checks (Some input))
checks_once input count program answer other (text, checked, read, is, same) (another, checked_too, read_too, is_too, same_too) =
    let texts : another ≡ text = read_too ∙ sym read in
    let m = machine_at_start program.units program.main in
    let found : is_too.found ≡ is.found = one_check java_code m text is.found is_too.found is.is (subst (λ t. IsChecked java_code m t is_too.found) texts is_too.is) in
    same_too ∙ one_shown program.units is.found checked checked_too is.shows (subst (λ f. Shows program.units f checked_too) found is_too.shows) ∙ sym same

same_refusal : (e f : Refusal) → Refused e ≡ Refused f → e ≡ f
same_refusal e f same = cc

no_main_refused : (e : Refusal) → NoMain ≡ Refused e → ⊥
no_main_refused e same = absurd cc

one_judgement : (answers : ℕ → Accepted → Answer → Type 0) (main : List ℕ) (names files : List (List ℕ)) (answer other : Answer) → AnswersOnce answers
    → IsJudged answers main names files answer → IsJudged answers main names files other → other ≡ answer
one_judgement answers main names files answer other once (inl one) (inl two) =
    let Of : Accepted → Type 0 = λ p. answers (length files) p other in
    once (length files) one.0 answer other one.2 (subst Of (one.1.only two.0 two.1.is) two.2)
one_judgement answers main names files answer other once (inl one) (inr (inl two)) = absurd (one.1.unbroken NoMain two.0.refused)
one_judgement answers main names files answer other once (inl one) (inr (inr two)) = absurd (one.1.unbroken (Refused two.0) two.1.refused)
one_judgement answers main names files answer other once (inr (inl one)) (inl two) = absurd (two.1.unbroken NoMain one.0.refused)
one_judgement answers main names files answer other once (inr (inl one)) (inr (inl two)) = two.1 ∙ sym one.1
one_judgement answers main names files answer other once (inr (inl one)) (inr (inr two)) =
    absurd (no_main_refused two.0 (two.1.only NoMain one.0.refused))
one_judgement answers main names files answer other once (inr (inr one)) (inl two) = absurd (two.1.unbroken (Refused one.0) one.1.refused)
one_judgement answers main names files answer other once (inr (inr one)) (inr (inl two)) =
    absurd (no_main_refused one.0 (one.1.only NoMain two.0.refused))
one_judgement answers main names files answer other once (inr (inr one)) (inr (inr two)) =
    let same = same_refusal two.0 one.0 (one.1.only (Refused two.0) two.1.refused) in
    two.2 ∙ ap (refused names) same ∙ sym one.2

-- ---- the answer to a folder

listed : (files : List File) (told : Option (List File)) (given : List (List ℕ)) → told ≡ Some files → IfSome told (λ all. IsPermutation (names_of all) given) → IsPermutation (names_of files) given
listed files told given is all = subst (λ (o : Option (List File)). IfSome o (λ fs. IsPermutation (names_of fs) given)) is all

one_of_program : (answers : ℕ → Accepted → Answer → Type 0) (dir main : List ℕ) (files : List File) (input : List ℕ) (outside another : Outside) (answer other : Answer) → AnswersOnce answers
    → AreDifferent (names_of files) → Tells files input outside → Tells files input another
    → IsOfProgram answers dir main outside answer → IsOfProgram answers dir main another other → other ≡ answer
one_of_program answers dir main files input outside another answer other once different here there one two =
    let ones = one.1 in
    let twos = two.1 in
    let names : two.0 ≡ one.0 = one_order (names_of files) ones.names twos.names one.0 two.0
    (listed files outside.files ones.names here.told_files ones.of_files) (listed files another.files twos.names there.told_files twos.of_files) ones.are twos.are in
    let Read : Option (List File) → Type 0 = λ told. AreRead told (take 1025 one.0) one.3.0 in
    let Again : Option (List File) → Type 0 = λ told. AreRead told (take 1025 two.0) two.3.0 in
    let Same : List (List ℕ) → Type 0 = λ ns. AreRead (Some files) (take 1025 ns) two.3.0 in
    let read : two.3.0 ≡ one.3.0 = one_content files (take 1025 one.0) one.3.0 two.3.0 different (subst Read here.told_files one.3.1) (subst Same names (subst Again there.told_files two.3.1)) in
    let Named : List (List ℕ) → Type 0 = λ ns. IsJudged answers main (take 1025 ns) two.3.0 other in
    let Of : List (List ℕ) → Type 0 = λ fs. IsJudged answers main (take 1025 one.0) fs other in
    one_judgement answers main (take 1025 one.0) one.3.0 answer other once one.3.2 (subst Of read (subst Named names two.3.2))

-- ---- the answer to a text

same_ok : (a b : List ℕ) → (let x : Result (List ℕ) ℕ = Ok a in let y : Result (List ℕ) ℕ = Ok b in x ≡ y) → b ≡ a
same_ok a b same = cc

same_err : (a b : ℕ) → (let x : Result (List ℕ) ℕ = Err a in let y : Result (List ℕ) ℕ = Err b in x ≡ y) → b ≡ a
same_err a b same = cc

ok_err : (a : List ℕ) (b : ℕ) → (let x : Result (List ℕ) ℕ = Ok a in let y : Result (List ℕ) ℕ = Err b in x ≡ y) → ⊥
ok_err a b same = absurd cc

one_making : (text : List ℕ) (answer other : Answer) → IsMade text answer → IsMade text other → other ≡ answer
one_making text answer other (inl one) (inl two) = two.2 ∙ ap given (same_ok one.0 two.0 (texts.one_answer text (Ok one.0) (Ok two.0) one.1 two.1)) ∙ sym one.2
one_making text answer other (inl one) (inr two) = absurd (ok_err one.0 two.0 (texts.one_answer text (Ok one.0) (Err two.0) one.1 two.1))
one_making text answer other (inr one) (inl two) = absurd (ok_err two.0 one.0 (texts.one_answer text (Ok two.0) (Err one.0) two.1 one.1))
one_making text answer other (inr one) (inr two) = two.2 ∙ ap not_made (same_err one.0 two.0 (texts.one_answer text (Err one.0) (Err two.0) one.1 two.1)) ∙ sym one.2

same_read : (a b : Read) → (let x : Result Read JournalFault = Ok a in let y : Result Read JournalFault = Ok b in x ≡ y) → a ≡ b
same_read a b same = cc

same_fault : (a b : JournalFault) → (let x : Result Read JournalFault = Err a in let y : Result Read JournalFault = Err b in x ≡ y) → a ≡ b
same_fault a b same = cc

read_fault : (a : Read) (b : JournalFault) → (let x : Result Read JournalFault = Ok a in let y : Result Read JournalFault = Err b in x ≡ y) → ⊥
read_fault a b same = absurd cc

one_migration : (text : List ℕ) (answer other : Answer) → IsMigrated text answer → IsMigrated text other → other ≡ answer
one_migration text answer other (inl one) (inl two) =
    two.2 ∙ ap (λ (r : Read). given (text_of 2 r.items)) (same_read two.0 one.0 (texts_have_one_reading LARGEST text (Ok one.0) (Ok two.0) one.1 two.1)) ∙ sym one.2
one_migration text answer other (inl one) (inr two) = absurd (read_fault one.0 two.0 (texts_have_one_reading LARGEST text (Err two.0) (Ok one.0) two.1 one.1))
one_migration text answer other (inr one) (inl two) = absurd (read_fault two.0 one.0 (texts_have_one_reading LARGEST text (Err one.0) (Ok two.0) one.1 two.1))
one_migration text answer other (inr one) (inr two) =
    two.2 ∙ ap (λ fault. not_execution (line_of fault)) (same_fault two.0 one.0 (texts_have_one_reading LARGEST text (Err one.0) (Err two.0) one.1 two.1)) ∙ sym one.2

one_journal : (input : List ℕ) (told : Option (List ℕ)) (text : List ℕ) → told ≡ Some input → IsJournalText told text → text ≡ take 268435457 input
one_journal input told text is of = subst (λ (o : Option (List ℕ)). IsJournalText o text) is of

one_text : (input : List ℕ) (told : Option (List ℕ)) (text : List ℕ) → told ≡ Some input → IsText told text → text ≡ front input
one_text input told text is of = subst (λ (o : Option (List ℕ)). IsText o text) is of

-- ---- the answer to a request

one_answer_to : (request : Request) (files : List File) (input : List ℕ) (outside another : Outside) (answer other : Answer) → runs_on_hosts request ≡ false → AreDifferent (names_of files)
    → Tells files input outside → Tells files input another → IsAnswerTo request outside answer → IsAnswerTo request another other → other ≡ answer
one_answer_to (Pick dir main limits schedule counts) files input outside another answer other one_host different here there one two =
    one_of_program (Runs schedule limits counts) dir (encoded_text main) files input outside another answer other (runs_once schedule limits counts) different here there one two
one_answer_to (Load dir main) files input outside another answer other one_host different here there one two =
    one_of_program Counts dir (encoded_text main) files input outside another answer other counts_once different here there one two
one_answer_to (Trace dir main limits schedule) files input outside another answer other one_host different here there one two =
    one_of_program (Traces schedule limits) dir (encoded_text main) files input outside another answer other (traces_once schedule limits) different here there one two
one_answer_to (Check dir main) files input outside another answer other one_host different here there one two =
    let Of : Option (List ℕ) → Type 0 = λ told. IsOfProgram (Checks told) dir (encoded_text main) outside answer in
    let Too : Option (List ℕ) → Type 0 = λ told. IsOfProgram (Checks told) dir (encoded_text main) another other in
    one_of_program (Checks (Some input)) dir (encoded_text main) files input outside another answer other (checks_once input) different here there
    (subst Of here.told_input one) (subst Too there.told_input two)
one_answer_to Migrate files input outside another answer other one_host different here there one two =
    let first = one_journal input outside.input one.0 here.told_input one.1 in
    let second = one_journal input another.input two.0 there.told_input two.1 in
    let Of : List ℕ → Type 0 = λ text. IsMigrated text answer in
    let Too : List ℕ → Type 0 = λ text. IsMigrated text other in
    one_migration (take 268435457 input) answer other (subst Of first one.2) (subst Too second two.2)
one_answer_to (Stress number) files input outside another answer other one_host different here there one two = absurd (true≢false one_host)
one_answer_to Make files input outside another answer other one_host different here there one two =
    let first = one_text input outside.input one.0 here.told_input one.1 in
    let second = one_text input another.input two.0 there.told_input two.1 in
    let Of : List ℕ → Type 0 = λ text. IsMade text answer in
    let Too : List ℕ → Type 0 = λ text. IsMade text other in
    one_making (front input) answer other (subst Of first one.2) (subst Too second two.2)
one_answer_to Help files input outside another answer other one_host different here there one two = two ∙ sym one
one_answer_to Version files input outside another answer other one_host different here there one two = two ∙ sym one
one_answer_to (Run dir main limits workers slice counts) files input outside another answer other one_host different here there one two = absurd (true≢false one_host)

pub one_answer : RequestsHaveOneAnswer
one_answer None files input outside another answer other one_host different here there one two = two ∙ sym one
one_answer (Some request) files input outside another answer other one_host different here there one two = one_answer_to request files input outside another answer other one_host different here there one two
