-- How a run may end.
use Rattle.std.proofs.Common.{◌≡◌, inl, inr, ℕ, List, [], ◌∷◌, ◌||◌, length, Bool, true, false, Option, None, Some, Result, Ok, Err, IfOk, ◌+◌, ◌%◌, ◌^◌, ◌<◌, ◌↔◌, arith, refl, sym, ◌∙◌, ap, subst, codes}
use Rattle.std.specs.Result.{OnOk}
use Rattle.command_words.specs.declared.request.Request.{Request}
use Rattle.command_words.specs.declared.request.Request.TheVariants.{Pick, Trace, Run, Check, Load, Make, Migrate, Stress, Help, Version}
use Rattle.program_answers.specs.declared.status.Status.{Status}
use Rattle.program_answers.specs.declared.status.Status.TheVariants as statuses
use Rattle.program_answers.specs.declared.answer.Answer.{Answer}
use Rattle.program_answers.specs.Written.{line, SinkRun, Streams, EndsOr, Comes}
use Rattle.encoded_texts.specs.Encoded.{encoded_text}
use Rattle.command_answers.specs.Answers.{Counts, Runs, RunsHosted, Traces, Checks}
use Rattle.command_answers.specs.Ends.{is_done, is_of_journal, is_of_run}
use Rattle.command_answers.proofs.EndLemmas.{ends-as, ran, ran_hosted, traced, checks, counted, judged_as, made, migrated, stressed}
use Rattle.file_answers.specs.declared.failure.Failure.{Failure}
use Rattle.file_answers.specs.declared.failure.Failure.TheVariants as failure
use Rattle.jrev_top.specs.Touches.{may_end}
use Rattle.jrev_top.specs.Headline.{Outside, IsAnswerTo, IsAnswer, IsTold, Reports, FailsAsked, FailsStream, Ends, MayEnd}

-- what holds of the status that is meant, and of those of failures, holds of the one that comes
ended : (P : Status → Type 0) (short meant status : Status) (lines : List (List ℕ)) (run : SinkRun)
    → (¬ run.failed → P meant) → (run.failed → P statuses.WriteFault) → (¬ run.failed → P short) → EndsOr short lines meant run status → P status
ended P short meant status lines run is fault none (inl whole) = subst P (sym whole.0) (is whole.1)
ended P short meant status lines run is fault none (inr (inl failed)) = subst P (sym failed.0) (fault failed.1)
ended P short meant status lines run is fault none (inr (inr out)) = subst P (sym out.0) (none out.1)

comes : (P : Status → Type 0) (answer : Answer) (streams : Streams) (status : Status)
    → (¬ streams.out.failed → ¬ streams.err.failed → P answer.status) → (FailsStream streams → P statuses.WriteFault) → (¬ streams.out.failed → ¬ streams.err.failed → P statuses.Memory)
    → Comes answer streams status → P status
comes P answer streams status is fault none (inl whole) =
    ended P statuses.Memory answer.status status answer.err streams.err (is whole.0) (λ failed. fault (inr failed)) (none whole.0) whole.2
comes P answer streams status is fault none (inr (inl failed)) =
    ended P statuses.WriteFault statuses.WriteFault status (line (codes "write fault") ∷ []) streams.err (λ _. fault (inl failed.0)) (λ err. fault (inr err)) (λ _. fault (inl failed.0)) failed.2
comes P answer streams status is fault none (inr (inr out)) =
    ended P statuses.Memory statuses.Memory status (line (codes "no memory") ∷ []) streams.err (none out.0) (λ failed. fault (inr failed)) (none out.0) out.2

-- .. of a whole run
pub reported : (P : Status → Type 0) (request : Option Request) (outside : Outside) (failed : Type 0) (streams : Streams) (status : Status)
    → ((answer : Answer) → IsAnswer request outside answer → ¬ failed → ¬ streams.out.failed → ¬ streams.err.failed → P answer.status)
    → (failed → ¬ streams.out.failed → ¬ streams.err.failed → P statuses.ReadFault)
    → (FailsStream streams → P statuses.WriteFault)
    → (¬ failed → ¬ streams.out.failed → ¬ streams.err.failed → P statuses.Memory)
    → Reports request outside failed streams status → P status
reported P request outside failed streams status is read write none (inl (answer, of, calm, came)) =
    comes P answer streams status (is answer of calm) write (none calm) came
reported P request outside failed streams status is read write none (inr (inl fault)) =
    ended P statuses.ReadFault statuses.ReadFault status (line (codes "read fault") ∷ []) streams.err (read fault.0 fault.1.0) (λ err. write (inr err)) (read fault.0 fault.1.0) fault.1.2
reported P request outside failed streams status is read write none (inr (inr out)) =
    ended P statuses.Memory statuses.Memory status (line (codes "no memory") ∷ []) streams.err (none out.0 out.1.0) (λ err. write (inr err)) (none out.0 out.1.0) out.1.2

neither : (streams : Streams) → ¬ streams.out.failed → ¬ streams.err.failed → ¬ FailsStream streams
neither streams out err (inl failed) = out failed
neither streams out err (inr failed) = err failed

request-ends : (request : Request) (outside : Outside) (answer : Answer) → IsAnswerTo request outside answer → may_end request answer.status ≡ true
request-ends (Pick dir main limits schedule counts) outside answer is = judged_as is_of_run (Runs schedule limits counts) (ran schedule limits counts) (encoded_text main) _ is.3.0 answer is.3.2
request-ends (Trace dir main limits schedule) outside answer is = judged_as is_of_run (Traces schedule limits) (traced schedule limits) (encoded_text main) _ is.3.0 answer is.3.2
request-ends (Run dir main limits workers slice counts) outside answer is = judged_as is_of_run (RunsHosted limits counts) (ran_hosted limits counts) (encoded_text main) _ is.3.0 answer is.3.2
request-ends (Check dir main) outside answer is = judged_as is_of_journal (Checks outside.input) (checks outside.input) (encoded_text main) _ is.3.0 answer is.3.2
request-ends (Load dir main) outside answer is = counted (encoded_text main) _ is.3.0 answer is.3.2
request-ends Make outside answer is = made is.0 answer is.2
request-ends Migrate outside answer is = migrated is.0 answer is.2
request-ends (Stress number) outside answer is = stressed number answer is
request-ends Help outside answer is = ends-as is_done answer _ is refl
request-ends Version outside answer is = ends-as is_done answer _ is refl

-- the answer's status is one with which the words may end
pub answer-ends : (request : Option Request) (outside : Outside) (answer : Answer) → IsAnswer request outside answer → Ends request answer.status
answer-ends None outside answer is = ap (λ (a : Answer). a.status) is
answer-ends (Some request) outside answer is = request-ends request outside answer is

-- it is that of no failure
pub ends-read_fault : (request : Option Request) → Ends request statuses.ReadFault → ⊥
ends-read_fault None is = cc
ends-read_fault (Some (Pick dir main limits schedule counts)) is = cc
ends-read_fault (Some (Load dir main)) is = cc
ends-read_fault (Some Make) is = cc
ends-read_fault (Some Migrate) is = cc
ends-read_fault (Some Help) is = cc
ends-read_fault (Some Version) is = cc
ends-read_fault (Some (Trace dir main limits schedule)) is = cc
ends-read_fault (Some (Run dir main limits workers slice counts)) is = cc
ends-read_fault (Some (Check dir main)) is = cc
ends-read_fault (Some (Stress number)) is = cc

pub ends-write_fault : (request : Option Request) → Ends request statuses.WriteFault → ⊥
ends-write_fault None is = cc
ends-write_fault (Some (Pick dir main limits schedule counts)) is = cc
ends-write_fault (Some (Load dir main)) is = cc
ends-write_fault (Some Make) is = cc
ends-write_fault (Some Migrate) is = cc
ends-write_fault (Some Help) is = cc
ends-write_fault (Some Version) is = cc
ends-write_fault (Some (Trace dir main limits schedule)) is = cc
ends-write_fault (Some (Run dir main limits workers slice counts)) is = cc
ends-write_fault (Some (Check dir main)) is = cc
ends-write_fault (Some (Stress number)) is = cc

ends-memory : (request : Option Request) → Ends request statuses.Memory → ⊥
ends-memory None is = cc
ends-memory (Some (Pick dir main limits schedule counts)) is = cc
ends-memory (Some (Load dir main)) is = cc
ends-memory (Some Make) is = cc
ends-memory (Some Migrate) is = cc
ends-memory (Some Help) is = cc
ends-memory (Some Version) is = cc
ends-memory (Some (Trace dir main limits schedule)) is = cc
ends-memory (Some (Run dir main limits workers slice counts)) is = cc
ends-memory (Some (Check dir main)) is = cc
ends-memory (Some (Stress number)) is = cc

-- ---- which status comes of a run

module _ (request : Option Request) (outside : Outside) (failed : Type 0) (streams : Streams) (status : Status) (reports : Reports request outside failed streams status) where
  is_none : (other : Status) (P : Type 0) → (Ends request other → ⊥) → (answer : Answer) → IsAnswer request outside answer → answer.status ≡ other → P
  is_none other P never answer of same = absurd (never (subst (Ends request) same (answer-ends request outside answer of)))

  pub read-faults : status ≡ statuses.ReadFault ↔ (failed × ¬ FailsStream streams)
  read-faults = (
    reported (λ s. s ≡ statuses.ReadFault → failed × ¬ FailsStream streams) request outside failed streams status
        (λ answer of _ _ _. is_none statuses.ReadFault _ (ends-read_fault request) answer of)
        (λ fault out err _. (fault, neither streams out err))
        (λ _ e. absurd cc)
        (λ _ _ _ e. absurd cc)
        reports,
    reported (λ s. failed × ¬ FailsStream streams → s ≡ statuses.ReadFault) request outside failed streams status
        (λ answer of calm _ _ fault. absurd (calm fault.0))
        (λ _ _ _ _. refl)
        (λ write fault. absurd (fault.1 write))
        (λ calm _ _ fault. absurd (calm fault.0))
        reports,
  )

  pub write-faults : status ≡ statuses.WriteFault ↔ FailsStream streams
  write-faults = (
    reported (λ s. s ≡ statuses.WriteFault → FailsStream streams) request outside failed streams status
        (λ answer of _ _ _. is_none statuses.WriteFault _ (ends-write_fault request) answer of)
        (λ _ _ _ e. absurd cc)
        (λ fault _. fault)
        (λ _ _ _ e. absurd cc)
        reports,
    reported (λ s. FailsStream streams → s ≡ statuses.WriteFault) request outside failed streams status
        (λ answer of _ out err fault. absurd (neither streams out err fault))
        (λ _ out err fault. absurd (neither streams out err fault))
        (λ _ _. refl)
        (λ _ out err fault. absurd (neither streams out err fault))
        reports,
  )

  pub memory-ends : status ≡ statuses.Memory → ¬ failed × ¬ FailsStream streams
  memory-ends = reported (λ s. s ≡ statuses.Memory → ¬ failed × ¬ FailsStream streams) request outside failed streams status
      (λ answer of _ _ _. is_none statuses.Memory _ (ends-memory request) answer of)
      (λ _ _ _ e. absurd cc)
      (λ _ e. absurd cc)
      (λ calm out err _. (calm, neither streams out err))
      reports

  pub calm-ends : ¬ failed → ¬ streams.out.failed → ¬ streams.err.failed → MayEnd request status
  calm-ends calm out err = reported (MayEnd request) request outside failed streams status
      (λ answer of _ _ _. inr (answer-ends request outside answer of))
      (λ fault _ _. absurd (calm fault))
      (λ fault. absurd (neither streams out err fault))
      (λ _ _ _. inl refl)
      reports

-- what was decided is reported
pub reports-told : (request : Option Request) (outside : Outside) (failed : Type 0) (streams : Streams) (status : Status) (decided : Result Answer Failure)
    → IfOk decided (IsAnswer request outside) → OnOk decided (¬ failed) → (decided ≡ Err failure.Failed → failed) → (decided ≡ Err failure.NoMemory → ¬ failed)
    → IsTold decided streams status → Reports request outside failed streams status
reports-told request outside failed streams status (Ok answer) of calm cause memory told = inl (answer, of, calm, told)
reports-told request outside failed streams status (Err failure.Failed) of calm cause memory told = inr (inl (cause refl, told))
reports-told request outside failed streams status (Err failure.NoMemory) of calm cause memory told = inr (inr (memory refl, told))

-- the folder and the input didn't fail where their counts are as they were
pub unfailed : (request : Option Request) (folder folder_after input input_after : ℕ) → (folder_after ≡ folder) × (input_after ≡ input) → ¬ FailsAsked request (folder < folder_after) (input < input_after)
unfailed request folder folder_after input input_after same (inl fault) = omega (arith, same.0, fault.1)
unfailed request folder folder_after input input_after same (inr fault) = omega (arith, same.1, fault.1)

pub OnOk-weaker : {T E : Type 0} (r : Result T E) (P Q : Type 0) → (P → Q) → OnOk r P → OnOk r Q
OnOk-weaker (Ok x) P Q f p = f p
OnOk-weaker (Err e) P Q f p = tt

pub OnOk-left : {T E : Type 0} (r : Result T E) (P : Type 0) (n : ℕ) → OnOk r P → OnOk r (P × (n ≡ n))
OnOk-left (Ok x) P n p = (p, refl)
OnOk-left (Err e) P n p = tt

pub OnOk-right : {T E : Type 0} (r : Result T E) (P : Type 0) (n : ℕ) → OnOk r P → OnOk r ((n ≡ n) × P)
OnOk-right (Ok x) P n p = (refl, p)
OnOk-right (Err e) P n p = tt

-- neither count rose
pub unasked : (request : Option Request) (folder input : Type 0) → ¬ folder → ¬ input → ¬ FailsAsked request folder input
unasked request folder input none never (inl fault) = none fault.1
unasked request folder input none never (inr fault) = never fault.1
