use Rattle.std.proofs.Common.{inl, inr, map, subst, ◌∙◌, ℕ, List}
use Rattle.program_accept.specs.declared.refusal.AcceptRefusal.TheVariants.{NoMain, Refused}
use Rattle.program_accept.specs.Accepted.{program_rules}
use Rattle.file_answers.specs.Answers.{AreProgram, RefuseOnly}
use Rattle.file_answers.proofs.Answered.{refuses-only}
use Rattle.file_answers.proofs.loading.judge.Goals as goal

pub returns-in-Ok : goal.returns-in-Ok
returns-in-Ok c =
    let files = map (λ f. f.items) c.args.files.items in
    let name = c.as_slice.ensures.value ∙ c.in_ok-main.ensures in
    let Is : List ℕ → Type 0 = λ n. AreProgram n files c.in-Ok.program in
    subst Is name (record { is = c.in-Ok.ensures.accepted; only = c.in-Ok.ensures.alone; unbroken = λ e refused. c.in-Ok.ensures.first e refused })

pub returns-in-Err-NoMain : goal.returns-in-Err-NoMain
returns-in-Err-NoMain c =
    let at = c.in-Err-NoMain in
    let files = map (λ f. f.items) c.args.files.items in
    let name = c.as_slice.ensures.value ∙ c.in_ok-main.ensures in
    let Only : List ℕ → Type 0 = λ n. RefuseOnly (program_rules files n) NoMain in
    inl (
      subst Only name (refuses-only (program_rules files c.as_slice.result.now) at.field-0 NoMain at.ensures.exact at.ensures.first at.ensures.only at.field-0-is (λ e. cc)),
      c.in_ok-no_main-in-Err-NoMain.ensures,
    )

pub returns-in-Err-Refused : goal.returns-in-Err-Refused
returns-in-Err-Refused c =
    let at = c.in-Err-Refused in
    let files = map (λ f. f.items) c.args.files.items in
    let name = c.as_slice.ensures.value ∙ c.in_ok-main.ensures in
    let Only : List ℕ → Type 0 = λ n. RefuseOnly (program_rules files n) (Refused at.refusal) in
    inr (
      at.refusal,
      subst Only name (refuses-only (program_rules files c.as_slice.result.now) at.field-0 (Refused at.refusal) at.ensures.exact at.ensures.first at.ensures.only at.field-0-is (λ e. cc)),
      c.in_ok-refused-in-Err-Refused.ensures,
    )
