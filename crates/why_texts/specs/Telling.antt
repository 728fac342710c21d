-- What is told of a refusal.
use Rattle.std.specs.Prelude.{ℕ, zero, suc, List, [], ◌∷◌, ◌++◌, codes, Option, Some, None, slice_get}
use Rattle.std.specs.Fmt.{decimal}
use Rattle.program_accept.specs.declared.refusal.Stage.{Stage}
use Rattle.program_accept.specs.declared.refusal.Stage.TheVariants as stages
use Rattle.program_accept.specs.declared.refusal.Refusal.{Refusal}
use Rattle.why_texts.specs.declared.rule.Rule.{Rule}
use Rattle.why_texts.specs.Rules.{RuleTexts, read_rules, code_rules, link_rules, verify_rules}

-- what a program sees in the fields of a `Rule`
abbrev pub shown_rule : Rule → RuleTexts
shown_rule r = record { kind = r.kind.now; comes_where = r.comes_where.now; to_do = r.to_do.now }

-- the rules of a stage, in the order of their numbers
abbrev pub rules_of : Stage → List RuleTexts
rules_of stages.Read = read_rules
rules_of stages.Code = code_rules
rules_of stages.Link = link_rules
rules_of stages.Verify = verify_rules

-- the rule of a number, which counts from 1
abbrev pub rule_of : Stage → ℕ → Option RuleTexts
rule_of stage zero = None
rule_of stage (suc number) = slice_get (rules_of stage) number

abbrev pub stage_word : Stage → List ℕ
stage_word stages.Read = codes "read"
stage_word stages.Code = codes "code"
stage_word stages.Link = codes "link"
stage_word stages.Verify = codes "verify"

-- a text, a space and a word
abbrev pub with_word : List ℕ → List ℕ → List ℕ
with_word text word = text ++ 32 ∷ word

-- refused: STAGE FILE NUMBER METHOD PLACE
abbrev pub refusal_line : List ℕ → Refusal → List ℕ
refusal_line file refusal =
    with_word (with_word (with_word (with_word (with_word (codes "refused:") (stage_word refusal.stage)) file) (decimal refusal.number)) (decimal refusal.method)) (decimal refusal.place)
    ++ 10 ∷ []

-- a text, a label and what is said after it
abbrev pub with_label : List ℕ → List ℕ → List ℕ → List ℕ
with_label text label said = (text ++ label) ++ said

-- a text, and then the rule and what to do, a line for each
abbrev pub with_rule : List ℕ → RuleTexts → List ℕ
with_rule text rule =
    with_label (with_label (with_label text (codes "rule: ") rule.kind) (codes ", which comes where ") rule.comes_where ++ 10 ∷ []) (codes "what to do: ") rule.to_do
    ++ 10 ∷ []

abbrev pub with_rules : List ℕ → Option RuleTexts → List ℕ
with_rules text None = text
with_rules text (Some rule) = with_rule text rule

-- what is told of a refusal of the file of this name
abbrev pub refusal_text : List ℕ → Refusal → List ℕ
refusal_text file refusal = with_rules (refusal_line file refusal) (rule_of refusal.stage refusal.number)
