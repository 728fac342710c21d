mod OpenLaws
mod RuleLaws
mod CandidateLaws
mod TestLaws
mod TestedLaws
