use Rattle.std.proofs.Common.{◌≡◌, List, [], ◌∷◌, ℕ, length, vec_len, refl, sym, ◌∙◌, arith}
use Rattle.std.proofs.lemmas.Bool.{eqb-true}
use Rattle.trace_journal.proofs.FeedLemmas.{closes}
use Rattle.trace_journal.proofs.state.JournalReader.finish.Goals as goal

empty : (bytes : List ℕ) → length bytes ≡ 0 → bytes ≡ []
empty [] none = refl
empty (b ∷ bytes) none = absurd (omega (arith, none))

pub returns-then-is_empty : goal.returns-then-is_empty
returns-then-is_empty c =
    let none : vec_len c.args.self.part ≡ 0 = eqb-true (vec_len c.args.self.part) 0 (sym c.is_empty.ensures ∙ c.if-is_empty.true) in
    closes c.args.self c.in-Closed.version c.args.self.inside c.in-Closed.is (empty c.args.self.part.items (omega (arith, none, c.args.self.part.ok)))
