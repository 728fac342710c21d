use Rattle.std.proofs.Common.{◌≡◌, ◌∙◌, refl}
use Rattle.trace_journal.specs.Text.{events_in}
use Rattle.trace_journal.proofs.LawLemmas.{events_fit}
use Rattle.trace_journal.proofs.journal.journal_of.Goals as goal

pub returns : goal.returns
returns c =
    let is : c.from_vec.result ≡ events_in c.args.items.now = c.from_vec.ensures ∙ c.in_ok-events.ensures in
    record {
      version = refl;
      events = is;
      undos = c.from_vec-2.ensures ∙ c.in_ok-undos.ensures;
      places = c.from_vec-3.ensures ∙ c.in_ok-places.ensures;
      fit = events_fit c.args.version c.args.items.now c.from_vec.result is c.requires.all;
    }
