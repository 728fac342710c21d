use Rattle.java_run.proofs.checking.JournalCheck.feed.Goals as goal

pub returns : goal.returns
returns g c = c.feed.ensures
