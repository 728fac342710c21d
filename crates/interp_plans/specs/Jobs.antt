-- What a method of String or StringBuilder does, as the definitions of its stages have it.
use Rattle.frame_snapshot.specs.declared.text.Appended.{Appended}
use Rattle.frame_snapshot.specs.declared.text.Appended.TheVariants as appended
use Rattle.frame_snapshot.specs.declared.text.TextJob.{TextJob}
use Rattle.frame_snapshot.specs.declared.text.TextJob.TheVariants as jobs
use Rattle.java_rows.specs.Units as units
use Rattle.text_stages.specs.Stages as texts

abbrev pub appended_of : Appended → units.Appended
appended_of (appended.Int n) = units.an_int n
appended_of (appended.Long low high) = units.a_long low high
appended_of (appended.Char c) = units.a_char c
appended_of (appended.Boolean b) = units.a_boolean b
appended_of (appended.Text s) = units.a_string s

abbrev pub job_of : TextJob → texts.TextJob
job_of (jobs.Lengthens s) = texts.lengthens s
job_of (jobs.Picks s i) = texts.picks s i
job_of (jobs.Matches s other) = texts.matches s other
job_of (jobs.Joins s other) = texts.joins_both s other
job_of (jobs.Copies b s) = texts.copies b s
job_of (jobs.Extends b x) = texts.extends b (appended_of x)
job_of (jobs.Measures b) = texts.measures b
job_of (jobs.Tells b) = texts.tells b
