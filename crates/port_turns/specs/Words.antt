-- What a thread that has no level open which it hasn't seen pinned makes of words of objects.
use Rattle.std.specs.Prelude.{◌≡◌, ℕ, ◌<◌, ◌≤◌, false}
use Rattle.heap_words.specs.Words.{tag_of, tag_section, tag_level}
use Rattle.thread_automaton.specs.declared.Attempt.{Attempt}
use Rattle.thread_automaton.specs.declared.Attempt.TheVariants.{Meets}
use Rattle.thread_moves.specs.declared.thread.Own.{Own}
use Rattle.turn_runs.specs.Own.{has_unseen_level}
use Rattle.turn_runs.specs.HostPlaces.{HostPlace}

-- There are turns for an answer, the thread may have one more counted turn, and its attempt doesn't begin with a look at the own
-- section.
pub record CanTry {P : Type 0} (h : HostPlace P) : Type 0 where
  pub left : 2 ≤ h.left
  pub counted : h.own.counted < h.own.bounds.limits.turns
  pub seen : has_unseen_level h.own ≡ false

-- the attempt goes on with a look at the section that wrote this word
abbrev pub meeting : ℕ → Attempt
meeting w = Meets (tag_section (tag_of w)) (tag_level (tag_of w))

-- what is kept amid this attempt after a step of this kind that doesn't count
abbrev pub own_at : Own → Attempt → ℕ → Own
own_at own attempt kind = record own { attempt = attempt; last_kind = kind }
