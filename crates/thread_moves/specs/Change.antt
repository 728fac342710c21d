-- Which change of the definitions a change in memory is.
use Rattle.std.specs.Prelude.{◌≡◌, ◌<◌, ◌^◌, [], ◌∷◌, IsSome}
use Rattle.op_core.specs.declared.Next.{Next}
use Rattle.op_core.specs.Replies.{IsEntry}
use Rattle.heap_words.specs.Words.{value_of}
use Rattle.step_port.specs.declared.answer.StepAnswer.{StepAnswer}
use Rattle.step_port.specs.declared.answer.StepAnswer.TheVariants.{Found}
use Rattle.step_port.specs.declared.step.ThreadWord.TheVariants.{Start}
use Rattle.step_port.specs.declared.step.Step.{Step}
use Rattle.step_port.specs.declared.step.Step.TheVariants.{SwapWord, OpenSection, OpenLevel, TakeMonitor, Ticket, LoadThread}
use Rattle.thread_automaton.specs.ThreadState.{ThreadState}
use Rattle.thread_automaton.specs.Changes.{Change, goes, has_to_wait, replies, sees_pinned, knows, writes, opens, opens_level, closes_to, takes, deepens, waits, prints, puts_back, sets_back, gives_back, goes_back, ends, without}
use Rattle.thread_automaton.specs.Checks.{noted}
use Rattle.thread_automaton.specs.Monitors.{left_with}
use Rattle.thread_moves.specs.declared.thread.JThread.{JThread}
use Rattle.thread_moves.specs.declared.change.ThreadChange.{ThreadChange}
use Rattle.thread_moves.specs.declared.change.ThreadChange.TheVariants.{Goes, HasToWait, Replies, SeesPinned, Knows, Writes, Opens, OpensLevel, ClosesTo, Takes, Deepens, Leaves, Waits, Prints, PutsBack, SetsBack, GivesBack, GoesBack, Ends}

abbrev pub change_meant : {S : Type 0} → ThreadState S → ThreadChange → Change
change_meant th (Goes attempt) = goes attempt
change_meant th (HasToWait why) = has_to_wait why
change_meant th (Replies reply) = replies reply
change_meant th (SeesPinned depth attempt) = sees_pinned depth attempt
change_meant th (Knows s depth) = knows s depth
change_meant th (Writes x) = writes (noted th x.at x.old)
change_meant th (Opens s attempt) = opens s attempt
change_meant th (OpensLevel attempt) = opens_level attempt
change_meant th (ClosesTo n attempt) = closes_to n attempt
change_meant th (Takes h) = takes h
change_meant th (Deepens r depth) = deepens r depth
change_meant th (Leaves r) = left_with (without r th.held)
change_meant th (Waits r) = waits r
change_meant th (Prints ticket line) = prints ticket line
change_meant th PutsBack = puts_back
change_meant th (SetsBack r depth) = sets_back r depth
change_meant th (GivesBack r) = gives_back r
change_meant th (GoesBack n) = goes_back n
change_meant th Ends = ends

-- a level opens with the step as a monitor is about to be entered
abbrev pub EntersWith : Step → Next → Type 0
EntersWith (OpenSection s w) next = IsEntry next
EntersWith (OpenLevel s w) next = IsEntry next
EntersWith step next = Unit {0}

-- a start word that was loaded says the number of a thread, or 0
abbrev pub NamesThread : Step → StepAnswer → Type 0
NamesThread (LoadThread (Start r)) (Found w) = value_of w < 2 ^ 8
NamesThread step answer = Unit {0}

-- there is room for what the change records
abbrev pub HasRoom : {C : Type 0} → JThread C → ThreadChange → Type 0
HasRoom x (Writes noted) = 0 < x.own.log.spare
HasRoom x (Takes h) = 0 < x.own.held.spare
HasRoom x (Prints ticket line) = 0 < x.own.lines.spare
HasRoom x (Opens s attempt) = IsSome x.own.opening
HasRoom x (OpensLevel attempt) = IsSome x.own.opening × (x.own.levels < 255)
HasRoom x change = Unit {0}

-- it logs no word, and adds no save, monitor or line
abbrev pub IsPlain : ThreadChange → Type 0
IsPlain (Writes x) = ⊥
IsPlain (Opens s attempt) = ⊥
IsPlain (OpensLevel attempt) = ⊥
IsPlain (Takes h) = ⊥
IsPlain (Prints ticket line) = ⊥
IsPlain change = Unit {0}

-- such a change comes of one kind of step alone, for which memory was taken before
abbrev pub IsMadeBy : Step → ThreadChange → Type 0
IsMadeBy (SwapWord at old new) (Writes x) = Unit {0}
IsMadeBy (OpenSection s w) (Opens t attempt) = Unit {0}
IsMadeBy (OpenSection s w) (Goes attempt) = Unit {0}
IsMadeBy (OpenSection s w) change = ⊥
IsMadeBy (OpenLevel s w) (OpensLevel attempt) = Unit {0}
IsMadeBy (OpenLevel s w) (Goes attempt) = Unit {0}
IsMadeBy (OpenLevel s w) change = ⊥
IsMadeBy (TakeMonitor r new) (Takes h) = Unit {0}
IsMadeBy Ticket (Prints ticket line) = Unit {0}
IsMadeBy step change = IsPlain change

-- it opens no level
abbrev pub OpensNone : ThreadChange → Type 0
OpensNone (Opens s attempt) = ⊥
OpensNone (OpensLevel attempt) = ⊥
OpensNone change = Unit {0}
