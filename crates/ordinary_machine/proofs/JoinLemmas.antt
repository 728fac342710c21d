-- Calls of `advance` after other calls.
use Rattle.std.proofs.Common.{◌≡◌, ℕ, zero, suc, List, [], ◌∷◌, ◌++◌, refl, sym, ◌∙◌, ap, subst}
use Rattle.std.proofs.lemmas.List.{append_assoc}
use Rattle.op_core.specs.declared.Limits.{Limits}
use Rattle.op_core.specs.ThreadCode.{Code}
use Rattle.ordinary_machine.specs.declared.advance.Advance.TheVariants.{Silent}
use Rattle.ordinary_machine.specs.Machine.{Machine}
use Rattle.ordinary_machine.specs.Laws.{Call, Runs, event_of, events_of, silent_calls, CallsGoOn}

calls_join : {S : Type 0} (code : Code S) (m middle last : Machine S) (before behind : List Call) → Runs code m before middle → Runs code middle behind last → Runs code m (before ++ behind) last
calls_join code m middle last [] behind same runs = subst (λ x. Runs code x behind last) same runs
calls_join code m middle last (call ∷ calls) behind (next, one, rest) runs = (next, one, calls_join code next middle last calls behind rest runs)

events_join : (before behind : List Call) → events_of (before ++ behind) ≡ events_of before ++ events_of behind
events_join [] behind = refl
events_join (call ∷ calls) behind =
    ap (λ es. event_of call.answer ++ es) (events_join calls behind) ∙ sym (append_assoc (event_of call.answer) (events_of calls) (events_of behind))

silent_events : (t n : ℕ) (limits : Limits) → events_of (silent_calls t limits n) ≡ []
silent_events t zero limits = refl
silent_events t (suc n) limits =
    events_join (silent_calls t limits n) (record { thread = t; limits = limits; answer = Silent } ∷ []) ∙ ap (λ es. es ++ []) (silent_events t n limits)

pub go_on : {S : Type 0} (code : Code S) → CallsGoOn code
go_on code = record { calls = calls_join code; events = events_join; silent = silent_events }
