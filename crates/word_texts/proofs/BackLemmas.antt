-- Which of its logged words a thread has to put back.
use Rattle.std.proofs.Common.{◌≡◌, ℕ, ◌-◌, ◌≤◌, List, length, reverse, take, drop, sym, ◌∙◌, ap, arith}
use Rattle.std.proofs.lemmas.List.{length-reverse, length-drop, take-append-drop, take-append-le, take_all, reverse-append}
use Rattle.write_log.specs.declared.Noted.{Noted}
use Rattle.thread_automaton.specs.ThreadState.{noted_since}

-- the words that were logged after the first n, newest first
pub since_reverse : (n k : ℕ) (log : List Noted) → k ≤ length log → length log - n ≡ length log - k → noted_since n (reverse log) ≡ reverse (drop k log)
since_reverse n k log within same =
    ap (λ m. take m (reverse log)) (ap (λ m. m - n) (length-reverse log) ∙ same ∙ sym (length-drop k log) ∙ sym (length-reverse (drop k log)))
    ∙ ap (take (length (reverse (drop k log)))) (ap reverse (sym (take-append-drop k log)) ∙ reverse-append (take k log) (drop k log))
    ∙ take-append-le (length (reverse (drop k log))) (reverse (drop k log)) (reverse (take k log)) (omega arith)
    ∙ take_all (length (reverse (drop k log))) (reverse (drop k log)) (omega arith)
