-- Words of public clauses: what a call is, by its number and all replies that were ever taken, the newest first.
use Rattle.std.specs.Prelude.{◌≡◌, ℕ, ◌+◌, ◌-◌, ◌<◌, ◌≤◌, ◌==◌}
use Rattle.std.specs.Prelude.{if◌then◌else◌, List, [], ◌∷◌, length, Option, Some, None}
use Rattle.client_window.specs.declared.judged.Judged.{Judged}
use Rattle.client_window.specs.declared.judged.Judged.TheVariants.{New, Repeat, Old, Ahead}

-- the reply that was taken under a number: the first that was taken has number 1
abbrev pub taken_under : {R : Type 0} → ℕ → List R → Option R
taken_under seq [] = None
taken_under seq (reply ∷ before) = if seq == length before + 1 then Some reply else taken_under seq before

-- how many replies are no longer kept: all but the last 32
abbrev pub forgotten : {R : Type 0} → List R → ℕ
forgotten all = length all - 32

-- the next call is new; one whose reply is kept repeats it; one below is old; and one above the next is ahead
abbrev pub IsJudged : {R : Type 0} → ℕ → List R → Judged R → Type 0
IsJudged seq all New = seq ≡ length all + 1
IsJudged seq all (Repeat reply) = (forgotten all < seq) × (taken_under seq all ≡ Some reply.now)
IsJudged seq all Old = seq ≤ forgotten all
IsJudged seq all Ahead = length all + 1 < seq
