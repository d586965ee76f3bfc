-- Words of public clauses: the numbers of a large run, by a linear congruential generator.
use Rattle.std.specs.Prelude.{ℕ, zero, suc, ◌+◌, ◌*◌, ◌/◌, ◌%◌}

-- the state behind a state, modulo 2 to the 31
abbrev pub next_state : ℕ → ℕ
next_state state = (state * 1103515245 + 12345) % 2147483648

-- the state behind so many turns, from a seed on
abbrev pub state_at : (seed turns : ℕ) → ℕ
state_at seed zero = seed % 2147483648
state_at seed (suc turns) = next_state (state_at seed turns)

-- the number that a state gives
abbrev pub number_in : ℕ → ℕ
number_in state = state / 65536
