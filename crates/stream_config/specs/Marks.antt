-- Words of public clauses: the mask of a stream, and which severities of records it lets pass.
use Rattle.std.specs.Prelude.{ℕ, ◌/◌, ◌%◌, ◌^◌, ◌==◌, Bool}
use Rattle.stream_config.specs.declared.mark.Mark.{Mark}

-- of a well-known stream that was never set
abbrev pub first_mark : Mark
first_mark = record { since = 0; mask = 127 }

-- of a stream that the entry of this number made
abbrev pub made_mark : ℕ → Mark
made_mark number = record { since = number; mask = 127 }

-- bit 2^s lets severity s pass
abbrev pub lets_pass : (mask severity : ℕ) → Bool
lets_pass mask severity = mask / 2 ^ severity % 2 == 1
