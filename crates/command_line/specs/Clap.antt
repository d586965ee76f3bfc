-- Words of bodies alone: the command by which `clap` reads the words, and what is taken from its matches.
use Rattle.std.specs.Prelude.{ℕ, true, List, [], ◌∷◌, Option, Some, unwrap_or, option_map, codes}
use Rattle.clap.specs.Words.{App, Row, Rule, all_of, first_of, new_app, new_rule, with_rule}
use Rattle.clap.specs.Simple.{on_top}

abbrev pub command_rule : Rule
command_rule = record (new_rule (codes "command")) { required = true }

abbrev pub values_rule : Rule
values_rule = record (new_rule (codes "values")) { range = Some (record { start_inclusive = 0; end_inclusive = 5 }) }

-- there are no options
abbrev pub bare_app : App
bare_app = on_top (λ shape. record shape { no_binary_name = true; disable_help_flag = true }) (new_app (codes "aisrun"))

-- the first word is required, and the last argument takes up to five values
abbrev pub line_app : App
line_app = with_rule (with_rule bare_app command_rule) values_rule

-- the first word, and the values behind it
abbrev pub gathered : List Row → Option (List (List ℕ))
gathered rows = option_map (λ first. first ∷ unwrap_or (all_of (codes "values") rows) []) (first_of (codes "command") rows)
