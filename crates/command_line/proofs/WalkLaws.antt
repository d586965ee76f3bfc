-- The walk of `clap` over the words of a line: the first is the command's, the others are values.
use Rattle.std.proofs.Common.{◌≡◌, List, [], ◌∷◌, ◌++◌, true, false, ◌&&◌, Some, None, refl, ap, ap₂, sym, ◌∙◌, append-nil, append_assoc}
use Rattle.std.specs.Prelude.{codes, fold}
use Rattle.clap.specs.Simple.{Shape, built}
use Rattle.clap.specs.Takes.{step_passes, turn_passes, walk_passes}
use Rattle.clap.specs.Walk.{Held, Row, Rule, Step, Text, Walk, after_step, idle, nothing_held, positional, reading_by, walk, walk_from, walked}
use Rattle.clap.specs.declared.parser.matches.ValueSource.TheVariants.{CommandLine}
use Rattle.clap.proofs.OnLiterals.{clap_on_literals}
use Rattle.command_line.specs.Clap.{command_rule, line_app}
use Rattle.command_line.proofs.WordLaws.{ArePlain, met-idle, met-positional, passes-idle, passes-positional}

-- the built command
abbrev pub top : Shape
top = (built line_app).top

abbrev pub row_of : Rule → List Text → Row
row_of rule values = record {
  id = rule.id;
  values = values;
  count = None;
  source = Some CommandLine;
  reading = reading_by rule;
}

-- behind the first word, and behind values
abbrev pub behind_command : Text → Walk
behind_command word = record {
  held = record { rows = []; pending = Some (codes "command", word ∷ []); skip = 0 };
  waiting = idle;
  position = 2;
  is_trailing = false;
  stopped = None;
}

abbrev pub behind_values : Text → List Text → Walk
behind_values word values = record {
  held = record { rows = row_of command_rule (word ∷ []) ∷ []; pending = Some (codes "values", values); skip = 0 };
  waiting = positional;
  position = 2;
  is_trailing = false;
  stopped = None;
}

abbrev pub behind_all : Text → List Text → Walk
behind_all word [] = behind_command word
behind_all word (value ∷ values) = behind_values word (value ∷ values)

-- one word more
first-walked : (word : Text) → ArePlain (word ∷ []) → walked top.rules [] (walk_from nothing_held) word ≡ behind_command word
unfolding clap_on_literals
first-walked word plain =
    ap (λ (met : Held × Step). after_step top.rules word (walk_from nothing_held) met.0 met.1) (met-idle top.rules 1 word nothing_held plain.0)

second-walked : (word value : Text) → ArePlain (value ∷ []) → walked top.rules [] (behind_command word) value ≡ behind_values word (value ∷ [])
unfolding clap_on_literals
second-walked word value plain =
    let before = behind_command word in
    ap (λ (met : Held × Step). after_step top.rules value before met.0 met.1) (met-idle top.rules 2 value before.held plain.0)

more-walked : (word : Text) (values : List Text) (value : Text) → ArePlain (value ∷ []) → walked top.rules [] (behind_values word values) value ≡ behind_values word (values ++ value ∷ [])
unfolding clap_on_literals
more-walked word values value plain =
    let before = behind_values word values in
    ap (λ (met : Held × Step). after_step top.rules value before met.0 met.1) (met-positional top.rules 2 value before.held plain.0)

values-walked : (word : Text) (values more : List Text) → ArePlain more → fold (walked top.rules []) (behind_values word values) more ≡ behind_values word (values ++ more)
values-walked word values [] plain = ap (behind_values word) (sym (append-nil values))
values-walked word values (value ∷ more) plain =
    ap (λ (from : Walk). fold (walked top.rules []) from more) (more-walked word values value (plain.0, tt))
    ∙ values-walked word (values ++ value ∷ []) more plain.1
    ∙ ap (behind_values word) (append_assoc values (value ∷ []) more)

pub line-walked : (word : Text) (values : List Text) → ArePlain (word ∷ values) → walk top.rules [] nothing_held (word ∷ values) ≡ behind_all word values
line-walked word [] plain = first-walked word (plain.0, tt)
line-walked word (value ∷ values) plain =
    ap (λ (from : Walk). fold (walked top.rules []) from (value ∷ values)) (first-walked word (plain.0, tt))
    ∙ ap (λ (from : Walk). fold (walked top.rules []) from values) (second-walked word value (plain.1.0, tt))
    ∙ values-walked word (value ∷ []) values plain.1.1

-- each turn passes
first-passes : (word : Text) → ArePlain (word ∷ []) → turn_passes top [] (walk_from nothing_held) word ≡ true
unfolding clap_on_literals
first-passes word plain =
    ap₂ (λ a b. a && b) (passes-idle top word nothing_held plain.0) (ap (λ (met : Held × Step). step_passes top 1 met.0 met.1) (met-idle top.rules 1 word nothing_held plain.0))

second-passes : (word value : Text) → ArePlain (value ∷ []) → turn_passes top [] (behind_command word) value ≡ true
unfolding clap_on_literals
second-passes word value plain =
    let held = (behind_command word).held in
    ap₂ (λ a b. a && b) (passes-idle top value held plain.0) (ap (λ (met : Held × Step). step_passes top 2 met.0 met.1) (met-idle top.rules 2 value held plain.0))

more-passes : (word : Text) (values : List Text) (value : Text) → ArePlain (value ∷ []) → turn_passes top [] (behind_values word values) value ≡ true
unfolding clap_on_literals
more-passes word values value plain =
    let held = (behind_values word values).held in
    ap₂ (λ a b. a && b) (passes-positional top value held plain.0) (ap (λ (met : Held × Step). step_passes top 2 met.0 met.1) (met-positional top.rules 2 value held plain.0))

values-pass : (word : Text) (values more : List Text) → ArePlain more → walk_passes top [] (behind_values word values) more ≡ true
unfolding walk_passes
values-pass word values [] plain = refl
values-pass word values (value ∷ more) plain =
    ap₂ (λ a b. a && b) (more-passes word values value (plain.0, tt))
    (ap (λ (from : Walk). walk_passes top [] from more) (more-walked word values value (plain.0, tt)) ∙ values-pass word (values ++ value ∷ []) more plain.1)

pub line-passes : (word : Text) (values : List Text) → ArePlain (word ∷ values) → walk_passes top [] (walk_from nothing_held) (word ∷ values) ≡ true
unfolding walk_passes
line-passes word [] plain = ap (λ b. b && true) (first-passes word (plain.0, tt))
line-passes word (value ∷ values) plain =
    ap₂ (λ a b. a && b) (first-passes word (plain.0, tt))
    (ap (λ (from : Walk). walk_passes top [] from (value ∷ values)) (first-walked word (plain.0, tt))
    ∙ ap₂ (λ a b. a && b) (second-passes word value (plain.1.0, tt))
    (ap (λ (from : Walk). walk_passes top [] from values) (second-walked word value (plain.1.0, tt)) ∙ values-pass word (value ∷ []) values plain.1.1))
