-- Words of bodies alone: what is written where an input was not read to its end.
use Rattle.std.specs.Prelude.{◌≡◌, ℕ, List, [], codes}
use Rattle.io_edge.specs.declared.answers.ReadAnswer.{ReadAnswer}
use Rattle.io_edge.specs.declared.answers.ReadAnswer.TheVariants as read
use Rattle.played_runs.specs.declared.ending.Status8.TheVariants.{ReadFault, TooLong}
use Rattle.played_runs.specs.Writing.{IsText, Reaching}

-- the text, by why it was not
abbrev pub UnreadEnds : ReadAnswer → Reaching
UnreadEnds read.Memory reached text = ⊥
UnreadEnds read.ReadFault reached text = IsText ReadFault (codes "read fault\n") reached text
UnreadEnds read.TooLong reached text = IsText TooLong (codes "script too long\n") reached text

-- memory was wanting as it was read
abbrev pub UnreadLacks : ReadAnswer → List ℕ → Type 0
UnreadLacks answer text = (answer ≡ read.Memory) × (text ≡ [])
