-- Words of public clauses: what an open that is answered ok changes.
use Rattle.std.specs.Prelude.{ℕ, ℤ, List, Option}
use Rattle.stream_config.specs.declared.attrs.StreamName.{StreamName}
use Rattle.stream_config.specs.declared.attrs.StreamAttrs.{StreamAttrs}
use Rattle.stream_config.specs.declared.mark.Mark.{Mark}
use Rattle.log_history.specs.Changes.{LogChange, Opened}
use Rattle.log_history.specs.Table.{OpenStream}
use Rattle.log_history.specs.KeptAnswers.{kept_mark, opened_mark, making_in}
use Rattle.log_service.specs.Moments.{second_of}

-- a client opens the stream, which is made with these attributes where it does not live, by the entry of this number
abbrev pub opening_in : List OpenStream → (client : ℕ) → StreamName → Option StreamAttrs → (now : ℤ) (number : ℕ) → LogChange
opening_in streams client name create now number = Opened client name (making_in streams name create) (second_of now) number

-- the mark that the stream has then
abbrev pub mark_in : List OpenStream → StreamName → Option StreamAttrs → (number : ℕ) → Mark
mark_in streams name create number = opened_mark (making_in streams name create) number (kept_mark streams name)
