-- Words of public clauses: the lines of a script: those of clients, by service, and the control lines.
use Rattle.std.specs.Prelude.{ℕ, List, ◌∷◌, codes}
use Rattle.calls.specs.declared.call.Ask.{Ask}
use Rattle.script_lines.specs.declared.line.Line.{Line}
use Rattle.script_lines.specs.declared.line.Line.TheVariants.{Log, Ntf}
use Rattle.script_grammar.specs.Grammar.{Known, Word, Part, OneOf}
use Rattle.script_language.specs.Values.{IsClient}
use Rattle.script_language.specs.Asks.{log_forms, ntf_forms}
use Rattle.script_language.specs.Control.{control_forms}

-- what a client asks of the Log Service
unfoldable pub IsLogAsk : Ask → List ℕ → Type 0
IsLogAsk = OneOf log_forms

-- log CLIENT and what it asks, without its first word
unfoldable pub IsLogLine : Line → List ℕ → Type 0
IsLogLine = Part IsClient (λ client. Word (codes " ") (Part IsLogAsk (λ ask. Known (Log client ask))))

-- what a client asks of the Notification Service
unfoldable pub IsNtfAsk : Ask → List ℕ → Type 0
IsNtfAsk = OneOf ntf_forms

-- ntf CLIENT and what it asks, without its first word
unfoldable pub IsNtfLine : Line → List ℕ → Type 0
IsNtfLine = Part IsClient (λ client. Word (codes " ") (Part IsNtfAsk (λ ask. Known (Ntf client ask))))

abbrev pub line_forms : List (List ℕ × (Line → List ℕ → Type 0))
line_forms = (codes "log ", IsLogLine) ∷ (codes "ntf ", IsNtfLine) ∷ control_forms

-- the bytes of one line of a script
unfoldable pub Spells : Line → List ℕ → Type 0
Spells = OneOf line_forms
