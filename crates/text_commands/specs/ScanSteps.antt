-- Words of public clauses: how the commands `scan` and `find` end part by part, but for the writing of the text.
use Rattle.std.specs.Prelude.{◌≡◌, ℕ, List, [], ◌⊎◌, Some, None, Result, Ok, Err}
use Rattle.std.specs.Io.KnownBytes.{Appends}
use Rattle.format_expr.specs.declared.piece.Piece.{Piece}
use Rattle.scan_lines.specs.Telling.{IsTold, TellsAll, TellsFront}
use Rattle.played_runs.specs.Counts.{HasStood}
use Rattle.played_runs.specs.Edges.{Edge, before, after, fault_count, IsUntouched}
use Rattle.played_runs.specs.Writing.{Ended, IsNone, Reaching, Written, unasked}
use Rattle.commands.specs.declared.command.RecordQuery.{RecordQuery}
use Rattle.played_runs.specs.declared.ending.Status8.{Status8}
use Rattle.played_runs.specs.declared.ending.Status8.TheVariants.{Done, ScriptRefused, ReadFault, TooLong, Inseparable}
use Rattle.text_commands.specs.declared.scanning.Expression.{Expression}
use Rattle.text_commands.specs.declared.scanning.Expression.TheVariants as expression
use Rattle.script_inputs.specs.Inputs.{ReadsWhole, SourceFailed, InputTooLong}
use Rattle.text_commands.specs.Texts.{TextFails}
use Rattle.text_commands.specs.Scanning.{IsParted, CannotPart}

-- the text does not serve
pub data TextRefused (query : RecordQuery) (text : List ℕ) (status : Status8) (printed : List ℕ) : Type 0 where
  NotSpelled : status ≡ ScriptRefused → TextFails query.kind text printed → TextRefused query text status printed
  NotParted : status ≡ Inseparable → CannotPart query text printed → TextRefused query text status printed

-- what a text gave
abbrev pub ExpressionRead : RecordQuery → List ℕ → Expression → Type 0
ExpressionRead query text (expression.Parted expr) = IsParted query text expr.pieces
ExpressionRead query text (expression.Refused end) = TextRefused query text end.status end.text.items

-- what is written of one record
abbrev pub RecordEnds : RecordQuery → List Piece → (wanted : List ℕ) → (number : ℕ) → (rec : List ℕ) → Reaching
RecordEnds query pieces wanted number rec None text = IsTold query.shown pieces query.size wanted number rec text
RecordEnds query pieces wanted number rec _ text = ⊥

abbrev pub RecordGives : {K : Type 0} → Reaching → Edge K (List ℕ) → Result Unit Status8 → Type 0
RecordGives E sink (Ok done) = (text : List ℕ) × E None text × HasStood (fault_count sink) × Appends (before sink) (after sink) text
RecordGives E sink (Err status) = Written E IsNone sink status

-- of records one after another: some were told, or all of them and what is left
abbrev pub RecordsEnd : RecordQuery → List Piece → (wanted bytes : List ℕ) → Reaching
RecordsEnd query pieces wanted bytes None text = TellsFront query.shown pieces query.size wanted bytes text
RecordsEnd query pieces wanted bytes (Some Done) text = TellsAll query.shown pieces query.size wanted bytes text
RecordsEnd query pieces wanted bytes _ text = ⊥

-- of a source for a text that serves
abbrev pub SourceEnds : {S : Type 0} → RecordQuery → List Piece → (wanted : List ℕ) → Edge S (List ℕ) → Reaching
SourceEnds query pieces wanted source (Some ReadFault) text = SourceFailed source text
SourceEnds query pieces wanted source (Some TooLong) text = InputTooLong source text
SourceEnds query pieces wanted source reached text = (bytes : List ℕ) × ReadsWhole source bytes × RecordsEnd query pieces wanted bytes reached text

-- memory was wanting before the first record, or behind some
abbrev pub SourceLacks : {S : Type 0} → RecordQuery → List Piece → (wanted : List ℕ) → Edge S (List ℕ) → List ℕ → Type 0
SourceLacks query pieces wanted source text = (text ≡ []) ⊎ SourceEnds query pieces wanted source None text

-- the text serves, and what comes of the source
abbrev pub PartsEnd : {S : Type 0} → RecordQuery → (text wanted : List ℕ) → Edge S (List ℕ) → Reaching
PartsEnd query text wanted source reached printed =
    (pieces : List Piece) × IsParted query text pieces × SourceEnds query pieces wanted source reached printed

-- of a text and a source
abbrev pub ScanEnds : {S : Type 0} → RecordQuery → (text wanted : List ℕ) → Edge S (List ℕ) → Reaching
ScanEnds query text wanted source (Some ScriptRefused) printed = IsUntouched source × TextFails query.kind text printed
ScanEnds query text wanted source (Some Inseparable) printed = IsUntouched source × CannotPart query text printed
ScanEnds query text wanted source reached printed = PartsEnd query text wanted source reached printed

-- memory was wanting before it was known whether the text serves, or behind that
abbrev pub ScanLacks : {S : Type 0} → RecordQuery → (text wanted : List ℕ) → Edge S (List ℕ) → List ℕ → Type 0
ScanLacks query text wanted source printed =
    ((printed ≡ []) × IsUntouched source) ⊎ ((pieces : List Piece) × IsParted query text pieces × SourceLacks query pieces wanted source printed)

-- of a text, a source and a sink
abbrev pub ScannedBy : {S K : Type 0} → RecordQuery → (text wanted : List ℕ) → Edge S (List ℕ) → Edge K (List ℕ) → Status8 → Type 0
ScannedBy query text wanted source sink status =
    Ended (fault_count source) unasked (ScanEnds query text wanted source) (ScanLacks query text wanted source) sink status
