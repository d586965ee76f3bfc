-- Where nothing fails, and the input is what was asked for, a run ends well or lacks memory.
use Rattle.std.proofs.Common.{◌≡◌, ℕ, ◌≤◌, inl, inr, List, ◌∷◌, length, Some, None, refl, ap, sym, ◌∙◌, subst}
use Rattle.std.specs.Prelude.{IfSome}
use Rattle.std.specs.FinMap.{keys}
use Rattle.ais_values.specs.declared.kind.StreamKind.{StreamKind}
use Rattle.disk_model.specs.Disk.{no_files}
use Rattle.format_expr.specs.declared.fault.ExprFault.{ExprFault}
use Rattle.format_expr.specs.declared.piece.Piece.{Piece}
use Rattle.format_expr.specs.Faults.{IsFault}
use Rattle.format_expr.proofs.ReadingLaws.{parse_is_read}
use Rattle.record_scan.specs.Separable.{StandsInWay}
use Rattle.script_lines.specs.declared.line.Line.{Line}
use Rattle.script_language.specs.Scripts.{IsScriptOf}
use Rattle.played_runs.specs.declared.ending.Status8.{Status8}
use Rattle.played_runs.specs.declared.ending.Status8.TheVariants.{Done, ScriptRefused, Usage, Memory, ReadFault, WriteFault, DiskFault, RootNotEmpty, TooLong, JournalRefused, Inseparable}
use Rattle.played_runs.specs.Counts.{HasRisen, RisesBefore}
use Rattle.played_runs.specs.Edges.{before, fault_count}
use Rattle.played_runs.specs.Writing.{Ended, Whole, SinkFailed, SinkLacked, Lacked}
use Rattle.aisrun.specs.Edges.{Around}
use Rattle.commands.specs.declared.command.Command.{Command}
use Rattle.commands.specs.declared.command.Command.TheVariants.{Run, Check, Expr, Load, Scan}
use Rattle.commands.specs.declared.command.RecordQuery.{RecordQuery}
use Rattle.commands.specs.Commands.{command_of, text_of}
use Rattle.aisrun.specs.Completing.{CanCheck, CanParse, CanRun, HoldsRecords, IsDoneOrMemory}
use Rattle.script_inputs.proofs.Reading.{no-name, not-too-long, read-all}
use Rattle.aisrun.specs.Endings.{Ends, Fails, HasLines, InLoad, InScript, Reads, ReadsSource, NoScript, NoExpression}
use Rattle.aisrun.specs.RunSteps.{WordsLack}
use Rattle.text_commands.specs.Scanning.{CannotPart}
use Rattle.aisrun.specs.Scanning.{CanScan, TakesText}

-- the end that a run comes to, where neither source nor disk fails
module _ {S K D : Type 0} (run : Around S K D) where
  pub asked : (one other : Command) → command_of run.words ≡ Some one → command_of run.words ≡ Some other → one ≡ other
  asked one other first second = let same : Some one ≡ Some other = sym first ∙ second in cc

  -- only the words of two commands have lines played
  pub not-played : (one : Command) → command_of run.words ≡ Some one → (one ≡ Run → ⊥) → ((count seed : ℕ) → one ≡ Load count seed → ⊥) → (lines : List Line) → HasLines run lines → ⊥
  not-played one is no_run no_load lines (inl script) = no_run (asked one Run is script.words)
  not-played one is no_run no_load lines (inr load) = no_load load.count load.seed (asked one (Load load.count load.seed) is load.words)

  pub not-failed : (one : Command) → command_of run.words ≡ Some one → (one ≡ Run → ⊥) → ((count seed : ℕ) → one ≡ Load count seed → ⊥) → (text : List ℕ) → Fails run text → ⊥
  not-failed one is no_run no_load text (InScript lines script fails) = not-played one is no_run no_load lines (inl script)
  not-failed one is no_run no_load text (InLoad lines load fails) = not-played one is no_run no_load lines (inr load)

  not-reading : (kind : StreamKind) → command_of run.words ≡ Some (Expr kind) → Reads run.words → ⊥
  not-reading kind is (inl runs) = let no : Expr kind ≡ Run = asked (Expr kind) Run is runs in cc
  not-reading kind is (inr checks) = let no : Expr kind ≡ Check = asked (Expr kind) Check is checks in cc

  not-asking : (kind : StreamKind) → command_of run.words ≡ Some (Expr kind) → ReadsSource run.words → ⊥
  not-asking kind is (inl reads) = not-reading kind is reads
  not-asking kind is (inr can) = let no : Expr kind ≡ Scan can.query = asked (Expr kind) (Scan can.query) is can.asked in cc

  no-text : (kind : StreamKind) → Reads run.words → TakesText run.words kind → ⊥
  no-text kind reads (inl exprs) = not-reading kind exprs reads
  no-text kind (inl runs) (inr scans) = let no : Run ≡ Scan scans.0 = asked Run (Scan scans.0) runs scans.1 in cc
  no-text kind (inr checks) (inr scans) = let no : Check ≡ Scan scans.0 = asked Check (Scan scans.0) checks scans.1 in cc

  same-kind : (kind other : StreamKind) → command_of run.words ≡ Some (Expr kind) → TakesText run.words other → other ≡ kind
  same-kind kind other is (inl exprs) = let same : Expr other ≡ Expr kind = asked (Expr other) (Expr kind) exprs is in cc
  same-kind kind other is (inr scans) =
      let no : Expr kind ≡ Scan scans.0 = asked (Expr kind) (Scan scans.0) is scans.1 in
      absurd cc

  not-scripts : (query : RecordQuery) → command_of run.words ≡ Some (Scan query) → Reads run.words → ⊥
  not-scripts query is (inl runs) = let no : Scan query ≡ Run = asked (Scan query) Run is runs in cc
  not-scripts query is (inr checks) = let no : Scan query ≡ Check = asked (Scan query) Check is checks in cc

  query-kind : (query : RecordQuery) (kind : StreamKind) → command_of run.words ≡ Some (Scan query) → TakesText run.words kind → kind ≡ query.kind
  query-kind query kind is (inl exprs) =
      let no : Scan query ≡ Expr kind = asked (Scan query) (Expr kind) is exprs in
      absurd cc
  query-kind query kind is (inr scans) =
      let same : Scan scans.0 ≡ Scan query = asked (Scan scans.0) (Scan query) scans.1 is in
      let queries : scans.0 ≡ query = cc in
      sym scans.2 ∙ ap (λ (one : RecordQuery). one.kind) queries

  -- a script that can be played
  played : (lines : List Line) (bytes : List ℕ) → command_of run.words ≡ Some Run → before run.source ≡ Some bytes → length bytes ≤ 16777216 → IsScriptOf lines bytes → before run.stage.disk ≡ Some no_files → (HasRisen (fault_count run.source) → ⊥) → (HasRisen (fault_count run.stage.disk) → ⊥) → (status : Status8) (text : List ℕ) → RisesBefore (Some status) (fault_count run.source) (fault_count run.stage.disk) → Ends run (Some status) text → status ≡ Done
  played lines bytes words left short script empty reads disk Done text rises end = refl
  played lines bytes words left short script empty reads disk ScriptRefused text rises (NoScript asks all taken read fails) =
      absurd (fails.none lines (subst (λ (one : List ℕ). IsScriptOf lines one) (sym (read-all run.source bytes taken left read)) script))
  played lines bytes words left short script empty reads disk ScriptRefused text rises (NoExpression kind asks all source fails) = absurd (no-text kind (inl words) asks)
  played lines bytes words left short script empty reads disk Usage text rises end =
      let no : None ≡ Some Run = sym end.unknown ∙ words in
      absurd cc
  played lines bytes words left short script empty reads disk Memory text rises end = absurd end
  played lines bytes words left short script empty reads disk ReadFault text rises end = absurd (reads rises.0)
  played lines bytes words left short script empty reads disk WriteFault text rises end = absurd end
  played lines bytes words left short script empty reads disk DiskFault text rises end = absurd (disk rises.1)
  played lines bytes words left short script empty reads disk RootNotEmpty text rises end =
      let holds = end.2 in
      let found : (others : List (List ℕ)) × (keys no_files ≡ holds.name ∷ others) = subst (λ o. IfSome o (λ f. (others : List (List ℕ)) × (keys f ≡ holds.name ∷ others))) empty holds.least in
      absurd (no-name holds.name found.0 found.1)
  played lines bytes words left short script empty reads disk TooLong text rises end = absurd (not-too-long run.source bytes text left short end.why)
  played lines bytes words left short script empty reads disk JournalRefused text rises end = absurd end
  played lines bytes words left short script empty reads disk Inseparable text rises end =
      absurd (not-scripts end.cannot.query end.cannot.asked (inl words))

  -- a script that is checked
  checked : (lines : List Line) (bytes : List ℕ) → command_of run.words ≡ Some Check → before run.source ≡ Some bytes → length bytes ≤ 16777216 → IsScriptOf lines bytes → (HasRisen (fault_count run.source) → ⊥) → (status : Status8) (text : List ℕ) → RisesBefore (Some status) (fault_count run.source) (fault_count run.stage.disk) → Ends run (Some status) text → status ≡ Done
  checked lines bytes words left short script reads Done text rises end = refl
  checked lines bytes words left short script reads ScriptRefused text rises (NoScript asks all taken read fails) =
      absurd (fails.none lines (subst (λ (one : List ℕ). IsScriptOf lines one) (sym (read-all run.source bytes taken left read)) script))
  checked lines bytes words left short script reads ScriptRefused text rises (NoExpression kind asks all source fails) = absurd (no-text kind (inr words) asks)
  checked lines bytes words left short script reads Usage text rises end =
      let no : None ≡ Some Check = sym end.unknown ∙ words in
      absurd cc
  checked lines bytes words left short script reads Memory text rises end = absurd end
  checked lines bytes words left short script reads ReadFault text rises end = absurd (reads rises.0)
  checked lines bytes words left short script reads WriteFault text rises end = absurd end
  checked lines bytes words left short script reads DiskFault text rises end =
      absurd (not-failed Check words (λ e. cc) (λ count seed e. cc) text end)
  checked lines bytes words left short script reads RootNotEmpty text rises end =
      absurd (not-played Check words (λ e. cc) (λ count seed e. cc) end.0 end.1)
  checked lines bytes words left short script reads TooLong text rises end = absurd (not-too-long run.source bytes text left short end.why)
  checked lines bytes words left short script reads JournalRefused text rises end = absurd end
  checked lines bytes words left short script reads Inseparable text rises end =
      absurd (not-scripts end.cannot.query end.cannot.asked (inr words))

  -- an expression that is checked
  parsed : (kind : StreamKind) → command_of run.words ≡ Some (Expr kind) → ((fault : ExprFault) → IsFault kind (text_of run.words) fault → ⊥) → (status : Status8) (text : List ℕ) → Ends run (Some status) text → status ≡ Done
  parsed kind words faultless Done text end = refl
  parsed kind words faultless ScriptRefused text (NoScript asks all taken read fails) = absurd (not-reading kind words asks)
  parsed kind words faultless ScriptRefused text (NoExpression other asks all source fails) =
      absurd (faultless fails.fault (subst (λ (one : StreamKind). IsFault one (text_of run.words) fails.fault) (same-kind kind other words asks) fails.found))
  parsed kind words faultless Usage text end =
      let no : None ≡ Some (Expr kind) = sym end.unknown ∙ words in
      absurd cc
  parsed kind words faultless Memory text end = absurd end
  parsed kind words faultless ReadFault text end = absurd (not-asking kind words end.words)
  parsed kind words faultless WriteFault text end = absurd end
  parsed kind words faultless DiskFault text end = absurd (not-failed (Expr kind) words (λ e. cc) (λ count seed e. cc) text end)
  parsed kind words faultless RootNotEmpty text end = absurd (not-played (Expr kind) words (λ e. cc) (λ count seed e. cc) end.0 end.1)
  parsed kind words faultless TooLong text end = absurd (not-asking kind words end.words)
  parsed kind words faultless JournalRefused text end = absurd end
  parsed kind words faultless Inseparable text end =
      let no : Expr kind ≡ Scan end.cannot.query = asked (Expr kind) (Scan end.cannot.query) words end.cannot.asked in
      absurd cc

  -- records that are told
  scanned : (can : CanScan run.words) (bytes : List ℕ) → before run.source ≡ Some bytes → length bytes ≤ 16777216 → (HasRisen (fault_count run.source) → ⊥) → (status : Status8) (text : List ℕ) → RisesBefore (Some status) (fault_count run.source) (fault_count run.stage.disk) → Ends run (Some status) text → status ≡ Done
  scanned can bytes left short reads Done text rises end = refl
  scanned can bytes left short reads ScriptRefused text rises (NoScript asks all taken read fails) = absurd (not-scripts can.query can.asked asks)
  scanned can bytes left short reads ScriptRefused text rises (NoExpression kind asks all source fails) =
      absurd (can.parted.expr.faultless fails.fault (subst (λ (one : StreamKind). IsFault one (text_of run.words) fails.fault) (query-kind can.query kind can.asked asks) fails.found))
  scanned can bytes left short reads Usage text rises end =
      let no : None ≡ Some (Scan can.query) = sym end.unknown ∙ can.asked in
      absurd cc
  scanned can bytes left short reads Memory text rises end = absurd end
  scanned can bytes left short reads ReadFault text rises end = absurd (reads rises.0)
  scanned can bytes left short reads WriteFault text rises end = absurd end
  scanned can bytes left short reads DiskFault text rises end =
      absurd (not-failed (Scan can.query) can.asked (λ e. cc) (λ count seed e. cc) text end)
  scanned can bytes left short reads RootNotEmpty text rises end =
      absurd (not-played (Scan can.query) can.asked (λ e. cc) (λ count seed e. cc) end.0 end.1)
  scanned can bytes left short reads TooLong text rises end = absurd (not-too-long run.source bytes text left short end.why)
  scanned can bytes left short reads JournalRefused text rises end = absurd end
  scanned can bytes left short reads Inseparable text rises end =
      let cannot = end.cannot in
      let same : Scan cannot.query ≡ Scan can.query = asked (Scan cannot.query) (Scan can.query) cannot.asked can.asked in
      let queries : cannot.query ≡ can.query = cc in
      let why = subst (λ (query : RecordQuery). CannotPart query (text_of run.words) text) queries cannot.why in
      let pieces = sym (parse_is_read can.query.kind why.pieces (text_of run.words) why.expr.spelled) ∙ parse_is_read can.query.kind can.pieces (text_of run.words) can.parted.expr.spelled in
      absurd (can.parted.separable why.piece (subst (λ (parts : List Piece). StandsInWay parts can.query.size why.piece) pieces why.first.stands))

  -- where the sink does not fail either, only memory may be missing
  pub well : (status : Status8) → (HasRisen (fault_count run.stage.sink) → ⊥) → ((text : List ℕ) → RisesBefore (Some status) (fault_count run.source) (fault_count run.stage.disk) → Ends run (Some status) text → status ≡ Done) → Ended (fault_count run.source) (fault_count run.stage.disk) (Ends run) (WordsLack run) run.stage.sink status → IsDoneOrMemory status
  well status sink only (Whole text e stood appends) = inl (only text e.1 e.0)
  well status sink only (SinkFailed is risen reached text e front) = absurd (sink risen)
  well status sink only (SinkLacked is stood reached text e front) = inr is
  well status sink only (Lacked is stood text l appends) = inr is

  pub completes : (status : Status8) → Ended (fault_count run.source) (fault_count run.stage.disk) (Ends run) (WordsLack run) run.stage.sink status → CanRun run.words (before run.source) (before run.stage.disk) → (HasRisen (fault_count run.source) → ⊥) → (HasRisen (fault_count run.stage.sink) → ⊥) → (HasRisen (fault_count run.stage.disk) → ⊥) → IsDoneOrMemory status
  completes status ended can reads sink disk =
      let script = can.script in
      well status sink (λ text rises end. played can.lines script.bytes (ap command_of can.asked) script.told script.short script.script can.empty reads disk status text rises end) ended

  pub checks : (status : Status8) → Ended (fault_count run.source) (fault_count run.stage.disk) (Ends run) (WordsLack run) run.stage.sink status → CanCheck run.words (before run.source) → (HasRisen (fault_count run.source) → ⊥) → (HasRisen (fault_count run.stage.sink) → ⊥) → IsDoneOrMemory status
  checks status ended can reads sink =
      let script = can.script in
      well status sink (λ text rises end. checked can.lines script.bytes (ap command_of can.asked) script.told script.short script.script reads status text rises end) ended

  pub exprs : (status : Status8) → Ended (fault_count run.source) (fault_count run.stage.disk) (Ends run) (WordsLack run) run.stage.sink status → CanParse run.words → (HasRisen (fault_count run.stage.sink) → ⊥) → IsDoneOrMemory status
  exprs status ended can sink =
      well status sink (λ text rises end. parsed can.kind can.asked can.faultless status text end) ended

  pub scans : (status : Status8) → Ended (fault_count run.source) (fault_count run.stage.disk) (Ends run) (WordsLack run) run.stage.sink status → HoldsRecords run.words (before run.source) → (HasRisen (fault_count run.source) → ⊥) → (HasRisen (fault_count run.stage.sink) → ⊥) → IsDoneOrMemory status
  scans status ended holds reads sink =
      well status sink (λ text rises end. scanned holds.can holds.bytes holds.told holds.short reads status text rises end) ended
