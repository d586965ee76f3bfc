-- What the commands `scan` and `find` come to, part by part.
use Rattle.std.proofs.Common.{◌≡◌, ℕ, ◌+◌, inr, List, [], ◌++◌, take, drop, Option, Some, None, refl, ap, sym, ◌∙◌, subst, append-nil}
use Rattle.std.specs.Io.KnownBytes.{Appends}
use Rattle.std.proofs.KnownBytes.{Appends-nil, Appends-trans}
use Rattle.format_expr.specs.declared.piece.Piece.{Piece}
use Rattle.record_scan.specs.Numbers.{IsRecord, IsRest}
use Rattle.record_scan.proofs.NumberLaws.{IsPassed}
use Rattle.scan_lines.specs.Lines.{rest_line}
use Rattle.scan_lines.specs.Telling.{IsTold, AreTold, TellsFront}
use Rattle.scan_lines.proofs.TellingLaws.{all_told, front_told, none_told, one_told}
use Rattle.played_runs.specs.Counts.{HasStood}
use Rattle.played_runs.specs.Edges.{Edge, edge, before, after, fault_count, IsUntouched}
use Rattle.played_runs.specs.Writing.{Counting, IsNone, IsText, Reaching, Written, unasked}
use Rattle.played_runs.proofs.CountSteps.{on-same, untouched-stood}
use Rattle.played_runs.proofs.EndingSteps.{text-ends}
use Rattle.played_runs.proofs.WritingSteps.{written-behind}
use Rattle.commands.specs.declared.command.RecordQuery.{RecordQuery}
use Rattle.played_runs.specs.declared.ending.Status8.{Status8}
use Rattle.played_runs.specs.declared.ending.Status8.TheVariants.{Done, ScriptRefused, Usage, Memory, ReadFault, WriteFault, DiskFault, RootNotEmpty, TooLong, JournalRefused, Inseparable}
use Rattle.script_inputs.specs.Inputs.{ReadsWhole}
use Rattle.text_commands.specs.Scanning.{IsParted}
use Rattle.text_commands.specs.ScanSteps.{TextRefused, NotSpelled, NotParted, RecordEnds, RecordsEnd, SourceEnds, SourceLacks, ScanEnds, ScanLacks}

-- some records were told, and their text is written
pub record ToldSoFar {K : Type 0} (query : RecordQuery) (pieces : List Piece) (wanted bytes rest : List ℕ) (number : ℕ) (sink : Edge K (List ℕ)) : Type 0 where
  pub text : List ℕ
  pub passed : IsPassed (AreTold (IsTold query.shown pieces query.size wanted)) query.size bytes rest text number
  pub appended : Appends (before sink) (after sink) text

module _ (query : RecordQuery) (pieces : List Piece) (wanted bytes : List ℕ) where
  -- what is written of one record more
  record-ends : (rest front : List ℕ) (number long : ℕ) → IsPassed (AreTold (IsTold query.shown pieces query.size wanted)) query.size bytes rest front number → IsRecord query.size (take long rest) → (reached : Option Status8) (text : List ℕ) → RecordEnds query pieces wanted (number + 1) (take long rest) reached text → RecordsEnd query pieces wanted bytes reached (front ++ text)
  record-ends rest front number long so is None text told =
      front_told query.shown pieces query.size wanted bytes (drop long rest) (front ++ text) (number + 1) (one_told query.shown pieces query.size wanted bytes rest front text number long so is told)
  record-ends rest front number long so is (Some status) text told = absurd told

  -- of what is left
  rest-ends : (rest front : List ℕ) (number : ℕ) → IsPassed (AreTold (IsTold query.shown pieces query.size wanted)) query.size bytes rest front number → IsRest query.size rest → (reached : Option Status8) (text : List ℕ) → IsText Done (rest_line query.shown rest) reached text → RecordsEnd query pieces wanted bytes reached (front ++ text)
  rest-ends rest front number so over reached text is =
      let E : Reaching = λ reached text. RecordsEnd query pieces wanted bytes reached (front ++ text) in
      text-ends E Done (rest_line query.shown rest) (all_told query.shown pieces query.size wanted bytes rest front number so over) reached text is

  -- memory was wanting behind some records
  front-lacks : (rest front : List ℕ) (number : ℕ) → IsPassed (AreTold (IsTold query.shown pieces query.size wanted)) query.size bytes rest front number → (text : List ℕ) → IsNone text → TellsFront query.shown pieces query.size wanted bytes (front ++ text)
  front-lacks rest front number so text none =
      subst (TellsFront query.shown pieces query.size wanted bytes) (sym (ap (λ behind. front ++ behind) none ∙ append-nil front)) (front_told query.shown pieces query.size wanted bytes rest front number so)

  module _ {K : Type 0} (told : K → Option (List ℕ)) (faults : K → ℕ) where
    pub so-far-start : (sink : K) → ToldSoFar query pieces wanted bytes bytes 0 (edge told faults sink sink)
    so-far-start sink =
        record { text = []; passed = none_told query.shown pieces query.size wanted bytes; appended = Appends-nil (told sink) }

    pub so-far-next : (old mid new : K) (rest : List ℕ) (number long : ℕ) → ToldSoFar query pieces wanted bytes rest number (edge told faults old mid) → IsRecord query.size (take long rest) → (text : List ℕ) → IsTold query.shown pieces query.size wanted (number + 1) (take long rest) text → Appends (told mid) (told new) text → ToldSoFar query pieces wanted bytes (drop long rest) (number + 1) (edge told faults old new)
    so-far-next old mid new rest number long so is text one appended = record {
      text = so.text ++ text;
      passed = one_told query.shown pieces query.size wanted bytes rest so.text text number long so.passed is one;
      appended = Appends-trans (told old) (told mid) (told new) so.text text so.appended appended;
    }

    pub so-far-breaks : (old mid new : K) (rest : List ℕ) (number long : ℕ) → ToldSoFar query pieces wanted bytes rest number (edge told faults old mid) → IsRecord query.size (take long rest) → (status : Status8) → faults mid ≡ faults old → Written (RecordEnds query pieces wanted (number + 1) (take long rest)) IsNone (edge told faults mid new) status → Written (RecordsEnd query pieces wanted bytes) (TellsFront query.shown pieces query.size wanted bytes) (edge told faults old new) status
    so-far-breaks old mid new rest number long so is status stood written =
        written-behind told faults old mid new (RecordEnds query pieces wanted (number + 1) (take long rest)) (RecordsEnd query pieces wanted bytes) IsNone (TellsFront query.shown pieces query.size wanted bytes) so.text status so.appended stood (record-ends rest so.text number long so.passed is) (front-lacks rest so.text number so.passed) written

    pub so-far-ends : (old mid new : K) (rest : List ℕ) (number : ℕ) → ToldSoFar query pieces wanted bytes rest number (edge told faults old mid) → IsRest query.size rest → (status : Status8) → faults mid ≡ faults old → Written (IsText Done (rest_line query.shown rest)) IsNone (edge told faults mid new) status → Written (RecordsEnd query pieces wanted bytes) (TellsFront query.shown pieces query.size wanted bytes) (edge told faults old new) status
    so-far-ends old mid new rest number so over status stood written =
        written-behind told faults old mid new (IsText Done (rest_line query.shown rest)) (RecordsEnd query pieces wanted bytes) IsNone (TellsFront query.shown pieces query.size wanted bytes) so.text status so.appended stood (rest-ends rest so.text number so.passed over) (front-lacks rest so.text number so.passed) written

module _ {S : Type 0} (query : RecordQuery) (pieces : List Piece) (wanted : List ℕ) (source : Edge S (List ℕ)) where
  -- the records of a source that was read to its end, whose count stood
  pub records-source : (bytes : List ℕ) → ReadsWhole source bytes → HasStood (fault_count source) → (reached : Option Status8) (text : List ℕ) → RecordsEnd query pieces wanted bytes reached text → Counting (fault_count source) unasked (SourceEnds query pieces wanted source) reached text
  records-source bytes read stood None text ends = ((bytes, read, ends), (stood, on-same 0))
  records-source bytes read stood (Some Done) text ends = ((bytes, read, ends), (stood, on-same 0))
  records-source bytes read stood (Some ScriptRefused) text ends = absurd ends
  records-source bytes read stood (Some Usage) text ends = absurd ends
  records-source bytes read stood (Some Memory) text ends = absurd ends
  records-source bytes read stood (Some ReadFault) text ends = absurd ends
  records-source bytes read stood (Some WriteFault) text ends = absurd ends
  records-source bytes read stood (Some DiskFault) text ends = absurd ends
  records-source bytes read stood (Some RootNotEmpty) text ends = absurd ends
  records-source bytes read stood (Some TooLong) text ends = absurd ends
  records-source bytes read stood (Some JournalRefused) text ends = absurd ends
  records-source bytes read stood (Some Inseparable) text ends = absurd ends

  -- a text that serves
  pub source-scan : (asked : List ℕ) → IsParted query asked pieces → (reached : Option Status8) (text : List ℕ) → SourceEnds query pieces wanted source reached text → ScanEnds query asked wanted source reached text
  source-scan asked parted None text ends = (pieces, parted, ends)
  source-scan asked parted (Some Done) text ends = (pieces, parted, ends)
  source-scan asked parted (Some ReadFault) text ends = (pieces, parted, ends)
  source-scan asked parted (Some TooLong) text ends = (pieces, parted, ends)
  source-scan asked parted (Some ScriptRefused) text ends = absurd ends.2
  source-scan asked parted (Some Usage) text ends = absurd ends.2
  source-scan asked parted (Some Memory) text ends = absurd ends.2
  source-scan asked parted (Some WriteFault) text ends = absurd ends.2
  source-scan asked parted (Some DiskFault) text ends = absurd ends.2
  source-scan asked parted (Some RootNotEmpty) text ends = absurd ends.2
  source-scan asked parted (Some JournalRefused) text ends = absurd ends.2
  source-scan asked parted (Some Inseparable) text ends = absurd ends.2

  pub source-lacks : (asked : List ℕ) → IsParted query asked pieces → (text : List ℕ) → SourceLacks query pieces wanted source text → ScanLacks query asked wanted source text
  source-lacks asked parted text lacks = inr (pieces, parted, lacks)

-- a text that does not serve, for which the source is not asked
pub refused-scan : {S : Type 0} (query : RecordQuery) (asked wanted : List ℕ) (source : Edge S (List ℕ)) → IsUntouched source → (status : Status8) (text : List ℕ) → TextRefused query asked status text → Counting (fault_count source) unasked (ScanEnds query asked wanted source) (Some status) text
refused-scan query asked wanted source same status text (NotSpelled is fails) =
    let E : Status8 → Type 0 = λ one. Counting (fault_count source) unasked (ScanEnds query asked wanted source) (Some one) text in
    subst E (sym is) ((same, fails), (untouched-stood source same, refl))
refused-scan query asked wanted source same status text (NotParted is cannot) =
    let E : Status8 → Type 0 = λ one. Counting (fault_count source) unasked (ScanEnds query asked wanted source) (Some one) text in
    subst E (sym is) ((same, cannot), (untouched-stood source same, refl))
