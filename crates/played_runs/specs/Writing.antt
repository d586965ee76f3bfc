-- Words of bodies alone: what is written of the ends that bodies come to.
use Rattle.std.specs.Prelude.{◌≡◌, ℕ, List, [], Option, Some, Result, Ok, Err}
use Rattle.std.specs.List.{flat_map}
use Rattle.std.specs.Io.KnownBytes.{Appends}
use Rattle.io_edge.specs.Writes.{AppendsFront}
use Rattle.io_edge.specs.declared.answers.SinkAnswer.{SinkAnswer}
use Rattle.io_edge.specs.declared.answers.SinkAnswer.TheVariants as answer
use Rattle.played_runs.specs.declared.ending.End.{End}
use Rattle.played_runs.specs.declared.ending.Status8.{Status8}
use Rattle.played_runs.specs.declared.ending.Status8.TheVariants.{Memory, WriteFault}
use Rattle.played_runs.specs.Counts.{HasGoneOn, HasStood, HasRisen, RisesBefore}
use Rattle.played_runs.specs.Edges.{Edge, before, after, fault_count}

-- an end, or a point before any end, with the text up to there
abbrev pub Reaching : Type 1
Reaching = Option Status8 → List ℕ → Type 0

-- what was written: the text of an end that E allows; or, as the sink failed or lacked memory, a front of the text of an end, or
-- of what was done up to some point; or all text up to a point at which memory was wanting. The sink's count of faults rose
-- exactly where it failed
pub data Written {K : Type 0} (E : Reaching) (L : List ℕ → Type 0) (sink : Edge K (List ℕ)) (status : Status8) : Type 0 where
  Whole : (text : List ℕ) → E (Some status) text → HasStood (fault_count sink) → Appends (before sink) (after sink) text → Written E L sink status
  SinkFailed :
      status ≡ WriteFault → HasRisen (fault_count sink) → (reached : Option Status8) (text : List ℕ) → E reached text
      → AppendsFront (before sink) (after sink) text → Written E L sink status
  SinkLacked :
      status ≡ Memory → HasStood (fault_count sink) → (reached : Option Status8) (text : List ℕ) → E reached text
      → AppendsFront (before sink) (after sink) text → Written E L sink status
  Lacked :
      status ≡ Memory → HasStood (fault_count sink) → (text : List ℕ) → L text → Appends (before sink) (after sink) text → Written E L sink status

-- the count of an object that is not asked
abbrev pub unasked : ℕ × ℕ
unasked = (0, 0)

-- an end, and the counts of source and disk as by that end
abbrev pub Counting : (source disk : ℕ × ℕ) → Reaching → Reaching
Counting source disk E reached text = E reached text × RisesBefore reached source disk

-- memory was wanting; the source's count stands, and the disk's did not fall
abbrev pub Standing : (source disk : ℕ × ℕ) → (List ℕ → Type 0) → List ℕ → Type 0
Standing source disk L text = L text × HasStood source × HasGoneOn disk

-- what was written, and how the counts of source and disk hang together with it
abbrev pub Ended : {K : Type 0} → (source disk : ℕ × ℕ) → Reaching → (List ℕ → Type 0) → Edge K (List ℕ) → Status8 → Type 0
Ended source disk E L sink status = Written (Counting source disk E) (Standing source disk L) sink status

-- a text is written, behind which the run ends with a status
abbrev pub IsText : Status8 → List ℕ → Reaching
IsText status text reached written = (reached ≡ Some status) × (written ≡ text)

-- the status where the sink did not take all
abbrev pub sink_status : SinkAnswer → Status8
sink_status answer.Memory = Memory
sink_status answer.Failed = WriteFault

-- memory was wanting nowhere, or where nothing was written
abbrev pub IsNever : List ℕ → Type 0
IsNever text = ⊥

abbrev pub IsNone : List ℕ → Type 0
IsNone text = text ≡ []

-- bytes of lines
abbrev pub joined_lines : List (List ℕ) → List ℕ
joined_lines lines = flat_map (λ line. line) lines

-- what the writing of an end gives
abbrev pub EndWritten : {K E : Type 0} → Result End E → Edge K (List ℕ) → Status8 → Type 0
EndWritten (Ok end) sink status = Written (IsText end.status end.text.items) IsNever sink status
EndWritten (Err e) sink status = (status ≡ Memory) × (sink.new ≡ sink.old)
