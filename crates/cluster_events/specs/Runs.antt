-- Words of public clauses: whole runs, over any lines L and any relation of a line, the state before it and what it leads to. A mark goes along:
-- the files that the lines leave, or the disk's count of faults.
use Rattle.std.specs.Prelude.{List, [], ◌∷◌, ◌++◌}
use Rattle.cluster_events.specs.Lines.{Told}
use Rattle.cluster_events.specs.Outcomes.{Outcome}
use Rattle.cluster_events.specs.Servers.{State}

-- what a line leads to from a state and prints, with the marks before and after it
abbrev pub StepBy : Type 0 → Type 0 → Type 0 → Type 1
StepBy M L P = M → L → State P → Outcome (State P) → M → Type 0

-- what lines lead to from a start, the last line first, all that they print, and the mark after them
pub data RunBy {M L P : Type 0} (Step : StepBy M L P) (start : State P) (first : M) : List L → State P → List Told → M → Type 0 where
  Started : RunBy Step start first [] start [] first
  Went : {lines : List L} {state : State P} {told : List Told} {before : M} → (next : L) (outcome : Outcome (State P)) (after : M)
      → RunBy Step start first lines state told before → Step before next state outcome after
      → RunBy Step start first (next ∷ lines) outcome.state (outcome.told ++ told) after

-- what is said of the lines so far, the last first, of where they led, of what they told and of the mark
abbrev pub SentenceOf : Type 0 → Type 0 → Type 0 → Type 1
SentenceOf M L P = List L → State P → List Told → M → Type 0

-- it is so at the start of a run, and at the end of each line
abbrev pub AtEachEnd :
    {M L P : Type 0} {Step : StepBy M L P} {start : State P} {first : M} (S : SentenceOf M L P) {lines : List L} {state : State P} {told : List Told} {mark : M}
    → RunBy Step start first lines state told mark → Type 0
AtEachEnd {start = start} {first = first} S Started = S [] start [] first
AtEachEnd S (Went {lines = lines} {told = told} next outcome after run step) = S (next ∷ lines) outcome.state (outcome.told ++ told) after × AtEachEnd S run
