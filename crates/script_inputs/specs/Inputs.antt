-- Words of public clauses: how an input was read.
use Rattle.std.specs.Prelude.{◌≡◌, ℕ, ◌+◌, ◌≤◌, List, ◌++◌, codes}
use Rattle.std.specs.Fmt.{decimal}
use Rattle.io_edge.specs.Reads.{TakesAll, TakesSome}
use Rattle.script_lines.specs.declared.answer.ScriptWhy.{ScriptWhy}
use Rattle.script_lines.specs.Refusals.{why_word}
use Rattle.played_runs.specs.Edges.{Edge, before, after}

-- the most bytes of an input: 16 MiB
unfoldable pub input_limit : ℕ
input_limit = 16777216

-- the source was read to its end, and gave these bytes
abbrev pub ReadsWhole : {S : Type 0} → Edge S (List ℕ) → List ℕ → Type 0
ReadsWhole source bytes = TakesAll (before source) (after source) input_limit bytes

-- the source failed before its end was read
pub record SourceFailed {S : Type 0} (source : Edge S (List ℕ)) (text : List ℕ) : Type 0 where
  pub taken : TakesSome (before source) (after source) (λ count. count ≤ input_limit)
  pub printed : text ≡ codes "read fault\n"

-- one byte more than the limit was taken
pub record InputTooLong {S : Type 0} (source : Edge S (List ℕ)) (text : List ℕ) : Type 0 where
  pub taken : TakesSome (before source) (after source) (λ count. count ≡ input_limit + 1)
  pub printed : text ≡ codes "script too long\n"

-- the line that tells which line of an input is bad
abbrev pub bad_line : ℕ → ScriptWhy → List ℕ
bad_line number reason = codes "script line " ++ (decimal number ++ (codes ": " ++ (why_word reason ++ codes "\n")))
