-- Words of public clauses: the stamps of a service, and the seconds of what happened to it.
use Rattle.std.specs.Prelude.{ℕ, ◌+◌, ◌≤◌, ℤ, pos, ◌≤ℤ◌, List, [], ◌∷◌, ◌++◌, length}
use Rattle.std.specs.Option.{option_to_list}
use Rattle.log_history.specs.Changes.{LogChange, Began, Opened, Stored, Filtered, Closed, Ended}
use Rattle.log_history.specs.Chronicle.{LogSetup, Stream, chronicle}
use Rattle.log_history.specs.Table.{table}

-- a stamp: a second that is not negative, and not behind the last stamp
pub record IsStampUpTo (last stamp : ℤ) : Type 0 where
  pub from : pos 0 ≤ℤ stamp
  pub to : stamp ≤ℤ last

-- the second at which a change was accepted; a beginning and a mask that is set tell none
abbrev pub second_in : LogChange → ℕ
second_in (Began client) = 0
second_in (Opened client name making second number) = second
second_in (Stored name rec second) = second
second_in (Filtered client name mask number) = 0
second_in (Closed client name second) = second
second_in (Ended client second) = second

-- names can show the stamps of one more change at that second: two for a change of file, and one for the end of each living stream
pub record CanStamp (setup : LogSetup) (past : List LogChange) (second : ℕ) : Type 0 where
  pub last : (chronicle setup past).last + 2 + length (table setup past).streams ≤ 20000000100
  pub early : second + 2 + length (table setup past).streams ≤ 20000000100

-- all stamps of files that were closed, in order
abbrev pub stamps_of_full : List (ℕ × ℕ) → List ℕ
stamps_of_full [] = []
stamps_of_full (file ∷ files) = file.0 ∷ file.1 ∷ stamps_of_full files

-- all stamps of a stream
abbrev pub stamps_in : Stream → List ℕ
stamps_in stream = stamps_of_full stream.full ++ stream.current ∷ option_to_list stream.ended

-- all stamps of streams
abbrev pub stamps_of_all : List Stream → List ℕ
stamps_of_all [] = []
stamps_of_all (stream ∷ streams) = stamps_in stream ++ stamps_of_all streams
