-- Words of public clauses: the files of one stream, names and bytes, as a closed form of its attributes, the bytes of its records and its stamps.
use Rattle.std.specs.Prelude.{ℕ, ◌-◌, ◌*◌, ◌/◌, List, [], ◌∷◌, ◌++◌, length, take, drop}
use Rattle.std.specs.List.{concat}
use Rattle.stream_config.specs.declared.attrs.FullAction.{FullAction}
use Rattle.stream_config.specs.declared.attrs.FullAction.TheVariants.{Wrap, Halt, Rotate}
use Rattle.stream_config.specs.declared.attrs.StreamAttrs.{StreamAttrs}
use Rattle.stream_config.specs.declared.attrs.StreamName.{StreamName}
use Rattle.stream_config.specs.declared.state.LogFile.{LogFile}
use Rattle.stream_config.specs.Cfg.{cfg_of}
use Rattle.stream_config.specs.Fit.{next_first}
use Rattle.stream_config.specs.Sizes.{records_per_file}
use Rattle.stream_layout.specs.Names.{log_name, cfg_name}

-- names of files with their bytes
abbrev pub Entries : Type 0
Entries = List (List ℕ × List ℕ)

-- the records of one round: those from number n times the round on, n at most
abbrev pub round_of : (n round : ℕ) → List (List ℕ) → List (List ℕ)
round_of n round records = take n (drop (round * n) records)

-- WRAP: the one file holds the records of the last round, and behind them what is left of the round before
abbrev pub overlaid : (n : ℕ) → List (List ℕ) → List (List ℕ)
overlaid n records =
    let round = length records / n in
    round_of n round records ++ drop (length (round_of n round records)) (round_of n (round - 1) records)

-- the records from this number on, up to that one, which is left out
abbrev pub records_from : (first until : ℕ) → List (List ℕ) → List (List ℕ)
records_from first until records = take (until - first) (drop first records)

-- the records that stand in a file
abbrev pub records_in : FullAction → (n first until : ℕ) → List (List ℕ) → List (List ℕ)
records_in Wrap n first until records = overlaid n records
records_in Halt n first until records = records_from first until records
records_in Rotate n first until records = records_from first until records

abbrev pub bytes_in : StreamAttrs → (first until : ℕ) → List (List ℕ) → List ℕ
bytes_in attrs first until records = concat (records_in attrs.action (records_per_file attrs) first until records)

-- files with their records, each of which ends where the next one begins, and the last before the record of this number
unfoldable pub entries_to : StreamAttrs → List (List ℕ) → (until : ℕ) → List LogFile → Entries
entries_to attrs records until [] = []
entries_to attrs records until (file ∷ files) =
    (log_name attrs file, bytes_in attrs file.first (next_first files until) records) ∷ entries_to attrs records until files

-- the files that stand of a stream that has taken these records
unfoldable pub log_entries : StreamAttrs → List (List ℕ) → List LogFile → Entries
log_entries attrs records files = entries_to attrs records (length records) files

-- the cfg file
abbrev pub cfg_entry : StreamName → StreamAttrs → List ℕ × List ℕ
cfg_entry name attrs = (cfg_name attrs, cfg_of name attrs)
