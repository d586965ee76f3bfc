-- Worked rows.
use Rattle.std.proofs.Common.{◌≡◌, ℕ, ◌+◌, ◌*◌, List, [], ◌∷◌, map, refl}
use Rattle.std.specs.Prelude.{Some, None, pos, codes, is_some, true, false}
use Rattle.ais_values.specs.declared.status.Status.TheVariants as status
use Rattle.stream_config.specs.declared.attrs.FullAction.{FullAction}
use Rattle.stream_config.specs.declared.attrs.FullAction.TheVariants.{Wrap, Halt, Rotate}
use Rattle.stream_config.specs.declared.attrs.StreamAttrs.{StreamAttrs}
use Rattle.stream_config.specs.declared.attrs.StreamName.TheVariants.{System, App}
use Rattle.stream_config.specs.Cfg.{cfg_of}
use Rattle.stream_config.specs.Events.{open_file}
use Rattle.stream_config.specs.WellKnown.{default_attrs}
use Rattle.ais_values.specs.declared.kind.StreamKind.TheVariants as kind
use Rattle.record_print.specs.declared.record.Header.TheVariants.{Generic}
use Rattle.record_print.specs.declared.record.LogRecord.{LogRecord}
use Rattle.record_print.specs.Printing.{printed_record}
use Rattle.format_expr.specs.Reading.{pieces_of, pieces_from}
use Rattle.format_expr.specs.Tokens.{part_with, shown_parts}
use Rattle.civil_time.specs.Stamps.{stamp_of}
use Rattle.civil_time.specs.Fields.{civil_of, year_of, year_from, month_of, month_from}
use Rattle.stream_layout.specs.Names.{stamped_name, log_name, cfg_name}
use Rattle.stream_layout.specs.LogFiles.{entries_to, log_entries}
use Rattle.log_history.specs.Changes.{LogChange, Began, Opened, Stored, Filtered, Closed, Ended}
use Rattle.log_history.specs.Chronicle.{LogSetup}
use Rattle.log_history.specs.Answers.{write_answer, filter_answer, living_stream}
use Rattle.stream_config.specs.Marks.{lets_pass}
use Rattle.log_history.specs.Marks.{mark_after}
use Rattle.std.specs.List.{list_all}
use Rattle.log_history.specs.Files.{file_at}
use Rattle.log_history.specs.Places.{place_in}
use Rattle.log_history.specs.AllNames.{names_ever}

-- 2024-01-01T00:00:00 UTC
abbrev start : ℕ
start = 1704067200

abbrev attrs : (max rotated : ℕ) → FullAction → StreamAttrs
attrs max rotated action = record {
  file = codes "saLogSystem";
  path = codes ".";
  max_file = max;
  record_size = 32;
  ha = 0;
  action = action;
  rotated = rotated;
  expr = codes "@Cb";
}

abbrev setup : StreamAttrs → LogSetup
setup system = record { start = start; alarm = default_attrs kind.Alarm; notification = default_attrs kind.Notification; system = system }

abbrev rec : List ℕ → LogRecord
rec body = record {
  time = pos (start * 1000000000);
  header = Generic (record { vendor = 0; major = 0; minor = 0 }) (codes "u") 6;
  body = body;
}

abbrev opened : List LogChange
opened = Opened 1 System None start 2 ∷ Began 1 ∷ []

abbrev written : List ℕ → List LogChange → List LogChange
written body past = Stored System (rec body) start ∷ past

-- HALT with two records a file: the third write is refused
abbrev two : List LogChange
two = written (codes "b") (written (codes "a") opened)

halts : write_answer (setup (attrs 64 1 Halt)) two 1 System 0 (pos 5) (rec []).header [] (pos 5) ≡ status.NoSpace
halts = refl

goes_on : write_answer (setup (attrs 64 1 Halt)) (written (codes "a") opened) 1 System 0 (pos 5) (rec []).header [] (pos 5) ≡ status.Ok
goes_on = refl

-- WRAP: the file holds the fourth record behind the fifth
abbrev five : List LogChange
five = written (codes "e") (written (codes "d") (written (codes "c") two))

wraps : file_at (setup (attrs 64 1 Wrap)) five (codes "saLogSystem_20240101_000002.log") ≡ Some (codes "e                              \nd                              \n")
unfolding file_at log_entries entries_to stamped_name cfg_name stamp_of civil_of year_of year_from month_of month_from printed_record pieces_of pieces_from part_with shown_parts
wraps = refl

-- ROTATE with one file kept, one record a file: the third record stands alone, in the file of the seventh stamp
abbrev three : List LogChange
three = written (codes "c") two

rotates : file_at (setup (attrs 32 1 Rotate)) three (codes "saLogSystem_20240101_000006.log") ≡ Some (codes "c                              \n")
unfolding file_at log_entries entries_to stamped_name cfg_name stamp_of civil_of year_of year_from month_of month_from printed_record pieces_of pieces_from part_with shown_parts
rotates = refl

removes : file_at (setup (attrs 32 1 Rotate)) three (codes "saLogSystem_20240101_000004_20240101_000005.log") ≡ None
unfolding file_at log_entries entries_to stamped_name cfg_name stamp_of civil_of year_of year_from month_of month_from printed_record pieces_of pieces_from part_with shown_parts
removes = refl

-- with two files kept the one before it stands too, closed
keeps : file_at (setup (attrs 32 2 Rotate)) three (codes "saLogSystem_20240101_000004_20240101_000005.log") ≡ Some (codes "b                              \n")
unfolding file_at log_entries entries_to stamped_name cfg_name stamp_of civil_of year_of year_from month_of month_from printed_record pieces_of pieces_from part_with shown_parts
keeps = refl

-- two application streams end in one finalisation, in order of creation
abbrev of_application : List ℕ → StreamAttrs
of_application file = record {
  file = file;
  path = codes "web";
  max_file = 64;
  record_size = 32;
  ha = 0;
  action = Wrap;
  rotated = 1;
  expr = codes "@Cb";
}

abbrev making : (name file : List ℕ) → List LogChange → List LogChange
making name file past = Opened 1 (App name) (Some (of_application file)) start 3 ∷ past

abbrev both_ended : List LogChange
both_ended = Ended 1 start ∷ making (codes "w") (codes "b") (making (codes "v") (codes "a") opened)

first_ends : file_at (setup (attrs 64 1 Wrap)) both_ended (codes "web/a_20240101_000003_20240101_000005.log") ≡ Some []
unfolding file_at log_entries entries_to stamped_name cfg_name stamp_of civil_of year_of year_from month_of month_from
first_ends = refl

second_ends : file_at (setup (attrs 64 1 Wrap)) both_ended (codes "web/b_20240101_000004_20240101_000006.log") ≡ Some []
unfolding file_at log_entries entries_to stamped_name cfg_name stamp_of civil_of year_of year_from month_of month_from
second_ends = refl

neither_lives : is_some (living_stream (setup (attrs 64 1 Wrap)) both_ended (App (codes "v"))) ≡ false
neither_lives = refl

-- a stream of that name made again elsewhere leaves the first one's cfg and file, and has a cfg of its own
abbrev made_again : List LogChange
made_again = making (codes "w") (codes "c") (Closed 1 (App (codes "w")) start ∷ making (codes "w") (codes "b") opened)

old_cfg_stays : file_at (setup (attrs 64 1 Wrap)) made_again (codes "web/b.cfg") ≡ Some (cfg_of (App (codes "w")) (of_application (codes "b")))
unfolding file_at log_entries entries_to stamped_name cfg_name stamp_of civil_of year_of year_from month_of month_from
old_cfg_stays = refl

new_cfg_stands : file_at (setup (attrs 64 1 Wrap)) made_again (codes "web/c.cfg") ≡ Some (cfg_of (App (codes "w")) (of_application (codes "c")))
unfolding file_at log_entries entries_to stamped_name cfg_name stamp_of civil_of year_of year_from month_of month_from
new_cfg_stands = refl

-- another stream in the old place replaces the cfg, and the closed file stays
abbrev place_again : List LogChange
place_again = making (codes "v") (codes "b") (Closed 1 (App (codes "w")) start ∷ making (codes "w") (codes "b") opened)

cfg_replaced : file_at (setup (attrs 64 1 Wrap)) place_again (codes "web/b.cfg") ≡ Some (cfg_of (App (codes "v")) (of_application (codes "b")))
unfolding file_at log_entries entries_to stamped_name cfg_name stamp_of civil_of year_of year_from month_of month_from
cfg_replaced = refl

closed_file_stays : file_at (setup (attrs 64 1 Wrap)) place_again (codes "web/b_20240101_000003_20240101_000004.log") ≡ Some []
unfolding file_at log_entries entries_to stamped_name cfg_name stamp_of civil_of year_of year_from month_of month_from
closed_file_stays = refl

-- places of records: the system stream is the third that was made

-- WRAP with two records a file: the fourth of five stands behind the fifth, and the third gave its slot away
fifth_first : place_in (setup (attrs 64 1 Wrap)) five 2 4 ≡ Some (codes "saLogSystem_20240101_000002.log", 0)
unfolding stamped_name stamp_of civil_of year_of year_from month_of month_from printed_record pieces_of pieces_from part_with shown_parts
fifth_first = refl

fourth_behind : place_in (setup (attrs 64 1 Wrap)) five 2 3 ≡ Some (codes "saLogSystem_20240101_000002.log", 32)
unfolding stamped_name stamp_of civil_of year_of year_from month_of month_from printed_record pieces_of pieces_from part_with shown_parts
fourth_behind = refl

third_gone : place_in (setup (attrs 64 1 Wrap)) five 2 2 ≡ None
third_gone = refl

-- ROTATE: the file of the second record is removed where one is kept, and closed where two are
third_stands : place_in (setup (attrs 32 1 Rotate)) three 2 2 ≡ Some (codes "saLogSystem_20240101_000006.log", 0)
unfolding stamped_name stamp_of civil_of year_of year_from month_of month_from printed_record pieces_of pieces_from part_with shown_parts
third_stands = refl

second_gone : place_in (setup (attrs 32 1 Rotate)) three 2 1 ≡ None
second_gone = refl

second_closed : place_in (setup (attrs 32 2 Rotate)) three 2 1 ≡ Some (codes "saLogSystem_20240101_000004_20240101_000005.log", 0)
unfolding stamped_name stamp_of civil_of year_of year_from month_of month_from printed_record pieces_of pieces_from part_with shown_parts
second_closed = refl

-- HALT: the second of two records stands behind the first
second_behind : place_in (setup (attrs 64 1 Halt)) two 2 1 ≡ Some (codes "saLogSystem_20240101_000002.log", 32)
unfolding stamped_name stamp_of civil_of year_of year_from month_of month_from printed_record pieces_of pieces_from part_with shown_parts
second_behind = refl

-- every name that a file of three streams had, one of which changed its file twice
names_of_three : names_ever (setup (attrs 32 1 Rotate)) three ≡ log_name (default_attrs kind.Alarm) (open_file (pos start)) ∷ log_name (default_attrs kind.Notification) (open_file (pos (start + 1))) ∷ map codes ("saLogSystem_20240101_000002.log" ∷ "saLogSystem_20240101_000002_20240101_000003.log" ∷ "saLogSystem_20240101_000004.log" ∷ "saLogSystem_20240101_000004_20240101_000005.log" ∷ "saLogSystem_20240101_000006.log" ∷ [])
unfolding stamped_name stamp_of civil_of year_of year_from month_of month_from printed_record pieces_of pieces_from part_with shown_parts
names_of_three = refl

-- records of the sizes of their texts: HALT with six bytes takes four, refuses three, and takes two
abbrev freely : (max rotated : ℕ) → FullAction → StreamAttrs
freely max rotated action = record {
  file = codes "saLogSystem";
  path = codes ".";
  max_file = max;
  record_size = 0;
  ha = 0;
  action = action;
  rotated = rotated;
  expr = codes "@Cb";
}

free_halts : write_answer (setup (freely 6 1 Halt)) (written (codes "abc") opened) 1 System 0 (pos 5) (rec []).header (codes "de") (pos 5) ≡ status.NoSpace
unfolding printed_record pieces_of pieces_from part_with shown_parts
free_halts = refl

free_fits : write_answer (setup (freely 6 1 Halt)) (written (codes "abc") opened) 1 System 0 (pos 5) (rec []).header (codes "d") (pos 5) ≡ status.Ok
unfolding printed_record pieces_of pieces_from part_with shown_parts
free_fits = refl

free_file : file_at (setup (freely 6 1 Halt)) (written (codes "d") (written (codes "abc") opened)) (codes "saLogSystem_20240101_000002.log") ≡ Some (codes "abc\nd\n")
unfolding file_at log_entries entries_to stamped_name cfg_name stamp_of civil_of year_of year_from month_of month_from printed_record pieces_of pieces_from part_with shown_parts
free_file = refl

-- ROTATE: a record that does not fit begins the next file, and a shorter one stands behind it
abbrev free_three : List LogChange
free_three = written (codes "f") (written (codes "de") (written (codes "abc") opened))

free_rotates : file_at (setup (freely 6 2 Rotate)) free_three (codes "saLogSystem_20240101_000004.log") ≡ Some (codes "de\nf\n")
unfolding file_at log_entries entries_to stamped_name cfg_name stamp_of civil_of year_of year_from month_of month_from printed_record pieces_of pieces_from part_with shown_parts
free_rotates = refl

free_closed : file_at (setup (freely 6 2 Rotate)) free_three (codes "saLogSystem_20240101_000002_20240101_000003.log") ≡ Some (codes "abc\n")
unfolding file_at log_entries entries_to stamped_name cfg_name stamp_of civil_of year_of year_from month_of month_from printed_record pieces_of pieces_from part_with shown_parts
free_closed = refl

free_behind : place_in (setup (freely 6 2 Rotate)) free_three 2 2 ≡ Some (codes "saLogSystem_20240101_000004.log", 3)
unfolding stamped_name stamp_of civil_of year_of year_from month_of month_from printed_record pieces_of pieces_from part_with shown_parts
free_behind = refl

-- a mask that lets warnings alone pass: a notice is filtered, before the room counts; a write is ok and not stored
abbrev masked : List LogChange
masked = Filtered 1 System 8 5 ∷ two

filtered : write_answer (setup (attrs 64 1 Halt)) masked 1 System 0 (pos 5) (rec []).header [] (pos 5) ≡ status.Ok
filtered = refl

mark_is : mark_after masked System ≡ record { since = 5; mask = 8 }
mark_is = refl

all_pass : list_all (lets_pass 127) (0 ∷ 1 ∷ 2 ∷ 3 ∷ 4 ∷ 5 ∷ 6 ∷ []) ≡ true
all_pass = refl

one_passes : map (lets_pass 8) (0 ∷ 1 ∷ 2 ∷ 3 ∷ 4 ∷ 5 ∷ 6 ∷ []) ≡ false ∷ false ∷ false ∷ true ∷ false ∷ false ∷ false ∷ []
one_passes = refl

not_set : filter_answer (setup (attrs 64 1 Halt)) masked 1 System 128 ≡ status.InvalidParam
not_set = refl
