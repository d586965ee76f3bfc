-- Worked rows of the files of a stream.
use Rattle.std.proofs.Common.{◌≡◌, refl, pos, List, ℕ, [], ◌∷◌, codes}
use Rattle.civil_time.specs.Fields.{civil_of, year_of, month_of, year_from, month_from}
use Rattle.civil_time.specs.Stamps.{stamp_of}
use Rattle.stream_config.specs.declared.attrs.FullAction.{FullAction}
use Rattle.stream_config.specs.declared.attrs.FullAction.TheVariants.{Wrap, Halt, Rotate}
use Rattle.stream_config.specs.declared.attrs.StreamAttrs.{StreamAttrs}
use Rattle.stream_config.specs.Events.{open_file, file_begun, file_closed, standing}
use Rattle.stream_layout.specs.Names.{stamped_name, cfg_name}
use Rattle.stream_layout.specs.LogFiles.{entries_to, log_entries}

-- a stream of two records a file, of one byte each
row_attrs : FullAction → List ℕ → StreamAttrs
row_attrs action path = record {
  file = codes "saLogSystem";
  path = path;
  max_file = 2;
  record_size = 1;
  ha = 0;
  action = action;
  rotated = 1;
  expr = [];
}

-- a full file of a HALT stream
halt_row : log_entries (row_attrs Halt (codes ".")) (codes "1" ∷ codes "2" ∷ []) (open_file (pos 1704067202) ∷ [])
    ≡ (codes "saLogSystem_20240101_000002.log", codes "12") ∷ []
unfolding row_attrs log_entries entries_to stamped_name stamp_of civil_of year_of month_of year_from month_from
halt_row = refl

-- five records of a WRAP stream: the fifth stands over the third, the fourth stays; the folder stands before the name
wrap_row : log_entries (row_attrs Wrap (codes "apps")) (codes "1" ∷ codes "2" ∷ codes "3" ∷ codes "4" ∷ codes "5" ∷ []) (open_file (pos 1704067202) ∷ [])
    ≡ (codes "apps/saLogSystem_20240101_000002.log", codes "54") ∷ []
unfolding row_attrs log_entries entries_to stamped_name stamp_of civil_of year_of month_of year_from month_from
wrap_row = refl

-- three records of a ROTATE stream, of which two files stand
rotate_row : log_entries (row_attrs Rotate (codes ".")) (codes "1" ∷ codes "2" ∷ codes "3" ∷ [])
    (file_closed (pos 1704067205) (open_file (pos 1704067202)) ∷ file_begun (pos 1704067206) 2 1 ∷ [])
    ≡ (codes "saLogSystem_20240101_000002_20240101_000005.log", codes "12") ∷ (codes "saLogSystem_20240101_000006.log", codes "3") ∷ []
unfolding row_attrs log_entries entries_to stamped_name stamp_of civil_of year_of month_of year_from month_from
rotate_row = refl

-- the same, of which one file is kept
rotate_one_row : log_entries (row_attrs Rotate (codes ".")) (codes "1" ∷ codes "2" ∷ codes "3" ∷ [])
    (standing (row_attrs Rotate (codes ".")) (file_closed (pos 1704067205) (open_file (pos 1704067202)) ∷ file_begun (pos 1704067206) 2 1 ∷ []))
    ≡ (codes "saLogSystem_20240101_000006.log", codes "3") ∷ []
unfolding row_attrs log_entries entries_to stamped_name stamp_of civil_of year_of month_of year_from month_from
rotate_one_row = refl

cfg_row : cfg_name (row_attrs Wrap (codes "apps")) ≡ codes "apps/saLogSystem.cfg"
unfolding row_attrs cfg_name
cfg_row = refl

-- records of varying size, of which two files stand
free_attrs : StreamAttrs
free_attrs = record {
  file = codes "saLogSystem";
  path = codes ".";
  max_file = 4;
  record_size = 0;
  ha = 0;
  action = Rotate;
  rotated = 2;
  expr = [];
}

free_row : log_entries free_attrs (codes "123" ∷ codes "45" ∷ codes "6" ∷ codes "7" ∷ [])
    (file_closed (pos 1704067205) (open_file (pos 1704067202)) ∷ file_begun (pos 1704067206) 1 4 ∷ [])
    ≡ (codes "saLogSystem_20240101_000002_20240101_000005.log", codes "123") ∷ (codes "saLogSystem_20240101_000006.log", codes "4567") ∷ []
unfolding free_attrs log_entries entries_to stamped_name stamp_of civil_of year_of month_of year_from month_from
free_row = refl
