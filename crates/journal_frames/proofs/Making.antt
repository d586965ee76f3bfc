-- A journal that is made is that of its first text.
use Rattle.std.proofs.Common.{◌≡◌, ℕ, List, [], ◌∷◌, Some}
use Rattle.std.specs.Cmp.Lexicographic.{nat_list_cmp_total}
use Rattle.std.specs.FinMap.{get}
use Rattle.disk_model.specs.Disk.{Files, created, empty_file, file_synced, file_written, settled_file, synced, written_at}
use Rattle.disk_model.specs.DeviceCalls.{all_applied}
use Rattle.disk_model.proofs.Maps.{get-insert_same}
use Rattle.disk_model.proofs.Shelving.{names_differ}
use Rattle.journal_frames.specs.Frames.{IsShort, behind_gate, journal_name, journal_of, make_calls}
use Rattle.journal_frames.proofs.Appends.{append-done}
use Rattle.journal_frames.proofs.Files.{stands-adjusted}

-- an empty file gets a closed gate
gate-made : (files : Files) → get (synced (written_at (created files journal_name) journal_name 0 (0 ∷ [])) journal_name) journal_name ≡ Some (settled_file (journal_of []))
gate-made files =
    let made = get-insert_same nat_list_cmp_total names_differ files journal_name empty_file in
    let written = stands-adjusted (file_written 0 (0 ∷ [])) (created files journal_name) journal_name empty_file made in
    stands-adjusted file_synced (written_at (created files journal_name) journal_name 0 (0 ∷ [])) journal_name (file_written 0 (0 ∷ []) empty_file) written

pub make-done : (text : List ℕ) (files : Files) → IsShort text → get (all_applied (make_calls (behind_gate text)) files) journal_name ≡ Some (settled_file (journal_of (text ∷ [])))
make-done text files one =
    append-done [] text tt one (synced (written_at (created files journal_name) journal_name 0 (0 ∷ [])) journal_name) (gate-made files)
