-- Words of the bodies alone: how a file and the state of a disk in memory are stored in the models of their types.
use Rattle.std.specs.Prelude.{ℕ, List, Option, refl}
use Rattle.std.specs.Coded.{Coded, code_by, coded×, coded_list, coded_option, coded_ℕ}
use Rattle.std.specs.FinMap as map
use Rattle.disk_model.specs.declared.tally.Tally.{Tally}
use Rattle.disk_model.specs.Disk.{File, Files}
use Rattle.disk_model.specs.Memory.{MemState}

-- a file is stored as the row of its parts
abbrev pub file_code : Coded File
file_code =
    code_by (List ℕ × (List (ℕ × ℕ) × ℕ)) (coded× (coded_list coded_ℕ) (coded× (coded_list (coded× coded_ℕ coded_ℕ)) coded_ℕ))
    (λ f. (f.bytes, (f.loose, f.settled))) (λ p. record { bytes = p.0; loose = p.1.0; settled = p.1.1 }) (λ _. refl)

-- what a disk counts of its calls is stored as the row of its parts
abbrev pub tally_code : Coded Tally
tally_code =
    code_by (ℕ × (ℕ × Option ℕ)) (coded× coded_ℕ (coded× coded_ℕ (coded_option coded_ℕ)))
    (λ t. (t.changing, (t.reading, t.armed))) (λ p. record { changing = p.0; reading = p.1.0; armed = p.1.1 }) (λ _. refl)

-- a disk in memory is stored as the row of its parts
abbrev pub state_code : Coded MemState
state_code =
    code_by (Files × (Tally × (ℕ × (ℕ × (List ℕ × (List ℕ × List ℕ))))))
    (coded× (map.code (coded_list coded_ℕ) file_code) (coded× tally_code (coded× coded_ℕ (coded× coded_ℕ
    (coded× (coded_list coded_ℕ) (coded× (coded_list coded_ℕ) (coded_list coded_ℕ)))))))
    (λ d. (d.files, (d.tally, (d.faults, (d.stops, (d.failing, (d.failing_reads, d.torn)))))))
    (λ p. record {
      files = p.0;
      tally = p.1.0;
      faults = p.1.1.0;
      stops = p.1.1.1.0;
      failing = p.1.1.1.1.0;
      failing_reads = p.1.1.1.1.1.0;
      torn = p.1.1.1.1.1.1;
    })
    (λ _. refl)
