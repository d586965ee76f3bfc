-- **The deeds of an entry, made again after any attempts, leave the files of the history with it.**
use Rattle.std.proofs.Common.{◌≡◌, ℕ, ◌≤◌, Bool, true, false, ◌&&◌, cond, List, [], ◌∷◌, ◌++◌, length, refl, sym, ap, subst, ◌∙◌, arith}
use Rattle.std.specs.Prelude.{pos, Option, Some, None, option_map, filter}
use Rattle.std.specs.Option.{option_map_or}
use Rattle.std.specs.List.{AllByRecursion, cons_option, find}
use Rattle.std.specs.Str.{bytes_eq}
use Rattle.std.proofs.lemmas.List.{append-nil}
use Rattle.std.proofs.lemmas.Bool.{and_parts}
use Rattle.disk_model.specs.Disk.{File, Files, settled_file}
use Rattle.stream_config.specs.declared.event.StreamEvent.{StreamEvent}
use Rattle.stream_config.specs.declared.event.StreamEvent.TheVariants as event
use Rattle.stream_config.specs.Cfg.{cfg_of}
use Rattle.stream_config.specs.Equality.{same_name}
use Rattle.stream_config.specs.Fit.{stamps_of}
use Rattle.stream_config.specs.Stamps.{stamp_after}
use Rattle.stream_layout.specs.Carrying.{IsFitEvent, entry_at, Stand}
use Rattle.stream_layout.specs.Deeds.{calls_of_all, deeds_of}
use Rattle.stream_layout.specs.Names.{cfg_name}
use Rattle.stream_layout.specs.Repeating.{IsSettled, AllSettled}
use Rattle.record_print.specs.declared.record.LogRecord.{LogRecord}
use Rattle.calls.specs.declared.entry.Entry.{Entry}
use Rattle.calls.specs.declared.entry.Entry.TheVariants.{Called, Receipted}
use Rattle.log_history.specs.Changes.{LogChange, Began, Opened, Stored, Filtered, Closed, Ended}
use Rattle.log_history.specs.Chronicle.{LogSetup, Stream, new_stream, lives, is_living, chronicle}
use Rattle.log_history.specs.Deeds.{deeds_of_all, deeds_by, made_stream}
use Rattle.log_history.specs.Files.{disk_files, records_of, log_entries_of}
use Rattle.log_history.specs.Legal.{IsLogHistory}
use Rattle.log_history.specs.Stamps.{IsStampUpTo, stamps_of_all, second_in, CanStamp}
use Rattle.log_history.specs.Table.{OpenStream, open_stream, state_of, table, is_named, is_changing, storing, bytes_in, ends_in, closed_streams, left_streams, without_opener, new_state, events_of}
use Rattle.log_history.proofs.BytesLaws.{are-records}
use Rattle.log_history.proofs.EventLaws.{events-fit}
use Rattle.log_history.proofs.FilesLaws.{Each-amid}
use Rattle.log_history.proofs.FirstLaws.{Each}
use Rattle.log_history.proofs.FoundLaws.{Holds, alone, disk-holds, either_of, found_in, found-around}
use Rattle.log_history.proofs.OnceLaws.{AreStamps}
use Rattle.log_history.proofs.Reaching.{Passes, reached}
use Rattle.log_history.proofs.StampedLaws.{amid, stamped}
use Rattle.log_history.proofs.SoundStreams.{sound}
use Rattle.log_history.proofs.StampLaws.{AreTimely}
use Rattle.log_history.proofs.StreamLaws.{IsSoundStream, fit-stamps}
use Rattle.log_history.proofs.TableLaws.{find-living}
use Rattle.cluster_facts.specs.Storage.{Attempts}
use Rattle.plain_service.specs.Setups.{Setup, log_setup}
use Rattle.plain_service.specs.Changing.{past_of}
use Rattle.plain_service.specs.Legal.{IsHistory}
use Rattle.plain_service.specs.Storing.{files_of, log_change_by}
use Rattle.plain_service.specs.Storing as service
use Rattle.plain_service.proofs.HistoryEvents.{timely, can-stamp}
use Rattle.plain_service.proofs.Possible.{possible}
use Rattle.plain_service.proofs.LivingStreams.{IsLivingStream, living-streams}
use Rattle.plain_service.proofs.ListLaws.{each-weaker, each-mapped, each-change_first}
use Rattle.service_laws.proofs.Attempting.{IsRepeatable}
use Rattle.service_laws.proofs.EventsAgain.{made-again, stored-again, changed-again, rises-behind}
use Rattle.service_laws.proofs.EndsAgain.{ends-again, late-ends}
use Rattle.ais_values.proofs.Basics.{none_from}

nothing-again : (old : Files) → IsRepeatable [] old
nothing-again old settled left Attempts.none = refl
nothing-again old settled left (Attempts.more {mid = mid} before last) = last ∙ nothing-again old settled mid before

-- the deeds of one event alone
alone-again : (happening : StreamEvent) (files : Files) → IsRepeatable (calls_of_all (deeds_of happening)) files → IsRepeatable (calls_of_all (deeds_of_all (happening ∷ []))) files
alone-again happening files again =
    subst (λ deeds. IsRepeatable (calls_of_all deeds) files) (sym (append-nil (deeds_of happening))) again

-- the files of records of one stream stand among those of all

first-none : (log later : Option (List ℕ)) (is_cfg : Bool) (text bytes : List ℕ) (front : Option (List ℕ)) → later ≡ None → is_cfg ≡ false → log ≡ Some bytes → either_of (either_of later (cond is_cfg (Some text) log)) front ≡ Some bytes
first-none log later is_cfg text bytes front none apart is =
    ap (λ l. either_of (either_of l (cond is_cfg (Some text) log)) front) none
    ∙ ap (λ b. either_of (either_of None (cond b (Some text) log)) front) apart
    ∙ ap (λ l. either_of (either_of None l) front) is

stands-amid : (front behind : List Stream) (stream : Stream) (last : ℕ) (files : Files) → last ≤ 20000000100 → AreStamps last (stamps_of_all (front ++ stream ∷ behind)) → Holds (front ++ stream ∷ behind) files → Stand (log_entries_of stream) files
stands-amid front behind stream last files low are holds name bytes is =
    let only = alone front behind stream last low are name bytes is in
    holds name
    ∙ ap (option_map settled_file) (found-around front behind stream name
    ∙ first-none (entry_at (log_entries_of stream) name) (found_in behind name) (bytes_eq name (cfg_name stream.attrs)) (cfg_of stream.name stream.attrs) bytes (found_in front name) only.later only.records is)

-- a record is stored

storing-again : (front behind : List Stream) (stream : Stream) (last second : ℕ) (rec : LogRecord) (files : Files) → last ≤ 20000000100 → AreStamps last (stamps_of_all (front ++ stream ∷ behind)) → stream.ended ≡ None → Passes stream → IsSoundStream last stream → IsFitEvent (storing last second rec (state_of stream)) → Holds (front ++ stream ∷ behind) files → IsRepeatable (calls_of_all (deeds_of (storing last second rec (state_of stream)))) files
storing-again front behind stream last second rec files low are living passes sound_is fit holds = by_case (is_changing (state_of stream) rec) fit where
  by_case : (due : Bool) → IsFitEvent (event.Stored (state_of stream) (bytes_in (state_of stream) rec) (cond due (Some (record { closed = pos (stamp_after last second); created = pos (stamp_after (stamp_after last second) second) })) None)) → IsRepeatable (calls_of_all (deeds_of (event.Stored (state_of stream) (bytes_in (state_of stream) rec) (cond due (Some (record { closed = pos (stamp_after last second); created = pos (stamp_after (stamp_after last second) second) })) None)))) files
  by_case false is =
      stored-again (state_of stream) (bytes_in (state_of stream) rec) (records_of stream) files is (are-records stream passes sound_is.count) (stands-amid front behind stream last files low are holds)
  by_case true is =
      let closing = stamp_after last second in
      let created = stamp_after closing second in
      changed-again (state_of stream) (bytes_in (state_of stream) rec) (record { closed = pos closing; created = pos created }) files is
      (rises-behind last closing created stream (omega arith) (omega arith) passes.some_rotated living sound_is)

stored-option : (past : List LogChange) (last second : ℕ) (rec : LogRecord) (test : Stream → Bool) (streams : List Stream) (found : Option Stream) (files : Files) → find (λ stream. lives stream && test stream) streams ≡ found → last ≤ 20000000100 → AreStamps last (stamps_of_all streams) → Each Passes streams → Each (IsSoundStream last) streams → AllByRecursion IsFitEvent (option_map_or (λ (stream : OpenStream). storing last second rec stream.state ∷ []) (option_map (open_stream past) found) []) → Holds streams files → IsRepeatable (calls_of_all (deeds_of_all (option_map_or (λ (stream : OpenStream). storing last second rec stream.state ∷ []) (option_map (open_stream past) found) []))) files
stored-option past last second rec test streams None files none low are passing sound_all fit holds = nothing-again files
stored-option past last second rec test streams (Some stream) files found low are passing sound_all fit holds =
    let there = amid (λ (s : Stream). lives s && test s) streams stream found in
    let unended = none_from stream.ended (and_parts (lives stream) (test stream) there.passes).0 in
    alone-again (storing last second rec (state_of stream)) files
    (storing-again there.front there.behind stream last second rec files low
    (subst (λ these. AreStamps last (stamps_of_all these)) there.whole are) unended
    (Each-amid Passes there.front there.behind stream (subst (Each Passes) there.whole passing))
    (Each-amid (IsSoundStream last) there.front there.behind stream (subst (Each (IsSoundStream last)) there.whole sound_all)) fit.0
    (subst (λ these. Holds these files) there.whole holds))

-- streams end

abbrev pub HaveStamps : ℕ → OpenStream → Type 0
HaveStamps last stream = AllByRecursion (IsStampUpTo (pos last)) (stamps_of stream.state.files)

kept-stamps : (setup : LogSetup) (past : List LogChange) → IsLogHistory setup past → AllByRecursion (HaveStamps (chronicle setup past).last) (table setup past).streams
kept-stamps setup past legal =
    let last = (chronicle setup past).last in
    let these = filter lives (chronicle setup past).streams in
    each-mapped (HaveStamps last) (open_stream past) these
    (each-weaker (IsLivingStream last (length past)) (λ stream. HaveStamps last (open_stream past stream))
    (λ stream is. fit-stamps last stream is.0.0.1.some_rotated (none_from stream.ended is.1) is.0.0.0) these (living-streams setup past legal))

ending-again : (last second : ℕ) (streams : List OpenStream) (files : Files) → AllByRecursion (HaveStamps last) streams → AllByRecursion IsFitEvent (ends_in last second streams) → IsRepeatable (calls_of_all (deeds_of_all (ends_in last second streams))) files
ending-again last second streams files stamps fit =
    ends-again last (ends_in last second streams) (late-ends last last second (omega arith) streams stamps fit) files

-- **the deeds of one more change**
pub change-again : (setup : LogSetup) (past : List LogChange) (change : LogChange) → IsLogHistory setup (change ∷ past) → CanStamp setup past (second_in change) → IsRepeatable (calls_of_all (deeds_by setup change past)) (disk_files setup past)
change-again setup past (Began client) legal can = nothing-again (disk_files setup past)
change-again setup past (Opened client opened None second number) legal can = nothing-again (disk_files setup past)
change-again setup past (Opened client opened (Some attrs) second number) legal can =
    let made = made_stream (new_stream opened attrs (stamp_after (chronicle setup past).last second)) in
    alone-again made (disk_files setup past) (made-again (new_state opened attrs (stamp_after (chronicle setup past).last second)) (disk_files setup past))
change-again setup past (Stored stored rec second) legal can =
    let now = chronicle setup past in
    let fit = events-fit setup past (Stored stored rec second) legal can in
    let found = find-living stored past now.streams in
    let P : Option OpenStream → Type 0 = λ kept. AllByRecursion IsFitEvent (option_map_or (λ (stream : OpenStream). storing now.last second rec stream.state ∷ []) kept []) in
    let Q : Option OpenStream → Type 0 = λ kept. IsRepeatable (calls_of_all (deeds_of_all (option_map_or (λ (stream : OpenStream). storing now.last second rec stream.state ∷ []) kept []))) (disk_files setup past) in
    subst Q (sym found)
    (stored-option past now.last second rec (λ (stream : Stream). same_name stream.name stored) now.streams (find (is_living stored) now.streams) (disk_files setup past) refl (omega (arith, can.last)) (stamped setup past) (reached setup past legal.1).passing (sound setup past legal.1) (subst P found fit) (disk-holds setup past))
change-again setup past (Filtered client filtered mask number) legal can = nothing-again (disk_files setup past)
change-again setup past (Closed client closed second) legal can =
    let last = (chronicle setup past).last in
    let kept = (table setup past).streams in
    ending-again last second (closed_streams client closed kept) (disk_files setup past)
    (each-change_first (HaveStamps last) (is_named closed) (without_opener client) (λ stream is. is) kept (kept-stamps setup past legal.1))
    (events-fit setup past (Closed client closed second) legal can)
change-again setup past (Ended client second) legal can =
    let last = (chronicle setup past).last in
    let kept = (table setup past).streams in
    ending-again last second (left_streams client kept) (disk_files setup past)
    (each-mapped (HaveStamps last) (without_opener client) kept (kept-stamps setup past legal.1))
    (events-fit setup past (Ended client second) legal can)

-- nothing is loose of the files of a history

option-settled : (found : Option (List ℕ)) (file : File) → option_map settled_file found ≡ Some file → IsSettled file
option-settled None file is = cc
option-settled (Some bytes) file is =
    let same : settled_file bytes ≡ file = cc in subst IsSettled same (record { loose = refl; settled = refl })

pub files-settled : (setup : Setup) (past : List Entry) → AllSettled (files_of setup past)
unfolding files_of
files-settled setup past name file is =
    let log = (past_of setup past).log in
    option-settled (found_in (chronicle (log_setup setup) log).streams name) file (sym (disk-holds (log_setup setup) log name) ∙ is)

-- entries

option-again : (setup : LogSetup) (past : List LogChange) (change : Option LogChange) → IsLogHistory setup (cons_option change past) → AreTimely (cons_option change past) → ((second : ℕ) → second ≤ 9000000000 → CanStamp setup past second) → IsRepeatable (calls_of_all (deeds_of_all (option_map_or (λ c. events_of c (table setup past)) change []))) (disk_files setup past)
option-again setup past None legal early can = nothing-again (disk_files setup past)
option-again setup past (Some change) legal early can = change-again setup past change legal (can (second_in change) early.0)

pub entry-again : (setup : Setup) (entry : Entry) (past : List Entry) → IsHistory setup (entry ∷ past) → IsRepeatable (calls_of_all (service.deeds_of setup past entry)) (files_of setup past)
unfolding service.deeds_of files_of
entry-again setup (Called client seq now call) past history =
    option-again (log_setup setup) (past_of setup past).log (log_change_by setup (past_of setup past) (Called client seq now call))
    (possible setup (Called client seq now call ∷ past) history).log (timely setup (Called client seq now call ∷ past) history)
    (λ second early. can-stamp setup past second history.1 history.0.0.few early)
entry-again setup (Receipted client key through now) past history = nothing-again (files_of setup past)
