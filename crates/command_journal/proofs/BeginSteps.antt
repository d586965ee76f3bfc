-- The start of a server and its journal.
use Rattle.std.proofs.Common.{◌≡◌, ℕ, ◌+◌, false, List, [], ◌∷◌, length, Option, Some, None, refl, ap, sym, subst, ◌∙◌, inl, inr, append-nil, arith}
use Rattle.std.specs.Prelude.{option_map, Ok}
use Rattle.disk_model.specs.Disk.{Files}
use Rattle.disk_model.specs.Counts.{lowered, passed}
use Rattle.disk_model.specs.DeviceCalls.{DeviceCall, all_applied, Performs}
use Rattle.disk_model.specs.declared.tally.Tally.{Tally}
use Rattle.stream_layout.specs.Deeds.{calls_of_all}
use Rattle.stream_layout.specs.declared.deed.Deed.{Deed}
use Rattle.wire.specs.declared.message.Message.{Message}
use Rattle.wire.specs.MessageSpelling.{MessageInRange, message_text}
use Rattle.wire.specs.SavedSpelling.{SavedReaderInRange, SavedSubInRange, SavedWindowInRange}
use Rattle.plain_service.specs.Values.{saved_of}
use Rattle.std.proofs.lemmas.List.Elements.{All-nil}
use Rattle.plain_service.specs.Setups.{Setup, CanBegin}
use Rattle.plain_service.specs.Storing.{files_of, opening_of}
use Rattle.plain_service.proofs.FilesLaws.{files-open}
use Rattle.service_laws.specs.PlainOf.{plain_of}
use Rattle.cluster_facts.specs.History.{Empty}
use Rattle.journal_frames.specs.Frames.{behind_gate, frame, framed, make_calls}
use Rattle.journal_frames.proofs.Frames.{length-body}
use Rattle.journal_found.specs.Found.{CanJoin, JournalOf}
use Rattle.journal_found.proofs.Chains.{journal-made}
use Rattle.journal_start.specs.declared.journal.Journal.{Journal}
use Rattle.journal_start.specs.Journals.{PerformsOrLacks, made_of}
use Rattle.played_runs.specs.Views.{HoldsNone}
use Rattle.group_cluster.specs.Seats.{Clear}
use Rattle.cold_cluster.proofs.Coming.{start-steady}
use Rattle.cold_servers.specs.ColdNodes.{active_by, journal_by}
use Rattle.cold_servers.specs.ColdSeen.{ColdSeen, LeavesTold}
use Rattle.command_journal.specs.declared.world.ColdWorld.{ColdWorld}
use Rattle.command_journal.specs.Beginning.{Begun, calls_of_make, start_of}
use Rattle.command_journal.specs.Starting.{first_message, world_of}
use Rattle.command_journal.specs.Worlds.{IsGood, Shows}

-- The world.

good-start : (setup : Setup) (places : ℕ) → CanBegin setup → IsGood setup (start_of setup places)
good-start setup places begins = record {
  begins = begins;
  steady = start-steady (plain_of setup) setup.start places;
  range = tt;
  moment = begins.start;
}

-- the journal of one text ends behind its frame
made-end : (text : List ℕ) → 5 + length text ≡ length (framed (text ∷ []))
made-end text =
    let body = length-body text in
    let whole : 5 + length text ≡ length (frame text) = omega (arith, body) in
    whole ∙ ap length (sym (append-nil (frame text)))

shows-start : (setup : Setup) (places : ℕ) → Shows setup (start_of setup places) (world_of (active_by setup [] Empty) (journal_by setup []) setup.start places)
shows-start setup places = record {
  own = refl;
  net = tt;
  agents = record { shown = refl; rising = tt; listed = λ client. inr refl };
  history = refl;
  now = refl;
  callbacks = refl;
}

-- its value can be spelled
pub first-in-range : (setup : Setup) → MessageInRange (first_message setup)
unfolding saved_of
first-in-range setup = record {
  windows = All-nil SavedWindowInRange;
  subs = All-nil SavedSubInRange;
  readers = All-nil SavedReaderInRange;
}

-- What the disks hold.

files-start : (setup : Setup) (held left : Option Files) → CanBegin setup → HoldsNone held → left ≡ option_map (all_applied (calls_of_all (opening_of setup))) held → LeavesTold (λ files. files ≡ files_of setup []) held left
files-start setup None left begins none done = done
files-start setup (Some files) left begins none done =
    (all_applied (calls_of_all (opening_of setup)) files, done, ap (all_applied (calls_of_all (opening_of setup))) none ∙ files-open setup begins)

journal-start : (setup : Setup) (held left : Option Files) → CanJoin (first_message setup) → left ≡ option_map (all_applied (calls_of_make setup)) held → LeavesTold (JournalOf setup []) held left
journal-start setup None left can done = done
journal-start setup (Some files) left can done = (all_applied (calls_of_make setup) files, done, journal-made setup files can)

-- calls that are done leave a disk unarmed that was
passed-unarmed : (count : ℕ) (before after : Tally) → after ≡ passed count before → before.armed ≡ None → after.armed ≡ None
passed-unarmed count before after is unarmed = ap (λ (t : Tally). t.armed) is ∙ ap (lowered count) unarmed

-- calls that came to their end were made
pub performs-done : (T : Type 0) (done : T) (calls : List DeviceCall) (old new : Option Files) (before after : Tally) → PerformsOrLacks calls (Ok done) old new before after → Performs {T = T} calls (Ok done) old new before after
performs-done T done calls old new before after (inl none) = cc
performs-done T done calls old new before after (inr some) = some

-- **the start was done**
pub begun : (setup : Setup) (places : ℕ) (deeds : List Deed) (text : List ℕ) (held left : ColdSeen) (world : ColdWorld) (snapshot : Message) (made : Journal) → CanBegin setup → world ≡ world_of (active_by setup [] Empty) made setup.start places → snapshot ≡ first_message setup → deeds ≡ opening_of setup → made ≡ made_of (message_text snapshot) → CanJoin snapshot → HoldsNone held.disk.files → Performs {T = Unit {0}} (calls_of_all deeds) (Ok tt) held.disk.files left.disk.files held.disk.tally left.disk.tally → Performs (make_calls (behind_gate (message_text snapshot))) (Ok made) held.journal.files left.journal.files held.journal.tally left.journal.tally → held.disk.tally.armed ≡ None → held.journal.tally.armed ≡ None → Begun setup places held left world
begun setup places deeds text held left world snapshot made begins is first are made_is can none done joined unarmed unarmed_too =
    let M : Message → Type 0 = λ m. Performs (make_calls (behind_gate (message_text m))) (Ok made) held.journal.files left.journal.files held.journal.tally left.journal.tally in
    let kept = subst M first joined in
    let journal : made ≡ journal_by setup [] =
    made_is ∙ ap (λ (m : Message). made_of (message_text m)) first
    ∙ ap (λ (end : ℕ). record { end = end; number = 0 }) (made-end (message_text (first_message setup)))
    in
    let files : left.disk.files ≡ option_map (all_applied (calls_of_all (opening_of setup))) held.disk.files =
    done.0 ∙ ap (λ (d : List Deed). option_map (all_applied (calls_of_all d)) held.disk.files) are
    in
    record {
      good = good-start setup places begins;
      shows =
          subst (Shows setup (start_of setup places)) (sym (is ∙ ap (λ (j : Journal). world_of (active_by setup [] Empty) j setup.start places) journal))
          (shows-start setup places);
      count = record {
        disk = passed-unarmed (length (calls_of_all deeds)) held.disk.tally left.disk.tally done.1.1 unarmed;
        journal = passed-unarmed (length (make_calls (behind_gate (message_text snapshot)))) held.journal.tally left.journal.tally joined.1.1 unarmed_too;
        left = (tt, tt);
      };
      leaves = record {
        beside = record { acting = refl; mark = Clear; keeps = false; seats = refl; unarmed = refl };
        disk = files-start setup held.disk.files left.disk.files begins none files;
        journal = journal-start setup held.journal.files left.journal.files (subst CanJoin first can) kept.0;
      };
    }
