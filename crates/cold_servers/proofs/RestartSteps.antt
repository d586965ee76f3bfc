-- A start of the server that is down: what it comes to, by the answers of what it calls.
use Rattle.std.proofs.Common.{◌≡◌, ◌⊎◌, inl, inr, ℕ, Bool, true, false, ◌||◌, Option, Some, None, option_map, List, [], ◌∷◌, ◌++◌, length, refl, ap, sym, subst, ◌∙◌, arith, append-nil, length-append}
use Rattle.std.specs.Prelude.{is_some, reverse, IfSome, IsSome, IsErrOf, Result, Ok, Err}
use Rattle.std.specs.FinMap.{get}
use Rattle.std.specs.Option.{option_map_or}
use Rattle.std.proofs.lemmas.List.{reverse-reverse}
use Rattle.calls.specs.History.{Pushed}
use Rattle.disk_model.specs.DeviceCalls.{DeviceCall, LeftOn, all_applied, applied}
use Rattle.disk_model.specs.Disk.{File, Files}
use Rattle.disk_model.specs.declared.answers.DiskAnswer.{DiskAnswer}
use Rattle.disk_model.specs.declared.answers.DiskAnswer.TheVariants as disk
use Rattle.script_lines.specs.declared.line.Line.TheVariants as line
use Rattle.script_lines.specs.declared.line.Server.TheVariants.{A}
use Rattle.stream_layout.specs.Deeds.{calls_of_all}
use Rattle.plain_service.specs.Legal.{IsHistory}
use Rattle.plain_service.specs.Setups.{Setup}
use Rattle.plain_service.specs.Storing.{deeds_of}
use Rattle.service_laws.specs.Disks.{service_disk}
use Rattle.service_laws.specs.PlainOf.{plain_of}
use Rattle.service_laws.specs.StorageOf.{storage_of}
use Rattle.service_laws.proofs.HistoryLaws.{history-of}
use Rattle.service_laws.proofs.ServiceLaws.{is_plain}
use Rattle.service_laws.proofs.EndsKept.{whole-attempt}
use Rattle.cluster_facts.specs.Types.{Entry}
use Rattle.cluster_facts.specs.History.{Hand, Empty, Waiting, Applied, Ready, accepted, accepted_by, committed, committed_by}
use Rattle.cluster_facts.specs.Storage.{Attempt, Between}
use Rattle.cluster_facts.specs.Storage.Attempts.{more as one_more_attempt}
use Rattle.cluster_events.specs.Outcomes.{Outcome, quietly}
use Rattle.cluster_events.specs.Running.{Shelf}
use Rattle.cluster_events.specs.Servers.{State}
use Rattle.journal_frames.specs.Frames.{HasFile, IsShort, journal_name, journal_of}
use Rattle.journal_frames.specs.Staging.{HasStaged, Keeps}
use Rattle.wire.specs.MessageSpelling.{message_text}
use Rattle.journal_found.specs.Found.{Follower, Found, JournalOf, follower_of, last_deeds, messages_of, next_message, texts_of}
use Rattle.journal_found.specs.Joining.{IsHistoryFound, JournalStaged}
use Rattle.journal_found.proofs.Chains.{chain-of, staged-finds}
use Rattle.journal_found.proofs.Telling.{found-journal, found-refused}
use Rattle.journal_start.specs.Arms.{StopsByArms}
use Rattle.journal_start.specs.Starts.{HoldsNone, IsRefusedIn, RoseByEither, TriesDeeds, bytes_in}
use Rattle.journal_start.specs.declared.cold.ColdAnswer.{ColdAnswer}
use Rattle.journal_start.specs.declared.cold.ColdAnswer.TheVariants.{Memory, Failed, Stopped, NoJournal, Refused}
use Rattle.mirror.specs.Pairing.{deeds_kept}
use Rattle.cluster_rounds.specs.declared.cluster.Cluster.{Cluster}
use Rattle.cluster_rounds.specs.Broken.{Broken}
use Rattle.cluster_rounds.specs.Kits.{device_by}
use Rattle.cluster_rounds.specs.PartlyDone.{SaysUnasked}
use Rattle.cluster_rounds.specs.Worlds.{IsGood, Shows}
use Rattle.cluster_rounds.proofs.BrokenSteps.{nothing-broken, whole-broken}
use Rattle.cluster_lines.specs.Playing.{LineEnded}
use Rattle.cluster_lines.specs.Shelves.{shelf_at, shelf_of}
use Rattle.cold_cluster.specs.Cold.{Alone}
use Rattle.group_cluster.proofs.Saying.{says-borne}
use Rattle.cold_cluster.specs.Ended.{EndsBy}
use Rattle.cold_cluster.specs.Falling.{Restarts}
use Rattle.cold_cluster.specs.Falling.Restarts.{as_was, one_more}
use Rattle.cold_cluster.specs.Lines.{HappensBy}
use Rattle.cold_cluster.proofs.Coming.{restart-keeps}
use Rattle.lead_rounds.proofs.GroupSteps.{unasked-borne}
use Rattle.lone_server.specs.declared.lone.Lone.{Lone}
use Rattle.lone_server.specs.Restarting.{ComesBack, LeavesFound}
use Rattle.cold_servers.specs.declared.solo.Solo.{Solo}
use Rattle.cold_servers.specs.ColdCounts.{CameBack, StartFails, Stood}
use Rattle.cold_servers.specs.ColdKit.{cold_kit, cold_script}
use Rattle.cold_servers.specs.ColdLaws.{cold_laws, files-between}
use Rattle.cold_servers.specs.ColdNodes.{IsFallen, OwnBy}
use Rattle.cold_servers.specs.ColdSeen.{ColdSeen, HoldsFiles, HoldsJournal, JournalBetween, LeavesTold, TellsBoth}
use Rattle.cold_servers.specs.Down.{BetweenFound, CountsStart, FilesFound, IsFound, JournalFound, PlayedDown, PlaysRestart, RestartBreaks, restart_kit}
use Rattle.cold_servers.specs.Steps.{AllDown}
use Rattle.cold_servers.proofs.ArmSteps.{armed-kept, kept-told}
use Rattle.cold_servers.proofs.BackState.{BackAt, KeepsStaged, comes-back, more-redo, staged-found, still-told, whole-found, whole-staged}

-- What came of it that is done.

-- some shelf is that of the files that the disk tells
pub told-shelf : (setup : Setup) (held : Option Files) → (shelf : Shelf) × IfSome held (λ files. shelf ≡ shelf_at files)
told-shelf setup None = (shelf_of setup, tt)
told-shelf setup (Some files) = (shelf_at files, refl)

while-down : (setup : Setup) (shelf : Shelf) (state : State Alone) (outcome : Outcome (State Alone)) → state.peers.up ≡ false → Restarts state outcome → HappensBy state.peers.up (plain_of setup) shelf (device_by setup (λ number. 0)) (line.Restart A) state outcome
while-down setup shelf state outcome down restarts =
    subst (λ (b : Bool). HappensBy b (plain_of setup) shelf (device_by setup (λ number. 0)) (line.Restart A) state outcome) (sym down) restarts

back-up : (state : State Alone) (outcome : Outcome (State Alone)) → Restarts state outcome → outcome.state.peers.up ≡ true
back-up state outcome as_was = refl
back-up state outcome (one_more entry waits) = refl

pub back-played : (setup : Setup) (state : State Alone) (new : Cluster Solo) (before between after : List (List ℕ)) (held left : ColdSeen) (outcome : Outcome (State Alone)) → state.peers.up ≡ false → BackAt setup state new [] between held left outcome → after ≡ before ++ between → Stood held left → PlayedDown setup state (line.Restart A) new before after held left
back-played setup state new before between after held left outcome down back lines stood =
    let shelf = told-shelf setup held.disk.files in
    let up = back-up state outcome back.restarts in
    record {
      shelf = shelf.0;
      shelf_is = shelf.1;
      outcome = outcome;
      leads = while-down setup shelf.0 state outcome down back.restarts;
      uses = record {
        never = λ number. refl;
        counts = λ beside. came-back state.peers.up outcome.state.peers.up down up;
      };
      is = (back.happened.0, back.happened.1, lines ∙ ap (λ (l : List (List ℕ)). before ++ l) back.happened.2);
      count = back.count;
      files = λ tells. back.leaves;
    }
  where
    came-back : (old now : Bool) → old ≡ false → now ≡ true → CameBack old now held left
    came-back false true is_down is_up = stood
    came-back true now is_down is_up = cc
    came-back false false is_down is_up = cc

-- Counts.

pub both-stood : (answer : Result (Unit {0}) ColdAnswer) (held left : ColdSeen) → RoseByEither held.journal.faults left.journal.faults held.disk.faults left.disk.faults answer Failed → RoseByEither held.journal.stops left.journal.stops held.disk.stops left.disk.stops answer Stopped → (IsErrOf answer Failed → ⊥) → (IsErrOf answer Stopped → ⊥) → Stood held left
both-stood (Ok x) held left cause stop faultless stopless = record { faults = cause.stands.1; stops = stop.stands.1; journal_faults = cause.stands.0; journal_stops = stop.stands.0 }
both-stood (Err answer) held left cause stop faultless stopless =
    let faults : (left.journal.faults ≡ held.journal.faults) × (left.disk.faults ≡ held.disk.faults) = elim cause.stands [ inl is ↦ absurd (faultless (λ i. Err (is i))) | inr same ↦ same ] in
    let stops : (left.journal.stops ≡ held.journal.stops) × (left.disk.stops ≡ held.disk.stops) = elim stop.stands [ inl is ↦ absurd (stopless (λ i. Err (is i))) | inr same ↦ same ] in
    record { faults = faults.1; stops = stops.1; journal_faults = faults.0; journal_stops = stops.0 }

-- Where it was not done the deeds of the last entry that was found may have been tried again.

attempt-front : (done rest : List DeviceCall) (old new : Files) → Attempt service_disk rest (all_applied done old) new → Attempt service_disk (done ++ rest) old new
attempt-front [] rest old new attempt = attempt
attempt-front (call ∷ done) rest old new attempt = inr (inr (attempt-front done rest (applied call old) new attempt))

attempt-undone : (answer : DiskAnswer) (call : DeviceCall) (calls : List DeviceCall) (old new : Files) → LeftOn answer call old new → Attempt service_disk (call ∷ calls) old new
attempt-undone disk.Memory call calls old new same = inl same
attempt-undone disk.Failed call calls old new left = inr (inl (inl left))
attempt-undone disk.Stopped call calls old new left = inr (inl (inr left))

-- another attempt
again-between : (setup : Setup) (past : List Entry) (entry : Entry) (old new : Files) → Between service_disk (storage_of setup) (entry ∷ past) old → Attempt service_disk (calls_of_all (deeds_of setup past entry)) old new → Between service_disk (storage_of setup) (entry ∷ past) new
again-between setup past entry old new between attempt = one_more_attempt between attempt

tried-between : (setup : Setup) (found : List Entry) (held left : Option Files) (P : Files → Type 0) → ((files : Files) → P files → Between service_disk (storage_of setup) found files) → TriesDeeds (deeds_kept (last_deeds setup found)) held left → IfSome held P → LeavesTold (Between service_disk (storage_of setup) found) held left
tried-between setup [] held left P can tries holds =
    let whole : 0 ≡ length (tries.2.done ++ tries.2.broken ∷ tries.2.undone) = ap length tries.2.in_order in
    let parts = length-append tries.2.done (tries.2.broken ∷ tries.2.undone) in
    absurd (omega (arith, whole, parts))
tried-between setup (entry ∷ past) None None P can tries holds = refl
tried-between setup (entry ∷ past) None (Some files) P can tries holds = absurd tries.2.left
tried-between setup (entry ∷ past) (Some files) None P can tries holds = absurd tries.2.left
tried-between setup (entry ∷ past) (Some files) (Some left) P can tries holds =
    let broke = tries.2 in
    let calls = calls_of_all (deeds_of setup past entry) in
    let T : List DeviceCall → Type 0 = λ c. Attempt service_disk c files left in
    let last = attempt-undone tries.0 broke.broken broke.undone (all_applied broke.done files) left broke.left in
    (left, refl, again-between setup past entry files left (can files holds) (subst T (sym broke.in_order) (attempt-front broke.done (broke.broken ∷ broke.undone) files left last)))

done-between : (setup : Setup) (found : List Entry) (held left : Option Files) (P : Files → Type 0) → ((files : Files) → P files → Between service_disk (storage_of setup) found files) → left ≡ option_map (all_applied (calls_of_all (deeds_kept (last_deeds setup found)))) held → IfSome held P → LeavesTold (Between service_disk (storage_of setup) found) held left
done-between setup found None left P can is holds = is
done-between setup [] (Some files) left P can is holds = (files, is, can files holds)
done-between setup (entry ∷ past) (Some files) left P can is holds =
    let calls = calls_of_all (deeds_of setup past entry) in
    (all_applied calls files, is, again-between setup past entry files (all_applied calls files) (can files holds) (whole-attempt calls files))

-- by which history was found
leaves-as : (P Q : Files → Type 0) (held left : Option Files) → ((files : Files) → P files → Q files) → LeavesTold P held left → LeavesTold Q held left
leaves-as P Q None left step leaves = leaves
leaves-as P Q (Some held) left step leaves = (leaves.0, leaves.1, step leaves.0 leaves.2)

module _ (setup : Setup) (state : State Alone) (old : Cluster Solo) (held left : ColdSeen) (journal : Files) (good : IsGood cold_kit setup state) (told : held.journal.files ≡ Some journal) (tells : TellsBoth setup state held) (down : state.peers.up ≡ false) (keeps : KeepsStaged held.journal.files left.journal.files) where
  abbrev past : List Entry
  past = state.world.core.answered

  abbrev hand : Hand
  hand = state.world.core.hand

  abbrev F : List Entry → Files → Type 0
  F found files = Between service_disk (storage_of setup) found files

  abbrev Goes : Type 0
  Goes = LeavesTold (FilesFound setup (committed_by past hand)) held.disk.files left.disk.files

  files-held : IfSome held.disk.files (HoldsFiles false setup past hand)
  files-held = subst (λ (b : Bool). IfSome held.disk.files (HoldsFiles b setup past hand)) down tells.disk

  journal-held : HoldsJournal false setup past hand journal
  journal-held =
      subst (λ (h : Option Files). IfSome h (HoldsJournal false setup past hand)) told
      (subst (λ (b : Bool). IfSome held.journal.files (HoldsJournal b setup past hand)) down tells.journal)

  legal : IsHistory setup (accepted state.world.core)
  legal = history-of setup good.begins state.world.now (accepted state.world.core) good.steady.sound.facts.legal good.range

  between-held : (files : Files) → HoldsFiles false setup past hand files → F (committed_by past hand) files
  between-held files holds = files-between false setup state.world hand files good.begins good.steady.sound good.range refl holds

  -- nothing was done
  alone-found : left.disk.files ≡ held.disk.files → Goes
  alone-found same =
      leaves-as (HoldsFiles false setup past hand) (FilesFound setup (committed_by past hand)) held.disk.files left.disk.files (λ files holds. inl (between-held files holds))
      (kept-told (HoldsFiles false setup past hand) held.disk.files left.disk.files same files-held)

  -- the deeds of this history's last entry were tried, or done
  abbrev Redone : Follower → Type 0
  Redone follower = TriesDeeds (deeds_kept follower.kept) held.disk.files left.disk.files ⊎ (left.disk.files ≡ option_map (all_applied (calls_of_all (deeds_kept follower.kept))) held.disk.files)

  redone-found : (found : List Entry) (follower : Follower) → follower ≡ follower_of setup found → ((files : Files) → HoldsFiles false setup past hand files → F found files) → Redone follower → LeavesTold (F found) held.disk.files left.disk.files
  redone-found found follower is can redone = elim (subst Redone is redone) [
    | inl tries ↦ tried-between setup found held.disk.files left.disk.files (HoldsFiles false setup past hand) can tries files-held
    | inr done ↦ done-between setup found held.disk.files left.disk.files (HoldsFiles false setup past hand) can done files-held
  ]

  -- what was committed was found, or the entry that waited too
  was-found : (late : List Entry) (follower : Follower) (bytes : List ℕ) (found : Found bytes late follower) → IsHistoryFound setup (committed_by past hand) found → Redone follower → Goes
  was-found late follower bytes found is redone =
      leaves-as (F (committed_by past hand)) (FilesFound setup (committed_by past hand)) held.disk.files left.disk.files (λ files between. inl between)
      (redone-found (committed_by past hand) follower is.server between-held redone)

  by-hand : (now : Hand) → hand ≡ now → IsHistory setup (accepted_by past now) → HoldsJournal false setup past now journal → (late : List Entry) (follower : Follower) (bytes : List ℕ) (found : Found bytes late follower) → Some bytes ≡ bytes_in journal → Redone follower → Goes
  by-hand now is now_legal holds late follower bytes found read redone = go now is now_legal holds
    where
      whole : (history : List Entry) → committed_by past hand ≡ history → IsHistory setup history → JournalOf setup history journal → Goes
      whole history same is_history has =
          was-found late follower bytes found
          (subst (λ (h : List Entry). IsHistoryFound setup h found) (sym same) (whole-found setup history journal bytes late follower found is_history has read)) redone

      more : (entry : Entry) → hand ≡ Waiting entry → IsHistory setup (entry ∷ past) → IsHistoryFound setup (entry ∷ past) found → Goes
      more entry waits is_history found_so =
          let same : past ≡ committed_by past hand = ap (committed_by past) (sym waits) in
          let H : Hand → Type 0 = λ h. (files : Files) → HoldsFiles false setup past h files → F (entry ∷ past) files in
          let can : H hand = subst H (sym waits) (λ files holds. (more-redo setup past entry files holds).0) in
          let leaves = redone-found (entry ∷ past) follower found_so.server can redone in
          let G : List Entry → Type 0 = λ h. LeavesTold (FilesFound setup h) held.disk.files left.disk.files in
          subst G same (leaves-as (F (entry ∷ past)) (FilesFound setup past) held.disk.files left.disk.files (λ files between. inr (entry, is_history, between)) leaves)

      go : (now : Hand) → hand ≡ now → IsHistory setup (accepted_by past now) → HoldsJournal false setup past now journal → Goes
      go Empty is now_legal holds = whole past (ap (committed_by past) is) now_legal holds
      go (Waiting entry) is now_legal (inl has) = whole past (ap (committed_by past) is) now_legal.1 has
      go (Waiting entry) is now_legal (inr staged) = elim (staged-found setup past entry journal bytes late follower found now_legal staged read) [
        | inl found_so ↦ was-found late follower bytes found (subst (λ (h : List Entry). IsHistoryFound setup h found) (ap (committed_by past) (sym is)) found_so) redone
        | inr found_so ↦ more entry is now_legal found_so
      ]
      go (Applied entry) is now_legal holds = whole (entry ∷ past) (ap (committed_by past) is) now_legal holds
      go (Ready entry) is now_legal holds = whole (entry ∷ past) (ap (committed_by past) is) now_legal holds

  -- what is found is a history
  pub found-so : (late : List Entry) (follower : Follower) (bytes : List ℕ) (found : Found bytes late follower) → Some bytes ≡ bytes_in journal → (history : List Entry) × IsHistoryFound setup history found
  found-so late follower bytes found read = go hand refl legal journal-held
    where
      go : (now : Hand) → hand ≡ now → IsHistory setup (accepted_by past now) → HoldsJournal false setup past now journal → (history : List Entry) × IsHistoryFound setup history found
      go Empty is now_legal holds = (past, whole-found setup past journal bytes late follower found now_legal holds read)
      go (Waiting entry) is now_legal (inl has) = (past, whole-found setup past journal bytes late follower found now_legal.1 has read)
      go (Waiting entry) is now_legal (inr staged) = elim (staged-found setup past entry journal bytes late follower found now_legal staged read) [
        | inl found_so ↦ (past, found_so)
        | inr found_so ↦ (entry ∷ past, found_so)
      ]
      go (Applied entry) is now_legal holds = (entry ∷ past, whole-found setup (entry ∷ past) journal bytes late follower found now_legal holds read)
      go (Ready entry) is now_legal holds = (entry ∷ past, whole-found setup (entry ∷ past) journal bytes late follower found now_legal holds read)

  abbrev Read : List ℕ → Type 0
  Read bytes = IfSome held.journal.files (λ files. Some bytes ≡ bytes_in files)

  read-so : (bytes : List ℕ) → Read bytes → Some bytes ≡ bytes_in journal
  read-so bytes read = subst (λ (h : Option Files). IfSome h (λ files. Some bytes ≡ bytes_in files)) told read

  files-left : LeavesFound held.journal.files held.disk.files left.disk.files → Goes
  files-left leaves = elim leaves [
    | inl tries ↦ elim tries [
      | inl same ↦ alone-found same
      | inr some ↦ by-hand hand refl legal journal-held some.1 some.2 some.0 some.4 (read-so some.0 some.3) (inl some.5)
    ]
    | inr done ↦ by-hand hand refl legal journal-held done.1 done.2 done.0 done.4 (read-so done.0 done.3) (inr done.5)
  ]

  -- The journal can be started from again.

  kept-staged : (history : List Entry) → committed_by past hand ≡ history → JournalOf setup history journal → LeavesTold (JournalFound setup (committed_by past hand)) held.journal.files left.journal.files
  kept-staged history same has =
      let texts = texts_of (messages_of setup history) in
      let K : Option Files → Type 0 = λ h. Keeps (HasStaged texts []) (HasStaged texts []) h left.journal.files in
      let still = still-told (HasStaged texts []) journal left.journal.files (subst K told (keeps texts [] has.has.short (omega arith))) (whole-staged setup history [] journal has) in
      let all : (text : List ℕ) → IsShort text → HasStaged texts text still.0 =
      λ text short.
      let K : Option Files → Option Files → Type 0 = λ h l. Keeps (HasStaged texts text) (HasStaged texts text) h l in
      let kept : K (Some journal) (Some still.0) = subst (λ l. K (Some journal) l) still.1 (subst (λ h. K h left.journal.files) told (keeps texts text has.has.short short)) in
      kept (whole-staged setup history text journal has)
      in
      let J : Option Files → Type 0 = λ h. LeavesTold (JournalFound setup (committed_by past hand)) h left.journal.files in
      let S : List Entry → Type 0 = λ h. JournalFound setup h still.0 in
      subst J (sym told) (still.0, still.1, subst S (sym same) (inr all))

  journal-left : LeavesTold (JournalFound setup (committed_by past hand)) held.journal.files left.journal.files
  journal-left = go hand refl legal journal-held
    where
      go : (now : Hand) → hand ≡ now → IsHistory setup (accepted_by past now) → HoldsJournal false setup past now journal → LeavesTold (JournalFound setup (committed_by past hand)) held.journal.files left.journal.files
      go Empty is now_legal holds = kept-staged past (ap (committed_by past) is) holds
      go (Waiting entry) is now_legal (inl has) = kept-staged past (ap (committed_by past) is) has
      go (Waiting entry) is now_legal (inr staged) =
          let texts = texts_of (messages_of setup past) in
          let text = message_text (next_message past entry) in
          let K : Option Files → Type 0 = λ h. Keeps (HasStaged texts text) (HasStaged texts text) h left.journal.files in
          let kept : K (Some journal) = subst K told (keeps texts text staged.short staged.joins.1) in
          let still = still-told (HasStaged texts text) journal left.journal.files kept staged.has in
          let after : HasStaged texts text still.0 = subst (λ l. Keeps (HasStaged texts text) (HasStaged texts text) (Some journal) l) still.1 kept staged.has in
          let now_staged : JournalStaged setup past entry still.0 = record { fits = staged.fits; short = staged.short; joins = staged.joins; has = after } in
          let J : Option Files → Type 0 = λ h. LeavesTold (JournalFound setup (committed_by past hand)) h left.journal.files in
          let S : Hand → Type 0 = λ h. JournalFound setup (committed_by past h) still.0 in
          subst J (sym told) (still.0, still.1, subst S (sym is) (inl (inr (entry, now_legal, inl now_staged))))
      go (Applied entry) is now_legal holds = kept-staged (entry ∷ past) (ap (committed_by past) is) holds
      go (Ready entry) is now_legal holds = kept-staged (entry ∷ past) (ap (committed_by past) is) holds

  pub found-between : LeavesFound held.journal.files held.disk.files left.disk.files → BetweenFound setup (committed state.world.core) held left
  found-between leaves = record { disk = files-left leaves; journal = journal-left }

-- A journal that the disk tells is found.

record Told (files : Files) : Type 0 where
  pub bytes : List ℕ
  pub read : bytes_in files ≡ Some bytes
  pub late : List Entry
  pub follower : Follower
  pub found : Found bytes late follower

whole-told : (setup : Setup) (past : List Entry) (files : Files) → IsHistory setup past → JournalOf setup past files → Told files
whole-told setup past files legal has = record {
  bytes = journal_of (texts_of (messages_of setup past));
  read = ap (λ (found : Option File). option_map (λ (file : File). file.bytes) found) has.has.stands;
  late = past;
  follower = follower_of setup past;
  found = record {
    messages = messages_of setup past;
    fits = has.fits;
    chain = chain-of setup past legal;
    holds = record { short = has.has.short; gate = 0; behind = []; is = refl; closed = λ is. cc };
  };
}

staged-told : (setup : Setup) (past : List Entry) (entry : Entry) (files : Files) → IsHistory setup (entry ∷ past) → JournalStaged setup past entry files → Told files
staged-told setup past entry files legal staged =
    let finds = staged-finds setup past entry files legal staged in
    let read : bytes_in files ≡ Some finds.0.bytes = ap (λ (found : Option File). option_map (λ (file : File). file.bytes) found) finds.1 in
    elim finds.2 [
      | inl found ↦ record { bytes = finds.0.bytes; read = read; late = past; follower = follower_of setup past; found = found }
      | inr found ↦ record { bytes = finds.0.bytes; read = read; late = entry ∷ past; follower = follower_of setup (entry ∷ past); found = found }
    ]

hand-told : (setup : Setup) (past : List Entry) (hand : Hand) (files : Files) → IsHistory setup (accepted_by past hand) → HoldsJournal false setup past hand files → Told files
hand-told setup past Empty files legal holds = whole-told setup past files legal holds
hand-told setup past (Waiting entry) files legal (inl has) = whole-told setup past files legal.1 has
hand-told setup past (Waiting entry) files legal (inr staged) = staged-told setup past entry files legal staged
hand-told setup past (Applied entry) files legal holds = whole-told setup (entry ∷ past) files legal holds
hand-told setup past (Ready entry) files legal holds = whole-told setup (entry ∷ past) files legal holds

never-none : (files : Files) → Told files → HoldsNone (bytes_in files) → ⊥
never-none files told none =
    let is = subst HoldsNone told.read none in
    let some = found-journal told.bytes told.late told.follower told.found in
    let no : true ≡ false = sym some ∙ is in cc

never-refused : (files : Files) (place : ℕ) → Told files → IsRefusedIn (bytes_in files) place → ⊥
never-refused files place told refused = found-refused told.bytes place told.late told.follower told.found (subst (λ (b : Option (List ℕ)). IsRefusedIn b place) told.read refused)

-- Of a start that was not done.

some-told : (held : Option Files) → IsSome held → (files : Files) × (held ≡ Some files)
some-told None some = cc
some-told (Some files) some = (files, refl)

module _ (old new : Cluster Solo) (before after : List (List ℕ)) (held left : ColdSeen) (down : AllDown old) (same : new ≡ old) (keeps : KeepsStaged held.journal.files left.journal.files) (leaves : LeavesFound held.journal.files held.disk.files left.disk.files) (unarmed_disk : held.disk.tally.armed ≡ None → left.disk.tally.armed ≡ None) (unarmed_journal : held.journal.tally.armed ≡ None → left.journal.tally.armed ≡ None) where
  fallen-so : (setup : Setup) (state : State Alone) → IsGood cold_kit setup state → Shows cold_kit setup state old → IsFallen state.peers old.servers.lone
  fallen-so setup state good shows =
      subst (λ (b : Bool). OwnBy b setup state.world.core.answered state.world.core.hand state.peers old.servers.lone) (down setup state good shows) shows.own

  between-so : (setup : Setup) (state : State Alone) → IsGood cold_kit setup state → Shows cold_kit setup state old → IsSome held.journal.files → TellsBoth setup state held → BetweenFound setup (committed state.world.core) held left
  between-so setup state good shows some tells =
      let told = some-told held.journal.files some in
      found-between setup state old held left told.0 good told.1 tells (down setup state good shows) keeps leaves

  -- want of memory
  pub lacks-start : (setup : Setup) (state : State Alone) → IsGood cold_kit setup state → Shows cold_kit setup state old → cold_kit.Armed state.peers held → TellsBoth setup state held → IsSome held.journal.files → Broken restart_kit setup state held left new
  lacks-start setup state good shows count tells some =
      let fallen = fallen-so setup state good shows in
      let B : Cluster Solo → Type 0 = λ w. Broken restart_kit setup state held left w in
      let first = nothing-broken cold_kit cold_laws setup state held old good shows.net shows.agents shows.history shows.now (armed-kept setup state old old.servers held held shows refl refl refl) in
      let disk = unarmed_disk (count.disk ∙ fallen.armed) in
      let journal = unarmed_journal (count.journal ∙ fallen.beside) in
      subst B (sym same) (record {
        rest = first.rest;
        unseen = first.unseen;
        tells = first.tells;
        holds = first.holds;
        deals = first.deals;
        asked = first.asked;
        fed = first.fed;
        times = first.times;
        stays = first.stays;
        net = first.net;
        agents = first.agents;
        history = first.history;
        now = first.now;
        armed = λ armed. fallen.down.armed ∙ (λ i. is_some (sym disk i) || is_some (sym journal i));
        files = λ told. subst (λ (past : List Entry). BetweenFound setup past held left) (sym shows.history ∙ first.history) (between-so setup state good shows some told);
      })

  -- a fault
  pub fails-start : (setup : Setup) (state : State Alone) → IsGood cold_kit setup state → Shows cold_kit setup state old → cold_kit.Armed state.peers held → TellsBoth setup state held → IsSome held.journal.files → after ≡ before → StartFails held left → LineEnded restart_kit cold_script setup state (line.Restart A) new before after held left
  fails-start setup state good shows count tells some lines fails =
      let fallen = fallen-so setup state good shows in
      let L : Cluster Solo → Type 0 = λ w. LineEnded restart_kit cold_script setup state (line.Restart A) w before after held left in
      subst L (sym same) (record {
        happened = λ number. 0;
        end = quietly state;
        ends = subst (λ (b : Bool). EndsBy b (plain_of setup) (device_by setup (λ number. 0)) (line.Restart A) state (quietly state)) (sym (down setup state good shows)) refl;
        faults = record { never = λ number. refl; counts = λ beside. fails };
        good = record { begins = good.begins; steady = good.steady; range = good.range; moment = good.moment };
        says = (says-borne (plain_of setup)).same state.world;
        fell = record { down = fallen.down; disk = unarmed_disk (count.disk ∙ fallen.armed); journal = unarmed_journal (count.journal ∙ fallen.beside) };
        net = shows.net;
        agents = shows.agents;
        history = shows.history;
        now = shows.now;
        callbacks = shows.callbacks;
        lines = lines ∙ sym (append-nil before);
        files = λ told. between-so setup state good shows some told;
      })

  -- by the answer
  pub start-breaks : (answer : ColdAnswer) → after ≡ before → RoseByEither {T = Unit {0}} held.journal.faults left.journal.faults held.disk.faults left.disk.faults (Err answer) Failed → RoseByEither {T = Unit {0}} held.journal.stops left.journal.stops held.disk.stops left.disk.stops (Err answer) Stopped → StopsByArms {T = Unit {0}} held.journal left.journal held.disk left.disk (Err answer) → (answer ≡ NoJournal → IfSome held.journal.files (λ files. HoldsNone (bytes_in files))) → ((place : ℕ) → answer ≡ Refused place → IfSome held.journal.files (λ files. IsRefusedIn (bytes_in files) place)) → RestartBreaks answer old new before after held left
  start-breaks Memory lines cause stop arms none refused setup state good shows count tells some =
      (lacks-start setup state good shows count tells some, both-stood (Err Memory) held left cause stop (λ is. cc) (λ is. cc))
  start-breaks Failed lines cause stop arms none refused setup state good shows count tells some =
      let stops : (left.journal.stops ≡ held.journal.stops) × (left.disk.stops ≡ held.disk.stops) = elim stop.stands [ inl is ↦ cc | inr stood ↦ stood ] in
      fails-start setup state good shows count tells some lines (record {
        disk = cause.later_too;
        journal = cause.later;
        rose = elim (cause.rose refl) [ inl rose ↦ inr rose | inr rose ↦ inl rose ];
        stops = stops.1;
        journal_stops = stops.0;
      })
  start-breaks Stopped lines cause stop arms none refused setup state good shows count tells some =
      let fallen = fallen-so setup state good shows in
      elim (arms.stopped refl) [
        | inl armed ↦ armed.armed (count.journal ∙ fallen.beside)
        | inr armed ↦ armed.armed (count.disk ∙ fallen.armed)
      ]
  start-breaks NoJournal lines cause stop arms none refused setup state good shows count tells some =
      let told = some-told held.journal.files some in
      let is = journal-so setup state good shows tells told.0 told.1 in
      never-none told.0 is (subst (λ (h : Option Files). IfSome h (λ files. HoldsNone (bytes_in files))) told.1 (none refl))
    where
      journal-so : (setup : Setup) (state : State Alone) → IsGood cold_kit setup state → Shows cold_kit setup state old → TellsBoth setup state held → (journal : Files) → held.journal.files ≡ Some journal → Told journal
      journal-so setup state good shows tells journal told =
          hand-told setup state.world.core.answered state.world.core.hand journal
          (history-of setup good.begins state.world.now (accepted state.world.core) good.steady.sound.facts.legal good.range)
          (journal-held setup state old held left journal good told tells (down setup state good shows) keeps)
  start-breaks (Refused place) lines cause stop arms none refused setup state good shows count tells some =
      let told = some-told held.journal.files some in
      let is : Told told.0 = hand-told setup state.world.core.answered state.world.core.hand told.0
      (history-of setup good.begins state.world.now (accepted state.world.core) good.steady.sound.facts.legal good.range)
      (journal-held setup state old held left told.0 good told.1 tells (down setup state good shows) keeps)
      in
      never-refused told.0 place is (subst (λ (h : Option Files). IfSome h (λ files. IsRefusedIn (bytes_in files) place)) told.1 (refused place refl))

-- the file of these bytes
file-in : (P : List ℕ → Type 0) (files : Files) (bytes : List ℕ) → Some bytes ≡ bytes_in files → P bytes → HasFile journal_name (λ file. P file.bytes) files
file-in P files bytes read is = by-file (get files journal_name) refl read
  where
    by-file : (found : Option File) → get files journal_name ≡ found → Some bytes ≡ option_map (λ (file : File). file.bytes) found → HasFile journal_name (λ file. P file.bytes) files
    by-file None at told = cc
    by-file (Some file) at told = (file, at, subst P (ap (λ (o : Option (List ℕ)). option_map_or (λ (l : List ℕ). l) o bytes) told) is)

-- Of one that was done.

module _ (old : Cluster Solo) (servers : Lone) (history : Pushed) (between : List (List ℕ)) (held left : ColdSeen) (down : AllDown old) (comes : ComesBack old.servers.lone servers old.history.entries history.entries [] between held.journal.files left.journal.files held.disk.files left.disk.files) (keeps : KeepsStaged held.journal.files left.journal.files) (arms : StopsByArms {T = Unit {0}} held.journal left.journal held.disk left.disk (Ok tt)) (stood : Stood held left) where
  abbrev new : Cluster Solo
  new = record old { servers = record { lone = servers }; history = history }

  back-so : (setup : Setup) (state : State Alone) → IsGood cold_kit setup state → Shows cold_kit setup state old → cold_kit.Armed state.peers held → TellsBoth setup state held → IsSome held.journal.files → (outcome : Outcome (State Alone)) × BackAt setup state new [] between held left outcome
  back-so setup state good shows count tells some =
      let told = some-told held.journal.files some in
      comes-back setup state old servers history [] between held left told.0 good shows (down setup state good shows) count tells told.1 comes keeps arms.unarmed_too arms.unarmed

  -- the history is what was found
  found-at : (setup : Setup) (state : State Alone) → IsGood cold_kit setup state → Shows cold_kit setup state old → TellsBoth setup state held → IsSome held.journal.files → (now : State Alone) → Shows cold_kit setup now new → IsFound setup (committed now.world.core) held.journal.files
  found-at setup state good shows tells some now shown =
      let told = some-told held.journal.files some in
      let journal = told.0 in
      let started = comes.started in
      let history = committed now.world.core in
      let read : Some started.bytes ≡ bytes_in journal = subst (λ (h : Option Files). IfSome h (λ files. Some started.bytes ≡ bytes_in files)) told.1 started.read in
      let so = found-so setup state old held left journal good told.1 tells (down setup state good shows) keeps started.past started.follower started.bytes started.found read in
      let past : started.past ≡ history =
      sym (comes.installs.tells.history ∙ ap reverse started.entries ∙ reverse-reverse started.past) ∙ shown.history
      in
      let follower : started.follower ≡ follower_of setup history = so.1.server ∙ ap (follower_of setup) (sym so.1.entries ∙ past) in
      let found : Found started.bytes history (follower_of setup history) =
      subst (λ (f : Follower). Found started.bytes history f) follower (subst (λ (p : List Entry). Found started.bytes p started.follower) past started.found)
      in
      subst (λ (h : Option Files). IfSome h (HasFile journal_name (λ file. Found file.bytes history (follower_of setup history)))) (sym told.1)
      (file-in (λ (bytes : List ℕ). Found bytes history (follower_of setup history)) journal started.bytes read found)

  pub start-plays : (before after : List (List ℕ)) → after ≡ before ++ between → PlaysRestart old new before after held left
  start-plays before after lines setup state good shows count tells some =
      let back = back-so setup state good shows count tells some in
      let played = back-played setup state new before between after held left back.0 (down setup state good shows) back.1 lines stood in
      (played, found-at setup state good shows tells some played.outcome.state played.is.0)

  -- memory was wanting for its lines
  pub start-untold : (before after : List (List ℕ)) → RestartBreaks Memory old new before after held left
  start-untold before after setup state good shows count tells some =
      let back = back-so setup state good shows count tells some in
      let outcome = back.0 in
      let kept = restart-keeps (plain_of setup) (is_plain setup) (SaysUnasked (plain_of setup)) (unasked-borne (plain_of setup)) state outcome good.steady back.1.restarts in
      let shown = back.1.happened.0 in
      let first = whole-broken cold_kit cold_laws setup state outcome.state outcome.told held left new back.1.happened.1.steady.sound kept.1 shown.net shown.agents shown.history shown.now
      (λ armed. cold_laws.armed_as setup outcome.state.world.core.answered outcome.state.world.core.hand outcome.state.peers new.servers left shown.own back.1.count)
      (λ told. cold_laws.left_between setup outcome.state held left good.begins back.1.happened.1.steady back.1.happened.1.range back.1.leaves)
      in (
        record {
          rest = first.rest;
          unseen = first.unseen;
          tells = first.tells;
          holds = first.holds;
          deals = first.deals;
          asked = first.asked;
          fed = first.fed;
          times = first.times;
          stays = first.stays;
          net = first.net;
          agents = first.agents;
          history = first.history;
          now = first.now;
          armed = first.armed;
          files = λ told.
              let both = first.files told in
              record {
                disk = leaves-as (Between service_disk (storage_of setup) (committed first.rest.core)) (FilesFound setup (committed first.rest.core)) held.disk.files left.disk.files (λ files holds. inl holds) both.disk;
                journal = leaves-as (JournalBetween setup (committed first.rest.core)) (JournalFound setup (committed first.rest.core)) held.journal.files left.journal.files (λ files holds. inl holds) both.journal;
              };
        },
        stood,
      )

-- Counts, over any disks.
pub start-counts : (answer : Result (Unit {0}) ColdAnswer) (held left : ColdSeen) → RoseByEither held.journal.faults left.journal.faults held.disk.faults left.disk.faults answer Failed → CountsStart answer held left
start-counts (Ok x) held left cause = record { disk = cause.later_too; journal = cause.later }
start-counts (Err Memory) held left cause = record { disk = cause.later_too; journal = cause.later }
start-counts (Err Stopped) held left cause = record { disk = cause.later_too; journal = cause.later }
start-counts (Err NoJournal) held left cause = record { disk = cause.later_too; journal = cause.later }
start-counts (Err (Refused place)) held left cause = record { disk = cause.later_too; journal = cause.later }
start-counts (Err Failed) held left cause = record {
  later = record { disk = cause.later_too; journal = cause.later };
  rose = elim (cause.rose refl) [ inl rose ↦ inr rose | inr rose ↦ inl rose ];
}
