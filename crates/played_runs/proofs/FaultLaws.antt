-- What is promised where a fault of the disk ended a run holds.
use Rattle.std.proofs.Common.{◌≡◌, ℕ, ℤ, inl, inr, Bool, true, false, if◌then◌else◌, List, [], ◌∷◌, ◌++◌, Option, Some, None, refl, ap, sym, subst}
use Rattle.std.specs.Prelude.{IfSome}
use Rattle.disk_model.specs.Counts.{Counters}
use Rattle.disk_model.specs.Disk.{Files}
use Rattle.disk_model.specs.Seen.{DiskSeen}
use Rattle.plain_service.specs.Setups.{Setup, CanBegin}
use Rattle.plain_service.specs.Storing.{files_of}
use Rattle.cluster_facts.specs.Types.{Call, Reply, StreamName, Mark, Entry, Called, Receipted, Answer}
use Rattle.cluster_facts.specs.Lists.{Stands, EndsIn}
use Rattle.cluster_facts.specs.Messages.{messages_in, sent_by, calls_in}
use Rattle.cluster_facts.specs.Service.{answers_in}
use Rattle.cluster_facts.specs.Storage.{Between}
use Rattle.cluster_facts.specs.Agents.{kept_call}
use Rattle.cluster_facts.specs.History.{Hand, Empty, IsLegal, accepted_by, committed_by}
use Rattle.cluster_facts.specs.Ranges.{AreInRange}
use Rattle.cluster_facts.specs.World.{World, empty_world}
use Rattle.cluster_facts.specs.Facts.{IsOfRun, IsSound, Keeps}
use Rattle.cluster_facts.specs.Facts.Keeps.{starts, waits, answered}
use Rattle.cluster_facts.proofs.Words.{by_test, All-at, EndsIn-stands}
use Rattle.cluster_facts.proofs.Growing.{IsLegal-before}
use Rattle.cluster_facts.proofs.Posting.{answers_to-posted}
use Rattle.cluster_events.specs.Lines.{Told}
use Rattle.cluster_events.specs.Ending.{LacksLast}
use Rattle.cluster_events.specs.Saying.{Says, replies_told, IsDone}
use Rattle.cluster_events.specs.Filing.{FilesStand, RecordsStay}
use Rattle.cluster_events.proofs.Dealing.{answers-dealt}
use Rattle.cluster_events.proofs.Telling.{Says-both}
use Rattle.cluster_events.proofs.Quiet.{answers-called}
use Rattle.cluster_events.proofs.Promised.{at-end}
use Rattle.service_laws.specs.Disks.{service_disk}
use Rattle.service_laws.specs.PlainOf.{plain_of}
use Rattle.service_laws.specs.StorageOf.{storage_of}
use Rattle.service_laws.proofs.StorageLaws.{is_storage}
use Rattle.cluster_rounds.specs.Broken.{LeavesBetween}
use Rattle.cluster_rounds.specs.Worlds.{TellsFiles}
use Rattle.played_runs.specs.AfterFault.{AnswersOnly, EndKeeps, FaultKeeps, IsUnanswered, KeepsAtFault, LeavesUnanswered, RecordsKept}
use Rattle.played_runs.specs.Ends.{FaultLeft, Showing, Ending}
use Rattle.played_runs.specs.Games.{Game}
use Rattle.played_runs.specs.Laws.{IsGame}
use Rattle.played_runs.specs.Playing.{Goes, seen_behind}
use Rattle.played_runs.specs.Views.{behind_opening, files_told}
use Rattle.played_runs.proofs.GoingSteps.{told-same}
use Rattle.played_runs.proofs.TellingLaws.{each-told}
use Rattle.played_runs.proofs.PlayLaws.{answered-range, played-files, played-says, played-stays}

-- The last entry is unanswered.

-- the reply to a call that an agent does not keep any more stands in the net
done-heard : {heard : List (ℕ × Reply)} {sent kept : List (ℕ × Call)} {told : List (StreamName × Mark)} (number : ℕ) (call : Call) → Keeps heard sent kept told → Stands (number, call) sent → kept_call number kept ≡ None → (reply : Reply) × Stands (number, reply) heard
done-heard number call starts stands none = absurd stands
done-heard number call (waits {kept = kept} first keeps) (inl same) none =
    let K : Bool → Type 0 = λ b. (if b then Some first.1 else kept_call number kept) ≡ None in
    absurd (by_test (λ b. K b → ⊥) first.0 number (λ is e. cc) (λ different e. different (sym (ap (λ (p : ℕ × Call). p.0) same))) none)
done-heard {heard} number call (waits {kept = kept} first keeps) (inr later) none =
    let K : Bool → Type 0 = λ b. (if b then Some first.1 else kept_call number kept) ≡ None in
    let rest = by_test (λ b. K b → kept_call number kept ≡ None) first.0 number (λ is e. cc) (λ different e. e) none in
    done-heard number call keeps later rest
done-heard {heard} number call (answered first reply heard_it keeps) (inl same) none =
    (reply, subst (λ (n : ℕ). Stands (n, reply) heard) (sym (ap (λ (p : ℕ × Call). p.0) same)) heard_it)
done-heard number call (answered first reply heard_it keeps) (inr later) none = done-heard number call keeps later none

-- a world with nothing in hand, and the lines that were told since the start
module _ (setup : Setup) (start world : World) (told : List Told) (sound : IsSound (plain_of setup) world) (empty : world.core.hand ≡ Empty) (says : Says (plain_of setup) start world told) where
  legal-now : IsLegal (plain_of setup) world.now world.core.answered
  legal-now = subst (λ (hand : Hand). IsLegal (plain_of setup) world.now (accepted_by world.core.answered hand)) empty sound.facts.legal

  -- where a reply was told, one to the same call stands in the net
  told-posted : (client number : ℕ) (reply : Reply) → Stands (number, reply) (replies_told client told) → (other : Reply) × Stands (Answer client number other) (messages_in world.net)
  told-posted client number reply stands =
      let plain = plain_of setup in
      let past = world.core.answered in
      let tells = says.replies client in
      let done = All-at (λ (one : ℕ × Reply). IsDone (world.agents client) one.0) (number, reply) (replies_told client told) tells.done stands in
      let right = All-at (λ (one : ℕ × Reply). Stands one (answers_in plain client past)) (number, reply) (replies_told client told) tells.right stands in
      let called = answers-called plain client number reply past right in
      let facts = sound.facts.clients client in
      let first = subst (λ (hand : Hand). EndsIn (sent_by client (messages_in world.net)) (calls_in client (accepted_by past hand))) empty facts.sends.first in
      let sent = EndsIn-stands (number, called.0) (sent_by client (messages_in world.net)) (calls_in client past) first called.1 in
      let heard = done-heard number called.0 facts.awaits.keeps sent done.taken in
      (heard.0, answers_to-posted client number heard.0 (messages_in world.net) heard.1)

  unanswered : (past : List Entry) → LacksLast past (messages_in world.net) → IsUnanswered past (messages_in world.net) told
  unanswered [] lacks = tt
  unanswered (Called client number time call ∷ past) lacks = λ reply. (
    λ stands. lacks reply stands,
    λ stands. let posted = told-posted client number reply stands in lacks posted.0 posted.1,
  )
  unanswered (Receipted client key through time ∷ past) lacks = tt

  answers-only : AnswersOnly setup world
  answers-only client number reply posted =
      answers-dealt (plain_of setup) client number reply world.core.answered (All-at (IsOfRun (plain_of setup) world.core.answered) (Answer client number reply) (messages_in world.net) sound.facts.run posted)

-- Records.

-- what was answered as stored before the last entry is kept in files between
pub records-kept : (setup : Setup) → CanBegin setup → (now : ℤ) (past : List Entry) (files : Files) → IsLegal (plain_of setup) now past → AreInRange past → Between service_disk (storage_of setup) past files → RecordsKept setup past files
records-kept setup can now [] files legal range between = tt
records-kept setup can now (entry ∷ past) files legal range between = λ client number call reply dealt stored_is.
    let plain = plain_of setup in
    let storage = is_storage setup can in
    let earlier = IsLegal-before plain now entry past legal in
    let found = storage.stores now past client number call reply earlier range.1 dealt stored_is in
    (found.0, found.1, λ spot place. storage.keeps now entry past files client number found.0 spot legal range between found.1 place)

-- a disk that told files tells some between
left-between : (setup : Setup) (past : List Entry) (held left : Option Files) (P : Files → Type 0) → LeavesBetween setup past held left → ((files : Files) → Between service_disk (storage_of setup) past files → P files) → IfSome left (λ files. P files)
left-between setup past None left P leaves each = subst (λ (o : Option Files). IfSome o (λ files. P files)) (sym leaves) tt
left-between setup past (Some held) left P leaves each =
    subst (λ (o : Option Files). IfSome o (λ files. P files)) (sym leaves.1) (each leaves.0 leaves.2)

pub if-same : (left : Option Files) (files : Files) (P : Files → Type 0) → IfSome left (λ one. one ≡ files) → P files → IfSome left (λ one. P one)
if-same None files P same holds = tt
if-same (Some one) files P same holds = subst P (sym same) holds

module _ {P L S W : Type 0} (game : Game P L S W) (is_game : IsGame game) where
  -- A fault behind lines that were played.

  module _ (setup : Setup) (places : ℕ) (held : Option Files) (first : Counters) (played : List L) (text_before : List ℕ) (goes : (Goes game) setup places held first played text_before) where
    -- the files that the lines left are those of the history
    files-stand : goes.files ≡ files_of setup goes.state.world.core.answered
    files-stand =
        let core = goes.state.world.core in
        played-files game is_game setup places held first goes.good.begins goes.run (answered-range core.answered core.hand goes.good.range)

    -- the last entry is unanswered, but behind a crash
    leaves-unanswered : (crashes : Bool) (world : World) (told : List Told) → (crashes ≡ false → IsUnanswered world.core.answered (messages_in world.net) told) → LeavesUnanswered crashes world told
    leaves-unanswered true world told lacks = tt
    leaves-unanswered false world told lacks = lacks refl

    ended-keeps : (next : L) (told : List Told) (left : DiskSeen) (world : W) → (ended : game.Ended setup goes.state next told ((seen_behind game) goes) left world) → EndKeeps setup (game.crashes next) goes.state.world (game.end setup goes.state next told ((seen_behind game) goes) left world ended).state.world (game.end setup goes.state next told ((seen_behind game) goes) left world ended).told ((game.end setup goes.state next told ((seen_behind game) goes) left world ended).told ++ goes.told) left.files
    ended-keeps next told left world ended =
        let plain = plain_of setup in
        let last = game.end setup goes.state next told ((seen_behind game) goes) left world ended in
        let stands = is_game.stands setup goes.state next told ((seen_behind game) goes) left world ended in
        let start = empty_world setup.start places in
        let before = played-says game is_game setup places held first goes.run in
        let facts = is_game.ends setup goes.state next told ((seen_behind game) goes) left world ended before.0 in
        let end = last.state.world in
        let past = end.core.answered in
        let lines = last.told ++ goes.told in
        let says = Says-both plain start goes.state.world end goes.told last.told before.1 facts.keeps.1 in
        let sound = facts.keeps.0.sound in
        let empty = facts.idle in
        let tells : TellsFiles setup goes.state (files_told goes.files held) = told-same held (files_told goes.files held) (files_of setup goes.state.world.core.answered) (ap (λ (files : Files). files_told files held) files-stand) in
        let leaves = subst (λ (hand : Hand). LeavesBetween setup (committed_by past hand) (files_told goes.files held) left.files) empty (stands.files tells) in
        let range = subst (λ (hand : Hand). AreInRange (accepted_by past hand)) empty stands.range in
        let promises = at-end plain end lines setup.start places sound says in
        record {
          promises = promises;
          times = facts.times;
          tells = each-told setup end promises.items;
          answers = answers-only setup start end lines sound empty says;
          unanswered = leaves-unanswered (game.crashes next) end lines (λ calm. unanswered setup start end lines sound empty says past (facts.lacks calm));
          records = left-between setup past (files_told goes.files held) left.files (RecordsKept setup past) leaves (λ files between. records-kept setup goes.good.begins end.now past files (legal-now setup start end lines sound empty says) range between);
        }

    fault-keeps : (next : L) (left : DiskSeen) (world : W) (lines : List ℕ) (fault : FaultLeft game setup goes.state next ((seen_behind game) goes) left world lines) → (FaultKeeps game) setup goes.state next ((seen_behind game) goes) left world lines goes.told fault
    fault-keeps next left world lines (Showing shows_files shows read rose none) =
        let core = goes.state.world.core in
        let one = told-same held left.files goes.files read.files in
        record {
          stand = if-same left.files goes.files (λ files. FilesStand service_disk (storage_of setup) goes.state.world files) one files-stand;
          stays = if-same left.files goes.files (λ files. RecordsStay (plain_of setup) service_disk (storage_of setup) goes.state.world files) one (played-stays game is_game setup places held first goes.good.begins goes.run (answered-range core.answered core.hand goes.good.range));
        }
    fault-keeps next left world lines (Ending told ended printed) =
        let end = game.end setup goes.state next told ((seen_behind game) goes) left world ended in
        let stands = is_game.stands setup goes.state next told ((seen_behind game) goes) left world ended in
        let K : List Told → Type 0 = λ one. EndKeeps setup (game.crashes next) goes.state.world end.state.world one (one ++ goes.told) left.files in
        subst K (sym stands.printed) (ended-keeps next told left world ended)

  pub keeps-at-fault : (held : Option Files) (left : DiskSeen) (world : W) → (KeepsAtFault game) held left world
  keeps-at-fault held left world first script done rest next text lines front fault =
      fault-keeps front.setup front.places held (behind_opening front.setup first) done text front.goes next left world lines fault
