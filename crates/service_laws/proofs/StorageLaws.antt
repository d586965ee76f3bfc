-- **The files of the plain service keep what the cluster asks of files.**
use Rattle.std.proofs.Common.{◌≡◌, ℕ, true, Bool, cond, inl, inr, List, [], ◌∷◌, refl, ap, sym, ◌∙◌, subst}
use Rattle.std.specs.Prelude.{ℤ, Option, Some, None}
use Rattle.client_set.specs.Members.{Stands}
use Rattle.disk_model.specs.Disk.{Files}
use Rattle.stream_layout.specs.Deeds.{calls_of_all}
use Rattle.calls.specs.declared.call.Call.{Call}
use Rattle.calls.specs.declared.entry.Entry.{Entry}
use Rattle.calls.specs.declared.entry.Entry.TheVariants.{Called, Receipted}
use Rattle.calls.specs.declared.reply.Reply.{Reply}
use Rattle.cluster_facts.specs.Storage.{Attempts, dealt_in}
use Rattle.cluster_facts.proofs.Words.{by_test}
use Rattle.cluster_events.specs.Filing.{IsKept, IsStorage}
use Rattle.plain_service.specs.Setups.{Setup, CanBegin}
use Rattle.plain_service.specs.Legal.{IsHistory}
use Rattle.plain_service.specs.Replies.{reply_of}
use Rattle.plain_service.specs.Storing.{files_of, deeds_of, opening_of}
use Rattle.plain_service.specs.Records.{StoredRecord, record_of, place_of, is_stored}
use Rattle.plain_service.proofs.FilesLaws.{files-work, files-open}
use Rattle.plain_service.proofs.RecordLaws.{record-at-place, record-stays, record-told}
use Rattle.service_laws.specs.Disks.{service_disk}
use Rattle.service_laws.specs.PlainOf.{plain_of}
use Rattle.service_laws.specs.StorageOf.{storage_of}
use Rattle.service_laws.proofs.Attempting.{same-applied}
use Rattle.service_laws.proofs.ChangesAgain.{files-settled, entry-again}
use Rattle.service_laws.proofs.EntriesKept.{entry-kept}
use Rattle.service_laws.proofs.HistoryLaws.{history-of}

-- a record that a call of the history stored
abbrev IsRecorded : Setup → List Entry → (client number : ℕ) → Type 0
IsRecorded setup past client number = (stored : StoredRecord) × (record_of setup past client number ≡ Some stored)

still : (setup : Setup) (entry : Entry) (past : List Entry) (client number : ℕ) → IsHistory setup (entry ∷ past) → IsRecorded setup past client number → IsRecorded setup (entry ∷ past) client number
still setup entry past client number history before =
    (before.0, record-stays setup entry past client number before.0 history before.1)

-- a call and its reply, as they are dealt
abbrev Dealt : Type 0
Dealt = ℕ × Call × Reply

own-record : (setup : Setup) (caller seq : ℕ) (time : ℤ) (told : Call) (past : List Entry) (number : ℕ) (call : Call) (reply : Reply) → IsHistory setup (Called caller seq time told ∷ past) → ◌≡◌ {A = Dealt} (number, call, reply) (seq, told, reply_of setup past caller time told) → is_stored call reply ≡ true → IsRecorded setup (Called caller seq time told ∷ past) caller number
own-record setup caller seq time told past number call reply history same is =
    let stored : is_stored told (reply_of setup past caller time told) ≡ true = sym (ap (λ (dealt : Dealt). is_stored dealt.1 dealt.2) same) ∙ is in
    subst (λ n. IsRecorded setup (Called caller seq time told ∷ past) caller n) (sym (ap (λ (dealt : Dealt). dealt.0) same))
    (record-told setup caller seq time told past history stored)

-- what a reply says is stored is a record
stores : (setup : Setup) (past : List Entry) (client number : ℕ) (call : Call) (reply : Reply) → IsHistory setup past → Stands (number, call, reply) (dealt_in (plain_of setup) client past) → is_stored call reply ≡ true → IsRecorded setup past client number
stores setup [] client number call reply history stands is = absurd stands
stores setup (Receipted caller key through time ∷ past) client number call reply history stands is =
    still setup (Receipted caller key through time) past client number history (stores setup past client number call reply history.1 stands is)
stores setup (Called caller seq time told ∷ past) client number call reply history stands is =
    let goal : Type 0 = IsRecorded setup (Called caller seq time told ∷ past) client number in
    let behind : Stands (number, call, reply) (dealt_in (plain_of setup) client past) → goal = λ there.
    still setup (Called caller seq time told) past client number history (stores setup past client number call reply history.1 there is) in
    let P : Bool → Type 0 = λ mine. Stands (number, call, reply) (cond mine ((seq, told, reply_of setup past caller time told) ∷ dealt_in (plain_of setup) client past) (dealt_in (plain_of setup) client past)) → goal in
    let mine : caller ≡ client → P true = λ same. elim [
      | inl here ↦ subst (λ c. IsRecorded setup (Called caller seq time told ∷ past) c number) same (own-record setup caller seq time told past number call reply history here is)
      | inr there ↦ behind there
    ] in
    by_test P caller client mine (λ different. behind) stands

-- a record stands at a place while the last entry's deeds are attempted, unless that entry gives its place away
keeps : (setup : Setup) (entry : Entry) (past : List Entry) (files : Files) (client number : ℕ) (stored : StoredRecord) (spot : List ℕ × ℕ) → IsHistory setup (entry ∷ past) → Attempts service_disk (calls_of_all (deeds_of setup past entry)) (files_of setup past) files → record_of setup past client number ≡ Some stored → place_of setup past stored ≡ Some spot → IsKept service_disk (storage_of setup) (entry ∷ past) stored spot files
keeps setup entry past files client number stored spot history between own at = by_case (place_of setup (entry ∷ past) stored) refl where
  by_case : (found : Option (List ℕ × ℕ)) → place_of setup (entry ∷ past) stored ≡ found → IsKept service_disk (storage_of setup) (entry ∷ past) stored spot files
  by_case None none = inr (inr none)
  by_case (Some after) then = elim (entry-kept setup entry past files client number stored spot after history between own at then) [
    | inl stays ↦ inl stays
    | inr moved ↦ inr (inl (after, then, moved))
  ]

-- **the files of the plain service keep what the cluster asks of files**
pub is_storage : (setup : Setup) → CanBegin setup → IsStorage (plain_of setup) service_disk (storage_of setup)
is_storage setup begin = record {
  opens = same-applied (calls_of_all (opening_of setup)) service_disk.no_files ∙ files-open setup begin;
  works = λ now entry past legal range.
      same-applied (calls_of_all (deeds_of setup past entry)) (files_of setup past)
      ∙ files-work setup entry past (history-of setup begin now (entry ∷ past) legal range);
  repeats = λ now entry past files legal range between.
      let history = history-of setup begin now (entry ∷ past) legal range in
      same-applied (calls_of_all (deeds_of setup past entry)) files
      ∙ entry-again setup entry past history (files-settled setup past) files between ∙ files-work setup entry past history;
  stores = λ now past client number call reply legal range stands is.
      stores setup past client number call reply (history-of setup begin now past legal range) stands is;
  stays = λ now past client number stored spot legal range own at.
      record-at-place setup past client number stored spot (history-of setup begin now past legal range) own at;
  keeps = λ now entry past files client number stored spot legal range between own at.
      keeps setup entry past files client number stored spot (history-of setup begin now (entry ∷ past) legal range) between own at;
}
