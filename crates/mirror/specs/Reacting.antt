-- Words of bodies alone: what becomes of an entry that is accepted and of a request that is not the client's next.
use Rattle.std.specs.Prelude.{◌≡◌, ℕ, Some, None, List}
use Rattle.calls.specs.declared.entry.Entry.{Entry}
use Rattle.calls.specs.declared.reply.Reply.{Reply}
use Rattle.calls.specs.declared.saved.Saved.{Saved}
use Rattle.wire.specs.declared.message.Message.TheVariants.{Reply as Answer}
use Rattle.cluster_facts.specs.History.{Judged, New, Repeat, Old, Ahead, judged_call}
use Rattle.cluster_facts.specs.Service.{answers_in}
use Rattle.cluster_events.specs.Events.{reply_at}
use Rattle.service_laws.specs.PlainOf.{plain_of}
use Rattle.plain_service.specs.Setups.{Setup}
use Rattle.plain_service.specs.Legal.{IsHistory}
use Rattle.plain_service.specs.Fitness.{IsFit}
use Rattle.plain_service.specs.Values.{StandsFor}
use Rattle.mirror.specs.declared.heard.Why.TheVariants.{Old as OldRequest, Ahead as AheadRequest}
use Rattle.mirror.specs.declared.heard.Heard.{Heard}
use Rattle.mirror.specs.Replicas.{ReplicaState, at_work}
use Rattle.mirror.specs.Hearing.{ignored, accepted_alone, repeated}
use Rattle.mirror.specs.ByValue.{judged_in, reply_kept}

-- an entry was accepted
abbrev pub IsAccepted : Setup → List Entry → Entry → Heard → ReplicaState → Type 0
IsAccepted setup past entry heard server = (heard ≡ accepted_alone entry) × (server ≡ at_work setup past entry)

-- what becomes of a request that is not new
abbrev pub IsHeardAgain : Setup → List Entry → ℕ → ℕ → Judged → Heard → Type 0
IsHeardAgain setup past client number New heard = ⊥
IsHeardAgain setup past client number Repeat heard =
    (reply : Reply) × (reply_at number (answers_in (plain_of setup) client past) ≡ Some reply) × (heard ≡ repeated (Answer client number reply))
IsHeardAgain setup past client number Old heard = heard ≡ ignored OldRequest
IsHeardAgain setup past client number Ahead heard = heard ≡ ignored AheadRequest

-- the same by the value of the service
abbrev pub IsAgainByValue : Saved → ℕ → ℕ → Judged → Heard → Type 0
IsAgainByValue saved client number New heard = ⊥
IsAgainByValue saved client number Repeat heard =
    (reply : Reply) × (reply_kept saved client number ≡ Some reply) × (heard ≡ repeated (Answer client number reply))
IsAgainByValue saved client number Old heard = heard ≡ ignored OldRequest
IsAgainByValue saved client number Ahead heard = heard ≡ ignored AheadRequest

-- this reply is posted again where a client makes the call of this number again, by each history and by each fit value that the service is
abbrev pub IsPostedAgain : Saved → ℕ → ℕ → Reply → Type 0
IsPostedAgain service client number reply =
    ((setup : Setup) (past : List Entry) → IsHistory setup past → StandsFor setup past service →
    IsHeardAgain setup past client number (judged_call past client number) (repeated (Answer client number reply)))
    × ((saved : Saved) → IsFit saved → service ≡ saved →
    IsAgainByValue saved client number (judged_in saved client number) (repeated (Answer client number reply)))

-- the same of a server, which has nothing in hand then
abbrev pub AnswersAgain : ReplicaState → ℕ → ℕ → Reply → Type 0
AnswersAgain server client number reply =
    (server.owed ≡ None) × ((service : Saved) → server.service ≡ Some service → IsPostedAgain service client number reply)
