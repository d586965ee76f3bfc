-- An entry that a request or a receipt becomes is the one that was made ready for the partner.
use Rattle.std.proofs.Common.{◌≡◌, ℕ, suc, Bool, true, false, List, length, refl, ap, sym, subst, ◌∙◌}
use Rattle.std.specs.Prelude.{ℤ, Option}
use Rattle.calls.specs.declared.call.Call.{Call}
use Rattle.calls.specs.declared.entry.Entry.{Entry}
use Rattle.wire.specs.declared.message.Message.{Message}
use Rattle.wire.specs.declared.message.Message.TheVariants.{Request, Reply as Answer, Item, Receipt, Mirror, MirrorAck, Snapshot, JoinAck}
use Rattle.plain_service.specs.Setups.{Setup}
use Rattle.cluster_facts.specs.History.{Judged, New, Repeat, Old, Ahead, judged_call}
use Rattle.cluster_facts.specs.Service.{is_new}
use Rattle.service_laws.specs.PlainOf.{plain_of}
use Rattle.mirror.specs.declared.heard.Heard.{Heard}
use Rattle.mirror.specs.Replicas.{ReplicaState, at_rest}
use Rattle.mirror.specs.Hearing.{IsRequestHeard, IsReceiptHeard, IsHeardAtRest}
use Rattle.mirror.specs.Pairing.{mirrors, mirrored, newest, IsMirrored}
use Rattle.mirror.specs.Preparing.{entry_by, held_back, number_next}
use Rattle.mirror.proofs.ReplicaLaws.{count-is}

abbrev IsHeldBack : ℕ → Message → ℤ → Heard → Type 0
IsHeldBack number message now heard = held_back heard.committed (mirrors number (entry_by message now)) heard ≡ mirrored number heard

request-held : (setup : Setup) (past : List Entry) (client seq : ℕ) (call : Call) (now : ℤ) (verdict : Judged) (heard : Heard) (server : ReplicaState) (number : ℕ) → IsRequestHeard setup past client seq call now verdict heard server → IsHeldBack number (Request client seq call) now heard
request-held setup past client seq call now New heard server number is =
    subst (IsHeldBack number (Request client seq call) now) (sym is.0) refl
request-held setup past client seq call now Repeat heard server number is =
    subst (IsHeldBack number (Request client seq call) now) (sym is.2) refl
request-held setup past client seq call now Old heard server number is =
    subst (IsHeldBack number (Request client seq call) now) (sym is.0) refl
request-held setup past client seq call now Ahead heard server number is =
    subst (IsHeldBack number (Request client seq call) now) (sym is.0) refl

receipt-held : (setup : Setup) (past : List Entry) (client key through : ℕ) (now : ℤ) (new : Bool) (heard : Heard) (server : ReplicaState) (number : ℕ) → IsReceiptHeard setup past client key through now new heard server → IsHeldBack number (Receipt client key through) now heard
receipt-held setup past client key through now true heard server number is =
    subst (IsHeldBack number (Receipt client key through) now) (sym is.0) refl
receipt-held setup past client key through now false heard server number is =
    subst (IsHeldBack number (Receipt client key through) now) (sym is.0) refl

-- what was heard goes to the partner as the words say
held-is : (setup : Setup) (past : List Entry) (now : ℤ) (message : Message) (heard : Heard) (server : ReplicaState) (number : ℕ) → IsHeardAtRest setup past now message heard server → IsHeldBack number message now heard
held-is setup past now (Request client seq call) heard server number is =
    request-held setup past client seq call now (judged_call past client seq) heard server number is
held-is setup past now (Receipt client key through) heard server number is =
    receipt-held setup past client key through now (is_new (plain_of setup) past client key through) heard server number is
held-is setup past now (Answer client seq reply) heard server number is =
    subst (IsHeldBack number (Answer client seq reply) now) (sym is.0) refl
held-is setup past now (Item client key item) heard server number is =
    subst (IsHeldBack number (Item client key item) now) (sym is.0) refl
held-is setup past now (Mirror place entry) heard server number is =
    subst (IsHeldBack number (Mirror place entry) now) (sym is.0) refl
held-is setup past now (MirrorAck place) heard server number is =
    subst (IsHeldBack number (MirrorAck place) now) (sym is.0) refl
held-is setup past now (Snapshot saved) heard server number is =
    subst (IsHeldBack number (Snapshot saved) now) (sym is.0) refl
held-is setup past now (JoinAck place) heard server number is =
    subst (IsHeldBack number (JoinAck place) now) (sym is.0) refl

-- the number of the next entry after a history
next-number-is : (setup : Setup) (past : List Entry) (server : ReplicaState) → server ≡ at_rest setup past → number_next server.service ≡ suc (length past)
next-number-is setup past server is =
    subst (λ (it : ReplicaState). number_next it.service ≡ suc (length past)) (sym is) (ap suc (count-is setup past))

-- the entry that was made ready is the one that was accepted, under its number
pub mirrored-by : (setup : Setup) (past : List Entry) (now : ℤ) (message : Message) (node server : ReplicaState) (number : ℕ) (mirror : List Message) (heard later : Heard) (before waits : Option Entry) → node ≡ at_rest setup past → number ≡ number_next node.service → mirror ≡ mirrors number (entry_by message now) → IsHeardAtRest setup past now message heard server → later ≡ held_back heard.committed mirror heard → waits ≡ newest heard.committed before → IsMirrored setup past now message before later server waits
mirrored-by setup past now message node server number mirror heard later before waits same counted made rests later-is waits-is =
    let counts : number ≡ suc (length past) = counted ∙ next-number-is setup past node same in
    let ready : mirror ≡ mirrors (suc (length past)) (entry_by message now) = made ∙ ap (λ n. mirrors n (entry_by message now)) counts in (
      heard,
      rests,
      later-is ∙ ap (λ messages. held_back heard.committed messages heard) ready ∙ held-is setup past now message heard server (suc (length past)) rests,
      waits-is,
    )
