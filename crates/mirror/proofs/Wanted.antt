-- What is made ready for the partner serves also where it is made of a message alone that becomes the next entry.
use Rattle.std.proofs.Common.{◌≡◌, ℕ, suc, ◌+◌, ◌-◌, ◌==◌, nat_lt, nat_le, Bool, true, false, if◌then◌else◌, List, [], refl, ap, sym, subst, ◌∙◌}
use Rattle.std.specs.Prelude.{ℤ, Option, None}
use Rattle.std.proofs.lemmas.Bool.{cond-true, cond-false}
use Rattle.calls.specs.declared.call.Call.{Call}
use Rattle.calls.specs.declared.entry.Entry.{Entry}
use Rattle.calls.specs.declared.saved.Saved.{Saved}
use Rattle.wire.specs.declared.message.Message.{Message}
use Rattle.wire.specs.declared.message.Message.TheVariants.{Request, Reply as Answer, Item, Receipt, Mirror, MirrorAck, Snapshot, JoinAck}
use Rattle.plain_service.specs.Fitness.{IsFit}
use Rattle.service_core.specs.Applying.{next_in, is_new_in}
use Rattle.cluster_facts.specs.History.{Judged, New, Repeat, Old, Ahead, judged}
use Rattle.mirror.specs.declared.heard.Heard.{Heard}
use Rattle.mirror.specs.Replicas.{ReplicaState}
use Rattle.mirror.specs.ByValue.{serving, judged_in, IsRequestByValue, IsReceiptByValue, IsHeardByValue}
use Rattle.mirror.specs.Pairing.{mirrors}
use Rattle.mirror.specs.Preparing.{becomes_in, wanted_by, entry_by, held_back}
use Rattle.mirror.proofs.ByValueLaws.{next-in-is}

-- a call that is not the next one is judged otherwise
later : (ahead old : Bool) → (if ahead then Ahead else (if old then Old else Repeat)) ≡ New → ⊥
later true old is = cc
later false true is = cc
later false false is = cc

not-new : (number count : ℕ) → (number == suc count) ≡ false → judged number count ≡ New → ⊥
not-new number count other is =
    later (nat_lt count number) (nat_le (number + 32) count) (sym (cond-false (number == suc count) New (if nat_lt count number then Ahead else (if nat_le (number + 32) count then Old else Repeat)) other) ∙ is)

request-none : (saved : Saved) (client number : ℕ) (call : Call) (now : ℤ) (judgement : Judged) (heard : Heard) (server : ReplicaState) → (judgement ≡ New → ⊥) → IsRequestByValue saved client number call now judgement heard server → heard.committed ≡ None
request-none saved client number call now New heard server other is = absurd (other refl)
request-none saved client number call now Repeat heard server other is = ap (λ (h : Heard). h.committed) is.2
request-none saved client number call now Old heard server other is = ap (λ (h : Heard). h.committed) is.0
request-none saved client number call now Ahead heard server other is = ap (λ (h : Heard). h.committed) is.0

receipt-none : (saved : Saved) (client key through : ℕ) (now : ℤ) (new : Bool) (heard : Heard) (server : ReplicaState) → new ≡ false → IsReceiptByValue saved client key through now new heard server → heard.committed ≡ None
receipt-none saved client key through now true heard server other is = absurd (cc)
receipt-none saved client key through now false heard server other is = ap (λ (h : Heard). h.committed) is.0

-- of another message nothing is committed
none-committed : (saved : Saved) (now : ℤ) (message : Message) (heard : Heard) (server : ReplicaState) → IsFit saved → becomes_in saved message ≡ false → IsHeardByValue saved now message heard server → heard.committed ≡ None
none-committed saved now (Request client number call) heard server fit other is =
    let before = next-in-is saved client fit in
    request-none saved client number call now (judged_in saved client number) heard server (not-new number (next_in saved client - 1) (subst (λ next. (number == next) ≡ false) before other)) is
none-committed saved now (Receipt client key through) heard server fit other is =
    receipt-none saved client key through now (is_new_in saved client key through) heard server other is
none-committed saved now (Answer client number reply) heard server fit other is = ap (λ (h : Heard). h.committed) is.0
none-committed saved now (Item client key item) heard server fit other is = ap (λ (h : Heard). h.committed) is.0
none-committed saved now (Mirror place entry) heard server fit other is = ap (λ (h : Heard). h.committed) is.0
none-committed saved now (MirrorAck place) heard server fit other is = ap (λ (h : Heard). h.committed) is.0
none-committed saved now (Snapshot value) heard server fit other is = ap (λ (h : Heard). h.committed) is.0
none-committed saved now (JoinAck place) heard server fit other is = ap (λ (h : Heard). h.committed) is.0

-- so what is held back is the same
pub held-wanted : (saved : Saved) (now : ℤ) (message : Message) (node server : ReplicaState) (heard later : Heard) (number : ℕ) (mirror : List Message) → IsFit saved → node ≡ serving saved None → mirror ≡ (if wanted_by node.service message then mirrors number (entry_by message now) else []) → IsHeardByValue saved now message heard server → later ≡ held_back heard.committed mirror heard → later ≡ held_back heard.committed (mirrors number (entry_by message now)) heard
held-wanted saved now message node server heard later number mirror fit same made is held = by (becomes_in saved message) refl where
  ready : List Message
  ready = mirrors number (entry_by message now)

  wanted : mirror ≡ (if becomes_in saved message then ready else [])
  wanted = made ∙ ap (λ (it : ReplicaState). if wanted_by it.service message then ready else []) same

  by : (becomes : Bool) → becomes_in saved message ≡ becomes → later ≡ held_back heard.committed ready heard
  by true becomes = held ∙ ap (λ messages. held_back heard.committed messages heard) (wanted ∙ cond-true (becomes_in saved message) ready [] becomes)
  by false becomes =
      let none = none-committed saved now message heard server fit becomes is in
      held ∙ ap (λ (entry : Option Entry). held_back entry mirror heard) none ∙ sym (ap (λ (entry : Option Entry). held_back entry ready heard) none)
