-- What the active server makes of a message, by what ties it to its partner.
use Rattle.std.proofs.Common.{◌≡◌, suc, List, length, refl, sym, subst}
use Rattle.std.specs.Prelude.{ℤ, Option, Some, None, Result, Ok, Err, IfOk}
use Rattle.calls.specs.declared.entry.Entry.{Entry}
use Rattle.calls.specs.declared.saved.Saved.{Saved}
use Rattle.wire.specs.declared.message.Message.{Message}
use Rattle.plain_service.specs.Setups.{Setup}
use Rattle.plain_service.specs.Legal.{IsHistory}
use Rattle.plain_service.specs.Fitness.{IsFit}
use Rattle.mirror.specs.declared.heard.Heard.{Heard}
use Rattle.mirror.specs.declared.heard.Why.TheVariants.{Busy}
use Rattle.mirror.specs.declared.node.Tie.{Tie}
use Rattle.mirror.specs.declared.node.Tie.TheVariants.{Apart, Owing, Linked}
use Rattle.mirror.specs.declared.owed.Owed.{Owed}
use Rattle.mirror.specs.declared.state.NodeState.{NodeState}
use Rattle.mirror.specs.Replicas.{ReplicaState, at_rest, at_work}
use Rattle.mirror.specs.Hearing.{IsHeardAtRest, ignored}
use Rattle.mirror.specs.ByValue.{IsHeardByValue, serving}
use Rattle.mirror.specs.Pairing.{IsMirrored, IsMirroredByValue, IsHeard, IsHeardTied, IsTiedByValue}

abbrev heard_linked : NodeState → ReplicaState → Option Entry → NodeState
heard_linked old server waits = record old { replica = server; waits = waits }

abbrev heard_apart : NodeState → ReplicaState → NodeState
heard_apart old server = record old { replica = server }

-- with a linked partner
pub linked-heard : (message : Message) (now : ℤ) (old : NodeState) (heard : Heard) (server : ReplicaState) (waits : Option Entry) → old.tie ≡ Linked → ((setup : Setup) (past : List Entry) (entry : Entry) → old.replica ≡ at_work setup past entry → (heard ≡ ignored (Busy (suc (length past)))) × (server ≡ old.replica) × (waits ≡ old.waits)) → ((setup : Setup) (past : List Entry) → IsHistory setup past → old.replica ≡ at_rest setup past → IsMirrored setup past now message old.waits heard server waits) → ((saved : Saved) (owed : Owed) → old.replica ≡ serving saved (Some owed) → (heard ≡ ignored (Busy saved.number)) × (server ≡ old.replica) × (waits ≡ old.waits)) → ((saved : Saved) → IsFit saved → old.replica ≡ serving saved None → IsMirroredByValue saved now message old.waits heard server waits) → IsHeard message now old heard (record old { replica = server; waits = waits })
linked-heard message now old heard server waits tie busy rest held value = (
  λ setup past entry is. ((busy setup past entry is).0, λ i. heard_linked old ((busy setup past entry is).1 i) ((busy setup past entry is).2 i)),
  λ setup past history is. subst (λ (t : Tie). IsHeardTied t setup past now message old heard (heard_linked old server waits)) (sym tie) (rest setup past history is, refl),
  λ saved owed is. ((held saved owed is).0, λ i. heard_linked old ((held saved owed is).1 i) ((held saved owed is).2 i)),
  λ saved fit is. subst (λ (t : Tie). IsTiedByValue t saved now message old heard (heard_linked old server waits)) (sym tie) (value saved fit is, refl),
)

-- without one
apart-tied : (tie : Tie) (setup : Setup) (past : List Entry) (now : ℤ) (message : Message) (old : NodeState) (heard : Heard) (server : ReplicaState) → (tie ≡ Linked → ⊥) → IsHeardAtRest setup past now message heard server → IsHeardTied tie setup past now message old heard (heard_apart old server)
apart-tied Apart setup past now message old heard server not is = (is, refl)
apart-tied Owing setup past now message old heard server not is = (is, refl)
apart-tied Linked setup past now message old heard server not is = absurd (not refl)

apart-by_value : (tie : Tie) (saved : Saved) (now : ℤ) (message : Message) (old : NodeState) (heard : Heard) (server : ReplicaState) → (tie ≡ Linked → ⊥) → IsHeardByValue saved now message heard server → IsTiedByValue tie saved now message old heard (heard_apart old server)
apart-by_value Apart saved now message old heard server not is = (is, refl)
apart-by_value Owing saved now message old heard server not is = (is, refl)
apart-by_value Linked saved now message old heard server not is = absurd (not refl)

pub apart-heard : (message : Message) (now : ℤ) (old : NodeState) (heard : Heard) (server : ReplicaState) → (old.tie ≡ Linked → ⊥) → ((setup : Setup) (past : List Entry) (entry : Entry) → old.replica ≡ at_work setup past entry → (heard ≡ ignored (Busy (suc (length past)))) × (server ≡ old.replica)) → ((setup : Setup) (past : List Entry) → IsHistory setup past → old.replica ≡ at_rest setup past → IsHeardAtRest setup past now message heard server) → ((saved : Saved) (owed : Owed) → old.replica ≡ serving saved (Some owed) → (heard ≡ ignored (Busy saved.number)) × (server ≡ old.replica)) → ((saved : Saved) → IsFit saved → old.replica ≡ serving saved None → IsHeardByValue saved now message heard server) → IsHeard message now old heard (record old { replica = server })
apart-heard message now old heard server not busy rest held value = (
  λ setup past entry is. ((busy setup past entry is).0, λ i. heard_apart old ((busy setup past entry is).1 i)),
  λ setup past history is. apart-tied old.tie setup past now message old heard server not (rest setup past history is),
  λ saved owed is. ((held saved owed is).0, λ i. heard_apart old ((held saved owed is).1 i)),
  λ saved fit is. apart-by_value old.tie saved now message old heard server not (value saved fit is),
)

-- four clauses on one answer
pub four-ok : {T E : Type 0} (r : Result T E) (P Q R S : T → Type 0) (U : T → Type 0) → ((x : T) → P x → Q x → R x → S x → U x) → IfOk r P → IfOk r Q → IfOk r R → IfOk r S → IfOk r U
four-ok (Ok x) P Q R S U step p q r s = step x p q r s
four-ok (Err e) P Q R S U step p q r s = tt
