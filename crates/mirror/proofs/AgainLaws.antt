-- A reply that is posted again: what the active server makes of a call that it answered before, by what its service tells of the call.
use Rattle.std.proofs.Common.{◌≡◌, ℕ, List, refl, ap, sym, subst, ◌∙◌}
use Rattle.std.specs.Prelude.{ℤ, Some, None}
use Rattle.calls.specs.declared.call.Call.{Call}
use Rattle.calls.specs.declared.reply.Reply.{Reply}
use Rattle.calls.specs.declared.entry.Entry.{Entry}
use Rattle.calls.specs.declared.saved.Saved.{Saved}
use Rattle.wire.specs.declared.message.Message.{Message}
use Rattle.wire.specs.declared.message.Message.TheVariants.{Request, Reply as Answer}
use Rattle.plain_service.specs.Setups.{Setup}
use Rattle.plain_service.specs.Values.{saved_of}
use Rattle.cluster_facts.specs.History.{Judged, New, Repeat, Old, Ahead, judged_call}
use Rattle.mirror.specs.declared.heard.Heard.{Heard}
use Rattle.mirror.specs.declared.node.Tie.{Tie}
use Rattle.mirror.specs.declared.node.Tie.TheVariants.{Apart, Owing, Linked}
use Rattle.mirror.specs.declared.owed.Owed.{Owed}
use Rattle.mirror.specs.declared.state.NodeState.{NodeState}
use Rattle.mirror.specs.Replicas.{ReplicaState, at_rest, owed_of}
use Rattle.mirror.specs.Hearing.{IsRequestHeard, IsHeardAtRest, repeated}
use Rattle.mirror.specs.ByValue.{judged_in, IsHeardByValue, IsRequestByValue}
use Rattle.mirror.specs.Pairing.{IsHeard, IsHeardTied, IsTiedByValue}
use Rattle.mirror.specs.Reacting.{IsHeardAgain, IsPostedAgain, AnswersAgain}
use Rattle.mirror.proofs.ByValueLaws.{request-again}
use Rattle.mirror.proofs.ReplicaLaws.{some_same}

-- a server of this service with nothing in hand
pub answers-of : (server : ReplicaState) (service : Saved) (client number : ℕ) (reply : Reply) → server.owed ≡ None → server.service ≡ Some service → IsPostedAgain service client number reply → AnswersAgain server client number reply
answers-of server service client number reply idle has is =
    (idle, λ other found. subst (λ it. IsPostedAgain it client number reply) (some_same service other (sym has ∙ found)) is)

-- a request that is not new leaves the server
again-at_rest : (setup : Setup) (past : List Entry) (client number : ℕ) (call : Call) (now : ℤ) (judgement : Judged) (heard : Heard) (server : ReplicaState) → server ≡ at_rest setup past → IsHeardAgain setup past client number judgement heard → IsRequestHeard setup past client number call now judgement heard server
again-at_rest setup past client number call now New heard server same is = absurd is
again-at_rest setup past client number call now Repeat heard server same is = (is.0, is.1, is.2, same)
again-at_rest setup past client number call now Old heard server same is = (is, same)
again-at_rest setup past client number call now Ahead heard server same is = (is, same)

-- nothing goes to the partner of a reply that is posted again
again-tied : (tie : Tie) (setup : Setup) (past : List Entry) (now : ℤ) (message answer : Message) (node : NodeState) → IsHeardAtRest setup past now message (repeated answer) node.replica → IsHeardTied tie setup past now message node (repeated answer) node
again-tied Apart setup past now message answer node is = (is, refl)
again-tied Owing setup past now message answer node is = (is, refl)
again-tied Linked setup past now message answer node is = ((repeated answer, is, refl, refl), refl)

again-by_value : (tie : Tie) (saved : Saved) (now : ℤ) (message answer : Message) (node : NodeState) → IsHeardByValue saved now message (repeated answer) node.replica → IsTiedByValue tie saved now message node (repeated answer) node
again-by_value Apart saved now message answer node is = (is, refl)
again-by_value Owing saved now message answer node is = (is, refl)
again-by_value Linked saved now message answer node is = ((repeated answer, is, refl, refl), refl)

-- it has no entry in hand then
idle-none : (server : ReplicaState) (owed : Owed) → server.owed ≡ None → server.owed ≡ Some owed → ⊥
idle-none server owed idle is = let e : None ≡ Some owed = sym idle ∙ is in cc

pub heard-again : (node : NodeState) (client number : ℕ) (call : Call) (now : ℤ) (reply : Reply) → AnswersAgain node.replica client number reply → IsHeard (Request client number call) now node (repeated (Answer client number reply)) node
heard-again node client number call now reply again = (
  λ setup past entry is. absurd (idle-none node.replica (owed_of setup past entry) again.0 (ap (λ (it : ReplicaState). it.owed) is)),
  λ setup past history is.
      let said = again.1 (saved_of setup past) (ap (λ (it : ReplicaState). it.service) is) in
      again-tied node.tie setup past now message answer node (again-at_rest setup past client number call now (judged_call past client number) (repeated answer) node.replica is (said.0 setup past history refl)),
  λ saved owed is. absurd (idle-none node.replica owed again.0 (ap (λ (it : ReplicaState). it.owed) is)),
  λ saved fit is.
      let said = again.1 saved (ap (λ (it : ReplicaState). it.service) is) in
      let heard = request-again saved saved client number call now (repeated answer) refl (said.1 saved fit refl) in
      again-by_value node.tie saved now message answer node (subst (λ (it : ReplicaState). IsRequestByValue saved client number call now (judged_in saved client number) (repeated answer) it) (sym is) heard),
)
  where
    message : Message
    message = Request client number call

    answer : Message
    answer = Answer client number reply
