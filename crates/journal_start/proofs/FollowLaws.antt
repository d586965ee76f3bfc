-- A server that follows is told what may come, and admits it.
use Rattle.std.proofs.Common.{◌≡◌, ℕ, ℤ, true, false, List, ◌++◌, Option, Some, None, refl, sym, ap, subst, ◌∙◌}
use Rattle.std.specs.Option.{option_to_list}
use Rattle.calls.specs.declared.entry.Entry.{Entry}
use Rattle.calls.specs.declared.entry.Entry.TheVariants.{Called, Receipted}
use Rattle.calls.specs.declared.saved.Saved.{Saved}
use Rattle.wire.specs.declared.message.Message.{Message}
use Rattle.wire.specs.declared.message.Message.TheVariants as message
use Rattle.service_core.specs.Applying.{CanApply}
use Rattle.mirror.specs.declared.heard.Role.{Role}
use Rattle.mirror.specs.declared.heard.Role.TheVariants as role
use Rattle.mirror.specs.declared.state.NodeState.{NodeState as Node}
use Rattle.mirror.specs.Replicas.{HasRoom}
use Rattle.mirror.specs.Pairing.{Admits, CanReceive}
use Rattle.journal_found.specs.Found.{CanCome, Follower}
use Rattle.journal_start.specs.Replays.{node_of, number_behind, HasFollowed, IsTaken, ReadsNext, ReadsNone, ReadsSome}

pub can-admits : (next : Message) (follower : Option Follower) → CanCome next follower → Admits next (node_of follower)
can-admits (message.Snapshot saved) None can = (refl, can)
can-admits (message.Mirror number entry) (Some f) can = (refl, can)
can-admits (message.Snapshot saved) (Some f) can = absurd can
can-admits (message.Mirror number entry) None can = absurd can
can-admits (message.Request client seq call) follower can = absurd can
can-admits (message.Reply client seq reply) follower can = absurd can
can-admits (message.Item client key item) follower can = absurd can
can-admits (message.Receipt client key through) follower can = absurd can
can-admits (message.MirrorAck number) follower can = absurd can
can-admits (message.JoinAck number) follower can = absurd can

roles-differ : ◌≡◌ {A = Role} role.Joining role.Standby → ⊥
roles-differ is = cc

pub admits-can : (next : Message) (follower : Option Follower) → Admits next (node_of follower) → CanCome next follower
admits-can (message.Snapshot saved) None admits = admits.1
admits-can (message.Mirror number entry) (Some f) admits = admits.1
admits-can (message.Snapshot saved) (Some f) admits = absurd (roles-differ (sym admits.0))
admits-can (message.Mirror number entry) None admits = absurd (roles-differ admits.0)
admits-can (message.Request client seq call) follower admits = absurd admits
admits-can (message.Reply client seq reply) follower admits = absurd admits
admits-can (message.Item client key item) follower admits = absurd admits
admits-can (message.Receipt client key through) follower admits = absurd admits
admits-can (message.MirrorAck number) follower admits = absurd admits
admits-can (message.JoinAck number) follower admits = absurd admits

few-of : (entry : Entry) (saved : Saved) → CanApply entry saved → HasRoom (Some saved)
few-of (Called client seq now call) saved can = can.0.few
few-of (Receipted client key through now) saved can = can.0.few

pub can-receive : (next : Message) (follower : Option Follower) (now : ℤ) → CanCome next follower → CanReceive next now (node_of follower) × HasRoom (node_of follower).replica.service
can-receive (message.Snapshot saved) None now can = (can, tt)
can-receive (message.Mirror number entry) (Some f) now can = (can.1, few-of entry f.saved can.1)
can-receive (message.Snapshot saved) (Some f) now can = absurd can
can-receive (message.Mirror number entry) None now can = absurd can
can-receive (message.Request client seq call) follower now can = absurd can
can-receive (message.Reply client seq reply) follower now can = absurd can
can-receive (message.Item client key item) follower now can = absurd can
can-receive (message.Receipt client key through) follower now can = absurd can
can-receive (message.MirrorAck number) follower now can = absurd can
can-receive (message.JoinAck number) follower now can = absurd can

pub receives-room : (next : Message) (old : Node) (now : ℤ) → (follower : Option Follower) × (old ≡ node_of follower) → Admits next old → CanReceive next now old × HasRoom old.replica.service
receives-room next old now follows admits =
    subst (λ (node : Node). CanReceive next now node × HasRoom node.replica.service) (sym follows.1)
    (can-receive next follows.0 now (admits-can next follows.0 (subst (λ (node : Node). Admits next node) follows.1 admits)))

pub followed-some : (next : Message) (text : List ℕ) (old new : Node) (entry : Option Entry) (before after : List Entry) (number : ℕ) → ReadsSome text old next → IsTaken next old new entry
    → after ≡ before ++ option_to_list entry → number ≡ number_behind next → HasFollowed true text old new before after number
followed-some next text old new entry before after number reads takes grown count = record {
  followed = λ follower is.
      let can = admits-can next follower (subst (λ (node : Node). Admits next node) is reads.admits) in
      let done = takes.taken follower is in
      (next, reads.spells, can, done.0, grown ∙ ap (λ l. before ++ l) done.1, count);
}

pub followed-none : (text : List ℕ) (old new : Node) (before after : List Entry) (number : ℕ) → ReadsNone text old → HasFollowed false text old new before after number
followed-none text old new before after number reads = record {
  followed = λ follower is next spells can. reads.none next spells (subst (λ (node : Node). Admits next node) (sym is) (can-admits next follower can));
}

pub reads-some : (text : List ℕ) (node : Node) (found : Option Message) (next : Message) → found ≡ Some next → ReadsNext text node found → ReadsSome text node next
reads-some text node found next is reads = subst (ReadsNext text node) is reads

pub reads-none : (text : List ℕ) (node : Node) (found : Option Message) → found ≡ None → ReadsNext text node found → ReadsNone text node
reads-none text node found is reads = subst (ReadsNext text node) is reads
