-- What a confirmation of an entry comes to.
use Rattle.std.proofs.Common.{◌≡◌, pos, true, [], None, refl, sym, subst}
use Rattle.wire.specs.declared.message.Message.{Message}
use Rattle.wire.specs.declared.message.Message.TheVariants.{Request, Reply, Item, Receipt, Mirror, MirrorAck, Snapshot, JoinAck}
use Rattle.mirror.specs.declared.heard.Outcome.TheVariants.{Confirmed}
use Rattle.mirror.specs.declared.heard.Role.{Role}
use Rattle.mirror.specs.declared.heard.Role.TheVariants.{Active, Standby, Joining, Down}
use Rattle.mirror.specs.declared.state.NodeState.{NodeState as Node}
use Rattle.mirror.specs.Pairing.{IsReceived, confirmed, sent}
use Rattle.lead_server.specs.Confirming.{is_acknowledged}
use Rattle.lead_server.specs.Heard.{IsConfirmed}

pub confirms-so : (role : Role) (message : Message) (old new : Node) → old.replica.role ≡ role → is_acknowledged role message ≡ true → new ≡ confirmed old → IsConfirmed message old new
confirms-so Active (MirrorAck number) old new own is done =
    let R : Role → Type 0 = λ role. IsReceived role (MirrorAck number) (pos 0) old (sent [] None Confirmed) new in
    record { moment = pos 0; heard = sent [] None Confirmed; received = subst R (sym own) (refl, done) }
confirms-so Active (Request client number call) old new own is done = cc
confirms-so Active (Reply client number reply) old new own is done = cc
confirms-so Active (Item client key item) old new own is done = cc
confirms-so Active (Receipt client key through) old new own is done = cc
confirms-so Active (Mirror number entry) old new own is done = cc
confirms-so Active (Snapshot saved) old new own is done = cc
confirms-so Active (JoinAck number) old new own is done = cc
confirms-so Standby message old new own is done = cc
confirms-so Joining message old new own is done = cc
confirms-so Down message old new own is done = cc
