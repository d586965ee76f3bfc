-- Standbys that try to take over, one after another.
use Rattle.std.proofs.Common.{◌≡◌, ℕ, ◌+◌, Bool, Option, None, option_map, Result, Ok, Err, List, [], ◌∷◌, length, sym, subst}
use Rattle.std.specs.Prelude.{IfOk, OnErr}
use Rattle.disk_model.specs.declared.answers.DiskAnswer.{DiskAnswer}
use Rattle.disk_model.specs.Seen.{DiskSeen}
use Rattle.group_servers.specs.Tries.{Tries, Furthers}
use Rattle.group_servers.specs.Tries.Tries.{nobody}
use Rattle.group_servers.specs.declared.group.Seat.{Seat}

pub furthered : (R S : Option ℕ → Type 0) (one more : Result (Option ℕ) DiskAnswer) → Furthers one more → ((found : Option ℕ) → R found → S (option_map (λ place. place + 1) found)) → IfOk one R → IfOk more S
furthered R S (Ok found) (Ok more) is step r = subst S (sym is) (step found r)
furthered R S (Err answer) (Err other) is step r = tt
furthered R S (Ok found) (Err other) is step r = absurd is
furthered R S (Err answer) (Ok more) is step r = absurd is

pub none-tries : (fresh : Bool) (seats : List Seat) (held : DiskSeen) → length seats ≡ 0 → Tries fresh seats seats None held held
none-tries fresh [] held none = nobody
none-tries fresh (seat ∷ seats) held none = cc

pub furthered-err : (P Q : Type 0) (one more : Result (Option ℕ) DiskAnswer) → Furthers one more → (P → Q) → OnErr one P → OnErr more Q
furthered-err P Q (Ok found) (Ok more) is step p = tt
furthered-err P Q (Err answer) (Err other) is step p = step p
furthered-err P Q (Ok found) (Err other) is step p = absurd is
furthered-err P Q (Err answer) (Ok more) is step p = absurd is
