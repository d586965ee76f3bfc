-- Words of public clauses: which entries can follow a history, and which lists of entries are histories.
use Rattle.std.specs.Prelude.{◌≡◌, ℕ, ◌<◌, ◌≤◌, ℤ, true, List, [], ◌∷◌, length}
use Rattle.ais_values.specs.Bounds.{most_entries}
use Rattle.calls.specs.declared.entry.Entry.{Entry}
use Rattle.calls.specs.declared.entry.Entry.TheVariants.{Called, Receipted}
use Rattle.plain_service.specs.Setups.{Setup, IsMoment, CanBegin}
use Rattle.plain_service.specs.Replies.{next_number}
use Rattle.plain_service.specs.Items.{is_new_receipt}

-- a client's number: 1 to 4,096
pub record IsClient (client : ℕ) : Type 0 where
  pub from : 1 ≤ client
  pub to : client ≤ 4096

-- an entry of a client can be accepted at a moment: fewer than 4,000,000,000 stand before it
pub record CanAccept (client : ℕ) (now : ℤ) (past : List Entry) : Type 0 where
  pub caller : IsClient client
  pub time : IsMoment now
  pub few : length past < most_entries

-- a call can follow where it has the number of its client's next one, and a receipt where it is new
abbrev pub CanFollow : Setup → Entry → List Entry → Type 0
CanFollow setup (Called client seq now call) past = CanAccept client now past × (seq ≡ next_number client past)
CanFollow setup (Receipted client key through now) past =
    CanAccept client now past × (is_new_receipt setup past client key through ≡ true)

-- each entry could follow those before it
abbrev pub IsHistory : Setup → List Entry → Type 0
IsHistory setup [] = CanBegin setup
IsHistory setup (entry ∷ past) = CanFollow setup entry past × IsHistory setup past
