-- Words of bodies alone: messages that have no effect while the server is down.
use Rattle.std.specs.Prelude.{◌≡◌, ℕ, Bool, false, not, Option, Some, None, List, [], ◌∷◌, ◌++◌}
use Rattle.service_laws.specs.PlainOf.{plain_of}
use Rattle.cluster_facts.specs.Types.{Message}
use Rattle.cluster_facts.specs.Messages.{Posting, Spelled, Raw}
use Rattle.cluster_facts.specs.Service.{Plain, IsPlain}
use Rattle.cluster_facts.specs.World.{number_of, posting_at}
use Rattle.cluster_events.specs.declared.lines.Why.TheVariants.{ServerDown}
use Rattle.event_text.specs.Texts.{ignored_line}
use Rattle.cluster_clients.specs.Spelled.{AreSpelled}
use Rattle.cluster_rounds.specs.Delivered.{is_for_agent}
use Rattle.cluster_rounds.specs.Kits.{device_by}
use Rattle.cluster_rounds.specs.Worlds.{Event}
use Rattle.cold_cluster.specs.Lines.{deliver_down, resend_down}
use Rattle.cold_servers.specs.ColdKit.{cold_kit}

-- what stands at a place of the net is a message, and not for an agent
abbrev pub is_asking : Option Posting → Bool
is_asking None = false
is_asking (Some (Spelled message)) = not (is_for_agent message)
is_asking (Some (Raw bytes front why)) = false

abbrev pub IsAskingAt : Bool → ℕ → List (List ℕ) → Type 0
IsAskingAt asking place net = (postings : List Posting) → AreSpelled postings net → asking ≡ is_asking (posting_at place postings)

-- the lines of messages without effect
abbrev pub ignored_all : Plain → List Message → List Posting → List (List ℕ)
ignored_all plain [] postings = []
ignored_all plain (message ∷ messages) postings =
    ignored_line (number_of plain message postings) ServerDown ∷ ignored_all plain messages postings

abbrev pub IgnoresAll : List Message → List (List ℕ) → List (List ℕ) → List (List ℕ) → Type 0
IgnoresAll messages net before after =
    (plain : Plain) (postings : List Posting) → IsPlain plain → AreSpelled postings net → after ≡ before ++ ignored_all plain messages postings

-- `deliver K` and `resend C` while the server is down
abbrev pub down_delivered : ℕ → Event cold_kit
down_delivered place setup state = deliver_down (plain_of setup) (device_by setup (λ number. 0)) place state

abbrev pub down_resent : ℕ → Event cold_kit
down_resent client setup state = resend_down (plain_of setup) client state
