-- Words of public clauses: what is told of a message that an active server heard, and of its work.
use Rattle.std.specs.Prelude.{◌≡◌, ℕ, suc, Option, Some, None, List, [], ◌∷◌, ◌++◌, length}
use Rattle.wire.specs.declared.message.Message.{Message}
use Rattle.cluster_facts.specs.Types.{Entry}
use Rattle.cluster_events.specs.declared.lines.Why.{Why}
use Rattle.cluster_events.specs.declared.lines.Why.TheVariants.{OldRequest, AheadRequest, Busy, DoneReceipt}
use Rattle.event_text.specs.Texts.{entry_line, ignored_line}
use Rattle.cluster_clients.specs.Posted.{PostsAll}
use Rattle.mirror.specs.declared.heard.Why.{Why as Reason}
use Rattle.mirror.specs.declared.heard.Why.TheVariants.{Old, Ahead, Busy as BusyWith, Done, NotForRole}
use Rattle.mirror.specs.declared.heard.Outcome.{Outcome}
use Rattle.mirror.specs.declared.heard.Outcome.TheVariants.{Ignored}
use Rattle.mirror.specs.declared.heard.Heard.{Heard}

-- an entry is committed, if there is one
abbrev pub Commits : Option Entry → List Entry → List Entry → List (List ℕ) → List (List ℕ) → Type 0
Commits None old new before after = (new ≡ old) × (after ≡ before)
Commits (Some entry) old new before after =
    (new ≡ entry ∷ old) × (after ≡ before ++ entry_line (suc (length old)) entry ∷ [])

-- the first message of a list is taken, if there is one
abbrev pub TakesFirst : Option Message → List Message → List Message → Type 0
TakesFirst None old new = (old ≡ []) × (new ≡ [])
TakesFirst (Some message) old new = old ≡ message ∷ new

-- why a server ignored a request or a receipt, as lines tell it
abbrev pub reason_of : Reason → Option Why
reason_of Old = Some OldRequest
reason_of Ahead = Some AheadRequest
reason_of (BusyWith number) = Some (Busy number)
reason_of Done = Some DoneReceipt
reason_of (NotForRole role) = None

abbrev pub reason_lines : ℕ → Option Why → List (List ℕ)
reason_lines place None = []
reason_lines place (Some why) = ignored_line place why ∷ []

abbrev pub outcome_lines : ℕ → Outcome → List (List ℕ)
outcome_lines place (Ignored why) = reason_lines place (reason_of why)
outcome_lines place _ = []

-- what the active server heard is told: what it posts, why it ignored the message, and what it commits
pub record IsTold (place : ℕ) (heard : Heard) (old_net new_net : List (List ℕ)) (old new : List Entry) (before after : List (List ℕ)) : Type 0 where
  pub between : List (List ℕ)
  pub posts : PostsAll heard.to_net old_net new_net before between
  pub commits : Commits heard.committed old new (between ++ outcome_lines place heard.outcome) after
