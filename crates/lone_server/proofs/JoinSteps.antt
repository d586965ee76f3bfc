-- The entry that is first on the way joins the journal, by how the append ended.
use Rattle.std.proofs.Common.{◌≡◌, ◌↔◌, inl, inr, ℕ, Bool, true, false, IsTrue, ◌==◌, Option, Some, None, List, [], ◌∷◌, length, refl, ap, sym, subst, ◌∙◌}
use Rattle.std.specs.Prelude.{Ok, Err}
use Rattle.std.proofs.lemmas.Bool.Decides.{eqb_tells}
use Rattle.disk_model.specs.Seen.{DiskSeen}
use Rattle.disk_model.specs.declared.answers.DiskAnswer.TheVariants.{Memory}
use Rattle.calls.specs.declared.entry.Entry.{Entry}
use Rattle.wire.specs.declared.message.Message.{Message}
use Rattle.wire.specs.Mirrored.{entry_in}
use Rattle.lead_server.specs.Told.{Commits}
use Rattle.lone_server.specs.declared.lone.Lone.{Lone}
use Rattle.lone_server.specs.Appends.{AppendsCalls, JoinsFirst, LosesFirst, confirmed_by}
use Rattle.lone_server.specs.Falls.{downed}
use Rattle.lone_server.specs.Joining.{CommitsJoined, CommitsOrNot, FirstOrNot, JoinLacks, JoinsOne, JoinsOver}

pub commits-one : (number : ℕ) (entry : Entry) (old new : Lone) (past reserved entries : List Entry) (before after : List (List ℕ)) → reserved ≡ past → Commits (Some entry) reserved entries before after → new ≡ confirmed_by number old → CommitsJoined (Some (number, entry)) old new past entries before after
commits-one number entry old new past reserved entries before after same commits is =
    (is, subst (λ (p : List Entry). Commits (Some entry) p entries before after) same commits)

or-same : (found : Option (ℕ × Entry)) (past entries : List Entry) → entries ≡ past → CommitsOrNot found past entries
or-same None past entries same = same
or-same (Some found) past entries same = inl same

-- nothing was committed
pub first-same : (link : List Message) (past entries : List Entry) → entries ≡ past → FirstOrNot link past entries
first-same [] past entries same = same
first-same (message ∷ rest) past entries same = or-same (entry_in message) past entries same

-- an entry that is committed is so or not
pub commits-or : (found : Option (ℕ × Entry)) (old new : Lone) (past entries : List Entry) (before after : List (List ℕ)) → CommitsJoined found old new past entries before after → CommitsOrNot found past entries
commits-or None old new past entries before after commits = commits.1
commits-or (Some found) old new past entries before after commits = inr commits.1.0

-- the first one was, or not
pub first-or : (link : List Message) (message : Message) (rest : List Message) (past entries : List Entry) → link ≡ message ∷ rest → CommitsOrNot (entry_in message) past entries → FirstOrNot link past entries
first-or link message rest past entries first commits = subst (λ (l : List Message). FirstOrNot l past entries) (sym first) commits

pub joins-one : (message : Message) (old mid new : Lone) (past entries : List Entry) (before put after : List (List ℕ)) → JoinsFirst message old mid → put ≡ before → CommitsJoined (entry_in message) mid new past entries put after → JoinsOne old new past entries before after
joins-one message old mid new past entries before put after joins same commits =
    let C : Lone → List (List ℕ) → Type 0 = λ servers lines. CommitsJoined (entry_in message) servers new past entries lines after in
    record {
      message = message;
      rest = joins.rest;
      first = joins.first;
      can = joins.can;
      commits = subst (λ servers. C servers before) joins.is (subst (λ lines. C mid lines) same commits);
    }

-- the server goes down whose message was lost
pub downs : (old mid new : Lone) → LosesFirst old mid → new ≡ downed mid → new ≡ downed old
downs old mid new loses is = is ∙ ap downed loses.is

-- where memory ran out the server is armed as it was
pub lacks-armed : (old new : Lone) (past entries : List Entry) (held left : DiskSeen) → JoinLacks old new past entries held left → new.armed ≡ old.armed
lacks-armed old new past entries held left (inl same) = ap (λ (servers : Lone). servers.armed) same.0
lacks-armed old new past entries held left (inr (inl loses)) = ap (λ (servers : Lone). servers.armed) loses.0.is
lacks-armed old new past entries held left (inr (inr joins)) = ap (λ (servers : Lone). servers.armed) joins.1.is

-- whether nothing is on the way
pub clear-is : (list : List Message) (answer : Bool) → answer ≡ (length list == 0) → IsTrue answer ↔ (list ≡ [])
clear-is list answer is = elim (eqb_tells (length list) 0) [
  | inl tells ↦ (λ told. none-of list tells.1, λ none. is ∙ tells.0)
  | inr tells ↦ (λ told. let no : true ≡ false = sym told ∙ is ∙ tells.0 in cc, λ none. absurd (tells.1 (ap length none)))
]
  where
    none-of : (messages : List Message) → length messages ≡ 0 → messages ≡ []
    none-of [] same = refl
    none-of (message ∷ rest) same = cc

-- What the disks are left as.

pub empty-over : (link : List Message) (end : ℕ) (past entries : List Entry) (disk held : DiskSeen) → link ≡ [] → entries ≡ past → JoinsOver link end past entries (Ok false) disk disk held held
empty-over link end past entries disk held none same = record {
  appended = Ok None;
  mid = held;
  calls = subst (λ (l : List Message). AppendsCalls {T = Option Message} l end (Ok None) held held) (sym none) (refl, refl);
  joins = tt;
  ends = refl;
  history = first-same link past entries same;
  journal = refl;
  disk = refl;
}

pub lacks-over : (link : List Message) (end : ℕ) (past entries : List Entry) (disk held : DiskSeen) → (link ≡ [] → ⊥) → entries ≡ past → JoinsOver link end past entries (Err Memory) disk disk held held
lacks-over [] end past entries disk held some same = absurd (some refl)
lacks-over (message ∷ rest) end past entries disk held some same =
    record { appended = Err Memory; mid = held; calls = inl (refl, refl, refl); joins = inl refl; ends = tt; history = same; journal = refl; disk = refl }
