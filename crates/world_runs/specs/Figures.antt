-- Words of public clauses: the figures of a large run of two servers, and the line that tells them.
use Rattle.std.specs.Prelude.{◌≡◌, ℕ, zero, suc, ◌+◌, ◌-◌, Bool, true, false, cond, List, [], ◌∷◌, ◌++◌, length, count_by, sum_by, codes}
use Rattle.std.specs.Fmt.{decimal}
use Rattle.std.specs.Option.{option_map_or}
use Rattle.disk_model.specs.Disk.{Files}
use Rattle.disk_model.specs.declared.answers.DiskAnswer.{DiskAnswer}
use Rattle.disk_model.specs.declared.answers.DiskAnswer.TheVariants as answer
use Rattle.script_grammar.specs.Writing.{joined}
use Rattle.script_lines.specs.declared.line.Server.TheVariants.{A, B}
use Rattle.cluster_facts.specs.Types.{Message, Request}
use Rattle.cluster_facts.specs.Messages.{Posting, Spelled, Raw, messages_in}
use Rattle.cluster_facts.specs.Agents.{Agent, resent}
use Rattle.cluster_facts.specs.History.{committed}
use Rattle.cluster_facts.specs.World.{World, posting_at}
use Rattle.cluster_events.specs.declared.lines.ServerRole.{ServerRole}
use Rattle.cluster_events.specs.Servers.{State}
use Rattle.cluster_clients.specs.declared.fetching.Fetched.{Fetched}
use Rattle.cluster_clients.specs.declared.fetching.Fetched.TheVariants.{Whole, Bad}
use Rattle.cluster_clients.specs.Files.{sizes_of}
use Rattle.group_cluster.specs.Seats.{Peers, role_of}
use Rattle.event_text.specs.Texts.{line_end, role_text}
use Rattle.played_runs.specs.declared.passing.Halt.{Halt}
use Rattle.played_runs.specs.declared.passing.Halt.TheVariants.{Memory, DiskFault}
use Rattle.load_runs.specs.Loading.{bytes_in}
use Rattle.world_runs.specs.declared.figures.Held.{Held}

-- how many of these messages are requests
abbrev pub is_request : Message → Bool
is_request (Request client number call) = true
is_request _ = false

abbrev pub requests_in : List Message → ℕ
requests_in messages = count_by is_request messages

-- how many requests the agents of these clients would send again: those of the calls whose reply they have not taken
abbrev pub requests_again : (ℕ → Agent) → List ℕ → ℕ
requests_again agents clients = sum_by (λ client. requests_in (resent client (agents client))) clients

-- how many replies were taken: each request that stands in the net and is not sent again has its reply
abbrev pub replies_taken : World → ℕ
replies_taken world = requests_in (messages_in world.net) - requests_again world.agents world.clients

-- how long the history is, the replies taken, how long the net is, the number of files and the sum of their lengths, and the roles
abbrev pub load_line : (entries replies net files bytes : ℕ) → (a b : ServerRole) → List ℕ
load_line entries replies net files bytes a b =
    joined (
    codes "load entries=" ∷ decimal entries
    ∷ codes " replies=" ∷ decimal replies
    ∷ codes " net=" ∷ decimal net
    ∷ codes " files=" ∷ decimal files
    ∷ codes " bytes=" ∷ decimal bytes
    ∷ codes " a=" ∷ role_text a
    ∷ codes " b=" ∷ role_text b
    ∷ line_end ∷ []
    )

-- the same of a state
abbrev pub state_line : State Peers → (files bytes : ℕ) → List ℕ
state_line state files bytes =
    load_line (length (committed state.world.core)) (replies_taken state.world) (length state.world.net) files bytes (role_of A state.peers)
    (role_of B state.peers)

-- The line that is printed.

-- whether a byte string of a net is a request
abbrev pub is_posted_request : Posting → Bool
is_posted_request (Spelled message) = is_request message
is_posted_request (Raw bytes front why) = false

abbrev pub is_fetched_request : Fetched → Bool
is_fetched_request (Whole message) = is_request message
is_fetched_request (Bad front why) = false

-- whether the one at a place is
abbrev pub is_request_at : ℕ → List Posting → Bool
is_request_at place net = option_map_or is_posted_request (posting_at place net) false

-- how many requests stand at the first places
abbrev pub requests_up_to : ℕ → List Posting → ℕ
requests_up_to zero net = 0
requests_up_to (suc place) net = requests_up_to place net + cond (is_request_at (suc place) net) 1 0

-- so many files and bytes more than before, which are those of the file of a name, if it has a length
pub record CountsFile (held : Files) (name : List ℕ) (before after : Held) : Type 0 where
  pub files : after.files ≡ before.files + length (sizes_of held (name ∷ []))
  pub bytes : after.bytes ≡ before.bytes + bytes_in (sizes_of held (name ∷ []))

-- the first names of the files of a disk are counted, where it tells them
pub record CountsFront (held : Files) (names : List (List ℕ)) (counted : Held) : Type 0 where
  pub files : counted.files ≡ length (sizes_of held names)
  pub bytes : counted.bytes ≡ bytes_in (sizes_of held names)

-- why a run halts where names were not told
abbrev pub halt_of : DiskAnswer → Halt
halt_of answer.Failed = DiskFault
halt_of _ = Memory

-- the parts of the line: on the world, on the files, on the servers
abbrev pub world_text : (entries replies net : ℕ) → List ℕ
world_text entries replies net =
    codes "load entries=" ++ (decimal entries ++ (codes " replies=" ++ (decimal replies ++ (codes " net=" ++ decimal net))))

abbrev pub files_text : (files bytes : ℕ) → List ℕ
files_text files bytes = codes " files=" ++ (decimal files ++ (codes " bytes=" ++ decimal bytes))

abbrev pub roles_text : (a b : List ℕ) → List ℕ
roles_text a b = codes " a=" ++ (a ++ (codes " b=" ++ (b ++ codes "\n")))
