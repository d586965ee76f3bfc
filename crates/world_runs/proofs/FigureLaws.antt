-- The figures of a large run.
use Rattle.std.proofs.Common.{◌≡◌, ℕ, zero, suc, ◌+◌, ◌-◌, ◌<◌, ◌≤◌, ◌==◌, Bool, true, false, cond, List, [], ◌∷◌, ◌++◌, length, take, get_or, Option, Some, None, refl, ap, ap₂, sym, ◌∙◌, subst, arith, add-one, append_assoc}
use Rattle.std.specs.Prelude.{codes, IfSome, option_map}
use Rattle.std.specs.Fmt.{decimal}
use Rattle.std.specs.FinMap.{keys}
use Rattle.std.specs.Int.{from_bool}
use Rattle.std.specs.List.{cons_option}
use Rattle.std.specs.Option.{option_map_or}
use Rattle.std.proofs.lemmas.Bool.{eq-eqb, ne_eqb}
use Rattle.std.proofs.lemmas.List.{length-append, take_more}
use Rattle.std.proofs.lemmas.List.Elements.{filter_map-append}
use Rattle.std.proofs.lemmas.List.Sums.{sum_by-append, sum_by-cons, sum_by_more}
use Rattle.disk_model.specs.Counts.{read_more}
use Rattle.disk_model.specs.Disk.{Files, length_of}
use Rattle.disk_model.specs.declared.tally.Tally.{Tally}
use Rattle.plain_service.specs.Setups.{Setup}
use Rattle.script_lines.specs.declared.line.Server.{Server}
use Rattle.script_lines.specs.declared.line.Server.TheVariants.{A, B, C}
use Rattle.cluster_facts.specs.Types.{Message}
use Rattle.cluster_facts.specs.Agents.{Agent, resent}
use Rattle.cluster_facts.specs.Messages.{Posting, Spelled, Raw, messages_in}
use Rattle.cluster_facts.specs.History.{committed}
use Rattle.cluster_facts.specs.World.{World as WorldOf, posting_at}
use Rattle.cluster_events.specs.declared.lines.ServerRole.{ServerRole}
use Rattle.cluster_events.specs.Servers.{State}
use Rattle.client_agent.specs.Seen.{Seen, seen_of}
use Rattle.cluster_clients.specs.Clients.{ShowsAgents, seen_all}
use Rattle.cluster_clients.specs.declared.fetching.Fetched.{Fetched}
use Rattle.cluster_clients.specs.declared.fetching.Fetched.TheVariants.{Whole, Bad}
use Rattle.cluster_clients.specs.Files.{sizes_of}
use Rattle.cluster_clients.specs.Looks.{ListCalls, Looks}
use Rattle.cluster_clients.specs.Spelled.{AreSpelled, IsFetched}
use Rattle.cluster_clients.proofs.PostingSteps.{spelled-length}
use Rattle.event_text.specs.Texts.{role_text}
use Rattle.lead_server.specs.Roles.{role_shown}
use Rattle.group_cluster.specs.Seats.{Peers, role_of}
use Rattle.group_servers.specs.declared.group.Group.{Group}
use Rattle.group_servers.specs.Standing.{role_in}
use Rattle.group_servers.proofs.StandingSteps.{role-is}
use Rattle.cluster_core.specs.declared.world.World.{World}
use Rattle.cluster_core.specs.Worlds.{Shows, parts_of}
use Rattle.played_runs.proofs.PassingSteps.{take-all}
use Rattle.world_runs.specs.declared.figures.Held.{Held}
use Rattle.load_runs.specs.Loading.{all_files, bytes_in}
use Rattle.world_runs.specs.Figures.{is_request, load_line, replies_taken, requests_again, requests_in, state_line}
use Rattle.world_runs.specs.Figures.{CountsFile, CountsFront, files_text, is_fetched_request, is_posted_request, is_request_at, requests_up_to, roles_text, world_text}

-- Requests in a net.

-- what was found at a place
pub fetched-at : (place : ℕ) (net : List (List ℕ)) (found : Option Fetched) → IsFetched place net found → (postings : List Posting) → AreSpelled postings net → is_request_at place postings ≡ option_map_or is_fetched_request found false
fetched-at place net None fetched postings spelled = ap (λ (o : Option Posting). option_map_or is_posted_request o false) (fetched postings spelled)
fetched-at place net (Some (Whole message)) fetched postings spelled = ap (λ (o : Option Posting). option_map_or is_posted_request o false) (fetched.1 postings spelled)
fetched-at place net (Some (Bad front why)) fetched postings spelled =
    ap (λ (o : Option Posting). option_map_or is_posted_request o false) (fetched postings spelled).1

is_request-below : (posting : Posting) (net : List Posting) (place : ℕ) → place ≤ length net → is_request_at place (posting ∷ net) ≡ is_request_at place net
is_request-below posting net place low =
    let other : (place == suc (length net)) ≡ false = ne_eqb place (suc (length net)) (λ same. omega (arith, same)) in
    ap (λ (b : Bool). option_map_or is_posted_request (cond b (Some posting) (posting_at place net)) false) other

up_to-below : (posting : Posting) (net : List Posting) (place : ℕ) → place ≤ length net → requests_up_to place (posting ∷ net) ≡ requests_up_to place net
up_to-below posting net zero low = refl
up_to-below posting net (suc place) low =
    ap₂ (λ (n : ℕ) (b : Bool). n + cond b 1 0) (up_to-below posting net place (omega arith)) (is_request-below posting net (suc place) low)

-- the newest one behind those before it
up_to-newest : (posting : Posting) (net : List Posting) → requests_up_to (suc (length net)) (posting ∷ net) ≡ requests_up_to (length net) net + cond (is_posted_request posting) 1 0
up_to-newest posting net =
    let count = length net in
    let own : (suc count == suc count) ≡ true = eq-eqb (suc count) (suc count) refl in
    let newest : is_request_at (suc count) (posting ∷ net) ≡ is_posted_request posting = ap (λ (b : Bool). option_map_or is_posted_request (cond b (Some posting) (posting_at (suc count) net)) false) own in
    ap₂ (λ (n : ℕ) (b : Bool). n + cond b 1 0) (up_to-below posting net count (omega arith)) newest

-- those at all places are those of the net
up_to-all : (net : List Posting) → requests_up_to (length net) net ≡ requests_in (messages_in net)
up_to-all [] = refl
up_to-all (Spelled message ∷ net) =
    let messages = messages_in net in
    omega (arith, up_to-newest (Spelled message) net, up_to-all net, sum_by-cons (λ (one : Message). cond (is_request one) 1 0) message messages)
up_to-all (Raw bytes front why ∷ net) = omega (arith, up_to-newest (Raw bytes front why) net, up_to-all net)

pub up_to-net : (postings : List Posting) (net : List (List ℕ)) (place count : ℕ) → AreSpelled postings net → place ≡ length net → count ≡ requests_up_to place postings → count ≡ requests_in (messages_in postings)
up_to-net postings net place count spelled last is =
    is ∙ ap (λ (n : ℕ). requests_up_to n postings) (last ∙ sym (spelled-length postings net spelled)) ∙ up_to-all postings

-- a test as a number
byte-is : (found : Bool) → from_bool found ≡ cond found 1 0
byte-is true = refl
byte-is false = refl

pub byte-low : (found : Bool) → from_bool found ≤ 1
byte-low true = omega arith
byte-low false = omega arith

-- one more message
abbrev request_count : Message → ℕ
request_count message = cond (is_request message) 1 0

pub requests-next : (messages : List Message) (place count : ℕ) (message : Message) (found : Bool) → place < length messages → message ≡ get_or messages place message → found ≡ is_request message → count ≡ requests_in (take place messages) → count + from_bool found ≡ requests_in (take (place + 1) messages)
requests-next messages place count message found inside is tells before =
    let more : requests_in (take (place + 1) messages) ≡ requests_in (take place messages) + request_count (get_or messages place message) = sum_by_more request_count messages place message inside in
    let same : request_count message ≡ request_count (get_or messages place message) = ap request_count is in
    let byte : from_bool found ≡ request_count message = byte-is found ∙ ap (λ (b : Bool). cond b 1 0) tells in
    omega (arith, more, same, byte, before)

-- Requests that agents send again.

abbrev again : (ℕ → Agent) → ℕ → ℕ
again agents client = requests_in (resent client (agents client))

-- the agent at a place
agent-at : (places : ℕ) (agents : ℕ → Agent) (clients : List ℕ) (place : ℕ) (seen : Seen) → place < length (seen_all places agents clients) → seen ≡ get_or (seen_all places agents clients) place seen → (client : ℕ) × (seen ≡ seen_of client places (agents client)) × (take (suc place) clients ≡ take place clients ++ client ∷ [])
agent-at places agents [] place seen inside is = let no : place < 0 = inside in absurd (omega arith)
agent-at places agents (client ∷ clients) zero seen inside is = (client, is, refl)
agent-at places agents (client ∷ clients) (suc place) seen inside is =
    let behind = agent-at places agents clients place seen (omega arith) is in
    (behind.0, behind.1, ap (λ (front : List ℕ). client ∷ front) behind.2)

pub again-next : (world : WorldOf) (all : List Seen) (place : ℕ) (seen : Seen) (sum count more : ℕ) → ShowsAgents world all → place < length all → seen ≡ get_or all place seen → ((client places : ℕ) (agent : Agent) → seen ≡ seen_of client places agent → count ≡ requests_in (resent client agent)) → more ≡ sum + count → sum ≡ requests_again world.agents (take place world.clients) → more ≡ requests_again world.agents (take (place + 1) world.clients)
again-next world all place seen sum count more shows inside is tells added before =
    let clients = world.clients in
    let shown = seen_all world.places world.agents clients in
    let within : place < length shown = subst (λ (list : List Seen). place < length list) shows.shown inside in
    let at = agent-at world.places world.agents clients place seen within (subst (λ (list : List Seen). seen ≡ get_or list place seen) shows.shown is) in
    let client = at.0 in
    let next : take (place + 1) clients ≡ take place clients ++ client ∷ [] = rw add-one at.2 in
    let one : count ≡ again world.agents client = tells client world.places (world.agents client) at.1 in
    let both : requests_again world.agents (take (place + 1) clients) ≡ requests_again world.agents (take place clients) + requests_again world.agents (client ∷ []) = ap (requests_again world.agents) next ∙ sum_by-append (again world.agents) (take place clients) (client ∷ []) in
    omega (arith, added, before, one, both, sum_by-cons (again world.agents) client [])

seen-length : (places : ℕ) (agents : ℕ → Agent) (clients : List ℕ) → length (seen_all places agents clients) ≡ length clients
seen-length places agents [] = refl
seen-length places agents (client ∷ clients) = ap suc (seen-length places agents clients)

pub again-all : (world : WorldOf) (all : List Seen) (place sum : ℕ) → ShowsAgents world all → length all ≤ place → sum ≡ requests_again world.agents (take place world.clients) → sum ≡ requests_again world.agents world.clients
again-all world all place sum shows last is =
    let count : length all ≡ length world.clients = ap length shows.shown ∙ seen-length world.places world.agents world.clients in
    is ∙ ap (requests_again world.agents) (take-all world.clients place (omega (arith, count)))

-- Files.

pub files-next : (held mid : Option Files) (names : List (List ℕ)) (place : ℕ) (name : List ℕ) (counted more : Held) → mid ≡ held → place < length names → name ≡ get_or names place name → IfSome mid (λ told. CountsFile told name counted more) → IfSome held (λ told. CountsFront told (take place names) counted) → IfSome held (λ told. CountsFront told (take (place + 1) names) more)
files-next None mid names place name counted more same inside is counts before = tt
files-next (Some told) mid names place name counted more same inside is counts before =
    let now : CountsFile told name counted more = subst (λ (one : Option Files). IfSome one (λ held. CountsFile held name counted more)) same counts in
    let parts : take (place + 1) names ≡ take place names ++ name ∷ [] = take_more names place name inside ∙ ap (λ (one : List ℕ). take place names ++ one ∷ []) (sym is) in
    let front = sizes_of told (take place names) in
    let last = sizes_of told (name ∷ []) in
    let both : sizes_of told (take (place + 1) names) ≡ front ++ last = ap (sizes_of told) parts ∙ filter_map-append (λ (one : List ℕ). option_map (λ size. (one, size)) (length_of told one)) (take place names) (name ∷ []) in
    let lengths = length-append front last in
    let sums = sum_by-append (λ (file : List ℕ × ℕ). file.1) front last in
    record {
      files = now.files ∙ ap (λ (n : ℕ). n + length last) before.files ∙ sym lengths ∙ sym (ap (λ (l : List (List ℕ × ℕ)). length l) both);
      bytes = now.bytes ∙ ap (λ (n : ℕ). n + bytes_in last) before.bytes ∙ sym sums ∙ sym (ap bytes_in both);
    }

-- one file
pub file-none : (held : Option Files) (name : List ℕ) (length_told : Option ℕ) (counted : Held) → length_told ≡ None → IfSome held (λ told. length_told ≡ length_of told name) → IfSome held (λ told. CountsFile told name counted counted)
file-none None name size counted none tells = tt
file-none (Some told) name size counted none tells =
    let absent : length_of told name ≡ None = sym tells ∙ none in
    let S : Option ℕ → List (List ℕ × ℕ) = λ one. cons_option (option_map (λ size. (name, size)) one) [] in
    let nothing : sizes_of told (name ∷ []) ≡ [] = ap S absent in
    record { files = omega (arith, ap (λ (l : List (List ℕ × ℕ)). length l) nothing); bytes = omega (arith, ap bytes_in nothing) }

pub file-some : (held : Option Files) (name : List ℕ) (length_told : Option ℕ) (size : ℕ) (counted more : Held) → length_told ≡ Some size → IfSome held (λ told. length_told ≡ length_of told name) → more.files ≡ counted.files + 1 → more.bytes ≡ counted.bytes + size → IfSome held (λ told. CountsFile told name counted more)
file-some None name length_told size counted more some tells files bytes = tt
file-some (Some told) name length_told size counted more some tells files bytes =
    let there : length_of told name ≡ Some size = sym tells ∙ some in
    let S : Option ℕ → List (List ℕ × ℕ) = λ one. cons_option (option_map (λ size. (name, size)) one) [] in
    let one : sizes_of told (name ∷ []) ≡ (name, size) ∷ [] = ap S there in
    let sum : bytes_in ((name, size) ∷ []) ≡ size + 0 = sum_by-cons (λ (file : List ℕ × ℕ). file.1) (name, size) [] in
    record { files = files ∙ ap (λ (n : ℕ). counted.files + n) (sym (ap (λ (l : List (List ℕ × ℕ)). length l) one)); bytes = omega (arith, bytes, ap bytes_in one, sum) }

-- all files, where the disk tells them
pub counts-all : (held : Option Files) (counted : Held) → IfSome held (λ told. CountsFront told (keys told) counted) → IfSome held (λ told. (counted.files ≡ length (all_files told)) × (counted.bytes ≡ bytes_in (all_files told)))
counts-all None counted all = tt
counts-all (Some told) counted all = (all.files, all.bytes)

-- Roles, and the line.

shown-a : (acting : Server) (world : World) → role_shown world.armed world.a.replica.role ≡ role_in A (parts_of acting world).servers
shown-a A world = refl
shown-a B world = refl
shown-a C world = refl

shown-b : (acting : Server) (world : World) → role_shown world.armed world.b.replica.role ≡ role_in B (parts_of acting world).servers
shown-b A world = refl
shown-b B world = refl
shown-b C world = refl

-- the line by its parts, each of which is that of the state
abbrev pub line_of : (entries replies net files bytes : ℕ) → (a b : List ℕ) → List ℕ
line_of entries replies net files bytes a b =
    codes "load entries=" ++ (decimal entries ++ (codes " replies=" ++ (decimal replies ++ (codes " net=" ++ (decimal net ++ (codes " files=" ++ (decimal files ++ (codes " bytes=" ++ (decimal bytes ++ (codes " a=" ++ (a ++ (codes " b=" ++ (b ++ codes "\n")))))))))))))

-- its parts are made one by one
pub line-joined : (entries replies net files bytes : ℕ) (a b : List ℕ) → world_text entries replies net ++ files_text files bytes ++ roles_text a b ≡ line_of entries replies net files bytes a b
line-joined entries replies net files bytes a b =
    let listed = files_text files bytes in
    let roles = roles_text a b in
    append_assoc (world_text entries replies net) listed roles
    ∙ ap (λ (text : List ℕ). codes "load entries=" ++ text)
    (append_assoc (decimal entries) (codes " replies=" ++ (decimal replies ++ (codes " net=" ++ decimal net))) (listed ++ roles)
    ∙ ap (λ (text : List ℕ). decimal entries ++ (codes " replies=" ++ text))
    (append_assoc (decimal replies) (codes " net=" ++ decimal net) (listed ++ roles)
    ∙ ap (λ (text : List ℕ). decimal replies ++ (codes " net=" ++ (decimal net ++ (codes " files=" ++ text)))) (append_assoc (decimal files) (codes " bytes=" ++ decimal bytes) roles)))

line-by : (entries replies net files bytes : ℕ) (a b : ServerRole) → line_of entries replies net files bytes (role_text a) (role_text b) ≡ load_line entries replies net files bytes a b
line-by entries replies net files bytes a b = refl

pub line-told : (setup : Setup) (state : State Peers) (world : World) (files bytes requests sent entries replies net : ℕ) (a b : List ℕ) → Shows setup state world → requests ≡ requests_in (messages_in state.world.net) → sent ≡ requests_again state.world.agents state.world.clients → entries ≡ length world.history.entries → replies ≡ requests - sent → net ≡ length world.net → a ≡ role_text (role_shown world.armed world.a.replica.role) → b ≡ role_text (role_shown world.armed world.b.replica.role) → line_of entries replies net files bytes a b ≡ state_line state files bytes
line-told setup state world files bytes requests sent entries replies net a b shows asked again entries-is replies-is net-is a-is b-is =
    let acting = state.peers.acting in
    let role-a : a ≡ role_text (role_of A state.peers) = a-is ∙ ap role_text (shown-a acting world ∙ ap (λ (s : Group 2). role_in A s) shows.own ∙ role-is 2 setup state A) in
    let role-b : b ≡ role_text (role_of B state.peers) = b-is ∙ ap role_text (shown-b acting world ∙ ap (λ (s : Group 2). role_in B s) shows.own ∙ role-is 2 setup state B) in
    let count : net ≡ length state.world.net = net-is ∙ sym (spelled-length state.world.net world.net shows.net) in
    let past : entries ≡ length (committed state.world.core) = entries-is ∙ ap length shows.history in
    let taken : replies ≡ replies_taken state.world = replies-is ∙ ap₂ (λ (n m : ℕ). n - m) asked again in
    (λ i. line_of (past i) (taken i) (count i) files bytes (role-a i) (role-b i))
    ∙ line-by (length (committed state.world.core)) (replies_taken state.world) (length state.world.net) files bytes (role_of A state.peers) (role_of B state.peers)

-- How often the disk is asked as its files are counted: for their names, and for the length of each.

-- the names, where the disk tells its files
abbrev pub names_in : Option Files → List (List ℕ)
names_in None = []
names_in (Some told) = keys told

pub names-told_in : (held : Option Files) → IfSome held (λ told. names_in held ≡ keys told)
names-told_in None = tt
names-told_in (Some told) = refl

all-due : (held : Option Files) (names : List (List ℕ)) → IfSome held (λ told. names ≡ keys told) → ListCalls held (suc (length names))
all-due None names listed = omega arith
all-due (Some told) names listed = ap (λ (all : List (List ℕ)). suc (length all)) listed

pub looked-in : (held : Option Files) (names : List (List ℕ)) (made : ℕ) (done : Bool) (old new : Tally) → IfSome held (λ told. names ≡ keys told) → made ≤ suc (length names) → (done ≡ true → made ≡ suc (length names)) → new ≡ read_more made old → Looks (ListCalls held) done old new
looked-in held names made done old new listed within whole counted =
    record { due = suc (length names); is_due = all-due held names listed; made = made; within = within; whole = whole; counted = counted }

pub asked-next : (place : ℕ) (old mid new : Tally) → mid ≡ read_more (suc place) old → new ≡ read_more 1 mid → new ≡ read_more (suc (place + 1)) old
asked-next place old mid new before last =
    let same : suc (suc place) ≡ suc (place + 1) = omega arith in
    subst (λ (calls : ℕ). new ≡ read_more calls old) same (last ∙ ap (read_more 1) before)

-- some calls were made where all were
pub looks-some : (held : Option Files) (old new : Tally) → Looks (ListCalls held) true old new → Looks (ListCalls held) false old new
looks-some held old new looks = record {
  due = looks.due;
  is_due = looks.is_due;
  made = looks.made;
  within = looks.within;
  whole = λ done. absurd (cc);
  counted = looks.counted;
}
