-- Words of public clauses: who uses the log service, and who has which stream open.
use Rattle.std.specs.Prelude.{ℕ, ◌==◌, nat_lt, Bool, false, not, ◌&&◌, ◌||◌, if◌then◌else◌, List, [], ◌∷◌}
use Rattle.client_set.specs.Rising.{put, without}
use Rattle.stream_config.specs.declared.attrs.StreamName.{StreamName}
use Rattle.stream_config.specs.Equality.{same_name}
use Rattle.log_history.specs.Changes.{LogChange, Began, Opened, Closed, Ended}

-- the client's last beginning or end is a beginning
abbrev pub is_using : List LogChange → ℕ → Bool
is_using [] client = false
is_using (Began one ∷ past) client = one == client || is_using past client
is_using (Ended one second ∷ past) client = not (one == client) && is_using past client
is_using (_ ∷ past) client = is_using past client

-- the client opened the stream of that name, and neither closed it nor ended since
abbrev pub is_open : List LogChange → StreamName → ℕ → Bool
is_open [] name client = false
is_open (Opened one opened making second number ∷ past) name client =
    same_name name opened && one == client || is_open past name client
is_open (Closed one closed second ∷ past) name client =
    not (same_name name closed && one == client) && is_open past name client
is_open (Ended one second ∷ past) name client = not (one == client) && is_open past name client
is_open (_ ∷ past) name client = is_open past name client

-- the clients that use the service, rising
abbrev pub users : List LogChange → List ℕ
users [] = []
users (Began client ∷ past) = put nat_lt client (users past)
users (Ended client second ∷ past) = without (λ other. other == client) (users past)
users (_ ∷ past) = users past

-- the clients that have the stream of that name open, rising
abbrev pub openers : List LogChange → StreamName → List ℕ
openers [] name = []
openers (Opened client opened making second number ∷ past) name =
    if same_name name opened then put nat_lt client (openers past name) else openers past name
openers (Closed client closed second ∷ past) name =
    if same_name name closed then without (λ other. other == client) (openers past name) else openers past name
openers (Ended client second ∷ past) name = without (λ other. other == client) (openers past name)
openers (_ ∷ past) name = openers past name
