-- Words of public clauses: the answers' numbers and printed words, and the versions that the services support.
use Rattle.std.specs.Prelude.{◌≡◌, ℕ, ◌≤◌, List, codes}
use Rattle.ais_values.specs.declared.kind.Which.{Which}
use Rattle.ais_values.specs.declared.kind.Which.TheVariants.{Log, Ntf}
use Rattle.ais_values.specs.declared.kind.Version.{Version}
use Rattle.ais_values.specs.declared.status.Status.{Status}
use Rattle.ais_values.specs.declared.status.Status.TheVariants as answer

-- the number of an answer in `SaAisErrorT`
abbrev pub status_code : Status → ℕ
status_code answer.Ok = 1
status_code answer.Version = 3
status_code answer.TryAgain = 6
status_code answer.InvalidParam = 7
status_code answer.BadHandle = 9
status_code answer.NotExist = 12
status_code answer.Exist = 14
status_code answer.NoSpace = 15
status_code answer.NoResources = 18
status_code answer.BadFlags = 25

-- an answer as output lines print it
abbrev pub status_word : Status → List ℕ
status_word answer.Ok = codes "ok"
status_word answer.Version = codes "VERSION"
status_word answer.TryAgain = codes "TRY_AGAIN"
status_word answer.InvalidParam = codes "INVALID_PARAM"
status_word answer.BadHandle = codes "BAD_HANDLE"
status_word answer.NotExist = codes "NOT_EXIST"
status_word answer.Exist = codes "EXIST"
status_word answer.NoSpace = codes "NO_SPACE"
status_word answer.NoResources = codes "NO_RESOURCES"
status_word answer.BadFlags = codes "BAD_FLAGS"

-- the release A, written by its byte
abbrev pub release_a : ℕ
release_a = 65

-- the version that a service has: A.2.1 and A.1.1
abbrev pub supported_version : Which → Version
supported_version Log = record { release = release_a; major = 2; minor = 1 }
supported_version Ntf = record { release = release_a; major = 1; minor = 1 }

-- a client that asks for this version is served: its release is A, and its major is not above the service's
pub record CanServe (service : Which) (wanted : Version) : Type 0 where
  pub release : wanted.release ≡ release_a
  pub major : wanted.major ≤ (supported_version service).major
