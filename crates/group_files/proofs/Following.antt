-- What standbys stand for.
use Rattle.std.proofs.Common.{inl, inr, true, false, List, refl}
use Rattle.cluster_facts.specs.Types.{Entry}
use Rattle.cluster_facts.specs.Storage.{Disk, Storage}
use Rattle.cluster_facts.specs.History.{Hand, Empty, Waiting, Applied, Ready}
use Rattle.group_cluster.specs.Seats.{Clear, Sent, Took, Stance, Out, Owed, Linking, Standby, Agree}
use Rattle.service_laws.specs.Disks.{service_disk}
use Rattle.service_laws.specs.StorageOf.{storage_of}
use Rattle.group_cluster.proofs.Seating.{all-by}
use Rattle.group_files.specs.Takeovers.{FilesLeft, IsFollowed, IsFresh}
use Rattle.group_files.specs.Laws.{StandbysFollow, FreshFollow}

followed : (past : List Entry) (hand : Hand) (stance : Stance) → Agree hand stance → IsFollowed past hand stance
followed past hand Out agree = tt
followed past hand Owed agree = tt
followed past hand (Linking sent) agree = tt
followed past Empty (Standby on_way Clear keeps) agree = inl refl
followed past Empty (Standby on_way Sent keeps) agree = elim agree [ ]
followed past Empty (Standby on_way Took keeps) agree = elim agree [ ]
followed past (Waiting entry) (Standby on_way Sent keeps) agree = inl refl
followed past (Waiting entry) (Standby on_way Clear keeps) agree = inr (entry, refl, refl)
followed past (Waiting entry) (Standby on_way Took keeps) agree = inr (entry, refl, refl)
followed past (Applied entry) (Standby on_way Sent keeps) agree = elim agree [ ]
followed past (Applied entry) (Standby on_way Clear keeps) agree = inl refl
followed past (Applied entry) (Standby on_way Took keeps) agree = inl refl
followed past (Ready entry) (Standby on_way Clear keeps) agree = inl refl
followed past (Ready entry) (Standby on_way Sent keeps) agree = elim agree [ ]
followed past (Ready entry) (Standby on_way Took keeps) agree = elim agree [ ]

fresh : (disk : Disk) (storage : Storage disk) (past : List Entry) (hand : Hand) (files : disk.Files) → FilesLeft disk storage past hand files → (stance : Stance) → Agree hand stance → IsFresh disk storage past hand files stance
fresh disk storage past hand files left Out agree = tt
fresh disk storage past hand files left Owed agree = tt
fresh disk storage past hand files left (Linking sent) agree = tt
fresh disk storage past hand files left (Standby on_way mark true) agree = tt
fresh disk storage past Empty files left (Standby on_way Clear false) agree = (refl, left)
fresh disk storage past Empty files left (Standby on_way Sent false) agree = elim agree [ ]
fresh disk storage past Empty files left (Standby on_way Took false) agree = elim agree [ ]
fresh disk storage past (Waiting entry) files left (Standby on_way Sent false) agree = (refl, left)
fresh disk storage past (Waiting entry) files left (Standby on_way Clear false) agree = elim agree [ ]
fresh disk storage past (Waiting entry) files left (Standby on_way Took false) agree = elim agree [ ]
fresh disk storage past (Applied entry) files left (Standby on_way Sent false) agree = elim agree [ ]
fresh disk storage past (Applied entry) files left (Standby on_way Clear false) agree = elim agree [ ]
fresh disk storage past (Applied entry) files left (Standby on_way Took false) agree = elim agree [ ]
fresh disk storage past (Ready entry) files left (Standby on_way Sent false) agree = elim agree [ ]
fresh disk storage past (Ready entry) files left (Standby on_way Clear false) agree = elim agree [ ]
fresh disk storage past (Ready entry) files left (Standby on_way Took false) agree = elim agree [ ]

pub standbys-follow : StandbysFollow
standbys-follow size state good =
    let past = state.world.core.answered in
    let hand = state.world.core.hand in
    all-by (Agree hand) (IsFollowed past hand) (followed past hand) state.peers.seats good.agree

pub fresh-follow : FreshFollow
fresh-follow size setup state files good left =
    let past = state.world.core.answered in
    let hand = state.world.core.hand in
    let storage = storage_of setup in
    all-by (Agree hand) (IsFresh service_disk storage past hand files) (fresh service_disk storage past hand files left) state.peers.seats good.agree
