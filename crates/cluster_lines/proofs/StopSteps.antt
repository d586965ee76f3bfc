-- An end by a stop of the disk behind which the cluster goes on is none.
use Rattle.std.proofs.Common.{◌≡◌, sym, subst}
use Rattle.std.specs.Prelude.{Result, Ok, Err, OnOk, IfErr}
use Rattle.disk_model.specs.declared.answers.DiskAnswer.{DiskAnswer}
use Rattle.disk_model.specs.declared.answers.DiskAnswer.TheVariants.{Memory, Failed, Stopped}
use Rattle.cluster_rounds.specs.declared.cluster.Cluster.{Cluster}
use Rattle.cluster_rounds.specs.Counted.{Counted}
use Rattle.cluster_rounds.specs.Kits.{Kit}
use Rattle.cluster_rounds.specs.Wild.{GoesWild, always}
use Rattle.cluster_lines.specs.Answers.{DoneAtStop}

module _ {T E : Type 0} where
  pub stop-ok : {P : Type 0} (Q : DiskAnswer → Type 0) (r : Result T DiskAnswer) (s : Result E DiskAnswer) → DoneAtStop r s → OnOk r P → IfErr r Q → (Q Stopped → P) → OnOk s P
  stop-ok Q (Ok x) (Ok y) is done off step = done
  stop-ok Q (Ok x) (Err f) is done off step = tt
  stop-ok Q (Err Stopped) (Ok y) is done off step = step off
  stop-ok Q (Err Memory) (Ok y) is done off step = elim is [ ]
  stop-ok Q (Err Failed) (Ok y) is done off step = elim is [ ]
  stop-ok Q (Err e) (Err f) is done off step = tt

  pub stop-err : (P Q : DiskAnswer → Type 0) (r : Result T DiskAnswer) (s : Result E DiskAnswer) → DoneAtStop r s → IfErr r Q → ((answer : DiskAnswer) → (answer ≡ Stopped → ⊥) → Q answer → P answer) → IfErr s P
  stop-err P Q (Ok x) (Ok y) is off step = tt
  stop-err P Q (Ok x) (Err f) is off step = elim is [ ]
  stop-err P Q (Err e) (Ok y) is off step = tt
  stop-err P Q (Err Memory) (Err f) is off step = subst P (sym is) (step Memory (λ e. cc) off)
  stop-err P Q (Err Failed) (Err f) is off step = subst P (sym is) (step Failed (λ e. cc) off)
  stop-err P Q (Err Stopped) (Err f) is off step = elim is [ ]

  module _ {Peers Group : Type 0} (kit : Kit Peers Group) where
    pub stop-counts : (r : Result T DiskAnswer) (s : Result E DiskAnswer) (held left : kit.Seen) → DoneAtStop r s → Counted kit held left r → Counted kit held left s
    stop-counts (Ok x) (Ok y) held left is counts = counts
    stop-counts (Ok x) (Err f) held left is counts = elim is [ ]
    stop-counts (Err Stopped) (Ok y) held left is counts = counts
    stop-counts (Err Memory) (Ok y) held left is counts = elim is [ ]
    stop-counts (Err Failed) (Ok y) held left is counts = elim is [ ]
    stop-counts (Err Memory) (Err f) held left is counts = subst (λ (answer : DiskAnswer). Counted {T = E} kit held left (Err answer)) (sym is) counts
    stop-counts (Err Failed) (Err f) held left is counts = subst (λ (answer : DiskAnswer). Counted {T = E} kit held left (Err answer)) (sym is) counts
    stop-counts (Err Stopped) (Err f) held left is counts = elim is [ ]

    pub stop-wild : (r : Result T DiskAnswer) (s : Result E DiskAnswer) (old new : Cluster Group) (held left : kit.Seen) → DoneAtStop r s → (GoesWild kit) always r old new held left → (GoesWild kit) always s old new held left
    stop-wild (Ok x) (Ok y) old new held left is goes = goes
    stop-wild (Ok x) (Err f) old new held left is goes = elim is [ ]
    stop-wild (Err Stopped) (Ok y) old new held left is goes = goes
    stop-wild (Err Memory) (Ok y) old new held left is goes = elim is [ ]
    stop-wild (Err Failed) (Ok y) old new held left is goes = elim is [ ]
    stop-wild (Err Memory) (Err f) old new held left is goes = subst (λ (answer : DiskAnswer). (GoesWild kit) {T = E} always (Err answer) old new held left) (sym is) tt
    stop-wild (Err Failed) (Err f) old new held left is goes = subst (λ (answer : DiskAnswer). (GoesWild kit) {T = E} always (Err answer) old new held left) (sym is) tt
    stop-wild (Err Stopped) (Err f) old new held left is goes = elim is [ ]
