-- What an ok answer tells: no row of the call's table held.
use Rattle.std.proofs.Common.{◌≡◌, Bool, true, false, not, [], ◌∷◌, refl}
use Rattle.std.specs.Prelude.{Option, Some}
use Rattle.ais_values.specs.declared.status.Status.TheVariants as status
use Rattle.stream_config.specs.declared.attrs.StreamAttrs.{StreamAttrs}
use Rattle.stream_config.specs.declared.attrs.StreamName.{StreamName}
use Rattle.log_history.specs.Answers.{answer, begin_rows, open_rows, close_rows, end_rows}

pub begin-ok : (using : Bool) → answer (begin_rows using) ≡ status.Ok → using ≡ false
begin-ok true ok = cc
begin-ok false ok = refl

pub end-ok : (using : Bool) → answer (end_rows using) ≡ status.Ok → using ≡ true
end-ok true ok = refl
end-ok false ok = cc

pub close-ok : (using opened : Bool) → answer (close_rows using opened) ≡ status.Ok → (using ≡ true) × (opened ≡ true)
close-ok true true ok = (refl, refl)
close-ok true false ok = cc
close-ok false opened ok = cc

-- where it is not filtered, there is room
pub write-ok : (using opened flagged writes filtered full : Bool) → answer ((not using, status.BadHandle) ∷ (not opened, status.BadHandle) ∷ (flagged, status.BadFlags) ∷ (not writes, status.InvalidParam) ∷ (filtered, status.Ok) ∷ (full, status.NoSpace) ∷ []) ≡ status.Ok → (using ≡ true) × (opened ≡ true) × (writes ≡ true) × (filtered ≡ false → full ≡ false)
write-ok false opened flagged writes filtered full ok = cc
write-ok true false flagged writes filtered full ok = cc
write-ok true true true writes filtered full ok = cc
write-ok true true false false filtered full ok = cc
write-ok true true false true true full ok = (refl, refl, refl, λ passes. absurd (cc))
write-ok true true false true false true ok = cc
write-ok true true false true false false ok = (refl, refl, refl, λ _. refl)

pub filter-ok : (using opened refused : Bool) → answer ((not using, status.BadHandle) ∷ (not opened, status.BadHandle) ∷ (refused, status.InvalidParam) ∷ []) ≡ status.Ok → (using ≡ true) × (opened ≡ true) × (refused ≡ false)
filter-ok false opened refused ok = cc
filter-ok true false refused ok = cc
filter-ok true true true ok = cc
filter-ok true true false ok = (refl, refl, refl)

-- an open of a stream that lives
pub open-ok : (using missing : Bool) → answer ((not using, status.BadHandle) ∷ (missing, status.NotExist) ∷ []) ≡ status.Ok → (using ≡ true) × (missing ≡ false)
open-ok false missing ok = cc
open-ok true true ok = cc
open-ok true false ok = (refl, refl)

-- an open with attributes
pub create-ok : (using : Bool) (living : Option StreamAttrs) (taken crowded : Bool) (name : StreamName) (attrs : StreamAttrs) → answer (open_rows using living taken crowded name (Some attrs)) ≡ status.Ok → using ≡ true
create-ok true living taken crowded name attrs ok = refl
create-ok false living taken crowded name attrs ok = cc

pub send-ok : (using sound full : Bool) → answer ((not using, status.BadHandle) ∷ (not sound, status.InvalidParam) ∷ (full, status.NoSpace) ∷ []) ≡ status.Ok → (using ≡ true) × (sound ≡ true) × (full ≡ false)
send-ok false sound full ok = cc
send-ok true false full ok = cc
send-ok true true true ok = cc
send-ok true true false ok = (refl, refl, refl)

pub subscribe-ok : (using usable has full : Bool) → answer ((not using, status.BadHandle) ∷ (not usable, status.InvalidParam) ∷ (has, status.Exist) ∷ (full, status.NoResources) ∷ []) ≡ status.Ok → (using ≡ true) × (usable ≡ true) × (has ≡ false) × (full ≡ false)
subscribe-ok false usable has full ok = cc
subscribe-ok true false has full ok = cc
subscribe-ok true true true full ok = cc
subscribe-ok true true false true ok = cc
subscribe-ok true true false false ok = (refl, refl, refl, refl)

pub start-ok : (using known negative usable alarms has full found : Bool) → answer ((not using, status.BadHandle) ∷ (known, status.InvalidParam) ∷ (negative, status.InvalidParam) ∷ (not usable, status.InvalidParam) ∷ (not alarms, status.InvalidParam) ∷ (has, status.NoResources) ∷ (full, status.NoResources) ∷ (found, status.NotExist) ∷ []) ≡ status.Ok → (using ≡ true) × (usable ≡ true) × (alarms ≡ true) × (has ≡ false) × (full ≡ false) × (found ≡ false)
start-ok false known negative usable alarms has full found ok = cc
start-ok true true negative usable alarms has full found ok = cc
start-ok true false true usable alarms has full found ok = cc
start-ok true false false false alarms has full found ok = cc
start-ok true false false true false has full found ok = cc
start-ok true false false true true true full found ok = cc
start-ok true false false true true false true found ok = cc
start-ok true false false true true false false true ok = cc
start-ok true false false true true false false false ok = (refl, refl, refl, refl, refl, refl)
