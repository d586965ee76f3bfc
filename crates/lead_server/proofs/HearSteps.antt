-- Clauses on one result.
use Rattle.std.specs.Prelude.{Result, Ok, Err, IfOk, OnErr, OnOk}

pub both-err : {T E : Type 0} (r : Result T E) (P Q : Type 0) → OnErr r P → OnErr r Q → OnErr r (P × Q)
both-err (Ok x) P Q one other = tt
both-err (Err e) P Q one other = (one, other)

-- a fact of every answer beside one of this one
pub ok-with : {T E : Type 0} (r : Result T E) (P : T → Type 0) (Q : Type 0) → IfOk r P → OnOk r Q → IfOk r (λ x. P x × Q)
ok-with (Ok x) P Q one other = (one, other)
ok-with (Err e) P Q one other = tt
