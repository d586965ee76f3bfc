use Rattle.std.proofs.Common.{◌≡◌, Some, None, refl}
use Rattle.std.specs.List.{find}
use Rattle.ais_values.specs.Codes.{has_code}
use Rattle.ais_values.proofs.CodeTables.{name_from_code, no_code}
use Rattle.ais_values.proofs.codes.name_of.Goals as goal

pub returns-in-Some-clause-found : goal.returns-in-Some-clause-found
returns-in-Some-clause-found g c name =
    let here : find (has_code c.args.code) c.args.table.now ≡ Some c.in-Some.row.now = cc (c.in-Some.ensures, c.as_slice.ensures) in
    name_from_code g.S.AsStr.text c.args.table.now c.requires c.args.code c.in-Some.row.now here name

pub returns-in-Some-clause-absent : goal.returns-in-Some-clause-absent
returns-in-Some-clause-absent g c =
    let here : find (has_code c.args.code) c.args.table.now ≡ Some c.in-Some.row.now = cc (c.in-Some.ensures, c.as_slice.ensures) in
    let row = name_from_code g.S.AsStr.text c.args.table.now c.requires c.args.code c.in-Some.row.now here (g.S.AsStr.text c.in-Some.row.now.name) in
    (λ e. absurd (cc), λ h. absurd (h (g.S.AsStr.text c.in-Some.row.now.name) (row.0 refl)))

pub returns-in-None-clause-found : goal.returns-in-None-clause-found
returns-in-None-clause-found g c name =
    let here : find (has_code c.args.code) c.args.table.now ≡ None = cc (c.in-None.ensures, c.as_slice.ensures) in
    (λ e. absurd e, λ h. absurd (no_code g.S.AsStr.text c.args.table.now c.requires c.args.code here name h))

pub returns-in-None-clause-absent : goal.returns-in-None-clause-absent
returns-in-None-clause-absent g c =
    let here : find (has_code c.args.code) c.args.table.now ≡ None = cc (c.in-None.ensures, c.as_slice.ensures) in
    (λ _. no_code g.S.AsStr.text c.args.table.now c.requires c.args.code here, λ _. refl)
