use Rattle.std.proofs.Common.{◌≡◌, Some, None, ap, refl}
use Rattle.std.specs.List.{find}
use Rattle.ais_values.specs.Codes.{has_name}
use Rattle.ais_values.proofs.CodeTables.{code_from_name, no_name}
use Rattle.ais_values.proofs.codes.code_of.Goals as goal

pub returns-in-Some-clause-found : goal.returns-in-Some-clause-found
returns-in-Some-clause-found g c code =
    let here : find (has_name g.S.AsStr.text c.args.name.now) c.args.table.now ≡ Some c.in-Some.row.now = cc (c.in-Some.ensures, c.as_slice.ensures) in
    let row = code_from_name g.S.AsStr.text c.args.table.now c.requires c.args.name.now c.in-Some.row.now here code in
    (λ e. row.0 (cc), λ h. ap (λ n. Some n) (row.1 h))

pub returns-in-Some-clause-absent : goal.returns-in-Some-clause-absent
returns-in-Some-clause-absent g c =
    let here : find (has_name g.S.AsStr.text c.args.name.now) c.args.table.now ≡ Some c.in-Some.row.now = cc (c.in-Some.ensures, c.as_slice.ensures) in
    let row = code_from_name g.S.AsStr.text c.args.table.now c.requires c.args.name.now c.in-Some.row.now here c.in-Some.row.now.code in
    (λ e. absurd (cc), λ h. absurd (h c.in-Some.row.now.code (row.0 refl)))

pub returns-in-None-clause-found : goal.returns-in-None-clause-found
returns-in-None-clause-found g c code =
    let here : find (has_name g.S.AsStr.text c.args.name.now) c.args.table.now ≡ None = cc (c.in-None.ensures, c.as_slice.ensures) in
    (λ e. absurd (cc), λ h. absurd (no_name g.S.AsStr.text c.args.table.now c.requires c.args.name.now here code h))

pub returns-in-None-clause-absent : goal.returns-in-None-clause-absent
returns-in-None-clause-absent g c =
    let here : find (has_name g.S.AsStr.text c.args.name.now) c.args.table.now ≡ None = cc (c.in-None.ensures, c.as_slice.ensures) in
    (λ _. no_name g.S.AsStr.text c.args.table.now c.requires c.args.name.now here, λ _. refl)
