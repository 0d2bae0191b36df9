use Rattle.std.proofs.Common.{◌<◌, Bool, arith, length, subst}
use Rattle.std.proofs.lemmas.Result.{IfOk-weaker}
use Rattle.std.specs.Bool.{OnTrue}
use Rattle.par_stream.proofs.output.near_text.Goals as goal

pub parts_text-requires-clause-rows : goal.parts_text-requires-clause-rows
parts_text-requires-clause-rows g c κs within =
    let bound = c.args.bound.now in
    let columns : 0 < length bound.groups = subst (λ (b : Bool). OnTrue b (0 < length bound.groups)) c.if-may_part.true c.may_part.ensures.columns in
    let r = c.requires.rows in
    (r.0, r.1, r.2, (columns, c.in_ok-parts.ensures.rows bound r.0 r.1 r.3 (omega (arith, r.2))))

pub table_text-requires-clause-rows : goal.table_text-requires-clause-rows
table_text-requires-clause-rows g c κs within = c.requires.rows

pub returns : goal.returns
returns g c = c.table_text.ensures

pub returns-then-all_groups-ge-FEWEST_GROUPS : goal.returns-then-all_groups-ge-FEWEST_GROUPS
returns-then-all_groups-ge-FEWEST_GROUPS g c =
    let bound = c.args.bound.now in
    let columns : 0 < length bound.groups = subst (λ (b : Bool). OnTrue b (0 < length bound.groups)) c.if-may_part.true c.may_part.ensures.columns in
    IfOk-weaker c.parts_text.result _ _ (λ pieces answers header width rows is few shared. answers header width rows is few (columns, c.in_ok-parts.ensures.rows bound width rows shared (omega (arith, few)))) c.parts_text.ensures
