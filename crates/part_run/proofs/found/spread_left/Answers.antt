use Rattle.std.proofs.Common.{◌≡◌, ◌∙◌, ◌∷◌, Ok, ap, arith, drop, sym}
use Rattle.std.proofs.lemmas.List.{take_all}
use Rattle.std.proofs.lemmas.Result.{err_from_is_err_and}
use Rattle.partial_agg.proofs.Cursor.{first_refused, some_refused}
use Rattle.split_run.proofs.FoundPiece.{cause-of}
use Rattle.part_run.specs.Carrying.{spread}
use Rattle.part_run.proofs.FoundSpread.{accepted-next, all-found, next-rest, spread-found, there}
use Rattle.part_run.proofs.found.spread_left.Goals as goal

pub returns-in_err-next_row-clause-refused : goal.returns-in_err-next_row-clause-refused
returns-in_err-next_row-clause-refused c =
    let p = err_from_is_err_and c.from_residual.result c.from_residual.ensures.1 in
    let plan = c.args.plan.now in
    let all = c.args.rows.now.left in
    let why = c.in_err-next_row.field-0.0 in
    rw (p.1, p.2) (cause-of plan c.args.rows.now.row all c.width-width.result why c.width-width.ensures.width (some_refused plan c.width-width.result all c.rows.rows.left c.rows.count why c.rows.invariant.left (c.in_err-next_row.ensures.refused plan)))

pub returns-in_err-spread_row-clause-refused : goal.returns-in_err-spread_row-clause-refused
returns-in_err-spread_row-clause-refused c =
    let p = err_from_is_err_and c.from_residual-in_err-spread_row.result c.from_residual-in_err-spread_row.ensures.1 in
    let plan = c.args.plan.now in
    let all = c.args.rows.now.left in
    let why = c.in_err-spread_row.field-0.0 in
    let next = c.next_row.new.self in
    let is : drop c.rows.count all ≡ next.row ∷ next.left = sym c.rows.invariant.left ∙ c.next_row.ensures.row (c.in_ok-next_row.was ∙ ap Ok c.if-branch.true) in
    rw (p.1, p.2) (cause-of plan c.args.rows.now.row all c.width-width.result why c.width-width.ensures.width (some_refused plan c.width-width.result all (next.row ∷ next.left) c.rows.count why (sym is) (first_refused plan c.width-width.result next.row next.left 1 why c.in_err-spread_row.ensures.stopped)))

pub rows-preserved : goal.rows-preserved
rows-preserved c =
    let plan = c.args.plan.now in
    let all = c.args.rows.now.left in
    let inv = c.rows.invariant in
    let at = c.rows.count in
    let next = c.next_row.new.self in
    let is : drop at all ≡ next.row ∷ next.left = sym inv.left ∙ c.next_row.ensures.row (c.in_ok-next_row.was ∙ ap Ok c.if-branch.true) in
    record {
      within = omega (arith, there all next.left next.row at is);
      left = next-rest all next.left next.row at is;
      lists = spread-found all next.left next.row at is plan c.args.lists.now c.rows.lists c.spread_row.new.lists inv.lists c.in_ok-spread_row.ensures.spread;
      accepted = accepted-next all next.left next.row at is plan c.width-width.result inv.accepted c.in_ok-spread_row.ensures.accepted;
    }

pub returns-clause-spread : goal.returns-clause-spread
returns-clause-spread c =
    let all = c.args.rows.now.left in
    let none = sym c.rows.invariant.left ∙ c.next_row.ensures.end (c.in_ok-next_row.was ∙ ap Ok c.if-branch.false) in
    c.rows.invariant.lists ∙ ap (spread c.args.plan.now c.args.lists.now) (take_all c.rows.count all (all-found all c.rows.count none))

pub returns-clause-count : goal.returns-clause-count
returns-clause-count c =
    let all = c.args.rows.now.left in
    let none = sym c.rows.invariant.left ∙ c.next_row.ensures.end (c.in_ok-next_row.was ∙ ap Ok c.if-branch.false) in
    omega (arith, all-found all c.rows.count none, c.rows.invariant.within)
