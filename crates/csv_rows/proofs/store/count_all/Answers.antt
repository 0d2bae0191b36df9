use Rattle.std.proofs.Common.{◌<◌, ◌+◌, ℕ, List, [], length, refl, ap, arith}
use Rattle.std.proofs.lemmas.List.{get_or_read}
use Rattle.csv_rows.proofs.Joined.{joined-none, length-front, length-more}
use Rattle.csv_rows.proofs.store.count_all.Goals as goal

pub pieces-init : goal.pieces-init
pieces-init c = record { count = rw (joined-none {A = List (List ℕ)}) refl; few = omega arith }

pub returns-then-last-total-clause-too_many : goal.returns-then-last-total-clause-too_many
returns-then-last-total-clause-too_many c =
    let at = c.pieces.at in
    let items = c.args.pieces.now.items in
    let lt : at < length items = omega (arith, c.args.pieces.now.ok.0) in
    let read = get_or_read items _ _ lt c.index.ensures [] in
    let size = ap length read in
    let more = length-more items at lt in
    let front = length-front items (at + 1) in
    (refl, omega (arith, c.last-last.ensures.last, c.pieces.invariant.count, c.pieces.invariant.few))

pub pieces-preserved : goal.pieces-preserved
pieces-preserved c =
    let at = c.pieces.at in
    let items = c.args.pieces.now.items in
    let lt : at < length items = omega (arith, c.args.pieces.now.ok.0) in
    let read = get_or_read items _ _ lt c.index.ensures [] in
    let size = ap length read in
    let more = length-more items at lt in
    record { count = omega (arith, c.last-last.ensures.last, c.pieces.invariant.count); few = omega (arith, c.pieces.invariant.few) }
