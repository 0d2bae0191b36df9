use Rattle.std.proofs.Common.{◌<◌, ℕ, List, [], get_or, length, refl, subst, sym, ap, arith}
use Rattle.std.proofs.lemmas.List.{get_or_read}
use Rattle.csv_rows.specs.InPieces.{IsPieceAt, joined}
use Rattle.csv_rows.proofs.Joined.{joined-none, joined-piece, length-more}
use Rattle.csv_rows.proofs.store.find_piece.Goals as goal

pub pieces-init : goal.pieces-init
pieces-init c = record { first = rw (joined-none {A = List (List ℕ)}) refl; low = omega arith }

pub returns-then-row-first-clause-within : goal.returns-then-row-first-clause-within
returns-then-row-first-clause-within c =
    let items = c.args.pieces.now.items in
    let lt : c.pieces.at < length items = omega (arith, c.args.pieces.now.ok.0) in
    let size = ap length (get_or_read items _ _ lt c.index.ensures []) in
    omega (arith, size, c.last-last.ensures.last, c.pieces.invariant.low, c.if-row-first.true)

pub returns-then-row-first-clause-is : goal.returns-then-row-first-clause-is
returns-then-row-first-clause-is c =
    let items = c.args.pieces.now.items in
    let at = c.pieces.at in
    let lt : at < length items = omega (arith, c.args.pieces.now.ok.0) in
    subst (λ (n : ℕ). IsPieceAt (joined items) n (get_or items at [])) (sym c.pieces.invariant.first) (joined-piece items at lt)

pub pieces-preserved : goal.pieces-preserved
pieces-preserved c =
    let items = c.args.pieces.now.items in
    let at = c.pieces.at in
    let lt : at < length items = omega (arith, c.args.pieces.now.ok.0) in
    let size = ap length (get_or_read items _ _ lt c.index.ensures []) in
    let more = length-more items at lt in
    record {
      first = omega (arith, size, more, c.last-last.ensures.last, c.pieces.invariant.first);
      low = omega (arith, size, c.last-last.ensures.last, c.pieces.invariant.low, c.if-row-first.false);
    }
