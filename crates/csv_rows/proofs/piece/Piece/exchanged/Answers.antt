use Rattle.std.proofs.Common.{ℕ, List, map, ap, ◌∙◌}
use Rattle.csv_rows.specs.Readings.{exchanged}
use Rattle.csv_rows.specs.Store.{stored_apart}
use Rattle.csv_rows.proofs.Cleaned.{store-map, stored-map}
use Rattle.csv_rows.proofs.piece.Piece.exchanged.Goals as goal

pub of_lists-requires-clause-fields : goal.of_lists-requires-clause-fields
of_lists-requires-clause-fields c =
    rw c.exchanged_bytes.ensures (store-map (exchanged c.args.separator) c.self.inside.gap c.self.inside.bytes.items c.self.inside.ends.items c.self.inside.row_ends c.self.invariant).fields

pub returns : goal.returns
returns c =
    let s = c.self.inside in
    c.of_lists.ensures
    ∙ (ap (λ (xs : List ℕ). stored_apart s.gap xs s.ends.items s.row_ends) c.exchanged_bytes.ensures
    ∙ (stored-map (exchanged c.args.separator) s.gap s.bytes.items s.ends.items s.row_ends ∙ ap (λ (rs : List (List (List ℕ))). map (map (map (exchanged c.args.separator))) rs) c.self.view_is))
