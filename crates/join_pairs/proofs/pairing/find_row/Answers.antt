use Rattle.std.proofs.Common.{◌≡◌, ℕ, List, true, false, ap, sym, subst, ◌∙◌}
use Rattle.csv_rows.specs.Records.{field_of}
use Rattle.par_model.specs.Record.{is_null}
use Rattle.join_pairs.specs.Chains.{HasChain, before_in}
use Rattle.join_pairs.proofs.Finding.{row_none, row_some, row_stops}
use Rattle.join_pairs.proofs.Results.{if_err, on_ok}
use Rattle.join_pairs.proofs.pairing.find_row.Goals as goal

pub returns-then-is_empty-clause-added : goal.returns-then-is_empty-clause-added
returns-then-is_empty-clause-added g c =
    let none : is_null (field_of c.args.rows.now c.args.row c.args.column) ≡ true = ap is_null (sym c.field-field.ensures) ∙ sym c.is_empty.ensures ∙ c.if-is_empty.true in
    λ left k all. row_none left c.args.rows.now k c.args.column c.args.pairs.now.items c.args.row none

pub returns-clause-added : goal.returns-clause-added
returns-clause-added g c =
    let some : is_null (field_of c.args.rows.now c.args.row c.args.column) ≡ false = ap is_null (sym c.field-field.ensures) ∙ sym c.is_empty.ensures ∙ c.if-is_empty.false in
    on_ok _ _ c.follow.result
    (λ added. λ left k all.
    let h : HasChain (before_in c.args.chains.now.befores.items) left k all.rows (field_of c.args.rows.now c.args.row c.args.column) c.last.result =
    subst (λ (key : List ℕ). HasChain (before_in c.args.chains.now.befores.items) left k all.rows key c.last.result) c.field-field.ensures (c.last.ensures left k all.rows all.have) in
    row_some left c.args.rows.now k c.args.column (g.L.Lasts.last_of c.args.table.now) c.args.chains.now c.args.pairs.now.items c.follow.new.pairs.items c.args.row c.last.result all some h (added h.chain h.is)) c.follow.ensures.added

pub returns-clause-stopped : goal.returns-clause-stopped
returns-clause-stopped g c =
    let some : is_null (field_of c.args.rows.now c.args.row c.args.column) ≡ false = ap is_null (sym c.field-field.ensures) ∙ sym c.is_empty.ensures ∙ c.if-is_empty.false in
    if_err _ _ c.follow.result
    (λ why stops. λ left k all.
    let h : HasChain (before_in c.args.chains.now.befores.items) left k all.rows (field_of c.args.rows.now c.args.row c.args.column) c.last.result =
    subst (λ (key : List ℕ). HasChain (before_in c.args.chains.now.befores.items) left k all.rows key c.last.result) c.field-field.ensures (c.last.ensures left k all.rows all.have) in
    row_stops left c.args.rows.now k c.args.column (g.L.Lasts.last_of c.args.table.now) c.args.chains.now c.args.pairs.now.items c.args.row c.last.result all some h why (stops h.chain h.is)) c.follow.ensures.stopped
