use Rattle.std.proofs.Common.{◌++◌, ◌∷◌, [], ℕ, List, get_or, take, ap, subst, sym, ◌∙◌, arith, append_assoc}
use Rattle.std.proofs.lemmas.List.{get_or_default, take_more}
use Rattle.join_pairs.specs.Gathered.{AddsRow, HasChains, HasRoom}
use Rattle.join_pairs.specs.Join.{IsRow}
use Rattle.join_pairs.proofs.Adding.{adds_row}
use Rattle.join_pairs.proofs.Apart.{apart_at}
use Rattle.join_pairs.proofs.chaining.add_rows.Goals as goal

pub loop-row-preserved : goal.loop-row-preserved
loop-row-preserved g c =
    let last = g.L.Lasts.last_of c.args.table.now in
    let i = c.loop-row.row-index in
    let rows = c.args.rows.now in
    let column = c.args.column in
    let list = c.args.list.now in
    let row = get_or list i 0 in
    let low = c.loop-row-test.true in
    let is_row : IsRow rows row = c.requires.rows i 0 low in
    let room : HasRoom c.loop-row.chains row = omega (arith, is_row.1, c.loop-row.invariant.1, c.requires.room) in
    let added = subst (λ (k : List ℕ). AddsRow last k row c.loop-row.chains c.add_row.new.self) c.field.ensures c.in-Ok.ensures.added in (
      c.in-Ok.ensures.places,
      c.add_row.ensures.room ∙ c.loop-row.invariant.1,
      λ known apart h.
          subst (λ (l : List ℕ). HasChains rows column l last c.add_row.new.self) (append_assoc known (take i list) (row ∷ []) ∙ ap (λ (l : List ℕ). known ++ l) (sym (take_more list i 0 low)))
          (adds_row rows column row (known ++ take i list) last c.loop-row.chains c.add_row.new.self (c.loop-row.invariant.2 known apart h) c.loop-row.invariant.0 room (apart_at known list i row low (get_or_default list i 0 row low) apart)
          (λ e. absurd (omega (arith, is_row.0, e))) added),
    )
