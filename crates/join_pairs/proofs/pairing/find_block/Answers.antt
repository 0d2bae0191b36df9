use Rattle.std.proofs.Common.{◌≡◌, ◌<◌, ◌≤◌, ◌+◌, ◌*◌, ◌-◌, ◌++◌, [], ◌∷◌, ℕ, List, length, take, drop, min, arith, ap, sym, subst, ◌∙◌, refl, append-nil}
use Rattle.std.specs.List.Sorted.{IsPermutation}
use Rattle.std.proofs.lemmas.List.{take-append-drop}
use Rattle.row_blocks.specs.Blocks.{block_numbers}
use Rattle.join_pairs.specs.Found.{found_in, found_of}
use Rattle.join_pairs.specs.Pairing.{StopsAdding}
use Rattle.join_pairs.specs.declared.pairs.Pair.{Pair}
use Rattle.join_pairs.proofs.Finding.{more_rows, stops_rows}
use Rattle.row_blocks.proofs.RowNumbers.{numbers_end, numbers_next}
use Rattle.join_pairs.proofs.pairing.find_block.Goals as goal

pub loop-at-preserved : goal.loop-at-preserved
loop-at-preserved g c =
    let at = c.loop-at.at in
    let row = 256 * c.args.block + 1 + at in
    let numbers = block_numbers c.args.rows.now c.args.block in
    let small : at < 256 = omega (arith, c.loop-at-test.true, c.min-count.ensures) in
    let there : row < length c.args.rows.now = omega (arith, c.loop-at-test.true, c.min-count.ensures, c.count-last.ensures.rows, c.requires.block) in
    let more : take (at + 1) numbers ≡ take at numbers ++ row ∷ [] = numbers_next c.args.rows.now c.args.block at row small refl there in (
      c.in-Ok.ensures.few,
      λ left k all. subst (λ (l : List ℕ). IsPermutation (c.args.pairs.now.items ++ found_in left c.args.rows.now k c.args.column l) c.find_row.new.pairs.items) (sym more)
          (more_rows left c.args.rows.now k c.args.column c.args.pairs.now.items c.loop-at.pairs.items c.find_row.new.pairs.items (take at numbers) row (c.loop-at.invariant.1 left k all) (c.in-Ok.ensures.added left k all)),
    )

pub returns-in-Err-clause-stopped : goal.returns-in-Err-clause-stopped
returns-in-Err-clause-stopped g c =
    let at = c.loop-at.at in
    let row = 256 * c.args.block + 1 + at in
    let numbers = block_numbers c.args.rows.now c.args.block in
    let small : at < 256 = omega (arith, c.loop-at-test.true, c.min-count.ensures) in
    let there : row < length c.args.rows.now = omega (arith, c.loop-at-test.true, c.min-count.ensures, c.count-last.ensures.rows, c.requires.block) in
    let more : take (at + 1) numbers ≡ take at numbers ++ row ∷ [] = numbers_next c.args.rows.now c.args.block at row small refl there in
    let whole : (take at numbers ++ row ∷ []) ++ drop (at + 1) numbers ≡ numbers = ap (λ (l : List ℕ). l ++ drop (at + 1) numbers) (sym more) ∙ take-append-drop (at + 1) numbers in
    λ left k all.
    let one : found_in left c.args.rows.now k c.args.column (row ∷ []) ≡ found_of left c.args.rows.now k c.args.column row = append-nil (found_of left c.args.rows.now k c.args.column row) in
    subst (λ (l : List ℕ). StopsAdding (length c.args.pairs.now.items + length (found_in left c.args.rows.now k c.args.column l)) c.in-Err.why) whole
    (stops_rows left c.args.rows.now k c.args.column c.args.pairs.now.items c.loop-at.pairs.items (take at numbers) (row ∷ []) (drop (at + 1) numbers) c.in-Err.why (c.loop-at.invariant.1 left k all)
    (subst (λ (l : List Pair). StopsAdding (length c.loop-at.pairs.items + length l) c.in-Err.why) (sym one) (c.in-Err.ensures.stopped left k all)))

pub returns-clause-added : goal.returns-clause-added
returns-clause-added g c =
    let at = c.loop-at.at in
    let long : min 256 (length c.args.rows.now - (256 * c.args.block + 1)) ≤ at = omega (arith, c.loop-at-test.false, c.min-count.ensures, c.count-last.ensures.rows, c.requires.block) in
    λ left k all. subst (λ (l : List ℕ). IsPermutation (c.args.pairs.now.items ++ found_in left c.args.rows.now k c.args.column l) c.loop-at.pairs.items) (numbers_end c.args.rows.now c.args.block at long) (c.loop-at.invariant.1 left k all)
