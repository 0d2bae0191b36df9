use Rattle.std.proofs.Common.{◌≡◌, ◌<◌, ◌≤◌, ◌+◌, ◌*◌, ◌-◌, ◌++◌, [], ◌∷◌, ℕ, List, length, take, min, arith, ap, sym, subst, ◌∙◌, refl, append_assoc}
use Rattle.row_blocks.specs.Blocks.{block_numbers}
use Rattle.hash_join.specs.Stores.{DidPut}
use Rattle.row_blocks.proofs.RowNumbers.{numbers_end, numbers_next}
use Rattle.hash_join.proofs.filling.put_block.Goals as goal

pub loop-at-preserved : goal.loop-at-preserved
loop-at-preserved g c =
    let at = c.loop-at.at in
    let row = 256 * c.args.block + 1 + at in
    let numbers = block_numbers c.args.rows.now c.args.block in
    let small : at < 256 = omega (arith, c.loop-at-test.true, c.min-count.ensures) in
    let there : row < length c.args.rows.now = omega (arith, c.loop-at-test.true, c.min-count.ensures, c.count-last.ensures.rows, c.requires.block) in
    let more : take (at + 1) numbers ≡ take at numbers ++ row ∷ [] = numbers_next c.args.rows.now c.args.block at row small refl there in
    let was = c.loop-at.invariant.1 in
    let is = c.in-Ok.ensures.same in (
      c.in-Ok.ensures.own,
      record { area = is.area ∙ was.area; table = is.table ∙ was.table; claim = is.claim ∙ was.claim },
      c.in-Ok.ensures.claim ∙ c.loop-at.invariant.2,
      λ list h. subst (λ (l : List ℕ). DidPut c.args.rows.now c.args.column l c.put_row.new.filler) (append_assoc list (take at numbers) (row ∷ []) ∙ ap (λ (l : List ℕ). list ++ l) (sym more))
          (c.in-Ok.ensures.put (list ++ take at numbers) (c.loop-at.invariant.3 list h)),
    )

pub returns-clause-put : goal.returns-clause-put
returns-clause-put g c =
    let at = c.loop-at.at in
    let long : min 256 (length c.args.rows.now - (256 * c.args.block + 1)) ≤ at = omega (arith, c.loop-at-test.false, c.min-count.ensures, c.count-last.ensures.rows, c.requires.block) in
    λ list h. subst (λ (l : List ℕ). DidPut c.args.rows.now c.args.column (list ++ l) c.loop-at.filler) (numbers_end c.args.rows.now c.args.block at long) (c.loop-at.invariant.3 list h)
