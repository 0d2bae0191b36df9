use Rattle.std.proofs.Common.{◌≡◌, ◌++◌, ℕ, List, rules, ap, sym, subst, ◌∙◌}
use Rattle.scan_claim.specs.Shown.{Belongs, blocks_of, draws_of}
use Rattle.row_blocks.specs.Blocks.{block_numbers, numbers_of_blocks}
use Rattle.hash_join.specs.Stores.{DidPut}
use Rattle.row_blocks.proofs.RowNumbers.{late_numbers, more_numbers}
use Rattle.hash_join.proofs.filling.put_blocks.Goals as goal

pub loop-preserved : goal.loop-preserved
loop-preserved g c =
    let rows = c.args.rows.now in
    let old = draws_of c.loop.filler.claim in
    let more : numbers_of_blocks rows (draws_of c.claim.new.self) ≡ numbers_of_blocks rows old ++ block_numbers rows c.in-Some-claim.block =
    ap (numbers_of_blocks rows) c.in-Some-claim.ensures.drawn.1 ∙ more_numbers rows old c.in-Some-claim.block in
    let was = c.loop.invariant.same in
    let is = c.in-Ok.ensures.same in
    let claims : draws_of c.put_block.new.filler.claim ≡ draws_of c.claim.new.self = ap draws_of c.in-Ok.ensures.claim in
    record {
      can_next = tt;
      finite = tt;
      own = c.in-Ok.ensures.own;
      seat = subst (λ s. Belongs c.args.claims.now s) (sym c.in-Ok.ensures.claim) c.claim.ensures.same.0;
      same = record { area = is.area ∙ was.area; table = is.table ∙ was.table; claim = is.claim ∙ c.claim.ensures.same.1 ∙ was.claim };
      drawn = subst (λ (l : List ℕ). DidPut rows c.args.column l c.put_block.new.filler) (sym (ap (numbers_of_blocks rows) claims ∙ more)) (c.in-Ok.ensures.put (numbers_of_blocks rows old) c.loop.invariant.drawn);
    }

pub returns-in_default-clause-filled : goal.returns-in_default-clause-filled
returns-in_default-clause-filled g c =
    let rows = c.args.rows.now in
    let same = late_numbers rows (blocks_of c.args.claims.now) (draws_of c.loop.filler.claim) (draws_of c.claim.new.self) c.requires.blocks c.in_default.ensures.too_many in
    record {
      put = subst (λ (l : List ℕ). DidPut rows c.args.column l c.loop.filler) (sym same) c.loop.invariant.drawn;
      spent = c.claim.ensures.none.0 (search rules);
    }
