use Rattle.std.proofs.Common.{◌≡◌, ◌++◌, [], ℕ, List, rules, ap, sym, subst, ◌∙◌}
use Rattle.std.specs.List.Sorted.{IsPermutation}
use Rattle.scan_claim.specs.Shown.{blocks_of, draws_of}
use Rattle.row_blocks.specs.Blocks.{block_numbers, numbers_of_blocks}
use Rattle.join_pairs.specs.Found.{found_in}
use Rattle.join_pairs.proofs.Finding.{block_stops, more_blocks}
use Rattle.row_blocks.proofs.RowNumbers.{late_numbers, more_numbers}
use Rattle.join_pairs.proofs.pairing.find_blocks.Goals as goal

pub loop-preserved : goal.loop-preserved
loop-preserved g c =
    let rows = c.args.rows.now in
    let more : numbers_of_blocks rows (draws_of c.claim.new.self) ≡ numbers_of_blocks rows (draws_of c.loop.claim) ++ block_numbers rows c.in-Some-claim.block =
    ap (numbers_of_blocks rows) c.in-Some-claim.ensures.drawn.1 ∙ more_numbers rows (draws_of c.loop.claim) c.in-Some-claim.block in
    record {
      can_next = tt;
      finite = tt;
      seat = c.claim.ensures.same.0;
      number = c.claim.ensures.same.1 ∙ c.loop.invariant.number;
      few = c.in-Ok.ensures.few;
      found = λ left k all. subst (λ (l : List ℕ). IsPermutation (found_in left rows k c.args.column l) c.find_block.new.pairs.items) (sym more)
          (more_blocks left rows k c.args.column [] c.loop.pairs.items c.find_block.new.pairs.items (numbers_of_blocks rows (draws_of c.loop.claim)) (block_numbers rows c.in-Some-claim.block) (c.loop.invariant.found left k all)
          (c.in-Ok.ensures.added left k all));
    }

pub returns-in_default-clause-found : goal.returns-in_default-clause-found
returns-in_default-clause-found g c =
    let rows = c.args.rows.now in
    let same = late_numbers rows (blocks_of c.args.claims.now) (draws_of c.loop.claim) (draws_of c.claim.new.self) c.requires.blocks c.in_default.ensures.too_many in
    λ left k all. record {
      same = subst (λ (l : List ℕ). IsPermutation (found_in left rows k c.args.column l) c.loop.pairs.items) (sym same) (c.loop.invariant.found left k all);
      spent = c.claim.ensures.none.0 (search rules);
    }

pub returns-in-Err-clause-stopped : goal.returns-in-Err-clause-stopped
returns-in-Err-clause-stopped g c =
    let rows = c.args.rows.now in
    let more : numbers_of_blocks rows (draws_of c.claim.new.self) ≡ numbers_of_blocks rows (draws_of c.loop.claim) ++ block_numbers rows c.in-Some-claim.block =
    ap (numbers_of_blocks rows) c.in-Some-claim.ensures.drawn.1 ∙ more_numbers rows (draws_of c.loop.claim) c.in-Some-claim.block in
    λ left k all.
    block_stops left rows k c.args.column c.loop.pairs.items (numbers_of_blocks rows (draws_of c.loop.claim)) (block_numbers rows c.in-Some-claim.block) (draws_of c.claim.new.self) c.in-Err.why more (c.loop.invariant.found left k all)
    (c.in-Err.ensures.stopped left k all)
