use Rattle.std.proofs.Common.{sym}
use Rattle.state_blocks.specs.Blocks.{block_bytes, blocks_bytes}
use Rattle.state_keep.proofs.Blocks.{few_bytes}
use Rattle.state_keep.proofs.Outside.{none_kept}
use Rattle.state_keep.proofs.keep.keep_first.Goals as goal

-- a block that is passed over has nothing that is kept
pub returns-then-is_passed-clause-kept : goal.returns-then-is_passed-clause-kept
returns-then-is_passed-clause-kept c = λ block later is all rise e.
    let shape = c.args.shape.now in
    let two = c.in-Some.ensures.written (block_bytes shape.kinds.now block) (blocks_bytes shape.kinds.now later) (few_bytes shape.columns shape.kinds.now block is) e in
    (two.1, sym (none_kept shape c.args.kept block c.args.map.now (c.is_passed.ensures block later is all rise two.0 two.1 c.if-is_passed.true)))
