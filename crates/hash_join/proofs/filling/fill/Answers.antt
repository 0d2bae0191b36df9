use Rattle.scan_claim.specs.Shown.{draws_of}
use Rattle.lock_book.specs.Shown.{mine_of}
use Rattle.dsa_area.specs.Shown.{pages_mine}
use Rattle.hash_join.proofs.Putting.{new_draw}
use Rattle.hash_join.proofs.filling.fill.Goals as goal

pub put_blocks-requires-clause-drawn : goal.put_blocks-requires-clause-drawn
put_blocks-requires-clause-drawn g c =
    let f = c.args.filler.now in
    new_draw c.args.rows.now c.args.column (draws_of f.claim) (mine_of f.table) (pages_mine f.area) f.links.items f.spilled.items c.requires.new.draws c.requires.new.calls c.requires.new.links c.requires.new.spilled
