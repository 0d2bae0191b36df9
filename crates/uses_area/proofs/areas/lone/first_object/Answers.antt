use Rattle.std.proofs.Common.{◌≡◌, arith}
use Rattle.free_pages.specs.Area.{superblock_pages}
use Rattle.dsa_area.proofs.Uses.{first_refused, refused_wants}
use Rattle.uses_area.proofs.areas.lone.first_object.Goals as goal

pub unreachable-requires : goal.unreachable-requires
unreachable-requires g c =
    let e = c.in-Err.ensures in
    let few = first_refused c.args.area.now c.args.pass.now c.alloc.new.pass c.args.bytes c.in-Err._lack.pages c.in-Err._lack.largest c.requires.alone c.requires.own e.own e.caller c.requires.fresh.pages.0 e.refused in
    let wants : c.in-Err._lack.pages ≡ superblock_pages = (refused_wants c.args.area.now c.args.pass.now c.alloc.new.pass c.args.bytes c.in-Err._lack.pages c.in-Err._lack.largest e.refused).0 c.requires.some.1 in
    let room = c.requires.pages in
    omega arith
