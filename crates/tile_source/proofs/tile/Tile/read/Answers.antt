use Rattle.std.proofs.Common.{◌≡◌, ◌≤◌, ◌∙◌, [], arith, eqb-true, length, sym}
use Rattle.std.specs.Io.KnownBytes.{prepend_known}
use Rattle.tile_source.proofs.Leaves.{no-length, read-end, read-left}
use Rattle.tile_source.proofs.tile.Tile.read.Goals as goal
use Rattle.tile_source.proofs.tile.Tile.read.Goals.{else-count-eq0-via-else-count-eq0, else-count-eq0-via-then-count-eq0+else-is_short}

pub returns-clause-bytes : goal.returns-clause-bytes
returns-clause-bytes g c =
    let h = c.args.self.now.header in
    let cut = c.args.self.now.cut in
    let a = prepend_known c.args.self.now.ahead (g.S.Source.left c.args.source.now) in
    let b = prepend_known c.read_ahead.new.ahead (g.S.Source.left c.read_ahead.new.source) in
    let buf = c.read_ahead.new.buf in
    let n = c.in_ok-count.count in
    let m = c.pass.result in
    let none : h ≡ [] = no-length h (eqb-true (length h) 0 (sym c.is_empty.ensures ∙ c.if-not-is_empty.false)) in
    let fits : n ≤ length buf = c.in_ok-count.ensures.bound.0 in
    let short : n ≡ 0 → cut.size ≤ cut.at = λ zero. elim c.else-count-eq0.branch [
      | else-count-eq0-via-then-count-eq0+else-is_short w ↦ w.is_short.ensures.no w.if-is_short.false
      | else-count-eq0-via-else-count-eq0 w ↦ absurd (omega (arith, w.if-count-eq0.false, zero))
    ] in (
      read-left h cut c.pass.new.self a b buf n m none c.if-self.false fits c.in_ok-count.ensures.bytes.0 c.pass.ensures,
      λ zero room. read-end h cut c.pass.new.self b buf n m none fits c.pass.ensures short (λ no. c.in_ok-count.ensures.bytes.1 no room) zero,
    )
