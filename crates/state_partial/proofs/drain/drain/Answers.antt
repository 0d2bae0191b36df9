use Rattle.std.proofs.Common.{◌≡◌, ◌++◌, arith, length, length-append, sym, take}
use Rattle.state_partial.proofs.Taken.{consumes_then}
use Rattle.state_partial.proofs.drain.drain.Goals as goal

pub loop-preserved : goal.loop-preserved
loop-preserved g c =
    let inv = c.loop.invariant in
    let more = inv.0.0 in
    let n = c.in-Ok.count in
    let buf = c.read.new.buf in
    let left = g.S.Source.left in
    let size : length (take n buf) ≡ n = sym c.in-Ok.ensures.bound.1 in (
      (
        more ++ take n buf,
        consumes_then (left c.args.source.now) (left c.loop.source) (left c.read.new.self) more (take n buf) inv.0.1 c.in-Ok.ensures.bytes.0,
        omega (arith, inv.0.2, length-append more (take n buf), size, c.in-Some.ensures),
      ),
      omega (arith, inv.1, c.read.ensures.cause.kept),
    )
