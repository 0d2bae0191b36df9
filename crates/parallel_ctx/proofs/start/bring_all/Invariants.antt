use Rattle.std.proofs.Common.{◌≤◌, List, ◌++◌, vec_len, vec_capacity, vec_items, ◌+◌}
use Rattle.std.specs.List.{AllZip}
use Rattle.std.specs.Vec.Iter.{into_iter_items, into_iter_len}
use Rattle.parallel_ctx.specs.Returns.{Brought}
use Rattle.parallel_ctx.proofs.start.bring_all.Given as goal

abbrev pub invariant-loop-one : goal.invariant-loop-one
invariant-loop-one g l =
    let rest = l.one-iterator in
    let Is = Brought g.W.Worker.did in
    record {
      room : vec_len l.backs + into_iter_len rest ≤ vec_capacity l.backs;
      so_far : (ys : List _) → AllZip Is (into_iter_items rest) ys → AllZip Is l.fn.placed.items (vec_items l.backs ++ ys);
    }
