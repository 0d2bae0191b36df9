use Rattle.std.proofs.Common.{◌≡◌, ◌≤◌, List, ◌++◌, length, vec_len, vec_capacity, vec_items, ◌+◌}
use Rattle.std.specs.List.{All, AllZip}
use Rattle.std.specs.Vec.Iter.{into_iter_items, into_iter_len}
use Rattle.parallel_ctx.specs.Returns.{CanWork, Carries}
use Rattle.parallel_ctx.proofs.start.launch_all.Given as goal

abbrev pub invariant-loop-hand : goal.invariant-loop-hand
invariant-loop-hand g l =
    let rest = l.hand-iterator in
    let Brings = Carries g.W.Worker.did l.worker l.shared in
    record {
      fresh : All (CanWork (g.W.Worker.asks l.worker) l.shared) (into_iter_items rest);
      flags : l.at + into_iter_len rest ≡ length l.flags;
      room : vec_len l.placed + into_iter_len rest ≤ vec_capacity l.placed;
      so_far : (ys : List _) → AllZip Brings (into_iter_items rest) ys → AllZip Brings l.fn.hands.items (vec_items l.placed ++ ys);
    }
