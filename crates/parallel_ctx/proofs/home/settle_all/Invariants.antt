use Rattle.std.proofs.Common.{◌≡◌, ◌≤◌, List, ◌++◌, map, vec_len, vec_capacity, vec_items, ◌+◌}
use Rattle.std.specs.List.{AllZip}
use Rattle.std.specs.Vec.Iter.{into_iter_items, into_iter_len}
use Rattle.parallel_ctx.specs.Returns.{CanSettle, IsReturned, claim_of, hash_of, there}
use Rattle.parallel_ctx.specs.Accounts.{heard, heard_of}
use Rattle.parallel_ctx.proofs.home.settle_all.Given as goal

abbrev pub invariant-loop-back : goal.invariant-loop-back
invariant-loop-back g l =
    let left = l.back-iterator in
    record {
      ready : AllZip (CanSettle l.r) (into_iter_items left) (into_iter_items l.rest);
      room : vec_len l.workers + into_iter_len left ≤ vec_capacity l.workers;
      claims_room : vec_len l.claims + into_iter_len left ≤ vec_capacity l.claims;
      hashes_room : vec_len l.hashes + into_iter_len left ≤ vec_capacity l.hashes;
      so_far : (ys : List _) → AllZip IsReturned (into_iter_items left) ys → AllZip IsReturned l.fn.backs.items (vec_items l.workers ++ ys);
      heard : map heard_of (vec_items l.workers) ++ map heard (into_iter_items l.rest) ≡ map heard l.fn.receivers.items;
      hashes : vec_items l.hashes ++ there (map hash_of (into_iter_items left)) ≡ l.fn.hashes.items ++ there (map hash_of l.fn.backs.items);
      claims : vec_items l.claims ++ map claim_of (into_iter_items left) ≡ l.fn.claims.items ++ map claim_of l.fn.backs.items;
    }
