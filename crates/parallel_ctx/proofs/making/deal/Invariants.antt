use Rattle.std.proofs.Common.{◌≡◌, ◌≤◌, ◌+◌, ◌++◌, ◌∷◌, length, map, vec_len, vec_capacity, vec_items}
use Rattle.std.specs.List.{All}
use Rattle.std.specs.Vec.Iter.{into_iter_items, into_iter_len}
use Rattle.parallel_ctx.specs.declared.tokens.Hand.{Hand}
use Rattle.parallel_ctx.specs.Making.{claim_in, ends_in, firsts, hash_in}
use Rattle.parallel_ctx.specs.Tokens.{AreNumbered, number_in}
use Rattle.parallel_ctx.proofs.making.deal.Given as goal

abbrev pub invariant-loop-mine : goal.invariant-loop-mine
invariant-loop-mine l =
    let left = l.mine-iterator in
    record {
      room : vec_len l.hands + into_iter_len left ≤ vec_capacity l.hands;
      few : vec_len l.hands + into_iter_len left ≤ 64;
      same_count : length (into_iter_items l.rest) ≡ length (into_iter_items left);
      toc : l.toc ≡ l.fn.toc;
      tocs : All (λ (h : Hand). h.seats.toc ≡ l.fn.toc) (vec_items l.hands);
      count : l.number ≡ 1 + vec_len l.hands;
      numbers : AreNumbered 1 (map number_in (vec_items l.hands));
      hashes : l.leader.hash ∷ (map hash_in (vec_items l.hands) ++ firsts (into_iter_items l.hash_rest) (length (into_iter_items left))) ≡ firsts l.fn.hash_seats.items (length l.fn.ends.items + 1);
      claims : l.leader.claim ∷ (map claim_in (vec_items l.hands) ++ into_iter_items l.rest) ≡ l.fn.seats.items;
      ends : map ends_in (vec_items l.hands) ++ into_iter_items left ≡ l.fn.ends.items;
    }
