use Rattle.std.proofs.Common.{◌≡◌, ◌≤◌, ◌+◌, ◌-◌, ◌*◌, vec_len, vec_capacity, vec_items}
use Rattle.std.specs.List.{All, AllZip}
use Rattle.shm_toc.specs.Table.{place_of, table_of}
use Rattle.parallel_ctx.specs.Making.{AreRings, AreUnheardIn, AreUnused, IsMaking}
use Rattle.parallel_ctx.proofs.making.new_queues.Given as goal

abbrev pub invariant-loop-at : goal.invariant-loop-at
invariant-loop-at l = record {
  count : vec_len l.ends ≡ l.at;
  other_count : vec_len l.receivers ≡ l.at;
  room : l.workers ≤ vec_capacity l.ends;
  more_room : l.workers ≤ vec_capacity l.receivers;
  here : l.toc.region ≡ l.initial.toc.region;
  making : IsMaking (table_of l.toc.words) (18 + 2 * l.at) (82016 * (l.workers - l.at));
  plan : place_of (table_of l.toc.words).entries 1 ≡ place_of (table_of l.initial.toc.words).entries 1;
  magic : (table_of l.toc.words).magic ≡ 1601;
  unused : All (AreUnused l.r) (vec_items l.ends);
  unheard : All (AreUnheardIn l.r) (vec_items l.receivers);
  rings : AllZip AreRings (vec_items l.ends) (vec_items l.receivers);
}
