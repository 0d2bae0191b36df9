use Rattle.std.proofs.Common.{◌≡◌, ◌+◌, ◌*◌, length}
use Rattle.free_pages.specs.Area.{marks_at, page_words}
use Rattle.dsa_area.specs.Opening.{HasWords, AreEmptyPools}
use Rattle.dsa_area.proofs.open.empty_pools.Given as goal

abbrev pub invariant-loop-class : goal.invariant-loop-class
invariant-loop-class l = record {
  here : l.bits.region ≡ l.r;
  owns : HasWords l.bits.words (marks_at l.first l.pages l.class) (l.first + page_words * l.pages);
  count : length l.pools.items + 2 ≡ l.class;
  pools : AreEmptyPools l.r l.first l.pages l.pools.items;
}
