use Rattle.std.proofs.Common.{◌≡◌, ◌+◌, ◌*◌, length}
use Rattle.std.specs.List.{All}
use Rattle.free_pages.specs.Area.{marks_at, page_words}
use Rattle.dsa_area.specs.Opening.{HasWords}
use Rattle.c_area.specs.Arenas.{ArePools}
use Rattle.c_area.specs.States.{no_superblock}
use Rattle.c_area.proofs.opening.empty_pools.Given as goal

abbrev pub invariant-loop-class : goal.invariant-loop-class
invariant-loop-class l = record {
  here : l.bits.region ≡ l.r;
  owns : HasWords l.bits.words (marks_at l.first l.pages l.class) (l.first + page_words * l.pages);
  count : length l.pools.items + 2 ≡ l.class;
  pools : ArePools (record { region = l.r; first = l.first; pages = l.pages }) 2 l.pools.items;
  empty : All (λ b. b.state ≡ no_superblock) l.pools.items;
}
