use Rattle.std.proofs.Common.{◌≡◌, ℕ, ◌-◌, ◌≤◌, None, drop, length}
use Rattle.shm_toc.specs.Table.{place_of, table_of}
use Rattle.shm_toc.specs.Requests.{Provides}
use Rattle.uses_region.proofs.contents.table_of_chunks.Given as goal

abbrev pub invariant-loop-i : goal.invariant-loop-i
invariant-loop-i l = record {
  here : l.toc.region ≡ l.r;
  provides : Provides (table_of l.toc.words) (drop l.i l.sizes) (length l.sizes - l.i);
  fresh : (key : ℕ) → l.i ≤ key → place_of (table_of l.toc.words).entries key ≡ None;
  entries : length (table_of l.toc.words).entries ≡ l.i;
}
