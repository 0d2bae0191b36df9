use Rattle.std.proofs.Common.{take}
use Rattle.dshash_core.specs.Listing.{pairs_of}
use Rattle.agg_table.specs.Drained.{AddsEntries}
use Rattle.agg_table.proofs.draining.add_entries.Given as goal

abbrev pub invariant-loop-entry : goal.invariant-loop-entry
invariant-loop-entry l = AddsEntries (pairs_of (take l.entry-index l.entries)) l.fn.groups l.groups
