use Rattle.std.proofs.Common.{All, OnOk, Result, Ok, Err, sym, subst}
use Rattle.dshash_core.specs.Key.{IsPackedKey}
use Rattle.dshash_core.specs.Listing.{pairs_of}
use Rattle.dshash_core.specs.Outcome.{ListsAll}
use Rattle.agg_table.proofs.Listed.{entries_packed, listed_added}
use Rattle.agg_table.proofs.draining.add_partition.Goals as goal

pub add_entries-requires : goal.add_entries-requires
add_entries-requires c =
    subst (All (λ e. IsPackedKey e.key)) (sym c.as_slice.ensures.value) (entries_packed c.args.partition.now.cells c.in_ok-entries.entries.items c.in_ok-entries.ensures.all c.requires.packed)

on_ok : {E P Q : Type 0} (r : Result (Unit {0}) E) → (P → Q) → OnOk r P → OnOk r Q
on_ok (Ok x) f h = f h
on_ok (Err e) f h = tt

pub returns : goal.returns
returns c =
    let lists = subst (λ l. ListsAll c.args.partition.now.cells (pairs_of l)) (sym c.as_slice.ensures.value) c.in_ok-entries.ensures.all in
    on_ok c.add_entries.result (listed_added c.args.partition.now.cells (pairs_of c.as_slice.result.now) c.args.groups.now c.add_entries.new.groups lists) c.add_entries.ensures
