use Rattle.std.proofs.Common.{◌≡◌, IfOk, ℕ, length, map, subst, sym}
use Rattle.std.proofs.lemmas.List.Elements.{All-map}
use Rattle.std.specs.FinMap as fin
use Rattle.dshash_core.specs.Cells.{PartitionView, IsRoomy, all_items, entry_of}
use Rattle.dshash_core.specs.Outcome.{ListsAll}
use Rattle.dshash_core.specs.Listing.{HaveWords, pairs_of}
use Rattle.dshash_core.proofs.Flats.{cells_len}
use Rattle.dshash_core.proofs.Moves.{either_result, lists_all}
use Rattle.dshash_core.proofs.partition.Partition.list.Goals as goal

pub returns-clause-all : goal.returns-clause-all
returns-clause-all g c =
    let P : PartitionView g.row.O-State.Denot → Type 0 = λ w. IfOk c.list_all.result (λ v. ListsAll w.cells (pairs_of v.items)) in
    subst P c.self.view_is
    (either_result c.list_all.result _ _
    (λ v e. lists_all g.O.CellObject.decoded c.self.inside.size c.self.inside.count g.O.CellObject.VALUE_WORDS c.self.inside.buckets c.self.invariant.cells (pairs_of v.items) e)
    c.list_all.ensures.entries)

pub returns-clause-roomy : goal.returns-clause-roomy
returns-clause-roomy g c =
    let len = cells_len c.self.inside.size c.self.inside.count g.O.CellObject.VALUE_WORDS c.self.inside.buckets c.self.invariant.cells g.O.CellObject.decoded in
    subst (λ (w : PartitionView g.row.O-State.Denot). IsRoomy w.size (fin.len w.cells)) c.self.view_is (subst (λ (n : ℕ). IsRoomy c.self.inside.size n) (sym len) c.self.invariant.cells.roomy)

pub returns-clause-keys : goal.returns-clause-keys
returns-clause-keys g c =
    let b = c.self.inside.buckets in
    let dec = g.O.CellObject.decoded in
    let n : ℕ = b.layout.key_words in
    let P : PartitionView g.row.O-State.Denot → Type 0 = λ w. IfOk c.list_all.result (λ v. HaveWords w.key_words (pairs_of v.items)) in
    let long : HaveWords n (map (entry_of dec) (all_items b.chains)) = All-map (λ p. length p.0 ≡ n) (entry_of dec) (all_items b.chains) c.is_sound.ensures.keys in
    subst P c.self.view_is (either_result c.list_all.result _ _ (λ v e. subst (λ pairs. HaveWords n pairs) (sym e) long) c.list_all.ensures.entries)
