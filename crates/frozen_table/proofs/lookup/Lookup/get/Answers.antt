use Rattle.std.proofs.Common.{◌≡◌, ◌<◌, ◌∙◌, ℕ, Some, refl, ap, sym, subst, arith, length, slice_get}
use Rattle.std.specs.FinMap as fin
use Rattle.std.proofs.lemmas.Option.{slice_get_read}
use Rattle.dshash_core.specs.Cells.{partition_of}
use Rattle.dshash_core.specs.Key.{hash_of}
use Rattle.frozen_table.specs.Parts.{ListMaps, map_in}
use Rattle.frozen_table.proofs.Entries.{looked_up}
use Rattle.frozen_table.proofs.lookup.Lookup.get.Goals as goal

pub returns-clause-is : goal.returns-clause-is
returns-clause-is g c =
    let key = c.args.key.now in
    let lists = c.self.inside.indexes.items in
    let i = c.partition_of_hash.result in
    let list = c.index.result.now in
    let own = c.self.invariant in
    let low : i < length lists = omega (arith, c.partition_of_hash.ensures.range, own.count) in
    let here : slice_get lists i ≡ Some list = slice_get_read lists (length lists) i list refl low c.index.ensures in
    let at : i ≡ partition_of (hash_of key) = c.partition_of_hash.ensures.is ∙ ap partition_of c.hash_key-hash.ensures in
    subst (λ (ls : _). c.find.result ≡ fin.get (map_in ls (partition_of (hash_of key))) key) c.self.view_is
    (looked_up (map_in lists i) list key c.find.result (own.each i list here) c.find.ensures.found c.find.ensures.absent ∙ ap (λ (n : ℕ). fin.get (map_in lists n) key) at)

pub returns-clause-maps : goal.returns-clause-maps
returns-clause-maps g c = λ maps all.
    let key = c.args.key.now in
    let lists = c.self.inside.indexes.items in
    let i = c.partition_of_hash.result in
    let list = c.index.result.now in
    let low : i < length lists = omega (arith, c.partition_of_hash.ensures.range, c.self.invariant.count) in
    let here : slice_get lists i ≡ Some list = slice_get_read lists (length lists) i list refl low c.index.ensures in
    let at : i ≡ partition_of (hash_of key) = c.partition_of_hash.ensures.is ∙ ap partition_of c.hash_key-hash.ensures in
    looked_up (maps i) list key c.find.result ((subst (ListMaps maps) (sym c.self.view_is) all).each i list here) c.find.ensures.found c.find.ensures.absent ∙ ap (λ (n : ℕ). fin.get (maps n) key) at
