use Rattle.std.proofs.Common.{◌≡◌, ◌<◌, ◌∙◌, Some, refl, ap, arith, length, slice_get, subst, sym}
use Rattle.std.proofs.lemmas.Option.{slice_get_read}
use Rattle.dshash_core.specs.Listing.{pairs_of}
use Rattle.frozen_table.proofs.lookup.Lookup.entries.Goals as goal

pub returns : goal.returns
returns g c =
    let lists = c.self.inside.indexes.items in
    let i = c.args.partition in
    let list = c.index.result.now in
    let low : i < length lists = omega (arith, c.requires, c.self.invariant.count) in
    let here : slice_get lists i ≡ Some list = slice_get_read lists (length lists) i list refl low c.index.ensures in
    let out = pairs_of c.entries.result.now in
    subst (λ (ls : _). slice_get ls i ≡ Some out) c.self.view_is (here ∙ ap Some (sym c.entries.ensures))
