use Rattle.std.proofs.Common.{◌≡◌, ◌+◌, ◌++◌, [], ◌∷◌, take, ap, sym, subst, ◌∙◌}
use Rattle.std.proofs.lemmas.List.{map-append, take_more}
use Rattle.dshash_core.specs.Listing.{pairs_of}
use Rattle.agg_table.specs.Drained.{AddsEntries}
use Rattle.agg_table.proofs.Listed.{adds_one}
use Rattle.agg_table.proofs.draining.add_entries.Goals as goal

pub loop-entry-preserved : goal.loop-entry-preserved
loop-entry-preserved c =
    let entries = c.args.entries.now in
    let i = c.loop-entry.entry-index in
    let e = c.entry-item.result in
    let more : take (i + 1) entries ≡ take i entries ++ e ∷ [] = take_more entries i e c.loop-entry-test.true ∙ ap (λ x. take i entries ++ x ∷ []) (sym c.entry-item.is) in
    let pairs : pairs_of (take (i + 1) entries) ≡ pairs_of (take i entries) ++ (e.key, e.state) ∷ [] = ap (λ l. pairs_of l) more ∙ map-append (λ x. (x.key, x.state)) (take i entries) (e ∷ []) in
    let key = c.group_key.ensures in
    subst (λ l. AddsEntries l c.args.groups.now c.add.new.self) (sym pairs)
    (adds_one (pairs_of (take i entries)) c.args.groups.now c.loop-entry.groups c.add.new.self e.key c.group_key.result e.state c.loop-entry.invariant key.bytes key.short (sym c.words.ensures ∙ key.packs) c.in_ok-add.ensures.ok)
