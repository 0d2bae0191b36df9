use Rattle.std.proofs.Common.{◌≡◌, ◌<◌, ◌∙◌, ◌++◌, ◌∷◌, ◌+◌, [], List, Some, refl, ap, sym, subst, arith, get_or, length, set, slice_get}
use Rattle.std.proofs.lemmas.List.{set-get_or}
use Rattle.std.proofs.lemmas.Option.{slice_get_read}
use Rattle.dshash_core.specs.Listing.{pairs_of}
use Rattle.frozen_table.proofs.Taken.{AreListedTo, list_own, listed_all, listed_next}
use Rattle.frozen_table.proofs.lookup.Lookup.of.Goals as goal

pub loop-at-preserved : goal.loop-at-preserved
loop-at-preserved g c =
    let parts = c.args.partitions.now.items in
    let now = c.loop-at.partitions.items in
    let lists = c.loop-at.indexes.items in
    let at = c.loop-at.at in
    let p = c.index_mut.result.now in
    let is = c.loop-at.invariant in
    let same : set now at c.list.new.self ≡ now = ap (set now at) (c.list.ensures.same ∙ c.index_mut.ensures.value) ∙ set-get_or now at p in
    let low : at < length parts = omega (arith, c.loop-at-test.true, c.requires.count) in
    let here : slice_get parts at ≡ Some p = slice_get_read parts (length parts) at p refl low (subst (λ (ps : List _). p ≡ get_or ps at p) is.same c.index_mut.ensures.value) in
    let pushed : c.push.new.self.items ≡ lists ++ pairs_of c.in_ok-entries.entries.items ∷ [] = c.in_ok-push.ensures.items ∙ ap (λ (l : _). lists ++ l ∷ []) c.in_ok-of.ensures in
    record {
      same = same ∙ is.same;
      listed = subst (AreListedTo parts (at + 1)) (sym pushed) (listed_next parts at lists p (pairs_of c.in_ok-entries.entries.items) is.listed here c.in_ok-entries.ensures.all);
    }

pub returns-clause-listed : goal.returns-clause-listed
returns-clause-listed g c =
    listed_all c.args.partitions.now.items c.loop-at.at c.loop-at.indexes.items c.loop-at.invariant.listed (omega (arith, c.loop-at.auto.at-end, c.loop-at-test.false, c.requires.count))

pub invariant_of-result : goal.invariant_of-result
invariant_of-result g c =
    let parts = c.args.partitions.now.items in
    let lists = c.loop-at.indexes.items in
    list_own parts lists c.requires.count (listed_all parts c.loop-at.at lists c.loop-at.invariant.listed (omega (arith, c.loop-at.auto.at-end, c.loop-at-test.false, c.requires.count)))
