use Rattle.std.proofs.Common.{◌<◌, ◌+◌, [], length, ap, sym, subst, ◌∙◌}
use Rattle.dshash_core.specs.Hung.{Hung, IsSpot, chain_of}
use Rattle.dshash_core.proofs.Views.{bucket_in, link_fits, first_item}
use Rattle.dshash_core.proofs.buckets.Buckets.first_spot.Goals as goal

pub overflow_add-link : goal.overflow_add-link
overflow_add-link c =
    let l = subst (λ (u : Hung). c.args.bucket < length u.chains) (sym c.first-item.ensures.same) c.requires.bucket in
    link_fits c.self.inside c.self.invariant c.args.bucket (bucket_in c.self.inside c.self.invariant c.first-item.new.self c.self.view_is c.args.bucket l)

pub returns-clause-some : goal.returns-clause-some
returns-clause-some c =
    let f = first_item (chain_of c.args.self.now c.args.bucket) c.first-item.result c.first-item.ensures.first c.if-item-eq0.false in
    let s : IsSpot c.first-item.new.self c.args.bucket (c.self.inside.slice + c.args.bucket) f.0 = record { before = []; after = f.1; chain = ap (λ (u : Hung). chain_of u c.args.bucket) c.first-item.ensures.same ∙ f.2; behind = ap (λ (u : Hung). u.slice + c.args.bucket) (sym c.self.view_is) } in
    (f.0, subst (λ (u : Hung). IsSpot u c.args.bucket (c.self.inside.slice + c.args.bucket) f.0) c.first-item.ensures.same s, f.3)
