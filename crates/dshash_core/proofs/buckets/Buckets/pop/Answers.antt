use Rattle.std.proofs.Common.{◌≡◌, ◌<◌, ◌+◌, [], length, ap, sym, subst, ◌∙◌}
use Rattle.dshash_core.specs.Hung.{Hung, IsSpot, with_chain, chain_of, IsItemChunk}
use Rattle.dshash_core.proofs.Views.{bucket_in, link_fits, first_item}
use Rattle.dshash_core.proofs.buckets.Buckets.pop.Goals as goal

pub overflow_add-link : goal.overflow_add-link
overflow_add-link c =
    let l = subst (λ (u : Hung). c.args.bucket < length u.chains) (sym c.first-item.ensures.same) c.requires.bucket in
    link_fits c.self.inside c.self.invariant c.args.bucket (bucket_in c.self.inside c.self.invariant c.first-item.new.self c.self.view_is c.args.bucket l)

pub unlink-requires-clause-spot : goal.unlink-requires-clause-spot
unlink-requires-clause-spot c =
    let f = first_item (chain_of c.args.self.now c.args.bucket) c.first-item.result c.first-item.ensures.first c.if-item-eq0.false in
    (f.0, record { before = []; after = f.1; chain = ap (λ (u : Hung). chain_of u c.args.bucket) c.first-item.ensures.same ∙ f.2; behind = ap (λ (u : Hung). u.slice + c.args.bucket) (sym c.self.view_is) }, f.3)

pub returns-clause-some : goal.returns-clause-some
returns-clause-some c =
    let f = first_item (chain_of c.args.self.now c.args.bucket) c.first-item.result c.first-item.ensures.first c.if-item-eq0.false in
    let s : IsSpot c.first-item.new.self c.args.bucket (c.self.inside.slice + c.args.bucket) f.0 = record { before = []; after = f.1; chain = ap (λ (u : Hung). chain_of u c.args.bucket) c.first-item.ensures.same ∙ f.2; behind = ap (λ (u : Hung). u.slice + c.args.bucket) (sym c.self.view_is) } in
    record {
      it = f.0;
      rest = f.1;
      chain = f.2;
      without = subst (λ (u : Hung). c.unlink.new.self ≡ with_chain u c.args.bucket f.1) c.first-item.ensures.same (c.unlink.ensures.rest f.0 s f.3);
      item = subst (λ (u : Hung). IsItemChunk c.unlink.result.at c.unlink.result.part.words u.layout f.0) c.first-item.ensures.same (c.unlink.ensures.item f.0 s f.3);
      here = c.unlink.ensures.here.0 ∙ ap (λ (u : Hung). u.region) c.first-item.ensures.same;
      whole = c.unlink.ensures.here.2 ∙ ap (λ (u : Hung). u.layout.item_bytes) c.first-item.ensures.same;
    }
