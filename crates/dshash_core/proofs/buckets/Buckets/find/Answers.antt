use Rattle.std.proofs.Common.{ℕ, ap, sym, subst, ◌∙◌}
use Rattle.dshash_core.specs.Hung.{Hung}
use Rattle.dshash_core.specs.Key.{seeded_hash}
use Rattle.dshash_core.specs.Walk.{IsReadable}
use Rattle.dshash_core.proofs.Views.{bucket_in, link_fits, owned_link, readable, finds}
use Rattle.dshash_core.proofs.buckets.Buckets.find.Goals as goal

pub overflow_add-self-inside : goal.overflow_add-self-inside
overflow_add-self-inside c = link_fits c.self.inside c.self.invariant c.args.bucket (bucket_in c.self.inside c.self.invariant c.args.self.now c.self.view_is c.args.bucket c.requires.bucket)

pub seek-requires-clause-link : goal.seek-requires-clause-link
seek-requires-clause-link c = owned_link c.self.inside c.self.invariant c.args.bucket (bucket_in c.self.inside c.self.invariant c.args.self.now c.self.view_is c.args.bucket c.requires.bucket)

pub seek-requires-clause-chain : goal.seek-requires-clause-chain
seek-requires-clause-chain c = c.self.invariant.linked c.args.bucket (bucket_in c.self.inside c.self.invariant c.args.self.now c.self.view_is c.args.bucket c.requires.bucket)

pub seek-requires-clause-items : goal.seek-requires-clause-items
seek-requires-clause-items c = (
  c.self.inside.seed,
  c.requires.hash ∙ ap (λ (h : Hung). seeded_hash h.layout.seed c.args.key.now) (sym c.self.view_is),
  λ a m.
      subst (λ (n : ℕ). IsReadable c.self.inside.part.words c.self.inside.seed n a) (ap (λ (h : Hung). h.layout.key_words) c.self.view_is ∙ sym c.requires.key)
      (readable c.self.inside c.self.invariant c.args.bucket a (bucket_in c.self.inside c.self.invariant c.args.self.now c.self.view_is c.args.bucket c.requires.bucket) m),
)

pub returns-clause-found : goal.returns-clause-found
returns-clause-found c = finds c.self.inside c.self.invariant c.args.self.now c.self.view_is c.seek.result c.args.bucket c.args.key.now c.requires.bucket c.requires.key c.seek.ensures.found
