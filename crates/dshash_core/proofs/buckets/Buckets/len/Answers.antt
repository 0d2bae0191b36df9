use Rattle.std.proofs.Common.{ap, sym, ◌∙◌, length}
use Rattle.dshash_core.specs.Hung.{Hung}
use Rattle.dshash_core.proofs.Views.{len_is}
use Rattle.dshash_core.proofs.buckets.Buckets.len.Goals as goal

pub returns : goal.returns
returns c = sym (len_is c.self.inside c.self.invariant) ∙ ap (λ (h : Hung). length h.chains) c.self.view_is
