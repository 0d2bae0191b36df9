use Rattle.std.proofs.Common.{◌∙◌, ap, map, subst, sym}
use Rattle.std.specs.List.Sorted.{IsStrictlySortedBy}
use Rattle.partial_agg.specs.Groups.{key_cmp}
use Rattle.partial_agg.specs.declared.groups.Group.{Group}
use Rattle.partial_agg.proofs.Placed.{keys-listed_at}
use Rattle.partial_agg.proofs.groups.Groups.keys_rise.Goals as goal

pub returns : goal.returns
returns c =
    subst (IsStrictlySortedBy key_cmp)
    (sym (keys-listed_at c.self.inside.keys c.self.inside.states c.self.inside.places.items) ∙ ap (map (λ (g : Group). g.key)) c.self.view_is)
    c.self.invariant.rise
