use Rattle.std.proofs.Common.{◌<◌, ◌≤◌, ◌∙◌, [], ℕ, List, ap, sym, subst, arith, get_or, length, map}
use Rattle.std.proofs.lemmas.Option.{get_or_from_slice_get, slice_get-get_or, slice_get_within}
use Rattle.std.specs.List.{slice_get}
use Rattle.partial_agg.specs.declared.groups.Group.{Group}
use Rattle.partial_agg.proofs.Placed.{length-listed_at, listed-key}
use Rattle.partial_agg.proofs.lent.LentGroups.key.Goals as goal

pub returns-clause-key : goal.returns-clause-key
returns-clause-key c =
    let keys = c.self.inside.keys.now in
    let states = c.self.inside.states.now in
    let places = c.self.inside.places.now in
    let place = get_or c.self.inside.places.now c.args.at 0 in
    let within : c.args.at < length places = omega (arith, c.requires, ap (length {A = Group}) c.self.view_is, length-listed_at keys states places) in
    ap (λ (groups : List Group). slice_get (map (λ (g : Group). g.key) groups) c.args.at) (sym c.self.view_is)
    ∙ listed-key keys states places c.args.at place c.get.result.now (slice_get-get_or places c.args.at 0 within) c.get.ensures

pub returns-clause-fits : goal.returns-clause-fits
returns-clause-fits c =
    let keys = c.self.inside.keys.now in
    let place = get_or c.self.inside.places.now c.args.at 0 in
    subst (λ (key : List ℕ). length key ≤ 248) (get_or_from_slice_get keys place c.get.result.now [] c.get.ensures)
    (c.self.invariant.fits place [] (slice_get_within keys place c.get.result.now c.get.ensures))
