use Rattle.std.proofs.Common.{◌<◌, ◌∙◌, List, Some, ap, sym, arith, length, map}
use Rattle.std.proofs.lemmas.Option.{slice_get-get_or}
use Rattle.std.specs.List.{slice_get}
use Rattle.partial_agg.specs.declared.groups.Group.{Group}
use Rattle.partial_agg.proofs.Placed.{length-listed_at, listed-state}
use Rattle.partial_agg.proofs.groups.Groups.state.Goals as goal

pub returns : goal.returns
returns c =
    let keys = c.self.inside.keys in
    let states = c.self.inside.states in
    let places = c.self.inside.places.items in
    let place = c.index.result.now in
    let within : c.args.at < length places = omega (arith, c.requires, ap (length {A = Group}) c.self.view_is, length-listed_at keys states places) in
    ap (λ (groups : List Group). slice_get (map (λ (g : Group). g.state) groups) c.args.at) (sym c.self.view_is)
    ∙ listed-state keys states places c.args.at place c.get.result (slice_get-get_or places c.args.at place within ∙ ap Some (sym c.index.ensures)) c.get.ensures
