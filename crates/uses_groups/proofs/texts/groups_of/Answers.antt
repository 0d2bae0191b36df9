use Rattle.std.proofs.Common.{◌≤◌, arith, subst, length, length-drop, drop, List, ℕ, []}
use Rattle.std.proofs.lemmas.List.{take_all}
use Rattle.partial_agg.specs.Groups.{AreGroups}
use Rattle.uses_groups.proofs.texts.groups_of.Goals as goal

pub returns-in-Ok : goal.returns-in-Ok
returns-in-Ok c =
    let rows = drop 1 c.args.store.now in
    let few : length rows ≤ 256 = omega (arith, length-drop 1 c.args.store.now, c.requires) in
    subst (λ (rs : List (List (List ℕ))). AreGroups c.args.bound.now rs c.add_block.new.self) (take_all 256 rows few)
    (c.in-Ok.ensures.groups [] (λ k d lt. absurd (omega arith)) (omega arith) (c.new-map.ensures.groups c.args.bound.now))
