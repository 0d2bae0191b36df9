use Rattle.std.proofs.Common.{◌≡◌, ◌≤◌, ◌∙◌, ap, arith, false, length, subst, sym}
use Rattle.std.proofs.lemmas.List.{take_all}
use Rattle.std.proofs.lemmas.List.Elements.{All-more}
use Rattle.part_run.specs.Waiting.{LackNone}
use Rattle.part_run.specs.declared.parts.PartMap.{PartMap}
use Rattle.part_run.proofs.parts.any_lacks.Goals as goal

pub loop-map-preserved : goal.loop-map-preserved
loop-map-preserved c =
    All-more (λ (m : PartMap). m.lacks ≡ false) c.args.maps.now c.loop-map.map-index c.map-item.result (omega (arith, c.loop-map-test.true)) c.loop-map.invariant
    (ap (λ (m : PartMap). m.lacks) (sym c.map-item.is) ∙ c.if-map.false)

pub returns : goal.returns
returns c = λ none.
    let all : length c.args.maps.now ≤ c.loop-map.map-index = omega (arith, c.loop-map-test.false) in
    subst LackNone (take_all c.loop-map.map-index c.args.maps.now all) c.loop-map.invariant
