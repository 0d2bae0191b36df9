use Rattle.std.proofs.Common.{All, arith, subst, sym}
use Rattle.std.proofs.lemmas.List.Elements.{All-push}
use Rattle.std.specs.List.Sorted.{IsPermutation}
use Rattle.partial_agg.specs.Groups.{GroupsByKey}
use Rattle.partial_agg.specs.Listed.{listed}
use Rattle.part_run.specs.Moving.{IsLent}
use Rattle.part_run.specs.declared.moving.LentParts.{LentParts}
use Rattle.part_run.proofs.Lending.{lent_next}
use Rattle.part_run.proofs.moving.lend_all.Goals as goal

pub loop-map-preserved : goal.loop-map-preserved
loop-map-preserved c =
    let one : LentParts = record { groups = c.lent-groups.result; parts = c.in_ok-parts.parts } in
    let olds = c.loop-map.lists.items in
    record {
      listings = lent_next c.args.maps.now c.loop-map.map-index c.map-item.result olds c.push.new.self.items one (omega (arith, c.loop-map-test.true)) c.loop-map.invariant.listings
          (subst (λ (m : GroupsByKey). IsPermutation (listed m) c.lent-groups.result) c.map-item.is c.lent-groups.ensures.groups) c.in_ok-push.ensures.items;
      lent = subst (All IsLent) (sym c.in_ok-push.ensures.items) (All-push IsLent olds one c.loop-map.invariant.lent (record { parts = c.in_ok-parts.ensures; whole = c.lent-groups.ensures.whole }));
    }
