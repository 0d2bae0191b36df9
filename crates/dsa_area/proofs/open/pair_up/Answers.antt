use Rattle.std.proofs.Common.{◌∙◌, sym}
use Rattle.dsa_area.specs.declared.area.AreaPass.{AreaPass}
use Rattle.dsa_area.proofs.Openings.{all_paired, one_paired, room_next, same_next}
use Rattle.dsa_area.proofs.open.pair_up.Goals as goal

pub loop-pages-preserved : goal.loop-pages-preserved
loop-pages-preserved c =
    let was = c.loop-pages.invariant in
    let page = c.in-Some.ensures.steps.0 in
    let pool = c.in-Some-next.ensures.cases.0 in
    record {
      paired = one_paired {C = AreaPass} (λ x. record { pages = x.0; pools = x.1 }) _ _ _ _ _ _ _ _ _ c.push_reserved.ensures.items page pool was.paired;
      as_many = same_next _ _ _ _ _ _ pool page was.as_many;
      room = room_next _ _ _ _ _ _ c.push_reserved.ensures.len c.push_reserved.ensures.capacity c.in-Some.ensures.steps.1 was.room;
    }

pub returns : goal.returns
returns c =
    let it = c.loop-pages.pages-iterator.rest in
    all_paired {C = AreaPass} (λ x. record { pages = x.0; pools = x.1 }) _ _ _ _ (sym it.ok.0 ∙ c.in-None.ensures.steps.0) c.loop-pages.invariant.paired
