use Rattle.std.proofs.Common.{◌∙◌, sym}
use Rattle.dsa_area.specs.declared.area.AreaPass.{AreaPass}
use Rattle.agg_table.specs.declared.part.HashSeat.{HashSeat}
use Rattle.agg_table.proofs.Paired.{all_paired, one_paired, room_next, same_next}
use Rattle.agg_table.proofs.opening.pair_up.Goals as goal

pub loop-area-preserved : goal.loop-area-preserved
loop-area-preserved c =
    let was = c.loop-area.invariant in
    let area = c.in-Some.ensures.steps.0 in
    let table = c.in-Some-next.ensures.cases.0 in
    record {
      paired = one_paired {C = HashSeat} (λ (x : AreaPass × _). record { area = x.0; table = x.1 }) _ _ _ _ _ _ _ _ _ c.push_reserved.ensures.items area table was.paired;
      as_many = same_next _ _ _ _ _ _ table area was.as_many;
      room = room_next _ _ _ _ _ _ c.push_reserved.ensures.len c.push_reserved.ensures.capacity c.in-Some.ensures.steps.1 was.room;
    }

pub returns : goal.returns
returns c =
    let it = c.loop-area.area-iterator.rest in
    all_paired {C = HashSeat} (λ (x : AreaPass × _). record { area = x.0; table = x.1 }) _ _ _ _ (sym it.ok.0 ∙ c.in-None.ensures.steps.0) c.loop-area.invariant.paired
