use Rattle.std.proofs.Common.{◌≡◌, ◌∙◌, List, ap, length, rules, subst, sym, vec_len}
use Rattle.std.proofs.lemmas.List.{length-map, length-replicate}
use Rattle.partial_agg.specs.Groups.{GroupsByKey}
use Rattle.gather_law.specs.Shares.{AreShared}
use Rattle.row_lists.specs.Carried.{Carried}
use Rattle.part_run.specs.Carrying.{no_rows}
use Rattle.part_run.specs.Parted.{AreParted}
use Rattle.part_run.specs.declared.parts.PartMap.{PartMap}
use Rattle.part_run.proofs.Held.{all_in_maps}
use Rattle.part_run.proofs.parts.Parts.begin.Goals as goal

-- there is a map for each part
pub invariant_of-result : goal.invariant_of-result
invariant_of-result g c =
    let maps = c.in_ok-maps.maps.items in
    sym (length-map maps (λ (m : PartMap). m.groups)) ∙ ap (λ (ms : List GroupsByKey). length ms) c.in_ok-maps.ensures ∙ c.in_ok-groups.ensures.many

pub returns-clause-rows : goal.returns-clause-rows
returns-clause-rows g c = λ plan width rows shared few.
    let are = c.in_ok-groups.ensures.parted plan width rows (subst (λ (ms : List GroupsByKey). AreShared plan width rows ms) (sym c.as_slice.ensures.value) shared) few in
    all_in_maps plan width c.len-many.result rows _ (subst (λ (ms : List GroupsByKey). AreParted plan width rows ms) (sym c.in_ok-maps.ensures) are) c.in_ok-lists.ensures

pub returns-clause-many : goal.returns-clause-many
returns-clause-many g c =
    let size : vec_len c.args.maps ≡ length c.args.maps.items = search rules in
    ap (λ (ls : List (List (List Carried))). length ls) c.in_ok-lists.ensures ∙ length-replicate c.len-many.result no_rows ∙ c.len-many.ensures ∙ size
