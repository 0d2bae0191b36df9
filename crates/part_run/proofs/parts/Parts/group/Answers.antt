use Rattle.std.proofs.Common.{◌≡◌, ◌∙◌, ◌++◌, List, ap, drop, length, replicate, rules, slice_index_or, subst, sym, take, vec_len}
use Rattle.std.proofs.lemmas.List.{length-map, length-replicate}
use Rattle.row_lists.specs.Carried.{Carried}
use Rattle.part_run.specs.Carrying.{no_rows, waiting_for, with_carried}
use Rattle.part_run.specs.Held.{HeldParts}
use Rattle.part_run.specs.Waiting.{GroupsAll, HaveWaiting, LackNone, groups_in}
use Rattle.part_run.specs.declared.parts.PartMap.{PartMap}
use Rattle.part_run.proofs.Held.{all_grouped, all_in_maps, each_grouped, whole_again}
use Rattle.part_run.proofs.parts.Parts.group.Goals as goal

-- the maps after all rows were added, by what is inside of the parts
pub maps_all : (p : HeldParts) (olds news : List PartMap) (lists : List (List (List Carried))) → length olds ≡ 256 → p.maps ≡ groups_in olds → p.lists ≡ lists → HaveWaiting lists olds news → LackNone news → GroupsAll p (groups_in news)
maps_all p olds news lists long maps are done none =
    let many : length (groups_in news) ≡ 256 = length-map news (λ (m : PartMap). m.groups) ∙ done.count ∙ long in
    all_grouped p (groups_in news) many (λ part d low.
    each_grouped lists olds news long done none part d low
    ∙ (λ i. with_carried (slice_index_or (sym maps i) part d) (waiting_for part (sym are i))))

pub returns-clause-all : goal.returns-clause-all
returns-clause-all g c =
    let olds = c.self.inside.maps.items in
    let news = c.group_all.new.maps in
    let lists = c.self.inside.lists.items in
    let done : HaveWaiting lists olds news =
    subst (λ (ls : List (List (List Carried))). HaveWaiting ls olds news) c.as_slice.ensures.value (subst (λ (ms : List PartMap). HaveWaiting c.as_slice.result.now ms news) c.as_mut_slice.ensures.value c.group_all.ensures) in
    let size : vec_len c.self.inside.maps ≡ length olds = search rules in
    let back : take (vec_len c.self.inside.maps) (news ++ drop (length news) olds) ≡ news = whole_again (vec_len c.self.inside.maps) olds news size done.count in
    let none : LackNone news = subst LackNone (c.as_slice-2.ensures.value ∙ back) (c.any_lacks.ensures c.if-any_lacks.false) in
    subst (λ (ms : List PartMap). GroupsAll c.args.self.now (groups_in ms)) (sym back)
    (maps_all c.args.self.now olds news lists c.self.invariant (sym (ap (λ (p : HeldParts). p.maps) c.self.view_is)) (sym (ap (λ (p : HeldParts). p.lists) c.self.view_is)) done none)

pub returns-clause-none : goal.returns-clause-none
returns-clause-none g c =
    let olds = c.self.inside.lists.items in
    let news = c.clear_all.new.lists in
    let now : news ≡ replicate (length olds) no_rows = c.clear_all.ensures ∙ ap (λ (ls : List (List (List Carried))). replicate (length ls) no_rows) c.as_mut_slice-2.ensures.value in
    let long : length news ≡ length olds = ap (λ (ls : List (List (List Carried))). length ls) now ∙ length-replicate (length olds) no_rows in
    let size : vec_len c.self.inside.lists ≡ length olds = search rules in
    whole_again (vec_len c.self.inside.lists) olds news size long ∙ now ∙ ap (λ (p : HeldParts). replicate (length p.lists) no_rows) c.self.view_is

pub returns-clause-rows : goal.returns-clause-rows
returns-clause-rows g c = λ plan width rows has few.
    all_in_maps plan width (length c.args.self.now.lists) rows _ (returns-clause-all g c plan width rows has few) (returns-clause-none g c)
