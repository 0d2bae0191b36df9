use Rattle.std.proofs.Common.{List, subst}
use Rattle.std.proofs.lemmas.Result.{IfOk-weaker}
use Rattle.part_run.specs.Moving.{AreMade}
use Rattle.part_run.specs.declared.moving.LentParts.{LentParts}
use Rattle.part_run.proofs.Lending.{made_many, made_parted}
use Rattle.part_run.proofs.moving.part_maps.Goals as goal

pub returns-clause-many : goal.returns-clause-many
returns-clause-many g c =
    let lists = c.in_ok-lists.lists.items in
    let olds = c.in_ok-parts.parts.items in
    let made = c.make_maps.new.parts.items in
    let are : AreMade lists olds made = subst (λ (ls : List LentParts). AreMade ls olds made) c.deref.ensures.value c.make_maps.ensures in
    IfOk-weaker c.all_of.result _ _ (λ parts all. made_many parts.items lists olds made c.in_ok-parts.ensures are all) c.all_of.ensures

pub returns-clause-parted : goal.returns-clause-parted
returns-clause-parted g c =
    let lists = c.in_ok-lists.lists.items in
    let olds = c.in_ok-parts.parts.items in
    let made = c.make_maps.new.parts.items in
    let are : AreMade lists olds made = subst (λ (ls : List LentParts). AreMade ls olds made) c.deref.ensures.value c.make_maps.ensures in
    IfOk-weaker c.all_of.result _ _
    (λ parts all plan width rows shared few. made_parted plan width rows c.args.maps.now parts.items lists olds made c.in_ok-lists.ensures.listings c.in_ok-parts.ensures are all shared few) c.all_of.ensures
