use Rattle.std.proofs.Common.{◌≡◌, List, length, arith, subst, sym}
use Rattle.std.proofs.lemmas.List.{nil_from_length}
use Rattle.partial_agg.specs.Groups.{GroupsByKey}
use Rattle.split_run.specs.Together.{Joins}
use Rattle.split_run.proofs.Joining.{joins_none, joins_one, only}
use Rattle.split_run.proofs.together.at_most_one.Goals as goal

pub returns-in-Some : goal.returns-in-Some
returns-in-Some c =
    subst (λ (l : List GroupsByKey). Joins l c.in-Some.groups) (sym (only c.args.maps.items c.pop.new.self.items c.in-Some.groups c.in-Some.ensures.items c.requires)) (joins_one c.in-Some.groups)

pub returns : goal.returns
returns c =
    let none : length c.args.maps.items ≡ 0 = omega (arith, c.in-None.ensures.cases.0, c.args.maps.ok.0) in
    subst (λ (l : List GroupsByKey). Joins l c.new.result) (sym (nil_from_length c.args.maps.items none)) (joins_none c.new.result c.new.ensures.groups)
