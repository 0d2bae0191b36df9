use Rattle.std.proofs.Common.{◌<◌, ◌+◌, ◌++◌, ◌∙◌, [], List, ap, arith, filter, get_or, length, map, subst, sym}
use Rattle.std.proofs.lemmas.List.{take_all}
use Rattle.line_runs.specs.Entries.{Entry}
use Rattle.line_runs.specs.Order.{entry_at}
use Rattle.line_runs.specs.Ranges.{IsCutAt, entries_of, is_of}
use Rattle.line_runs.specs.Runs.{Rise}
use Rattle.line_runs.proofs.Cuts.{cuts_rise, same_within, stretch_is}
use Rattle.line_runs.proofs.Stretches.{runs_more}
use Rattle.line_runs.proofs.texts.lines_in.Goals as goal

pub start_in-from-requires-clause-rises : goal.start_in-from-requires-clause-rises
start_in-from-requires-clause-rises c =
    let lt : c.loop-at.at < length c.args.runs.now = omega (arith, c.loop-at-test.true) in
    subst (Rise c.args.ranges.now.columns) (sym (c.index-runs-at.is ∙ same_within c.args.runs.now c.loop-at.at c.index-runs-at.result [] lt)) (c.requires.rise c.loop-at.at [] lt)

pub end_in-to-requires-clause-rises : goal.end_in-to-requires-clause-rises
end_in-to-requires-clause-rises c =
    let lt : c.loop-at.at < length c.args.runs.now = omega (arith, c.loop-at-test.true) in
    subst (Rise c.args.ranges.now.columns) (sym (c.index-runs-at.is ∙ same_within c.args.runs.now c.loop-at.at c.index-runs-at.result [] lt)) (c.requires.rise c.loop-at.at [] lt)

pub add_lines-requires : goal.add_lines-requires
add_lines-requires c = cuts_rise c.args.ranges.now c.args.range _ c.start_in-from.result c.end_in-to.result c.start_in-from.ensures c.end_in-to.ensures

pub loop-at-preserved : goal.loop-at-preserved
loop-at-preserved c =
    let r = c.args.ranges.now in
    let range = c.args.range in
    let runs = c.args.runs.now in
    let at = c.loop-at.at in
    let run = get_or runs at [] in
    let lt : at < length runs = omega (arith, c.loop-at-test.true) in
    let same = c.index-runs-at.is ∙ same_within runs at c.index-runs-at.result [] lt in
    let from : IsCutAt r range run c.start_in-from.result = subst (λ (l : List Entry). IsCutAt r range l c.start_in-from.result) same c.start_in-from.ensures in
    let to : IsCutAt r (range + 1) run c.end_in-to.result = subst (λ (l : List Entry). IsCutAt r (range + 1) l c.end_in-to.result) same c.end_in-to.ensures in
    c.in_ok-add_lines.ensures runs to.within
    ∙ ap (λ (l : List Entry). map (entry_at runs) c.loop-at.lines.items ++ l) (stretch_is r range run c.start_in-from.result c.end_in-to.result from to)
    ∙ runs_more (filter (is_of r range)) runs at [] (map (entry_at runs) c.loop-at.lines.items) lt c.loop-at.invariant

pub returns : goal.returns
returns c = c.loop-at.invariant ∙ ap (λ (rs : List (List Entry)). entries_of c.args.ranges.now rs c.args.range) (take_all c.loop-at.at c.args.runs.now (omega (arith, c.loop-at-test.false)))
