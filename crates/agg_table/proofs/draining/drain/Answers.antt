use Rattle.std.proofs.Common.{◌≡◌, ◌<◌, refl, ap, sym, subst, ◌∙◌, arith}
use Rattle.dshash_parts.specs.Ending.{left_of, whole_of}
use Rattle.dshash_parts.specs.States.{fresh}
use Rattle.dshash_parts.specs.Tables.{map_at}
use Rattle.lock_book.specs.History.{last_of}
use Rattle.agg_table.specs.Drained.{AddsCells, ArePacked}
use Rattle.agg_table.proofs.Drains.{AddsFrom, adds-next, adds-none, partition_packed}
use Rattle.agg_table.proofs.draining.drain.Goals as goal

pub loop-partition-init : goal.loop-partition-init
loop-partition-init c = record {
  of = c.requires.part;
  few = omega (arith, c.requires.whole);
  history = λ i. refl;
  adds = subst (λ n. AddsFrom n (whole_of c.args.table.now) c.args.groups.now c.args.groups.now) (sym c.requires.whole) (adds-none (whole_of c.args.table.now) c.args.groups.now);
}

pub add_partition-requires-clause-here : goal.add_partition-requires-clause-here
add_partition-requires-clause-here c =
    let of = c.loop-partition.invariant.of in
    ap (λ n. n.region) (c.in-Some.ensures.last c.args.r.now of.0.table of.1).name

pub add_partition-requires-clause-packed : goal.add_partition-requires-clause-packed
add_partition-requires-clause-packed c =
    let is = c.loop-partition.invariant in
    let n = left_of c.take_last.new.self in
    let low : n < 128 = omega (arith, is.few, c.in-Some.ensures.some) in
    let here : c.in-Some.partition.cells ≡ map_at (whole_of c.args.table.now) n = ap (λ s. s.cells) (c.in-Some.ensures.last c.args.r.now is.of.0.table is.of.1).state ∙ ap (λ es. (last_of fresh es).cells) (is.history n) in
    subst ArePacked (sym here) (partition_packed (whole_of c.args.table.now) c.requires.held.0 c.requires.held.1 n low)

pub loop-partition-preserved : goal.loop-partition-preserved
loop-partition-preserved c =
    let is = c.loop-partition.invariant in
    let history = whole_of c.args.table.now in
    let n = left_of c.take_last.new.self in
    let low : n < 128 = omega (arith, is.few, c.in-Some.ensures.some) in
    let here : c.in-Some.partition.cells ≡ map_at history n = ap (λ s. s.cells) (c.in-Some.ensures.last c.args.r.now is.of.0.table is.of.1).state ∙ ap (λ es. (last_of fresh es).cells) (is.history n) in
    record {
      of = (is.of.0, c.in-Some.ensures.parts c.args.r.now is.of.0.table is.of.1);
      few = omega (arith, low);
      history = λ i. c.in-Some.ensures.history i ∙ is.history i;
      adds = adds-next history c.requires.held.0 c.requires.held.1 n c.args.groups.now c.loop-partition.groups c.add_partition.new.groups low
          (subst (λ k. AddsFrom k history c.args.groups.now c.loop-partition.groups) c.in-Some.ensures.some is.adds)
          (subst (λ cells. AddsCells cells c.loop-partition.groups c.add_partition.new.groups) here c.in_ok-add_partition.ensures);
    }
