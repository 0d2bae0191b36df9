use Rattle.std.proofs.Common.{◌≡◌, ◌∙◌, ◌∷◌, ℕ, List, [], rules, refl, ap, sym, subst, arith, length, reverse}
use Rattle.std.proofs.lemmas.List.{length-append, length-reverse}
use Rattle.dshash_core.specs.Cells.{PartitionView}
use Rattle.dshash_parts.specs.Ending.{IsAt, left_of, whole_of}
use Rattle.frozen_table.specs.Parts.{AreParts}
use Rattle.frozen_table.proofs.Taken.{AreTaken, taken_all, taken_next, taken_none}
use Rattle.frozen_table.proofs.table.take_all.Goals as goal

pub loop-partition-init : goal.loop-partition-init
loop-partition-init g c = record {
  count = search rules;
  room = search rules;
  history = λ i. refl;
  of = λ region t of. of;
  taken = λ region t of. subst (λ (ps : _). AreTaken region t (whole_of c.args.table.now) (left_of c.args.table.now) (reverse ps)) (sym c.in_ok-partitions.ensures.items) (taken_none region t (whole_of c.args.table.now) (left_of c.args.table.now));
}

pub loop-partition-preserved : goal.loop-partition-preserved
loop-partition-preserved g c =
    let is = c.loop-partition.invariant in
    let history = whole_of c.args.table.now in
    let n = left_of c.take_last.new.self in
    let p = c.in-Some.partition in
    let parts = c.loop-partition.partitions.items in
    record {
      count = omega (arith, is.count, c.in-Some.ensures.some, ap (λ (ps : List _). length ps) c.push_reserved.ensures.items, length-append parts (p ∷ []));
      room = c.push_reserved.ensures.capacity ∙ is.room;
      history = λ i. c.in-Some.ensures.history i ∙ is.history i;
      of = λ region t of. c.in-Some.ensures.parts region t (is.of region t of);
      taken = λ region t of.
          let here : IsAt region t n (history n) p = subst (λ (es : _). IsAt region t n es p) (is.history n) (c.in-Some.ensures.last region t (is.of region t of)) in
          subst (λ (ps : _). AreTaken region t history n (reverse ps)) (sym c.push_reserved.ensures.items)
          (taken_next region t history n (left_of c.loop-partition.table) parts p c.in-Some.ensures.some (is.taken region t of) here);
    }

pub returns-clause-parts : goal.returns-clause-parts
returns-clause-parts g c = λ region t of.
    let is = c.loop-partition.invariant in
    let history = whole_of c.args.table.now in
    let parts = c.loop-partition.partitions.items in
    let none : left_of c.loop-partition.table ≡ 0 = c.in_default.ensures.none.0 refl in
    let turned = c.reverse.ensures.items in
    let taken = subst (λ (n : ℕ). AreTaken region t history n (reverse parts)) none (is.taken region t of) in
    let count : length (reverse parts) ≡ 128 = length-reverse parts ∙ omega (arith, is.count, none) in
    subst (λ (ps : List (PartitionView _)). AreParts region t history ps) (sym turned) (taken_all region t history (reverse parts) taken count)
