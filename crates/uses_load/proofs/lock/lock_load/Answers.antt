use Rattle.std.proofs.Common.{◌<◌, ◌∙◌, get_or, length, ap, sym, subst, arith}
use Rattle.atomic_table.proofs.Lists.{at_index}
use Rattle.std.proofs.lemmas.List.{get_or_default}
use Rattle.lock_book.specs.Shown.{Belongs, mine_of, number_of}
use Rattle.uses_load.proofs.Elements.{read_at}
use Rattle.uses_load.proofs.lock.lock_load.Goals as goal

pub all_add-requires-clause-own : goal.all_add-requires-clause-own
all_add-requires-clause-own g c κs within = λ i p lt e. c.in_ok-shelf.ensures.passes.each i p (at_index _ i p lt e)

pub all_add-requires-clause-fresh : goal.all_add-requires-clause-fresh
all_add-requires-clause-fresh g c κs within = λ i p lt e. (c.in_ok-shelf.ensures.fresh i p (at_index _ i p lt e) 0).1

pub value_of-requires-clause-all : goal.value_of-requires-clause-all
value_of-requires-clause-all g c =
    let s = c.in_ok-shelf.ensures in
    let d = c.in_ok-done.ensures in
    record {
      count = d.count ∙ s.passes.count;
      each = λ k p h. let r = read_at _ k p h in subst (Belongs c.in_ok-shelf.shelf) (sym r.1) (d.own k p (omega (arith, r.0, d.count)));
      numbers = λ k p h.
          let r = read_at _ k p h in
          let lt : k < length c.in_ok-shelf.passes.items = omega (arith, r.0, d.count) in
          let was = get_or c.in_ok-shelf.passes.items k p in
          ap number_of r.1 ∙ d.callers k p lt ∙ s.passes.numbers k was (at_index _ k was lt (get_or_default c.in_ok-shelf.passes.items k p was lt));
    }

pub value_of-requires-clause-each : goal.value_of-requires-clause-each
value_of-requires-clause-each g c = λ k p h.
    let d = c.in_ok-done.ensures in
    let r = read_at _ k p h in
    ap (λ q. length (mine_of q 0)) r.1 ∙ d.added k p (omega (arith, r.0, d.count))
