use Rattle.std.proofs.Common.{◌≡◌, ◌∙◌, ap, sym, subst, length, List}
use Rattle.std.proofs.lemmas.List.{length-map}
use mathlib.Core.Option.{some}
use lib.ListN.{get_elem?}
use Rattle.lock_book.proofs.Uses.{map_at}
use Rattle.lock_book.specs.Shown.{Belongs as BelongsToShelf}
use Rattle.par_barrier.specs.Shown.{history_of, number_of, own_of}
use Rattle.par_barrier.specs.declared.barrier.BarrierPass.{BarrierPass}
use Rattle.par_barrier.proofs.barrier.Barrier.new.Goals as goal

pub returns-clause-passes : goal.returns-clause-passes
returns-clause-passes c =
    let s = c.in_ok-shelf.ensures in
    let is = c.in_ok-passes.ensures in
    record {
      count = ap length is ∙ (length-map _ _ ∙ s.passes.count);
      each = λ k p at.
          let x = map_at _ _ k p (subst (λ (xs : List BarrierPass). get_elem? xs k ≡ some p) is at) in
          (subst (λ (q : BarrierPass). BelongsToShelf c.in_ok-shelf.shelf q.pass) x.2 (s.passes.each k x.0 x.1), ap number_of (sym x.2) ∙ s.passes.numbers k x.0 x.1);
    }

pub returns-clause-fresh : goal.returns-clause-fresh
returns-clause-fresh c = λ k p at.
    let s = c.in_ok-shelf.ensures in
    let x = map_at _ _ k p (subst (λ (xs : List BarrierPass). get_elem? xs k ≡ some p) c.in_ok-passes.ensures at) in
    let f = s.fresh k x.0 x.1 0 in
    (ap history_of (sym x.2) ∙ f.0, ap own_of (sym x.2) ∙ f.1)
