use Rattle.std.proofs.Common.{◌≡◌, ℕ, List, length, length-append, refl, sym, ap, subst, arith}
use mathlib.Core.Option.{some, some-ne-none}
use lib.ListN.{get_elem?}
use Rattle.lock_book.proofs.Opening.{each_snoc}
use Rattle.single_flight.specs.declared.cell.Cell.{Cell}
use Rattle.single_flight.specs.declared.history.CellState.TheVariants.{Empty}
use Rattle.single_flight.proofs.loader.empty_cells.Goals as goal

pub loop-key-init : goal.loop-key-init
loop-key-init g c = record {
  count = ap length c.new-cells.ensures.items;
  empty = λ k x e. absurd (some-ne-none x (sym (subst (λ (xs : List (Cell g.row.L.Denot g.row.L-Value.Denot)). get_elem? xs k ≡ some x) c.new-cells.ensures.items e)));
}

pub loop-key-preserved : goal.loop-key-preserved
loop-key-preserved g c =
    let i = c.loop-key.invariant in
    let more = c.in_ok-push.ensures.items in record {
      count = omega (arith, ap length more, length-append {A = Cell g.row.L.Denot g.row.L-Value.Denot}, i.count);
      empty = subst (λ (xs : List (Cell g.row.L.Denot g.row.L-Value.Denot)). (k : ℕ) (x : Cell g.row.L.Denot g.row.L-Value.Denot) → get_elem? xs k ≡ some x → (x.key ≡ k) × (x.state ≡ Empty 0)) (sym more)
          (each_snoc (λ (k : ℕ) (x : Cell g.row.L.Denot g.row.L-Value.Denot). (x.key ≡ k) × (x.state ≡ Empty 0)) _ _ i.empty (sym i.count, refl));
    }
