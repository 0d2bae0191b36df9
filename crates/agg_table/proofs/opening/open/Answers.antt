use Rattle.std.proofs.Common.{ℕ, ◌≡◌, ◌∙◌, length, map, refl, ap, sym}
use Rattle.std.specs.List.{zip}
use mathlib.Core.Option.{some}
use lib.ListN.{get_elem?}
use Rattle.dsa_area.specs.declared.area.AreaPass.{AreaPass}
use Rattle.dsa_area.proofs.Openings.{pair_at, pairs_long}
use Rattle.agg_table.specs.declared.part.HashSeat.{HashSeat}
use Rattle.agg_table.proofs.opening.open.Goals as goal

pub returns-clause-part : goal.returns-clause-part
returns-clause-part c =
    let t = c.in_ok-table.ensures in
    record {
      area = c.in_ok-area.ensures.area;
      table = t.table;
      home = t.home c.in_ok-area.area;
      keys = t.keys;
      callers = c.in_ok-area.ensures.callers ∙ sym t.callers;
    }

pub returns-clause-seats : goal.returns-clause-seats
returns-clause-seats c =
    let a = c.in_ok-area.ensures in
    let t = c.in_ok-table.ensures in
    let ps = c.in_ok-area.areas.items in
    let tables = c.in_ok-table.tables.items in
    let make : AreaPass × _ → HashSeat = λ x. record { area = x.0; table = x.1 } in
    let seats = c.in_ok-seats.seats.items in
    let are : seats ≡ map make (zip ps tables) = c.in_ok-seats.ensures in
    let as_many : length tables ≡ length ps = t.passes.count ∙ t.callers ∙ sym (a.passes.count ∙ a.callers) in
    let both : (k : ℕ) (s : HashSeat) → get_elem? seats k ≡ some s → (get_elem? ps k ≡ some s.area) × (get_elem? tables k ≡ some s.table) = λ k s e. pair_at make (λ (s : HashSeat). s.area) (λ (s : HashSeat). s.table) (λ x. refl) (λ x. refl) ps tables seats k s are e in
    record {
      count = ap length are ∙ pairs_long make ps tables as_many ∙ a.passes.count ∙ a.callers ∙ sym t.callers;
      each = λ k s e.
          let x = both k s e in
          record { area = a.passes.each k s.area x.0; table = t.passes.each k s.table x.1; same = a.passes.numbers k s.area x.0 ∙ sym (t.passes.numbers k s.table x.1) };
      unused = λ k s e.
          let x = both k s e in
          record { number_is = t.passes.numbers k s.table x.1; turns = λ i. (t.fresh k s.table x.1 i).1; area = a.fresh k s.area x.0 };
    }
