use Rattle.std.proofs.Common.{◌≡◌, ℕ, List, [], ◌∷◌, length, length-append, sym, ap, ◌∙◌, subst, arith}
use Rattle.std.specs.List.{All}
use Rattle.std.proofs.lemmas.List.Elements.{All-nil}
use Rattle.atomic_table.specs.Seated.{TableId}
use Rattle.std_alloc.specs.Arc.{arc_value}
use Rattle.region_words.specs.declared.chunk.Chunk.{Chunk}
use Rattle.lock_book.specs.Shown.{mine_of, number_of, seen_of}
use Rattle.dshash_parts.specs.Tables.{Belongs, callers_of, seed_of}
use Rattle.c_records.specs.Items.{IsItem}
use Rattle.c_table.specs.Reserves.{IsReserve, chunk_words}
use Rattle.c_records.specs.Shares.{IsShared}
use Rattle.c_records.specs.declared.shared.Shared.{Shared}
use Rattle.c_table.proofs.Lists.{at_end, each_but_last}
use Rattle.c_records.proofs.making.assemble.Goals as goal

pub invariant_of-result : goal.invariant_of-result
invariant_of-result c =
    let t = c.in_ok-table.ensures in
    let e = sym c.in_ok-shared.ensures.ok in
    let own = each_but_last (λ k p. Belongs c.in_ok-table.table p × (number_of p ≡ k) × ((i : ℕ) → (seen_of p i ≡ []) × (mine_of p i ≡ []))) _ _ _ c.in-Some.ensures.items (λ k p at. (t.passes.each k p at, t.passes.numbers k p at, t.fresh k p at)) in
    record {
      shared = subst IsShared e (record { table = t.table; keys = t.keys; items = t.items });
      own = subst (λ (x : Shared). Belongs x.table c.in-Some.pass) e own.1.0;
      others = λ k p at. let o = own.0 k p at in (subst (λ (x : Shared). Belongs x.table p) e o.0, o.1, o.2);
      reserve = subst (λ (x : Shared). IsReserve x.region c.of_part-reserve.result) e (subst (λ (t : TableId). IsReserve t c.of_part-reserve.result) c.in_ok-slices.ensures.here c.of_part-reserve.ensures.0);
      items = subst (λ (l : List Chunk). All (IsItem (arc_value c.in_ok-shared.shared).region) l) (sym c.new-3.ensures.items) (All-nil _);
      slices = subst (λ (l : List Chunk). All (λ k. k.part.region ≡ (arc_value c.in_ok-shared.shared).region) l) (sym c.new-4.ensures.items) (All-nil _);
    }

pub returns : goal.returns
returns c =
    let t = c.in_ok-table.ensures in
    record {
      callers_are = ap (λ (x : Shared). callers_of x.table) c.in_ok-shared.ensures.ok ∙ t.callers;
      seed_is = ap (λ (x : Shared). seed_of x.table) c.in_ok-shared.ensures.ok ∙ t.seed;
      others = omega (arith, ap length c.in-Some.ensures.items, length-append c.pop.new.self.items (c.in-Some.pass ∷ []), t.passes.count, t.callers);
      words_are =
          let left : c.of_part-reserve.result.left ≡ c.args.words = c.of_part-reserve.ensures.1 in
          let items : length c.new-3.result.items ≡ 0 = ap length c.new-3.ensures.items in
          let slices : chunk_words c.new-4.result.items ≡ 0 = ap chunk_words c.new-4.ensures.items in
          (left, omega arith);
      number = let last = t.passes.numbers _ c.in-Some.pass (at_end _ _ _ c.in-Some.ensures.items) in omega (arith, last, ap length c.in-Some.ensures.items, length-append c.pop.new.self.items (c.in-Some.pass ∷ []), t.passes.count, t.callers);
      fresh = t.fresh _ c.in-Some.pass (at_end _ _ _ c.in-Some.ensures.items);
    }
