use Rattle.std.proofs.Common.{◌≡◌, ℕ, List, [], subst, length, length-append, sym, ap, ◌∙◌, arith}
use mathlib.Core.Option.{some-ne-none}
use lib.ListN.{get_elem?}
use Rattle.std.specs.List.{All}
use Rattle.std.proofs.lemmas.List.Elements.{All-nil}
use Rattle.atomic_table.specs.Seated.{TableId}
use Rattle.region_words.specs.declared.chunk.Chunk.{Chunk}
use Rattle.std_alloc.specs.Arc.{arc_value}
use Rattle.lock_book.specs.Shown.{mine_of, number_of, seen_of}
use Rattle.dshash_parts.specs.Tables.{Belongs}
use Rattle.c_records.specs.Items.{IsItem}
use Rattle.c_table.specs.Reserves.{IsReserve, chunk_words}
use Rattle.c_records.specs.Shares.{IsShared, words_of}
use Rattle.c_records.specs.declared.shared.Shared.{Shared}
use Rattle.c_records.specs.declared.shared.Share.{Share}
use Rattle.c_table.proofs.Lists.{at_end, each_but_last}
use Rattle.c_records.proofs.caller.Caller.share.Goals as goal

pub returns : goal.returns
returns c =
    let v = c.self.view_is in
    let cut = c.in-Some-cut.ensures in
    let next = c.self.invariant.others (length c.pop.new.self.items) c.in-Some.pass (at_end _ _ _ c.in-Some.ensures.items) in
    let left : c.of_chunk.result.left ≡ c.args.words = omega (arith, c.of_chunk.ensures.1, cut.chunk.1) in
    let items : length c.new-2.result.items ≡ 0 = ap length c.new-2.ensures.items in
    let slices : chunk_words c.new-3.result.items ≡ 0 = ap chunk_words c.new-3.ensures.items in
    let less = cut.less in (
      record { table = ap (λ (s : Share). s.shared) v; caller = ap (λ (s : Share). number_of s.pass) v },
      ap (λ (s : Share). s.pass) v,
      c.in-Ok.ensures ∙ ap (λ (s : Share). arc_value s.shared) v,
      left,
      sym (ap (λ (s : Share). s.reserve.left) v) ∙ less,
      omega arith,
      sym (ap words_of v) ∙ omega arith,
      sym (ap (λ (s : Share). length s.others.items) v) ∙ ap length c.in-Some.ensures.items ∙ length-append c.pop.new.self.items _,
      c.new.ensures.items,
      next.1,
      next.2,
    )

pub invariant_of-self-2 : goal.invariant_of-self-2
invariant_of-self-2 c =
    let i = c.self.invariant in
    record {
      shared = i.shared;
      own = i.own;
      others = (each_but_last (λ k p. Belongs (arc_value c.self.inside.share.shared).table p × (number_of p ≡ k) × ((i : ℕ) → (seen_of p i ≡ []) × (mine_of p i ≡ []))) _ _ _ c.in-Some.ensures.items i.others).0;
      reserve = subst (λ (x : Shared). IsReserve x.region c.cut.new.self) (c.deref.ensures ∙ c.in-Ok.ensures) c.in-Some-cut.ensures.reserve;
      items = i.items;
      slices = i.slices;
    }

pub invariant_of-result : goal.invariant_of-result
invariant_of-result c =
    let i = c.self.invariant in
    let next = i.others (length c.pop.new.self.items) c.in-Some.pass (at_end _ _ _ c.in-Some.ensures.items) in
    record {
      shared = subst IsShared (sym c.in-Ok.ensures) i.shared;
      own = subst (λ (x : Shared). Belongs x.table c.in-Some.pass) (sym c.in-Ok.ensures) next.0;
      others = λ k p at. absurd (some-ne-none p (sym at ∙ ap (λ l. get_elem? l k) c.new.ensures.items));
      reserve = subst (λ (r : TableId). IsReserve r c.of_chunk.result) (c.in-Some-cut.ensures.chunk.0 ∙ ap (λ (x : Shared). x.region) c.deref.ensures) c.of_chunk.ensures.0;
      items = subst (λ (l : List Chunk). All (IsItem (arc_value c.in-Ok.shared).region) l) (sym c.new-2.ensures.items) (All-nil _);
      slices = subst (λ (l : List Chunk). All (λ k. k.part.region ≡ (arc_value c.in-Ok.shared).region) l) (sym c.new-3.ensures.items) (All-nil _);
    }
