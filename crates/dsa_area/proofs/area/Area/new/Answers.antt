use Rattle.std.proofs.Common.{ℕ, ◌-◌, length, refl, sym, ap, ◌∙◌, arith}
use lib.ListN.{get_elem?}
use Rattle.lock_book.proofs.Uses.{at_map}
use Rattle.lock_book.specs.Shown as shelf
use Rattle.dsa_area.specs.declared.area.AreaPass.{AreaPass}
use Rattle.dsa_area.proofs.Openings.{one_open, pair_at, pairs_long}
use Rattle.dsa_area.proofs.area.Area.new.Goals as goal

pub returns-clause-area : goal.returns-clause-area
returns-clause-area c =
    let s = c.in_ok-page_shelf.ensures in
    let t = c.in_ok-pool_shelf.ensures in
    let f = c.in_ok-first.ensures in record {
      pages = one_open _ (shelf.opens_of c.in_ok-page_shelf.page_shelf) c.push.new.self.items c.new-books.result.items c.in_ok-first.book _ s.opens c.in_ok-push.ensures.items c.new-books.ensures.items f.pages;
      count = t.counts.0 ∙ f.all;
      pools = λ i low. ap (λ l. get_elem? l i) t.opens ∙ at_map _ c.in_ok-first.pools.items i _ (f.pools i (omega (arith, f.all)));
      callers = t.counts.1 ∙ sym s.counts.1;
    }

pub returns-clause-passes : goal.returns-clause-passes
returns-clause-passes c =
    let s = c.in_ok-page_shelf.ensures in
    let t = c.in_ok-pool_shelf.ensures in
    let at = (λ (k : ℕ) (p : AreaPass) (e : _). pair_at _ (λ (q : AreaPass). q.pages) (λ (q : AreaPass). q.pools) (λ _. refl) (λ _. refl) c.in_ok-page_shelf.page_passes.items c.in_ok-pool_shelf.pool_passes.items c.in_ok-passes.passes.items k p c.in_ok-passes.ensures e) in record {
      count = ap length c.in_ok-passes.ensures ∙ (pairs_long _ c.in_ok-page_shelf.page_passes.items c.in_ok-pool_shelf.pool_passes.items (t.passes.count ∙ (t.counts.1 ∙ sym (s.passes.count ∙ s.counts.1))) ∙ s.passes.count);
      each = λ k p e. let h = at k p e in record { pages = s.passes.each k p.pages h.0; pools = t.passes.each k p.pools h.1; one_caller = t.passes.numbers k p.pools h.1 ∙ sym (s.passes.numbers k p.pages h.0) };
      numbers = λ k p e. s.passes.numbers k p.pages (at k p e).0;
    }

pub returns-clause-fresh : goal.returns-clause-fresh
returns-clause-fresh c = λ k p e.
    let h = pair_at _ (λ (q : AreaPass). q.pages) (λ (q : AreaPass). q.pools) (λ _. refl) (λ _. refl) c.in_ok-page_shelf.page_passes.items c.in_ok-pool_shelf.pool_passes.items c.in_ok-passes.passes.items k p c.in_ok-passes.ensures e in
    record { pages = c.in_ok-page_shelf.ensures.fresh k p.pages h.0 0; pools = λ class. c.in_ok-pool_shelf.ensures.fresh k p.pools h.1 (class - 2) }

pub pair_up-requires : goal.pair_up-requires
pair_up-requires c =
    let s = c.in_ok-page_shelf.ensures in
    let t = c.in_ok-pool_shelf.ensures in
    t.passes.count ∙ (t.counts.1 ∙ sym (s.passes.count ∙ s.counts.1))
