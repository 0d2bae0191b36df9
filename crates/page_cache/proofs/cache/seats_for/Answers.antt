use Rattle.std.proofs.Common.{◌≡◌, ◌+◌, [], ◌∷◌, ◌∙◌, ℕ, None, length, rules, arith, ap, sym}
use mathlib.Core.Option.{some-ne-none}
use lib.ListN.{get_elem?}
use Rattle.std.specs.Vec.Iter.{into_iter_items}
use Rattle.lock_book.specs.Shown.{mine_of, number_of, seen_of}
use Rattle.dsa_area.specs.Shown.{Belongs as AreaBelongs}
use Rattle.chunk_table.specs.Tables.{Belongs}
use Rattle.page_cache.specs.Seats.{IsSeat}
use Rattle.page_cache.specs.declared.cache.Seat.{Seat}
use Rattle.page_cache.proofs.Lists.{at_end, first, one_more, others, popped, pushed}
use Rattle.page_cache.proofs.Steps.{begins}
use Rattle.page_cache.proofs.cache.seats_for.Goals as goal

pub loop-pass-init : goal.loop-pass-init
loop-pass-init c =
    let all = c.requires.all in
    let whole : into_iter_items c.into_iter-pass-iterator.result ≡ c.args.passes.items = search rules in
    let none = c.new-seats.ensures.items in
    record {
      seats = λ k s at. absurd (some-ne-none s (sym at ∙ ap (λ l. get_elem? l k) none));
      still = λ k p at.
          let there = ap (λ l. get_elem? l k) (sym whole) ∙ at in
          (all.each k p there, all.numbers k p there ∙ (let e = ap (λ l. length l) none in omega (arith, e)), c.requires.fresh k p there);
      area_own = c.requires.area_own;
      alike = c.requires.alike ∙ ap (λ l. length l) (sym whole);
      count = let e = ap (λ l. length l) none in let w = ap (λ l. length l) whole in let n = all.count in omega (arith, e, w, n);
    }

pub loop-pass-preserved : goal.loop-pass-preserved
loop-pass-preserved c =
    let was = c.loop-pass.invariant in
    let seats = c.loop-pass.seats.items in
    let left = into_iter_items c.loop-pass.pass-iterator in
    let left' = into_iter_items c.next.new.self in
    let one : left ≡ c.in-Some.pass ∷ left' = search rules in
    let area = c.in-Some-pop.ensures.items in
    let more = c.in_ok-push.ensures.items in
    let longer = one_more _ seats _ more in
    let fewer = one_more _ _ _ area in
    let shorter = ap (λ l. length l) one in
    let head = first (λ j p. Belongs c.args.cache.now.table p × (number_of p ≡ length seats + j) × ((i : ℕ) → (seen_of p i ≡ []) × (mine_of p i ≡ []))) left left' c.in-Some.pass one was.still in
    let own = at_end (λ _ p. AreaBelongs c.args.cache.now.area p) _ _ c.in-Some-pop.apass area was.area_own in
    let seat : IsSeat c.args.cache.now (record { pass = c.in-Some.pass; apass = c.in-Some-pop.apass; tickets = c.args.cache.now.share; hand = 0; spare = None }) = record { own = head.0; area_own = own; settled = begins c.args.cache.now.area (number_of c.in-Some.pass) c.args.cache.now.share (seen_of c.in-Some.pass) (mine_of c.in-Some.pass) c.in-Some-pop.apass head.2; hand = omega arith; spare = tt } in
    record {
      seats = pushed (λ k (s : Seat). IsSeat c.args.cache.now s × (number_of s.pass ≡ k) × ((i : ℕ) → (seen_of s.pass i ≡ []) × (mine_of s.pass i ≡ []))) seats _ _ more was.seats (seat, (let n = head.1 in omega (arith, n)), head.2);
      still = λ k p at. let r = others (λ j p. Belongs c.args.cache.now.table p × (number_of p ≡ length seats + j) × ((i : ℕ) → (seen_of p i ≡ []) × (mine_of p i ≡ []))) left left' c.in-Some.pass one was.still k p at in (r.0, (let n = r.1 in omega (arith, n, longer)), r.2);
      area_own = popped (λ _ p. AreaBelongs c.args.cache.now.area p) _ _ c.in-Some-pop.apass area was.area_own;
      alike = let n = was.alike in omega (arith, n, fewer, shorter);
      count = let n = was.count in omega (arith, n, longer, shorter);
    }
