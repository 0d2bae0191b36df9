use Rattle.std.proofs.Common.{◌≡◌, ◌++◌, ◌∷◌, [], ◌+◌, ◌-◌, ◌*◌, vec_items, rules, ap, arith, subst, sym, ◌∙◌}
use Rattle.std.proofs.lemmas.List.Elements.{All-push}
use Rattle.std.specs.List.{All, AllZip}
use Rattle.shm_toc.specs.Table.{Table, place_of, table_of}
use Rattle.parallel_ctx.specs.Making.{AreRings, AreUnheardIn, AreUnused, IsMaking, with_queues}
use Rattle.parallel_ctx.proofs.Room.{making-from, making-next, plan_stays}
use Rattle.parallel_ctx.proofs.Zips.{AllZip-pushed}
use Rattle.parallel_ctx.proofs.making.new_queues.Goals as goal

pub loop-at-preserved : goal.loop-at-preserved
loop-at-preserved c =
    let was = c.loop-at.invariant in
    let es = vec_items c.loop-at.ends in
    let qs = vec_items c.loop-at.receivers in
    let e = c.in_ok-mine.mine in
    let q = c.in_ok-mine.theirs in
    let k = c.loop-at.at in
    let left = 82016 * (c.args.workers - (k + 1)) in
    let now : table_of c.new_ends.new.toc.words ≡ with_queues (table_of c.loop-at.toc.words) (k + 1) e = search rules in
    let ends_are : vec_items c.push_reserved.new.self ≡ es ++ e ∷ [] = c.push_reserved.ensures.items in
    let queues_are : vec_items c.push_reserved-in-loop-at.new.self ≡ qs ++ q ∷ [] = c.push_reserved-in-loop-at.ensures.items in
    record {
      count = search rules;
      other_count = search rules;
      room = search rules;
      more_room = search rules;
      here = search rules;
      making = subst (λ (t : Table). IsMaking t (18 + 2 * (k + 1)) left) (sym now)
          (making-next (table_of c.loop-at.toc.words) (k + 1) left e
          (making-from (table_of c.loop-at.toc.words) (18 + 2 * k) (16 + 2 * (k + 1)) (82016 * (c.args.workers - k)) (82016 + left) was.making (omega arith) (omega (arith, c.loop-at-test.true))));
      plan = ap (λ (t : Table). place_of t.entries 1) now ∙ plan_stays (table_of c.loop-at.toc.words) (k + 1) e ∙ was.plan;
      magic = ap (λ (t : Table). t.magic) now ∙ was.magic;
      unused = subst (All (AreUnused c.args.r.now)) (sym ends_are) (All-push (AreUnused c.args.r.now) es e was.unused c.in_ok-mine.ensures.unused);
      unheard = subst (All (AreUnheardIn c.args.r.now)) (sym queues_are) (All-push (AreUnheardIn c.args.r.now) qs q was.unheard c.in_ok-mine.ensures.unheard);
      rings =
          subst (AllZip AreRings (vec_items c.push_reserved.new.self)) (sym queues_are)
          (subst (λ l. AllZip AreRings l (qs ++ q ∷ [])) (sym ends_are) (AllZip-pushed AreRings es qs e q was.rings c.in_ok-mine.ensures.rings));
    }
