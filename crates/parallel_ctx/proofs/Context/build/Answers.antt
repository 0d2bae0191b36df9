use Rattle.std.proofs.Common.{◌*◌, ◌-◌, ◌≡◌, ◌&&◌, ◌+◌, ℕ, Option, Some, None, IfSome, is_some, leb, ◌∙◌, ◌≤◌, length, arith, subst, sym}
use Rattle.plan_descriptor.specs.Planned.{HasPlan}
use Rattle.parallel_ctx.specs.declared.tokens.Shared.{Shared}
use Rattle.dsa_area.specs.Shown.{pages_of}
use Rattle.agg_table.specs.declared.part.HashPart.{HashPart}
use Rattle.parallel_ctx.specs.Making.{AreDealt, HasTable, hash_size}
use Rattle.parallel_ctx.proofs.Room.{making-from}
use Rattle.shm_toc.specs.Table.{table_of}
use Rattle.parallel_ctx.proofs.Dealing.{prepared}
use Rattle.parallel_ctx.proofs.Context.build.Goals as goal

pub invariant_of-result : goal.invariant_of-result
invariant_of-result g c =
    let w : Shared = record { region = c.in_ok-region.region; claims = c.in_ok-claims.claims; hash = c.in_ok-hash.hash } in
    let toc = c.keep_plan-toc.result in
    let queues = c.in_ok-ends-2.ensures in
    let dealt = c.deal-leader.ensures in
    let few : length c.in_ok-ends-2.field-0.ends.items ≤ 64 = omega (arith, queues.asked, c.requires.workers) in
    let as_many : c.args.workers + 1 ≡ length c.in_ok-ends-2.field-0.ends.items + 1 = omega (arith, queues.asked) in
    prepared w c.of.result.value toc c.keep_plan-toc.ensures.here (subst (HasPlan toc.words) (sym c.of.ensures) c.keep_plan-toc.ensures.plan)
    c.deal-leader.result.leader c.deal-leader.result.hands.items c.in_ok-ends-2.field-0.receivers.items c.in_ok-claims.seats.items c.in_ok-hash.hash_seats.items c.in_ok-ends-2.field-0.ends.items
    c.in_ok-claims.ensures.seats c.in_ok-claims.ensures.draws few dealt.leader.0 dealt.leader.1
    dealt.tocs dealt.numbers dealt.claims dealt.hashes dealt.ends (subst (λ (n : ℕ). AreDealt w.region n w.hash c.in_ok-hash.hash_seats.items) as_many c.in_ok-hash.ensures.dealt) queues.unused queues.unheard queues.rings

pub returns-clause-hash : goal.returns-clause-hash
returns-clause-hash g c =
    by c.in_ok-hash.hash (c.in_ok-hash.ensures.there ∙ c.wants_table-with_table.ensures) c.in_ok-hash.ensures.pages
  where
    by : (o : Option HashPart) → is_some o ≡ (c.args.plan.now.hash && leb 16 c.args.area_pages) → IfSome o (λ p. pages_of p.area ≡ c.args.area_pages) → HasTable c.args.plan.now c.args.area_pages o
    by None e p = sym e
    by (Some part) e p = (sym e, p)

pub new_queues-requires-clause-making : goal.new_queues-requires-clause-making
new_queues-requires-clause-making g c =
    let t = table_of c.new_toc-toc.result.toc.words in
    let size = hash_size c.wants_table-with_table.result c.args.area_pages in
    c.in_ok-hash.ensures.making (82016 * c.args.workers)
    (making-from t 2 2 (8 * c.words_for-words.result - 304) (8 * size + 82016 * c.args.workers) c.new_toc-toc.ensures.making (omega arith) (omega (arith, c.words_for-words.ensures.room, c.hash_words.ensures.size)))
