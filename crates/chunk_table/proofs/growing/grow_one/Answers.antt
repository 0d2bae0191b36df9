use Rattle.std.proofs.Common.{◌≡◌, ℕ, ◌*◌, ◌/◌, ◌≤◌, ap, arith}
use Rattle.dshash_core.specs.Cells.{buckets_of}
use Rattle.dshash_parts.proofs.Grows.{grown_already, stuck, grown}
use Rattle.chunk_table.proofs.growing.grow_one.Goals as goal

pub returns-then-found-size-clause-grown : goal.returns-then-found-size-clause-grown
returns-then-found-size-clause-grown g c = grown_already _ _ _ c.args.number c.args.size _ _ _ _ _ c.look_at-found.result.0 c.look_at-found.result.1 c.if-found-size.true c.look_at-found.ensures.event

pub grow_at-left-requires-clause-slice : goal.grow_at-left-requires-clause-slice
grow_at-left-requires-clause-slice g c κs within =
    let fits : (c.in-Ok.slice.part.region ≡ c.args.r.now) × (buckets_of c.args.size ≤ c.in-Ok.slice.bytes / 8) = (c.in-Ok.ensures.here, omega (arith, c.in-Ok.ensures.holds, c.bucket_count.ensures)) in
    fits

pub returns-in-Ok-clause-grown : goal.returns-in-Ok-clause-grown
returns-in-Ok-clause-grown g c = grown _ _ _ c.args.number c.args.size _ _ _ _ _ _ _ _ _ c.look_at-found.result.0 c.look_at-found.result.1 (8 * c.bucket_count.result) _ _ c.if-found-size.false c.look_at-found.ensures.event (ap (λ (z : ℕ). 8 * z) c.bucket_count.ensures) c.in-Ok.ensures.asked c.in-Ok.ensures.caller c.look_at-found.ensures.caller c.grow_at-left.ensures.event c.give.ensures.gave c.give.ensures.caller

pub returns-in-Err-clause-grown : goal.returns-in-Err-clause-grown
returns-in-Err-clause-grown g c = stuck _ _ _ c.args.number c.args.size _ _ _ _ _ _ c.look_at-found.result.0 c.look_at-found.result.1 (8 * c.bucket_count.result) _ _ c.if-found-size.false c.look_at-found.ensures.event (ap (λ (z : ℕ). 8 * z) c.bucket_count.ensures) c.in-Err.ensures.asked c.in-Err.ensures.caller

pub returns-then-found-size-clause-large : goal.returns-then-found-size-clause-large
returns-then-found-size-clause-large g c = omega (arith, c.if-found-size.true, c.look_at-found.ensures.told)

pub returns-in-Ok-clause-grows : goal.returns-in-Ok-clause-grows
returns-in-Ok-clause-grows g c = λ k low. (let x = c.look_at-found.ensures.grows k low in let y = c.grow_at-left.ensures.grows k low in omega arith)
