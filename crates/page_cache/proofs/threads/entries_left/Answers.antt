use Rattle.std.proofs.Common.{◌∙◌, ℕ, ap, sym, subst, arith}
use Rattle.std.specs.FinMap as fin
use Rattle.chunk_table.specs.Ending.{Ended, left_of, whole_of}
use Rattle.dshash_parts.specs.States.{fresh}
use Rattle.lock_book.specs.History.{last_of}
use Rattle.chunk_table.specs.Tables.{AreAll, callers_of}
use Rattle.dshash_parts.specs.Tables.{map_at}
use Rattle.page_cache.specs.Pages.{stepped}
use Rattle.page_cache.specs.Tickets.{sum_below}
use Rattle.page_cache.proofs.Endings.{all_passes, end_moment}
use Rattle.page_cache.proofs.Moments.{never_more}
use Rattle.page_cache.proofs.PartitionSums.{sum_last, sum_same}
use Rattle.page_cache.proofs.threads.entries_left.Goals as goal

pub close-closed-requires-clause-all : goal.close-closed-requires-clause-all
close-closed-requires-clause-all c κs =
    let s = c.requires.seats in
    subst (λ ps. AreAll c.args.cache.table ps) (sym s.2) (all_passes c.args.cache s.0 s.1)

pub loop-partition-init : goal.loop-partition-init
loop-partition-init c =
    let s = c.requires.seats in
    let e = c.close-closed.ensures in
    let closed = c.close-closed.result in
    let ended = subst (λ ps. Ended stepped c.args.cache.table ps closed) s.2 e.ended in
    let few = never_more c.args.cache.area (callers_of c.args.cache.table) c.args.cache.share (whole_of closed) (end_moment c.args.cache s.0 s.1 closed ended) in
    let all = ap (λ (n : ℕ). sum_below n (λ i. fin.len (map_at (whole_of closed) i))) e.left in
    record { parts = e.parts c.args.cache.region c.requires.cache.table; few = omega (arith, few, all) }

pub loop-partition-preserved : goal.loop-partition-preserved
loop-partition-preserved c =
    let i = c.loop-partition.invariant in
    let t = c.in-Some.ensures in
    let was = c.loop-partition.closed in
    let now = c.take_last.new.self in
    let at = t.last c.args.cache.region c.args.cache.table i.parts in
    let last = sum_last (left_of was) (left_of now) (λ k. fin.len (map_at (whole_of was) k)) t.some in
    let same = sum_same (left_of now) (λ k. fin.len (map_at (whole_of was) k)) (λ k. fin.len (map_at (whole_of now) k)) (λ k lt. ap (λ es. fin.len (last_of fresh es).cells) (t.history k)) in
    let count = c.count.ensures.is ∙ ap (λ s. fin.len s.cells) at.state in
    let few = i.few in
    let sum = c.saturating_add-entries.ensures in
    record { parts = t.parts c.args.cache.region c.args.cache.table i.parts; few = omega (arith, few, last, same, count, sum) }
