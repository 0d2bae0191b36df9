use Rattle.std.proofs.Common.{◌≡◌, ◌+◌, ◌*◌, ◌==◌, false, refl, arith, ap, ◌∙◌}
use Rattle.shm_toc.specs.Table.{Table, place_of, table_of}
use Rattle.parallel_ctx.specs.Making.{with_queue}
use Rattle.parallel_ctx.proofs.Room.{other_key}
use Rattle.parallel_ctx.proofs.making.new_ends.Goals as goal

pub new_queue-requires-clause-power : goal.new_queue-requires-clause-power
new_queue-requires-clause-power c = (11, refl, omega arith)

pub new_queue-requires-2-clause-power : goal.new_queue-requires-2-clause-power
new_queue-requires-2-clause-power c = (13, refl, omega arith)

pub new_queue-requires-2-clause-unused : goal.new_queue-requires-2-clause-unused
new_queue-requires-2-clause-unused c =
    let t = table_of c.args.toc.now.words in
    let key = 16 + 2 * c.args.number in
    let base = c.in_ok-errors.errors.end.ring.base in
    let now : table_of c.new_queue.new.toc.words ≡ with_queue t key 16408 base = c.in_ok-errors.ensures.entered in
    let differ : (key == 17 + 2 * c.args.number) ≡ false = grind arith in
    ap (λ (t : Table). place_of t.entries (17 + 2 * c.args.number)) now ∙ other_key t key 16408 base (17 + 2 * c.args.number) differ ∙ c.requires.unused (17 + 2 * c.args.number) (omega arith)
