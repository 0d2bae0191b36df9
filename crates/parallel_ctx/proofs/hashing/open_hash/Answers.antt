use Rattle.std.proofs.Common.{rules, true, Bool, ◌≡◌, ◌+◌, ◌*◌, ◌∙◌, ap, subst, sym, arith}
use Rattle.agg_table.specs.Shown.{part_size}
use Rattle.shm_toc.specs.Table.{Table, place_of, table_of}
use Rattle.parallel_ctx.specs.Making.{IsMaking, hash_size}
use Rattle.parallel_ctx.proofs.Room.{making-table, same_plan}
use Rattle.parallel_ctx.proofs.hashing.open_hash.Goals as goal

pub returns-clause-plan : goal.returns-clause-plan
returns-clause-plan c =
    ap (λ (t : Table). place_of t.entries 1) c.table_chunk-chunk.ensures.entered
    ∙ same_plan (table_of c.args.toc.now.words) 2 (8 * part_size c.args.pages) c.table_chunk-chunk.result.at (omega arith)

pub returns-clause-making : goal.returns-clause-making
returns-clause-making c left m =
    subst (λ (t : Table). IsMaking t 16 left) (sym c.table_chunk-chunk.ensures.entered)
    (making-table (table_of c.args.toc.now.words) c.args.pages left c.table_chunk-chunk.result.at (subst (λ (b : Bool). IsMaking (table_of c.args.toc.now.words) 2 (8 * hash_size b c.args.pages + left)) (let t : c.args.with_table ≡ true = search rules in t) m))
