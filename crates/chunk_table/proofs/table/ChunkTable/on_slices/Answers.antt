use Rattle.std.proofs.Common.{◌≡◌, length, sym, ap, ◌∙◌, arith}
use Rattle.std.proofs.lemmas.List.{length-map}
use Rattle.dshash_parts.proofs.Opening.{length-opens, opened_in}
use Rattle.chunk_table.proofs.table.ChunkTable.on_slices.Goals as goal

pub returns-clause-table : goal.returns-clause-table
returns-clause-table g c =
    let slices = c.args.slices.items in
    let opens = c.in_ok-shelf.ensures.opens ∙ c.in_ok-parts.ensures in
    let item = c.item_bytes-item.ensures in
    let long = c.requires.keys.1 in
    let parts : length c.in_ok-parts.parts.items ≡ length slices = sym (length-map c.in_ok-parts.parts.items _) ∙ (ap length c.in_ok-parts.ensures ∙ length-opens _ c.args.r.now c.args.seed c.args.key_words c.chunk_bytes.result 0 (length slices)) in
    record {
      count = c.in_ok-shelf.ensures.counts.0 ∙ (parts ∙ c.requires.count);
      parts = opened_in c.args.r.now c.args.seed c.args.key_words c.chunk_bytes.result _ (length slices) _ opens c.requires.count c.chunk_bytes.ensures.size;
      keys = c.requires.keys;
      items = (omega (arith, item), omega (arith, item, long));
    }
