use Rattle.std.proofs.Common.{◌&&◌, Option, is_some, sym, subst}
use Rattle.region_words.specs.declared.chunk.Chunk.{Chunk}
use Rattle.dsa_area.specs.Sizes.{chunk_size}
use Rattle.dshash_parts.specs.Sweeps.{GaveBack}
use Rattle.dshash_parts.specs.Tables.{item_of}
use Rattle.dshash_parts.proofs.Spares.{only_bytes}
use Rattle.dshash_parts.proofs.calls.keep_one.Goals as goal

pub returns-in-Some-clause-gave : goal.returns-in-Some-clause-gave
returns-in-Some-clause-gave g c =
    let bytes = chunk_size (item_of c.args.table.now) in
    subst (λ (o : Option Chunk). GaveBack c.args.area.now c.args.apass.now c.give_back.new.apass bytes (is_some o && is_some c.args.freed)) (sym c.in-Some.is)
    (c.give_back.ensures.gave bytes (only_bytes c.args.r.now bytes c.args.freed c.requires.freed))
