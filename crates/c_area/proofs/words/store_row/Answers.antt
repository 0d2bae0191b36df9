use Rattle.std.proofs.Common.{◌+◌, arith, subst, sym, ◌∙◌, IsSome}
use Rattle.word_map.specs.WordMap.{at}
use Rattle.region_words.specs.Parts.{Owned}
use Rattle.c_area.proofs.Rows.{Stored, stored_next}
use Rattle.c_area.proofs.words.store_row.Goals as goal

pub loop-i-preserved : goal.loop-i-preserved
loop-i-preserved c =
    let has : IsSome (at c.loop-i.part.words (c.args.at + c.loop-i.i)) = c.loop-i.invariant.keys (c.args.at + c.loop-i.i) ∙ c.requires.owns (c.args.at + c.loop-i.i) (omega arith) (omega arith) in
    subst (λ (p : Owned). Stored c.args.part.now p c.args.at (c.loop-i.i + 1) c.args.words.now) (sym c.store.ensures)
    (stored_next c.args.part.now c.loop-i.part c.args.at c.loop-i.i c.args.words.now c.loop-i.invariant has)
