use Rattle.std.proofs.Common.{◌+◌, ◌/◌, sym, ◌∙◌, arith}
use Rattle.dshash_core.specs.Chains.{word}
use Rattle.dshash_core.proofs.Chains.{word_is, words_at-get}
use Rattle.page_cache.proofs.Words.{past_end}
use Rattle.page_cache.proofs.page.word_of.Goals as goal

pub returns-then-n-chunk-clause-found : goal.returns-then-n-chunk-clause-found
returns-then-n-chunk-clause-found c =
    let old = c.args.chunk.now in
    sym (word_is old.part.words (old.at + c.args.n) c.load.result c.load.ensures.found) ∙ sym (words_at-get (word old.part.words) old.at (old.bytes / 8) c.args.n c.if-n-chunk.true)

pub returns-else-n-chunk-clause-found : goal.returns-else-n-chunk-clause-found
returns-else-n-chunk-clause-found c =
    let old = c.args.chunk.now in
    sym (past_end (word old.part.words) old.at (old.bytes / 8) c.args.n (omega (arith, c.if-n-chunk.false)))
