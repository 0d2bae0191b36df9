use Rattle.std.proofs.Common.{ℕ, ap, ◌∙◌, arith}
use Rattle.dshash_chunks.specs.Held.{contents}
use Rattle.page_cache.specs.Pages.{first_words}
use Rattle.page_cache.proofs.Words.{first_is}
use Rattle.page_cache.proofs.page.PagesChunkObject.work.Goals as goal

pub returns-clause-reply : goal.returns-clause-reply
returns-clause-reply c =
    let long = c.loop-i-test.array_long in
    let words = first_is c.loop-i.word-items (contents c.args.chunk.now) (λ k low. c.loop-i.invariant.read k (omega (arith, c.loop-i-test.false))) ∙ ap (λ (n : ℕ). first_words n (contents c.args.chunk.now)) long in
    λ i. record { words = words i }
