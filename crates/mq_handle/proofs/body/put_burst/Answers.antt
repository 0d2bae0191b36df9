use Rattle.std.proofs.Common.{◌≡◌, ◌++◌, ◌*◌, ℕ, List, length, refl, sym, ap, subst, ◌∙◌, arith}
use Rattle.std.specs.List.{fold}
use Rattle.ring_rule.specs.Frames.{IsFramed}
use Rattle.ring_rule.specs.Ends.{puts}
use Rattle.mq_ring.specs.Bursts.{words_from}
use Rattle.mq_handle.specs.Parts.{joined}
use Rattle.mq_handle.proofs.Gathered.{burst_words}
use Rattle.mq_handle.proofs.body.put_burst.Goals as goal

pub put_words-requires-clause-inside : goal.put_words-requires-clause-inside
put_words-requires-clause-inside c = omega (arith, c.gather.ensures.len, c.requires.size, c.requires.inside)

pub put_words-requires-clause-framed : goal.put_words-requires-clause-framed
put_words-requires-clause-framed c =
    let m = joined c.args.parts.now in
    let same : words_from 0 c.args.words c.gather.new.out ≡ words_from c.args.from c.args.words m =
    ap (words_from 0 c.args.words) c.gather.ensures.bytes ∙ burst_words m c.args.from c.args.words (8 * c.args.from) (length c.args.buffer.now) c.requires.inside refl c.requires.size in
    subst (λ (xs : List ℕ). IsFramed c.args.tx.now.end.ring.max (c.args.tx.now.end.put ++ xs)) (sym same) c.requires.framed

pub returns : goal.returns
returns c =
    let m = joined c.args.parts.now in
    let same : words_from 0 c.args.words c.gather.new.out ≡ words_from c.args.from c.args.words m =
    ap (words_from 0 c.args.words) c.gather.ensures.bytes ∙ burst_words m c.args.from c.args.words (8 * c.args.from) (length c.args.buffer.now) c.requires.inside refl c.requires.size in
    c.put_words.ensures ∙ ap (λ (xs : List ℕ). record c.args.tx.now { end = fold puts c.args.tx.now.end xs }) same
