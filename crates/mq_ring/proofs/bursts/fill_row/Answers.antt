use Rattle.std.proofs.Common.{◌≡◌, ◌+◌, ◌<◌, ℕ, List, [], ◌∷◌, ◌++◌, length, refl, sym, ap, subst, ◌∙◌, arith}
use Rattle.std.specs.List.{AllByRecursion}
use Rattle.mq_ring.specs.Bursts.{words_from}
use Rattle.region_rule.specs.Places.{row}
use Rattle.mq_ring.proofs.Runs.{next_word, length-words}
use Rattle.mq_ring.proofs.Rows.{has_front, filled_more, fits_more, begun, filled_all}
use Rattle.mq_ring.proofs.bursts.fill_row.Goals as goal

pub write_front-requires-clause-front : goal.write_front-requires-clause-front
write_front-requires-clause-front c =
    let o = c.loop-k.invariant.out in has_front c.loop-k.seat.me _ c.args.at c.loop-k.k c.args.words o.0 _ o.1 (omega (arith, c.loop-k-test.true)) o.2

pub loop-k-preserved : goal.loop-k-preserved
loop-k-preserved c =
    let o = c.loop-k.invariant.out in
    let m = c.args.bytes.now in
    let next = next_word c.args.from c.loop-k.k c.whole_word-word.result m (omega (arith, c.requires.inside, c.loop-k-test.true)) c.whole_word-word.ensures in
    let count = length-words c.args.from c.loop-k.k m (omega (arith, c.requires.inside, c.loop-k-test.true)) in
    let g = filled_more c.loop-k.seat.me c.write_front.new.seat.me _ c.args.at c.loop-k.k c.args.words c.whole_word-word.result (words_from c.args.from c.loop-k.k m) o.0 count o.1 (omega (arith, c.loop-k-test.true)) o.2 c.write_front.ensures.turned in
    record {
      same = (c.write_front.ensures.seat.0 ∙ c.loop-k.invariant.same.0, c.write_front.ensures.seat.1 ∙ c.loop-k.invariant.same.1);
      out = (g.0, g.1, g.2 ∙ ap (λ (l : List ℕ). (c.args.seat.now.me.0, row (c.args.at + (c.loop-k.k + 1)) g.0 ++ row c.args.at l)) next);
      fits = subst (AllByRecursion (λ y. y < 18446744073709551616)) next (fits_more (words_from c.args.from c.loop-k.k m) c.whole_word-word.result c.loop-k.invariant.fits c.whole_word-word.type_inv);
    }

pub loop-k-init : goal.loop-k-init
loop-k-init c =
    let o = c.requires.out in
    record { same = (refl, refl); out = (o.0, omega (arith, o.1), begun c.args.seat.now.me c.args.at o.0 o.2); fits = tt }

pub returns-clause-filled : goal.returns-clause-filled
returns-clause-filled c =
    let o = c.loop-k.invariant.out in
    filled_all c.loop-k.seat.me c.args.seat.now.me.0 c.args.at c.loop-k.k c.args.words c.args.from c.args.bytes.now o.0 o.1 (omega (arith, c.loop-k-test.false, c.loop-k.auto.k-end)) o.2

pub returns-clause-fits : goal.returns-clause-fits
returns-clause-fits c =
    let done : c.loop-k.k ≡ c.args.words = omega (arith, c.loop-k-test.false, c.loop-k.auto.k-end) in
    subst (λ (n : ℕ). AllByRecursion (λ y. y < 18446744073709551616) (words_from c.args.from n c.args.bytes.now)) done c.loop-k.invariant.fits
