use Rattle.std.proofs.Common.{◌≡◌, ◌+◌, ◌<◌, ℕ, List, [], ◌∷◌, ◌++◌, length, refl, sym, ap, subst, ◌∙◌, arith, length-append}
use Rattle.region_rule.specs.Places.{row}
use Rattle.mq_ring.proofs.Runs.{word_more, no_words}
use Rattle.mq_ring.proofs.Rows.{has_front, read_more, begun, read_all}
use Rattle.mq_ring.proofs.bursts.read_row.Goals as goal

pub read_front-word-requires-clause-front : goal.read_front-word-requires-clause-front
read_front-word-requires-clause-front c =
    let o = c.loop-k.invariant.read in has_front c.loop-k.seat.me _ c.args.at c.loop-k.k c.args.words o.1 _ o.3 (omega (arith, c.loop-k-test.true)) o.5

pub loop-k-init : goal.loop-k-init
loop-k-init c =
    let o = c.requires.slots in
    record { same = (refl, refl); read = ([], o.0, refl, omega (arith, o.1), o.2, begun c.args.seat.now.me c.args.at o.0 o.2, no_words c.args.out.now c.args.from); len = refl }

pub loop-k-preserved : goal.loop-k-preserved
loop-k-preserved c =
    let o = c.loop-k.invariant.read in
    let word = c.read_front-word.result in
    let g = read_more c.loop-k.seat.me c.read_front-word.new.seat.me _ c.args.at c.loop-k.k c.args.words word o.0 o.1 o.2 o.3 (omega (arith, c.loop-k-test.true)) o.5 c.read_front-word.ensures.found c.read_front-word.ensures.turned in
    record {
      same = (c.read_front-word.ensures.seat.0 ∙ c.loop-k.invariant.same.0, c.read_front-word.ensures.seat.1 ∙ c.loop-k.invariant.same.1);
      read = (
        o.0 ++ (word ∷ []),
        g.0,
        length-append o.0 (word ∷ []) ∙ ap (λ (n : ℕ). n + 1) o.2,
        g.1,
        o.4 ∙ ap (row c.args.at) g.3,
        g.2,
        word_more c.args.out.now c.loop-k.out c.write_whole.new.out c.args.from c.loop-k.k word o.0 c.loop-k.invariant.len o.2 (omega (arith, c.requires.inside, c.loop-k-test.true)) o.6 c.write_whole.ensures.bytes,
      );
      len = c.write_whole.ensures.len ∙ c.loop-k.invariant.len;
    }

pub returns-clause-same : goal.returns-clause-same
returns-clause-same c =
    let o = c.loop-k.invariant.read in (read_all c.args.seat.now.me c.loop-k.seat.me c.args.at c.loop-k.k c.args.words o.0 o.1 o.3 (omega (arith, c.loop-k-test.false, c.loop-k.auto.k-end)) o.4 o.5).1

pub returns-clause-read : goal.returns-clause-read
returns-clause-read c =
    let o = c.loop-k.invariant.read in
    let done : c.loop-k.k ≡ c.args.words = omega (arith, c.loop-k-test.false, c.loop-k.auto.k-end) in
    (o.0, o.2 ∙ done, (read_all c.args.seat.now.me c.loop-k.seat.me c.args.at c.loop-k.k c.args.words o.0 o.1 o.3 done o.4 o.5).0, o.6)
