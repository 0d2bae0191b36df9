use Rattle.std.proofs.Common.{◌<◌, ◌/◌, ◌++◌, ◌∷◌, ◌∙◌, ℕ, List, ap, sym, arith}
use Rattle.state_file.proofs.Sevens.{deeper, last, no_bytes, one_byte, put_together}
use Rattle.state_file.proofs.number.+read_sevens.Goals as goal

pub returns-in_default-clause-written : goal.returns-in_default-clause-written
returns-in_default-clause-written t c = λ n rest fits room e. no_bytes c.args.bytes.now c.args.more n rest c.in_default.ensures.cases room e

pub returns-then-first-lt128-clause-read : goal.returns-then-first-lt128-clause-read
returns-then-first-lt128-clause-read t c =
    let tail = c.in-Some.rest.now in
    let small : c.from.result < 128 = omega (arith, c.from.ensures, c.if-first-lt128.true) in
    c.in-Some.ensures.cases.0 ∙ ap (λ (b : ℕ). b ∷ tail) (sym c.from.ensures) ∙ ap (λ (bs : List ℕ). bs ++ tail) (sym (last c.args.more c.from.result small))

pub returns-then-first-lt128-clause-written : goal.returns-then-first-lt128-clause-written
returns-then-first-lt128-clause-written t c = λ n rest fits room e.
    let p = one_byte c.args.bytes.now c.in-Some.rest.now c.in-Some.first.now c.args.more n rest c.in-Some.ensures.cases.0 c.if-first-lt128.true room e in
    (c.from.ensures ∙ p.0, p.1)

pub returns-then-more-eq0-clause-written : goal.returns-then-more-eq0-clause-written
returns-then-more-eq0-clause-written t c = λ n rest fits room e.
    let d = deeper c.args.bytes.now c.in-Some.rest.now c.in-Some.first.now c.args.more n rest c.in-Some.ensures.cases.0 c.if-first-lt128.false room e in
    let some : 0 < c.args.more = d.some in
    omega (arith, c.if-more-eq0.true)

pub returns-in-Some-with_low-clause-read : goal.returns-in-Some-with_low-clause-read
returns-in-Some-with_low-clause-read t c =
    let first = c.in-Some.first.now in
    let is = c.in-Some-with_low.ensures.is in
    let byte : first < 256 = omega (arith, is.2, c.if-first-lt128.false) in
    c.in-Some.ensures.cases.0
    ∙ put_together c.in-Some.rest.now first c.args.more c.in-Some-read_sevens.high c.in-Some-with_low.n c.in-Some-read_sevens.rest.now c.if-first-lt128.false byte (omega (arith, c.if-more-eq0.false))
    is.1 is.0 c.in-Some-read_sevens.ensures.read

pub returns-in-Some-with_low-clause-written : goal.returns-in-Some-with_low-clause-written
returns-in-Some-with_low-clause-written t c = λ n rest fits room e.
    let d = deeper c.args.bytes.now c.in-Some.rest.now c.in-Some.first.now c.args.more n rest c.in-Some.ensures.cases.0 c.if-first-lt128.false room e in
    let h = c.in-Some-read_sevens.ensures.written (n / 128) rest (omega arith) d.less d.are in
    let low = d.low in
    let high = h.0 in
    let is = c.in-Some-with_low.ensures.is.0 in
    (omega arith, h.1)

pub returns-in-None-with_low-clause-written : goal.returns-in-None-with_low-clause-written
returns-in-None-with_low-clause-written t c = λ n rest fits room e.
    let d = deeper c.args.bytes.now c.in-Some.rest.now c.in-Some.first.now c.args.more n rest c.in-Some.ensures.cases.0 c.if-first-lt128.false room e in
    let h = c.in-Some-read_sevens.ensures.written (n / 128) rest (omega arith) d.less d.are in
    let low = d.low in
    let high = h.0 in
    let great = d.great in
    let no = c.in-None-with_low.ensures.none (omega arith) (omega arith) in
    cc

pub returns-in-None-clause-written : goal.returns-in-None-clause-written
returns-in-None-clause-written t c = λ n rest fits room e.
    let d = deeper c.args.bytes.now c.in-Some.rest.now c.in-Some.first.now c.args.more n rest c.in-Some.ensures.cases.0 c.if-first-lt128.false room e in
    c.in-None.ensures.written (n / 128) rest (omega arith) d.less d.are
