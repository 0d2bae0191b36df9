use Rattle.std.proofs.Common.{◌∙◌, ◌+◌, Bool, ap, arith, drop}
use Rattle.table_order.specs.Lines.{size_to}
use Rattle.table_order.proofs.Scan.{size-none, step-end, step-inside, step-outside, step-quote}
use Rattle.table_order.proofs.line.size_to.Goals as goal
use Rattle.table_order.proofs.line.size_to.Goals.{then-byte-eq34, else-byte-eq34+else-not-quoted, else-not-quoted-via-then-not-quoted+else-is_end, else-not-quoted-via-else-not-quoted}

pub returns-then-is_end-clause-size : goal.returns-then-is_end-clause-size
returns-then-is_end-clause-size c =
    let here = step-end c.args.or_comma c.args.text.now c.loop-at.at (omega (arith, c.loop-at-test.true)) c.if-byte-eq34.false (cc) in
    let same = ap (λ (q : Bool). size_to c.args.or_comma q (drop c.loop-at.at c.args.text.now)) c.if-not-quoted.true in
    omega (arith, here, same, c.loop-at.invariant)

pub loop-at-preserved : goal.loop-at-preserved
loop-at-preserved c =
    let oc = c.args.or_comma in
    let text = c.args.text.now in
    let at = c.loop-at.at in
    let after = λ (q : Bool). size_to oc q (drop (at + 1) text) in
    let here = λ (q : Bool). size_to oc q (drop at text) in
    elim c.if-byte-eq34.branch [
      | then-byte-eq34 w ↦
          let step = step-quote oc c.loop-at.quoted text at (omega (arith, c.loop-at-test.true)) w.if-byte-eq34.true in
          let same = ap after w.quoted-is in
          omega (arith, step, same, c.loop-at.invariant)
      | else-byte-eq34+else-not-quoted w ↦ elim w.else-not-quoted.branch [
        | else-not-quoted-via-then-not-quoted+else-is_end v ↦
            let step = step-outside oc text at (omega (arith, c.loop-at-test.true)) w.if-byte-eq34.false (cc) in
            let before = ap here v.if-not-quoted.true in
            let same = ap after (w.quoted-is ∙ v.if-not-quoted.true) in
            omega (arith, step, before, same, c.loop-at.invariant)
        | else-not-quoted-via-else-not-quoted v ↦
            let step = step-inside oc text at (omega (arith, c.loop-at-test.true)) w.if-byte-eq34.false in
            let before = ap here v.if-not-quoted.false in
            let same = ap after (w.quoted-is ∙ v.if-not-quoted.false) in
            omega (arith, step, before, same, c.loop-at.invariant)
      ]
    ]

pub returns-clause-size : goal.returns-clause-size
returns-clause-size c =
    let none = size-none c.args.or_comma c.loop-at.quoted c.args.text.now c.loop-at.at (omega (arith, c.loop-at-test.false)) in
    omega (arith, none, c.loop-at.invariant, c.loop-at-test.false)
