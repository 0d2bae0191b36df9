use Rattle.std.proofs.Common.{◌≡◌, ◌+◌, ◌∙◌, sym, arith}
use Rattle.row_windows.proofs.Later.{clear-first, clear-none, found-later, is-quoted, none-later, not-quoted, quoted-later}
use Rattle.row_windows.proofs.cut.later_end.Goals as goal

pub returns-then-eq : goal.returns-then-eq
returns-then-eq c =
    let quoted = is-quoted c.args.here (sym c.eq.ensures ∙ c.if-eq.true) in
    record { some = c.requires.some; last = quoted-later c.args.text.now c.args.from c.args.to c.args.last c.requires.order c.requires.others (sym c.requires.here ∙ quoted) }

pub returns-in-Some : goal.returns-in-Some
returns-in-Some c =
    let outer = not-quoted c.args.here (sym c.eq.ensures ∙ c.if-eq.false) in
    let end = found-later c.args.text.now c.args.from c.args.to c.in-Some.count c.requires.order c.requires.within c.requires.others (λ e. outer (c.requires.here ∙ e)) c.in-Some.ensures (omega (arith, c.if-from-count-gt0.true)) in
    record { some = end.some; last = λ before. end }

pub returns-in_default : goal.returns-in_default
returns-in_default c =
    let first : c.args.from + c.in-Some.count ≡ 0 = omega (arith, c.if-from-count-gt0.false) in
    record { some = c.requires.some; last = none-later c.args.text.now c.args.from c.args.to c.args.last (clear-first c.args.text.now c.args.from c.args.to c.in-Some.count c.requires.order c.requires.within c.in-Some.ensures first) }

pub returns-in_default-2 : goal.returns-in_default-2
returns-in_default-2 c =
    record { some = c.requires.some; last = none-later c.args.text.now c.args.from c.args.to c.args.last (clear-none c.args.text.now c.args.from c.args.to c.requires.order c.requires.within c.in_default.ensures) }
