use Rattle.std.proofs.Common.{◌++◌, ◌∙◌, sym}
use Rattle.state_groups.proofs.Slots.{after_count, count_first, read_with, read_without, written_with, written_without}
use Rattle.state_groups.proofs.slot.read_slot.Goals as goal

pub returns-in_default-clause-written : goal.returns-in_default-clause-written
returns-in_default-clause-written c = λ slot rest is e.
    c.in_default.ensures.written slot.count (after_count c.args.integers slot ++ rest) is.count (count_first c.args.integers slot c.args.bytes.now rest e)

pub returns-in-Some-read_integers-clause-read : goal.returns-in-Some-read_integers-clause-read
returns-in-Some-read_integers-clause-read c =
    let found = c.in-Some-read_integers.ensures.read in
    read_with c.args.integers c.args.bytes.now c.in-Some.after.now c.in-Some-read_integers.rest.now c.in-Some.count c.args.rows c.in-Some-read_integers.slot (sym c.has_integers.ensures ∙ c.if-has_integers.true) c.in-Some.ensures.read.0
    found.0 found.2 c.in-Some.ensures.read.1 found.1

pub returns-in-Some-read_integers-clause-written : goal.returns-in-Some-read_integers-clause-written
returns-in-Some-read_integers-clause-written c = λ slot rest is e.
    let a = c.in-Some.ensures.written slot.count (after_count c.args.integers slot ++ rest) is.count (count_first c.args.integers slot c.args.bytes.now rest e) in
    c.in-Some-read_integers.ensures.written slot rest is.numbers (sym a.0) (written_with c.args.integers c.in-Some.after.now rest c.in-Some.count slot (sym c.has_integers.ensures ∙ c.if-has_integers.true) a.0 a.1)

pub returns-in-None-clause-written : goal.returns-in-None-clause-written
returns-in-None-clause-written c = λ slot rest is e.
    let a = c.in-Some.ensures.written slot.count (after_count c.args.integers slot ++ rest) is.count (count_first c.args.integers slot c.args.bytes.now rest e) in
    c.in-None.ensures.written slot rest is.numbers (sym a.0) (written_with c.args.integers c.in-Some.after.now rest c.in-Some.count slot (sym c.has_integers.ensures ∙ c.if-has_integers.true) a.0 a.1)

pub returns-else-has_integers-clause-read : goal.returns-else-has_integers-clause-read
returns-else-has_integers-clause-read c =
    read_without c.args.integers c.args.bytes.now c.in-Some.after.now c.in-Some.count c.args.rows c.only_count.result (sym c.has_integers.ensures ∙ c.if-has_integers.false) c.in-Some.ensures.read.0 c.only_count.ensures c.in-Some.ensures.read.1

pub returns-else-has_integers-clause-written : goal.returns-else-has_integers-clause-written
returns-else-has_integers-clause-written c = λ slot rest is e.
    let a = c.in-Some.ensures.written slot.count (after_count c.args.integers slot ++ rest) is.count (count_first c.args.integers slot c.args.bytes.now rest e) in
    written_without c.args.integers c.in-Some.after.now rest c.in-Some.count c.args.rows slot c.only_count.result (sym c.has_integers.ensures ∙ c.if-has_integers.false) c.only_count.ensures a.0 a.1 is
