use Rattle.std.proofs.Common.{◌<◌, ◌++◌, length, sym, arith, tests}
use Rattle.par_model.specs.Key.{encoded}
use Rattle.state_groups.proofs.Keys.{empty_key, no_fields, one_field, splits}
use Rattle.state_groups.proofs.group.+is_encoded.Goals as goal

pub returns-then-columns-eq0-clause-key : goal.returns-then-columns-eq0-clause-key
returns-then-columns-eq0-clause-key t c = λ h. empty_key c.args.columns c.args.key.now c.if-columns-eq0.true (grind (arith, tests, c.is_empty.ensures, h))

pub returns-then-columns-eq0-clause-written : goal.returns-then-columns-eq0-clause-written
returns-then-columns-eq0-clause-written t c = λ fields many e.
    let none = no_fields c.args.columns c.args.key.now fields c.if-columns-eq0.true many e in
    grind (arith, tests, c.is_empty.ensures)

pub returns-in_default-clause-written : goal.returns-in_default-clause-written
returns-in_default-clause-written t c = λ fields many e.
    let some : 0 < c.args.columns = omega (arith, c.if-columns-eq0.false) in
    let s = splits c.args.columns c.args.key.now fields some c.requires many e in
    absurd (c.in_default.ensures.written (length s.field) (s.field ++ encoded s.more) s.fits s.is)

pub returns-in-Some-read_bytes-clause-key : goal.returns-in-Some-read_bytes-clause-key
returns-in-Some-read_bytes-clause-key t c = λ h.
    let some : 0 < c.args.columns = omega (arith, c.if-columns-eq0.false) in
    one_field c.args.columns c.args.key.now c.in-Some.after.now c.in-Some-read_bytes.field-0-0.now c.in-Some-read_bytes.rest.now c.in-Some.size some c.requires c.in-Some.ensures.read c.in-Some-read_bytes.ensures.read.0
    c.in-Some-read_bytes.ensures.read.1 (c.is_encoded.ensures.key h)

pub returns-in-Some-read_bytes-clause-written : goal.returns-in-Some-read_bytes-clause-written
returns-in-Some-read_bytes-clause-written t c = λ fields many e.
    let some : 0 < c.args.columns = omega (arith, c.if-columns-eq0.false) in
    let s = splits c.args.columns c.args.key.now fields some c.requires many e in
    let a = c.in-Some.ensures.written (length s.field) (s.field ++ encoded s.more) s.fits s.is in
    let b = c.in-Some-read_bytes.ensures.written s.field (encoded s.more) (sym a.0) a.1 in
    c.is_encoded.ensures.written s.more s.many b.1

pub returns-in-None-clause-written : goal.returns-in-None-clause-written
returns-in-None-clause-written t c = λ fields many e.
    let some : 0 < c.args.columns = omega (arith, c.if-columns-eq0.false) in
    let s = splits c.args.columns c.args.key.now fields some c.requires many e in
    let a = c.in-Some.ensures.written (length s.field) (s.field ++ encoded s.more) s.fits s.is in
    absurd (c.in-None.ensures.written s.field (encoded s.more) (sym a.0) a.1)
