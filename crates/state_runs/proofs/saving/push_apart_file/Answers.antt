use Rattle.std.proofs.Common.{◌≡◌, ◌<◌, ◌+◌, ◌-◌, ◌^◌, ◌++◌, ℕ, List, Err, ap, arith, length, length-append, subst}
use Rattle.std.proofs.lemmas.Result.{on_ok_weaker}
use Rattle.state_front.specs.Front.{front_bytes}
use Rattle.state_head.specs.Head.{head_bytes, preface_of}
use Rattle.state_save.proofs.Files.{is_file}
use Rattle.state_writer.specs.Writing.{Fit}
use Rattle.state_runs.proofs.saving.push_apart_file.Goals as goal

longer : (old front new : List ℕ) → new ≡ old ++ front → length new ≡ length old + length front
longer old front new e = omega (arith, ap length e, length-append old front)

pub overflow_sub-at : goal.overflow_sub-at
overflow_sub-at g c = omega (arith, longer c.args.out.now.items (front_bytes (preface_of c.args.head.now)) c.push_front.new.out.items c.in-Ok.ensures.front)

pub returns-in-Err-Long-clause-long : goal.returns-in-Err-Long-clause-long
returns-in-Err-Long-clause-long g c = λ e few.
    let more : 2 ^ 28 < length (head_bytes (preface_of c.args.head.now)) = c.in-Err-Long.ensures.long (ap Err c.in-Err-Long.field-0-is) in
    absurd (omega (arith, few, more))

pub returns-clause-file : goal.returns-clause-file
returns-clause-file g c =
    let preface = preface_of c.args.head.now in
    let long = longer c.args.out.now.items (front_bytes preface) c.push_front.new.out.items c.in-Ok.ensures.front in
    on_ok_weaker c.push_apart.result (is_file c.args.shape.now preface _ _ c.args.out.now.items c.push_front.new.out.items c.push_apart.new.out.items c.requires.shape c.in-Ok.ensures.front (omega (arith, long))) c.push_apart.ensures.written

pub returns-clause-short : goal.returns-clause-short
returns-clause-short g c = on_ok_weaker c.push_apart.result (λ _. c.in-Ok.ensures.short) c.push_apart.ensures.written

pub returns-clause-long : goal.returns-clause-long
returns-clause-long g c = λ e few.
    let preface = preface_of c.args.head.now in
    let long = longer c.args.out.now.items (front_bytes preface) c.push_front.new.out.items c.in-Ok.ensures.front in
    let at : length (front_bytes preface) ≡ c.len.result - c.len-from.result = omega (arith, long) in
    let none = c.push_apart.ensures.long e in
    (none.0, none.1, λ fit. none.2 (subst (λ (n : ℕ). Fit c.args.shape.now.kinds.now n none.0) at fit))
