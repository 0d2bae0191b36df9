use Rattle.std.proofs.Common.{ℕ, List}
use Rattle.std.proofs.lemmas.Result.{err_from_is_err_and}
use Rattle.state_head.specs.Head.{subject_of}
use Rattle.state_head.specs.Words.{keys_of}
use Rattle.state_source.specs.Adding.{IsFaultOf}
use Rattle.state_source.specs.declared.adding.SourceFault.TheVariants as fault
use Rattle.state_source.proofs.Adds.{no_load}
use Rattle.state_source.proofs.Gone.{seen_on}
use Rattle.state_source.proofs.Rests.{of_read, reads_on}
use Rattle.state_source.proofs.beside.see_next.Goals as goal

pub returns-in_err-hold_next-clause-refused : goal.returns-in_err-hold_next-clause-refused
returns-in_err-hold_next-clause-refused g c = λ m.
    let why = err_from_is_err_and c.from_residual.result c.from_residual.ensures.1 in
    rw (why.1, why.2)
    (no_load c.args.shape.now (subject_of c.args.query.whole) (keys_of c.args.query.range) m (g.S.Source.left c.args.source.now) c.args.ahead.now.bytes c.in_err-hold_next.field-0.0 c.in_err-hold_next.ensures.why)

pub returns-in_err-file-clause-refused : goal.returns-in_err-file-clause-refused
returns-in_err-file-clause-refused g c = λ m.
    let was = g.S.Source.left c.args.source.now in
    let left = g.S.Source.left c.hold_next.new.source in
    let before = c.args.ahead.now.bytes in
    let held = c.hold_next.new.ahead.bytes in
    let reads = reads_on was (g.S.Source.left c.loop.source) left before c.loop.ahead.bytes held c.loop.invariant.reads c.in_ok-hold_next.ensures.reads in
    let why = err_from_is_err_and c.from_residual-in_err-file.result c.from_residual-in_err-file.ensures.1 in
    rw (why.1, why.2)
    (of_read was left before held (λ (bs : List ℕ). IsFaultOf c.args.shape.now (subject_of c.args.query.whole) (keys_of c.args.query.range) m bs c.in_err-file.field-0.0) reads
    (λ more. rw c.bytes.ensures at (c.in_err-file.ensures.refused.each m more)))

pub returns-in-Some-clause-next : goal.returns-in-Some-clause-next
returns-in-Some-clause-next g c =
    let was = g.S.Source.left c.args.source.now in
    let left = g.S.Source.left c.hold_next.new.source in
    let held = c.hold_next.new.ahead in
    let reads = reads_on was (g.S.Source.left c.loop.source) left c.args.ahead.now.bytes c.loop.ahead.bytes held.bytes c.loop.invariant.reads c.in_ok-hold_next.ensures.reads in
    seen_on c.args.shape.now (subject_of c.args.query.whole) (keys_of c.args.query.range) was left c.args.ahead.now held c.skip.new.self c.bytes.result.now c.in-Some.file reads c.bytes.ensures (rw c.in-Some.is at c.in_ok-file.ensures.seen) c.skip.ensures.bytes

pub returns-in_err-read_on-clause-refused : goal.returns-in_err-read_on-clause-refused
returns-in_err-read_on-clause-refused g c = λ m.
    let why = err_from_is_err_and c.from_residual-in_err-read_on.result c.from_residual-in_err-read_on.ensures.1 in
    rw (why.1, why.2)
    (no_load c.args.shape.now (subject_of c.args.query.whole) (keys_of c.args.query.range) m (g.S.Source.left c.args.source.now) c.args.ahead.now.bytes c.in_err-read_on.field-0.0 c.in_err-read_on.ensures.why)

pub returns-clause-refused : goal.returns-clause-refused
returns-clause-refused g c = λ m. no_load c.args.shape.now (subject_of c.args.query.whole) (keys_of c.args.query.range) m (g.S.Source.left c.args.source.now) c.args.ahead.now.bytes fault.Memory tt
