use Rattle.std.proofs.Common.{ℕ, List}
use Rattle.std.proofs.lemmas.Result.{err_from_is_err_and}
use Rattle.state_head.specs.Head.{subject_of}
use Rattle.state_head.specs.Words.{keys_of}
use Rattle.state_source.specs.Adding.{IsFaultOf}
use Rattle.state_source.proofs.Adds.{no_load}
use Rattle.state_source.proofs.Gone.{comes_after}
use Rattle.state_source.proofs.Rests.{of_read, of_reads}
use Rattle.state_source.proofs.beside.add_one.Goals as goal

pub returns-in_err-hold_next-clause-refused : goal.returns-in_err-hold_next-clause-refused
returns-in_err-hold_next-clause-refused g c = λ m.
    let why = err_from_is_err_and c.from_residual.result c.from_residual.ensures.1 in
    rw (why.1, why.2)
    (no_load c.args.shape.now (subject_of c.args.query.whole) (keys_of c.args.query.range) m (g.S.Source.left c.args.source.now) c.args.ahead.now.bytes c.in_err-hold_next.field-0.0 c.in_err-hold_next.ensures.why)

pub returns-in_err-sums-clause-refused : goal.returns-in_err-sums-clause-refused
returns-in_err-sums-clause-refused g c = λ m.
    let why = err_from_is_err_and c.from_residual-in_err-sums.result c.from_residual-in_err-sums.ensures.1 in
    rw (why.1, why.2)
    (of_read (g.S.Source.left c.args.source.now) (g.S.Source.left c.hold_next.new.source) c.args.ahead.now.bytes c.hold_next.new.ahead.bytes
    (λ (bs : List ℕ). IsFaultOf c.args.shape.now (subject_of c.args.query.whole) (keys_of c.args.query.range) m bs c.in_err-sums.field-0.0) c.in_ok-hold_next.ensures.reads (λ more. rw c.bytes.ensures at (c.in_err-sums.ensures.refused.each m more)))

pub returns-in_err-next-in-None-clause-refused : goal.returns-in_err-next-in-None-clause-refused
returns-in_err-next-in-None-clause-refused g c = λ m.
    let why = err_from_is_err_and c.from_residual-in_err-next-in-None.result c.from_residual-in_err-next-in-None.ensures.1 in
    rw (why.1, why.2)
    (of_reads (g.S.Source.left c.args.source.now) (g.S.Source.left c.hold_next.new.source) c.args.ahead.now.bytes c.hold_next.new.ahead.bytes
    (λ (bs : List ℕ). IsFaultOf c.args.shape.now (subject_of c.args.query.whole) (keys_of c.args.query.range) m bs c.in_err-next-in-None.field-0.0) c.in_ok-hold_next.ensures.reads (c.in_err-next-in-None.ensures.refused m))

pub returns-in_ok-next-in-None-clause-next : goal.returns-in_ok-next-in-None-clause-next
returns-in_ok-next-in-None-clause-next g c =
    comes_after c.args.shape.now (subject_of c.args.query.whole) (keys_of c.args.query.range) (g.S.Source.left c.args.source.now) (g.S.Source.left c.hold_next.new.source) (g.S.Source.left c.see_next.new.source) c.args.ahead.now c.hold_next.new.ahead
    c.see_next.new.ahead c.in_ok-next-in-None.next c.in_ok-hold_next.ensures.reads c.in_ok-next-in-None.ensures.next
