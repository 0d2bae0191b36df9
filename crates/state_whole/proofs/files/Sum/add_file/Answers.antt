use Rattle.std.proofs.lemmas.Result.{err_from_is_err_and}
use Rattle.state_head.specs.Head.{preface_of}
use Rattle.state_whole.proofs.Sums.{no_groups, not_added}
use Rattle.state_whole.proofs.files.Sum.add_file.Goals as goal

pub returns-in_err-body-clause-refused : goal.returns-in_err-body-clause-refused
returns-in_err-body-clause-refused c =
    let why = err_from_is_err_and c.from_residual.result c.from_residual.ensures.1 in
    rw (why.1, why.2) (λ m cover is. no_groups c.args.shape.now m (preface_of c.args.front.now.head) c.args.front.now.at c.args.front.now.rest.now c.in_err-body.field-0.0 c.in_err-body.ensures.refused)

pub returns-in_err-add_groups-clause-refused : goal.returns-in_err-add_groups-clause-refused
returns-in_err-add_groups-clause-refused c =
    let read = c.in_ok-body.ensures.read in
    let why = err_from_is_err_and c.from_residual-in_err-add_groups.result c.from_residual-in_err-add_groups.ensures.1 in
    rw (why.1, why.2) (λ m cover is.
    not_added c.args.shape.now m (preface_of c.args.front.now.head) c.args.front.now.at c.args.front.now.rest.now (record { blocks = read.0; rest = c.in_ok-body.body.rest.now; is_body = read.1; is = read.2 }) c.in_err-add_groups.field-0.0
    (c.in_err-add_groups.ensures.refused m cover read.0 is read.1.each read.3))

pub returns-clause-read : goal.returns-clause-read
returns-clause-read c =
    let read = c.in_ok-body.ensures.read in
    (read.0, record { is_body = read.1; in_order = c.in_ok-add_groups.ensures.order read.0 read.1.each read.3; counted = read.4 }, read.2)

pub returns-clause-sum : goal.returns-clause-sum
returns-clause-sum c = λ m cover blocks rest summed is e.
    let w = c.in_ok-body.ensures.written blocks rest is e in
    (w.0, c.in_ok-add_groups.ensures.sum m cover blocks summed is.each w.1)
