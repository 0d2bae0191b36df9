use Rattle.std.proofs.Common.{◌++◌, ◌∙◌, ap, arith, length, length-append, subst}
use Rattle.std.proofs.lemmas.Result.{err_from_is_err_and}
use Rattle.state_body.specs.Body.{body_bytes, groups_of}
use Rattle.state_front.specs.Front.{front_bytes}
use Rattle.state_head.specs.Head.{Preface, preface_of, subject_of}
use Rattle.state_head.specs.Words.{keys_of}
use Rattle.state_load.proofs.Causes.{cannot_go_on, is_part, not_alike, was_written}
use Rattle.state_load.proofs.Loads.{after_front, file_is}
use Rattle.state_whole.specs.Adding.{sum_with}
use Rattle.state_whole.specs.Sums.{AreSummed}
use Rattle.state_load.proofs.loading.add_next.Goals as goal

pub add_file-requires-clause-at : goal.add_file-requires-clause-at
add_file-requires-clause-at c =
    let read = c.in_ok-front.ensures.read in
    let at = read.at in
    omega (arith, at, ap length read.is, length-append (front_bytes (preface_of c.in_ok-front.front.head)) c.in_ok-front.front.rest.now)

pub returns-in_err-front-clause-refused : goal.returns-in_err-front-clause-refused
returns-in_err-front-clause-refused c =
    let why = err_from_is_err_and c.from_residual.result c.from_residual.ensures.1 in
    rw (why.1, why.2) (λ m cover is. not_alike c.args.shape.now (subject_of c.args.whole) (keys_of c.args.range) m c.args.bytes.now c.in_err-front.field-0.0 c.in_err-front.ensures.refused)

pub returns-in-Ok-clause-added : goal.returns-in-Ok-clause-added
returns-in-Ok-clause-added c = λ m cover is.
    let shape = c.args.shape.now in
    let read = c.in_ok-front.ensures.read in
    let did = c.in-Ok.ensures.read in
    let sum = c.in-Ok.ensures.sum m cover did.0 c.in-Ok.rest.now is did.1.is_body did.2 in
    is_part shape (subject_of c.args.whole) (keys_of c.args.range) m cover c.args.bytes.now c.in_ok-front.front c.in-Ok.rest.now did.0 c.add_file.new.self read did.1 did.2 sum.1

pub returns-in-Ok-clause-written : goal.returns-in-Ok-clause-written
returns-in-Ok-clause-written c = λ m cover f rest is part e.
    let shape = c.args.shape.now in
    let read = c.in_ok-front.ensures.read in
    let body = body_bytes shape.kinds.now (length (front_bytes f.preface)) f.blocks in
    let same = c.in_ok-front.ensures.written f.preface (body ++ rest) part.is_file.is_front part.is_alike.subject_is part.is_alike.keys_are (e ∙ file_is shape f rest) in
    let w = was_written shape (subject_of c.args.whole) (keys_of c.args.range) c.args.bytes.now f c.in_ok-front.front rest read part same.0 same.1 in
    let sum = c.in-Ok.ensures.sum m cover f.blocks rest is w.is_body w.is in
    (sum.0, subst (λ (p : Preface). AreSummed (sum_with shape m (groups_of f.blocks)) (cover ++ p.cover) c.add_file.new.self) same.0 sum.1)

pub returns-in-Ok-clause-shorter : goal.returns-in-Ok-clause-shorter
returns-in-Ok-clause-shorter c =
    let read = c.in_ok-front.ensures.read in
    let did = c.in-Ok.ensures.read in
    after_front (preface_of c.in_ok-front.front.head) c.args.bytes.now c.in_ok-front.front.rest.now (body_bytes c.args.shape.now.kinds.now c.in_ok-front.front.at did.0) c.in-Ok.rest.now read.is did.2

pub returns-clause-refused : goal.returns-clause-refused
returns-clause-refused c = λ m cover is.
    cannot_go_on c.args.shape.now (subject_of c.args.whole) (keys_of c.args.range) m c.args.bytes.now c.in_ok-front.front c.in-Err.why c.in_ok-front.ensures.read (c.in-Err.ensures.refused m cover is)
