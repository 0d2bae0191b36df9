use Rattle.std.proofs.Common.{refl}
use Rattle.state_body.specs.Body.{body_bytes}
use Rattle.state_head.specs.Head.{preface_of, subject_of}
use Rattle.state_head.specs.Words.{keys_of}
use Rattle.state_load.proofs.Causes.{looked_at}
use Rattle.state_load.proofs.Later.{cannot_after}
use Rattle.state_load.proofs.Loads.{after_front}
use Rattle.state_load.proofs.look.look_first.Goals as goal

pub returns-in-Ok-check_groups-clause-looked : goal.returns-in-Ok-check_groups-clause-looked
returns-in-Ok-check_groups-clause-looked c =
    let did = c.in-Ok-read_groups.ensures.read in
    looked_at c.args.shape.now (subject_of c.args.whole) (keys_of c.args.range) c.args.bytes.now c.in-Ok.front did.0 _ c.in-Ok.ensures.read
    (record { is_body = did.1; in_order = c.in-Ok-check_groups.ensures.order did.0 did.1.each did.3; counted = did.4 }) did.2 did.3 refl

pub returns-in-Ok-check_groups-clause-shorter : goal.returns-in-Ok-check_groups-clause-shorter
returns-in-Ok-check_groups-clause-shorter c =
    let did = c.in-Ok-read_groups.ensures.read in
    let front = c.in-Ok.front in
    after_front (preface_of front.head) c.args.bytes.now front.rest.now (body_bytes c.args.shape.now.kinds.now front.at did.0) c.in-Ok-read_groups.body.rest.now c.in-Ok.ensures.read.is did.2

pub returns-clause-refused : goal.returns-clause-refused
returns-clause-refused c = λ m more.
    let did = c.in-Ok-read_groups.ensures.read in
    cannot_after c.args.shape.now (subject_of c.args.whole) (keys_of c.args.range) m c.args.bytes.now more c.in-Ok-read_groups.body.rest.now c.in-Ok.front did.0 c.in-Err.why c.in-Ok.ensures.read did.1 did.2
    (c.in-Err.ensures.refused m did.0 did.1.each did.3)
