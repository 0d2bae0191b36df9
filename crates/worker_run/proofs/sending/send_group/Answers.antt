use Rattle.std.proofs.Common.{◌≡◌, ◌≤◌, ℕ, List, arith, length, length-take}
use Rattle.par_model.specs.declared.state.AggState.{AggState}
use Rattle.tuple_codec.specs.Tuple.{IsTuple, tuple_bytes}
use Rattle.tuple_codec.proofs.Unique.{length-tuple}
use Rattle.tuple_codec.specs.declared.write.TheConstants.{TUPLE_BYTES}
use Rattle.worker_run.proofs.sending.send_group.Goals as goal

-- a tuple is not longer than the longest
fits : (key : List ℕ) (state : AggState) (slots size : ℕ) → IsTuple key state slots → size ≡ length (tuple_bytes key state slots) → size ≤ TUPLE_BYTES
fits key state slots size t e =
    let few : slots ≤ length state.slots = omega (arith, t.few, t.long) in
    omega (arith, e, length-tuple key state slots few, t.key_fits, t.few)

pub shared_ref_as_front-send : goal.shared_ref_as_front-send
shared_ref_as_front-send g c = fits c.args.key.now c.args.state.now c.args.slots c.encode_into.new.tuple.len c.encode_into.ensures.tuple c.encode_into.ensures.length

pub unreachable-requires : goal.unreachable-requires
unreachable-requires g c =
    let size = c.encode_into.new.tuple.len in
    let short = fits c.args.key.now c.args.state.now c.args.slots size c.encode_into.ensures.tuple c.encode_into.ensures.length in
    let no : ⊥ = omega (arith, c.in-TooLong.ensures.answer.0, length-take size c.encode_into.new.tuple.bytes, short, c.requires.ready.room) in
    no
