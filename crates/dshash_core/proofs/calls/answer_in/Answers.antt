use Rattle.std.proofs.Common.{ℕ, sym, subst, List, is_some}
use Rattle.dshash_core.specs.Hung.{Hung, HasItem, HasNoItem}
use Rattle.dshash_core.specs.Cells.{AreCells, bucket_of}
use Rattle.dshash_core.specs.Calls.{IsCalled}
use Rattle.dshash_core.proofs.calls.answer_in.Goals as goal

pub change-reply-requires-clause-spot : goal.change-reply-requires-clause-spot
change-reply-requires-clause-spot g c = subst (λ (u : Hung). (key : List ℕ) × HasItem u c.bucket_of_hash-bucket.result c.in-Some.spot.link c.in-Some.spot.item key) (sym c.find.ensures.same) (c.args.key.now, c.in-Some.ensures.found)

pub put_in-requires-clause-absent : goal.put_in-requires-clause-absent
put_in-requires-clause-absent g c =
    subst (λ (u : Hung). HasNoItem u (bucket_of c.args.size c.args.hash) c.args.key.now) (sym c.find.ensures.same)
    (subst (λ (i : ℕ). HasNoItem c.args.buckets.now i c.args.key.now) c.bucket_of_hash-bucket.ensures c.in-None.ensures.found)

pub returns-in-Some-clause-answered : goal.returns-in-Some-clause-answered
returns-in-Some-clause-answered g c =
    let P : Hung → Type 0 = λ u. AreCells c.args.size c.args.count.now g.O.CellObject.VALUE_WORDS u → HasItem u c.bucket_of_hash-bucket.result c.in-Some.spot.link c.in-Some.spot.item c.args.key.now
    → IsCalled g.O.CellObject.stepped g.O.CellObject.decoded c.args.size c.change-reply.new.count g.O.CellObject.VALUE_WORDS u c.change-reply.new.buckets c.args.key.now c.args.call.now (is_some c.args.spare) c.change-reply.result.0 (is_some c.args.spare) (is_some c.change-reply.result.1) in
    subst P c.find.ensures.same (c.change-reply.ensures.called c.args.size c.args.key.now (is_some c.args.spare)) c.requires.cells c.in-Some.ensures.found
