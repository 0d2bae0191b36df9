-- A worker that has passed on all it had ends in order.
use Rattle.std.proofs.Common.{◌≡◌, inr, ℕ, List, Option, Some, None, refl, subst, sym, false}
use Rattle.std.specs.FinMap as map
use Rattle.agg_table.specs.Calls.{Use}
use Rattle.partial_agg.specs.Groups.{GroupsByKey}
use Rattle.ring_rule.specs.Ends.{publishes}
use Rattle.ring_rule.specs.Ring.{Sending}
use Rattle.worker_run.specs.Notices.{EndsInOrder, IsPublished}
use Rattle.worker_run.specs.Sent.{HasSent, HasSentAll, tuples_of}
use Rattle.worker_run.specs.Steps.{Finishes}
use Rattle.worker_run.specs.Tabled.{PassesOn}
use Rattle.worker_run.specs.declared.WorkerEnd.{WorkerEnd}
use Rattle.worker_run.specs.declared.WorkerEnd.TheVariants.{Finished, Stopped, Refused, NoMemory}

-- what was sent stays sent where it is published
pub sent_still : (old sent new : Sending) (messages : List (List ℕ)) → HasSent old sent messages → new ≡ publishes sent → HasSent old new messages
sent_still old sent new messages s e = subst (λ (n : Sending). HasSent old n messages) (sym e) (record { ring = s.ring; stays = s.stays; fresh = s.fresh; sent = s.sent })

all_still : (slots : ℕ) (groups : GroupsByKey) (old sent new : Sending) → HasSentAll slots groups old sent → new ≡ publishes sent → HasSentAll slots groups old new
all_still slots groups old sent new s e = record { done = s.done; all = s.all; these = record { written = s.these.written; sent = sent_still old sent new _ s.these.sent e } }

passed_still : (slots : ℕ) (used used' : Option Use) (groups left : GroupsByKey) (old sent new : Sending) → PassesOn slots used used' groups left old sent → new ≡ publishes sent → PassesOn slots used used' groups map.empty old new
passed_still slots None None groups left old sent new p e = record { empty = refl; all = all_still slots groups old sent new p.all e }
passed_still slots None (Some v) groups left old sent new p e = absurd p
passed_still slots (Some u) None groups left old sent new p e = absurd p
passed_still slots (Some u) (Some v) groups left old sent new p e =
    let g = p.1 in
    (refl, record { put = g.put; left = g.left; more = g.more; written = g.written; sent = sent_still old sent new (tuples_of slots g.left) g.sent e })

-- the queue stays open
pub passed_open : (slots : ℕ) (used used' : Option Use) (groups left : GroupsByKey) (old new : Sending) → PassesOn slots used used' groups left old new → (new.ring ≡ old.ring) × (new.gone ≡ false)
passed_open slots None None groups left old new p = (p.all.these.sent.ring, p.all.these.sent.stays)
passed_open slots None (Some v) groups left old new p = absurd p
passed_open slots (Some u) None groups left old new p = absurd p
passed_open slots (Some u) (Some v) groups left old new p = (p.1.sent.ring, p.1.sent.stays)

pub is_published : (sent new : Sending) → new ≡ publishes sent → IsPublished new
is_published sent new e = subst IsPublished (sym e) refl

pub ends_finish : (slots : ℕ) (used used' : Option Use) (groups left : GroupsByKey) (errors tuples sent errors' tuples' : Sending) (end : WorkerEnd) → PassesOn slots used used' groups left tuples sent → tuples' ≡ publishes sent
    → EndsInOrder errors errors' end → Finishes slots used used' groups errors tuples errors' tuples' end
ends_finish slots used used' groups left errors tuples sent errors' tuples' Finished p e f = record { passed = passed_still slots used used' groups left tuples sent tuples' p e; published = is_published sent tuples' e; said = f }
ends_finish slots used used' groups left errors tuples sent errors' tuples' Stopped p e f = inr (passed_still slots used used' groups left tuples sent tuples' p e, f)
ends_finish slots used used' groups left errors tuples sent errors' tuples' (Refused row cause item) p e f = absurd f
ends_finish slots used used' groups left errors tuples sent errors' tuples' NoMemory p e f = absurd f
