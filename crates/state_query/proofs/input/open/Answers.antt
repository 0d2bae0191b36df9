use Rattle.std.proofs.Common.{◌++◌, ◌∙◌, ℕ, List, [], inl, inr, refl, subst, sym}
use Rattle.state_front.specs.Front.{IsNoFront}
use Rattle.state_head.specs.Head.{preface_of}
use Rattle.state_query.specs.Whys.{IsReadStop}
use Rattle.state_query.proofs.Known.{no_read}
use Rattle.state_query.proofs.Loads.{no_front, no_plan}
use Rattle.state_source.proofs.Rests.{of_any, of_as}
use Rattle.state_query.proofs.input.open.Goals as goal

pub returns-in-Err-clause-why : goal.returns-in-Err-clause-why
returns-in-Err-clause-why c = λ left end.
    let first = c.args.first.now.bytes.items in
    let why = c.in-Err.why in
    let none = no_front first c.args.first.now.ended left why c.requires end (subst (λ (bs : List ℕ). IsNoFront bs why) c.as_slice.ensures.value c.in-Err.ensures.refused) (λ p rest is e. c.in-Err.ensures.written p rest is (c.as_slice.ensures.value ∙ e)) in
    of_as left (λ more. IsNoFront (first ++ more) why) (λ more. IsReadStop (first ++ more) c.of_load.result)
    (λ more bad. inr (c.of_load.ensures.why (first ++ more) (inl (record { why = why; is = refl; none = bad })))) none

pub returns-clause-why : goal.returns-clause-why
returns-clause-why c = λ left end.
    let first = c.args.first.now.bytes.items in
    let read = c.in-Ok.ensures.read in
    of_any left (λ more. IsReadStop (first ++ more) c.of_plan.result)
    (λ more. inr (c.of_plan.ensures (first ++ more) (no_plan first more c.in-Ok.front.rest.now (preface_of c.in-Ok.front.head) c.in-Err-of_whole.why read.1 (sym c.as_slice.ensures.value ∙ read.0) c.in-Err-of_whole.ensures.refused)))

pub returns-clause-unread : goal.returns-clause-unread
returns-clause-unread c =
    let first = c.args.first.now.bytes.items in
    let read = c.in-Ok.ensures.read in
    no_read (first ++ []) c.of_plan.result (c.of_plan.ensures (first ++ []) (no_plan first [] c.in-Ok.front.rest.now (preface_of c.in-Ok.front.head) c.in-Err-of_whole.why read.1 (sym c.as_slice.ensures.value ∙ read.0) c.in-Err-of_whole.ensures.refused))
