use Rattle.std.proofs.Common.{◌≡◌, ◌-◌, ◌<◌, ◌++◌, ◌∷◌, List, Some, false, arith, ap, sym, subst, ◌∙◌}
use Rattle.dshash_core.specs.Chains.{Item, Among}
use Rattle.dshash_core.specs.Hung.{Hung, IsSpot, with_chain, chain_of}
use Rattle.dshash_core.specs.Calls.{IsCalled}
use Rattle.dshash_core.proofs.Views.{among_here}
use Rattle.dshash_core.proofs.Flats.{spot_counted}
use Rattle.dshash_core.proofs.Steps.{updated, removed, left_alone}
use Rattle.dshash_core.proofs.calls.change.Goals as goal

pub read_value-requires-clause-item : goal.read_value-requires-clause-item
read_value-requires-clause-item g c =
    let item = c.requires.spot.1 in
    (item.0, (c.args.bucket, c.requires.bucket, subst (λ (l : List Item). Among item.0 l) (sym item.1.chain) (among_here item.0 item.1.before item.1.after)), item.2)

pub overflow_sub-count : goal.overflow_sub-count
overflow_sub-count g c =
    let item = c.requires.spot.1 in
    let some : 0 < c.args.count.now = spot_counted c.requires.cells.0 c.args.count.now _ c.args.buckets.now c.requires.cells.1 c.args.bucket c.requires.bucket c.args.spot.link item.0 item.1 in
    omega arith

pub returns-else-reads-clause-called : goal.returns-else-reads-clause-called
returns-else-reads-clause-called g c = λ size key spare k item.
    let held : Among item.0 (chain_of c.args.buckets.now c.args.bucket) = subst (λ (l : List Item). Among item.0 l) (sym item.1.chain) (among_here item.0 item.1.before item.1.after) in
    let read : c.read_value.new.out ≡ item.0.value = c.read_value.ensures.value item.0 (c.args.bucket, c.requires.bucket, held) item.2 in
    let state : c.decode-state.result ≡ g.O.CellObject.decoded item.0.value = c.decode-state.ensures ∙ ap g.O.CellObject.decoded read in
    let P : Hung → Type 0 = λ u. (s : IsSpot u c.args.bucket c.args.spot.link item.0) → item.0.at ≡ c.args.spot.item
    → c.write_value.new.self ≡ with_chain u c.args.bucket (s.before ++ record item.0 { value = c.encode.new.out } ∷ s.after) in
    updated g.O.CellObject.stepped g.O.CellObject.decoded size c.args.count.now g.O.CellObject.VALUE_WORDS c.args.buckets.now k c.args.bucket c.requires.bucket key c.args.call.now spare
    c.args.spot.link c.args.spot.item item c.step-next.result.0 c.step-next.result.1
    (c.step-next.ensures ∙ (λ i. g.O.CellObject.stepped (Some (state i)) c.args.call.now))
    c.write_value.new.self c.in-Some.next c.encode.new.out c.in-Some.is
    (ap g.O.CellObject.decoded c.encode.ensures.words ∙ g.met.O.CellObject.reads_back c.in-Some.next c.encode.ensures.value)
    (subst P c.read_value.ensures.same (c.write_value.ensures item.0) item.1 item.2)

pub returns-then-reads-clause-called : goal.returns-then-reads-clause-called
returns-then-reads-clause-called g c = λ size key spare k item.
    let held : Among item.0 (chain_of c.args.buckets.now c.args.bucket) = subst (λ (l : List Item). Among item.0 l) (sym item.1.chain) (among_here item.0 item.1.before item.1.after) in
    let read : c.read_value.new.out ≡ item.0.value = c.read_value.ensures.value item.0 (c.args.bucket, c.requires.bucket, held) item.2 in
    let state : c.decode-state.result ≡ g.O.CellObject.decoded item.0.value = c.decode-state.ensures ∙ ap g.O.CellObject.decoded read in
    let stepped = c.step-next.ensures ∙ (λ i. g.O.CellObject.stepped (Some (state i)) c.args.call.now) in
    subst (λ (u : Hung). IsCalled g.O.CellObject.stepped g.O.CellObject.decoded size c.args.count.now g.O.CellObject.VALUE_WORDS c.args.buckets.now u key c.args.call.now spare c.step-next.result.1 spare false) (sym c.read_value.ensures.same)
    (left_alone g.O.CellObject.stepped g.O.CellObject.decoded size c.args.count.now g.O.CellObject.VALUE_WORDS c.args.buckets.now k c.args.bucket c.requires.bucket key c.args.call.now spare
    c.args.spot.link c.args.spot.item item c.step-next.result.0 c.step-next.result.1 stepped c.in-Some.next c.in-Some.is
    (ap (λ p. p.0) stepped ∙ c.reads.ensures c.if-reads.true (Some (g.O.CellObject.decoded item.0.value))))

pub returns-in-None-clause-called : goal.returns-in-None-clause-called
returns-in-None-clause-called g c = λ size key spare k item.
    let held : Among item.0 (chain_of c.args.buckets.now c.args.bucket) = subst (λ (l : List Item). Among item.0 l) (sym item.1.chain) (among_here item.0 item.1.before item.1.after) in
    let read : c.read_value.new.out ≡ item.0.value = c.read_value.ensures.value item.0 (c.args.bucket, c.requires.bucket, held) item.2 in
    let state : c.decode-state.result ≡ g.O.CellObject.decoded item.0.value = c.decode-state.ensures ∙ ap g.O.CellObject.decoded read in
    let some : 0 < c.args.count.now = spot_counted size c.args.count.now g.O.CellObject.VALUE_WORDS c.args.buckets.now k c.args.bucket c.requires.bucket c.args.spot.link item.0 item.1 in
    let P : Hung → Type 0 = λ u. (s : IsSpot u c.args.bucket c.args.spot.link item.0) → item.0.at ≡ c.args.spot.item
    → c.unlink.new.self ≡ with_chain u c.args.bucket (s.before ++ s.after) in
    removed g.O.CellObject.stepped g.O.CellObject.decoded size c.args.count.now g.O.CellObject.VALUE_WORDS c.args.buckets.now k c.args.bucket c.requires.bucket key c.args.call.now spare
    c.args.spot.link c.args.spot.item item c.step-next.result.0 c.step-next.result.1
    (c.step-next.ensures ∙ (λ i. g.O.CellObject.stepped (Some (state i)) c.args.call.now))
    c.unlink.new.self (c.args.count.now - 1) c.in-None.is (omega arith)
    (subst P c.read_value.ensures.same (c.unlink.ensures.rest item.0) item.1 item.2)
