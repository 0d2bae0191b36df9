use Rattle.std.proofs.Common.{◌≡◌, ◌<◌, ◌++◌, List, ℕ, Bool, true, false, is_some, length, take, drop, refl, arith, ap, sym, subst, ◌∙◌}
use Rattle.std.proofs.Math.Seq.{take-append_seam}
use Rattle.dshash_core.specs.Chains.{Item, Among}
use Rattle.dshash_core.specs.Hung.{Hung, IsSpot, chain_of}
use Rattle.dshash_core.specs.Cells.{AreCells, cells_of}
use Rattle.dshash_core.specs.Calls.{IsCalled}
use Rattle.dshash_core.proofs.Views.{among_here}
use Rattle.dshash_core.proofs.Flats.{spot_get}
use Rattle.dshash_core.proofs.Takes.{frees}
use Rattle.dshash_core.proofs.taking.take_in.Goals as goal

pub read_key-requires-clause-item : goal.read_key-requires-clause-item
read_key-requires-clause-item g c =
    let item = c.requires.spot in
    (item.0, (c.args.bucket, c.requires.bucket, subst (λ (l : List Item). Among item.0 l) (sym item.1.chain) (among_here item.0 item.1.before item.1.after)), item.2)

pub change-reply-requires-clause-spot : goal.change-reply-requires-clause-spot
change-reply-requires-clause-spot g c =
    let item = c.requires.spot in
    (item.0.key, (item.0, subst (λ (u : Hung). IsSpot u c.args.bucket c.args.spot.link item.0) (sym c.read_key.ensures.same) item.1, item.2, refl))

pub unreachable-requires : goal.unreachable-requires
unreachable-requires g c =
    let item = c.requires.spot in
    let vw : ℕ = g.O.CellObject.VALUE_WORDS in
    let same = c.read_key.ensures.same in
    let at : IsSpot c.read_key.new.self c.args.bucket c.args.spot.link item.0 = subst (λ (u : Hung). IsSpot u c.args.bucket c.args.spot.link item.0) (sym same) item.1 in
    let size = c.requires.cells.0 in
    let k : AreCells size c.args.count.now vw c.read_key.new.self = subst (λ (u : Hung). AreCells size c.args.count.now vw u) (sym same) c.requires.cells.1 in
    let low = subst (λ (u : Hung). c.args.bucket < length u.chains) (sym same) c.requires.bucket in
    let there = spot_get size c.args.count.now vw c.read_key.new.self k c.args.bucket low c.args.spot.link item.0 at g.O.CellObject.decoded in
    let called = c.change-reply.ensures.called size item.0.key false k (item.0, at, item.2, refl) in
    let yes : is_some c.change-reply.result.1 ≡ true =
    called.done.freed_is ∙ frees g.O.CellObject.stepped c.args.call.now c.requires.removes (cells_of g.O.CellObject.decoded c.read_key.new.self.chains) item.0.key (g.O.CellObject.decoded item.0.value) there in
    let no : is_some c.change-reply.result.1 ≡ false = ap is_some c.in_default.is in
    let both : true ≡ false = sym yes ∙ no in
    cc

pub returns-clause-called : goal.returns-clause-called
returns-clause-called g c = λ size cells.
    let item = c.requires.spot in
    let vw : ℕ = g.O.CellObject.VALUE_WORDS in
    let step = g.O.CellObject.stepped in
    let dec = g.O.CellObject.decoded in
    let same = c.read_key.ensures.same in
    let at : IsSpot c.read_key.new.self c.args.bucket c.args.spot.link item.0 = subst (λ (u : Hung). IsSpot u c.args.bucket c.args.spot.link item.0) (sym same) item.1 in
    let called = c.change-reply.ensures.called size item.0.key false (subst (λ (u : Hung). AreCells size c.args.count.now vw u) (sym same) cells) (item.0, at, item.2, refl) in
    let held : Among item.0 (chain_of c.args.buckets.now c.args.bucket) = subst (λ (l : List Item). Among item.0 l) (sym item.1.chain) (among_here item.0 item.1.before item.1.after) in
    let long : c.args.words.len ≡ length c.read_key.new.out = omega (arith, c.read_key.auto.out, c.as_mut_slice.ensures.len) in
    let key : c.of.result ≡ item.0.key =
    c.of.ensures
    ∙ (ap (λ (n : ℕ). take n (c.read_key.new.out ++ drop (length c.read_key.new.out) c.args.words.items)) long
    ∙ (take-append_seam c.read_key.new.out (drop (length c.read_key.new.out) c.args.words.items) ∙ c.read_key.ensures.key item.0 (c.args.bucket, c.requires.bucket, held) item.2)) in
    subst (λ (u : Hung). IsCalled step dec size c.change-reply.new.count vw u c.change-reply.new.buckets c.of.result c.args.call.now false c.change-reply.result.0 false true) same
    (subst (λ (q : List ℕ). IsCalled step dec size c.change-reply.new.count vw c.read_key.new.self c.change-reply.new.buckets q c.args.call.now false c.change-reply.result.0 false true) (sym key)
    (subst (λ (b : Bool). IsCalled step dec size c.change-reply.new.count vw c.read_key.new.self c.change-reply.new.buckets item.0.key c.args.call.now false c.change-reply.result.0 false b) (ap is_some c.in-Some.is) called))
