use Rattle.std.proofs.Common.{◌++◌, ℕ, List}
use Rattle.std.proofs.lemmas.Result.{IfErr-weaker, IfOk-weaker, err_from_is_err_and}
use Rattle.std.specs.FinMap as finite
use Rattle.state_head.specs.Head.{subject_of}
use Rattle.state_head.specs.Words.{keys_of}
use Rattle.state_ranges.specs.declared.sums.RangeSums.{RangeSums}
use Rattle.state_source.specs.Adding.{IsFaultOf}
use Rattle.state_source.specs.Beside.{AreInRanges}
use Rattle.state_source.specs.Reading.{OfLeft}
use Rattle.state_source.specs.declared.adding.SourceFault.{SourceFault}
use Rattle.state_source.specs.declared.adding.SourceFault.TheVariants as fault
use Rattle.state_source.proofs.Adds.{no_load}
use Rattle.state_source.proofs.Gone.{from_first, none_wrong}
use Rattle.state_whole.specs.Files.{file_bytes}
use Rattle.state_source.proofs.beside.sum_ranges.Goals as goal

pub returns-in_default-clause-refused : goal.returns-in_default-clause-refused
returns-in_default-clause-refused g c = no_load c.args.shape.now (subject_of c.args.whole) (keys_of c.args.range) finite.empty (g.S.Source.left c.args.source.now) c.args.first.now.bytes.items fault.Memory tt

pub returns-in_err-seen-clause-refused : goal.returns-in_err-seen-clause-refused
returns-in_err-seen-clause-refused g c =
    let why = err_from_is_err_and c.from_residual.result c.from_residual.ensures.1 in
    rw (why.1, why.2) (rw c.in-Ok.ensures.bytes at (c.in_err-seen.ensures.refused finite.empty))

pub returns-in_default-new-clause-refused : goal.returns-in_default-new-clause-refused
returns-in_default-new-clause-refused g c = no_load c.args.shape.now (subject_of c.args.whole) (keys_of c.args.range) finite.empty (g.S.Source.left c.args.source.now) c.args.first.now.bytes.items fault.Memory tt

pub returns-in-Some-seen-clause-added : goal.returns-in-Some-seen-clause-added
returns-in-Some-seen-clause-added g c =
    let shape = c.args.shape.now in
    let subject = subject_of c.args.whole in
    let keys = keys_of c.args.range in
    let was = g.S.Source.left c.args.source.now in
    let left = g.S.Source.left c.see_next.new.source in
    let first = c.args.first.now.bytes.items in
    let after = c.see_next.new.ahead in
    let file = c.in-Some-seen.file in
    let comes = rw c.in-Some-seen.is at c.in_ok-seen.ensures.next in
    let f = comes.2.f in
    IfOk-weaker c.add_all.result (λ (all : RangeSums). OfLeft left (λ more. AreInRanges shape subject keys (file_bytes shape.kinds.now f ++ (after.bytes ++ more)) all)) (λ (all : RangeSums). OfLeft was (λ rest. AreInRanges shape subject keys (first ++ rest) all))
    (λ all is. from_first shape subject keys was left first c.in-Ok.ahead after file (λ (bs : List ℕ). AreInRanges shape subject keys bs all) c.in-Ok.ensures.bytes comes is) (c.add_all.ensures.added f c.in-Ok-new.ensures comes.2.seen_of)

pub returns-in-Some-seen-clause-refused : goal.returns-in-Some-seen-clause-refused
returns-in-Some-seen-clause-refused g c =
    let shape = c.args.shape.now in
    let subject = subject_of c.args.whole in
    let keys = keys_of c.args.range in
    let was = g.S.Source.left c.args.source.now in
    let left = g.S.Source.left c.see_next.new.source in
    let first = c.args.first.now.bytes.items in
    let after = c.see_next.new.ahead in
    let file = c.in-Some-seen.file in
    let comes = rw c.in-Some-seen.is at c.in_ok-seen.ensures.next in
    let f = comes.2.f in
    IfErr-weaker c.add_all.result (λ (why : SourceFault). OfLeft left (λ more. IsFaultOf shape subject keys finite.empty (file_bytes shape.kinds.now f ++ (after.bytes ++ more)) why))
    (λ (why : SourceFault). OfLeft was (λ rest. IsFaultOf shape subject keys finite.empty (first ++ rest) why))
    (λ why is. from_first shape subject keys was left first c.in-Ok.ahead after file (λ (bs : List ℕ). IsFaultOf shape subject keys finite.empty bs why) c.in-Ok.ensures.bytes comes is) (c.add_all.ensures.refused f c.in-Ok-new.ensures comes.2.seen_of)

pub returns-in_err-none_left-in-None-seen-clause-refused : goal.returns-in_err-none_left-in-None-seen-clause-refused
returns-in_err-none_left-in-None-seen-clause-refused g c =
    let why = err_from_is_err_and c.from_residual-in_err-none_left-in-None-seen.result c.from_residual-in_err-none_left-in-None-seen.ensures.1 in
    let comes = rw c.in-None-seen.is at c.in_ok-seen.ensures.next in
    rw (why.1, why.2)
    (none_wrong c.args.shape.now (subject_of c.args.whole) (keys_of c.args.range) (g.S.Source.left c.args.source.now) (g.S.Source.left c.see_next.new.source) c.args.first.now.bytes.items c.in-Ok.ahead c.see_next.new.ahead
    c.in_err-none_left-in-None-seen.field-0.0 c.in-Ok.ensures.bytes comes (rw c.bytes.ensures at (c.in_err-none_left-in-None-seen.ensures.refused finite.empty)))
