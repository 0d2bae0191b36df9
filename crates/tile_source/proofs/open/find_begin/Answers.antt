use Rattle.std.proofs.Common.{◌≡◌, ◌+◌, ◌-◌, ◌∙◌, ap, arith, drop, subst, sym, take}
use Rattle.std.proofs.lemmas.List.{drop-take, length-take}
use Rattle.tile_source.specs.Finding.{HasBegun}
use Rattle.tile_source.proofs.Passes.{begun-piece, passed-piece}
use Rattle.tile_source.proofs.open.find_begin.Goals as goal

pub returns-then-begin-2-clause-begun : goal.returns-then-begin-2-clause-begun
returns-then-begin-2-clause-begun g c =
    let left = g.S.Source.left in
    let n = c.in_ok-count.count in
    let k = c.pass-passed-in-reads.result in
    let buf = c.read.new.buf in
    let xs = take n buf in
    let few : k + (n - k) ≡ n = omega (arith, c.pass-passed-in-reads.ensures.within, length-take n buf) in
    let same : drop k (take n buf) ≡ c.in_ok-from_slice-2.field-0.items = ap (λ m. drop k (take m buf)) (sym few) ∙ (drop-take k (n - k) buf ∙ sym c.in_ok-from_slice-2.ensures.items) in
    subst (HasBegun c.args.ahead.now (left c.args.source.now) (left c.read.new.self) c.args.begin.now.at c.pass-passed-in-reads.new.self.at) same
    (begun-piece c.args.begin.now.at c.reads.begin c.pass-passed-in-reads.new.self c.args.ahead.now xs c.pass-passed-in-reads.result (left c.args.source.now) (left c.reads.source) (left c.read.new.self)
    c.reads.invariant.passed c.in_ok-count.ensures.bytes.0 c.pass-passed-in-reads.ensures c.if-begin-2.true)

pub reads-preserved : goal.reads-preserved
reads-preserved g c =
    let left = g.S.Source.left in
    let xs = take c.in_ok-count.count c.read.new.buf in
    record {
      on = c.if-begin-2.false;
      passed = passed-piece c.args.begin.now.at c.reads.begin c.pass-passed-in-reads.new.self c.args.ahead.now xs c.pass-passed-in-reads.result (left c.args.source.now) (left c.reads.source) (left c.read.new.self)
          c.reads.invariant.passed c.in_ok-count.ensures.bytes.0 c.pass-passed-in-reads.ensures c.if-begin-2.false;
      size = c.pass-passed-in-reads.ensures.size ∙ c.reads.invariant.size;
      big = c.reads.invariant.big;
      faults = omega (arith, c.reads.invariant.faults, c.in_ok-count.ensures.cause.kept);
    }
