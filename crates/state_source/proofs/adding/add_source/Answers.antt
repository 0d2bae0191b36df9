use Rattle.std.proofs.Common.{◌∙◌, arith, sym}
use Rattle.state_head.specs.Head.{subject_of}
use Rattle.state_head.specs.Words.{keys_of}
use Rattle.state_source.specs.declared.adding.SourceFault.TheVariants as fault
use Rattle.state_source.proofs.Adds.{next_wrong, no_load, none_read, one_read, rest_added, rest_refused}
use Rattle.state_source.proofs.adding.add_source.Goals as goal

pub returns-in_default-clause-refused : goal.returns-in_default-clause-refused
returns-in_default-clause-refused g c = λ m cover is. no_load c.args.shape.now (subject_of c.args.whole) (keys_of c.args.range) m (g.S.Source.left c.args.source.now) c.args.first.now.bytes.items fault.Memory tt

pub loop-count-init : goal.loop-count-init
loop-count-init g c = record {
  to = none_read c.args.shape.now (subject_of c.args.whole) (keys_of c.args.range) (g.S.Source.left c.args.source.now) c.args.first.now.bytes.items c.in-Ok.ahead.bytes c.args.sum.now c.in-Ok.ensures.bytes;
  kept = search;
  end = λ e. c.requires.end (sym c.in-Ok.ensures.ended ∙ e);
  faults = omega arith;
}

pub returns-in-Ok-false-clause-added : goal.returns-in-Ok-false-clause-added
returns-in-Ok-false-clause-added g c =
    let l = c.loop-count in
    let last = rw c.in-Ok-false.field-0-test at c.in-Ok-false.ensures.next in
    rest_added c.args.shape.now (subject_of c.args.whole) (keys_of c.args.range) (g.S.Source.left c.args.source.now) (g.S.Source.left l.source) (g.S.Source.left c.add_next.new.source) c.args.first.now.bytes.items l.ahead c.add_next.new.ahead c.args.sum.now
    l.sum c.add_next.new.sum c.add_rest.new.sum l.count c.bytes.result.now c.add_rest.result l.invariant.to last c.bytes.ensures c.add_rest.ensures.added

pub returns-in-Ok-false-clause-refused : goal.returns-in-Ok-false-clause-refused
returns-in-Ok-false-clause-refused g c =
    let l = c.loop-count in
    let last = rw c.in-Ok-false.field-0-test at c.in-Ok-false.ensures.next in
    rest_refused c.args.shape.now (subject_of c.args.whole) (keys_of c.args.range) (g.S.Source.left c.args.source.now) (g.S.Source.left l.source) (g.S.Source.left c.add_next.new.source) c.args.first.now.bytes.items l.ahead c.add_next.new.ahead c.args.sum.now
    l.sum c.add_next.new.sum l.count c.bytes.result.now c.add_rest.result l.invariant.to last c.bytes.ensures c.add_rest.ensures.refused

pub returns-in-Err-clause-refused : goal.returns-in-Err-clause-refused
returns-in-Err-clause-refused g c = λ m cover is.
    let l = c.loop-count in
    next_wrong c.args.shape.now (subject_of c.args.whole) (keys_of c.args.range) (g.S.Source.left c.args.source.now) (g.S.Source.left l.source) c.args.first.now.bytes.items l.ahead.bytes c.args.sum.now l.sum l.count c.in-Err.why c.shifted.result l.invariant.to m cover is
    c.in-Err.ensures.refused c.shifted.ensures

pub loop-count-preserved : goal.loop-count-preserved
loop-count-preserved g c =
    let l = c.loop-count in
    let inv = l.invariant in
    let did = c.in-Ok-true.ensures in
    let next = rw c.in-Ok-true.field-0-test at did.next in
    record {
      to = one_read c.args.shape.now (subject_of c.args.whole) (keys_of c.args.range) (g.S.Source.left c.args.source.now) (g.S.Source.left l.source) (g.S.Source.left c.add_next.new.source) c.args.first.now.bytes.items l.ahead c.add_next.new.ahead c.args.sum.now l.sum c.add_next.new.sum l.count
          inv.to next;
      kept = did.kept ∙ inv.kept;
      end = did.end;
      faults = omega (arith, inv.faults, did.faults);
    }

pub returns-clause-refused : goal.returns-clause-refused
returns-clause-refused g c = λ m cover is. no_load c.args.shape.now (subject_of c.args.whole) (keys_of c.args.range) m (g.S.Source.left c.args.source.now) c.args.first.now.bytes.items fault.Memory tt
