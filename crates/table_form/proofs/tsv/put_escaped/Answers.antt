use Rattle.std.proofs.Common.{append-nil, sym}
use Rattle.table_form.specs.Tsv.{tsv_byte}
use Rattle.table_form.proofs.Bytes.{bytes-end, bytes-more}
use Rattle.table_form.proofs.tsv.put_escaped.Goals as goal

pub loop-byte-init : goal.loop-byte-init
loop-byte-init c = sym (append-nil c.args.out.now.items)

pub loop-byte-preserved : goal.loop-byte-preserved
loop-byte-preserved c =
    bytes-more tsv_byte c.args.field.now c.loop-byte.byte-index c.args.out.now.items c.loop-byte.out.items c.put_byte.new.out.items c.loop-byte-test.true c.in_ok-put_byte.ensures c.loop-byte.invariant

pub returns : goal.returns
returns c = bytes-end tsv_byte c.args.field.now c.loop-byte.byte-index c.args.out.now.items c.loop-byte.out.items c.loop-byte-test.false c.loop-byte.invariant
