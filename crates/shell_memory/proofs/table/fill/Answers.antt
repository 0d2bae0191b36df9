use Rattle.std.proofs.Common.{◌≡◌, ◌∙◌, suc, ◌+◌, arith}
use Rattle.shell_memory.proofs.FillLaws.{one-more, stops-here}
use Rattle.shell_memory.proofs.table.fill.Goals as goal

pub returns-in-Err-clause-answer : goal.returns-in-Err-clause-answer
returns-in-Err-clause-answer g c =
    let p = c.puts in
    let key = c.as_slice.ensures.value ∙ c.in_ok-write_key.ensures.key in
    let next : p.made + 1 ≡ suc p.made = omega arith in
    stops-here c.args.heap.now.area p.heap.area p.made p.new c.args.table.now p.table c.put_one.new.table c.args.heap.now.pass p.heap.pass c.put_one.new.heap.pass c.as_slice.result.now (p.made + 1) p.invariant.area key next p.invariant.puts
    c.args.count c.in-Err.field-0.pages c.in-Err.field-0.largest c.puts-test.true c.in-Err.ensures.refused

pub puts-preserved : goal.puts-preserved
puts-preserved g c =
    let p = c.puts in
    let inv = p.invariant in
    let told = c.in-Ok.ensures in
    let key = c.as_slice.ensures.value ∙ c.in_ok-write_key.ensures.key in
    let next : p.made + 1 ≡ suc p.made = omega arith in
    record {
      heap = told.heap;
      area = told.area ∙ inv.area;
      table = told.table;
      home = told.home;
      begins = c.in_ok-write_key.ensures.begins;
      puts = one-more c.args.heap.now.area p.heap.area p.made p.new c.args.table.now p.table c.put_one.new.table c.args.heap.now.pass p.heap.pass c.put_one.new.heap.pass c.as_slice.result.now (p.made + 1) inv.area key next inv.puts c.in-Ok.more told.made;
      made = omega (arith, c.puts-test.true);
      few = omega (arith, inv.few, told.few);
    }
