use Rattle.std.proofs.Common.{◌∙◌}
use Rattle.lock_book.proofs.Uses.{only}
use Rattle.uses_chunks.proofs.tests.open.Goals as goal

pub returns : goal.returns
returns c =
    let a = c.in-Ok-new.ensures in
    let t = c.in-Ok-on_slices.ensures in
    record {
      ready = record {
        table = t.table;
        keys = t.keys;
        own = t.passes.each 0 c.in-Some-Some.pass (only _ _ _ c.in-Some-Some.ensures'.items (t.passes.count ∙ t.callers));
        area = a.area;
        area_own = a.passes.each 0 c.in-Some-Some.apass (only _ _ _ c.in-Some-Some.ensures.items (a.passes.count ∙ a.callers));
      };
      callers = t.callers;
    }
