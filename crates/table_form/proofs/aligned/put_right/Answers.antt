use Rattle.std.specs.Prelude.{replicate}
use Rattle.table_form.proofs.Joins.{two-after}
use Rattle.table_form.proofs.aligned.put_right.Goals as goal

pub returns : goal.returns
returns c =
    two-after c.args.out.now.items (replicate c.args.spaces 32) c.args.text.now c.put_times.new.out.items c.extend_from_slice.new.self.items c.in_ok-put_times.ensures c.in_ok-extend_from_slice.ensures.items
