use Rattle.std.proofs.Common.{ap, ◌∙◌, refl}
use Rattle.mq_handle.specs.Messages.{whole_of}
use Rattle.parallel_ctx.proofs.Passes.{stays_seated, unused_table}
use Rattle.parallel_ctx.proofs.Idle.{whole_nothing}
use Rattle.parallel_ctx.proofs.start.work_or_return.Goals as goal

pub returns-then-load : goal.returns-then-load
returns-then-load g c =
    let fresh = c.requires.1 in
    record {
      seats = record { number = refl; toc = refl; claim = fresh.seats.claim; same = refl; hash = stays_seated c.args.shared.now.region c.args.hand.seats.number c.args.shared.now.hash c.args.hand.seats.hash fresh.seats.hash };
      ends = c.leave.ensures.ends;
      left = c.leave.ensures.left;
      done = λ plan has. record {
        draws = fresh.seats.drawn;
        used = unused_table c.args.shared.now.region c.args.hand.seats.number c.args.shared.now.hash c.args.hand.seats.hash fresh.seats.hash;
        errors = ap whole_of (c.leave.ensures.errors ∙ fresh.errors.put) ∙ whole_nothing;
        tuples = ap whole_of (c.leave.ensures.tuples ∙ fresh.tuples.put) ∙ whole_nothing;
      };
    }
