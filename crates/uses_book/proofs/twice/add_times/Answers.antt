use Rattle.std.proofs.Common.{◌∙◌, ℕ, ap, arith, refl, length, length-append}
use Rattle.lock_book.specs.declared.view.Entry.{Entry}
use Rattle.uses_book.specs.Counting.{total_of}
use Rattle.uses_book.proofs.Sums.{total-append}
use Rattle.uses_book.proofs.twice.add_times.Goals as goal

pub loop-init : goal.loop-init
loop-init g c = record { own = c.requires.own; number = refl; added = ap total_of c.requires.fresh; count = ap length c.requires.fresh }

pub loop-preserved : goal.loop-preserved
loop-preserved g c =
    let i = c.loop.invariant in
    let e = c.call-before.ensures in
    let more = e.called.mine_grows in record {
      own = e.own.0;
      number = e.own.1 ∙ i.number;
      added = omega (arith, ap total_of more, total-append, i.added);
      count = omega (arith, ap length more, length-append {A = Entry ℕ ℕ ℕ}, i.count);
    }
