use Rattle.std.proofs.Common.{◌∙◌, ℕ, ap, arith, length, length-append, subst}
use Rattle.lock_book.specs.declared.view.Entry.{Entry}
use Rattle.lock_book.specs.Shown.{CalledAll, calls_in}
use Rattle.uses_book.specs.Counting.{total_of}
use Rattle.uses_book.proofs.Sums.{total-append}
use Rattle.uses_book.proofs.batch.add_in_one_turn.Goals as goal

pub loop-init : goal.loop-init
loop-init g c = let e = c.turn-turn.ensures in record { turn = e.turn; place = e.place; count = ap length e.none; total = ap total_of e.none }

pub loop-preserved : goal.loop-preserved
loop-preserved g c =
    let i = c.loop.invariant in
    let e = c.call-before.ensures in
    let more = e.called.calls in record {
      turn = e.own _ i.turn;
      place = e.called.place ∙ i.place;
      count = omega (arith, ap length more, length-append {A = Entry ℕ ℕ ℕ}, i.count);
      total = omega (arith, ap total_of more, total-append, i.total);
    }

pub returns-clause-own : goal.returns-clause-own
returns-clause-own g c = let i = c.loop.invariant in (c.end.ensures.own.0, c.end.ensures.own.1 ∙ i.turn.number)

pub returns-clause-added : goal.returns-clause-added
returns-clause-added g c =
    let i = c.loop.invariant in
    let a = subst (λ at. CalledAll c.args.shelf.now c.args.pass.now c.end.new.pass at (calls_in c.loop.turn)) i.place (c.end.ensures.called _ i.turn) in
    record { before = a.before; calls = calls_in c.loop.turn; ends = a.ends; own = a.mine_grows; count = omega (arith, i.count, c.loop.auto, c.loop-test.false); total = omega (arith, i.total, c.loop.auto, c.loop-test.false) }
