use Rattle.std.proofs.Common.{ap}
use Rattle.lock_book.proofs.Uses.{only}
use Rattle.single_flight.specs.Laws.{load_in}
use Rattle.load_once.proofs.One.{one_item}
use Rattle.load_once.proofs.again.for_one.Goals as goal

pub returns-clause-all : goal.returns-clause-all
returns-clause-all c =
    let new = c.in_ok-loader.ensures in
    let lone = one_item _ _ _ c.in-Some.ensures.items new.callers in
    let all = rw lone at new.passes in
    all

pub returns-clause-free : goal.returns-clause-free
returns-clause-free c = λ k.
    let new = c.in_ok-loader.ensures in
    ap load_in (new.fresh 0 c.in-Some.pass (only _ _ _ c.in-Some.ensures.items new.callers) k).1
