use Rattle.std.proofs.Common.{arith}
use Rattle.lock_book.specs.Shown.{whole_of}
use Rattle.uses_book.proofs.Sums.{value_is}
use Rattle.uses_book.proofs.twice.added_by_two.Goals as goal

pub returns : goal.returns
returns g c =
    let s = c.in_ok-closed.ensures in
    let v = c.in-Some.ensures.value in
    value_is _ _ v.0 (whole_of c.in_ok-closed.closed) _ _ (omega (arith, s.left.0, c.in-Some.ensures.some)) s.left.1 v.1 v.3 s.lawful s.others s.zero.0 s.one.0
