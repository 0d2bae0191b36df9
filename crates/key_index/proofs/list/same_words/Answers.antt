use Rattle.std.proofs.Common.{◌≡◌, [], arith, get_or}
use Rattle.std.proofs.lemmas.Bool.{not-false}
use Rattle.std.proofs.lemmas.List.{take_more_same}
use Rattle.std.proofs.lemmas.Slice.Eq.{bytes_eq-Decides}
use Rattle.key_index.proofs.list.same_words.Goals as goal

pub loop-at-preserved : goal.loop-at-preserved
loop-at-preserved c =
    let a = get_or c.args.a.now c.loop-at.at [] in
    let b = get_or c.args.b.now c.loop-at.at [] in
    let same : a ≡ b = (bytes_eq-Decides a b).0 (not-false _ (rw (← c.ne.ensures) c.if-ne.false)) in
    take_more_same c.args.a.now c.args.b.now c.loop-at.at [] c.loop-at-test.true (omega (arith, c.requires)) c.loop-at.invariant same
