use Rattle.std.proofs.Common.{◌≡◌, ℕ, ◌+◌, ◌∙◌, refl, sym, subst, arith}
use Rattle.lock_book.specs.Shown.{number_of, seen_of, mine_of}
use Rattle.dshash_scan.proofs.Tallies.{Tallied, tallied_more, tallied_none}
use Rattle.dshash_scan.proofs.counting.count_all.Goals as goal

pub loop-number-init : goal.loop-number-init
loop-number-init g c = record { own = c.requires.own; caller = refl; small = omega arith; tallied = tallied_none _ _ _ _ }

pub loop-number-preserved : goal.loop-number-preserved
loop-number-preserved g c =
    let i = c.loop-number.invariant in
    let e = c.count_one.ensures in
    let p = c.args.pass.now in
    let same : c.from-total.result ≡ c.count_one.result = c.from-total.ensures in
    record {
      own = e.own;
      caller = e.caller ∙ i.caller;
      small = omega (arith, i.small, same, c.count_one.type_inv);
      tallied = subst (λ (m : ℕ). Tallied g.O.CellObject.stepped (number_of p) (seen_of p) (mine_of p) (seen_of c.count_one.new.pass) (mine_of c.count_one.new.pass) (c.loop-number.number + 1) (c.loop-number.total + m)) (sym same)
          (tallied_more g.O.CellObject.stepped (number_of p) (seen_of p) (mine_of p) (seen_of c.loop-number.pass) (mine_of c.loop-number.pass) c.loop-number.number c.loop-number.total i.tallied
          (seen_of c.count_one.new.pass) (mine_of c.count_one.new.pass) (number_of c.loop-number.pass) e.event.0 c.count_one.result i.caller e.event.1 e.counted);
    }

pub returns-clause-counted : goal.returns-clause-counted
returns-clause-counted g c =
    let t = c.loop-number.invariant.tallied in
    record { counts = t.counts; count = t.count ∙ (let all : c.loop-number.number ≡ 128 = omega (arith, c.loop-number-test.false, c.loop-number.auto.number-end) in all); is = t.is; looks = t.looks }
