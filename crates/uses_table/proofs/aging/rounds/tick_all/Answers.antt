use Rattle.std.proofs.Common.{◌≡◌, ◌∙◌, ℕ, ◌+◌, subst, sym, arith}
use Rattle.lock_book.specs.Shown.{seen_of}
use Rattle.uses_table.proofs.Rounds.{Passing, others_same, passing_all, passing_more}
use Rattle.uses_table.proofs.aging.rounds.tick_all.Goals as goal

pub returns-clause-alone : goal.returns-clause-alone
returns-clause-alone g c = λ one.
    let all : c.loop-partition.partition ≡ 128 = omega (arith, c.loop-partition-test.false, c.loop-partition.auto.partition-end) in
    passing_all (seen_of c.args.pass.now) (seen_of c.loop-partition.pass) c.loop-partition.partition c.loop-partition.gone all (c.loop-partition.invariant.passed one)

pub loop-partition-preserved : goal.loop-partition-preserved
loop-partition-preserved g c =
    let i = c.loop-partition.invariant in
    let e = c.in_ok-round.ensures in
    let same : c.from-gone.result ≡ c.in_ok-round.round.gone = c.from-gone.ensures in
    record {
      home = e.home;
      caller = e.caller ∙ i.caller;
      area_caller = e.area_caller ∙ i.area_caller;
      small = omega (arith, i.small, same);
      passed = λ one. subst (λ (m : ℕ). Passing (seen_of c.args.pass.now) (seen_of c.tick_one.new.pass) (c.loop-partition.partition + 1) (c.loop-partition.gone + m)) (sym same)
          (passing_more (seen_of c.args.pass.now) (seen_of c.loop-partition.pass) (seen_of c.tick_one.new.pass) c.loop-partition.partition c.loop-partition.gone c.in_ok-round.round.gone (i.passed one)
          (others_same c.args.leases.now c.loop-partition.pass c.args.area.now c.loop-partition.apass c.tick_one.new.apass c.tick_one.new.pass c.loop-partition.partition c.in_ok-round.round.visited e.each.each) (e.alone one));
    }
