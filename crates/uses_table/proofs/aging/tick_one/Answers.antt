use Rattle.std.proofs.Common.{◌≡◌, ◌∙◌, ℕ, ◌+◌, false, [], ◌∷◌, length, length-append, cond, Some, refl, ap, subst, arith}
use Rattle.lock_book.specs.Shown.{mine_of, number_of, seen_of}
use Rattle.dsa_area.specs.Sizes.{chunk_size}
use Rattle.dshash_parts.specs.Tables.{AreKeysOf, item_of}
use Rattle.dshash_parts.specs.declared.histories.PartitionCalls.TheVariants.{Call, Lists}
use Rattle.dshash_parts.specs.declared.histories.PartitionReplies.TheVariants.{Listed, Made}
use Rattle.dshash_scan.proofs.Visits.{none_visited, one_visited}
use Rattle.uses_table.specs.Leases.{stepped}
use Rattle.uses_table.specs.declared.lease.LeaseCall.TheVariants.{Tick}
use Rattle.uses_table.proofs.Ticks.{as_number, at_most_one, freed_in}
use Rattle.uses_table.proofs.Rounds.{alone_later, ticks_done, turn_freed}
use Rattle.uses_table.proofs.aging.tick_one.Goals as goal

pub loop-visit-init : goal.loop-visit-init
loop-visit-init g c =
    let e = c.in_ok-scan.ensures in
    let h = c.requires.home in
    let p = c.args.pass.now in
    let q = c.scan_one.new.pass in
    let freed = turn_freed (number_of p) c.args.partition (seen_of p) (mine_of p) (seen_of q) (mine_of q) Lists (Listed (Some c.in_ok-scan.scan.left)) e.event in
    record {
      home = record { table = h.table; keys = h.keys; own = e.own; area = h.area; home = h.home; area_own = h.area_own };
      caller = e.caller;
      area_caller = refl;
      partition = e.partition;
      keys = e.keys;
      scanning = record {
        s = seen_of q;
        m = mine_of q;
        entries = c.in_ok-scan.scan.left;
        listed = e.event;
        all = e.all;
        counted = c.left-visited.ensures;
        visiting = none_visited stepped c.args.area.now (number_of p) (chunk_size (item_of c.args.leases.now)) c.args.partition Tick (seen_of q) (mine_of q) c.args.apass.now c.in_ok-scan.scan.left;
      };
      freed = omega (arith, freed);
      few = omega (arith, c.left-visited.ensures);
    }

pub loop-visit-preserved : goal.loop-visit-preserved
loop-visit-preserved g c =
    let i = c.loop-visit.invariant in
    let e = c.in-Some.ensures in
    let h = i.home in
    let v = e.visited in
    let x = i.scanning in
    let here = e.partition ∙ i.partition in
    let p = c.loop-visit.pass in
    let q = c.visit_next.new.pass in
    let visit = c.in-Some.visit in
    let freed = subst (λ (z : ℕ). freed_in (mine_of q z) ≡ freed_in (mine_of p z) + cond {A = ℕ} visit.removed 1 0) i.partition
    (turn_freed (number_of p) c.loop-visit.scan.partition (seen_of p) (mine_of p) (seen_of q) (mine_of q) (Call visit.key Tick false) (Made visit.reply false visit.removed) v.turned) in
    let one = length-append c.visit_next.new.self.left ((visit.key, v.state) ∷ []) in
    let all = ap length v.next in
    record {
      home = record { table = h.table; keys = h.keys; own = e.own; area = h.area; home = h.home; area_own = e.area_own };
      caller = e.caller ∙ i.caller;
      area_caller = e.area_caller ∙ i.area_caller;
      partition = here;
      keys = subst (λ (z : ℕ). AreKeysOf c.args.leases.now z c.visit_next.new.self.left) here e.keys;
      scanning = record {
        s = x.s;
        m = x.m;
        entries = x.entries;
        listed = x.listed;
        all = x.all;
        counted = x.counted;
        visiting = one_visited stepped c.args.area.now (number_of c.args.pass.now) (chunk_size (item_of c.args.leases.now)) c.args.partition Tick x.s x.m c.args.apass.now x.entries
            (seen_of p) (mine_of p) (seen_of q) (mine_of q) c.loop-visit.apass c.visit_next.new.apass c.loop-visit.scan.left c.visit_next.new.self.left
            (number_of p) c.loop-visit.scan.partition visit.key v.state visit.reply visit.removed x.visiting i.caller i.partition v.next v.turned v.gave;
      };
      freed = omega (arith, i.freed, freed, c.from-gone.ensures, as_number visit.removed);
      few = omega (arith, i.few, one, all, c.from-gone.ensures, at_most_one visit.removed);
    }

pub returns-clause-each : goal.returns-clause-each
returns-clause-each g c =
    let i = c.loop-visit.invariant in
    let done = c.in_default.ensures.done in
    ticks_done c.args.leases.now c.args.pass.now c.args.area.now c.args.apass.now c.loop-visit.pass c.visit_next.new.pass c.loop-visit.apass c.visit_next.new.apass c.args.partition c.left-visited.result c.loop-visit.gone c.loop-visit.scan.left i.scanning done.0 done.2 done.3 i.freed

pub returns-clause-alone : goal.returns-clause-alone
returns-clause-alone g c = λ one.
    let i = c.loop-visit.invariant in
    let e = c.in_default.ensures in
    alone_later c.args.leases.now c.args.pass.now c.args.area.now c.args.apass.now c.visit_next.new.apass c.visit_next.new.pass c.args.partition c.left-visited.result one c.requires.home.own e.own (e.caller ∙ i.caller) c.loop-visit.gone (returns-clause-each g c)
