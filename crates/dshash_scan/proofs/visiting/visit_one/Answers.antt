use Rattle.std.proofs.Common.{◌≡◌, ℕ, ◌+◌, ◌<◌, List, [], ◌∷◌, ◌++◌, length, refl, sym, ap, subst, ◌∙◌, arith, length-append}
use Rattle.dsa_area.specs.Sizes.{chunk_size}
use Rattle.lock_book.specs.Shown.{number_of, seen_of, mine_of}
use Rattle.dshash_parts.specs.Tables.{AreKeysOf, item_of}
use Rattle.dshash_scan.specs.Visits.{VisitsEach}
use Rattle.dshash_scan.proofs.Visits.{none_visited, one_visited, all_visited}
use Rattle.dshash_scan.proofs.visiting.visit_one.Goals as goal

pub visits-init : goal.visits-init
visits-init g c =
    let e = c.in-Ok.ensures in record {
      own = e.own;
      caller = e.caller;
      area_own = c.requires.area_own;
      area_caller = refl;
      partition = e.partition;
      keys = e.keys;
      scanning = record {
        s = seen_of c.scan_one.new.pass;
        m = mine_of c.scan_one.new.pass;
        entries = c.in-Ok.scan.left;
        listed = e.event;
        all = e.all;
        counted = c.left-count.ensures;
        visiting = none_visited g.O.CellObject.stepped c.args.area.now (number_of c.args.pass.now) (chunk_size (item_of c.args.table.now)) c.args.partition c.args.call.now (seen_of c.scan_one.new.pass) (mine_of c.scan_one.new.pass) c.args.apass.now c.in-Ok.scan.left;
      };
    }

pub visit_next-requires-clause-keys : goal.visit_next-requires-clause-keys
visit_next-requires-clause-keys g c κs within = subst (λ (z : ℕ). AreKeysOf c.args.table.now z c.visits.scan.left) (sym c.visits.invariant.partition) c.visits.invariant.keys

pub visit_next-requires-clause-may : goal.visit_next-requires-clause-may
visit_next-requires-clause-may g c κs within = λ key at. subst (λ (n : ℕ). g.O.CellObject.may n key c.args.call.now) (sym c.visits.invariant.caller) (c.requires.may key (at ∙ c.visits.invariant.partition))

pub visits-preserved : goal.visits-preserved
visits-preserved g c =
    let i = c.visits.invariant in
    let e = c.in-Some.ensures in
    let v = e.visited in
    let x = i.scanning in
    let here = e.partition ∙ i.partition in
    record {
      own = e.own;
      caller = e.caller ∙ i.caller;
      area_own = e.area_own;
      area_caller = e.area_caller ∙ i.area_caller;
      partition = here;
      keys = subst (λ (z : ℕ). AreKeysOf c.args.table.now z c.visit_next.new.self.left) here e.keys;
      scanning = record {
        s = x.s;
        m = x.m;
        entries = x.entries;
        listed = x.listed;
        all = x.all;
        counted = x.counted;
        visiting = one_visited g.O.CellObject.stepped c.args.area.now (number_of c.args.pass.now) (chunk_size (item_of c.args.table.now)) c.args.partition c.args.call.now x.s x.m c.args.apass.now x.entries
            (seen_of c.visits.pass) (mine_of c.visits.pass) (seen_of c.visit_next.new.pass) (mine_of c.visit_next.new.pass) c.visits.apass c.visit_next.new.apass c.visits.scan.left c.visit_next.new.self.left
            (number_of c.visits.pass) c.visits.scan.partition c.in-Some._seen.key v.state c.in-Some._seen.reply c.in-Some._seen.removed x.visiting i.caller i.partition v.next v.turned v.gave;
      };
    }

pub visits-smaller : goal.visits-smaller
visits-smaller g c =
    let v = c.in-Some.ensures.visited in
    let one = length-append c.visit_next.new.self.left ((c.in-Some._seen.key, v.state) ∷ []) in
    let all = ap length v.next in
    omega (arith, one, all)

pub returns-in-None-clause-each : goal.returns-in-None-clause-each
returns-in-None-clause-each g c =
    let done = c.in-None.ensures.done in
    let x = c.visits.invariant.scanning in
    let v = x.visiting in
    let step = g.O.CellObject.stepped in
    let t = c.args.table.now in
    let p = c.args.pass.now in
    let u = c.args.apass.now in
    let base : VisitsEach step t c.args.area.now p u c.visits.pass c.visits.apass c.args.partition c.args.call.now c.left-count.result = record {
      seen = x.s;
      mine = x.m;
      entries = x.entries;
      listed = x.listed;
      all = x.all;
      visits = v.visits;
      each = all_visited step c.args.area.now (number_of p) (chunk_size (item_of t)) c.args.partition c.args.call.now x.s x.m u x.entries (seen_of c.visits.pass) (mine_of c.visits.pass) c.visits.apass c.visits.scan.left v done.0;
      visited = v.visited;
      others = v.others;
      gave = v.gave;
      counted = x.counted;
    } in
    subst (λ q. VisitsEach step t c.args.area.now p u q c.visit_next.new.apass c.args.partition c.args.call.now c.left-count.result) (sym done.2)
    (subst (λ w. VisitsEach step t c.args.area.now p u c.visits.pass w c.args.partition c.args.call.now c.left-count.result) (sym done.3) base)
