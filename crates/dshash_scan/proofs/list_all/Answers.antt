use Rattle.std.proofs.Common.{Some, None, refl, ap, ◌∙◌}
use Rattle.std.proofs.lemmas.List.{map-append}
use Rattle.dshash_core.specs.Listing.{pairs_of}
use Rattle.dshash_scan.proofs.Scans.{scanned_none, scanned_more, once, once_more}
use Rattle.dshash_scan.proofs.list_all.Goals as goal

pub loop-number-init : goal.loop-number-init
loop-number-init g c = record { own = c.requires.own; caller = refl; scanned = scanned_none _ _ _ _ _ (ap pairs_of c.new-all.ensures.items) }

pub loop-number-preserved : goal.loop-number-preserved
loop-number-preserved g c =
    let i = c.loop-number.invariant in
    let e = c.in-Ok.ensures in record {
      own = e.own;
      caller = c.in-Ok.ensures.caller ∙ c.loop-number.invariant.caller;
      scanned = scanned_more _ _ _ _ _ _ c.loop-number.number (pairs_of c.loop-number.all.items) i.scanned _ _ _ (pairs_of c.in-Ok.entries.items) (pairs_of c.append.new.self.items) i.caller e.event e.all
          (ap pairs_of c.in-Ok-append.ensures.items ∙ map-append _ c.loop-number.all.items c.in-Ok.entries.items);
    }

pub returns-in-Err-clause-once : goal.returns-in-Err-clause-once
returns-in-Err-clause-once g c k low = once_more _ _ _ _ _ _ c.loop-number.number _ c.loop-number.invariant.scanned _ _ _ None c.loop-number.invariant.caller c.in-Err.ensures.event k

pub returns-in-Err-append-clause-once : goal.returns-in-Err-append-clause-once
returns-in-Err-append-clause-once g c k low = once_more _ _ _ _ _ _ c.loop-number.number _ c.loop-number.invariant.scanned _ _ _ (Some (pairs_of c.in-Ok.entries.items)) c.loop-number.invariant.caller c.in-Ok.ensures.event k

pub returns-clause-once : goal.returns-clause-once
returns-clause-once g c k low = once _ _ _ _ _ _ c.loop-number.number _ c.loop-number.invariant.scanned k
