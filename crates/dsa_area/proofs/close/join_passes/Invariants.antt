use Rattle.std.proofs.Common.{◌≡◌, List, ◌++◌, map}
use Rattle.lock_book.specs.Shown.{IsJoined}
use Rattle.dsa_area.specs.declared.area.AreaPass.{AreaPass}
use Rattle.dsa_area.proofs.close.join_passes.Given as goal

abbrev pub invariant-loop-pass : goal.invariant-loop-pass
invariant-loop-pass l = record {
  joined : (rest : List AreaPass) × (l.fn.passes.items ≡ l.passes.items ++ rest) × IsJoined l.area.pages (map (λ (p : AreaPass). p.pages) rest) l.pages × IsJoined l.area.pools (map (λ (p : AreaPass). p.pools) rest) l.pools;
}

abbrev pub decreases-loop-pass : goal.decreases-loop-pass
decreases-loop-pass l = goal.left-loop-pass l
