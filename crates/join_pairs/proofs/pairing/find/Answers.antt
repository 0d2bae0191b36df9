use Rattle.std.proofs.Common.{sym, subst}
use Rattle.scan_claim.specs.Shown.{draws_of}
use Rattle.join_pairs.specs.Found.{Found}
use Rattle.join_pairs.proofs.pairing.find.Goals as goal
use Rattle.join_pairs.proofs.pairing.find.Goals.{in-Ok, in-Err}

pub returns-clause-found : goal.returns-clause-found
returns-clause-found g c =
    λ left k all.
    elim c.match-found.branch [
      | in-Ok w ↦ subst (Found left c.args.rows.now k c.args.column c.args.claims.now (draws_of c.find_blocks-found.new.claim) c.find_blocks-found.new.pairs.items) (sym w.finder-is) (w.in-Ok.ensures.found left k all)
      | in-Err w ↦ subst (Found left c.args.rows.now k c.args.column c.args.claims.now (draws_of c.find_blocks-found.new.claim) c.find_blocks-found.new.pairs.items) (sym w.finder-is) (w.in-Err.ensures.stopped left k all)
    ]
