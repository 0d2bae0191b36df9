use Rattle.std.proofs.Common.{◌≡◌, sym, subst}
use mathlib.Core.Option.{some}
use lib.ListN.{get_elem?}
use Rattle.dsa_area.specs.Shown as area
use Rattle.dshash_parts.specs.Tables as table
use Rattle.scan_claim.specs.Shown as claim
use Rattle.hash_join.specs.declared.filling.Filler.{Filler}
use Rattle.hash_join.proofs.Homes.{map_get}
use Rattle.hash_join.proofs.Rounds.{are_new}
use Rattle.hash_join.proofs.gathering.open_round.Goals as goal

pub returns-clause-all : goal.returns-clause-all
returns-clause-all c =
    let s = c.in_ok-store in
    let k = c.in_ok-claims in
    let f = c.in_ok-fillers.ensures in
    record {
      areas = subst (λ l. area.AreAll s.store.area l) (sym f.areas) s.ensures.areas;
      tables = subst (λ l. table.AreAll s.store.table l) (sym f.tables) s.ensures.tables;
      claims = subst (λ l. claim.AreSeats k.claims l) (sym f.seats) k.ensures.seats;
    }

pub returns-clause-new : goal.returns-clause-new
returns-clause-new c =
    let s = c.in_ok-store in
    let k = c.in_ok-claims in
    let fs = c.in_ok-fillers.fillers.items in
    let f = c.in_ok-fillers.ensures in
    are_new s.store k.claims fs (returns-clause-all c)
    (λ n x e. s.ensures.new n x.table (subst (λ l. get_elem? l n ≡ some x.table) f.tables (map_get (λ (y : Filler). y.table) fs n x e)))
    (λ n x e. k.ensures.draws n x.claim (subst (λ l. get_elem? l n ≡ some x.claim) f.seats (map_get (λ (y : Filler). y.claim) fs n x e)))
    f.new
