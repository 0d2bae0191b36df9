use Rattle.std.proofs.Common.{◌≡◌, ◌++◌, ◌∷◌, ◌∙◌, [], None, List, ap, arith, sym}
use Rattle.std.proofs.lemmas.List.{map-append}
use Rattle.std.proofs.lemmas.List.Sums.{sum_by-append}
use Rattle.std.proofs.lemmas.List.Elements.{All-push}
use Rattle.scan_claim.specs.declared.claims.ClaimSeat.{ClaimSeat}
use Rattle.partial_agg.specs.Groups.{GroupsByKey}
use Rattle.split_run.specs.declared.hands.Hand.{Hand}
use Rattle.split_run.proofs.pieces.bring_home.Goals as goal

pub loop-hand-preserved : goal.loop-hand-preserved
loop-hand-preserved c =
    let was = c.loop-hand.yielded in
    let hand = c.in-Some.hand in
    let inv = c.loop-hand.invariant in
    record {
      seats = c.in-Ok.ensures.seats ∙ ap (λ (l : List ClaimSeat). l ++ hand.claim ∷ []) inv.seats ∙ sym (map-append (λ (h : Hand). h.claim) was (hand ∷ []));
      maps = c.in-Ok.ensures.maps ∙ ap (λ (l : List GroupsByKey). l ++ hand.groups ∷ []) inv.maps ∙ sym (map-append (λ (h : Hand). h.groups) was (hand ∷ []));
      count = omega (arith, c.in-Ok.ensures.count, inv.count, sum_by-append (λ (h : Hand). h.count) was (hand ∷ []));
      whole = All-push (λ (h : Hand). h.stopped ≡ None) was hand inv.whole c.in-None-stopped.is;
    }
