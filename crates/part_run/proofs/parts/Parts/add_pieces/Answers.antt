use Rattle.std.proofs.Common.{◌≡◌, ◌<◌, ◌∙◌, List, ap, length, arith, subst, sym}
use Rattle.scan_claim.specs.Shown.{AreSeats, blocks_of, lists_of}
use Rattle.scan_claim.specs.declared.claims.ClaimSeat.{ClaimSeat}
use Rattle.part_run.specs.Held.{HeldParts}
use Rattle.part_run.proofs.SeatedLists.{all_new, hands_many, kept_seats}
use Rattle.part_run.proofs.Read.{all_causes, all_rows, takes}
use Rattle.part_run.proofs.parts.Parts.add_pieces.Goals as goal

pub work_all-requires-clause-new : goal.work_all-requires-clause-new
work_all-requires-clause-new g c κs within = all_new c.in-Ok.claims c.in-Ok.seats.items c.in-Ok-hands_of.hands.items c.in-Ok-hands_of.ensures.seats c.in-Ok.ensures.seats c.in-Ok.ensures.draws

pub first_cause-requires-clause-cause : goal.first_cause-requires-clause-cause
first_cause-requires-clause-cause g c =
    let plan = c.args.plan.now in
    let pieces = c.args.pieces.now in
    c.in-Err.ensures.cause plan pieces (all_causes plan pieces c.in-Ok.claims c.in-Ok-hands_of.hands.items c.work_all.new.hands.items c.work_all.ensures)

pub close-drawn-requires : goal.close-drawn-requires
close-drawn-requires g c =
    subst (λ (l : List ClaimSeat). AreSeats c.in-Ok.claims l) (sym c.in-Ok-bring_home.ensures.seats)
    (kept_seats c.args.plan.now c.args.pieces.now c.in-Ok.claims c.in-Ok.seats.items c.in-Ok-hands_of.hands.items c.work_all.new.hands.items c.in-Ok-hands_of.ensures.seats c.in-Ok.ensures.seats c.work_all.ensures)

pub returns-clause-rows : goal.returns-clause-rows
returns-clause-rows g c =
    let claims = c.in-Ok.claims in
    let fs = c.in-Ok-hands_of.hands.items in
    let gs = c.work_all.new.hands.items in
    let home = c.in-Ok-bring_home in
    let given = ap (λ (p : HeldParts). p.lists) c.self.view_is in
    let held = c.in-Ok-hands_of.ensures.lists ∙ given in
    let any : 0 < length gs = omega (arith, hands_many fs c.args.self.lists held, c.work_all.ensures.count, c.requires.some) in
    let blocks : blocks_of claims ≡ length c.args.pieces.now = omega (arith, c.in-Ok.ensures.counts.0, c.requires.pieces) in
    let all = all_rows c.args.plan.now c.args.pieces.now claims fs gs home.home.seats.items (lists_of c.close-drawn.result) any blocks c.work_all.ensures home.ensures.whole home.ensures.seats c.close-drawn.ensures.lists c.close-drawn.ensures.drawn in
    takes c.args.plan.now c.args.pieces.now claims fs gs c.args.self _ all held home.ensures.lists (ap (λ (p : HeldParts). p.maps) c.self.view_is)

pub returns-clause-count : goal.returns-clause-count
returns-clause-count g c =
    let claims = c.in-Ok.claims in
    let fs = c.in-Ok-hands_of.hands.items in
    let gs = c.work_all.new.hands.items in
    let home = c.in-Ok-bring_home in
    let held = c.in-Ok-hands_of.ensures.lists ∙ ap (λ (p : HeldParts). p.lists) c.self.view_is in
    let any : 0 < length gs = omega (arith, hands_many fs c.args.self.lists held, c.work_all.ensures.count, c.requires.some) in
    let blocks : blocks_of claims ≡ length c.args.pieces.now = omega (arith, c.in-Ok.ensures.counts.0, c.requires.pieces) in
    let all = all_rows c.args.plan.now c.args.pieces.now claims fs gs home.home.seats.items (lists_of c.close-drawn.result) any blocks c.work_all.ensures home.ensures.whole home.ensures.seats c.close-drawn.ensures.lists c.close-drawn.ensures.drawn in
    home.ensures.count ∙ all.count

pub returns-clause-many : goal.returns-clause-many
returns-clause-many g c =
    let fs = c.in-Ok-hands_of.hands.items in
    let gs = c.work_all.new.hands.items in
    let home = c.in-Ok-bring_home in
    let held = c.in-Ok-hands_of.ensures.lists ∙ ap (λ (p : HeldParts). p.lists) c.self.view_is in
    let news : length home.home.lists.items ≡ length gs = sym (hands_many gs home.home.lists.items (sym home.ensures.lists)) in
    news ∙ c.work_all.ensures.count ∙ hands_many fs c.args.self.lists held
