use Rattle.std.proofs.Common.{◌≡◌, ◌≤◌, List, All, None, length, ap, sym, subst, ◌∙◌, arith}
use Rattle.std.specs.List.{flat_map}
use Rattle.std.specs.List.Sorted.{IsPermutation}
use Rattle.std.proofs.lemmas.List.Elements.{All-map}
use Rattle.scan_claim.specs.Shown.{AreSeats, blocks_of, lists_of}
use Rattle.row_blocks.specs.Blocks.{AreBlocks}
use Rattle.join_pairs.specs.Join.{most_pairs}
use Rattle.join_pairs.specs.Pairing.{IsReason}
use Rattle.join_pairs.specs.declared.pairing.Finder.{Finder}
use Rattle.join_pairs.specs.declared.pairing.Finding.{Finding}
use Rattle.join_pairs.specs.declared.pairs.Pair.{Pair}
use Rattle.join_pairs.proofs.Seats.{AreDrawn, all_new, all_sorted, are_drawn, kept_seats, none_listed}
use Rattle.join_pairs.proofs.pairing.find_pairs.Goals as goal

pub find_all-requires-clause-new : goal.find_all-requires-clause-new
find_all-requires-clause-new g c κs within =
    all_new c.in-Ok.claims c.in-Ok.seats.items c.in-Ok-finders.finders.items c.in-Ok-finders.ensures.seats c.in-Ok.ensures.seats c.in-Ok.ensures.draws c.in-Ok-finders.ensures.new

pub close-drawn-requires : goal.close-drawn-requires
close-drawn-requires g c =
    subst (AreSeats c.in-Ok.claims) (sym c.in-Ok-take_apart.ensures.seats)
    (kept_seats c.in-Ok.claims c.in-Ok.seats.items c.in-Ok-finders.finders.items c.find_all.new.finders.items c.in-Ok-finders.ensures.seats c.in-Ok.ensures.seats c.find_all.ensures.seats)

pub collect-requires : goal.collect-requires
collect-requires g c =
    let few = λ (f : Finding). length f.pairs.items ≤ most_pairs in
    record { few = subst (All few) (sym c.in-Ok-take_apart.ensures.findings) (All-map few (λ (f : Finder). f.finding) c.find_all.new.finders.items c.find_all.ensures.few) }

pub returns-in-Ok-collect-clause-pairs : goal.returns-in-Ok-collect-clause-pairs
returns-in-Ok-collect-clause-pairs g c =
    let gs = c.find_all.new.finders.items in
    let claims = c.in-Ok.claims in
    let pairs = λ (f : Finding). f.pairs.items in
    let callers : 1 ≤ claims.callers = omega (arith, c.requires.callers, c.in-Ok.ensures.counts.1) in
    let blocks : AreBlocks c.args.rows.now (blocks_of claims) = subst (AreBlocks c.args.rows.now) (sym c.in-Ok.ensures.counts.0) c.count_blocks.ensures.blocks in
    let d : AreDrawn claims gs =
    are_drawn claims c.in-Ok.seats.items c.in-Ok-take_apart.seats.items c.in-Ok-finders.finders.items gs (lists_of c.close-drawn.result) c.in-Ok-finders.ensures.seats c.in-Ok.ensures.seats c.find_all.ensures.seats callers
    c.in-Ok-take_apart.ensures.seats c.close-drawn.ensures.lists c.close-drawn.ensures.drawn in
    let brought = c.in-Ok-take_apart.ensures.findings in
    let none = subst (All (λ (f : Finding). f.stopped ≡ None)) brought c.in-Ok-collect.ensures.whole in
    let all = c.in-Ok-collect.ensures.all ∙ ap (flat_map pairs) brought in
    λ left k chains.
    c.of.ensures
    ∙ all_sorted left c.args.rows.now k c.args.column claims gs d.n c.sort_unstable.new.self.items d.any blocks d.drawn (λ i f low. c.find_all.ensures.found i f low left k chains) none
    (subst (λ (l : List Pair). IsPermutation l c.sort_unstable.new.self.items) all c.sort_unstable.ensures.permutation) c.sort_unstable.ensures.sorted

pub returns-clause-none : goal.returns-clause-none
returns-clause-none g c =
    let gs = c.find_all.new.finders.items in
    let claims = c.in-Ok.claims in
    let callers : 1 ≤ claims.callers = omega (arith, c.requires.callers, c.in-Ok.ensures.counts.1) in
    let blocks : AreBlocks c.args.rows.now (blocks_of claims) = subst (AreBlocks c.args.rows.now) (sym c.in-Ok.ensures.counts.0) c.count_blocks.ensures.blocks in
    let d : AreDrawn claims gs =
    are_drawn claims c.in-Ok.seats.items c.in-Ok-take_apart.seats.items c.in-Ok-finders.finders.items gs (lists_of c.close-drawn.result) c.in-Ok-finders.ensures.seats c.in-Ok.ensures.seats c.find_all.ensures.seats callers
    c.in-Ok-take_apart.ensures.seats c.close-drawn.ensures.lists c.close-drawn.ensures.drawn in
    let reason = subst (λ (l : List Finding). IsReason l c.in-Err.why) c.in-Ok-take_apart.ensures.findings c.in-Err.ensures.none in
    λ left k chains. none_listed left c.args.rows.now k c.args.column claims gs d.n c.in-Err.why d.any blocks d.drawn (λ i f low. c.find_all.ensures.found i f low left k chains) reason
