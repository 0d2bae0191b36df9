-- The participants by the seats and the lists that they hold.
use Rattle.std.proofs.Common.{◌≡◌, ◌<◌, ℕ, List, [], length, map, slice_index_or, ap, sym, subst, ◌∙◌}
use mathlib.Core.Option.{some}
use lib.ListN.{get_elem?}
use Rattle.std.proofs.lemmas.List.{length-map}
use Rattle.scan_claim.specs.Shown.{AreSeats, Belongs, draws_of, number_of}
use Rattle.scan_claim.specs.declared.claims.ClaimSeat.{ClaimSeat}
use Rattle.scan_claim.specs.declared.claims.Claims.{Claims}
use Rattle.row_windows.specs.Stretch.{Stretch}
use Rattle.par_model.specs.Plan.{Plan}
use Rattle.row_lists.specs.Carried.{Carried}
use Rattle.split_run.proofs.SeatedMaps.{IsMapped, mapped_at, mapped_from}
use Rattle.part_run.specs.Hands.{AreDone, AreNew}
use Rattle.part_run.specs.declared.hands.Hand.{Hand}

abbrev pub seat_of : Hand → ClaimSeat
seat_of h = h.claim

abbrev pub held_by : Hand → List (List Carried)
held_by h = h.lists

-- participants with the seats of all callers are new
pub all_new : (c : Claims) (seats : List ClaimSeat) (fs : List Hand) → map seat_of fs ≡ seats → AreSeats c seats → ((k : ℕ) (s : ClaimSeat) → get_elem? seats k ≡ some s → draws_of s ≡ []) → AreNew c fs
all_new c seats fs e are none = λ k d low.
    let at : get_elem? seats k ≡ some (slice_index_or fs k d).claim = subst (λ (l : List ClaimSeat). get_elem? l k ≡ some (slice_index_or fs k d).claim) e (mapped_at seat_of fs k d low) in
    record { seat = (are.1 k (slice_index_or fs k d).claim at).0; draws = none k (slice_index_or fs k d).claim at }

-- the seats of participants that kept their numbers are those of all callers
pub kept_seats : (plan : Plan) (pieces : List Stretch) (c : Claims) (seats : List ClaimSeat) (fs gs : List Hand) → map seat_of fs ≡ seats → AreSeats c seats → AreDone plan pieces c fs gs → AreSeats c (map seat_of gs)
kept_seats plan pieces c seats fs gs e are done = (count, λ k s at. by k s (mapped_from seat_of gs k s at))
  where
    count : length (map seat_of gs) ≡ c.callers
    count = length-map gs seat_of ∙ done.count ∙ sym (length-map fs seat_of) ∙ ap (λ (l : List ClaimSeat). length l) e ∙ are.0

    by : (k : ℕ) (s : ClaimSeat) → IsMapped seat_of gs k s → Belongs c s × (number_of s ≡ k)
    by k s m =
        let low : k < length fs = subst (λ n. k < n) done.count m.low in
        let f = slice_index_or fs k m.from in
        let at : get_elem? seats k ≡ some f.claim = subst (λ (l : List ClaimSeat). get_elem? l k ≡ some f.claim) e (mapped_at seat_of fs k m.from low) in
        let one = done.each k m.from low in
        let is : (slice_index_or gs k m.from).claim ≡ s = ap seat_of m.at ∙ m.is in
        subst (λ t. Belongs c t × (number_of t ≡ k)) is (one.seat, one.number ∙ (are.1 k f.claim at).1)

-- there are as many participants as lists
pub hands_many : (fs : List Hand) (lists : List (List (List Carried))) → map held_by fs ≡ lists → length fs ≡ length lists
hands_many fs lists e = sym (length-map fs held_by) ∙ ap (λ (l : List (List (List Carried))). length l) e
