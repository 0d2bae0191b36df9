-- The participants by the seats and the maps that they hold.
use Rattle.std.proofs.Common.{◌≡◌, ◌<◌, ℕ, zero, suc, List, [], ◌∷◌, length, map, slice_index_or, refl, ap, sym, subst, ◌∙◌, arith}
use mathlib.Core.Option.{some}
use lib.ListN.{get_elem?}
use Rattle.std.proofs.lemmas.List.{length-map}
use Rattle.scan_claim.specs.Shown.{AreSeats, Belongs, draws_of, number_of}
use Rattle.scan_claim.specs.declared.claims.ClaimSeat.{ClaimSeat}
use Rattle.scan_claim.specs.declared.claims.Claims.{Claims}
use Rattle.row_windows.specs.Stretch.{Stretch}
use Rattle.par_model.specs.Plan.{Plan}
use Rattle.partial_agg.specs.Groups.{GroupsByKey}
use Rattle.split_run.specs.Hands.{AreDone, AreNew}
use Rattle.split_run.specs.declared.hands.Hand.{Hand}

-- ---- places

-- what a function makes of the element at a place stands at that place of the mapped list
pub mapped_at : {X Y : Type 0} (f : X → Y) (xs : List X) (k : ℕ) (d : X) → k < length xs → get_elem? (map f xs) k ≡ some (f (slice_index_or xs k d))
mapped_at f [] k d h = absurd (omega (arith, h))
mapped_at f (x ∷ xs) zero d h = refl
mapped_at f (x ∷ xs) (suc k) d h = mapped_at f xs k d (omega (arith, h))

-- and what stands at a place of the mapped list was made of an element there
pub record IsMapped {X Y : Type 0} (f : X → Y) (xs : List X) (k : ℕ) (y : Y) : Type 0 where
  pub from : X
  pub low : k < length xs
  pub at : slice_index_or xs k from ≡ from
  pub is : f from ≡ y

pub mapped_from : {X Y : Type 0} (f : X → Y) (xs : List X) (k : ℕ) (y : Y) → get_elem? (map f xs) k ≡ some y → IsMapped f xs k y
mapped_from f [] k y e = absurd (cc)
mapped_from f (x ∷ xs) zero y e = record { from = x; low = omega arith; at = refl; is = cc }
mapped_from f (x ∷ xs) (suc k) y e = let r = mapped_from f xs k y e in record { from = r.from; low = omega (arith, r.low); at = r.at; is = r.is }

-- ---- seats and maps

abbrev pub seat_of : Hand → ClaimSeat
seat_of h = h.claim

abbrev pub map_of : Hand → GroupsByKey
map_of h = h.groups

-- ---- seats

-- participants with the seats of all callers are new
pub all_new : (c : Claims) (seats : List ClaimSeat) (fs : List Hand) → map seat_of fs ≡ seats → AreSeats c seats → ((k : ℕ) (s : ClaimSeat) → get_elem? seats k ≡ some s → draws_of s ≡ []) → AreNew c fs
all_new c seats fs e are none = λ k d low.
    let at : get_elem? seats k ≡ some (slice_index_or fs k d).claim = subst (λ (l : List ClaimSeat). get_elem? l k ≡ some (slice_index_or fs k d).claim) e (mapped_at seat_of fs k d low) in
    record { seat = (are.1 k (slice_index_or fs k d).claim at).0; draws = none k (slice_index_or fs k d).claim at }

-- the seats of participants that kept their numbers are those of all callers
pub kept_seats : (plan : Plan) (pieces : List Stretch) (c : Claims) (seats : List ClaimSeat) (fs gs : List Hand) → map seat_of fs ≡ seats → AreSeats c seats → AreDone plan pieces c fs gs → AreSeats c (map seat_of gs)
kept_seats plan pieces c seats fs gs e are done = (count, λ k s at. by k s (mapped_from seat_of gs k s at))
  where
    count : length (map seat_of gs) ≡ c.callers
    count = length-map gs seat_of ∙ done.count ∙ sym (length-map fs seat_of) ∙ ap (λ (l : List ClaimSeat). length l) e ∙ are.0

    by : (k : ℕ) (s : ClaimSeat) → IsMapped seat_of gs k s → Belongs c s × (number_of s ≡ k)
    by k s m =
        let low : k < length fs = subst (λ n. k < n) done.count m.low in
        let f = slice_index_or fs k m.from in
        let at : get_elem? seats k ≡ some f.claim = subst (λ (l : List ClaimSeat). get_elem? l k ≡ some f.claim) e (mapped_at seat_of fs k m.from low) in
        let one = done.each k m.from low in
        let is : (slice_index_or gs k m.from).claim ≡ s = ap seat_of m.at ∙ m.is in
        subst (λ t. Belongs c t × (number_of t ≡ k)) is (one.seat, one.number ∙ (are.1 k f.claim at).1)

-- there are as many participants as maps
pub hands_many : (fs : List Hand) (maps : List GroupsByKey) → map map_of fs ≡ maps → length fs ≡ length maps
hands_many fs maps e = sym (length-map fs map_of) ∙ ap (λ (l : List GroupsByKey). length l) e
