-- The participants of the second round, by the seats that they hold.
use Rattle.std.proofs.Common.{◌≡◌, ◌<◌, ◌≤◌, ◌+◌, ◌*◌, ◌++◌, ◌⊎◌, inl, inr, ℕ, zero, suc, Any, List, [], ◌∷◌, All, Option, Some, None, length, map, slice_index_or, refl, ap, sym, subst, ◌∙◌, arith}
use Rattle.std.specs.List.{AllByRecursion, flat_map}
use Rattle.std.specs.List.Sorted.{IsPermutation, IsSorted}
use mathlib.Core.Option.{some}
use lib.ListN.{get_elem?}
use Rattle.scan_claim.specs.Drawing.{IsDrawn}
use Rattle.scan_claim.specs.Shown.{AreSeats, Belongs, blocks_of, draws_of, number_of}
use Rattle.scan_claim.specs.declared.claims.ClaimSeat.{ClaimSeat}
use Rattle.scan_claim.specs.declared.claims.Claims.{Claims}
use Rattle.row_blocks.specs.Blocks.{AreBlocks, Table}
use Rattle.join_pairs.specs.Found.{Found, HasNone}
use Rattle.join_pairs.specs.Join.{most_pairs, pairs_of}
use Rattle.join_pairs.specs.Law.{pair_cmp}
use Rattle.join_pairs.specs.Pairing.{AreSameSeats, FinderFound, IsNewFinder, IsReason}
use Rattle.join_pairs.specs.declared.pairing.Finder.{Finder}
use Rattle.join_pairs.specs.declared.pairing.Finding.{Finding}
use Rattle.join_pairs.specs.declared.pairing.NoPairs.{NoPairs}
use Rattle.join_pairs.specs.declared.pairing.NoPairs.TheVariants.{TooMany, Memory}
use Rattle.join_pairs.specs.declared.pairs.Pair.{Pair}
use Rattle.row_blocks.proofs.Elements.{any_cases, any_head, any_none, any_tail}
use Rattle.join_pairs.proofs.Ordered.{all_from}
use Rattle.join_pairs.proofs.Whole.{all_counted, all_paired, drawn_enough, too_many}

-- ---- places

-- what a function makes of the element at a place stands at that place of the mapped list
pub mapped_at : {X Y : Type 0} (f : X → Y) (xs : List X) (k : ℕ) (d : X) → k < length xs → get_elem? (map f xs) k ≡ some (f (slice_index_or xs k d))
mapped_at f [] k d h = absurd (omega (arith, h))
mapped_at f (x ∷ xs) zero d h = refl
mapped_at f (x ∷ xs) (suc k) d h = mapped_at f xs k d (omega (arith, h))

-- and what stands at a place of the mapped list was made of an element there
pub record IsMapped {X Y : Type 0} (f : X → Y) (xs : List X) (k : ℕ) (y : Y) : Type 0 where
  pub from : X
  pub low : k < length xs
  pub at : slice_index_or xs k from ≡ from
  pub is : f from ≡ y

pub mapped_from : {X Y : Type 0} (f : X → Y) (xs : List X) (k : ℕ) (y : Y) → get_elem? (map f xs) k ≡ some y → IsMapped f xs k y
mapped_from f [] k y e = absurd (cc)
mapped_from f (x ∷ xs) zero y e = record { from = x; low = omega arith; at = refl; is = cc }
mapped_from f (x ∷ xs) (suc k) y e = let r = mapped_from f xs k y e in record { from = r.from; low = omega (arith, r.low); at = r.at; is = r.is }

-- ---- seats

length-map : {X Y : Type 0} (f : X → Y) (xs : List X) → length (map f xs) ≡ length xs
length-map f [] = refl
length-map f (x ∷ xs) = ap suc (length-map f xs)

abbrev seat_of : Finder → ClaimSeat
seat_of f = f.claim

-- participants with the seats of all callers are new
pub all_new : (c : Claims) (seats : List ClaimSeat) (fs : List Finder) → map seat_of fs ≡ seats → AreSeats c seats → ((k : ℕ) (s : ClaimSeat) → get_elem? seats k ≡ some s → draws_of s ≡ [])
    → All (λ (f : Finder). f.finding.pairs.items ≡ []) fs → All (IsNewFinder c) fs
all_new c seats fs e are none new = λ k d low.
    let at : get_elem? seats k ≡ some (slice_index_or fs k d).claim = subst (λ l. get_elem? l k ≡ some (slice_index_or fs k d).claim) e (mapped_at seat_of fs k d low) in
    record { seat = (are.1 k (slice_index_or fs k d).claim at).0; draws = none k (slice_index_or fs k d).claim at; pairs = new k d low }

-- the seats of participants that kept their numbers are those of all callers
pub kept_seats : (c : Claims) (seats : List ClaimSeat) (fs gs : List Finder) → map seat_of fs ≡ seats → AreSeats c seats → AreSameSeats c fs gs → AreSeats c (map seat_of gs)
kept_seats c seats fs gs e are same = (count, λ k s at. by k s (mapped_from seat_of gs k s at))
  where
    count : length (map seat_of gs) ≡ c.callers
    count = length-map seat_of gs ∙ same.count ∙ sym (length-map seat_of fs) ∙ ap (λ (l : List ClaimSeat). length l) e ∙ are.0

    by : (k : ℕ) (s : ClaimSeat) → IsMapped seat_of gs k s → Belongs c s × (number_of s ≡ k)
    by k s m =
        let low : k < length fs = subst (λ n. k < n) same.count m.low in
        let f = slice_index_or fs k m.from in
        let at : get_elem? seats k ≡ some f.claim = subst (λ l. get_elem? l k ≡ some f.claim) e (mapped_at seat_of fs k m.from low) in
        let one = same.each k m.from low in
        let is : (slice_index_or gs k m.from).claim ≡ s = ap seat_of m.at ∙ m.is in
        subst (λ t. Belongs c t × (number_of t ≡ k)) is (one.seat, one.number ∙ (are.1 k f.claim at).1)

-- the blocks that were drawn by the seats of participants who kept their numbers
pub record AreDrawn (c : Claims) (gs : List Finder) : Type 0 where
  pub any : 0 < length gs
  pub n : ℕ
  pub drawn : IsDrawn (blocks_of c) (map (λ (f : Finder). draws_of f.claim) gs) n

draws_of_seats : (gs : List Finder) → map draws_of (map seat_of gs) ≡ map (λ (f : Finder). draws_of f.claim) gs
draws_of_seats [] = refl
draws_of_seats (g ∷ gs) = ap (λ (l : List (List ℕ)). draws_of g.claim ∷ l) (draws_of_seats gs)

pub are_drawn : (c : Claims) (seats home : List ClaimSeat) (fs gs : List Finder) (lists : List (List ℕ)) → map seat_of fs ≡ seats → AreSeats c seats → AreSameSeats c fs gs → 1 ≤ c.callers → home ≡ map seat_of gs → lists ≡ map draws_of home
    → ((n : ℕ) × IsDrawn (blocks_of c) lists n) → AreDrawn c gs
are_drawn c seats home fs gs lists e are same callers h l d =
    let kept = kept_seats c seats fs gs e are same in
    let count : length (map seat_of gs) ≡ length gs = length-map seat_of gs in
    record {
      any = omega (arith, kept.0, count, callers);
      n = d.0;
      drawn = subst (λ ls. IsDrawn (blocks_of c) ls d.0) (l ∙ ap (map draws_of) h ∙ draws_of_seats gs) d.1;
    }

-- ---- what all of them found

module _ (left right : Table) (left_column right_column : ℕ) (c : Claims) where
  abbrev did : Finder → Type 0
  did f = FinderFound left right left_column right_column c f

  abbrev draws : Finder → List ℕ
  draws f = draws_of f.claim

  abbrev pairs : Finder → List Pair
  pairs f = f.finding.pairs.items

  abbrev stopped : Finder → Option NoPairs
  stopped f = f.finding.stopped

  -- one who found the end shows that all blocks were drawn
  covers : (fs : List Finder) (n : ℕ) → 0 < length fs → AreBlocks right (blocks_of c) → IsDrawn (blocks_of c) (map draws fs) n → AllByRecursion did fs → AllByRecursion (λ f. stopped f ≡ None) fs → length right ≤ 256 * n + 1
  covers [] n any are d all none = absurd (omega (arith, any))
  covers (f ∷ fs) n any are d all none = drawn_enough right (blocks_of c) n (draws f) (map draws fs) are d (subst (Found left right left_column right_column c (draws f) (pairs f)) none.0 all.0).spent

  abbrev finding : Finder → Finding
  finding f = f.finding

  -- ---- what they brought home

  pairs_of_findings : (fs : List Finder) → flat_map (λ (g : Finding). g.pairs.items) (map finding fs) ≡ flat_map pairs fs
  pairs_of_findings [] = refl
  pairs_of_findings (f ∷ fs) = ap (λ (l : List Pair). pairs f ++ l) (pairs_of_findings fs)

  all_findings : (P : Finding → Type 0) (fs : List Finder) → AllByRecursion P (map finding fs) → AllByRecursion (λ f. P (finding f)) fs
  all_findings P [] h = tt
  all_findings P (f ∷ fs) h = (h.0, all_findings P fs h.1)

  any_finding : (P : Finding → Type 0) (fs : List Finder) → Any P (map finding fs) → Any (λ f. P (finding f)) fs
  any_finding P [] a = absurd (any_none P a)
  any_finding P (f ∷ fs) a = by (any_cases P (finding f) (map finding fs) a) (any_finding P fs)
    where
      by : P (finding f) ⊎ Any P (map finding fs) → (Any P (map finding fs) → Any (λ f. P (finding f)) fs) → Any (λ f. P (finding f)) (f ∷ fs)
      by (inl p) rest = any_head (λ f. P (finding f)) f fs p
      by (inr b) rest = any_tail (λ f. P (finding f)) f fs (rest b)

  -- where none stopped, their pairs in order are those of the tables
  pub all_sorted : (fs : List Finder) (n : ℕ) (sorted : List Pair) → 0 < length fs → AreBlocks right (blocks_of c) → IsDrawn (blocks_of c) (map draws fs) n → All did fs → All (λ (f : Finding). f.stopped ≡ None) (map finding fs)
      → IsPermutation (flat_map (λ (f : Finding). f.pairs.items) (map finding fs)) sorted → IsSorted pair_cmp sorted → sorted ≡ pairs_of left right left_column right_column
  all_sorted fs n sorted any are d all none p s =
      let each = all_from did fs all in
      let whole = all_findings (λ (f : Finding). f.stopped ≡ None) fs (all_from (λ (f : Finding). f.stopped ≡ None) (map finding fs) none) in
      all_paired left right left_column right_column c draws pairs stopped fs n sorted d (covers fs n any are d each whole) each whole (subst (λ l. IsPermutation l sorted) (pairs_of_findings fs) p) s

  -- where there is no list of pairs, the tables have too many, or memory was lacking
  pub none_listed : (fs : List Finder) (n : ℕ) (why : NoPairs) → 0 < length fs → AreBlocks right (blocks_of c) → IsDrawn (blocks_of c) (map draws fs) n → All did fs → IsReason (map finding fs) why
      → HasNone left right left_column right_column why
  none_listed fs n TooMany any are d all (inl a) = too_many left right left_column right_column c draws pairs stopped fs n d (all_from did fs all) (any_finding (λ (f : Finding). f.stopped ≡ Some TooMany) fs a)
  none_listed fs n TooMany any are d all (inr h) =
      let each = all_from did fs all in
      let whole = all_findings (λ (f : Finding). f.stopped ≡ None) fs (all_from (λ (f : Finding). f.stopped ≡ None) (map finding fs) h.0) in
      let same : length (flat_map (λ (f : Finding). f.pairs.items) (map finding fs)) ≡ length (pairs_of left right left_column right_column) =
      ap (λ (l : List Pair). length l) (pairs_of_findings fs) ∙ all_counted left right left_column right_column c draws pairs stopped fs n d (covers fs n any are d each whole) each whole in
      subst (λ m. most_pairs < m) same h.1
  none_listed fs n Memory any are d all h = tt
