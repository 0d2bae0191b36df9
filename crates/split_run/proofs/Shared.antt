-- What all participants added is all rows, each once.
use Rattle.std.proofs.Common.{◌≡◌, ◌<◌, ◌≤◌, ◌+◌, ◌-◌, ◌++◌, ℕ, suc, IfSome, List, [], ◌∷◌, All, None, length, map, min, refl, ap, sym, subst, ◌∙◌, arith, length-append}
use Rattle.std.specs.List.{AllByRecursion, AllZip, sum_by}
use Rattle.std.specs.List.Sorted.{IsPermutation}
use Rattle.std.proofs.lemmas.List.{length-map}
use Rattle.std.proofs.lemmas.List.Sums.{sum_by-append}
use Rattle.std.proofs.lemmas.List.Elements.{All-append, All-nil, recursion_from_All}
use Rattle.std.proofs.lemmas.List.Sorted.{All-permutation, length_permutation}
use Rattle.scan_claim.specs.Drawing.{IsDrawn, flat, late}
use Rattle.scan_claim.specs.Shown.{blocks_of, draws_of}
use Rattle.scan_claim.specs.declared.claims.ClaimSeat.{ClaimSeat}
use Rattle.scan_claim.specs.declared.claims.Claims.{Claims}
use Rattle.scan_claim.proofs.Totals.{late-append}
use Rattle.par_model.specs.Plan.{Plan}
use Rattle.partial_agg.specs.Groups.{GroupsByKey}
use Rattle.partial_agg.specs.Rows.{IsAccepted}
use Rattle.row_blocks.specs.Blocks.{Table}
use Rattle.row_windows.specs.Stretch.{Stretch}
use Rattle.gather_law.specs.Shares.{Add, AreShared, rows_at, together}
use Rattle.gather_law.proofs.RowShares.{pieces_cover, shares_grow}
use Rattle.split_run.specs.Causes.{SomeRefused}
use Rattle.split_run.specs.Hands.{AreDone, HasAdded, HasDone, most}
use Rattle.split_run.specs.Pieces.{AreUnder, SharesPieces, drawn_rows, piece_rows, rows_of}
use Rattle.split_run.specs.declared.hands.Hand.{Hand}
use Rattle.split_run.proofs.SeatedMaps.{map_of, seat_of}

abbrev drawn_by : Hand → List ℕ
drawn_by h = draws_of h.claim

abbrev pub count_by : Hand → ℕ
count_by h = h.count

draws_of_seats : (gs : List Hand) → map draws_of (map seat_of gs) ≡ map drawn_by gs
draws_of_seats [] = refl
draws_of_seats (g ∷ gs) = ap (λ (l : List (List ℕ)). draws_of g.claim ∷ l) (draws_of_seats gs)

module _ (plan : Plan) (pieces : List Stretch) (c : Claims) where
  abbrev rows_by : Hand → Table
  rows_by h = drawn_rows pieces (draws_of h.claim)

  -- ---- what each has done

  each_done : (fs gs : List Hand) → AreDone plan pieces c fs gs → AllZip (HasDone plan pieces c) fs gs
  each_done [] [] d = tt
  each_done [] (g ∷ gs) d = absurd (omega (arith, d.count))
  each_done (f ∷ fs) [] d = absurd (omega (arith, d.count))
  each_done (f ∷ fs) (g ∷ gs) d = (d.each 0 f (omega arith), each_done fs gs (record { count = omega (arith, d.count); each = λ k x low. d.each (suc k) x (omega (arith, low)) }))

  each_added : (fs gs : List Hand) → AllZip (HasDone plan pieces c) fs gs → AllByRecursion (λ (g : Hand). g.stopped ≡ None) gs → AllZip (HasAdded plan pieces c) fs gs
  each_added [] [] d n = tt
  each_added [] (g ∷ gs) d n = absurd d
  each_added (f ∷ fs) [] d n = absurd d
  each_added (f ∷ fs) (g ∷ gs) d n = (d.0.added n.0, each_added fs gs d.1 n.1)

  -- ---- what they have added

  adds : (fs gs : List Hand) → AllZip (HasAdded plan pieces c) fs gs → Add plan (map rows_by gs) (map map_of fs) (map map_of gs)
  unfolding Add
  adds [] [] a = tt
  adds [] (g ∷ gs) a = absurd a
  adds (f ∷ fs) [] a = absurd a
  adds (f ∷ fs) (g ∷ gs) a = (a.0.added, adds fs gs a.1)

  rows_are : (gs : List Hand) → map (rows_at (map piece_rows pieces)) (map drawn_by gs) ≡ map rows_by gs
  rows_are [] = refl
  rows_are (g ∷ gs) = ap (λ (l : List Table). rows_by g ∷ l) (rows_are gs)

  all_fine : (header : List (List ℕ)) → AreUnder header pieces → (fs gs : List Hand) → AllZip (HasAdded plan pieces c) fs gs → All (IsAccepted plan (length header)) (together (map rows_by gs))
  all_fine header under [] [] a = All-nil (IsAccepted plan (length header))
  all_fine header under [] (g ∷ gs) a = absurd a
  all_fine header under (f ∷ fs) [] a = absurd a
  all_fine header under (f ∷ fs) (g ∷ gs) a =
      All-append (IsAccepted plan (length header)) (rows_by g) (together (map rows_by gs)) (a.0.accepted header under) (all_fine header under fs gs a.1)

  -- how many rows all have added, as far as that is told
  counts_are : (fs gs : List Hand) → AllZip (HasAdded plan pieces c) fs gs → min (sum_by count_by gs) most ≡ min (length (together (map rows_by gs))) most
  counts_are [] [] a = refl
  counts_are [] (g ∷ gs) a = absurd a
  counts_are (f ∷ fs) [] a = absurd a
  counts_are (f ∷ fs) (g ∷ gs) a =
      let apart : sum_by count_by (g ∷ gs) ≡ sum_by count_by (g ∷ []) + sum_by count_by gs = sum_by-append count_by (g ∷ []) gs in
      let one : sum_by count_by (g ∷ []) ≡ g.count = omega arith in
      omega (arith, apart, one, counts_are fs gs a.1, a.0.count, length-append (rows_by g) (together (map rows_by gs)))

  -- one who found the end shows that all pieces were drawn
  covers : (fs gs : List Hand) (n : ℕ) → 0 < length gs → blocks_of c ≡ length pieces → IsDrawn (blocks_of c) (map drawn_by gs) n → AllZip (HasAdded plan pieces c) fs gs → length pieces ≤ n
  covers fs [] n any are d a = absurd (omega (arith, any))
  covers [] (g ∷ gs) n any are d a = absurd a
  covers (f ∷ fs) (g ∷ gs) n any are d a =
      let some : 0 < late (blocks_of c) (drawn_by g) = grind (arith, a.0.spent) in
      let lates = late-append (blocks_of c) (drawn_by g) (flat (map drawn_by gs)) in
      let past : late (blocks_of c) (drawn_by g ++ flat (map drawn_by gs)) ≡ n - blocks_of c = d.past in
      omega (arith, some, lates, past, are)

  -- ---- together

  -- what they added is all rows, in some order
  pub record AreAll (fs gs : List Hand) : Type 0 where
    pub adds : Add plan (map rows_by gs) (map map_of fs) (map map_of gs)
    pub same : IsPermutation (together (map rows_by gs)) (rows_of pieces)
    pub accepted : (header : List (List ℕ)) → AreUnder header pieces → All (IsAccepted plan (length header)) (rows_of pieces)
    pub count : min (sum_by count_by gs) most ≡ min (length (rows_of pieces)) most

  pub all_rows : (fs gs : List Hand) (home : List ClaimSeat) (lists : List (List ℕ)) → 0 < length gs → blocks_of c ≡ length pieces → AreDone plan pieces c fs gs → All (λ (g : Hand). g.stopped ≡ None) gs
      → home ≡ map seat_of gs → lists ≡ map draws_of home → ((n : ℕ) × IsDrawn (blocks_of c) lists n) → AreAll fs gs
  all_rows fs gs home lists any are done none h l d =
      let n = d.0 in
      let drawn : IsDrawn (blocks_of c) (map drawn_by gs) n = subst (λ (ls : List (List ℕ)). IsDrawn (blocks_of c) ls n) (l ∙ ap (map draws_of) h ∙ draws_of_seats gs) d.1 in
      let added = each_added fs gs (each_done fs gs done) (recursion_from_All (λ (g : Hand). g.stopped ≡ None) gs none) in
      let all : length (map piece_rows pieces) ≤ n = omega (arith, covers fs gs n any are drawn added, length-map pieces piece_rows) in
      let whole = pieces_cover (map piece_rows pieces) (map drawn_by gs) n drawn.once all in
      let mine = together (map rows_by gs) in
      let same : IsPermutation mine (rows_of pieces) = subst (λ (ls : List Table). IsPermutation (together ls) (rows_of pieces)) (rows_are gs) whole in
      record {
        adds = adds fs gs added;
        same = same;
        accepted = λ header under. All-permutation (IsAccepted plan (length header)) mine (rows_of pieces) same (all_fine header under fs gs added);
        count = omega (arith, counts_are fs gs added, length_permutation mine (rows_of pieces) same);
      }

  -- their maps are those of shares of the rows before and of these
  pub shares_on : (fs gs : List Hand) (olds news : List GroupsByKey) → AreAll fs gs → map map_of fs ≡ olds → news ≡ map map_of gs → SharesPieces plan pieces olds news
  shares_on fs gs olds news all old new = λ header before under shared few.
      subst (λ (l : List GroupsByKey). AreShared plan (length header) (before ++ rows_of pieces) l) (sym new)
      (shares_grow plan (length header) before (rows_of pieces) (map rows_by gs) (map map_of fs) (map map_of gs)
      (subst (λ (l : List GroupsByKey). AreShared plan (length header) before l) (sym old) shared) all.adds (all.accepted header under) all.same few)

  -- each that stopped gave a cause
  pub all_causes : (fs gs : List Hand) → AreDone plan pieces c fs gs → All (λ (h : Hand). IfSome h.stopped (SomeRefused plan pieces)) gs
  all_causes fs gs done = λ k d low. (done.each k d (omega (arith, low, done.count))).stopped
