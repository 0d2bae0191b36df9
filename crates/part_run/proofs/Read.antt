-- What all participants put into their lists is all rows, each once.
use Rattle.std.proofs.Common.{◌≡◌, ◌<◌, ◌≤◌, ◌+◌, ◌-◌, ◌++◌, ℕ, suc, IfSome, List, [], ◌∷◌, All, None, length, map, min, refl, ap, sym, subst, ◌∙◌, arith, append_assoc, length-append}
use Rattle.std.specs.List.{AllByRecursion, AllZip, sum_by}
use Rattle.std.specs.List.Sorted.{IsPermutation}
use Rattle.std.proofs.lemmas.List.{length-map}
use Rattle.std.proofs.lemmas.List.Sums.{sum_by-append}
use Rattle.std.proofs.lemmas.List.Elements.{All-append, All-nil, recursion_from_All}
use Rattle.std.proofs.lemmas.List.Sorted.{All-permutation, IsPermutation-append, IsPermutation-append_comm, IsPermutation-append_left, IsPermutation-append_right, IsPermutation-refl, IsPermutation-trans, length_permutation}
use Rattle.scan_claim.specs.Drawing.{IsDrawn, flat, late}
use Rattle.scan_claim.specs.Shown.{blocks_of, draws_of}
use Rattle.scan_claim.specs.declared.claims.ClaimSeat.{ClaimSeat}
use Rattle.scan_claim.specs.declared.claims.Claims.{Claims}
use Rattle.scan_claim.proofs.Totals.{late-append}
use Rattle.par_model.specs.Plan.{Plan}
use Rattle.partial_agg.specs.Groups.{GroupsByKey}
use Rattle.partial_agg.specs.Rows.{IsAccepted}
use Rattle.row_blocks.specs.Blocks.{Table}
use Rattle.row_blocks.proofs.Permute.{same-permutation}
use Rattle.row_lists.specs.Carried.{Carried}
use Rattle.row_windows.specs.Stretch.{Stretch}
use Rattle.gather_law.specs.Shares.{rows_at, together}
use Rattle.gather_law.proofs.RowShares.{pieces_cover}
use Rattle.split_run.specs.Causes.{SomeRefused}
use Rattle.split_run.specs.Hands.{most}
use Rattle.split_run.specs.Pieces.{AreUnder, drawn_rows, piece_rows, rows_of}
use Rattle.part_run.specs.Carrying.{AreSpread, no_rows, spread}
use Rattle.part_run.specs.Hands.{AreDone, HasDone, HasSpread}
use Rattle.part_run.specs.Held.{HeldParts}
use Rattle.part_run.specs.Parted.{AreParted}
use Rattle.part_run.specs.Waiting.{TakesPieces}
use Rattle.part_run.specs.declared.hands.Hand.{Hand}
use Rattle.part_run.proofs.ByPart.{spread-append}
use Rattle.part_run.proofs.SeatedLists.{held_by, seat_of}

abbrev drawn_by : Hand → List ℕ
drawn_by h = draws_of h.claim

abbrev pub count_by : Hand → ℕ
count_by h = h.count

draws_of_seats : (gs : List Hand) → map draws_of (map seat_of gs) ≡ map drawn_by gs
draws_of_seats [] = refl
draws_of_seats (g ∷ gs) = ap (λ (l : List (List ℕ)). draws_of g.claim ∷ l) (draws_of_seats gs)

-- ---- shares that go on

-- each share with what is added to it
abbrev joined : List Table → List Table → List Table
joined [] added = []
joined (share ∷ shares) [] = []
joined (share ∷ shares) (rows ∷ added) = (share ++ rows) ∷ joined shares added

exchange : (s a ss as' : Table) → IsPermutation ((s ++ a) ++ (ss ++ as')) ((s ++ ss) ++ (a ++ as'))
exchange s a ss as' =
    let inner : IsPermutation ((a ++ ss) ++ as') ((ss ++ a) ++ as') = IsPermutation-append_left as' (a ++ ss) (ss ++ a) (IsPermutation-append_comm a ss) in
    let whole : IsPermutation (s ++ ((a ++ ss) ++ as')) (s ++ ((ss ++ a) ++ as')) = IsPermutation-append_right s ((a ++ ss) ++ as') ((ss ++ a) ++ as') inner in
    let left : s ++ ((a ++ ss) ++ as') ≡ (s ++ a) ++ (ss ++ as') = ap (λ (l : Table). s ++ l) (append_assoc a ss as') ∙ sym (append_assoc s a (ss ++ as')) in
    let right : s ++ ((ss ++ a) ++ as') ≡ (s ++ ss) ++ (a ++ as') = ap (λ (l : Table). s ++ l) (append_assoc ss a as') ∙ sym (append_assoc s ss (a ++ as')) in
    subst (λ l. IsPermutation l ((s ++ ss) ++ (a ++ as'))) left (same-permutation (s ++ ((a ++ ss) ++ as')) (s ++ ((ss ++ a) ++ as')) ((s ++ ss) ++ (a ++ as')) right whole)

module _ (plan : Plan) (pieces : List Stretch) (c : Claims) where
  abbrev rows_by : Hand → Table
  rows_by h = drawn_rows pieces (draws_of h.claim)

  -- ---- what each has done

  each_done : (fs gs : List Hand) → AreDone plan pieces c fs gs → AllZip (HasDone plan pieces c) fs gs
  each_done [] [] d = tt
  each_done [] (g ∷ gs) d = absurd (omega (arith, d.count))
  each_done (f ∷ fs) [] d = absurd (omega (arith, d.count))
  each_done (f ∷ fs) (g ∷ gs) d = (d.each 0 f (omega arith), each_done fs gs (record { count = omega (arith, d.count); each = λ k x low. d.each (suc k) x (omega (arith, low)) }))

  each_spread : (fs gs : List Hand) → AllZip (HasDone plan pieces c) fs gs → AllByRecursion (λ (g : Hand). g.stopped ≡ None) gs → AllZip (HasSpread plan pieces c) fs gs
  each_spread [] [] d n = tt
  each_spread [] (g ∷ gs) d n = absurd d
  each_spread (f ∷ fs) [] d n = absurd d
  each_spread (f ∷ fs) (g ∷ gs) d n = (d.0.read n.0, each_spread fs gs d.1 n.1)

  -- ---- what they have read

  rows_are : (gs : List Hand) → map (rows_at (map piece_rows pieces)) (map drawn_by gs) ≡ map rows_by gs
  rows_are [] = refl
  rows_are (g ∷ gs) = ap (λ (l : List Table). rows_by g ∷ l) (rows_are gs)

  all_fine : (header : List (List ℕ)) → AreUnder header pieces → (fs gs : List Hand) → AllZip (HasSpread plan pieces c) fs gs → All (IsAccepted plan (length header)) (together (map rows_by gs))
  all_fine header under [] [] a = All-nil (IsAccepted plan (length header))
  all_fine header under [] (g ∷ gs) a = absurd a
  all_fine header under (f ∷ fs) [] a = absurd a
  all_fine header under (f ∷ fs) (g ∷ gs) a =
      All-append (IsAccepted plan (length header)) (rows_by g) (together (map rows_by gs)) (a.0.accepted header under) (all_fine header under fs gs a.1)

  -- how many rows all have read, as far as that is told
  counts_are : (fs gs : List Hand) → AllZip (HasSpread plan pieces c) fs gs → min (sum_by count_by gs) most ≡ min (length (together (map rows_by gs))) most
  counts_are [] [] a = refl
  counts_are [] (g ∷ gs) a = absurd a
  counts_are (f ∷ fs) [] a = absurd a
  counts_are (f ∷ fs) (g ∷ gs) a =
      let apart : sum_by count_by (g ∷ gs) ≡ sum_by count_by (g ∷ []) + sum_by count_by gs = sum_by-append count_by (g ∷ []) gs in
      let one : sum_by count_by (g ∷ []) ≡ g.count = omega arith in
      omega (arith, apart, one, counts_are fs gs a.1, a.0.count, length-append (rows_by g) (together (map rows_by gs)))

  -- one who found the end shows that all pieces were drawn
  covers : (fs gs : List Hand) (n : ℕ) → 0 < length gs → blocks_of c ≡ length pieces → IsDrawn (blocks_of c) (map drawn_by gs) n → AllZip (HasSpread plan pieces c) fs gs → length pieces ≤ n
  covers fs [] n any are d a = absurd (omega (arith, any))
  covers [] (g ∷ gs) n any are d a = absurd a
  covers (f ∷ fs) (g ∷ gs) n any are d a =
      let some : 0 < late (blocks_of c) (drawn_by g) = grind (arith, a.0.spent) in
      let lates = late-append (blocks_of c) (drawn_by g) (flat (map drawn_by gs)) in
      let past : late (blocks_of c) (drawn_by g ++ flat (map drawn_by gs)) ≡ n - blocks_of c = d.past in
      omega (arith, some, lates, past, are)

  -- the lists go on by what was read
  abbrev Grow : List Table → List Hand → Type 0
  Grow shares gs = AllZip (AreSpread plan) (joined shares (map rows_by gs)) (map held_by gs) × IsPermutation (together (joined shares (map rows_by gs))) (together shares ++ together (map rows_by gs))

  all_grow : (shares : List Table) (fs gs : List Hand) → AllZip (AreSpread plan) shares (map held_by fs) → AllZip (HasSpread plan pieces c) fs gs → Grow shares gs
  all_grow [] [] [] z a = (tt, IsPermutation-refl [])
  all_grow [] [] (g ∷ gs) z a = absurd a
  all_grow [] (f ∷ fs) gs z a = absurd z
  all_grow (share ∷ shares) [] gs z a = absurd z
  all_grow (share ∷ shares) (f ∷ fs) [] z a = absurd a
  all_grow (share ∷ shares) (f ∷ fs) (g ∷ gs) z a =
      let more = all_grow shares fs gs z.1 a.1 in
      let rows = rows_by g in
      let rest = together (joined shares (map rows_by gs)) in
      let olds = together shares in
      let news = together (map rows_by gs) in
      let one : g.lists ≡ spread plan no_rows (share ++ rows) = a.0.lists ∙ ap (λ (ls : List (List Carried)). spread plan ls rows) z.0 ∙ sym (spread-append plan no_rows share rows) in (
        (one, more.0),
        IsPermutation-trans ((share ++ rows) ++ rest) ((share ++ rows) ++ (olds ++ news)) ((share ++ olds) ++ (rows ++ news)) (IsPermutation-append_right (share ++ rows) rest (olds ++ news) more.1) (exchange share rows olds news),
      )

  -- ---- together

  -- what they read is all rows, in some order
  pub record AreAll (fs gs : List Hand) : Type 0 where
    pub read : AllZip (HasSpread plan pieces c) fs gs
    pub same : IsPermutation (together (map rows_by gs)) (rows_of pieces)
    pub accepted : (header : List (List ℕ)) → AreUnder header pieces → All (IsAccepted plan (length header)) (rows_of pieces)
    pub count : min (sum_by count_by gs) most ≡ min (length (rows_of pieces)) most

  pub all_rows : (fs gs : List Hand) (home : List ClaimSeat) (lists : List (List ℕ)) → 0 < length gs → blocks_of c ≡ length pieces → AreDone plan pieces c fs gs → All (λ (g : Hand). g.stopped ≡ None) gs
      → home ≡ map seat_of gs → lists ≡ map draws_of home → ((n : ℕ) × IsDrawn (blocks_of c) lists n) → AreAll fs gs
  all_rows fs gs home lists any are done none h l d =
      let n = d.0 in
      let drawn : IsDrawn (blocks_of c) (map drawn_by gs) n = subst (λ (ls : List (List ℕ)). IsDrawn (blocks_of c) ls n) (l ∙ ap (map draws_of) h ∙ draws_of_seats gs) d.1 in
      let each = each_spread fs gs (each_done fs gs done) (recursion_from_All (λ (g : Hand). g.stopped ≡ None) gs none) in
      let all : length (map piece_rows pieces) ≤ n = omega (arith, covers fs gs n any are drawn each, length-map pieces piece_rows) in
      let whole = pieces_cover (map piece_rows pieces) (map drawn_by gs) n drawn.once all in
      let mine = together (map rows_by gs) in
      let same : IsPermutation mine (rows_of pieces) = subst (λ (ls : List Table). IsPermutation (together ls) (rows_of pieces)) (rows_are gs) whole in
      record {
        read = each;
        same = same;
        accepted = λ header under. All-permutation (IsAccepted plan (length header)) mine (rows_of pieces) same (all_fine header under fs gs each);
        count = omega (arith, counts_are fs gs each, length_permutation mine (rows_of pieces) same);
      }

  -- so the parts have the rows of the pieces too
  pub takes : (fs gs : List Hand) (old new : HeldParts) → AreAll fs gs → map held_by fs ≡ old.lists → new.lists ≡ map held_by gs → new.maps ≡ old.maps → TakesPieces plan pieces old new
  takes fs gs old new all was now same = λ header before under has few.
      let added = map rows_by gs in
      let z : AllZip (AreSpread plan) has.shares (map held_by fs) = subst (λ (ls : List (List (List Carried))). AllZip (AreSpread plan) has.shares ls) (sym was) has.lists in
      let grow = all_grow has.shares fs gs z all.read in
      let mine = together has.shares in
      let whole = together (joined has.shares added) in
      let its = together added in
      let first : IsPermutation (has.taken ++ whole) ((has.taken ++ mine) ++ its) =
      same-permutation (has.taken ++ whole) (has.taken ++ (mine ++ its)) ((has.taken ++ mine) ++ its) (sym (append_assoc has.taken mine its)) (IsPermutation-append_right has.taken whole (mine ++ its) grow.1) in
      record {
        taken = has.taken;
        shares = joined has.shares added;
        maps = subst (λ (ms : List GroupsByKey). AreParted plan (length header) has.taken ms) (sym same) has.maps;
        lists = subst (λ (ls : List (List (List Carried))). AllZip (AreSpread plan) (joined has.shares added) ls) (sym now) grow.0;
        accepted = All-append (IsAccepted plan (length header)) before (rows_of pieces) has.accepted (all.accepted header under);
        same = IsPermutation-trans (has.taken ++ whole) ((has.taken ++ mine) ++ its) (before ++ rows_of pieces) first (IsPermutation-append (has.taken ++ mine) before its (rows_of pieces) has.same all.same);
      }

  -- each that stopped gave a cause
  pub all_causes : (fs gs : List Hand) → AreDone plan pieces c fs gs → All (λ (h : Hand). IfSome h.stopped (SomeRefused plan pieces)) gs
  all_causes fs gs done = λ k d low. (done.each k d (omega (arith, low, done.count))).stopped
