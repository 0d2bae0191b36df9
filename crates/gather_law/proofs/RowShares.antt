-- Shares of rows that grow, and are put together.
use Rattle.std.proofs.Common.{◌≡◌, ◌<◌, ◌+◌, ◌^◌, ◌++◌, ℕ, zero, suc, List, [], ◌∷◌, length, fold, get_or, map, drop, replicate, take, All, refl, ap, sym, subst, ◌∙◌, arith, length-append, append-nil, append_assoc}
use Rattle.std.specs.FinMap as fin
use Rattle.std.specs.List.{AllZip}
use Rattle.std.specs.List.Sorted.{IsPermutation}
use Rattle.std.proofs.lemmas.List.{take_all}
use Rattle.std.proofs.lemmas.List.Concat.{flat_map-append}
use Rattle.std.proofs.lemmas.List.Elements.{All-append, All-head, All-nil, All-tail}
use Rattle.std.proofs.lemmas.List.Sorted.{All-permutation, IsPermutation-append, IsPermutation-append_comm, IsPermutation-append_left, IsPermutation-append_right, IsPermutation-refl, IsPermutation-sym, IsPermutation-trans, length_permutation}
use Rattle.scan_claim.specs.Drawing.{below, flat}
use Rattle.par_model.specs.Plan.{Plan}
use Rattle.partial_agg.specs.Groups.{AreGroups, GroupsByKey, with_groups}
use Rattle.partial_agg.specs.Rows.{IsAccepted}
use Rattle.row_blocks.specs.Blocks.{Table, block_rows, rows_of_blocks}
use Rattle.partial_agg.proofs.Adding.{maps_grow, no_groups}
use Rattle.partial_agg.proofs.AnyOrder.{in_any_order}
use Rattle.partial_agg.proofs.Joining.{maps_join}
use Rattle.row_blocks.proofs.Draws.{drawn_are_below}
use Rattle.row_blocks.proofs.BlockRows.{rows_all}
use Rattle.row_blocks.proofs.Permute.{flat_map-permutation, same-permutation}
use Rattle.gather_law.specs.Sharing.{BlocksCover, PiecesCover, SharesBegin, SharesGrow, SharesJoin}
use Rattle.gather_law.specs.Shares.{Add, rows_at, together}

-- ---- blocks that were drawn each once

pub drawn_together : (records : Table) (draws : List (List ℕ)) → together (map (rows_of_blocks records) draws) ≡ rows_of_blocks records (flat draws)
drawn_together records [] = refl
drawn_together records (ds ∷ draws) =
    ap (λ (l : Table). rows_of_blocks records ds ++ l) (drawn_together records draws) ∙ sym (flat_map-append (block_rows records) ds (flat draws))

all_drawn : (plan : Plan) (width : ℕ) (records : Table) (draws : List (List ℕ)) → All (λ drawn. All (IsAccepted plan width) (rows_of_blocks records drawn)) draws
    → All (IsAccepted plan width) (together (map (rows_of_blocks records) draws))
all_drawn plan width records [] h = All-nil (IsAccepted plan width)
all_drawn plan width records (ds ∷ draws) h =
    let fine = λ (drawn : List ℕ). All (IsAccepted plan width) (rows_of_blocks records drawn) in
    All-append (IsAccepted plan width) (rows_of_blocks records ds) (together (map (rows_of_blocks records) draws)) (All-head fine ds draws h) (all_drawn plan width records draws (All-tail fine ds draws h))

pub blocks_cover : BlocksCover
blocks_cover plan width records draws n once all accepted =
    let drawn = flat draws in
    let mine = together (map (rows_of_blocks records) draws) in
    let sorted : IsPermutation drawn (below n) = drawn_are_below n drawn once in
    let rows : IsPermutation (rows_of_blocks records drawn) (drop 1 records) =
    same-permutation (rows_of_blocks records drawn) (rows_of_blocks records (below n)) (drop 1 records) (rows_all records n all) (flat_map-permutation (block_rows records) drawn (below n) sorted) in
    let same : IsPermutation mine (drop 1 records) = subst (λ l. IsPermutation l (drop 1 records)) (sym (drawn_together records draws)) rows in
    (same, All-permutation (IsAccepted plan width) mine (drop 1 records) same (all_drawn plan width records draws accepted))

-- ---- pieces that were drawn each once

drawn_pieces : (pieces : List Table) (draws : List (List ℕ)) → together (map (rows_at pieces) draws) ≡ rows_at pieces (flat draws)
drawn_pieces pieces [] = refl
drawn_pieces pieces (ds ∷ draws) =
    ap (λ (l : Table). rows_at pieces ds ++ l) (drawn_pieces pieces draws) ∙ sym (flat_map-append (λ n. get_or pieces n []) ds (flat draws))

-- one piece more, if there is one
next_piece : (pieces : List Table) (n : ℕ) → together (take n pieces) ++ get_or pieces n [] ≡ together (take (suc n) pieces)
next_piece [] zero = refl
next_piece [] (suc n) = refl
next_piece (p ∷ pieces) zero = sym (append-nil p)
next_piece (p ∷ pieces) (suc n) = append_assoc p (together (take n pieces)) (get_or pieces n []) ∙ ap (λ (l : Table). p ++ l) (next_piece pieces n)

pieces_below : (pieces : List Table) (n : ℕ) → rows_at pieces (below n) ≡ together (take n pieces)
pieces_below pieces zero = refl
pieces_below pieces (suc n) =
    flat_map-append (λ k. get_or pieces k []) (below n) (n ∷ []) ∙ ap (λ (l : Table). l ++ (get_or pieces n [] ++ [])) (pieces_below pieces n)
    ∙ ap (λ (l : Table). together (take n pieces) ++ l) (append-nil (get_or pieces n []))
    ∙ next_piece pieces n

pub pieces_cover : PiecesCover
pieces_cover pieces draws n once all =
    let drawn = flat draws in
    let sorted : IsPermutation drawn (below n) = drawn_are_below n drawn once in
    let whole : rows_at pieces (below n) ≡ together pieces = pieces_below pieces n ∙ ap together (take_all n pieces all) in
    let rows : IsPermutation (rows_at pieces drawn) (together pieces) =
    same-permutation (rows_at pieces drawn) (rows_at pieces (below n)) (together pieces) whole (flat_map-permutation (λ k. get_or pieces k []) drawn (below n) sorted) in
    subst (λ l. IsPermutation l (together pieces)) (sym (drawn_pieces pieces draws)) rows

-- ---- no rows

none_together : (count : ℕ) → together (replicate count []) ≡ []
none_together zero = refl
none_together (suc count) = none_together count

none_each : (plan : Plan) (count : ℕ) → AllZip (AreGroups plan) (replicate count []) (replicate count fin.empty)
none_each plan zero = tt
none_each plan (suc count) = (no_groups plan, none_each plan count)

pub shares_begin : SharesBegin
shares_begin plan width count = record {
  shares = replicate count [];
  each = none_each plan count;
  accepted = All-nil (IsAccepted plan width);
  same = subst (λ l. IsPermutation l []) (sym (none_together count)) (IsPermutation-refl []);
}

-- ---- more rows

-- each share with what is added to it
abbrev grown : List Table → List Table → List Table
grown [] added = []
grown (share ∷ shares) [] = []
grown (share ∷ shares) (rows ∷ added) = (share ++ rows) ∷ grown shares added

-- the shares together, and what is added together
abbrev Grows : Plan → List Table → List Table → List GroupsByKey → Type 0
Grows plan shares added news = AllZip (AreGroups plan) (grown shares added) news × IsPermutation (together (grown shares added)) (together shares ++ together added)

exchange : (s a ss as' : Table) → IsPermutation ((s ++ a) ++ (ss ++ as')) ((s ++ ss) ++ (a ++ as'))
exchange s a ss as' =
    let inner : IsPermutation ((a ++ ss) ++ as') ((ss ++ a) ++ as') = IsPermutation-append_left as' (a ++ ss) (ss ++ a) (IsPermutation-append_comm a ss) in
    let whole : IsPermutation (s ++ ((a ++ ss) ++ as')) (s ++ ((ss ++ a) ++ as')) = IsPermutation-append_right s ((a ++ ss) ++ as') ((ss ++ a) ++ as') inner in
    let left : s ++ ((a ++ ss) ++ as') ≡ (s ++ a) ++ (ss ++ as') = ap (λ (l : Table). s ++ l) (append_assoc a ss as') ∙ sym (append_assoc s a (ss ++ as')) in
    let right : s ++ ((ss ++ a) ++ as') ≡ (s ++ ss) ++ (a ++ as') = ap (λ (l : Table). s ++ l) (append_assoc ss a as') ∙ sym (append_assoc s ss (a ++ as')) in
    subst (λ l. IsPermutation l ((s ++ ss) ++ (a ++ as'))) left (same-permutation (s ++ ((a ++ ss) ++ as')) (s ++ ((ss ++ a) ++ as')) ((s ++ ss) ++ (a ++ as')) right whole)

module _ (plan : Plan) (width : ℕ) where
  abbrev Accepted : Table → Type 0
  Accepted rows = All (IsAccepted plan width) rows

  apart : (xs ys : Table) → Accepted (xs ++ ys) → Accepted xs × Accepted ys
  apart [] ys h = (All-nil (IsAccepted plan width), h)
  apart (x ∷ xs) ys h =
      let more = apart xs ys (All-tail (IsAccepted plan width) x (xs ++ ys) h) in
      (Rattle.std.proofs.lemmas.List.Elements.All-cons (IsAccepted plan width) x xs (All-head (IsAccepted plan width) x (xs ++ ys) h) more.0, more.1)

  all_grow : (shares added : List Table) (olds news : List GroupsByKey) → AllZip (AreGroups plan) shares olds → Add plan added olds news → Accepted (together shares) → Accepted (together added)
      → length (together shares) + length (together added) < 2 ^ 64 → Grows plan shares added news
  unfolding Add
  all_grow [] [] [] [] z a h k fits = (tt, IsPermutation-refl [])
  all_grow [] [] [] (new ∷ news) z a h k fits = absurd a
  all_grow [] [] (old ∷ olds) news z a h k fits = absurd z
  all_grow [] (rows ∷ added) [] news z a h k fits = absurd a
  all_grow [] (rows ∷ added) (old ∷ olds) news z a h k fits = absurd z
  all_grow (share ∷ shares) added [] news z a h k fits = absurd z
  all_grow (share ∷ shares) [] (old ∷ olds) news z a h k fits = absurd a
  all_grow (share ∷ shares) (rows ∷ added) (old ∷ olds) [] z a h k fits = absurd a
  all_grow (share ∷ shares) (rows ∷ added) (old ∷ olds) (new ∷ news) z a h k fits =
      let mine = apart share (together shares) h in
      let its = apart rows (together added) k in
      let long = length-append share (together shares) in
      let long' = length-append rows (together added) in
      let more = all_grow shares added olds news z.1 a.1 mine.1 its.1 (omega (arith, long, long', fits)) in
      let one = maps_grow plan width share rows old mine.0 its.0 (omega (arith, long, long', fits)) z.0 in
      let rest = together (grown shares added) in (
        (subst (AreGroups plan (share ++ rows)) (sym a.0) one, more.0),
        IsPermutation-trans ((share ++ rows) ++ rest) ((share ++ rows) ++ (together shares ++ together added)) ((share ++ together shares) ++ (rows ++ together added))
            (IsPermutation-append_right (share ++ rows) rest (together shares ++ together added) more.1) (exchange share rows (together shares) (together added)),
      )

  -- ---- all rows

  all_join : (shares : List Table) (maps : List GroupsByKey) (xs : Table) (m : GroupsByKey) → AllZip (AreGroups plan) shares maps → Accepted xs → Accepted (together shares)
      → length xs + length (together shares) < 2 ^ 64 → AreGroups plan xs m → AreGroups plan (xs ++ together shares) (fold with_groups m maps)
  all_join [] [] xs m z h k fits are = subst (λ l. AreGroups plan l m) (sym (append-nil xs)) are
  all_join [] (other ∷ maps) xs m z h k fits are = absurd z
  all_join (share ∷ shares) [] xs m z h k fits are = absurd z
  all_join (share ∷ shares) (other ∷ maps) xs m z h k fits are =
      let mine = apart share (together shares) k in
      let long = length-append share (together shares) in
      let long' = length-append xs share in
      subst (λ l. AreGroups plan l (fold with_groups (with_groups m other) maps)) (append_assoc xs share (together shares))
      (all_join shares maps (xs ++ share) (with_groups m other) z.1 (All-append (IsAccepted plan width) xs share h mine.0) mine.1 (omega (arith, long, long', fits))
      (maps_join plan width xs share m other h mine.0 (omega (arith, long, fits)) are z.0))

pub shares_grow : SharesGrow
shares_grow plan width rows more added olds news shared adds accepted same fits =
    let mine = together shared.shares in
    let its = together added in
    let fine : All (IsAccepted plan width) mine = All-permutation (IsAccepted plan width) rows mine (IsPermutation-sym mine rows shared.same) shared.accepted in
    let more_fine : All (IsAccepted plan width) its = All-permutation (IsAccepted plan width) more its (IsPermutation-sym its more same) accepted in
    let size = length_permutation mine rows shared.same in
    let more_size = length_permutation its more same in
    let all = all_grow plan width shared.shares added olds news shared.each adds fine more_fine (omega (arith, size, more_size, fits)) in
    record {
      shares = grown shared.shares added;
      each = all.0;
      accepted = All-append (IsAccepted plan width) rows more shared.accepted accepted;
      same = IsPermutation-trans (together (grown shared.shares added)) (mine ++ its) (rows ++ more) all.1 (IsPermutation-append mine rows its more shared.same same);
    }

pub shares_join : SharesJoin
shares_join plan width rows maps shared few =
    let mine = together shared.shares in
    let fine : All (IsAccepted plan width) mine = All-permutation (IsAccepted plan width) rows mine (IsPermutation-sym mine rows shared.same) shared.accepted in
    let size = length_permutation mine rows shared.same in
    let are = all_join plan width shared.shares maps [] fin.empty shared.each (All-nil (IsAccepted plan width)) fine (omega (arith, size, few)) (no_groups plan) in
    record { each = λ q. are.each q ∙ sym (in_any_order plan width mine rows q fine shared.same) }
