-- The maps of parts are those of shares, and stay such.
use Rattle.std.proofs.Common.{◌≡◌, ◌<◌, ◌^◌, ◌++◌, ◌∙◌, ℕ, List, [], ◌∷◌, drop, length, map, All, refl, ap, sym, subst, arith, append_assoc, length-append}
use Rattle.std.specs.List.{AllZip, concat, flat_map}
use Rattle.std.specs.List.Sorted.{IsPermutation}
use Rattle.std.proofs.lemmas.List.Elements.{All-append, All-cons, All-head, All-nil, All-tail}
use Rattle.std.proofs.lemmas.List.Sorted.{All-permutation, IsPermutation-refl, IsPermutation-sym, length_permutation}
use Rattle.csv_rows.specs.Cuts.{IsCut}
use Rattle.csv_rows.specs.Records.{records_of}
use Rattle.par_model.specs.Plan.{Plan}
use Rattle.partial_agg.specs.Groups.{AreGroups, GroupsByKey, with_groups}
use Rattle.partial_agg.specs.Rows.{IsAccepted}
use Rattle.partial_agg.proofs.Joining.{maps_join}
use Rattle.row_blocks.specs.Blocks.{Table}
use Rattle.gather_law.specs.Shares.{AreShared, together}
use Rattle.part_law.specs.Tiles.{AreTiles, IsPart}
use Rattle.part_law.specs.Law.{CombineKeeps, PartsAreShares}
use Rattle.part_law.proofs.TileRecords.{behind_one, rows_behind, tiles_add_up}

-- the tables of tiles, one after another
tables_together : (tiles : List (List ℕ)) → together (map records_of tiles) ≡ flat_map records_of tiles
tables_together [] = refl
tables_together (tile ∷ tiles) = ap (λ (l : Table). records_of tile ++ l) (tables_together tiles)

module _ (plan : Plan) (width : ℕ) where
  abbrev Accepted : Table → Type 0
  Accepted rows = All (IsAccepted plan width) rows

  apart : (xs ys : Table) → Accepted (xs ++ ys) → Accepted xs × Accepted ys
  apart [] ys h = (All-nil (IsAccepted plan width), h)
  apart (x ∷ xs) ys h =
      let more = apart xs ys (All-tail (IsAccepted plan width) x (xs ++ ys) h) in
      (All-cons (IsAccepted plan width) x xs (All-head (IsAccepted plan width) x (xs ++ ys) h) more.0, more.1)

  abbrev Each : List (List ℕ) → List GroupsByKey → Type 0
  Each tiles maps = AllZip (AreGroups plan) (map records_of tiles) maps × Accepted (flat_map records_of tiles)

  module _ (header : List ℕ) (one : length (records_of header) ≡ 1) (cut : IsCut header) where
    each_part : (first : List ℕ) (tiles : List (List ℕ)) (maps : List GroupsByKey) → AreTiles first tiles → AllZip (IsPart plan width header) tiles maps → Each tiles maps
    unfolding AreTiles
    each_part first [] [] t z = (tt, All-nil (IsAccepted plan width))
    each_part first [] (m ∷ maps) t z = absurd z
    each_part first (tile ∷ tiles) [] t z = absurd z
    each_part first (tile ∷ tiles) (m ∷ maps) t z =
        let more = each_part tile tiles maps t.2 z.1 in
        let same = rows_behind header tile one cut t.1 in (
          (subst (λ (rows : Table). AreGroups plan rows m) same z.0.are, more.0),
          All-append (IsAccepted plan width) (records_of tile) (flat_map records_of tiles) (subst Accepted same z.0.accepted) more.1,
        )

  each_of : (header : List ℕ) (tiles : List (List ℕ)) (maps : List GroupsByKey) → length (records_of header) ≡ 1 → AreTiles header tiles → AllZip (IsPart plan width header) tiles maps → Each tiles maps
  unfolding AreTiles
  each_of header [] [] one t z = (tt, All-nil (IsAccepted plan width))
  each_of header [] (m ∷ maps) one t z = absurd z
  each_of header (tile ∷ tiles) maps one t z = each_part header one t.0 header (tile ∷ tiles) maps t z

pub parts_are_shares : PartsAreShares
parts_are_shares plan width header tiles maps one t z =
    let rows : drop 1 (records_of (header ++ concat tiles)) ≡ flat_map records_of tiles = ap (λ (l : Table). drop 1 l) (tiles_add_up header tiles t) ∙ behind_one (records_of header) (flat_map records_of tiles) one in
    let all = each_of plan width header tiles maps one t z in
    subst (λ (l : Table). AreShared plan width l maps) (sym rows) (record {
      shares = map records_of tiles;
      each = all.0;
      accepted = all.1;
      same = subst (λ l. IsPermutation l (flat_map records_of tiles)) (sym (tables_together tiles)) (IsPermutation-refl (flat_map records_of tiles));
    })

module _ (plan : Plan) (width : ℕ) (rows : Table) (one other : GroupsByKey) (maps : List GroupsByKey) where
  join_two : (shares : List Table) → length rows < 2 ^ 64 → AllZip (AreGroups plan) shares (one ∷ other ∷ maps) → All (IsAccepted plan width) rows → IsPermutation (together shares) rows
      → AreShared plan width rows (with_groups one other ∷ maps)
  join_two [] few z a p = absurd z
  join_two (s ∷ []) few z a p = absurd z.1
  join_two (s ∷ t ∷ shares) few z a p =
      let all = together (s ∷ t ∷ shares) in
      let fine : All (IsAccepted plan width) all = All-permutation (IsAccepted plan width) rows all (IsPermutation-sym all rows p) a in
      let mine = apart plan width s (t ++ together shares) fine in
      let its = apart plan width t (together shares) mine.1 in
      let size = length_permutation all rows p in
      let long = length-append s (t ++ together shares) in
      let long' = length-append t (together shares) in
      record {
        shares = (s ++ t) ∷ shares;
        each = (maps_join plan width s t one other mine.0 its.0 (omega (arith, size, long, long', few)) z.0 z.1.0, z.1.1);
        accepted = a;
        same = subst (λ l. IsPermutation l rows) (sym (append_assoc s t (together shares))) p;
      }

pub combine_keeps : CombineKeeps
combine_keeps plan width rows one other maps few h = join_two plan width rows one other maps h.shares few h.each h.accepted h.same
