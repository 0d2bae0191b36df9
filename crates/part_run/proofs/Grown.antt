-- Maps of parts: as maps of shares, in any order of the rows, and as they grow.
use Rattle.std.proofs.Common.{◌≡◌, ◌<◌, ◌≤◌, ◌+◌, ◌^◌, ◌++◌, ◌==◌, ◌∙◌, ℕ, zero, suc, not, cond, List, [], ◌∷◌, All, None, Option, length, slice_index_or, refl, ap, sym, subst, arith}
use Rattle.std.specs.List.{AllZip}
use Rattle.std.specs.List.Sorted.{IsPermutation}
use Rattle.std.proofs.lemmas.List.Elements.{All-append, All-filter, filter-append}
use Rattle.std.proofs.lemmas.List.Filters.{length-filter_both}
use Rattle.std.proofs.lemmas.List.Sorted.{All-permutation}
use Rattle.par_model.specs.Key.{key_of}
use Rattle.par_model.specs.Plan.{Plan}
use Rattle.par_model.specs.declared.state.AggState.{AggState}
use Rattle.partial_agg.specs.Groups.{AreGroups, GroupsByKey, with_rows}
use Rattle.partial_agg.specs.Rows.{IsAccepted}
use Rattle.partial_agg.proofs.Adding.{maps_grow}
use Rattle.row_blocks.specs.Blocks.{Table}
use Rattle.gather_law.specs.Shares.{rows_in}
use Rattle.gather_law.proofs.KeyParts.{part_group}
use Rattle.partial_agg.proofs.AnyOrder.{in_any_order}
use Rattle.row_lists.specs.Parts.{part_of}
use Rattle.part_run.specs.Parted.{AreParted, PartsAnyOrder, PartsShare}
use Rattle.part_run.proofs.Spread.{shares_from, spread}

module _ (plan : Plan) where
  abbrev pub number : List (List ℕ) → ℕ
  number row = part_of (key_of plan row)

  -- ---- shares

  zipped : (c k : ℕ) (rows : Table) (maps : List GroupsByKey) → length maps ≡ c → ((i : ℕ) (d : GroupsByKey) → i < c → AreGroups plan (rows_in plan part_of (k + i) rows) (slice_index_or maps i d))
      → AllZip (AreGroups plan) (shares_from number c k rows) maps
  zipped zero k rows [] long each = tt
  zipped zero k rows (m ∷ maps) long each = absurd (omega (arith, long))
  zipped (suc c) k rows [] long each = absurd (omega (arith, long))
  zipped (suc c) k rows (m ∷ maps) long each = (
    subst (λ n. AreGroups plan (rows_in plan part_of n rows) m) (let e : k + 0 ≡ k = omega arith in e) (each 0 m (omega arith)),
    zipped c (suc k) rows maps (omega (arith, long)) (λ i d lt. subst (λ n. AreGroups plan (rows_in plan part_of n rows) (slice_index_or maps i d)) (let e : k + suc i ≡ suc k + i = omega arith in e) (each (suc i) d (omega (arith, lt)))),
  )

  -- each row has a part
  bounded : (rows : Table) → All (λ row. (0 ≤ number row) × (number row < 0 + 256)) rows
  bounded rows = λ k d lt. (omega arith, omega arith)

  -- ---- more rows

  few_in : (part : ℕ) (rows : Table) → length (rows_in plan part_of part rows) ≤ length rows
  few_in part rows = omega (arith, length-filter_both (λ row. number row == part) (λ row. not (number row == part)) (λ row. refl) rows)

  pub fine_in : (width part : ℕ) (rows : Table) → All (IsAccepted plan width) rows → All (IsAccepted plan width) (rows_in plan part_of part rows)
  fine_in width part rows h = All-filter (λ row. number row == part) (IsAccepted plan width) rows h

  -- rows more were added to the map of their part
  pub grown : (width part : ℕ) (before more : Table) (old new : GroupsByKey) → All (IsAccepted plan width) before → All (IsAccepted plan width) more → length before + length more < 2 ^ 64
      → AreGroups plan (rows_in plan part_of part before) old → new ≡ with_rows plan old (rows_in plan part_of part more) → AreGroups plan (rows_in plan part_of part (before ++ more)) new
  grown width part before more old new h k few are now =
      let xs = rows_in plan part_of part before in
      let ys = rows_in plan part_of part more in
      let low = few_in part before in
      let high = few_in part more in
      subst (λ (m : GroupsByKey). AreGroups plan (rows_in plan part_of part (before ++ more)) m) (sym now)
      (subst (λ (rows : Table). AreGroups plan rows (with_rows plan old ys)) (sym (filter-append (λ row. number row == part) before more))
      (maps_grow plan width xs ys old (fine_in width part before h) (fine_in width part more k) (omega (arith, low, high, few)) are))

  -- maps of parts grow by rows, each by those of its part
  pub parted_grow : (width : ℕ) (taken more : Table) (olds news : List GroupsByKey) → AreParted plan width taken olds → All (IsAccepted plan width) more → length taken + length more < 2 ^ 64 → length news ≡ 256
      → ((part : ℕ) (d : GroupsByKey) → part < 256 → slice_index_or news part d ≡ with_rows plan (slice_index_or olds part d) (rows_in plan part_of part more)) → AreParted plan width (taken ++ more) news
  parted_grow width taken more olds news are fine few many each = record {
    many = many;
    accepted = All-append (IsAccepted plan width) taken more are.accepted fine;
    each = λ part d low. grown width part taken more (slice_index_or olds part d) (slice_index_or news part d) are.accepted fine few (are.each part d low) (each part d low);
  }

  -- the map of a part does not depend on the order of the rows
  pub any_in : (width part : ℕ) (rows others : Table) (m : GroupsByKey) → All (IsAccepted plan width) rows → IsPermutation rows others → AreGroups plan (rows_in plan part_of part rows) m → AreGroups plan (rows_in plan part_of part others) m
  any_in width part rows others m h same are = record {
    each = λ q.
        are.each q ∙ part_group plan part_of part rows q
        ∙ ap (λ (o : Option AggState). cond (part_of q == part) o None) (sym (in_any_order plan width rows others q h same))
        ∙ sym (part_group plan part_of part others q);
  }

pub parts_share : PartsShare
parts_share plan width rows maps are = record {
  shares = shares_from (number plan) 256 0 rows;
  each = zipped plan 256 0 rows maps are.many (λ i d lt. subst (λ n. AreGroups plan (rows_in plan part_of n rows) (slice_index_or maps i d)) (let e : i ≡ 0 + i = omega arith in e) (are.each i d lt));
  accepted = are.accepted;
  same = spread (number plan) 256 0 rows (bounded plan rows);
}

pub parts_any_order : PartsAnyOrder
parts_any_order plan width rows others maps same few are = record {
  many = are.many;
  accepted = All-permutation (IsAccepted plan width) rows others same are.accepted;
  each = λ part d low. any_in plan width part rows others (slice_index_or maps part d) are.accepted same (are.each part d low);
}
