-- The law: the merge of the participants' streams is the order of all rows.
use Rattle.std.proofs.Common.{◌++◌, ℕ, List, [], ◌∷◌, All, drop, sym, subst}
use Rattle.std.specs.List.{AllZip, flat_map}
use Rattle.std.specs.List.Sorted.{IsPermutation, IsSorted}
use Rattle.std.proofs.lemmas.List.Concat.{flat_map-append}
use Rattle.std.proofs.lemmas.List.Elements.{All-append, All-cons, All-nil}
use Rattle.std.proofs.lemmas.List.Sorted.{All-permutation, IsPermutation-append, IsPermutation-refl, IsPermutation-sym, IsPermutation-trans}
use Rattle.scan_claim.specs.Drawing.{below, flat}
use Rattle.par_model.specs.Plan.{Plan}
use Rattle.partial_agg.specs.Rows.{IsAccepted}
use Rattle.row_blocks.specs.Blocks.{Table, block_numbers, block_rows, numbers_of, numbers_of_blocks, rows_of_blocks}
use Rattle.row_blocks.proofs.Draws.{drawn_are_below}
use Rattle.row_blocks.proofs.BlockRows.{rows_all}
use Rattle.row_blocks.proofs.Permute.{flat_map-permutation}
use Rattle.gather_merge.specs.Law.{MergesAll}
use Rattle.gather_merge.specs.Order.{row_cmp}
use Rattle.gather_merge.specs.Streams.{IsStream}
use Rattle.row_blocks.proofs.RowNumbers.{numbers_all}

module _ (plan : Plan) (width : ℕ) (records : Table) where
  abbrev all_streams : List (List ℕ) → List ℕ
  all_streams streams = flat_map (λ stream. stream) streams

  numbers_given : (draws streams : List (List ℕ)) → AllZip (IsStream plan width records) draws streams → IsPermutation (numbers_of_blocks records (flat draws)) (all_streams streams)
  numbers_given [] [] z = IsPermutation-refl []
  numbers_given [] (s ∷ streams) z = absurd z
  numbers_given (ds ∷ draws) [] z = absurd z
  numbers_given (ds ∷ draws) (s ∷ streams) z =
      subst (λ l. IsPermutation l (s ++ all_streams streams)) (sym (flat_map-append (block_numbers records) ds (flat draws)))
      (IsPermutation-append (numbers_of_blocks records ds) s (numbers_of_blocks records (flat draws)) (all_streams streams) z.0.each (numbers_given draws streams z.1))

  rows_accepted : (draws streams : List (List ℕ)) → AllZip (IsStream plan width records) draws streams → All (IsAccepted plan width) (rows_of_blocks records (flat draws))
  rows_accepted [] [] z = All-nil (IsAccepted plan width)
  rows_accepted [] (s ∷ streams) z = absurd z
  rows_accepted (ds ∷ draws) [] z = absurd z
  rows_accepted (ds ∷ draws) (s ∷ streams) z =
      subst (All (IsAccepted plan width)) (sym (flat_map-append (block_rows records) ds (flat draws)))
      (All-append (IsAccepted plan width) (rows_of_blocks records ds) (rows_of_blocks records (flat draws)) z.0.accepted (rows_accepted draws streams z.1))

  all_rise : (draws streams : List (List ℕ)) → AllZip (IsStream plan width records) draws streams → All (IsSorted (row_cmp plan records)) streams
  all_rise [] [] z = All-nil (IsSorted (row_cmp plan records))
  all_rise [] (s ∷ streams) z = absurd z
  all_rise (ds ∷ draws) [] z = absurd z
  all_rise (ds ∷ draws) (s ∷ streams) z = All-cons (IsSorted (row_cmp plan records)) s streams z.0.rising (all_rise draws streams z.1)

pub merges : MergesAll
merges plan width records draws streams rows n z m once cover =
    let same = drawn_are_below n (flat draws) once in
    let all_numbers : IsPermutation (numbers_of_blocks records (flat draws)) (numbers_of records) =
    subst (IsPermutation (numbers_of_blocks records (flat draws))) (numbers_all records n cover) (flat_map-permutation (block_numbers records) (flat draws) (below n) same) in
    let all_rows : IsPermutation (rows_of_blocks records (flat draws)) (drop 1 records) =
    subst (IsPermutation (rows_of_blocks records (flat draws))) (rows_all records n cover) (flat_map-permutation (block_rows records) (flat draws) (below n) same) in
    let given = numbers_given plan width records draws streams z in
    let streamed = flat_map (λ stream. stream) streams in (
      All-permutation (IsAccepted plan width) (rows_of_blocks records (flat draws)) (drop 1 records) all_rows (rows_accepted plan width records draws streams z),
      record {
        each = IsPermutation-trans (numbers_of records) (numbers_of_blocks records (flat draws)) rows (IsPermutation-sym (numbers_of_blocks records (flat draws)) (numbers_of records) all_numbers)
            (IsPermutation-trans (numbers_of_blocks records (flat draws)) streamed rows given m.each);
        rising = m.rising (all_rise plan width records draws streams z);
      },
    )
