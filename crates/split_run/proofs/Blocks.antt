-- The rows of the blocks of a store.
use Rattle.std.proofs.Common.{◌≡◌, ◌<◌, ◌+◌, ◌*◌, ◌++◌, ℕ, List, [], ◌∷◌, All, None, Some, length, drop, get_or, ap, sym, ◌∙◌, arith, append-nil, length-drop}
use Rattle.std.proofs.lemmas.List.{get_or-drop}
use Rattle.std.proofs.lemmas.List.Concat.{flat_map-append}
use Rattle.std.proofs.lemmas.List.Elements.{All-append, All-same}
use Rattle.csv_rows.specs.Records.{record_at}
use Rattle.par_model.specs.Plan.{Plan}
use Rattle.par_model.specs.Refuse.{refusal}
use Rattle.partial_agg.specs.Blocks.{Stopped}
use Rattle.partial_agg.specs.Groups.{GroupsByKey, with_rows}
use Rattle.partial_agg.specs.Rows.{IsAccepted, header_width}
use Rattle.partial_agg.specs.declared.map.BlockAnswer.{BlockAnswer}
use Rattle.partial_agg.specs.declared.map.BlockAnswer.TheVariants as answer
use Rattle.partial_agg.proofs.Blocks.{with_rows-append}
use Rattle.row_blocks.proofs.BlockRows.{length-block}
use Rattle.row_blocks.specs.Blocks.{Table, block_rows, rows_of_blocks}
use Rattle.split_run.specs.Causes.{IsCause}

module _ (records : Table) where
  more_blocks : (draws draws' : List ℕ) (b : ℕ) → draws' ≡ draws ++ b ∷ [] → rows_of_blocks records draws' ≡ rows_of_blocks records draws ++ block_rows records b
  more_blocks draws draws' b e =
      ap (rows_of_blocks records) e ∙ flat_map-append (block_rows records) draws (b ∷ []) ∙ ap (λ (l : Table). rows_of_blocks records draws ++ l) (append-nil (block_rows records b))

module _ (plan : Plan) (records : Table) where
  abbrev Accepted : Table → Type 0
  Accepted rows = All (IsAccepted plan (header_width records)) rows

  -- one block more
  pub accepted_more : (draws draws' : List ℕ) (b : ℕ) → draws' ≡ draws ++ b ∷ [] → Accepted (rows_of_blocks records draws) → Accepted (block_rows records b) → Accepted (rows_of_blocks records draws')
  accepted_more draws draws' b e h k =
      All-same (IsAccepted plan (header_width records)) (rows_of_blocks records draws') (rows_of_blocks records draws ++ block_rows records b) (more_blocks records draws draws' b e)
      (All-append (IsAccepted plan (header_width records)) (rows_of_blocks records draws) (block_rows records b) h k)

  pub added_more : (draws draws' : List ℕ) (b : ℕ) (old mid new : GroupsByKey) → draws' ≡ draws ++ b ∷ [] → mid ≡ with_rows plan old (rows_of_blocks records draws) → new ≡ with_rows plan mid (block_rows records b)
      → new ≡ with_rows plan old (rows_of_blocks records draws')
  added_more draws draws' b old mid new e before here =
      here ∙ ap (λ (m : GroupsByKey). with_rows plan m (block_rows records b)) before ∙ sym (with_rows-append plan old (rows_of_blocks records draws) (block_rows records b))
      ∙ ap (with_rows plan old) (sym (more_blocks records draws draws' b e))

  -- a block that stopped has a refused row, if it names one
  pub stopped_cause : (block : ℕ) (old new : GroupsByKey) (why : BlockAnswer) → Stopped plan records block old new why → IsCause plan records why
  stopped_cause block old new (answer.Row row cause item) s = λ accepted.
      let at = 256 * block + s.count in
      let number = 256 * block + 1 + s.count in
      let place : 1 + at ≡ number = omega arith in
      let low : at < length (drop 1 records) = omega (arith, length-block records block, s.stops, length-drop 1 records) in
      let fine : refusal plan (header_width records) (get_or (drop 1 records) at []) ≡ None = accepted at [] low in
      let same : get_or (drop 1 records) at [] ≡ record_at records number = get_or-drop 1 records at [] ∙ ap (record_at records) place in
      let both : None ≡ Some (record { cause = cause; item = item }) = sym fine ∙ ap (refusal plan (header_width records)) same ∙ s.explains.1 in
      cc both
  stopped_cause block old new answer.Memory s = tt
