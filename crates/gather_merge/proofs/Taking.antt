-- The rows of a block, taken one after the other.
use Rattle.std.proofs.Common.{◌≡◌, ◌<◌, ◌≤◌, ◌+◌, ◌*◌, ◌-◌, ◌++◌, ℕ, List, [], ◌∷◌, length, take, drop, get_or, All, min, ap, sym, ◌∙◌, arith, append_assoc, length-drop, length-take}
use Rattle.std.proofs.lemmas.List.{get_or-drop, get_or-take, take_all, take_more}
use Rattle.std.proofs.lemmas.List.Elements.{All-push, All-same}
use Rattle.csv_rows.specs.Records.{record_at}
use Rattle.row_blocks.specs.Blocks.{Table, block_numbers, block_rows}
use Rattle.par_model.specs.Plan.{Plan}
use Rattle.partial_agg.specs.Rows.{IsAccepted, header_width}
use Rattle.row_blocks.proofs.BlockRows.{length-block}
use Rattle.scan_claim.specs.Drawing.{below}
use Rattle.row_blocks.proofs.RowNumbers.{at_below, length-below}

module _ (records : Table) (block : ℕ) where
  length-numbers : length (block_numbers records block) ≡ length (block_rows records block)
  length-numbers =
      length-take 256 (drop (256 * block + 1) (below (length records)))
      ∙ ap (min 256) (length-drop (256 * block + 1) (below (length records)) ∙ ap (λ (n : ℕ). n - (256 * block + 1)) (length-below (length records))) ∙ sym (length-block records block)

  small : (at : ℕ) → at < length (block_rows records block) → at < 256
  small at h = omega (arith, h, length-block records block)

  there : (at : ℕ) → at < length (block_rows records block) → 256 * block + 1 + at < length records
  there at h = omega (arith, h, length-block records block)

  row_at : (at : ℕ) → at < length (block_rows records block) → get_or (block_rows records block) at [] ≡ record_at records (256 * block + 1 + at)
  row_at at h = get_or-take 256 (drop (256 * block + 1) records) at [] (small at h) ∙ get_or-drop (256 * block + 1) records at []

  number_at : (at : ℕ) → at < length (block_rows records block) → get_or (block_numbers records block) at 0 ≡ 256 * block + 1 + at
  number_at at h =
      get_or-take 256 (drop (256 * block + 1) (below (length records))) at 0 (small at h) ∙ get_or-drop (256 * block + 1) (below (length records)) at 0
      ∙ at_below (length records) (256 * block + 1 + at) (there at h)

-- of a block the first rows are accepted, and their numbers were taken
pub record TakenFirst (plan : Plan) (records : Table) (block at : ℕ) (old new : List ℕ) : Type 0 where
  pub within : at ≤ length (block_rows records block)
  pub accepted : All (IsAccepted plan (header_width records)) (take at (block_rows records block))
  pub taken : new ≡ old ++ take at (block_numbers records block)

module _ (plan : Plan) (records : Table) (block : ℕ) where
  pub taken_more : (at row : ℕ) (old mid new : List ℕ) → row ≡ 256 * block + 1 + at → at < length (block_rows records block) → TakenFirst plan records block at old mid
      → IsAccepted plan (header_width records) (record_at records row) → new ≡ mid ++ row ∷ [] → TakenFirst plan records block (at + 1) old new
  taken_more at row old mid new is h t a e =
      let rows = block_rows records block in
      let numbers = block_numbers records block in
      let is_row : get_or rows at [] ≡ record_at records row = row_at records block at h ∙ ap (record_at records) (sym is) in
      let more_rows : take (at + 1) rows ≡ take at rows ++ record_at records row ∷ [] = take_more rows at [] h ∙ ap (λ (r : List (List ℕ)). take at rows ++ r ∷ []) is_row in
      let within : at < length numbers = omega (arith, h, length-numbers records block) in
      let more_numbers : take (at + 1) numbers ≡ take at numbers ++ row ∷ [] = take_more numbers at 0 within ∙ ap (λ (n : ℕ). take at numbers ++ n ∷ []) (number_at records block at h ∙ sym is) in
      record {
        within = omega (arith, h);
        accepted = All-same (IsAccepted plan (header_width records)) (take (at + 1) rows) (take at rows ++ record_at records row ∷ []) more_rows
            (All-push (IsAccepted plan (header_width records)) (take at rows) (record_at records row) t.accepted a);
        taken = e ∙ ap (λ l. l ++ row ∷ []) t.taken ∙ append_assoc old (take at numbers) (row ∷ []) ∙ ap (λ l. old ++ l) (sym more_numbers);
      }

  pub taken_all : (at : ℕ) (old new : List ℕ) → length (block_rows records block) ≤ at → TakenFirst plan records block at old new
      → (new ≡ old ++ block_numbers records block) × All (IsAccepted plan (header_width records)) (block_rows records block)
  taken_all at old new h t = (
    t.taken ∙ ap (λ l. old ++ l) (take_all at (block_numbers records block) (omega (arith, h, length-numbers records block))),
    All-same (IsAccepted plan (header_width records)) (block_rows records block) (take at (block_rows records block)) (sym (take_all at (block_rows records block) h)) t.accepted,
  )
