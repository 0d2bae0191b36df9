-- A row of some pieces by its number over all of them.
use Rattle.std.proofs.Common.{◌≡◌, ◌<◌, ◌≤◌, ◌+◌, ◌-◌, ◌++◌, ◌∙◌, inl, inr, ℕ, zero, suc, List, [], ◌∷◌, length, take, drop, get_or, map, ap, sym, subst, arith, append-nil, append_assoc, length-append, take-append-drop}
use Rattle.std.proofs.lemmas.List.{drop_more, get_or-append-add, get_or_append_left, map-append, take_more}
use Rattle.std.proofs.lemmas.List.Concat.{flat_map-append}
use Rattle.std.proofs.lemmas.Grind.{get_or_after_one}
use Rattle.csv_rows.specs.Records.{record_at, records_of}
use Rattle.csv_rows.specs.declared.cleaning.Reading.{Reading}
use Rattle.row_blocks.specs.Blocks.{Table}
use Rattle.row_windows.specs.Seams.{BeginsLine}
use Rattle.row_windows.specs.Stretch.{Stretch}
use Rattle.gather_law.specs.Shares.{together}
use Rattle.split_run.specs.Pieces.{AreUnder, piece_records, piece_rows, rows_of}
use Rattle.text_lines.proofs.Ends.{no_records}
use Rattle.stream_groups.specs.Begins.{IsLined, lines_of, piece_at}
use Rattle.stream_groups.proofs.ReadAs.{rows_count}

-- a piece by its number
pub same_there : (pieces : List Stretch) (at : ℕ) (p : Stretch) → at < length pieces → p ≡ get_or pieces at p → p ≡ piece_at pieces at
same_there [] at p low is = absurd (omega (arith, low))
same_there (q ∷ pieces) zero p low is = is
same_there (q ∷ pieces) (suc at) p low is = same_there pieces at p (omega (arith, low)) is

-- lines of a piece are lines of all
pub some_lines : (pieces : List Stretch) (at n : ℕ) → at < length pieces → n < length (piece_at pieces at).lines → 0 < length (lines_of pieces)
some_lines [] at n low some = absurd (omega (arith, low))
some_lines (p ∷ pieces) zero n low some = omega (arith, some, length-append p.lines (lines_of pieces))
some_lines (p ∷ pieces) (suc at) n low some = omega (arith, some_lines pieces at n (omega (arith, low)) some, length-append p.lines (lines_of pieces))

-- one that has a row has lines
pub begins_if : (reading : Reading) (p : Stretch) → IsLined reading p → 0 < length (piece_rows p) → BeginsLine p.lines
begins_if reading p lined some = elim lined.begins [
  | inl none ↦ absurd (omega (arith, some, rows_count reading p lined, ap (λ (l : List ℕ). length (records_of l)) none, ap length no_records))
  | inr line ↦ line
]

-- a row of a window is behind the rows before the window
pub row_there : (header : List (List ℕ)) (rows wrows more : Table) (row : ℕ) → 1 ≤ row → row < length (header ∷ wrows)
    → record_at (header ∷ ((rows ++ wrows) ++ more)) (length rows + row) ≡ record_at (header ∷ wrows) row
row_there header rows wrows more row some within =
    let all = header ∷ ((rows ++ wrows) ++ more) in
    let k = row - 1 in
    let short : k < length wrows = omega (arith, some, within) in
    let at : 1 + (length rows + k) ≡ length rows + row = omega (arith, some) in
    let here : 1 + k ≡ row = omega (arith, some) in
    ap (record_at all) (sym at)
    ∙ (sym (get_or_after_one all (length rows + k) [])
    ∙ (get_or_append_left (rows ++ wrows) more [] (length rows + k) (omega (arith, short, length-append rows wrows))
    ∙ (get_or-append-add rows wrows k []
    ∙ (get_or_after_one (header ∷ wrows) k [] ∙ ap (record_at (header ∷ wrows)) here))))

rows_apart : (xs ys : List Stretch) → rows_of (xs ++ ys) ≡ rows_of xs ++ rows_of ys
rows_apart xs ys = ap together (map-append piece_rows xs ys) ∙ flat_map-append (λ (l : Table). l) (map piece_rows xs) (map piece_rows ys)

rows_more : (xs : List Stretch) (p : Stretch) → rows_of (xs ++ p ∷ []) ≡ rows_of xs ++ piece_rows p
rows_more xs p = rows_apart xs (p ∷ []) ∙ ap (λ (l : Table). rows_of xs ++ l) (append-nil (piece_rows p))

-- a piece by its place
module _ (pieces : List Stretch) (at : ℕ) (p : Stretch) (low : at < length pieces) (is : p ≡ get_or pieces at p) where
  pub count_next : length (rows_of (take (at + 1) pieces)) ≡ length (rows_of (take at pieces)) + length (piece_rows p)
  count_next =
      let next : take (at + 1) pieces ≡ take at pieces ++ p ∷ [] = take_more pieces at p low ∙ ap (λ (q : Stretch). take at pieces ++ q ∷ []) (sym is) in
      ap (λ (l : List Stretch). length (rows_of l)) next ∙ (ap length (rows_more (take at pieces) p) ∙ length-append (rows_of (take at pieces)) (piece_rows p))

  pub under_at : (header : List (List ℕ)) → AreUnder header pieces → piece_records p ≡ header ∷ piece_rows p
  under_at header under = subst (λ (q : Stretch). piece_records q ≡ header ∷ piece_rows q) (sym is) (under at p low)

  rows_are : rows_of pieces ≡ (rows_of (take at pieces) ++ piece_rows p) ++ rows_of (drop (at + 1) pieces)
  rows_are =
      let rest = drop (at + 1) pieces in
      let cut : drop at pieces ≡ p ∷ rest = drop_more pieces at p low ∙ ap (λ (q : Stretch). q ∷ rest) (sym is) in
      let are : pieces ≡ take at pieces ++ p ∷ rest = sym (take-append-drop at pieces) ∙ ap (λ (l : List Stretch). take at pieces ++ l) cut in
      ap rows_of are ∙ rows_apart (take at pieces) (p ∷ rest) ∙ sym (append_assoc (rows_of (take at pieces)) (piece_rows p) (rows_of rest))

  pub row_in : (row : ℕ) → 1 ≤ row → row ≤ length (piece_rows p) → (header : List (List ℕ)) → AreUnder header pieces
      → record_at (piece_records p) row ≡ record_at (header ∷ rows_of pieces) (length (rows_of (take at pieces)) + row)
  row_in row some within header under =
      let before = rows_of (take at pieces) in
      let rest = rows_of (drop (at + 1) pieces) in
      ap (λ (l : Table). record_at l row) (under_at header under)
      ∙ sym (row_there header before (piece_rows p) rest row some (omega (arith, within)))
      ∙ ap (λ (l : Table). record_at (header ∷ l) (length before + row)) (sym rows_are)
