-- Where the records end that are of the first one's width, and those after them.
use Rattle.std.proofs.Common.{◌≡◌, ◌≤◌, ◌<◌, ◌-◌, ◌+◌, ◌*◌, ◌∙◌, ℕ, zero, suc, List, [], ◌∷◌, ◌++◌, length, get_or, sym, arith, append-nil, zero-mul}
use Rattle.std.proofs.lemmas.List.{get_or_append_left, get_or-append_right, length-append}
use Rattle.std.proofs.lemmas.List.FromFn.{get_or-map-range_with_len, length-map-range_with_len, map-range_with_len_more}
use Rattle.csv.specs.Records.{prev}
use Rattle.csv.proofs.RecordFacts.{prev-first, prev-next}
use Rattle.csv_rows.specs.RowEnds.{multiples, row_ends_of}

multiples-length : (width even : ℕ) → length (multiples width even) ≡ even
multiples-length width even = length-map-range_with_len (λ n. n * width) 1 even

-- how many ends there are
pub ends-length : (width even : ℕ) (later : List ℕ) → length (row_ends_of width even later) ≡ even + length later
ends-length width even later =
    let all = length-append (multiples width even) later in
    let front = multiples-length width even in
    omega (arith, all, front)

-- one more record of the width
pub ends-more : (width even : ℕ) (later : List ℕ) → length later ≡ 0 → row_ends_of width (even + 1) later ≡ row_ends_of width even later ++ (((even + 1) * width) ∷ [])
ends-more width even [] none =
    let more = map-range_with_len_more (λ n. n * width) 1 even (even + 1) (omega arith) in
    rw (append-nil (multiples width (even + 1)), append-nil (multiples width even)) more
ends-more width even (end ∷ later) none = absurd (omega (arith, none))

-- the end of a record of the width, and of a later one
pub end-even : (width even : ℕ) (later : List ℕ) (row : ℕ) → row < even → get_or (row_ends_of width even later) row 0 ≡ (row + 1) * width
end-even width even later row lt =
    let front = multiples-length width even in
    let short : row < length (multiples width even) = omega (arith, front, lt) in
    rw (get_or_append_left (multiples width even) later 0 row short) (get_or-map-range_with_len (λ n. n * width) 1 even row (row + 1) 0 lt (omega arith))

pub end-later : (width even : ℕ) (later : List ℕ) (row d : ℕ) → even ≤ row → get_or (row_ends_of width even later) row d ≡ get_or later (row - even) d
end-later width even later row d le = get_or-append_right (multiples width even) later even row d (multiples-length width even) le

-- where a record after the first starts
start-next : (ends : List ℕ) (row before d : ℕ) → before + 1 ≡ row → row < length ends → prev 0 ends row ≡ get_or ends before d
start-next ends row before d e lt = rw (sym e) (prev-next 0 ends before d (rw e lt))

-- where a record starts that has only ones of the width before it, and where another
pub start-even : (width even : ℕ) (later : List ℕ) (row : ℕ) → row ≤ even → row < length (row_ends_of width even later) → prev 0 (row_ends_of width even later) row ≡ row * width
start-even width even later zero le lt = prev-first (row_ends_of width even later) ∙ sym (zero-mul width)
start-even width even later (suc row) le lt =
    let one : row + 1 ≡ suc row = omega arith in
    let below : row < even = omega (arith, le) in
    let end = rw one at (end-even width even later row below) in
    start-next (row_ends_of width even later) (suc row) row 0 one lt ∙ end

pub start-later : (width even : ℕ) (later : List ℕ) (row d : ℕ) → even < row → row < length (row_ends_of width even later)
    → prev 0 (row_ends_of width even later) row ≡ get_or later (row - even - 1) d
start-later width even later row d up lt =
    let one : (row - 1) + 1 ≡ row = omega (arith, up) in
    let le : even ≤ row - 1 = omega (arith, up) in
    let same : (row - 1) - even ≡ row - even - 1 = omega (arith, up) in
    start-next (row_ends_of width even later) row (row - 1) d one lt ∙ rw same at (end-later width even later (row - 1) d le)
