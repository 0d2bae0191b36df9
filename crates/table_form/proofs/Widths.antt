-- Sizes of columns that grow row by row.
use Rattle.std.proofs.Common.{◌≡◌, ◌≢◌, ◌<◌, ◌≤◌, ◌+◌, ◌-◌, ◌∙◌, ◌∷◌, ◌++◌, [], ℕ, zero, suc, List, ap, arith, below_more, get_or, get_or-set_other, get_or-set_same, length, map, max, refl, sym, take}
use Rattle.std.proofs.Math.ListN.{length-set, set}
use Rattle.std.proofs.lemmas.List.{get_or-replicate, length-replicate}
use Rattle.std.proofs.lemmas.List.FromFn.{get_or-map-range_with_len, length-map-range_with_len}
use Rattle.std.proofs.lemmas.Grind.{same_number_lists}
use Rattle.std.specs.Prelude.{replicate}
use Rattle.csv.specs.Writing.{read_back}
use Rattle.par_model.specs.Table.{table_text}
use Rattle.table_form.specs.Aligned.{characters, column_size, column_sizes, shown}
use Rattle.table_form.specs.Sizes.{AreWide, AreWidened}
use Rattle.table_form.proofs.Walks.{Reads, Table, first-read, no-rows, some-rows}

-- how many characters a row has in a column
abbrev pub size_at : List (List ℕ) → ℕ → ℕ
size_at row at = characters (shown (get_or row at []))

-- the sizes before a place are those for a row, and the others are as they were
pub record WidensTo (old new : List ℕ) (row : List (List ℕ)) (n : ℕ) : Type 0 where
  pub count : length new ≡ length old
  pub done : (at : ℕ) → at < n → get_or new at 0 ≡ max (get_or old at 0) (size_at row at)
  pub later : (at : ℕ) → n ≤ at → get_or new at 0 ≡ get_or old at 0

pub widens-init : (old : List ℕ) (row : List (List ℕ)) → WidensTo old old row 0
widens-init old row = record { count = refl; done = λ at lt. absurd (omega (arith, lt)); later = λ at le. refl }

pub widens-end : (old new : List ℕ) (row : List (List ℕ)) (n : ℕ) → length old ≤ n → WidensTo old new row n → AreWidened old new row
widens-end old new row n le w = record { count = w.count; each = λ at lt. w.done at (omega (arith, le, lt)) }

-- what is left of a table's text, and the sizes by the rows before it
abbrev pub Widens : List ℕ → List ℕ → List ℕ → List ℕ → Type 0
Widens whole left start sizes = (table : Table) → whole ≡ table_text table → (rest : Table) × (left ≡ table_text rest) × (length sizes ≡ length start)
    × ((at : ℕ) → at < length start → max (get_or sizes at 0) (column_size at (map read_back rest)) ≡ max (get_or start at 0) (column_size at (map read_back table)))

pub widen-init : (whole start : List ℕ) → Widens whole whole start start
widen-init whole start table is = (table, is, refl, λ at lt. refl)

max-assoc : (a b c : ℕ) → max (max a b) c ≡ max a (max b c)
max-assoc a b c = omega arith

max-zero : (a : ℕ) → max a 0 ≡ a
max-zero a = omega arith

widen-step : (left next start before after : List ℕ) (fields : List (List ℕ)) (rest : Table) (all : ℕ → ℕ) → 0 < length left → Reads left fields next → AreWidened before after fields → left ≡ table_text rest → length before ≡ length start
    → ((at : ℕ) → at < length start → max (get_or before at 0) (column_size at (map read_back rest)) ≡ all at)
    → (more : Table) × (next ≡ table_text more) × (length after ≡ length start) × ((at : ℕ) → at < length start → max (get_or after at 0) (column_size at (map read_back more)) ≡ all at)
widen-step left next start before after fields rest all some reads widened is count each =
    some-rows left rest some is (λ row more rest_is.
    let first = first-read left next fields row more reads (is ∙ ap table_text rest_is) in (
      more,
      first.1,
      widened.count ∙ count,
      λ at lt.
          let here : at < length before = omega (arith, lt, count) in
          ap (λ (n : ℕ). max n (column_size at (map read_back more))) (widened.each at here ∙ ap (λ (f : List (List ℕ)). max (get_or before at 0) (size_at f at)) first.0)
          ∙ max-assoc (get_or before at 0) (size_at (read_back row) at) (column_size at (map read_back more))
          ∙ ap (λ (t : Table). max (get_or before at 0) (column_size at (map read_back t))) (sym rest_is) ∙ each at lt,
    ))

-- one row more
pub widen-more : (whole left next start before after : List ℕ) (fields : List (List ℕ)) → 0 < length left → Reads left fields next → AreWidened before after fields → Widens whole left start before → Widens whole next start after
widen-more whole left next start before after fields some reads widened w table is =
    let so_far = w table is in
    widen-step left next start before after fields so_far.0 (λ at. max (get_or start at 0) (column_size at (map read_back table))) some reads widened so_far.1 so_far.2 so_far.3

-- all rows
pub widen-end : (whole left start sizes : List ℕ) → length left ≡ 0 → Widens whole left start sizes → (table : Table) → whole ≡ table_text table → AreWide start sizes (map read_back table)
widen-end whole left start sizes none w table is =
    let so_far = w table is in
    let no_more = no-rows left so_far.0 none so_far.1 in
    record {
      count = so_far.2;
      each = λ at lt. sym (max-zero (get_or sizes at 0)) ∙ ap (λ (t : Table). max (get_or sizes at 0) (column_size at (map read_back t))) (sym no_more) ∙ so_far.3 at lt;
    }

-- the sizes of a header, and then of its rows, are those of the table
pub sizes-are : (zeros first all : List ℕ) (header fields : List (List ℕ)) (rows : Table) → zeros ≡ replicate (length header) 0 → fields ≡ header → AreWidened zeros first fields → AreWide first all rows → all ≡ column_sizes header rows
sizes-are zeros first all header fields rows zeros_are fields_are widened wide =
    let zero_count : length zeros ≡ length header = ap length zeros_are ∙ length-replicate (length header) 0 in
    let count : length all ≡ length header = wide.count ∙ widened.count ∙ zero_count in
    same_number_lists all (column_sizes header rows) (count ∙ sym (length-map-range_with_len (λ at. column_size at (header ∷ rows)) 0 (length header))) (λ at lt.
    let here : at < length header = omega (arith, lt, count) in
    let there : at < length first = omega (arith, here, widened.count, zero_count) in
    let within : at < length zeros = omega (arith, here, zero_count) in
    let zero : get_or zeros at 0 ≡ 0 = ap (λ (l : List ℕ). get_or l at 0) zeros_are ∙ get_or-replicate (length header) at 0 0 here in
    let place : 0 + at ≡ at = omega arith in
    wide.each at there
    ∙ ap (λ (n : ℕ). max n (column_size at rows)) (widened.each at within ∙ ap (λ (n : ℕ). max n (size_at fields at)) zero ∙ ap (λ (f : List (List ℕ)). max 0 (size_at f at)) fields_are ∙ max-none (size_at header at))
    ∙ sym (get_or-map-range_with_len (λ k. column_size k (header ∷ rows)) 0 (length header) at at 0 here place))
  where
    max-none : (n : ℕ) → max 0 n ≡ n
    max-none n = omega arith

take-none : (n : ℕ) (xs : List ℕ) → xs ≡ [] → take n xs ≡ []
take-none zero xs is = refl
take-none (suc n) [] is = refl
take-none (suc n) (x ∷ xs) is = cc

-- zeros in place of nothing
pub zeros-are : (n size : ℕ) (none : List ℕ) → none ≡ [] → size ≡ 0 → take n none ++ replicate (n - size) 0 ≡ replicate n 0
zeros-are n size none is size_is =
    let count : n - size ≡ n = omega (arith, size_is) in
    ap (λ (l : List ℕ). l ++ replicate (n - size) 0) (take-none n none is) ∙ ap (λ (k : ℕ). replicate k 0) count

-- one column more
pub widens-next : (old new next : List ℕ) (row : List (List ℕ)) (n size : ℕ) → size ≡ size_at row n → n < length old → next ≡ set new n (max (get_or new n 0) size) → WidensTo old new row n → WidensTo old next row (n + 1)
widens-next old new next row n size size_is lt is w =
    let here : n < length new = omega (arith, lt, w.count) in
    let value = max (get_or new n 0) size in
    record {
      count = ap length is ∙ length-set new n value ∙ w.count;
      done = below_more (λ at. get_or next at 0 ≡ max (get_or old at 0) (size_at row at)) n
          (λ at below. let other : at ≢ n = omega (arith, below) in ap (λ (l : List ℕ). get_or l at 0) is ∙ get_or-set_other new n at value 0 other ∙ w.done at below)
          (ap (λ (l : List ℕ). get_or l n 0) is ∙ get_or-set_same new n value 0 here ∙ ap (λ (k : ℕ). max k size) (w.later n (omega arith)) ∙ ap (max (get_or old n 0)) size_is);
      later = λ at le. let other : at ≢ n = omega (arith, le) in ap (λ (l : List ℕ). get_or l at 0) is ∙ get_or-set_other new n at value 0 other ∙ w.later at (omega (arith, le));
    }
