-- The chains that the table's entries and the links make.
use Rattle.std.proofs.Common.{◌≡◌, ◌<◌, ◌+◌, ◌-◌, ◌++◌, ℕ, not, List, [], ◌∷◌, All, get_or, length, map, replicate, set, drop, refl, ap, sym, subst, ◌∙◌, arith, length-drop}
use Rattle.std.proofs.lemmas.List.{get_or-drop, get_or_default}
use Rattle.std.proofs.lemmas.List.Elements.{All-filter}
use Rattle.std.proofs.lemmas.List.Sorted.{All-permutation}
use Rattle.csv_rows.specs.Records.{field_of}
use Rattle.row_blocks.specs.Blocks.{Table, numbers_of}
use Rattle.par_model.specs.Record.{is_null}
use Rattle.scan_claim.specs.Drawing.{below}
use Rattle.join_pairs.specs.Gathered.{AreApart, AreChains, IsCovered, linked}
use Rattle.join_pairs.specs.Join.{IsRow, keyed}
use Rattle.join_pairs.specs.declared.chains.Link.{Link}
use Rattle.join_pairs.proofs.Apart.{apart_rest, apart_rows}
use Rattle.row_blocks.proofs.RowNumbers.{at_below, length-below}

-- ---- links

pub linked-append : (xs ys : List Link) (befores : List ℕ) → linked (xs ++ ys) befores ≡ linked ys (linked xs befores)
linked-append [] ys befores = refl
linked-append (x ∷ xs) ys befores = linked-append xs ys (set befores x.row x.before)

-- ---- the chains of the table

-- no row was added yet
pub covered_chains : (records : Table) (column : ℕ) (last : List ℕ → ℕ) (links : List Link) (spilled : List ℕ) → IsCovered records column last links spilled
    → AreChains records column (map (λ (l : Link). l.row) links) last [] [] (linked links (replicate (length records) 0))
covered_chains records column last links spilled c = record {
  once = λ p q key e f. absurd (cc);
  chains = λ p key e. absurd (cc);
  absent = λ key none. c.chains key;
}

-- ---- the rows of the links, and those that were spilled

number_is_row : (records : Table) → All (IsRow records) (numbers_of records)
number_is_row records = λ k d low.
    let n = length records in
    let long : length (drop 1 (below n)) ≡ n - 1 = length-drop 1 (below n) ∙ ap (λ m. m - 1) (length-below n) in
    let within : 1 + k < n = omega (arith, low, long) in
    let is : get_or (drop 1 (below n)) k d ≡ 1 + k = get_or-drop 1 (below n) k d ∙ get_or_default (below n) (1 + k) d 0 (omega (arith, within, length-below n)) ∙ at_below n (1 + k) within in
    subst (IsRow records) (sym is) (omega arith, within)

-- they are rows of the table
pub covered_rows : (records : Table) (column : ℕ) (last : List ℕ → ℕ) (links : List Link) (spilled : List ℕ) → IsCovered records column last links spilled → All (IsRow records) (map (λ (l : Link). l.row) links ++ spilled)
covered_rows records column last links spilled c =
    let there = λ (row : ℕ). not (is_null (field_of records row column)) in
    All-permutation (IsRow records) (keyed records column (numbers_of records)) (map (λ (l : Link). l.row) links ++ spilled) c.all (All-filter there (IsRow records) (numbers_of records) (number_is_row records))

-- each of them is apart from all before it
pub covered_apart : (records : Table) (column : ℕ) (last : List ℕ → ℕ) (links : List Link) (spilled : List ℕ) → IsCovered records column last links spilled → AreApart (map (λ (l : Link). l.row) links) spilled
covered_apart records column last links spilled c =
    apart_rest [] (map (λ (l : Link). l.row) links) spilled (apart_rows (length records) (λ row. not (is_null (field_of records row column))) (map (λ (l : Link). l.row) links ++ spilled) c.all)
