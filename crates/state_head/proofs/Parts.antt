-- The parts of a stretch, in front of other bytes.
use Rattle.std.proofs.Common.{◌≡◌, ◌<◌, ◌≤◌, ◌^◌, ◌++◌, ◌∙◌, ℕ, List, ap, append_assoc, arith, refl, sym}
use Rattle.state_file.specs.Number.{number_bytes}
use Rattle.state_head.specs.Cover.{AreRows, IsRefusedRow, place_bytes, rows_bytes}
use Rattle.state_head.specs.declared.cover.Place.{Place}
use Rattle.state_head.specs.declared.cover.RefusedRow.{RefusedRow}
use Rattle.state_head.specs.declared.cover.Rows.{Rows}
use Rattle.state_head.specs.declared.cover.Rows.TheVariants.{Counted, Refused}

in_front : (a b c d rest : List ℕ) → (a ++ (b ++ (c ++ d))) ++ rest ≡ a ++ (b ++ (c ++ (d ++ rest)))
in_front a b c d rest = simp append_assoc

pub place_written : (bytes rest : List ℕ) (p : Place) → bytes ≡ place_bytes p ++ rest → bytes ≡ number_bytes p.source ++ (number_bytes p.from ++ (number_bytes p.to ++ (number_bytes p.size ++ rest)))
unfolding place_bytes
place_written bytes rest p e = e ∙ in_front (number_bytes p.source) (number_bytes p.from) (number_bytes p.to) (number_bytes p.size) rest

pub place_read : (bytes a b c rest : List ℕ) (source from to size : ℕ) → bytes ≡ number_bytes source ++ a → a ≡ number_bytes from ++ b → b ≡ number_bytes to ++ c → c ≡ number_bytes size ++ rest
    → bytes ≡ place_bytes (record { source = source; from = from; to = to; size = size }) ++ rest
unfolding place_bytes
place_read bytes a b c rest source from to size e f g h =
    e ∙ ap (λ (bs : List ℕ). number_bytes source ++ bs) (f ∙ ap (λ (bs : List ℕ). number_bytes from ++ bs) (g ∙ ap (λ (bs : List ℕ). number_bytes to ++ bs) h))
    ∙ sym (in_front (number_bytes source) (number_bytes from) (number_bytes to) (number_bytes size) rest)

-- a place by its numbers
pub place_same : (source from to size : ℕ) (p : Place) → source ≡ p.source → from ≡ p.from → to ≡ p.to → size ≡ p.size → record { source = source; from = from; to = to; size = size } ≡ p
place_same source from to size p e f g h =
    ap (λ (n : ℕ). the (record { source = n; from = from; to = to; size = size })) e ∙ ap (λ (n : ℕ). the (record { source = p.source; from = n; to = to; size = size })) f
    ∙ ap (λ (n : ℕ). the (record { source = p.source; from = p.from; to = n; size = size })) g ∙ ap (λ (n : ℕ). the (record { source = p.source; from = p.from; to = p.to; size = n })) h
  where
    the : Place → Place
    the q = q

-- the number that rows begin with, and what comes after it
abbrev pub row_of : Rows → ℕ
row_of (Counted rows) = 0
row_of (Refused why) = why.row

abbrev pub after_row : Rows → List ℕ
after_row (Counted rows) = number_bytes rows
after_row (Refused why) = number_bytes why.cause ++ number_bytes why.item

pub rows_first : (rows : Rows) (bytes rest : List ℕ) → bytes ≡ rows_bytes rows ++ rest → bytes ≡ number_bytes (row_of rows) ++ (after_row rows ++ rest)
unfolding rows_bytes
rows_first (Counted rows) bytes rest e = e ∙ append_assoc (number_bytes 0) (number_bytes rows) rest
rows_first (Refused why) bytes rest e = e ∙ append_assoc (number_bytes why.row) (number_bytes why.cause ++ number_bytes why.item) rest

pub row_small : (rows : Rows) → AreRows rows → row_of rows ≤ 2 ^ 50
row_small (Counted rows) are = omega arith
row_small (Refused why) are = are.last

-- rows that begin with 0 are counted
pub record IsCounted (rows : Rows) (after rest : List ℕ) : Type 0 where
  pub count : ℕ
  pub is : rows ≡ Counted count
  pub few : count ≤ 2 ^ 50
  pub left : after ≡ number_bytes count ++ rest

pub counted_written : (rows : Rows) (row : ℕ) (after rest : List ℕ) → AreRows rows → row ≡ 0 → row ≡ row_of rows → after ≡ after_row rows ++ rest → IsCounted rows after rest
counted_written (Counted rows) row after rest are none same e = record { count = rows; is = refl; few = are; left = e }
counted_written (Refused why) row after rest are none same e = let first = are.first in absurd (omega arith)

-- and others name a refused one
pub record NamesRow (rows : Rows) (row : ℕ) (after rest : List ℕ) : Type 0 where
  pub why : RefusedRow
  pub is : rows ≡ Refused why
  pub refused : IsRefusedRow why
  pub same : why.row ≡ row
  pub left : after ≡ (number_bytes why.cause ++ number_bytes why.item) ++ rest

pub refused_written : (rows : Rows) (row : ℕ) (after rest : List ℕ) → AreRows rows → (row ≡ 0 → ⊥) → row ≡ row_of rows → after ≡ after_row rows ++ rest → NamesRow rows row after rest
refused_written (Counted rows) row after rest are some same e = absurd (some same)
refused_written (Refused why) row after rest are some same e = record { why = why; is = refl; refused = are; same = sym same; left = e }

pub counted_read : (bytes after rest : List ℕ) (row rows : ℕ) → bytes ≡ number_bytes row ++ after → row ≡ 0 → after ≡ number_bytes rows ++ rest → bytes ≡ rows_bytes (Counted rows) ++ rest
unfolding rows_bytes
counted_read bytes after rest row rows e none f =
    e ∙ ap (λ (n : ℕ). number_bytes n ++ after) none ∙ ap (λ (bs : List ℕ). number_bytes 0 ++ bs) f ∙ sym (append_assoc (number_bytes 0) (number_bytes rows) rest)

pub refused_read : (bytes after rest : List ℕ) (row : ℕ) (why : RefusedRow) → bytes ≡ number_bytes row ++ after → why.row ≡ row → after ≡ (number_bytes why.cause ++ number_bytes why.item) ++ rest → bytes ≡ rows_bytes (Refused why) ++ rest
unfolding rows_bytes
refused_read bytes after rest row why e same f =
    e ∙ ap (λ (n : ℕ). number_bytes n ++ after) (sym same) ∙ ap (λ (bs : List ℕ). number_bytes why.row ++ bs) f
    ∙ sym (append_assoc (number_bytes why.row) (number_bytes why.cause ++ number_bytes why.item) rest)
