-- Tiles of a source that touch, as one.
use Rattle.std.proofs.Common.{◌≡◌, ◌<◌, ◌≤◌, ◌+◌, ◌-◌, ◌++◌, ◌∙◌, ◌⊎◌, inl, inr, ℕ, zero, suc, List, [], ◌∷◌, ap, arith, drop, length, map, refl, subst, sym, take}
use Rattle.std.proofs.Math.Seq.{take-add}
use Rattle.std.proofs.lemmas.List.{drop-drop, map-append, take_all}
use Rattle.csv.specs.Reading.{strip_bom}
use Rattle.csv_rows.specs.Cuts.{IsCut}
use Rattle.csv_rows.specs.Readings.{as_read, records_as}
use Rattle.csv_rows.specs.Records.{records_of}
use Rattle.csv_rows.specs.declared.cleaning.Reading.{Reading}
use Rattle.csv_rows.proofs.Machine.{all_from, records-all}
use Rattle.row_blocks.specs.Blocks.{Table}
use Rattle.row_windows.specs.Seams.{BeginsLine, IsSeam}
use Rattle.row_windows.specs.Stretch.{between}
use Rattle.row_windows.proofs.Seams.{records_add_up}
use Rattle.state_head.specs.declared.cover.Place.{Place}
use Rattle.state_law.specs.Sources.{IsTile, Work, bytes_at, comma_text, rows_at, without_header}
use Rattle.state_law.proofs.Cuts.{cut_append}

-- ---- bytes between places of a text

between_parts : (from mid to : ℕ) (t : List ℕ) → from ≤ mid → mid ≤ to → between from to t ≡ between from mid t ++ between mid to t
between_parts from mid to t low high =
    let size : to - from ≡ (mid - from) + (to - mid) = omega (arith, low, high) in
    let at : from + (mid - from) ≡ mid = omega (arith, low) in
    ap (λ (n : ℕ). take n (drop from t)) size ∙ take-add (mid - from) (to - mid) (drop from t)
    ∙ ap (λ (l : List ℕ). take (mid - from) (drop from t) ++ take (to - mid) l) (drop-drop (mid - from) from t ∙ ap (λ (n : ℕ). drop n t) at)

no_bytes : (from to : ℕ) (t : List ℕ) → to ≤ from → between from to t ≡ []
no_bytes from to t le =
    let none : to - from ≡ 0 = omega (arith, le) in
    ap (λ (n : ℕ). take n (drop from t)) none

begins_longer : (back more : List ℕ) → BeginsLine back → BeginsLine (back ++ more)
begins_longer [] more b = absurd (omega (arith, b.some))
begins_longer (c ∷ back) more b = record { some = omega arith; is = b.is }

-- ---- records that are read in some way

-- no bytes have no records
none_of_none : records_of [] ≡ []
unfolding strip_bom all_from
none_of_none = records-all []

no_records : (reading : Reading) → records_as reading [] ≡ []
no_records reading = ap (map (map (as_read reading))) none_of_none

-- those of a text that is cut at a seam are those of its two parts
pub as_add_up : (reading : Reading) (front back : List ℕ) → IsSeam front back → records_as reading (front ++ back) ≡ records_as reading front ++ records_as reading back
as_add_up reading front back seam = ap (map (map (as_read reading))) (records_add_up front back seam) ∙ map-append (map (as_read reading)) (records_of front) (records_of back)

-- ---- without the header

pub later_rows : (from : ℕ) (records : Table) → 0 < from → without_header from records ≡ records
later_rows zero records some = absurd (omega (arith, some))
later_rows (suc from) records some = refl

headed_rows : (from : ℕ) (one more : Table) → (from ≡ 0 → 0 < length one) → without_header from (one ++ more) ≡ without_header from one ++ more
headed_rows zero [] more some = absurd (omega (arith, some refl))
headed_rows zero (x ∷ one) more some = refl
headed_rows (suc from) one more some = refl

none_headed : (header : List (List ℕ)) (rows : Table) → [] ≡ header ∷ rows → ⊥
none_headed header rows e = omega (arith, ap length e)

-- ---- a tile and the one that begins where it ends

-- the two as one
abbrev pub joined_place : Place → Place → Place
joined_place p q = record { source = p.source; from = p.from; to = q.to; size = p.size }

module _ (w : Work) (p q : Place) (one : IsTile w p) (other : IsTile w q) (source_is : p.source ≡ q.source) (size_is : p.size ≡ q.size) (at : p.to ≡ q.from) where
  -- the second is not the source's start: the first has its header
  later : 0 < q.from
  later = go (q.from) refl
    where
      go : (from : ℕ) → q.from ≡ from → 0 < from
      go zero e =
          let low : p.to ≡ 0 = at ∙ e in
          let order = one.order in
          let start : p.from ≡ 0 = omega (arith, low, order) in
          let none : bytes_at w p ≡ [] = no_bytes p.from p.to (comma_text w p.source) (omega (arith, low)) in
          absurd (none_headed w.header (rows_at w p) (sym (no_records w.reading) ∙ sym (ap (records_as w.reading) none) ∙ one.headed start))
      go (suc from) e = omega arith

  begins : BeginsLine (bytes_at w q)
  begins = go other.begins
    where
      go : (q.from ≡ 0) ⊎ BeginsLine (bytes_at w q) → BeginsLine (bytes_at w q)
      go (inl start) = absurd (omega (arith, later, start))
      go (inr line) = line

  ends : IsCut (bytes_at w p)
  ends = go one.ends
    where
      go : (p.to ≡ p.size) ⊎ IsCut (bytes_at w p) → IsCut (bytes_at w p)
      go (inr cut) = cut
      go (inl end) =
          let within = other.within in
          let none : bytes_at w q ≡ [] = no_bytes q.from q.to (comma_text w q.source) (omega (arith, within, end, size_is, at)) in
          let some = begins.some in
          absurd (omega (arith, some, ap length none))

  bytes_joined : bytes_at w (joined_place p q) ≡ bytes_at w p ++ bytes_at w q
  bytes_joined =
      let t = comma_text w p.source in
      let order = one.order in
      let more = other.order in
      between_parts p.from p.to q.to t order (omega (arith, more, at))
      ∙ ap (λ (n : ℕ). between p.from p.to t ++ between n q.to t) at
      ∙ ap (λ (k : ℕ). between p.from p.to t ++ between q.from q.to (comma_text w k)) source_is

  records_joined : records_as w.reading (bytes_at w (joined_place p q)) ≡ records_as w.reading (bytes_at w p) ++ records_as w.reading (bytes_at w q)
  records_joined = ap (records_as w.reading) bytes_joined ∙ as_add_up w.reading (bytes_at w p) (bytes_at w q) (record { whole = ends; line = begins })

  has_header : p.from ≡ 0 → 0 < length (records_as w.reading (bytes_at w p))
  has_header start = omega (arith, ap length (one.headed start))

  pub rows_joined : rows_at w (joined_place p q) ≡ rows_at w p ++ rows_at w q
  rows_joined =
      ap (without_header p.from) records_joined
      ∙ headed_rows p.from (records_as w.reading (bytes_at w p)) (records_as w.reading (bytes_at w q)) has_header
      ∙ ap (λ (l : Table). rows_at w p ++ l) (sym (later_rows q.from (records_as w.reading (bytes_at w q)) later))

  pub tile_joined : IsTile w (joined_place p q)
  tile_joined =
      let order = one.order in
      let more = other.order in
      let within = other.within in
      record {
        size = one.size;
        order = omega (arith, order, more, at);
        within = omega (arith, within, size_is);
        begins = begun one.begins;
        ends = ended other.ends;
        headed = headed;
      }
    where
      begun : (p.from ≡ 0) ⊎ BeginsLine (bytes_at w p) → (p.from ≡ 0) ⊎ BeginsLine (bytes_at w (joined_place p q))
      begun (inl start) = inl start
      begun (inr line) = inr (subst BeginsLine (sym bytes_joined) (begins_longer (bytes_at w p) (bytes_at w q) line))

      ended : (q.to ≡ q.size) ⊎ IsCut (bytes_at w q) → (q.to ≡ p.size) ⊎ IsCut (bytes_at w (joined_place p q))
      ended (inl end) = inl (end ∙ sym size_is)
      ended (inr cut) = inr (subst IsCut (sym bytes_joined) (cut_append (bytes_at w p) (bytes_at w q) ends begins cut))

      headed : p.from ≡ 0 → records_as w.reading (bytes_at w (joined_place p q)) ≡ w.header ∷ rows_at w (joined_place p q)
      headed start =
          records_joined ∙ ap (λ (l : Table). l ++ records_as w.reading (bytes_at w q)) (one.headed start)
          ∙ ap (λ (l : Table). w.header ∷ (rows_at w p ++ l)) (sym (later_rows q.from (records_as w.reading (bytes_at w q)) later))
          ∙ ap (λ (l : Table). w.header ∷ l) (sym rows_joined)

-- ---- a whole source

pub whole_bytes : (t : List ℕ) → between 0 (length t) t ≡ t
whole_bytes t = ap (λ (n : ℕ). take n t) (omega arith) ∙ take_all (length t) t (omega arith)
