-- A cover of all bytes of all sources has their rows, source by source, and its first refused row is the first one of all.
use Rattle.std.proofs.Common.{◌≡◌, ◌<◌, ◌+◌, ◌++◌, ◌∙◌, ℕ, zero, suc, List, [], ◌∷◌, All, ap, arith, drop, length, length-append, subst, sym}
use Rattle.std.specs.List.{flat_map}
use Rattle.std.proofs.Math.Seq.{drop-cons}
use Rattle.std.proofs.lemmas.List.{drop_all, length-map}
use Rattle.std.proofs.lemmas.List.Elements.{All-head, All-tail}
use Rattle.csv_rows.specs.Readings.{IsSeparator, exchanged, records_as, records_in}
use Rattle.csv_rows.proofs.Exchanges.{reads-exchanged}
use Rattle.par_model.specs.Plan.{Plan}
use Rattle.par_model.specs.Refuse.{refused_rows}
use Rattle.row_blocks.specs.Blocks.{Table}
use Rattle.row_blocks.proofs.Elements.{All-apart}
use Rattle.row_windows.specs.Stretch.{between}
use Rattle.state_cover.specs.Bytes.{AreWholeFrom, IsWhole}
use Rattle.state_head.specs.declared.cover.RefusedRow.{RefusedRow}
use Rattle.state_head.specs.declared.cover.Rows.{Rows}
use Rattle.state_head.specs.declared.cover.Rows.TheVariants.{Counted, Refused}
use Rattle.state_head.specs.declared.cover.Stretch.{Stretch}
use Rattle.state_total.specs.Total.{AreCounted, IsCounted, IsFirstRefused}
use Rattle.state_total.specs.declared.total.FirstRefused.{FirstRefused}
use Rattle.state_law.specs.Sources.{Work, all_rows, comma_text, plan_in, rows_at, rows_in, rows_of, text_of, width_in, without_header}
use Rattle.state_law.specs.Truth.{AreTold, IsFirstOfAll, IsFirstRow, IsTrue}
use Rattle.state_law.proofs.Tiles.{whole_bytes}

-- ---- what is said of rows

pub none_refused : (plan : Plan) (width : ℕ) (rows : Table) (r : Rows) → AreTold plan width rows r → AreCounted r → refused_rows plan width rows ≡ []
none_refused plan width rows (Counted many) told counted = told.1
none_refused plan width rows (Refused why) told counted = absurd counted

first_row : (plan : Plan) (width : ℕ) (rows : Table) (r : Rows) (why : RefusedRow) → AreTold plan width rows r → r ≡ Refused why → IsFirstRow plan width rows why
first_row plan width rows r why told is = subst (AreTold plan width rows) is told

module _ (w : Work) (separates : IsSeparator w.reading.separator) where
  -- the bytes at the place of a whole source, and their records
  whole_at : (source : ℕ) (s : Stretch) → IsWhole source s → IsTrue w s → between s.place.from s.place.to (comma_text w s.place.source) ≡ comma_text w source
  whole_at source s whole is =
      let t = comma_text w s.place.source in
      let size = length-map (text_of w s.place.source) (exchanged w.reading.separator) in
      ap (λ (n : ℕ). between n s.place.to t) whole.from ∙ ap (λ (n : ℕ). between 0 n t) (whole.to ∙ is.is_tile.size ∙ sym size) ∙ whole_bytes t
      ∙ ap (comma_text w) whole.source_is

  whole_as : (source : ℕ) (s : Stretch) → IsWhole source s → IsTrue w s → records_as w.reading (between s.place.from s.place.to (comma_text w s.place.source)) ≡ records_in w.reading (text_of w source)
  whole_as source s whole is = ap (records_as w.reading) (whole_at source s whole is) ∙ reads-exchanged w.reading (text_of w source) separates

  whole_rows : (source : ℕ) (s : Stretch) → IsWhole source s → IsTrue w s → rows_at w s.place ≡ rows_of w.reading (text_of w source)
  whole_rows source s whole is =
      let t = comma_text w s.place.source in
      ap (λ (n : ℕ). without_header n (records_as w.reading (between s.place.from s.place.to t))) whole.from
      ∙ ap (λ (l : Table). drop 1 l) (whole_as source s whole is)

  whole_from : (k : ℕ) (cover : List Stretch) → AreWholeFrom k cover → All (IsTrue w) cover → k + length cover ≡ length w.texts → rows_in w cover ≡ flat_map (rows_of w.reading) (drop k w.texts)
  whole_from k [] whole all many = sym (ap (flat_map (rows_of w.reading)) (drop_all k w.texts (omega (arith, many))))
  whole_from k (s ∷ cover) whole all many =
      let lt : k < length w.texts = omega (arith, many) in
      let one : k + 1 ≡ suc k = omega arith in
      let rest = whole_from (k + 1) cover whole.1 (All-tail (IsTrue w) s cover all) (omega (arith, many)) in
      ap (λ (l : Table). l ++ rows_in w cover) (whole_rows k s whole.0 (All-head (IsTrue w) s cover all))
      ∙ ap (λ (l : Table). rows_of w.reading (text_of w k) ++ l) (rest ∙ ap (λ (n : ℕ). flat_map (rows_of w.reading) (drop n w.texts)) one)
      ∙ sym (ap (flat_map (rows_of w.reading)) (drop-cons w.texts k [] lt))

  -- the rows of such a cover are all rows
  pub whole_is_all : (cover : List Stretch) → AreWholeFrom 0 cover → length cover ≡ length w.texts → All (IsTrue w) cover → rows_in w cover ≡ all_rows w
  whole_is_all cover whole many all = whole_from 0 cover whole all (omega (arith, many))

  -- and each source begins with the header
  headed_from : (n : ℕ) (cover : List Stretch) → AreWholeFrom n cover → All (IsTrue w) cover → (k : ℕ) → k < length cover → records_in w.reading (text_of w (n + k)) ≡ w.header ∷ rows_of w.reading (text_of w (n + k))
  headed_from n [] whole all k lt = absurd (omega (arith, lt))
  headed_from n (s ∷ cover) whole all zero lt =
      let is = All-head (IsTrue w) s cover all in
      let same : n ≡ n + 0 = omega arith in
      subst (λ (k : ℕ). records_in w.reading (text_of w k) ≡ w.header ∷ rows_of w.reading (text_of w k)) same
      (sym (whole_as n s whole.0 is) ∙ is.is_tile.headed whole.0.from ∙ ap (λ (l : Table). w.header ∷ l) (whole_rows n s whole.0 is))
  headed_from n (s ∷ cover) whole all (suc k) lt =
      let same : n + 1 + k ≡ n + suc k = omega arith in
      subst (λ (j : ℕ). records_in w.reading (text_of w j) ≡ w.header ∷ rows_of w.reading (text_of w j)) same (headed_from (n + 1) cover whole.1 (All-tail (IsTrue w) s cover all) k (omega (arith, lt)))

  pub whole_is_headed : (cover : List Stretch) → AreWholeFrom 0 cover → All (IsTrue w) cover → (k : ℕ) → k < length cover → records_in w.reading (text_of w k) ≡ w.header ∷ rows_of w.reading (text_of w k)
  whole_is_headed cover whole all k lt =
      let same : 0 + k ≡ k = omega arith in
      subst (λ (j : ℕ). records_in w.reading (text_of w j) ≡ w.header ∷ rows_of w.reading (text_of w j)) same (headed_from 0 cover whole all k lt)

  -- ---- its first refused row

  split_whole : (n : ℕ) (front : List Stretch) (s : Stretch) (rest : List Stretch) → AreWholeFrom n (front ++ s ∷ rest) → AreWholeFrom n front × IsWhole (n + length front) s
  split_whole n [] s rest whole = (tt, subst (λ (k : ℕ). IsWhole k s) (omega arith) whole.0)
  split_whole n (f ∷ front) s rest whole =
      let more = split_whole (n + 1) front s rest whole.1 in
      ((whole.0, more.0), subst (λ (k : ℕ). IsWhole k s) (omega arith) more.1)

  none_before : (n : ℕ) (front : List Stretch) → AreWholeFrom n front → All (IsTrue w) front → All IsCounted front → (k : ℕ) → k < length front → refused_rows (plan_in w) (width_in w) (rows_of w.reading (text_of w (n + k))) ≡ []
  none_before n [] whole all counted k lt = absurd (omega (arith, lt))
  none_before n (f ∷ front) whole all counted zero lt =
      let is = All-head (IsTrue w) f front all in
      let same : n + 0 ≡ n = omega arith in
      ap (λ (j : ℕ). refused_rows (plan_in w) (width_in w) (rows_of w.reading (text_of w j))) same
      ∙ sym (ap (refused_rows (plan_in w) (width_in w)) (whole_rows n f whole.0 is))
      ∙ none_refused (plan_in w) (width_in w) (rows_at w f.place) f.rows is.are_told (All-head IsCounted f front counted)
  none_before n (f ∷ front) whole all counted (suc k) lt =
      let same : n + suc k ≡ n + 1 + k = omega arith in
      ap (λ (j : ℕ). refused_rows (plan_in w) (width_in w) (rows_of w.reading (text_of w j))) same
      ∙ none_before (n + 1) front whole.1 (All-tail (IsTrue w) f front all) (All-tail IsCounted f front counted) k (omega (arith, lt))

  pub first_is_first : (cover : List Stretch) (found : FirstRefused) → AreWholeFrom 0 cover → length cover ≡ length w.texts → All (IsTrue w) cover → IsFirstRefused cover found → IsFirstOfAll w found
  first_is_first cover found whole many all first =
      let parts = split_whole 0 first.front first.s first.rest (subst (AreWholeFrom 0) first.is whole) in
      let apart = All-apart (IsTrue w) first.front (first.s ∷ first.rest) (subst (All (IsTrue w)) first.is all) in
      let is = All-head (IsTrue w) first.s first.rest apart.1 in
      let at : found.source ≡ length first.front = first.source ∙ parts.1.source_is ∙ omega arith in
      let size = length-append first.front (first.s ∷ first.rest) in
      let rows : rows_at w first.s.place ≡ rows_of w.reading (text_of w found.source) = whole_rows (0 + length first.front) first.s parts.1 is ∙ ap (λ (k : ℕ). rows_of w.reading (text_of w k)) (omega (arith, at)) in
      record {
        source = omega (arith, at, size, many, ap length first.is);
        before = λ k lt.
            let same : k ≡ 0 + k = omega arith in
            ap (λ (j : ℕ). refused_rows (plan_in w) (width_in w) (rows_of w.reading (text_of w j))) same ∙ none_before 0 first.front parts.0 apart.0 first.before k (omega (arith, lt, at));
        first = subst (λ (l : Table). IsFirstRow (plan_in w) (width_in w) l found.why) rows (first_row (plan_in w) (width_in w) (rows_at w first.s.place) first.s.rows found.why is.are_told first.refused);
      }
