-- What files come to.
use Rattle.std.proofs.Common.{◌≡◌, ◌++◌, ◌∙◌, ◌⊎◌, inl, inr, ℕ, zero, suc, List, [], ◌∷◌, All, ap, append-nil, arith, drop, length, refl, subst, sym}
use Rattle.std.specs.FinMap as fin
use Rattle.std.specs.List.Sorted.{IsPermutation}
use Rattle.std.proofs.lemmas.List.{length-map}
use Rattle.std.proofs.lemmas.List.Elements.{All-append, All-cons, All-head, All-nil, All-tail}
use Rattle.std.proofs.lemmas.List.Sorted.{length_permutation}
use Rattle.csv_rows.specs.Readings.{IsSeparator, exchanged, records_as}
use Rattle.par_model.specs.Named.{bound_item}
use Rattle.partial_agg.specs.Listed.{listed}
use Rattle.partial_agg.specs.Rows.{IsAccepted}
use Rattle.part_law.proofs.OneText.{answers_agree}
use Rattle.result_text.proofs.Answering.{answers}
use Rattle.row_blocks.specs.Blocks.{Table}
use Rattle.row_blocks.proofs.Elements.{All-apart}
use Rattle.row_windows.specs.Seams.{BeginsLine}
use Rattle.row_windows.specs.Stretch.{between}
use Rattle.state_blocks.specs.Blocks.{Group}
use Rattle.state_head.specs.declared.cover.Place.{Place}
use Rattle.state_head.specs.declared.cover.Rows.{Rows}
use Rattle.state_head.specs.declared.cover.Rows.TheVariants.{Counted, Refused}
use Rattle.state_head.specs.declared.cover.Stretch.{Stretch}
use Rattle.state_lanes.specs.Rows.{LanesComeBack, RowsAreTold}
use Rattle.state_load.specs.Loading.{stretches_of, sum_of}
use Rattle.state_total.specs.Total.{AreCounted, IsCounted, IsWholeCover}
use Rattle.state_whole.specs.Files.{StateFile, tuples_in}
use Rattle.state_law.specs.Law.{CombinedIsTrue, RowIsFirst, SourcesAreHeaded, SumIsAll, TextAnswers, TextsAgree, TileIsTrue, WholeIsTrue, with_header}
use Rattle.state_law.specs.Sources.{IsTile, Work, all_rows, bytes_at, comma_text, plan_in, rows_at, rows_in, text_of, whole_place, width_in, without_header}
use Rattle.state_law.specs.Truth.{AreRowTuples, AreTold, AreTuplesBeside, IsReadOf, IsTrue, IsTrueOf}
use Rattle.state_law.proofs.Groups.{counted_accepted, short_keys, sum_is_groups}
use Rattle.state_law.proofs.Joins.{are_covered}
use Rattle.state_law.proofs.Tiles.{as_add_up, whole_bytes}
use Rattle.state_law.proofs.Wholes.{first_is_first, whole_is_all, whole_is_headed}

-- ---- one reading

module _ (w : Work) where
  counted_tuples : (rows : Table) (told : Rows) (tuples : List Group) → AreTuplesBeside (plan_in w) rows told tuples → AreCounted told → AreRowTuples (plan_in w) rows tuples
  counted_tuples rows (Counted many) tuples are counted = are
  counted_tuples rows (Refused why) tuples are counted = absurd counted

  no_tuples : (rows : Table) (told : Rows) (tuples : List Group) → AreTuplesBeside (plan_in w) rows told tuples → (AreCounted told → ⊥) → tuples ≡ []
  no_tuples rows (Counted many) tuples are refused = absurd (refused tt)
  no_tuples rows (Refused why) tuples are refused = are

  read_true : (p : Place) (bytes : List ℕ) (f : StateFile) (r : IsReadOf w.names w.reading w.header p bytes f) → IsTile w p → rows_at w p ≡ r.rows → IsTrueOf w f
  read_true p bytes f r tile rows =
      let s : Stretch = record { place = p; rows = r.told } in
      let told : AreTold (plan_in w) (width_in w) (rows_at w p) r.told = subst (λ (l : Table). AreTold (plan_in w) (width_in w) l r.told) (sym rows) r.are_told in
      let all : rows_in w f.preface.cover ≡ r.rows = ap (rows_in w) r.cover ∙ append-nil (rows_at w p) ∙ rows in
      record {
        each = subst (All (IsTrue w)) (sym r.cover) (All-cons (IsTrue w) s [] (record { is_tile = tile; are_told = told }) (All-nil (IsTrue w)));
        counted = λ is.
            let here = All-head IsCounted s [] (subst (All IsCounted) r.cover is) in
            subst (λ (l : Table). AreRowTuples (plan_in w) l (tuples_in f)) (sym all) (counted_tuples r.rows r.told (tuples_in f) r.tuples here);
        refused = λ is. no_tuples r.rows r.told (tuples_in f) r.tuples (λ here. is (subst (All IsCounted) (sym r.cover) (All-cons IsCounted s [] here (All-nil IsCounted))));
      }

  -- the records of a whole source
  whole_records : (source : ℕ) → records_as w.reading (bytes_at w (whole_place source (text_of w source))) ≡ records_as w.reading (comma_text w source)
  whole_records source =
      let size = length-map (text_of w source) (exchanged w.reading.separator) in
      ap (λ (n : ℕ). records_as w.reading (between 0 n (comma_text w source))) (sym size) ∙ ap (records_as w.reading) (whole_bytes (comma_text w source))

pub whole_is_true : WholeIsTrue
whole_is_true w source f r =
    let t = text_of w source in
    let p = whole_place source t in
    let rows : rows_at w p ≡ r.rows = ap (λ (l : Table). drop 1 l) (whole_records w source ∙ r.records) in
    let tile : IsTile w p = record {
      size = refl;
      order = omega arith;
      within = omega arith;
      begins = inl refl;
      ends = inl refl;
      headed = λ start. whole_records w source ∙ r.records ∙ ap (λ (l : Table). w.header ∷ l) (sym rows);
    } in
    read_true w p (comma_text w source) f r tile rows

pub tile_is_true : TileIsTrue
tile_is_true w header p f one cut tile r = read_true w p (with_header p.from header (bytes_at w p)) f r tile (go p.from refl r.records)
  where
    begins : (p.from ≡ 0) ⊎ BeginsLine (bytes_at w p) → (from : ℕ) → p.from ≡ suc from → BeginsLine (bytes_at w p)
    begins (inl start) from at = absurd (omega (arith, start, at))
    begins (inr is) from at = is

    go : (from : ℕ) → p.from ≡ from → records_as w.reading (with_header from header (bytes_at w p)) ≡ w.header ∷ r.rows → rows_at w p ≡ r.rows
    go zero at records = ap (λ (n : ℕ). without_header n (records_as w.reading (bytes_at w p))) at ∙ ap (λ (l : Table). drop 1 l) records
    go (suc from) at records =
        let both = as_add_up w.reading header (bytes_at w p) (record { whole = cut; line = begins tile.begins from at }) in
        ap (λ (n : ℕ). without_header n (records_as w.reading (bytes_at w p))) at
        ∙ ap (λ (l : Table). drop 1 (l ++ records_as w.reading (bytes_at w p))) (sym one)
        ∙ sym (ap (λ (l : Table). drop 1 l) both)
        ∙ ap (λ (l : Table). drop 1 l) records

-- ---- several files

module _ (w : Work) where
  stretches_true : (files : List StateFile) → All (IsTrueOf w) files → All (IsTrue w) (stretches_of files)
  stretches_true [] all = All-nil (IsTrue w)
  stretches_true (f ∷ files) all =
      All-append (IsTrue w) f.preface.cover (stretches_of files) (All-head (IsTrueOf w) f files all).each (stretches_true files (All-tail (IsTrueOf w) f files all))

  abbrev HaveRowTuples : StateFile → Type 0
  HaveRowTuples f = AreRowTuples (plan_in w) (rows_in w f.preface.cover) (tuples_in f)

  all_tuples : (files : List StateFile) → All (IsTrueOf w) files → All IsCounted (stretches_of files) → All HaveRowTuples files
  all_tuples [] all counted = All-nil HaveRowTuples
  all_tuples (f ∷ files) all counted =
      let apart = All-apart IsCounted f.preface.cover (stretches_of files) counted in
      All-cons HaveRowTuples f files ((All-head (IsTrueOf w) f files all).counted apart.0)
      (all_tuples files (All-tail (IsTrueOf w) f files all) apart.1)

pub combined_is_true : RowsAreTold → LanesComeBack → CombinedIsTrue
combined_is_true told back w files f all few one =
    let stretches = stretches_of files in
    let covered = are_covered w stretches f.preface.cover one.is.join (stretches_true w files all) in
    let size = length_permutation (rows_in w stretches) (rows_in w f.preface.cover) covered.rows in
    record {
      each = covered.each;
      counted = λ is. record {
        shape = one.shape;
        is_shape = one.is_shape;
        groups = sum_of one.shape fin.empty files;
        are_groups = sum_is_groups (plan_in w) one.shape one.is_shape told back w (width_in w) files (rows_in w f.preface.cover) (all_tuples w files all (covered.counted is)) covered.rows (counted_accepted w f.preface.cover covered.each is)
            (omega (arith, size, few));
        are = one.is.counted is;
      };
      refused = one.is.refused;
    }

-- the rows of a cover that has all bytes are accepted, and are all rows
all_accepted_rows : (w : Work) (files : List StateFile) (cover : List Stretch) → IsSeparator w.reading.separator → All (IsTrueOf w) files → IsWholeCover (length w.texts) (stretches_of files) cover → All IsCounted cover → All (IsAccepted (plan_in w) (width_in w)) (all_rows w)
all_accepted_rows w files cover separates all whole counted =
    let covered = are_covered w (stretches_of files) cover whole.join (stretches_true w files all) in
    let rows = whole_is_all w separates cover whole.whole.0 whole.whole.1 covered.each in
    subst (All (IsAccepted (plan_in w) (width_in w))) rows (counted_accepted w cover covered.each counted)

pub sum_is_all : RowsAreTold → LanesComeBack → SumIsAll
sum_is_all told back w shape files cover separates of all few whole counted =
    let covered = are_covered w (stretches_of files) cover whole.join (stretches_true w files all) in
    let rows = whole_is_all w separates cover whole.whole.0 whole.whole.1 covered.each in
    let same = subst (IsPermutation (rows_in w (stretches_of files))) rows covered.rows in
    sum_is_groups (plan_in w) shape of told back w (width_in w) files (all_rows w) (all_tuples w files all (covered.counted counted)) same (all_accepted_rows w files cover separates all whole counted) few

pub text_answers : SumIsAll → TextAnswers
text_answers sum_of_all w files text separates all few items come =
    let sum = sum_of come.shape fin.empty files in
    let groups = sum_of_all w come.shape files come.cover separates come.is_shape all few come.is_whole come.counted in
    let accepted = all_accepted_rows w files come.cover separates all come.is_whole come.counted in
    answers w.names (plan_in w) (listed sum) text w.header (all_rows w) sum come.is (short_keys (plan_in w) (width_in w) (all_rows w) sum accepted groups) (omega (arith, length-map w.names.items (bound_item w.header), items)) refl groups refl

pub sources_are_headed : SourcesAreHeaded
sources_are_headed w files cover separates all whole k lt =
    let covered = are_covered w (stretches_of files) cover whole.join (stretches_true w files all) in
    let many = whole.whole.1 in
    whole_is_headed w separates cover whole.whole.0 covered.each k (omega (arith, lt, many))

pub texts_agree : TextAnswers → TextsAgree
texts_agree answered w files others text other separates one two few items come came =
    answers_agree w.names (w.header ∷ all_rows w) text other (answered w files text separates one few items come) (answered w others other separates two few items came)

pub row_is_first : RowIsFirst
row_is_first w files found separates all come =
    let covered = are_covered w (stretches_of files) come.cover come.is_whole.join (stretches_true w files all) in
    first_is_first w separates come.cover found come.is_whole.whole.0 come.is_whole.whole.1 covered.each come.first
