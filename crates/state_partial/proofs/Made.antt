-- What comes of a run whose source brings its own text came about of the sources.
use Rattle.std.proofs.Common.{inl, inr, ◌≡◌, ◌<◌, ◌+◌, ◌-◌, ◌++◌, ◌∷◌, ◌∙◌, ◌⊎◌, ℕ, zero, suc, List, [], ap, append-nil, append_assoc, arith, drop, length, length-append, length-drop, map, refl, subst, sym, take, take-append-drop}
use Rattle.std.proofs.Math.Seq.{drop-append_seam, take-append_seam}
use Rattle.std.proofs.lemmas.List.{length-map, length-take}
use Rattle.csv_rows.specs.Cuts.{IsCut}
use Rattle.csv_rows.specs.Readings.{exchanged, records_as}
use Rattle.csv_rows.specs.Records.{records_of}
use Rattle.csv_rows.specs.declared.cleaning.Reading.{Reading}
use Rattle.csv_rows.proofs.Cleaned.{as-length}
use Rattle.par_model.specs.Named.{NamedPlan, bound_plan}
use Rattle.par_model.specs.Plan.{Plan}
use Rattle.row_blocks.specs.Blocks.{Table}
use Rattle.row_windows.specs.Seams.{BeginsLine, IsSeam}
use Rattle.row_windows.specs.Stretch.{between}
use Rattle.state_head.specs.declared.cover.Place.{Place}
use Rattle.state_law.specs.Law.{with_header}
use Rattle.state_law.specs.Made.{IsMade, blank, tile, whole}
use Rattle.state_law.specs.Sources.{IsTile, Work, bytes_at, comma_text, plan_in, rows_at, text_of, whole_place, without_header}
use Rattle.state_law.specs.Truth.{IsReadOf}
use Rattle.state_law.proofs.Cuts.{cut_append}
use Rattle.stream_groups.proofs.ReadAs.{as_add_up}
use Rattle.state_whole.specs.Adding.{IsShapeOf}
use Rattle.state_whole.specs.Files.{StateFile}
use Rattle.state_whole.specs.declared.adding.Shape.{Shape}
use Rattle.state_partial.specs.Law.{AreFrom, IsBrought, PartIsMade}
use Rattle.state_partial.specs.Parts.{IsFileAt}
use Rattle.state_partial.specs.Places.{AreRead, IsFilled, IsTileAt, tile_from}
use Rattle.state_partial.specs.declared.words.Extent.{Extent}
use Rattle.state_partial.specs.declared.words.Extent.TheVariants as extent
use Rattle.state_partial.proofs.Lines.{line_is}
use Rattle.state_partial.proofs.Found.{later_from, nil_of_none, same_bytes}
use Rattle.tile_source.specs.Begins.{IsFromFront, IsFromPlace}
use Rattle.tile_source.specs.Left.{zeros}
use Rattle.tile_source.specs.declared.open.Span.{Span}

-- ---- bytes in the middle of a text

between_of : (text front middle rest : List ℕ) (from to : ℕ) → text ≡ front ++ (middle ++ rest) → from ≡ length front → to ≡ length front + length middle → between from to text ≡ middle
between_of text front middle rest from to is low high =
    let size : to - from ≡ length middle = omega (arith, low, high) in
    ap (λ (n : ℕ). take n (drop from text)) size
    ∙ ap (λ (n : ℕ). take (length middle) (drop n text)) low
    ∙ ap (λ (t : List ℕ). take (length middle) (drop (length front) t)) is
    ∙ ap (take (length middle)) (drop-append_seam front (middle ++ rest))
    ∙ take-append_seam middle rest

no_zeros : (n : ℕ) → n ≡ 0 → zeros n ≡ []
unfolding zeros
no_zeros zero e = refl
no_zeros (suc n) e = absurd (omega (arith, e))

begins_front : (xs ys : List ℕ) → BeginsLine (xs ++ ys) → 0 < length xs → BeginsLine xs
begins_front [] ys line some = absurd (omega (arith, some))
begins_front (c ∷ xs) ys line some = record { some = omega arith; is = line.is }

-- the tail of a text, if it has some bytes
tail_begins : (tail front rest : List ℕ) → tail ≡ front ++ rest → (tail ≡ []) ⊎ BeginsLine tail → 0 < length front → BeginsLine front
tail_begins tail front rest is (inl none) some = absurd (omega (arith, ap length is, ap length none, length-append front rest, some))
tail_begins tail front rest is (inr line) some = begins_front front rest (subst BeginsLine is line) some

-- a header and the front of what follows it can be cut off
front_cut : (header body rest tail : List ℕ) → tail ≡ body ++ rest → IsCut header → (tail ≡ []) ⊎ BeginsLine tail → IsCut body → IsCut (header ++ body)
front_cut header [] rest tail is cut begins ends = subst IsCut (sym (append-nil header)) cut
front_cut header (c ∷ body) rest tail is cut begins ends = cut_append header (c ∷ body) cut (tail_begins tail (c ∷ body) rest is begins (omega arith)) ends

-- ---- the header's record

one_head : (xs ys : Table) (h : List (List ℕ)) (rows : Table) → xs ++ ys ≡ h ∷ rows → length xs ≡ 1 → xs ≡ h ∷ []
one_head [] ys h rows is one = absurd (omega (arith, one))
one_head (x ∷ []) ys h rows is one = let same : x ≡ h = cc in ap (λ (r : List (List ℕ)). r ∷ []) same
one_head (x ∷ y ∷ xs) ys h rows is one = absurd (omega (arith, one))

header_is : (reading : Reading) (header body rest tail : List ℕ) (h : List (List ℕ)) (rows : Table) → tail ≡ body ++ rest → IsCut header → (tail ≡ []) ⊎ BeginsLine tail → length (records_as reading header) ≡ 1
    → records_as reading (header ++ body) ≡ h ∷ rows → records_as reading header ≡ h ∷ []
header_is reading header [] rest tail h rows is cut begins one records =
    one_head (records_as reading header) [] h rows (append-nil (records_as reading header) ∙ (ap (records_as reading) (sym (append-nil header)) ∙ records)) one
header_is reading header (c ∷ body) rest tail h rows is cut begins one records =
    let seam : IsSeam header (c ∷ body) = record { whole = cut; line = tail_begins tail (c ∷ body) rest is begins (omega arith) } in
    one_head (records_as reading header) (records_as reading (c ∷ body)) h rows (sym (as_add_up reading header (c ∷ body) seam) ∙ records) one

-- ---- a tile

later_header : (from : ℕ) (header bytes : List ℕ) → 0 < from → with_header from header bytes ≡ header ++ bytes
later_header zero header bytes some = absurd (omega (arith, some))
later_header (suc from) header bytes some = refl

module _ (w : Work) (source : ℕ) (span : Span) (bytes : List ℕ) (p : Place) (read : List ℕ) (t : IsTileAt source span bytes p read) (f : StateFile) (size : span.size ≡ length (comma_text w source)) (is_read : IsReadOf w.names w.reading w.header p read f) where
  read_is : read ≡ t.begins.brought.header ++ t.begins.body
  read_is = same_bytes read (t.begins.brought.header ++ t.begins.body) t.begins.left_is

  source_is : p.source ≡ source
  source_is = ap (λ (q : Place). q.source) t.place

  to_is : p.to ≡ t.begin.at + length t.begins.body
  to_is = ap (λ (q : Place). q.to) t.place

  size_is : p.size ≡ span.size
  size_is = ap (λ (q : Place). q.size) t.place

  size_here : p.size ≡ length (text_of w p.source)
  size_here = size_is ∙ (size ∙ (length-map (text_of w source) (exchanged w.reading.separator) ∙ ap (λ (k : ℕ). length (text_of w k)) (sym source_is)))

  -- the source has all of its bytes
  tail_is : t.begin.at + length t.begins.brought.tail ≡ span.size → t.begins.brought.tail ≡ t.begins.body ++ t.begins.rest
  tail_is long =
      let tail = t.begins.brought.tail in
      let none : zeros (span.size - (t.begin.at + length tail)) ≡ [] = no_zeros (span.size - (t.begin.at + length tail)) (omega (arith, long)) in
      sym (append-nil tail) ∙ (ap (λ (l : List ℕ). tail ++ l) (sym none) ∙ t.begins.is_tile.are)

  bytes_here : (front middle rest : List ℕ) → comma_text w source ≡ front ++ (middle ++ rest) → p.from ≡ length front → p.to ≡ length front + length middle → bytes_at w p ≡ middle
  bytes_here front middle rest is low high = ap (λ (k : ℕ). between p.from p.to (comma_text w k)) source_is ∙ between_of (comma_text w source) front middle rest p.from p.to is low high

  -- ---- from the front on

  module _ (first : span.from ≡ 0) (front : IsFromFront t.begin t.begins.brought) (all : bytes ≡ comma_text w source) where
    text_is : comma_text w source ≡ t.begins.brought.header ++ t.begins.brought.tail
    text_is =
        let s = t.begins.brought in
        sym all ∙ (t.begins.brings.are ∙ (ap (λ (l : List ℕ). s.header ++ (l ++ (s.passed ++ s.tail))) front.no_line ∙ ap (λ (l : List ℕ). s.header ++ (l ++ s.tail)) front.no_passed))

    from_is : p.from ≡ 0
    from_is = ap (λ (q : Place). q.from) t.place ∙ ap (λ (n : ℕ). tile_from n t.begin.at) first

    its_tail : t.begins.brought.tail ≡ t.begins.body ++ t.begins.rest
    its_tail = tail_is (omega (arith, front.at, ap length text_is, length-append t.begins.brought.header t.begins.brought.tail, size))

    body_long : length (t.begins.brought.header ++ t.begins.body) ≡ length t.begins.brought.header + length t.begins.body
    body_long = length-append t.begins.brought.header t.begins.body

    here : bytes_at w p ≡ read
    here =
        let s = t.begins.brought in
        bytes_here [] (s.header ++ t.begins.body) t.begins.rest (text_is ∙ (ap (λ (l : List ℕ). s.header ++ l) its_tail ∙ sym (append_assoc s.header t.begins.body t.begins.rest))) from_is (omega (arith, to_is, front.at, body_long))
        ∙ sym read_is

    -- it is all that there is
    all_made : t.begins.brought.tail ≡ [] → IsMade w f
    all_made none =
        let none_left : t.begins.body ≡ [] = nil_of_none t.begins.body (omega (arith, ap length its_tail, ap length none, length-append t.begins.body t.begins.rest)) in
        let text : read ≡ comma_text w source =
        read_is ∙ (ap (λ (l : List ℕ). t.begins.brought.header ++ l) none_left ∙ (ap (λ (l : List ℕ). t.begins.brought.header ++ l) (sym none) ∙ sym text_is)) in
        let n = length (text_of w source) in
        let same = length-map (text_of w source) (exchanged w.reading.separator) in
        let to : p.to ≡ n = omega (arith, to_is, front.at, ap length text_is, length-append t.begins.brought.header t.begins.brought.tail, ap length none, ap length none_left, same) in
        let place : p ≡ whole_place source (text_of w source) =
        t.place ∙ (ap (λ (k : ℕ). record { source = source; from = k; to = t.begin.at + length t.begins.body; size = span.size }) (ap (λ (k : ℕ). tile_from k t.begin.at) first)
        ∙ (ap (λ (k : ℕ). record { source = source; from = 0; to = k; size = span.size }) (sym to_is ∙ to) ∙ ap (λ (k : ℕ). record { source = source; from = 0; to = n; size = k }) (size ∙ same))) in
        whole source f (subst (λ (q : Place). IsReadOf w.names w.reading w.header q (comma_text w source) f) place (subst (λ (bs : List ℕ). IsReadOf w.names w.reading w.header p bs f) text is_read))

    rows_here : rows_at w p ≡ is_read.rows
    rows_here = ap (λ (n : ℕ). without_header n (records_as w.reading (bytes_at w p))) from_is ∙ ap (λ (rs : Table). drop 1 rs) (ap (records_as w.reading) here ∙ is_read.records)

    front_tile : IsCut t.begins.brought.header → IsTile w p
    front_tile cut = record {
      size = size_here;
      order = omega (arith, from_is);
      within = omega (arith, t.within, size_is);
      begins = inl from_is;
      ends = elim t.begins.is_tile.end [
        | inl none ↦ inl (omega (arith, to_is, size_is, front.at, ap length text_is, length-append t.begins.brought.header t.begins.brought.tail, size, ap length its_tail, length-append t.begins.body t.begins.rest, ap length none))
        | inr ends ↦ inr (subst IsCut (sym (here ∙ read_is)) (front_cut t.begins.brought.header t.begins.body t.begins.rest t.begins.brought.tail its_tail cut t.begins.brings.begins ends.0.whole))
      ];
      headed = λ e. ap (records_as w.reading) here ∙ (is_read.records ∙ ap (λ (rs : Table). w.header ∷ rs) (sym rows_here));
    }

    cut_made : IsCut t.begins.brought.header → length (records_of t.begins.brought.header) ≡ 1 → IsMade w f
    cut_made cut one =
        let s = t.begins.brought in
        let header = header_is w.reading s.header t.begins.body t.begins.rest s.tail w.header is_read.rows its_tail cut t.begins.brings.begins (as-length w.reading s.header ∙ one) (ap (records_as w.reading) (sym read_is) ∙ is_read.records) in
        let same : with_header p.from s.header (bytes_at w p) ≡ read = ap (λ (n : ℕ). with_header n s.header (bytes_at w p)) from_is ∙ here in
        tile s.header p f header cut (front_tile cut) (subst (λ (bs : List ℕ). IsReadOf w.names w.reading w.header p bs f) (sym same) is_read)

    pub front_made : IsMade w f
    front_made = elim front.whole [
      | inl none ↦ all_made none
      | inr cut ↦ elim t.begins.brings.one [ inl one ↦ cut_made cut one | inr none ↦ all_made none ]
    ]

  -- ---- from a place on

  module _ (some : 0 < span.from) (place : IsFromPlace span.from t.begin t.begins.brought) (is_from : AreFrom w.reading w.header span.from (comma_text w source) bytes) (filled : IsFilled p) where
    same_line : (is_from.line ≡ t.begins.brought.header) × (drop span.from (comma_text w source) ≡ t.begins.brought.passed ++ t.begins.brought.tail)
    same_line =
        let s = t.begins.brought in
        line_is is_from.line is_from.line_end (drop span.from (comma_text w source)) s.header s.line_end (s.passed ++ s.tail) (record { one = sym (as-length w.reading is_from.line) ∙ ap length is_from.one; whole = is_from.whole; last = is_from.last })
        (record { one = place.one; whole = place.whole; last = place.last }) is_from.ends place.line (sym is_from.are ∙ t.begins.brings.are)

    its_header : records_as w.reading t.begins.brought.header ≡ w.header ∷ []
    its_header = ap (records_as w.reading) (sym same_line.0) ∙ is_from.one

    at_is : p.from ≡ t.begin.at
    at_is = ap (λ (q : Place). q.from) t.place ∙ later_from span.from t.begin.at some

    rest_long : length t.begins.brought.passed + length t.begins.brought.tail ≡ length (comma_text w source) - span.from
    rest_long = omega (arith, ap length same_line.1, length-append t.begins.brought.passed t.begins.brought.tail, length-drop span.from (comma_text w source))

    long : t.begin.at + length t.begins.brought.tail ≡ span.size
    long = omega (arith, place.at, rest_long, size, t.fits, t.within, to_is)

    front_long : length (take span.from (comma_text w source) ++ t.begins.brought.passed) ≡ t.begin.at
    front_long =
        omega (arith, place.at, rest_long, size, t.fits, t.within, to_is, length-append (take span.from (comma_text w source)) t.begins.brought.passed, length-take span.from (comma_text w source))

    its_rest : t.begins.brought.tail ≡ t.begins.body ++ t.begins.rest
    its_rest = tail_is long

    text_of_parts : comma_text w source ≡ (take span.from (comma_text w source) ++ t.begins.brought.passed) ++ (t.begins.body ++ t.begins.rest)
    text_of_parts =
        let s = t.begins.brought in
        let front = take span.from (comma_text w source) in
        sym (take-append-drop span.from (comma_text w source)) ∙ (ap (λ (l : List ℕ). front ++ l) (same_line.1 ∙ ap (λ (l : List ℕ). s.passed ++ l) its_rest) ∙ sym (append_assoc front s.passed (t.begins.body ++ t.begins.rest)))

    here_too : bytes_at w p ≡ t.begins.body
    here_too = bytes_here (take span.from (comma_text w source) ++ t.begins.brought.passed) t.begins.body t.begins.rest text_of_parts (at_is ∙ sym front_long) (omega (arith, to_is, front_long))

    at_some : 0 < t.begin.at
    at_some = omega (arith, place.at, some)

    body_some : 0 < length t.begins.body
    body_some = elim filled [ inl lt ↦ omega (arith, lt, at_is, to_is) | inr none ↦ absurd (omega (arith, none, size_is, t.within, to_is, at_some)) ]

    place_tile : IsTile w p
    place_tile = record {
      size = size_here;
      order = omega (arith, at_is, to_is);
      within = omega (arith, t.within, size_is);
      begins = inr (subst BeginsLine (sym here_too) (tail_begins t.begins.brought.tail t.begins.body t.begins.rest its_rest t.begins.brings.begins body_some));
      ends = elim t.begins.is_tile.end [
        | inl none ↦ inl (omega (arith, to_is, size_is, long, ap length its_rest, length-append t.begins.body t.begins.rest, ap length none))
        | inr ends ↦ inr (subst IsCut (sym here_too) ends.0.whole)
      ];
      headed = λ e. absurd (omega (arith, e, at_is, at_some));
    }

    pub place_made : IsMade w f
    place_made =
        let s = t.begins.brought in
        let same : with_header p.from s.header (bytes_at w p) ≡ read =
        later_header p.from s.header (bytes_at w p) (omega (arith, at_is, at_some)) ∙ (ap (λ (l : List ℕ). s.header ++ l) here_too ∙ sym read_is) in
        tile s.header p f its_header place.whole place_tile (subst (λ (bs : List ℕ). IsReadOf w.names w.reading w.header p bs f) (sym same) is_read)

-- ---- a part

read_made : (w : Work) (source : ℕ) (e : Extent) (bytes : List ℕ) (p : Place) (read : List ℕ) (f : StateFile) → AreRead source e bytes p read → IsBrought w.reading w.header e (comma_text w source) bytes → IsFilled p → IsReadOf w.names w.reading w.header p read f → IsMade w f
read_made w source extent.Whole bytes p read f are is filled is_read =
    let text : read ≡ comma_text w source = are.1 ∙ is in
    let size = ap length is ∙ length-map (text_of w source) (exchanged w.reading.separator) in
    let place : p ≡ whole_place source (text_of w source) = are.0 ∙ ap (λ (n : ℕ). record { source = source; from = 0; to = n; size = n }) size in
    whole source f (subst (λ (q : Place). IsReadOf w.names w.reading w.header q (comma_text w source) f) place (subst (λ (bs : List ℕ). IsReadOf w.names w.reading w.header p bs f) text is_read))
read_made w source (extent.Tile span) bytes p read f t is filled is_read = elim is.1 [
  | inl front ↦ elim t.begins.brings.front [
    | inl from ↦ front_made w source span bytes p read t f is.0 is_read from.0 from.1 front.1
    | inr from ↦ absurd (omega (arith, front.0, from.0))
  ]
  | inr later ↦ elim t.begins.brings.front [
    | inl from ↦ absurd (omega (arith, later.0, from.0))
    | inr from ↦ place_made w source span bytes p read t f is.0 is_read from.0 from.1 later.1 filled
  ]
]

file_made : (w : Work) (source : ℕ) (e : Extent) (bytes : List ℕ) (p : Place) (read : List ℕ) (shape : Shape) (f : StateFile) → AreRead source e bytes p read → IsBrought w.reading w.header e (comma_text w source) bytes → IsShapeOf (plan_in w) shape
    → IsFileAt w.names w.reading w.header p read f → IsMade w f
file_made w source e bytes p read shape f are is of (inl file) = read_made w source e bytes p read f are is file.0 file.1
file_made w source e bytes p read shape f are is of (inr none) = blank shape f of none.cover none.tuples

pub part_is_made : PartIsMade
part_is_made w words bytes text t names reading header is =
    let part = t.is_part in
    let source = t.asked.part.source in
    let by_names = subst (λ (n : NamedPlan). IsFileAt n part.query.reading part.header part.place part.read t.file) names part.is_file in
    let by_reading = subst (λ (r : Reading). IsFileAt w.names r part.header part.place part.read t.file) reading by_names in
    let by_header = subst (λ (h : List (List ℕ)). IsFileAt w.names w.reading h part.place part.read t.file) header by_reading in
    let are_read = subst (λ (r : Reading). AreRead source t.asked.extent (map (exchanged r.separator) bytes) part.place part.read) reading part.are_read in
    let plan : bound_plan part.header part.query.plan ≡ plan_in w = ap (λ (n : NamedPlan). bound_plan part.header n) names ∙ ap (λ (h : List (List ℕ)). bound_plan h w.names) header in
    file_made w source t.asked.extent (map (exchanged w.reading.separator) bytes) part.place part.read t.shape t.file are_read is (subst (λ (b : Plan). IsShapeOf b t.shape) plan t.is_shape) by_header
