-- What there is after a window.
use Rattle.std.proofs.Common.{◌≡◌, ◌⊎◌, inl, inr, ◌<◌, ◌≤◌, ◌+◌, ◌^◌, ◌++◌, ◌∙◌, ℕ, Bool, true, false, List, [], ◌∷◌, All, Option, None, Some, IfSome, drop, length, slice_index_or, take, refl, ap, sym, subst, arith, append-nil, append_assoc, take-append-drop}
use Rattle.std.specs.Io.KnownBytes.{IsAtEnd}
use Rattle.std.specs.Prelude.{unwrap_or}
use Rattle.std.proofs.lemmas.List.{drop_all, take_all}
use Rattle.std.proofs.lemmas.List.Elements.{All-cons, All-head, All-nil, All-tail}
use Rattle.csv_rows.specs.Cuts.{IsCut}
use Rattle.csv_rows.specs.Readings.{records_as}
use Rattle.csv_rows.specs.Records.{record_at, records_of}
use Rattle.csv_rows.specs.declared.cleaning.Reading.{Reading}
use Rattle.row_blocks.specs.Blocks.{Table}
use Rattle.row_windows.specs.Seams.{BeginsLine, IsCutAt, IsSeam}
use Rattle.row_windows.specs.Stretch.{Fills, Stretch}
use Rattle.split_run.specs.Pieces.{AreUnder, piece_records, piece_rows, rows_of}
use Rattle.text_lines.specs.Feeds.{count_feeds}
use Rattle.text_lines.proofs.Counts.{count_append}
use Rattle.text_lines.proofs.Parts.{cut_append, cut_back}
use Rattle.stream_groups.specs.Begins.{AllCut, IsLined, feeds_of, lines_of}
use Rattle.stream_groups.specs.Reading.{HasHeader, HasPart, HasRead, IsFilledBatch, IsFirst, IsHeaded, IsLike, Reaches, line_records}
use Rattle.stream_groups.specs.declared.batch.Batch.{Batch}
use Rattle.stream_groups.specs.declared.filling.First.{First}
use Rattle.stream_groups.proofs.Feeds.{feeds_one}
use Rattle.stream_groups.proofs.ReadAs.{as_add_up, none_as}
use Rattle.stream_groups.proofs.Windows.{begins_longer}

-- a list of one record, and what begins with it
pub one_record : (one all more : Table) → length one ≡ 1 → all ≡ one ++ more → (record_at all 0 ≡ record_at one 0) × (one ≡ record_at one 0 ∷ []) × (drop 1 all ≡ more) × (all ≡ record_at one 0 ∷ more)
one_record [] all more size e = absurd (omega (arith, size))
one_record (h ∷ x ∷ one) all more size e = absurd (omega (arith, size))
one_record (h ∷ []) all more size e = (ap (λ (l : Table). record_at l 0) e, refl, ap (drop 1) e, e)

-- the records of a header and of lines behind it
pub records_behind : (reading : Reading) (header lines : List ℕ) (one : Table) → IsCut header → BeginsLine lines → records_as reading header ≡ one → length one ≡ 1
    → records_as reading (header ++ lines) ≡ record_at one 0 ∷ records_as reading lines
records_behind reading header lines one cut line is size =
    let more = records_as reading lines in
    as_add_up reading header lines (record { whole = cut; line = line }) ∙ ap (λ (l : Table). l ++ more) is ∙ (one_record one (one ++ more) more size refl).3

-- where a text is cut in front of a line, or not at all, its records begin with those of the front
pub front_records : (reading : Reading) (lines : List ℕ) (cut : Option ℕ) → IfSome cut (IsCutAt lines) → (more : Table) × (records_as reading lines ≡ records_as reading (take (unwrap_or cut (length lines)) lines) ++ more)
front_records reading lines None c = ([], sym (append-nil (records_as reading (take (length lines) lines)) ∙ ap (records_as reading) (take_all (length lines) lines (omega arith))))
front_records reading lines (Some at) c = (records_as reading (drop at lines), sym (ap (records_as reading) (take-append-drop at lines)) ∙ as_add_up reading (take at lines) (drop at lines) c.seam)

-- what is cut off in front of the second record of lines, or all of them where there is one, has one record if it has any
pub front_one : (lines : List ℕ) (cut : Option ℕ) → IfSome cut (λ at. length (records_of (take at lines)) ≡ 1) → (cut ≡ None → length (records_of lines) ≤ 1) → 0 < length (records_of (take (unwrap_or cut (length lines)) lines))
    → length (records_of (take (unwrap_or cut (length lines)) lines)) ≡ 1
front_one lines None some none more =
    let whole : length (records_of (take (length lines) lines)) ≡ length (records_of lines) = ap (λ (l : List ℕ). length (records_of l)) (take_all (length lines) lines (omega arith)) in
    omega (arith, none refl, more, whole)
front_one lines (Some at) some none more = some

-- what is cut off is the line of the header, and the rest its lines: these begin with the end of a line, or there are none
pub parted_lines : (lines : List ℕ) (cut : Option ℕ) (w : Stretch) → IfSome cut (IsCutAt lines) → w.header ≡ take (unwrap_or cut (length lines)) lines → w.lines ≡ drop (unwrap_or cut (length lines)) lines
    → (w.lines ≡ []) ⊎ (IsCut w.header × BeginsLine w.lines)
parted_lines lines None w c header rest = inl (rest ∙ drop_all (length lines) lines (omega arith))
parted_lines lines (Some at) w c header rest = inr (subst IsCut (sym header) c.seam.whole, subst BeginsLine (sym rest) c.seam.line)

-- a header of one record is the first of all that begin with it
header_alone : (one all : Table) → record_at all 0 ≡ record_at one 0 → one ≡ record_at one 0 ∷ [] → one ≡ record_at all 0 ∷ []
header_alone one all first single = single ∙ ap (λ (h : List (List ℕ)). h ∷ []) (sym first)

-- the records of a window that is read so
read_so : (reading : Reading) (w : Stretch) → w.reading ≡ reading → piece_records w ≡ records_as reading (w.header ++ w.lines)
read_so reading w is = ap (λ (r : Reading). records_as r (w.header ++ w.lines)) is

pub parted_lined : (reading : Reading) (w : Stretch) → w.reading ≡ reading → length (records_as reading w.header) ≡ 1 → (w.lines ≡ []) ⊎ (IsCut w.header × BeginsLine w.lines) → IsLined reading w
parted_lined reading w is one (inl none) =
    let own = records_as reading w.header in
    let all : piece_records w ≡ own ++ [] =
    read_so reading w is ∙ (ap (λ (l : List ℕ). records_as reading (w.header ++ l)) none ∙ (ap (records_as reading) (append-nil w.header) ∙ sym (append-nil own))) in
    let e = one_record own (piece_records w) [] one all in
    record { reading_is = is; begins = inl none; rows = e.2 ∙ sym (ap (records_as reading) none ∙ none_as reading); one = header_alone own (piece_records w) e.0 e.1 }
parted_lined reading w is one (inr s) =
    let own = records_as reading w.header in
    let all : piece_records w ≡ own ++ records_as reading w.lines = read_so reading w is ∙ as_add_up reading w.header w.lines (record { whole = s.0; line = s.1 }) in
    let e = one_record own (piece_records w) (records_as reading w.lines) one all in
    record { reading_is = is; begins = inr s.1; rows = e.2; one = header_alone own (piece_records w) e.0 e.1 }

-- so the header is whole if there are lines
pub parted_cut : (w : Stretch) → (w.lines ≡ []) ⊎ (IsCut w.header × BeginsLine w.lines) → 0 < length w.lines → IsCut w.header
parted_cut w (inl none) some = absurd (omega (arith, some, ap length none))
parted_cut w (inr s) some = s.0

-- the windows of a batch that have a header, and begin with lines of their own
module _ (header : Table) (was : Stretch) (cut : IsCut was.header) (is : records_as was.reading was.header ≡ header) (one : length header ≡ 1) where
  piece_is : (w : Stretch) → IsLike was w → BeginsLine w.lines → piece_records w ≡ record_at header 0 ∷ records_as was.reading w.lines
  piece_is w same line =
      read_so was.reading w same.reading
      ∙ (ap (λ (l : List ℕ). records_as was.reading (l ++ w.lines)) same.header ∙ records_behind was.reading was.header w.lines header cut line is one)

  under_is : (w : Stretch) → IsLike was w → BeginsLine w.lines → piece_records w ≡ record_at header 0 ∷ piece_rows w
  under_is w same line = let e = piece_is w same line in e ∙ ap (λ (l : Table). record_at header 0 ∷ l) (sym (ap (drop 1) e))

  pub all_lined : (ws : List Stretch) → All (IsLike was) ws → All (λ w. BeginsLine w.lines) ws → All (IsLined was.reading) ws
  all_lined ws same lines = λ k d low.
      let w = slice_index_or ws k d in
      let e = piece_is w (same k d low) (lines k d low) in
      let alone : header ≡ record_at header 0 ∷ [] = (one_record header (header ++ []) [] one refl).1 in
      record {
        reading_is = (same k d low).reading;
        begins = inr (lines k d low);
        rows = ap (drop 1) e;
        one = ap (records_as was.reading) (same k d low).header ∙ (is ∙ (alone ∙ ap (λ (l : Table). record_at l 0 ∷ []) (sym e)));
      }

  pub all_under : (ws : List Stretch) → All (IsLike was) ws → All (λ w. BeginsLine w.lines) ws → AreUnder (record_at header 0) ws
  all_under ws same lines = λ k d low. under_is (slice_index_or ws k d) (same k d low) (lines k d low)

  pub rows_are : (ws : List Stretch) → All (IsLike was) ws → All (λ w. BeginsLine w.lines) ws → rows_of ws ≡ line_records was.reading ws
  rows_are [] same lines = refl
  rows_are (w ∷ ws) same lines =
      let first : piece_rows w ≡ records_as was.reading w.lines = ap (drop 1) (piece_is w (All-head (IsLike was) w ws same) (All-head (λ (w : Stretch). BeginsLine w.lines) w ws lines)) in
      let rest = rows_are ws (All-tail (IsLike was) w ws same) (All-tail (λ (w : Stretch). BeginsLine w.lines) w ws lines) in
      ap (λ (l : Table). l ++ rows_of ws) first ∙ ap (λ (l : Table). records_as was.reading w.lines ++ l) rest

-- a batch that was filled after another one, which is not the last
module _ (reading : Reading) (header : Table) (b now : Batch) (was : Stretch) (feeds : ℕ) (b_last is_last : Bool) (old new : Option (List ℕ)) (h : IsHeaded reading header b b_last) (more : b_last ≡ false) (same : IsLike b.next was) (rest : was.rest ≡ b.next.rest)
    (after : feeds ≡ b.feeds) (f : IsFilledBatch old new was feeds now is_last) where
  read_was_so : was.reading ≡ reading
  read_was_so = same.reading ∙ h.reading_is

  cut_was : IsCut was.header
  cut_was = subst IsCut (sym same.header) (h.cut more)

  line_so : records_as reading was.header ≡ header
  line_so = ap (records_as reading) same.header ∙ h.line

  line_was : records_as was.reading was.header ≡ header
  line_was = ap (λ (r : Reading). records_as r was.header) read_was_so ∙ line_so

  begins_was : BeginsLine was.rest
  begins_was = subst BeginsLine (sym rest) (h.next more)

  -- it has that header
  pub next_header : IsHeaded reading header now is_last
  next_header = record {
    few = f.few;
    one = h.one;
    reading_is = f.like.reading ∙ read_was_so;
    line = ap (records_as reading) f.like.header ∙ line_so;
    pieces = all_under header was cut_was line_was h.one now.pieces.items f.likes (f.begins begins_was);
    lines = subst (λ (r : Reading). All (IsLined r) now.pieces.items) read_was_so (all_lined header was cut_was line_was h.one now.pieces.items f.likes (f.begins begins_was));
    counted = omega (arith, f.counted, f.before);
    few_feeds = f.few_feeds;
    cut = λ _. subst IsCut (sym f.like.header) cut_was;
    next = f.line begins_was;
  }

  read_was : (from : Option (List ℕ)) (rows : Table) → HasRead reading from old (record_at header 0 ∷ rows) b.feeds b.next.rest → HasRead was.reading from old (record_at header 0 ∷ rows) feeds was.rest
  read_was from rows read =
      let records = record_at header 0 ∷ rows in
      subst (λ (r : Reading). HasRead r from old records feeds was.rest) (sym read_was_so)
      (subst (HasRead reading from old records feeds) (sym rest) (subst (λ (n : ℕ). HasRead reading from old records n b.next.rest) (sym after) read))

  -- its rows come after those of the one before it
  pub next_reaches : (from : Option (List ℕ)) (rows : Table) → HasRead reading from old (record_at header 0 ∷ rows) b.feeds b.next.rest
      → Reaches reading from new (record_at header 0 ∷ (rows ++ rows_of now.pieces.items)) now.feeds now.next.rest is_last
  next_reaches from rows read =
      subst (λ (r : Reading). Reaches r from new (record_at header 0 ∷ (rows ++ rows_of now.pieces.items)) now.feeds now.next.rest is_last) read_was_so
      (subst (λ (l : Table). Reaches was.reading from new (record_at header 0 ∷ (rows ++ l)) now.feeds now.next.rest is_last)
      (sym (rows_are header was cut_was line_was h.one now.pieces.items f.likes (f.begins begins_was))) (f.reads from (record_at header 0 ∷ rows) (read_was from rows read)))

  -- and its lines after theirs
  pub next_part : (from : Option (List ℕ)) (rows : Table) → HasRead reading from old (record_at header 0 ∷ rows) b.feeds b.next.rest → HasPart reading from new (record_at header 0 ∷ rows) now.before now.pieces.items now.next.rest
  next_part from rows read =
      subst (λ (r : Reading). HasPart r from new (record_at header 0 ∷ rows) now.before now.pieces.items now.next.rest) read_was_so
      (subst (λ (n : ℕ). HasPart was.reading from new (record_at header 0 ∷ rows) n now.pieces.items now.next.rest) (sym f.before) (f.part from (record_at header 0 ∷ rows) begins_was (read_was from rows read)))

-- a batch of the first window
pub first_headed : (reading : Reading) (header : Table) (w : Stretch) (before : ℕ) (b : Batch) (is_last : Bool) → HasHeader header w is_last → IsLined reading w → b.pieces.items ≡ w ∷ [] → IsLike w b.next → b.next.rest ≡ w.rest
    → b.before ≡ before → b.feeds ≡ before + count_feeds w.lines → b.feeds ≤ 2 ^ 60 → IsHeaded reading header b is_last
first_headed reading header w before b is_last h lined pieces same rest first count few =
    let under : AreUnder (record_at header 0) (w ∷ []) = All-cons (λ (w : Stretch). piece_records w ≡ record_at header 0 ∷ piece_rows w) w [] h.records (All-nil (λ (w : Stretch). piece_records w ≡ record_at header 0 ∷ piece_rows w)) in
    record {
      few = omega (arith, ap length pieces);
      one = h.one;
      reading_is = same.reading ∙ lined.reading_is;
      line = ap (records_as reading) same.header ∙ (ap (λ (r : Reading). records_as r w.header) (sym lined.reading_is) ∙ h.line);
      pieces = subst (AreUnder (record_at header 0)) (sym pieces) under;
      lines = subst (All (IsLined reading)) (sym pieces) (All-cons (IsLined reading) w [] lined (All-nil (IsLined reading)));
      counted = omega (arith, first, count, ap feeds_of pieces, feeds_one w);
      few_feeds = few;
      cut = λ l. subst IsCut (sym same.header) (h.cut l);
      next = λ l. subst BeginsLine (sym rest) (h.next l);
    }

-- the first window, of which the header's line was cut off
pub first_header : (reading : Reading) (header more : Table) (was now : Stretch) (is_last : Bool) → now.reading ≡ reading → length header ≡ 1 → header ≡ records_as reading now.header
    → records_as reading was.lines ≡ records_as reading now.header ++ more → now.header ++ now.lines ≡ was.lines → (IsCut was.lines → IsCut now.header) → now.rest ≡ was.rest → (is_last ≡ false → IsSeam was.lines was.rest) → HasHeader header now is_last
first_header reading header more was now is_last is one record_is first same cut rest seam =
    let parts : piece_records now ≡ header ++ more = read_so reading now is ∙ (ap (records_as reading) same ∙ (first ∙ ap (λ (l : Table). l ++ more) (sym record_is))) in
    let e = one_record header (piece_records now) more one parts in
    record {
      one = one;
      line = ap (λ (r : Reading). records_as r now.header) is ∙ sym record_is;
      records = e.3 ∙ ap (λ (l : Table). record_at header 0 ∷ l) (sym e.2);
      cut = λ l. cut (seam l).whole;
      next = λ l. subst BeginsLine (sym rest) (seam l).line;
    }

-- ---- the first window as a part of what was read

has_byte : (reading : Reading) (header : Table) (text : List ℕ) → length header ≡ 1 → header ≡ records_as reading text → 0 < length text
has_byte reading header [] one is = absurd (omega (arith, one, ap length is, ap length (none_as reading)))
has_byte reading header (c ∷ text) one is = omega arith

front_begins : (a b : List ℕ) → BeginsLine (a ++ b) → 0 < length a → BeginsLine a
front_begins [] b line some = absurd (omega (arith, some))
front_begins (c ∷ a) b line some = record { some = some; is = line.is }

-- what there was and what is left, after the window was parted from its header
parted_left : (was old new more : List ℕ) (full now : Stretch) → old ≡ more ++ new → full.lines ++ full.rest ≡ was ++ more → now.header ++ now.lines ≡ full.lines → now.rest ≡ full.rest
    → was ++ old ≡ now.header ++ (lines_of (now ∷ []) ++ (now.rest ++ new))
parted_left was old new more full now took text same rest =
    let own : lines_of (now ∷ []) ≡ now.lines = append-nil now.lines in
    ap (λ (l : List ℕ). was ++ l) took
    ∙ (sym (append_assoc was more new)
    ∙ (ap (λ (l : List ℕ). l ++ new) (sym text)
    ∙ (append_assoc full.lines full.rest new
    ∙ (ap (λ (l : List ℕ). l ++ (full.rest ++ new)) (sym same)
    ∙ (append_assoc now.header now.lines (full.rest ++ new)
    ∙ (ap (λ (r : List ℕ). now.header ++ (now.lines ++ (r ++ new))) (sym rest) ∙ ap (λ (l : List ℕ). now.header ++ (l ++ (now.rest ++ new))) (sym own)))))))

-- before it no record was read, and its header comes before its lines
module _ (reading : Reading) (header : Table) (was full now : Stretch) (feeds : ℕ) (one : length header ≡ 1) (record_is : header ≡ records_as reading now.header) (same : now.header ++ now.lines ≡ full.lines) (rest : now.rest ≡ full.rest)
    (line : BeginsLine was.rest → BeginsLine full.lines) (cut : IsCut now.header) (begun : BeginsLine now.lines) where
  begun_header : BeginsLine was.rest → BeginsLine now.header
  begun_header begins = front_begins now.header now.lines (subst BeginsLine (sym same) (line begins)) (has_byte reading header now.header one record_is)

  alone : header ≡ record_at header 0 ∷ []
  alone = (one_record header (header ++ []) [] one refl).1

  back_is : (bytes old new : List ℕ) (is_last : Bool) → (is_last ≡ true → (full.rest ≡ []) × (new ≡ [])) → (is_last ≡ false → IsSeam full.lines full.rest) → (now.rest ++ new ≡ []) ⊎ (BeginsLine (now.rest ++ new) × AllCut (now ∷ []))
  back_is bytes old new true last seam =
      let none : now.rest ≡ [] = rest ∙ (last refl).0 in
      let gone : new ≡ [] = (last refl).1 in
      let nothing : now.rest ++ new ≡ [] = cc (none, gone) in
      inl nothing
  back_is bytes old new false last seam =
      let s = seam refl in
      let own : IsCut now.lines = cut_back now.header now.lines cut begun (subst IsCut (sym same) s.whole) in
      inr (begins_longer now.rest new (subst BeginsLine (sym rest) s.line), All-cons (λ (w : Stretch). IsCut w.lines) now [] own (All-nil (λ (w : Stretch). IsCut w.lines)))

  pub first_part : (from old new : Option (List ℕ)) (is_last : Bool) → HasRead reading from old [] feeds was.rest → Fills old new was.rest (full.lines ++ full.rest) → (is_last ≡ true → (full.rest ≡ []) × IsAtEnd new)
      → (is_last ≡ false → IsSeam full.lines full.rest) → HasPart reading from new (record_at header 0 ∷ []) (feeds + count_feeds now.header) (now ∷ []) now.rest
  first_part None old new is_last read f last seam = tt
  first_part (Some bytes) None new is_last read f last seam = absurd read
  first_part (Some bytes) (Some old) None is_last read f last seam = absurd f.1
  first_part (Some bytes) (Some old) (Some new) is_last read f last seam =
      let left = parted_left was.rest old new f.0 full now f.1 f.2 same rest in
      record {
        front = read.front ++ now.header;
        are = read.are ∙ (ap (λ (l : List ℕ). read.front ++ l) left ∙ sym (append_assoc read.front now.header (lines_of (now ∷ []) ++ (now.rest ++ new))));
        is = elim read.begins [
          | inl none ↦ ap (λ (l : List ℕ). records_as reading (l ++ now.header)) none ∙ (sym record_is ∙ alone)
          | inr begins ↦
              as_add_up reading read.front now.header (record { whole = read.whole; line = begun_header begins }) ∙ (ap (λ (l : Table). l ++ records_as reading now.header) read.is ∙ (sym record_is ∙ alone))
        ];
        feeds = count_append read.front now.header ∙ ap (λ (n : ℕ). n + count_feeds now.header) read.feeds;
        whole = elim read.begins [ inl none ↦ subst (λ (l : List ℕ). IsCut (l ++ now.header)) (sym none) cut | inr begins ↦ cut_append read.front now.header read.whole (begun_header begins) cut ];
        cuts = λ k low. absurd (omega (arith, low));
        next = back_is bytes old new is_last last seam;
      }

-- if it has lines, they begin with the end of a line
pub parted_begins : (reading : Reading) (w : Stretch) → IsLined reading w → 0 < length w.lines → BeginsLine w.lines
parted_begins reading w lined some = elim lined.begins [ inl none ↦ absurd (omega (arith, some, ap length none)) | inr line ↦ line ]

-- what holds of the parts of the first window holds of it
pub first_has : (P : Stretch → Table → Bool → ℕ → Type 0) (window : Stretch) (header : Table) (is_last : Bool) (feeds : ℕ) (f : First) → IsFirst window header is_last feeds f → P window header is_last (feeds + count_feeds window.header)
    → P f.window f.header f.is_last f.feeds
first_has P window header is_last feeds f is p =
    subst (λ (w : Stretch). P w f.header f.is_last f.feeds) (sym is.window)
    (subst (λ (h : Table). P window h f.is_last f.feeds) (sym is.header) (subst (λ (b : Bool). P window header b f.feeds) (sym is.last) (subst (P window header is_last) (sym is.feeds) p)))
