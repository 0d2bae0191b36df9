-- What a tile is when nothing was given of it yet.
use Rattle.std.proofs.Common.{◌≡◌, ◌<◌, ◌≤◌, ◌+◌, ◌-◌, ◌∙◌, ◌⊎◌, ℕ, zero, suc, true, false, List, [], ◌∷◌, ◌++◌, Option, None, Some, append_assoc, length, length-append, length-drop, take, drop, slice_index, refl, sym, ap, arith, max, inl, inr, take-append-drop}
use Rattle.std.specs.Prelude.{◌==◌, IfSome}
use Rattle.std.proofs.lemmas.Bool.{cases_Bool, cases_lt, eqb-true}
use Rattle.std.proofs.lemmas.List.{drop_all, get_or-drop, length-take}
use Rattle.std.specs.Io.KnownBytes.{Consumes}
use Rattle.csv.specs.Reading.{strip_bom}
use Rattle.csv_rows.specs.Cuts.{IsCut}
use Rattle.csv_rows.specs.Places.{place_after}
use Rattle.csv_rows.specs.declared.place.Place.{Place}
use Rattle.csv_rows.specs.declared.place.Place.TheVariants as place
use Rattle.csv_rows.proofs.Follows.{scan-cut}
use Rattle.row_windows.specs.Seams.{BeginsLine, IsSeam, is_line_end}
use Rattle.tile_source.specs.Begins.{Begins, Brings, Brought, EndsInRecord, IsLineEnd}
use Rattle.tile_source.specs.Finding.{HasBegun, OpensAt}
use Rattle.tile_source.specs.Header.{EndsHere, IsAll, IsHeaded}
use Rattle.tile_source.specs.Left.{lack, tile_left, zeros}
use Rattle.tile_source.specs.Scan.{cut_len, cut_rest, cut_text, is_seam}
use Rattle.tile_source.specs.declared.open.Begin.{Begin}
use Rattle.tile_source.specs.declared.open.Span.{Span}
use Rattle.tile_source.specs.declared.tile.Tile.{Tile}
use Rattle.tile_source.proofs.Scans.{is-line, is-outside}

-- ---- what a scan finds

-- a scan ends within the bytes
cut-within : (p : Place) (least : ℕ) (xs : List ℕ) → cut_len p least xs ≤ length xs
unfolding cut_len
cut-within p zero [] = omega arith
cut-within p (suc n) [] = omega arith
cut-within p zero (c ∷ xs) = elim (cases_Bool (is_seam p c)) [
  | inl e ↦ rw e (omega arith)
  | inr e ↦ let later = cut-within (place_after p (c ∷ [])) 0 xs in rw e (omega (arith, later))
]
cut-within p (suc n) (c ∷ xs) = let later = cut-within (place_after p (c ∷ [])) n xs in omega (arith, later)

-- and before their end only at a seam, from some place on
record Ends (p : Place) (least : ℕ) (xs : List ℕ) (n : ℕ) : Type 0 where
  low : least ≤ n
  seam : is_seam (place_after p (take n xs)) (slice_index xs n) ≡ true

cut-ends : (p : Place) (least : ℕ) (xs : List ℕ) → cut_len p least xs < length xs → Ends p least xs (cut_len p least xs)
unfolding cut_len place_after
cut-ends p least [] lt = absurd (omega (arith, lt))
cut-ends p zero (c ∷ xs) lt = elim (cases_Bool (is_seam p c)) [
  | inl e ↦ rw e (record { low = omega arith; seam = e })
  | inr e ↦
      let short = rw e at lt in
      let later = cut-ends (place_after p (c ∷ [])) 0 xs (omega (arith, short)) in
      rw e (record { low = omega arith; seam = later.seam })
]
cut-ends p (suc n) (c ∷ xs) lt =
    let later = cut-ends (place_after p (c ∷ [])) n xs (omega (arith, lt)) in
    record { low = omega (arith, later.low); seam = later.seam }

-- ---- where the bytes of a tile can be cut

-- bytes that do not begin as a byte order mark does
abbrev NoMark : List ℕ → Type 0
NoMark [] = Unit {0}
NoMark (c ∷ xs) = (c == 239) ≡ false

no-strip : (xs : List ℕ) → NoMark xs → strip_bom xs ≡ xs
unfolding strip_bom
no-strip [] h = refl
no-strip (a ∷ []) h = refl
no-strip (a ∷ b ∷ []) h = refl
no-strip (a ∷ b ∷ c ∷ rest) h = rw h refl

no-mark-front : (xs : List ℕ) (n : ℕ) → NoMark xs → NoMark (take n xs)
no-mark-front [] zero h = tt
no-mark-front [] (suc n) h = tt
no-mark-front (c ∷ xs) zero h = tt
no-mark-front (c ∷ xs) (suc n) h = h

no-mark-line : (xs ys : List ℕ) → BeginsLine xs → NoMark (xs ++ ys)
no-mark-line [] ys line = absurd (omega (arith, line.some))
no-mark-line (c ∷ xs) ys line = elim (cases_Bool (c == 239)) [
  | inl e ↦ let is = eqb-true c 239 e in let bad = rw is at line.is in cc bad
  | inr e ↦ e
]

no-mark-zeros : (n : ℕ) → NoMark (zeros n)
unfolding zeros
no-mark-zeros zero = tt
no-mark-zeros (suc n) = refl

-- the bytes of a tile, and those that the source lacks
no-mark-tail : (tail : List ℕ) (n : ℕ) → (tail ≡ []) ⊎ BeginsLine tail → NoMark (tail ++ zeros n)
no-mark-tail tail n (inl none) = rw none (no-mark-zeros n)
no-mark-tail tail n (inr line) = no-mark-line tail (zeros n) line

-- a tile ends at a seam, or with the bytes
tile-end : (at to : ℕ) (xs : List ℕ) → NoMark xs
    → (cut_rest place.Opens (max to at - at) xs ≡ []) ⊎ (IsSeam (cut_text place.Opens (max to at - at) xs) (cut_rest place.Opens (max to at - at) xs) × (to ≤ at + length (cut_text place.Opens (max to at - at) xs)))
tile-end at to xs clear =
    let least = max to at - at in
    let n = cut_len place.Opens least xs in
    let within = cut-within place.Opens least xs in
    elim (cases_lt n (length xs)) [
      | inl below ↦
          let ends = cut-ends place.Opens least xs below in
          let front = take n xs in
          let strip : strip_bom front ≡ front = no-strip front (no-mark-front xs n clear) in
          let whole : IsCut front = rw strip (scan-cut front (is-outside (place_after place.Opens front) (slice_index xs n) ends.seam)) in
          let line : BeginsLine (drop n xs) = record {
            some = omega (arith, below, length-drop n xs);
            is = ap is_line_end (get_or-drop n xs 0 0 ∙ ap (slice_index xs) (omega arith)) ∙ is-line (place_after place.Opens front) (slice_index xs n) ends.seam;
          } in
          inr (record { whole = whole; line = line }, omega (arith, ends.low, length-take n xs, below))
      | inr above ↦ inl (drop_all n xs (omega (arith, above)))
    ]

-- ---- what a source brings

begins-more : (xs ys : List ℕ) → BeginsLine xs → BeginsLine (xs ++ ys)
begins-more [] ys line = absurd (omega (arith, line.some))
begins-more (c ∷ xs) ys line = record { some = omega (arith, length-append xs ys); is = line.is }

both-none : (xs ys : List ℕ) → xs ≡ [] → ys ≡ [] → xs ++ ys ≡ []
both-none xs ys a b = rw (a, b) refl

-- a tile from a place on, of these bytes
pub begins-at : (span : Span) (bytes : List ℕ) (b : Begin) (t : Tile) (s : Brought) (header ahead : List ℕ) (at : ℕ) (left : List ℕ) → OpensAt span header ahead at b t → Brings span bytes b s
    → s.header ≡ header → s.tail ≡ ahead ++ left → Begins span bytes b (tile_left t (Some left))
begins-at span bytes b t s header ahead at left opens brings head tail =
    let xs = s.tail ++ lack span.size b.at s.tail in
    let least = max span.to b.at - b.at in
    let end = tile-end b.at span.to xs (no-mark-tail s.tail (span.size - (b.at + length s.tail)) brings.begins) in
    record {
      brought = s;
      brings = brings;
      body = cut_text place.Opens least xs;
      rest = cut_rest place.Opens least xs;
      is_tile = record { are = sym (take-append-drop (cut_len place.Opens least xs) xs); end = end };
      left_is = rw (opens.header_is, opens.cut_is, opens.ahead_is, opens.at_is, head, tail) refl;
    }

all-header : (text : List ℕ) (end : ℕ) (left : Option (List ℕ)) → IsHeaded text end left → end ≤ length text
all-header text end left (inl ends) = omega (arith, ends.cut.within)
all-header text end left (inr all) = omega (arith, all.all)

-- nothing follows a header that is all of a source
no-tail : (text : List ℕ) (end : ℕ) (left : List ℕ) → IsAll text end (Some left) → drop end text ++ left ≡ []
no-tail text end left all = both-none (drop end text) left (drop_all end text (omega (arith, all.all))) all.at_end

-- the file from its front on
pub opens-front : (span : Span) (b : Begin) (t : Tile) (text header after : List ℕ) (end : ℕ) (old new : Option (List ℕ)) → span.from ≡ 0 → IsHeaded text end new → Consumes old new text → header ≡ take end text → after ≡ drop end text
    → OpensAt span header after end b t → IfSome old (λ bytes. Begins span bytes b (tile_left t new))
opens-front span b t text header after end None new first headed reads front back opens = tt
opens-front span b t text header after end (Some bytes) None first headed reads front back opens = absurd reads
opens-front span b t text header after end (Some bytes) (Some left) first headed reads front back opens =
    let s : Brought = record { header = take end text; line_end = []; passed = []; tail = drop end text ++ left } in
    let long : length header ≡ length (take end text) = ap length front in
    let size = length-take end text in
    let within = all-header text end (Some left) headed in
    let brings : Brings span bytes b s = record {
      are = reads ∙ (ap (λ (l : List ℕ). l ++ left) (sym (take-append-drop end text)) ∙ append_assoc (take end text) (drop end text) left);
      front = inl (
        first,
        record {
          no_line = refl;
          no_passed = refl;
          at = omega (arith, opens.at_is, size, within);
          whole = elim headed [ inl ends ↦ inr ends.cut.seam.whole | inr all ↦ inl (no-tail text end left all) ];
        },
      );
      header = opens.long ∙ long;
      one = elim headed [ inl ends ↦ inl ends.one | inr all ↦ inr (no-tail text end left all) ];
      begins = elim headed [ inl ends ↦ inr (begins-more (drop end text) left ends.cut.seam.line) | inr all ↦ inl (no-tail text end left all) ];
    } in
    begins-at span bytes b t s header after end left opens brings (sym front) (ap (λ (l : List ℕ). l ++ left) (sym back))

-- no end of a line is in nothing
pub no-line-end : (n : ℕ) (xs : List ℕ) → xs ≡ [] → IsLineEnd (take n xs) → ⊥
no-line-end zero xs none (inl is) = cc is
no-line-end zero xs none (inr is) = cc is
no-line-end (suc n) [] none (inl is) = cc is
no-line-end (suc n) [] none (inr is) = cc is
no-line-end (suc n) (x ∷ xs) none line = cc none

-- a header's line, and the file from a place on
pub opens-place : (span : Span) (b : Begin) (t : Tile) (text header after rest : List ℕ) (end n at : ℕ) (old mid new : Option (List ℕ)) → 0 < span.from → IsHeaded text end mid → Consumes old mid text → header ≡ take end text → after ≡ drop end text
    → EndsInRecord (take end text) → IsLineEnd (take n after) → HasBegun (drop n after) mid new span.from at rest → OpensAt span header rest at b t → IfSome old (λ bytes. Begins span bytes b (tile_left t new))
opens-place span b t text header after rest end n at None mid new some headed reads front back last line begun opens = tt
opens-place span b t text header after rest end n at (Some bytes) None new some headed reads front back last line begun opens = absurd reads
opens-place span b t text header after rest end n at (Some bytes) (Some m) None some headed reads front back last line begun opens = absurd begun.reads
opens-place span b t text header after rest end n at (Some bytes) (Some m) (Some left) some headed reads front back last line begun opens =
    let s : Brought = record { header = take end text; line_end = take n after; passed = begun.passed; tail = rest ++ left } in
    let ends : EndsHere text end = elim headed [
      | inl ends ↦ ends
      | inr all ↦ absurd (no-line-end n after (back ∙ drop_all end text (omega (arith, all.all))) line)
    ] in
    let passed : after ++ m ≡ take n after ++ (begun.passed ++ (rest ++ left)) =
    ap (λ (l : List ℕ). l ++ m) (sym (take-append-drop n after)) ∙ (append_assoc (take n after) (drop n after) m ∙ ap (λ (l : List ℕ). take n after ++ l) begun.reads) in
    let whole : text ++ m ≡ take end text ++ (after ++ m) =
    ap (λ (l : List ℕ). l ++ m) (sym (take-append-drop end text)) ∙ (append_assoc (take end text) (drop end text) m ∙ ap (λ (l : List ℕ). take end text ++ (l ++ m)) (sym back)) in
    let brings : Brings span bytes b s = record {
      are = reads ∙ (whole ∙ ap (λ (l : List ℕ). take end text ++ l) passed);
      front = inr (some, record { line = line; at = opens.at_is ∙ begun.at_is; one = ends.one; whole = ends.cut.seam.whole; last = last });
      header = opens.long ∙ ap length front;
      one = inl ends.one;
      begins = elim begun.begins [ inl first ↦ inr (begins-more rest left first) | inr none ↦ inl (both-none rest left none.0 none.1) ];
    } in
    begins-at span bytes b t s header rest at left opens brings (sym front) refl
