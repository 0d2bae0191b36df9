-- From the ends of lines that a scan knows to the places at which a text can be cut.
use Rattle.std.proofs.Common.{◌≡◌, ◌<◌, ◌+◌, ◌-◌, ◌∙◌, ℕ, true, List, length, length-take, take, drop, slice_index, refl, ap, subst, sym, arith}
use Rattle.std.proofs.lemmas.List.{get_or-drop, get_or-take, length-drop, take-take}
use Rattle.csv.specs.Reading.{strip_bom}
use Rattle.csv.specs.declared.parser.State.{State}
use Rattle.csv.specs.declared.parser.State.TheVariants as st
use Rattle.csv_rows.specs.Cuts.{IsCut, ends_quoted, is_quoted, state_after}
use Rattle.csv_rows.specs.declared.place.Place.TheVariants as place
use Rattle.csv_rows.proofs.Follows.{place_of, scan-cut, scan-follows}
use Rattle.csv_rows.proofs.Marks.{text-marked}
use Rattle.row_windows.specs.Ends.{IsOpenEnd, NoneBelow}
use Rattle.row_windows.specs.Seams.{IsCutAt, NoCut, is_line_end}

-- a text can be cut where a line of it ends outside quotes, behind a byte order mark
pub cut-marked : (bytes : List ℕ) (at : ℕ) → IsOpenEnd (strip_bom bytes) at → IsCutAt bytes (length bytes - length (strip_bom bytes) + at)
cut-marked bytes at end =
    let marked = text-marked bytes at end.within in
    let p = length bytes - length (strip_bom bytes) + at in
    let size = length-drop p bytes in
    let here : p + 0 ≡ p = omega arith in
    let byte : slice_index (drop p bytes) 0 ≡ slice_index (strip_bom bytes) at = get_or-drop p bytes 0 0 ∙ (ap (slice_index bytes) here ∙ marked.byte) in
    record {
      low = omega (arith, end.low);
      within = marked.bound;
      seam = record {
        whole = ap ends_quoted marked.front ∙ scan-cut (take at (strip_bom bytes)) end.outside;
        line = record { some = omega (arith, size, marked.bound); is = ap is_line_end byte ∙ end.line };
      };
    }

-- a place at which a front can be cut is one of the whole text
pub cut-longer : (text : List ℕ) (n at : ℕ) → IsCutAt (take n text) at → IsCutAt text at
cut-longer text n at cut =
    let size = length-take n text in
    let below : at < n = omega (arith, cut.within, size) in
    let front : take at (take n text) ≡ take at text = take-take at n text (omega (arith, below)) in
    let byte : slice_index (drop at (take n text)) 0 ≡ slice_index (drop at text) 0 =
    get_or-drop at (take n text) 0 0 ∙ get_or-take n text (at + 0) 0 (omega (arith, below)) ∙ sym (get_or-drop at text 0 0) in
    record {
      low = cut.low;
      within = omega (arith, cut.within, size);
      seam = record {
        whole = subst IsCut front cut.seam.whole;
        line = record { some = omega (arith, length-drop at text, cut.within, size); is = ap is_line_end (sym byte) ∙ cut.seam.line.is };
      };
    }

is-quoted : (s : State) → place_of s ≡ place.Quoted → s ≡ st.InQuoted
is-quoted st.InQuoted h = refl
is-quoted st.StartRecord h = cc
is-quoted st.StartField h = cc
is-quoted st.InField h = cc
is-quoted st.AfterQuote h = cc
is-quoted st.InEscape h = cc
is-quoted st.InComment h = cc
is-quoted st.AfterCr h = cc

pub place-quoted : (s : State) → place_of s ≡ place.Quoted → is_quoted s ≡ true
place-quoted s h = ap is_quoted (is-quoted s h)

-- and at no other place
pub no-cut : (text : List ℕ) → NoneBelow text (length text) → NoCut text
no-cut text none = λ at low lt line.
    let is = scan-follows st.StartRecord (take at text) refl in
    is-quoted (state_after st.StartRecord (take at text)) (is.1 ∙ none at low lt line)
