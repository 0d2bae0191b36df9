-- What is left of a text, and what was read of it, as a line goes on and ends.
use Rattle.std.proofs.Common.{◌≡◌, ◌≢◌, ◌⊎◌, inl, inr, ◌+◌, ◌++◌, ◌∙◌, ℕ, Bool, true, false, List, [], ◌∷◌, Option, None, Some, IfSome, ap, append-nil, append_assoc, arith, drop, refl, subst, sym, take, take-append-drop}
use Rattle.std.specs.Prelude.{option_map}
use Rattle.std.specs.Io.KnownBytes.{Consumes, IsAtEnd, prepend_known}
use Rattle.std.proofs.lemmas.List.Elements.{All-cons, All-nil}
use Rattle.csv_rows.specs.Cuts.{IsCut, ends_quoted}
use Rattle.csv_rows.specs.Places.{place_after}
use Rattle.csv_rows.specs.Readings.{records_as}
use Rattle.csv_rows.specs.declared.cleaning.Reading.{Reading}
use Rattle.csv_rows.specs.declared.place.Place.{Place}
use Rattle.csv_rows.specs.declared.place.Place.TheVariants as place
use Rattle.csv_rows.proofs.Follows.{scan-cut}
use Rattle.row_blocks.specs.Blocks.{Table}
use Rattle.row_windows.specs.Seams.{BeginsLine, is_line_end}
use Rattle.row_windows.specs.Stretch.{Fills, Stretch}
use Rattle.text_lines.specs.Feeds.{count_feeds}
use Rattle.text_lines.proofs.Parts.{no_mark}
use Rattle.par_model.specs.Plan.{Plan}
use Rattle.good_rows.specs.Good.{has_good}
use Rattle.good_rows.specs.Judging.{GoesOn}
use Rattle.good_rows.specs.Lines.{IsBegun, ends_here, left_of, line_left}
use Rattle.good_rows.proofs.Left.{all_left, begins_one}
use Rattle.stream_groups.specs.Reading.{Begins, HasPart, HasRead}
use Rattle.stream_groups.proofs.ReadAs.{as_add_up}
use Rattle.stream_groups.proofs.Windows.{begins_longer, filled}

-- outside quotes, a line is cut at its end
pub begun_cut : (line : List ℕ) (p : Place) → IsBegun line p → p ≢ place.Quoted → IsCut line
begun_cut line p b apart = ap ends_quoted (no_mark line b.begins) ∙ scan-cut line (λ quoted. apart (b.place ∙ quoted))

-- so are lines that begin with the end of a line
pub lines_cut : (text : List ℕ) → BeginsLine text → place_after place.Opens text ≢ place.Quoted → IsCut text
lines_cut text begins apart = ap ends_quoted (no_mark text begins) ∙ scan-cut text apart

-- ---- a line goes on

-- what is read on into the rest is read
read_longer : (reading : Reading) (from old new : Option (List ℕ)) (records : Table) (feeds : ℕ) (was rest : List ℕ) → HasRead reading from old records feeds was → Fills old new was rest → HasRead reading from new records feeds rest
read_longer reading None old new records feeds was rest read f = tt
read_longer reading (Some bytes) None new records feeds was rest read f = absurd read
read_longer reading (Some bytes) (Some old) None records feeds was rest read f = absurd f.1
read_longer reading (Some bytes) (Some old) (Some new) records feeds was rest read f =
    let left : was ++ old ≡ rest ++ new = ap (λ (l : List ℕ). was ++ l) f.1 ∙ (sym (append_assoc was f.0 new) ∙ ap (λ (l : List ℕ). l ++ new) (sym f.2)) in
    record {
      front = read.front;
      are = read.are ∙ ap (λ (l : List ℕ). read.front ++ l) left;
      is = read.is;
      feeds = read.feeds;
      whole = read.whole;
      begins = elim read.begins [ inl none ↦ inl none | inr line ↦ inr (subst BeginsLine (sym f.2) (begins_longer was f.0 line)) ];
      parts = read.parts ∙ ap (λ (l : List ℕ). records ++ records_as reading l) left;
    }

pub moved_left : (k : List ℕ → Bool) (ahead pending line : List ℕ) (p q : Place) (at : ℕ) (left : Option (List ℕ)) → GoesOn p pending at q
    → prepend_known ahead (option_map (left_of k p line) (prepend_known pending left)) ≡ prepend_known ahead (option_map (left_of k q (line ++ take at pending)) (prepend_known (drop at pending) left))
moved_left k ahead pending line p q at None on = refl
moved_left k ahead pending line p q at (Some rest) on = ap (λ (t : List ℕ). Some (ahead ++ t)) (on.left k line rest)

moves : (pending line : List ℕ) (at : ℕ) (left : Option (List ℕ)) → Consumes (prepend_known pending left) (prepend_known (drop at pending) left) (take at pending)
moves pending line at None = tt
moves pending line at (Some rest) = ap (λ (t : List ℕ). t ++ rest) (sym (take-append-drop at pending)) ∙ append_assoc (take at pending) (drop at pending) rest

pub moved_read : (reading : Reading) (from left : Option (List ℕ)) (records : Table) (feeds : ℕ) (line pending : List ℕ) (at : ℕ) → HasRead reading from (prepend_known pending left) records feeds line
    → HasRead reading from (prepend_known (drop at pending) left) records feeds (line ++ take at pending)
moved_read reading from left records feeds line pending at read =
    read_longer reading from (prepend_known pending left) (prepend_known (drop at pending) left) records feeds line (line ++ take at pending) read (take at pending, moves pending line at left, refl)

-- ---- a line ends

ended : (k : List ℕ → Bool) (p : Place) (c : ℕ) (line rest : List ℕ) → ends_here p c ≡ true → left_of k p line (c ∷ rest) ≡ line_left k line ++ left_of k (place_after p (c ∷ [])) (c ∷ []) rest
unfolding left_of
ended k p c line rest ends = rw ends refl

pub closed_left : (k : List ℕ → Bool) (ahead rest line : List ℕ) (p : Place) (c : ℕ) (left : Option (List ℕ)) → ends_here p c ≡ true
    → prepend_known ahead (option_map (left_of k p line) (prepend_known (c ∷ rest) left)) ≡ prepend_known (ahead ++ line_left k line) (option_map (left_of k (place_after p (c ∷ [])) (c ∷ [])) (prepend_known rest left))
closed_left k ahead rest line p c None ends = refl
closed_left k ahead rest line p c (Some more) ends =
    ap (λ (t : List ℕ). Some (ahead ++ t)) (ended k p c line (rest ++ more) ends) ∙ ap Some (sym (append_assoc ahead (line_left k line) (left_of k (place_after p (c ∷ [])) (c ∷ []) (rest ++ more))))

one_moves : (c : ℕ) (rest : List ℕ) (left : Option (List ℕ)) → Consumes (prepend_known (c ∷ rest) left) (prepend_known rest left) (c ∷ [])
one_moves c rest None = tt
one_moves c rest (Some more) = refl

pub closed_read : (reading : Reading) (from left : Option (List ℕ)) (records : Table) (feeds : ℕ) (line rest : List ℕ) (c : ℕ) → is_line_end c ≡ true → IsCut line → BeginsLine line
    → HasRead reading from (prepend_known (c ∷ rest) left) records feeds line → HasRead reading from (prepend_known rest left) (records ++ records_as reading line) (feeds + count_feeds line) (c ∷ [])
closed_read reading from left records feeds line rest c ends cut begins read =
    (filled reading from (prepend_known (c ∷ rest) left) (prepend_known rest left) line line (c ∷ []) records feeds false read ((c ∷ []), one_moves c rest left, refl) (λ e. let bad : false ≡ true = e in cc bad)
    (λ _. record { whole = cut; line = begins_one c [] ends }) (λ _. begins)).more refl

-- ---- whole lines

-- lines without a refused row are left
pub leapt_left : (reading : Reading) (plan : Plan) (width : ℕ) (ahead pending line rest : List ℕ) (p : Place) (at c : ℕ) (left : Option (List ℕ)) → IsBegun line p → has_good reading plan width (line ++ take at pending) ≡ true → drop at pending ≡ c ∷ rest
    → ends_here (place_after p (take at pending)) c ≡ true
    → prepend_known ahead (option_map (left_of (has_good reading plan width) p line) (prepend_known pending left))
    ≡ prepend_known (ahead ++ (line ++ take at pending)) (option_map (left_of (has_good reading plan width) (place_after (place_after p (take at pending)) (c ∷ [])) (c ∷ [])) (prepend_known rest left))
leapt_left reading plan width ahead pending line rest p at c None begun good behind ends = refl
leapt_left reading plan width ahead pending line rest p at c (Some more) begun good behind ends =
    let k = has_good reading plan width in
    let parts : pending ++ more ≡ take at pending ++ c ∷ (rest ++ more) =
    ap (λ (t : List ℕ). t ++ more) (sym (take-append-drop at pending)) ∙ append_assoc (take at pending) (drop at pending) more ∙ ap (λ (t : List ℕ). take at pending ++ (t ++ more)) behind in
    let after = left_of k (place_after (place_after p (take at pending)) (c ∷ [])) (c ∷ []) (rest ++ more) in
    ap (λ (t : List ℕ). Some (ahead ++ t)) (ap (left_of k p line) parts ∙ all_left reading plan width line (take at pending) (rest ++ more) p c begun good ends)
    ∙ ap Some (sym (append_assoc ahead (line ++ take at pending) after))

-- ---- a line is one of the bytes

module _ (reading : Reading) (records : Table) (feeds : ℕ) (w : Stretch) where
  pub is_part : (from old : Option (List ℕ)) → HasRead reading from old records feeds w.lines → IfSome old (λ back. (back ≡ []) ⊎ (BeginsLine back × IsCut w.lines)) → HasPart reading from old records feeds (w ∷ []) []
  is_part None old read next = tt
  is_part (Some bytes) None read next = absurd read
  is_part (Some bytes) (Some back) read next = record {
    front = read.front;
    are = read.are ∙ ap (λ (t : List ℕ). read.front ++ (t ++ back)) (sym (append-nil w.lines));
    is = read.is;
    feeds = read.feeds;
    whole = read.whole;
    cuts = λ k below. absurd (omega (arith, below));
    next = elim next [
      | inl none ↦ inl none
      | inr more ↦ inr (more.0, All-cons (λ (v : Stretch). IsCut v.lines) w [] more.1 (All-nil (λ (v : Stretch). IsCut v.lines)))
    ];
  }

  pub begins_part : (from old : Option (List ℕ)) → HasRead reading from old records feeds w.lines → IfSome old (λ back. (back ≡ []) ⊎ (BeginsLine back × IsCut w.lines)) → Begins reading from (records ++ records_as reading w.lines)
  begins_part None old read next = tt
  begins_part (Some bytes) None read next = absurd read
  begins_part (Some bytes) (Some back) read next = elim next [
    | inl none ↦ (
      [],
      read.parts ∙ ap (λ (t : List ℕ). records ++ records_as reading (w.lines ++ t)) none ∙ ap (λ (t : List ℕ). records ++ records_as reading t) (append-nil w.lines)
          ∙ sym (append-nil (records ++ records_as reading w.lines)),
    )
    | inr more ↦
        (records_as reading back, read.parts ∙ ap (λ (t : Table). records ++ t) (as_add_up reading w.lines back (record { whole = more.1; line = more.0 })) ∙ sym (append_assoc records (records_as reading w.lines) (records_as reading back)))
  ]

-- all of them, at the end
pub all_read : (reading : Reading) (from old : Option (List ℕ)) (records : Table) (feeds : ℕ) (line : List ℕ) → HasRead reading from old records feeds line → IsAtEnd old → IfSome from (λ bytes. records_as reading bytes ≡ records ++ records_as reading line)
all_read reading None old records feeds line read end = tt
all_read reading (Some bytes) None records feeds line read end = absurd read
all_read reading (Some bytes) (Some back) records feeds line read end =
    read.parts ∙ ap (λ (t : List ℕ). records ++ records_as reading (line ++ t)) end ∙ ap (λ (t : List ℕ). records ++ records_as reading t) (append-nil line)
