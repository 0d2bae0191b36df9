-- What a sifter is after a line went on or ended.
use Rattle.std.proofs.Common.{◌≡◌, ◌⊎◌, inl, inr, ◌<◌, ◌≤◌, ◌+◌, ◌++◌, ◌^◌, ◌∙◌, ℕ, Bool, true, false, List, [], ◌∷◌, Option, None, Some, IfSome, ap, append-nil, arith, drop, length, length-drop, refl, subst, suc, sym, take, zero}
use Rattle.std.specs.Prelude.{◌==◌, if◌then◌else◌, option_map, slice_index}
use Rattle.std.proofs.lemmas.List.{drop_more, get_or-drop}
use Rattle.std.specs.List.{list_all}
use Rattle.std.specs.Io.KnownBytes.{IsAtEnd, Keeps, prepend_known}
use Rattle.csv_rows.specs.Cuts.{IsCut}
use Rattle.csv_rows.specs.Places.{place_after}
use Rattle.csv_rows.specs.Readings.{records_as}
use Rattle.csv_rows.proofs.Scans.{place-append}
use Rattle.csv_rows.specs.declared.place.Place.{Place}
use Rattle.csv_rows.specs.declared.place.Place.TheVariants as place
use Rattle.par_model.specs.Refuse.{refusal}
use Rattle.par_model.specs.declared.refusal.Refusal.{Refusal}
use Rattle.row_windows.specs.Seams.{BeginsLine, is_line_end}
use Rattle.text_lines.specs.Feeds.{count_feeds}
use Rattle.good_rows.specs.Good.{is_good}
use Rattle.good_rows.specs.Judging.{GoesOn}
use Rattle.good_rows.specs.Lines.{IsBegun, ends_here, left_of, line_left}
use Rattle.good_rows.proofs.Left.{begins_one, begun_one, ends_cases}
use Rattle.stream_groups.specs.Reading.{HasRead}
use Rattle.good_groups.specs.Counted.{AreRules, Counts, CountsNot, HasCounted, IsNext, line_stretch}
use Rattle.good_groups.specs.Opened.{Opened}
use Rattle.good_groups.specs.Sifting.{IsHalted, IsOpen, IsReady, Sifts, keeps, sifter_left}
use Rattle.good_groups.specs.Sifting.{GoesOn as Goes}
use Rattle.good_groups.specs.declared.sieve.Sifting.{Sifting}
use Rattle.good_groups.specs.declared.sifter.Rules.{Rules}
use Rattle.good_groups.specs.declared.sifter.Sifter.{Sifter}
use Rattle.stream_groups.proofs.Windows.{begins_longer}
use Rattle.good_groups.proofs.Texts.{all_read, begins_part, begun_cut, closed_left, closed_read, is_part, leapt_left, lines_cut, moved_left, moved_read}

pub sifts_none : (r : Rules) (s : Sifter) → Sifts r s s
sifts_none r s = record { left = λ left. refl; counts = λ o left are is. is }

pub sifts_then : (r : Rules) (a b c : Sifter) → Sifts r a b → Sifts r b c → Sifts r a c
sifts_then r a b c f g = record { left = λ left. f.left left ∙ g.left left; counts = λ o left are is. g.counts o left are (f.counts o left are is) }

-- what is left, by its parts
abbrev pub left_by : (List ℕ → Bool) → Option (List ℕ) → List ℕ → List ℕ → List ℕ → Place → Option (List ℕ)
left_by k left ahead pending line p = prepend_known ahead (option_map (left_of k p line) (prepend_known pending left))

pub same_left : (k : List ℕ → Bool) (left : Option (List ℕ)) (ahead ahead' pending pending' line line' : List ℕ) (p p' : Place) → ahead' ≡ ahead → pending' ≡ pending → line' ≡ line → p' ≡ p → left_by k left ahead pending line p ≡ left_by k left ahead' pending' line' p'
same_left k left ahead ahead' pending pending' line line' p p' a b c d = rw (a, b, c, d) refl

module _ (r : Rules) (s n : Sifter) where
  -- a line goes on
  pub sifts_on : (at : ℕ) → n.line.items ≡ s.line.items ++ take at s.pending → n.pending ≡ drop at s.pending → n.ahead ≡ s.ahead → n.tally ≡ s.tally → GoesOn s.place s.pending at n.place → Sifts r s n
  sifts_on at line pending ahead tally on = record {
    left = λ left.
        moved_left (keeps r) s.ahead s.pending s.line.items s.place n.place at left on
        ∙ same_left (keeps r) left s.ahead n.ahead (drop at s.pending) n.pending (s.line.items ++ take at s.pending) n.line.items n.place n.place ahead pending line refl;
    counts = λ o left are is. record {
      rows = is.rows;
      counted = subst (λ t. HasCounted o r.bound.now t is.rows) (sym tally) is.counted;
      begun = subst (λ (t : List ℕ). IsBegun t n.place) (sym line) (on.begun s.line.items is.begun);
      cut = is.cut;
      few = omega (arith, is.few, ap (λ t. t.feeds) tally);
      read =
          subst (λ t. HasRead o.query.reading o.from (prepend_known n.pending left) (o.header ∷ is.rows) t.feeds n.line.items) (sym tally)
          (subst (λ (t : List ℕ). HasRead o.query.reading o.from (prepend_known n.pending left) (o.header ∷ is.rows) s.tally.feeds t) (sym line)
          (subst (λ (t : List ℕ). HasRead o.query.reading o.from (prepend_known t left) (o.header ∷ is.rows) s.tally.feeds (s.line.items ++ take at s.pending)) (sym pending)
          (moved_read o.query.reading o.from left (o.header ∷ is.rows) s.tally.feeds s.line.items s.pending at is.read)));
    };
  }

  next_begins : (c : ℕ) (rest line : List ℕ) (left : Option (List ℕ)) → is_line_end c ≡ true → IsCut line → IfSome (prepend_known (c ∷ rest) left) (λ back. (back ≡ []) ⊎ (BeginsLine back × IsCut line))
  next_begins c rest line None ends cut = tt
  next_begins c rest line (Some more) ends cut = inr (begins_one c (rest ++ more) ends, cut)

  -- the rows of some lines that end were counted, and the next line begins
  opens_over : (text : List ℕ) (c : ℕ) (rest : List ℕ) (q : Place) → ends_here q c ≡ true → BeginsLine text → IsCut text → n.pending ≡ rest → n.line.items ≡ c ∷ [] → n.place ≡ place_after q (c ∷ []) → Counts r text s.tally n.tally
      → n.tally.feeds ≡ s.tally.feeds + count_feeds text → n.tally.feeds ≤ 2 ^ 60 → (o : Opened) (left : Option (List ℕ)) → AreRules o r → (is : IsOpen o left r s)
      → HasRead o.query.reading o.from (prepend_known (c ∷ rest) left) (o.header ∷ is.rows) s.tally.feeds text → IsOpen o left r n
  opens_over text c rest q ends begins cut now line at counts feeds few o left are is read =
      let is_end = ends_cases q c ends in
      let old = prepend_known (c ∷ rest) left in
      let next_is = next_begins c rest text left is_end.0 cut in
      let w = line_stretch r text in
      let next : IsNext o old r s.tally.feeds is.rows text [] = record {
        part = is_part o.query.reading (o.header ∷ is.rows) s.tally.feeds w o.from old read next_is;
        begins = begins_part o.query.reading (o.header ∷ is.rows) s.tally.feeds w o.from old read next_is;
        cut = is.cut;
      } in
      record {
        rows = is.rows ++ records_as o.query.reading text;
        counted = counts o old is.rows [] are next is.counted;
        begun = subst (λ (t : List ℕ). IsBegun t n.place) (sym line) (subst (IsBegun (c ∷ [])) (sym at) (begun_one q c is_end.0 is_end.1));
        cut = is.cut;
        few = few;
        read =
            subst (λ (m : ℕ). HasRead o.query.reading o.from (prepend_known n.pending left) (o.header ∷ (is.rows ++ records_as o.query.reading text)) m n.line.items) (sym feeds)
            (subst (λ (t : List ℕ). HasRead o.query.reading o.from (prepend_known n.pending left) (o.header ∷ (is.rows ++ records_as o.query.reading text)) (s.tally.feeds + count_feeds text) t) (sym line)
            (subst (λ (t : List ℕ). HasRead o.query.reading o.from (prepend_known t left) (o.header ∷ (is.rows ++ records_as o.query.reading text)) (s.tally.feeds + count_feeds text) (c ∷ [])) (sym now)
            (closed_read o.query.reading o.from left (o.header ∷ is.rows) s.tally.feeds text rest c is_end.0 cut begins read)));
      }

  -- a line ends, and the next one begins
  pub sifts_over : (c : ℕ) (rest : List ℕ) → s.pending ≡ c ∷ rest → ends_here s.place c ≡ true → n.pending ≡ rest → n.line.items ≡ c ∷ [] → n.place ≡ place_after s.place (c ∷ []) → n.ahead ≡ s.ahead ++ line_left (keeps r) s.line.items
      → Counts r s.line.items s.tally n.tally → n.tally.feeds ≡ s.tally.feeds + count_feeds s.line.items → n.tally.feeds ≤ 2 ^ 60 → Sifts r s n
  sifts_over c rest pending ends now line at ahead counts feeds few = record {
    left = λ left.
        ap (λ (t : List ℕ). left_by (keeps r) left s.ahead t s.line.items s.place) pending ∙ closed_left (keeps r) s.ahead rest s.line.items s.place c left ends
        ∙ same_left (keeps r) left (s.ahead ++ line_left (keeps r) s.line.items) n.ahead rest n.pending (c ∷ []) n.line.items (place_after s.place (c ∷ [])) n.place ahead now line at;
    counts = λ o left are is.
        let read : HasRead o.query.reading o.from (prepend_known (c ∷ rest) left) (o.header ∷ is.rows) s.tally.feeds s.line.items =
        subst (λ (t : List ℕ). HasRead o.query.reading o.from (prepend_known t left) (o.header ∷ is.rows) s.tally.feeds s.line.items) pending is.read in
        opens_over s.line.items c rest s.place ends is.begun.begins (begun_cut s.line.items s.place is.begun (ends_cases s.place c ends).1) now line at counts feeds few o left are is read;
  }

  -- whole lines without a refused row end, and the next one begins
  pub sifts_leap : (at c : ℕ) (rest : List ℕ) → IsBegun s.line.items s.place → keeps r (s.line.items ++ take at s.pending) ≡ true → drop at s.pending ≡ c ∷ rest → ends_here (place_after s.place (take at s.pending)) c ≡ true
      → n.pending ≡ rest → n.line.items ≡ c ∷ [] → n.place ≡ place_after (place_after s.place (take at s.pending)) (c ∷ []) → n.ahead ≡ s.ahead ++ (s.line.items ++ take at s.pending) → Counts r (s.line.items ++ take at s.pending) s.tally n.tally
      → n.tally.feeds ≡ s.tally.feeds + count_feeds (s.line.items ++ take at s.pending) → n.tally.feeds ≤ 2 ^ 60 → Sifts r s n
  sifts_leap at c rest begun good behind ends now line here ahead counts feeds few =
      let text = s.line.items ++ take at s.pending in
      let q = place_after s.place (take at s.pending) in
      let begins = begins_longer s.line.items (take at s.pending) begun.begins in
      let is_place : place_after place.Opens text ≡ q = place-append place.Opens s.line.items (take at s.pending) ∙ ap (λ (p : Place). place_after p (take at s.pending)) (sym begun.place) in
      let cut = lines_cut text begins (λ quoted. (ends_cases q c ends).1 (sym is_place ∙ quoted)) in
      record {
        left = λ left.
            leapt_left r.plan.now.reading r.bound.now r.width s.ahead s.pending s.line.items rest s.place at c left begun good behind ends
            ∙ same_left (keeps r) left (s.ahead ++ text) n.ahead rest n.pending (c ∷ []) n.line.items (place_after q (c ∷ [])) n.place ahead now line here;
        counts = λ o left are is.
            let read : HasRead o.query.reading o.from (prepend_known (c ∷ rest) left) (o.header ∷ is.rows) s.tally.feeds text =
            subst (λ (t : List ℕ). HasRead o.query.reading o.from (prepend_known t left) (o.header ∷ is.rows) s.tally.feeds text) behind (moved_read o.query.reading o.from left (o.header ∷ is.rows) s.tally.feeds s.line.items s.pending at is.read) in
            opens_over text c rest q ends begins cut now line here counts feeds few o left are is read;
      }

-- what was not counted
pub not_counted : (r : Rules) (s n : Sifter) → n ≡ record s { ahead = n.ahead; tally = n.tally } → n.tally.feeds ≡ s.tally.feeds → (o : Opened) (left : Option (List ℕ)) (is : IsOpen o left r s) → HasCounted o r.bound.now n.tally is.rows → IsOpen o left r n
not_counted r s n same feeds o left is counted = record {
  rows = is.rows;
  counted = counted;
  begun = subst (λ x. IsBegun x.line.items x.place) (sym same) is.begun;
  cut = is.cut;
  few = omega (arith, is.few, feeds);
  read =
      subst (λ (m : ℕ). HasRead o.query.reading o.from (prepend_known n.pending left) (o.header ∷ is.rows) m n.line.items) (sym feeds)
      (subst (λ x. HasRead o.query.reading o.from (prepend_known x.pending left) (o.header ∷ is.rows) s.tally.feeds x.line.items) (sym same) is.read);
}

pub sifts_same : (r : Rules) (s n : Sifter) → n ≡ record s { ahead = n.ahead; tally = n.tally } → n.ahead ≡ s.ahead → (left : Option (List ℕ)) → sifter_left r left s ≡ sifter_left r left n
sifts_same r s n same ahead left = same_left (keeps r) left s.ahead n.ahead s.pending n.pending s.line.items n.line.items s.place n.place ahead (ap (λ x. x.pending) same) (ap (λ x. x.line.items) same) (ap (λ x. x.place) same)

-- ---- a line that is closed, and then another one is begun

some_of : (n : ℕ) → (n == 0) ≡ false → 0 < n
some_of zero e = let bad : true ≡ false = e in cc bad
some_of (suc n) e = omega arith

-- bytes that are left begin with a byte at which a line ends
pub ends_first : (p : Place) (pending left : List ℕ) (at : ℕ) → left ≡ drop at pending → false ≡ (length left == 0) → (at < length pending → ends_here p (slice_index pending at) ≡ true) → (0 < length left) × (ends_here p (slice_index left 0) ≡ true)
ends_first p pending left at is some ends =
    let many : 0 < length left = some_of (length left) (sym some) in
    let here : at + 0 ≡ at = omega arith in
    (many, ap (ends_here p) (ap (λ (t : List ℕ). slice_index t 0) is ∙ get_or-drop at pending 0 0 ∙ ap (slice_index pending) here) ∙ ends (omega (arith, many, ap length is, length-drop at pending)))

pub first_rest : (xs : List ℕ) → 0 < length xs → xs ≡ slice_index xs 0 ∷ drop 1 xs
first_rest [] some = absurd (omega (arith, some))
first_rest (x ∷ xs) some = refl

module _ (r : Rules) (s : Sifter) (some : 0 < length s.pending) (ends : ends_here s.place (slice_index s.pending 0) ≡ true) where
  pub next_open : (o : Opened) (left : Option (List ℕ)) → AreRules o r → (is : IsOpen o left r s) → IsNext o (prepend_known s.pending left) r s.tally.feeds is.rows s.line.items []
  next_open o left are is =
      let c = slice_index s.pending 0 in
      let is_end = ends_cases s.place c ends in
      let old = prepend_known s.pending left in
      let w = line_stretch r s.line.items in
      let begins = subst (λ (t : List ℕ). IfSome (prepend_known t left) (λ back. (back ≡ []) ⊎ (BeginsLine back × IsCut s.line.items))) (sym (first_rest s.pending some))
      (next_begins r s s c (drop 1 s.pending) s.line.items left is_end.0 (begun_cut s.line.items s.place is.begun is_end.1)) in
      record {
        part = is_part o.query.reading (o.header ∷ is.rows) s.tally.feeds w o.from old is.read begins;
        begins = begins_part o.query.reading (o.header ∷ is.rows) s.tally.feeds w o.from old is.read begins;
        cut = is.cut;
      }

  module _ (n : Sifter) (same : n ≡ record s { ahead = n.ahead; tally = n.tally }) where
    -- it was not closed
    pub sifts_not : n.ahead ≡ s.ahead → n.tally.feeds ≡ s.tally.feeds → CountsNot r s.line.items s.tally n.tally → Sifts r s n
    sifts_not ahead feeds counts = record {
      left = λ left. same_left (keeps r) left s.ahead n.ahead s.pending n.pending s.line.items n.line.items s.place n.place ahead (ap (λ x. x.pending) same) (ap (λ x. x.line.items) same) (ap (λ x. x.place) same);
      counts = λ o left are is. not_counted r s n same feeds o left is (counts o (prepend_known s.pending left) is.rows [] are (next_open o left are is) is.counted);
    }

    module _ (b : Sifter) (begun_is : b ≡ record n { line = b.line; place = b.place; pending = drop 1 n.pending }) (line : b.line.items ≡ take 1 n.pending) (at : b.place ≡ place_after n.place (take 1 n.pending)) where
      one : take 1 n.pending ≡ slice_index s.pending 0 ∷ []
      one = ap (take 1) (ap (λ x. x.pending) same ∙ first_rest s.pending some)

      line_is : b.line.items ≡ slice_index s.pending 0 ∷ []
      line_is = line ∙ one

      place_is : b.place ≡ place_after s.place (slice_index s.pending 0 ∷ [])
      place_is = at ∙ ap (λ (p : Place). place_after p (take 1 n.pending)) (ap (λ x. x.place) same) ∙ ap (place_after s.place) one

      -- it was closed, and another one is begun
      pub sifts_line : n.ahead ≡ s.ahead ++ line_left (keeps r) s.line.items → Counts r s.line.items s.tally n.tally → n.tally.feeds ≡ s.tally.feeds + count_feeds s.line.items → n.tally.feeds ≤ 2 ^ 60 → Sifts r s b
      sifts_line ahead counts feeds few =
          let tally : b.tally ≡ n.tally = ap (λ x. x.tally) begun_is in
          sifts_over r s b (slice_index s.pending 0) (drop 1 s.pending) (first_rest s.pending some) ends (ap (λ x. x.pending) begun_is ∙ ap (drop 1) (ap (λ x. x.pending) same)) line_is place_is (ap (λ x. x.ahead) begun_is ∙ ahead)
          (subst (Counts r s.line.items s.tally) (sym tally) counts) (ap (λ t. t.feeds) tally ∙ feeds) (omega (arith, few, ap (λ t. t.feeds) tally))

      pub ready_line : IsReady r s → n.tally.feeds ≤ 2 ^ 60 → IsReady r b
      ready_line ready few =
          let is_end = ends_cases s.place (slice_index s.pending 0) ends in
          record {
            columns = ready.columns;
            header = ready.header;
            begun = subst (λ (t : List ℕ). IsBegun t b.place) (sym line_is) (subst (IsBegun (slice_index s.pending 0 ∷ [])) (sym place_is) (begun_one s.place (slice_index s.pending 0) is_end.0 is_end.1));
            few = omega (arith, few, ap (λ x. x.tally.feeds) begun_is);
          }

-- ---- whole lines that are closed at once, and then another one is begun

pub leap_ends : (r : Rules) (s m n : Sifter) (skipped : List ℕ) (at : ℕ) (q : Place) (text : List ℕ) → IsReady r s → at < length s.pending → ends_here q (slice_index s.pending at) ≡ true → q ≡ place_after s.place (take at s.pending)
    → text ≡ s.line.items ++ take at s.pending → m.pending ≡ s.pending → m.ahead ≡ s.ahead ++ text → keeps r text ≡ true → Counts r text s.tally m.tally → m.tally.feeds ≡ s.tally.feeds + count_feeds text → m.tally.feeds ≤ 2 ^ 60 → skipped ≡ drop at m.pending
    → n ≡ record m { line = n.line; place = n.place; pending = drop 1 skipped } → n.line.items ≡ take 1 skipped → n.place ≡ place_after q (take 1 skipped) → IsReady r n × Sifts r s n
leap_ends r s m n skipped at q text ready within ends place is pending ahead good counts feeds few skips same line at_place =
    let c = slice_index s.pending at in
    let rest = drop (at + 1) s.pending in
    let is_end = ends_cases q c ends in
    let behind : drop at s.pending ≡ c ∷ rest = drop_more s.pending at 0 within in
    let left : skipped ≡ c ∷ rest = skips ∙ ap (drop at) pending ∙ behind in
    let line_is : n.line.items ≡ c ∷ [] = line ∙ ap (take 1) left in
    let here : n.place ≡ place_after q (c ∷ []) = at_place ∙ ap (place_after q) (ap (take 1) left) in
    let tally : n.tally ≡ m.tally = ap (λ (x : Sifter). x.tally) same in (
      record {
        columns = ready.columns;
        header = ready.header;
        begun = subst (λ (t : List ℕ). IsBegun t n.place) (sym line_is) (subst (IsBegun (c ∷ [])) (sym here) (begun_one q c is_end.0 is_end.1));
        few = omega (arith, few, ap (λ t. t.feeds) tally);
      },
      sifts_leap r s n at c rest ready.begun (subst (λ (t : List ℕ). keeps r t ≡ true) is good) behind (subst (λ (p : Place). ends_here p c ≡ true) place ends) (ap (λ (x : Sifter). x.pending) same ∙ ap (drop 1) left) line_is
          (here ∙ ap (λ (p : Place). place_after p (c ∷ [])) place) (ap (λ (x : Sifter). x.ahead) same ∙ ahead ∙ ap (λ (t : List ℕ). s.ahead ++ t) is) (subst (λ (t : List ℕ). Counts r t s.tally n.tally) is (subst (Counts r text s.tally) (sym tally) counts))
          (ap (λ t. t.feeds) tally ∙ feeds ∙ ap (λ (t : List ℕ). s.tally.feeds + count_feeds t) is) (omega (arith, few, ap (λ t. t.feeds) tally)),
    )

-- ---- the last line

module _ (r : Rules) (s : Sifter) (none : s.pending ≡ []) where
  at_end : (left : Option (List ℕ)) (line : List ℕ) → IsAtEnd left → IfSome (prepend_known [] left) (λ back. (back ≡ []) ⊎ (BeginsLine back × IsCut line))
  at_end None line end = tt
  at_end (Some rest) line end = inl end

  pub next_end : (o : Opened) (left : Option (List ℕ)) → IsAtEnd left → (is : IsOpen o left r s) → IsNext o (prepend_known s.pending left) r s.tally.feeds is.rows s.line.items []
  next_end o left end is =
      let old = prepend_known s.pending left in
      let w = line_stretch r s.line.items in
      let begins = subst (λ (t : List ℕ). IfSome (prepend_known t left) (λ back. (back ≡ []) ⊎ (BeginsLine back × IsCut s.line.items))) (sym none) (at_end left s.line.items end) in
      record {
        part = is_part o.query.reading (o.header ∷ is.rows) s.tally.feeds w o.from old is.read begins;
        begins = begins_part o.query.reading (o.header ∷ is.rows) s.tally.feeds w o.from old is.read begins;
        cut = is.cut;
      }

  last_left : (k : List ℕ → Bool) (p : Place) (line : List ℕ) → left_of k p line [] ≡ line_left k line
  unfolding left_of
  last_left k p line = refl

  last_by : (k : List ℕ → Bool) (left : Option (List ℕ)) (pending line ahead ahead' : List ℕ) (p : Place) → IsAtEnd left → pending ≡ [] → ahead' ≡ ahead ++ line_left k line → Keeps (left_by k left ahead pending line p) (prepend_known ahead' left)
  last_by k None pending line ahead ahead' p end gone is = tt
  last_by k (Some rest) pending line ahead ahead' p end gone is =
      ap (λ (t : List ℕ). ahead' ++ t) end ∙ append-nil ahead' ∙ is ∙ ap (λ (t : List ℕ). ahead ++ t) (sym (last_left k p line) ∙ ap (left_of k p line) (sym (ap (λ (t : List ℕ). t ++ rest) gone ∙ end)))

  -- it was closed
  pub done_goes : (o : Opened) (left : Option (List ℕ)) (a : Sifting) (n : Sifter) → a.sifter ≡ s → a.is_done ≡ false → a.halt ≡ None → IsAtEnd left → AreRules o r → n.ahead ≡ s.ahead ++ line_left (keeps r) s.line.items → Counts r s.line.items s.tally n.tally
      → Goes o r left left a (record a { sifter = n; is_done = true })
  done_goes o left a n at going free end are ahead counts = record {
    keeps = subst (λ (b : Bool). Keeps (if b then prepend_known a.sifter.ahead left else sifter_left r left a.sifter) (prepend_known n.ahead left)) (sym going)
        (subst (λ x. Keeps (sifter_left r left x) (prepend_known n.ahead left)) (sym at) (last_by (keeps r) left s.pending s.line.items s.ahead n.ahead s.place end none ahead));
    is = λ is.
        let before = subst (IsOpen o left r) at (is.going going) in
        let next = next_end o left end before in
        record {
          going = λ e. let bad : true ≡ false = e in cc bad;
          done = λ _. record {
            rows = before.rows ++ records_as o.query.reading s.line.items;
            counted = counts o (prepend_known s.pending left) before.rows [] are next before.counted;
            all = all_read o.query.reading o.from (prepend_known s.pending left) (o.header ∷ before.rows) s.tally.feeds s.line.items before.read (end_of left end);
            end = end;
          };
          halted = subst (λ h. IsHalted o h (record a { sifter = n; is_done = true })) (sym free) (subst (λ h. IsHalted o h a) free is.halted);
        };
  }
    where
      end_of : (left : Option (List ℕ)) → IsAtEnd left → IsAtEnd (prepend_known s.pending left)
      end_of None end = tt
      end_of (Some rest) end = ap (λ (t : List ℕ). t ++ rest) none ∙ end

-- ---- what is left of a line that was judged

left_kept : (k : List ℕ → Bool) (line : List ℕ) → k line ≡ true → line_left k line ≡ line
left_kept k line is = rw is refl

left_out : (k : List ℕ → Bool) (line : List ℕ) → k line ≡ false → line_left k line ≡ take 1 line
left_out k line is = rw is refl

module _ (r : Rules) (line : List ℕ) where
  pub nothing_left : records_as r.plan.now.reading line ≡ [] → line_left (keeps r) line ≡ line
  nothing_left none = left_kept (keeps r) line (ap (list_all (is_good r.bound.now r.width)) none)

  good_one : (row : List (List ℕ)) → refusal r.bound.now r.width row ≡ None → list_all (is_good r.bound.now r.width) (row ∷ []) ≡ true
  good_one row good = rw good refl

  pub good_left : (row : List (List ℕ)) → records_as r.plan.now.reading line ≡ row ∷ [] → refusal r.bound.now r.width row ≡ None → line_left (keeps r) line ≡ line
  good_left row one good = left_kept (keeps r) line (ap (list_all (is_good r.bound.now r.width)) one ∙ good_one row good)

  bad_one : (row : List (List ℕ)) (why : Refusal) → refusal r.bound.now r.width row ≡ Some why → list_all (is_good r.bound.now r.width) (row ∷ []) ≡ false
  bad_one row why bad = rw bad refl

  pub bad_left : (row : List (List ℕ)) (why : Refusal) → records_as r.plan.now.reading line ≡ row ∷ [] → refusal r.bound.now r.width row ≡ Some why → line_left (keeps r) line ≡ take 1 line
  bad_left row why one bad = left_out (keeps r) line (ap (list_all (is_good r.bound.now r.width)) one ∙ bad_one row why bad)
