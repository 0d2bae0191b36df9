-- The first refused row of some pieces.
use Rattle.std.proofs.Common.{◌≡◌, ◌<◌, ◌≤◌, ◌+◌, ◌-◌, ◌++◌, ℕ, zero, suc, List, [], ◌∷◌, All, length, take, drop, get_or, map, refl, ap, sym, subst, ◌∙◌, arith, append-nil, append_assoc, length-append, take-append-drop}
use Rattle.std.proofs.lemmas.List.{drop_more, get_or-append-add, get_or_append_left, map-append, take_more}
use Rattle.std.proofs.lemmas.Grind.{get_or_after_one}
use Rattle.std.proofs.lemmas.List.Concat.{flat_map-append}
use Rattle.std.proofs.lemmas.List.Elements.{All-append, All-cons, All-head, All-nil, All-push, All-same, All-tail}
use Rattle.csv_rows.specs.Readings.{records_as}
use Rattle.csv_rows.specs.Records.{record_at}
use Rattle.csv_rows.specs.declared.cleaning.Reading.{Reading}
use Rattle.par_model.specs.Plan.{Plan}
use Rattle.par_model.specs.Refuse.{refusal}
use Rattle.par_model.specs.declared.refusal.Refusal.{Refusal}
use Rattle.partial_agg.specs.Rows.{IsAccepted, header_width}
use Rattle.row_blocks.specs.Blocks.{Table}
use Rattle.row_windows.specs.Stretch.{Stretch}
use Rattle.gather_law.specs.Shares.{together}
use Rattle.split_run.specs.Causes.{AllAccepted, IsFirstRefused}
use Rattle.split_run.specs.Pieces.{AreUnder, piece_records, piece_rows, rows_of}

-- what is read of a piece by its reading are its records
pub read_piece : (p : Stretch) (reading : Reading) (text : List ℕ) → reading ≡ p.reading → text ≡ p.header ++ p.lines → records_as reading text ≡ piece_records p
read_piece p reading text by whole = ap (records_as reading) whole ∙ ap (λ (r : Reading). records_as r (p.header ++ p.lines)) by

take_front : (ws more : Table) (k : ℕ) → k ≤ length ws → take k (ws ++ more) ≡ take k ws
take_front [] more zero h = refl
take_front [] more (suc k) h = absurd (omega (arith, h))
take_front (w ∷ ws) more zero h = refl
take_front (w ∷ ws) more (suc k) h = ap (λ (l : Table). w ∷ l) (take_front ws more k (omega (arith, h)))

-- the rows before a place of a piece, with those of the pieces before it
front_is : (rows wrows more : Table) (k : ℕ) → k ≤ length wrows → take (length rows + k) ((rows ++ wrows) ++ more) ≡ rows ++ take k wrows
front_is [] wrows more k h =
    let e : length {A = List (List ℕ)} [] + k ≡ k = omega arith in
    ap (λ n. take n (wrows ++ more)) e ∙ take_front wrows more k h
front_is (x ∷ rows) wrows more k h =
    let e : length (x ∷ rows) + k ≡ suc (length rows + k) = omega arith in
    ap (λ n. take n (((x ∷ rows) ++ wrows) ++ more)) e ∙ ap (λ (l : Table). x ∷ l) (front_is rows wrows more k h)

module _ (plan : Plan) (header : List (List ℕ)) (rows wrows more : Table) (row : ℕ) (why : Refusal) (f : IsFirstRefused plan (header ∷ wrows) row why) (accepted : All (IsAccepted plan (length header)) rows) where
  abbrev all : Table
  all = header ∷ ((rows ++ wrows) ++ more)

  abbrev number : ℕ
  number = length rows + row

  low : number < length all
  low = omega (arith, f.refused.within, length-append (rows ++ wrows) more, length-append rows wrows)

  there : record_at all number ≡ record_at (header ∷ wrows) row
  there =
      let k = row - 1 in
      let short : k < length wrows = omega (arith, f.refused.first, f.refused.within) in
      let at : 1 + (length rows + k) ≡ number = omega (arith, f.refused.first) in
      let here : 1 + k ≡ row = omega (arith, f.refused.first) in
      ap (record_at all) (sym at)
      ∙ (sym (get_or_after_one all (length rows + k) [])
      ∙ (get_or_append_left (rows ++ wrows) more [] (length rows + k) (omega (arith, short, length-append rows wrows))
      ∙ (get_or-append-add rows wrows k []
      ∙ (get_or_after_one (header ∷ wrows) k [] ∙ ap (record_at (header ∷ wrows)) here))))

  is_first : IsFirstRefused plan all number why
  is_first =
      let k = row - 1 in
      let place : number - 1 ≡ length rows + k = omega (arith, f.refused.first) in
      let front : take (number - 1) ((rows ++ wrows) ++ more) ≡ rows ++ take k wrows = ap (λ m. take m ((rows ++ wrows) ++ more)) place ∙ front_is rows wrows more k (omega (arith, f.refused.first, f.refused.within)) in
      record {
        refused = record { first = omega (arith, f.refused.first); within = low; cause_is = ap (refusal plan (length header)) there ∙ f.refused.cause_is };
        before = All-same (IsAccepted plan (length header)) (take (number - 1) ((rows ++ wrows) ++ more)) (rows ++ take k wrows) front
            (All-append (IsAccepted plan (length header)) rows (take k wrows) accepted f.before);
      }

-- ---- pieces

apart : (P : Stretch → Type 0) (xs ys : List Stretch) → All P (xs ++ ys) → All P xs × All P ys
apart P [] ys h = (All-nil P, h)
apart P (x ∷ xs) ys h =
    let more = apart P xs ys (All-tail P x (xs ++ ys) h) in
    (All-cons P x xs (All-head P x (xs ++ ys) h) more.0, more.1)

pub rows_apart : (xs ys : List Stretch) → rows_of (xs ++ ys) ≡ rows_of xs ++ rows_of ys
rows_apart xs ys = ap together (map-append piece_rows xs ys) ∙ flat_map-append (λ (l : Table). l) (map piece_rows xs) (map piece_rows ys)

pub rows_more : (xs : List Stretch) (p : Stretch) → rows_of (xs ++ p ∷ []) ≡ rows_of xs ++ piece_rows p
rows_more xs p = rows_apart xs (p ∷ []) ∙ ap (λ (l : Table). rows_of xs ++ l) (append-nil (piece_rows p))

module _ (plan : Plan) where
  rows_accepted : (header : List (List ℕ)) (xs : List Stretch) → AreUnder header xs → AllAccepted plan xs → All (IsAccepted plan (length header)) (rows_of xs)
  rows_accepted header [] under h = All-nil (IsAccepted plan (length header))
  rows_accepted header (x ∷ xs) under h =
      let mine = All-head (λ (p : Stretch). piece_records p ≡ header ∷ piece_rows p) x xs under in
      let fine = All-head (λ (p : Stretch). All (IsAccepted plan (header_width (piece_records p))) (piece_rows p)) x xs h in
      All-append (IsAccepted plan (length header)) (piece_rows x) (rows_of xs)
      (subst (λ (w : ℕ). All (IsAccepted plan w) (piece_rows x)) (ap header_width mine) fine)
      (rows_accepted header xs (All-tail (λ (p : Stretch). piece_records p ≡ header ∷ piece_rows p) x xs under) (All-tail (λ (p : Stretch). All (IsAccepted plan (header_width (piece_records p))) (piece_rows p)) x xs h))

  pub first_of_all : (pieces ys rest : List Stretch) (p : Stretch) (row : ℕ) (why : Refusal) → pieces ≡ ys ++ p ∷ rest → AllAccepted plan ys → IsFirstRefused plan (piece_records p) row why
      → (header : List (List ℕ)) → AreUnder header pieces → IsFirstRefused plan (header ∷ rows_of pieces) (length (rows_of ys) + row) why
  first_of_all pieces ys rest p row why are accepted f header under =
      let parts = apart (λ (p : Stretch). piece_records p ≡ header ∷ piece_rows p) ys (p ∷ rest) (subst (AreUnder header) are under) in
      let mine = All-head (λ (p : Stretch). piece_records p ≡ header ∷ piece_rows p) p rest parts.1 in
      let here : IsFirstRefused plan (header ∷ piece_rows p) row why = subst (λ (l : Table). IsFirstRefused plan l row why) mine f in
      let all : (rows_of ys ++ piece_rows p) ++ rows_of rest ≡ rows_of pieces =
      append_assoc (rows_of ys) (piece_rows p) (rows_of rest) ∙ sym (rows_apart ys (p ∷ rest)) ∙ ap rows_of (sym are) in
      subst (λ (l : Table). IsFirstRefused plan (header ∷ l) (length (rows_of ys) + row) why) all
      (is_first plan header (rows_of ys) (piece_rows p) (rows_of rest) row why here (rows_accepted header ys parts.0 accepted))

  -- a piece by its place
  module _ (pieces : List Stretch) (at : ℕ) (p : Stretch) (low : at < length pieces) (is : p ≡ get_or pieces at p) where
    next_is : take (at + 1) pieces ≡ take at pieces ++ p ∷ []
    next_is = take_more pieces at p low ∙ ap (λ (q : Stretch). take at pieces ++ q ∷ []) (sym is)

    pieces_are : pieces ≡ take at pieces ++ p ∷ drop (at + 1) pieces
    pieces_are =
        let cut : drop at pieces ≡ get_or pieces at p ∷ drop (at + 1) pieces = drop_more pieces at p low in
        sym (take-append-drop at pieces) ∙ ap (λ (l : List Stretch). take at pieces ++ l) (cut ∙ ap (λ (q : Stretch). q ∷ drop (at + 1) pieces) (sym is))

    pub accepted_next : AllAccepted plan (take at pieces) → All (IsAccepted plan (header_width (piece_records p))) (piece_rows p) → AllAccepted plan (take (at + 1) pieces)
    accepted_next before fine =
        All-same (λ (p : Stretch). All (IsAccepted plan (header_width (piece_records p))) (piece_rows p)) (take (at + 1) pieces) (take at pieces ++ p ∷ []) next_is
        (All-push (λ (p : Stretch). All (IsAccepted plan (header_width (piece_records p))) (piece_rows p)) (take at pieces) p before fine)

    pub count_next : length (rows_of (take (at + 1) pieces)) ≡ length (rows_of (take at pieces)) + length (piece_rows p)
    count_next = ap (λ (l : List Stretch). length (rows_of l)) next_is ∙ (ap length (rows_more (take at pieces) p) ∙ length-append (rows_of (take at pieces)) (piece_rows p))

    pub first_here : (row : ℕ) (why : Refusal) → AllAccepted plan (take at pieces) → IsFirstRefused plan (piece_records p) row why
        → (header : List (List ℕ)) → AreUnder header pieces → IsFirstRefused plan (header ∷ rows_of pieces) (length (rows_of (take at pieces)) + row) why
    first_here row why accepted f = first_of_all pieces (take at pieces) (drop (at + 1) pieces) p row why pieces_are accepted f
