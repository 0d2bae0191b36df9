-- The rows of the pieces that one participant drew.
use Rattle.std.proofs.Common.{◌≡◌, ◌<◌, ◌≤◌, ◌+◌, ◌++◌, ◌⊎◌, inl, inr, ℕ, zero, suc, List, [], ◌∷◌, All, length, map, get_or, min, slice_index_or, refl, ap, sym, subst, ◌∙◌, arith, append-nil, length-append}
use Rattle.std.proofs.lemmas.List.{get_or_past, length-map}
use Rattle.std.proofs.lemmas.List.Concat.{flat_map-append}
use Rattle.std.proofs.lemmas.List.Elements.{All-append, All-same}
use Rattle.par_model.specs.Columns.{HasColumns}
use Rattle.par_model.specs.Plan.{Plan}
use Rattle.partial_agg.specs.Groups.{GroupsByKey, with_rows}
use Rattle.partial_agg.specs.Rows.{IsAccepted, header_width}
use Rattle.partial_agg.specs.declared.map.BlockAnswer.{BlockAnswer}
use Rattle.partial_agg.specs.declared.map.BlockAnswer.TheVariants as answer
use Rattle.partial_agg.proofs.Blocks.{with_rows-append}
use Rattle.row_blocks.specs.Blocks.{Table}
use Rattle.row_windows.specs.Stretch.{Stretch}
use Rattle.split_run.specs.Hands.{most}
use Rattle.split_run.specs.Causes.{IsCause, SomeRefused}
use Rattle.split_run.specs.Pieces.{AreAccepted, AreUnder, HaveColumns, drawn_rows, piece_records, piece_rows}

-- the rows of one piece
pub piece_at : (pieces : List Stretch) (n : ℕ) (d : Stretch) → n < length pieces → get_or (map piece_rows pieces) n [] ≡ piece_rows (slice_index_or pieces n d)
piece_at [] n d h = absurd (omega (arith, h))
piece_at (p ∷ pieces) zero d h = refl
piece_at (p ∷ pieces) (suc n) d h = piece_at pieces n d (omega (arith, h))

module _ (pieces : List Stretch) where
  more_pieces : (draws draws' : List ℕ) (n : ℕ) → draws' ≡ draws ++ n ∷ [] → drawn_rows pieces draws' ≡ drawn_rows pieces draws ++ get_or (map piece_rows pieces) n []
  more_pieces draws draws' n e =
      ap (drawn_rows pieces) e ∙ flat_map-append (λ k. get_or (map piece_rows pieces) k []) draws (n ∷ [])
      ∙ ap (λ (l : Table). drawn_rows pieces draws ++ l) (append-nil (get_or (map piece_rows pieces) n []))

  -- a number that is no piece has no rows
  pub late_draw : (draws draws' : List ℕ) → (draws' ≡ draws) ⊎ ((n : ℕ) × (length pieces ≤ n) × (draws' ≡ draws ++ n ∷ [])) → drawn_rows pieces draws' ≡ drawn_rows pieces draws
  late_draw draws draws' (inl e) = ap (drawn_rows pieces) e
  late_draw draws draws' (inr p) =
      let none : get_or (map piece_rows pieces) p.0 [] ≡ [] = get_or_past (map piece_rows pieces) p.0 [] (omega (arith, p.1, length-map pieces piece_rows)) in
      more_pieces draws draws' p.0 p.2 ∙ ap (λ (l : Table). drawn_rows pieces draws ++ l) none ∙ append-nil (drawn_rows pieces draws)

  -- a participant that draws no more has the rows that it had
  pub late_accepted : (plan : Plan) (blocks : ℕ) (draws draws' : List ℕ) → blocks ≡ length pieces → (draws' ≡ draws) ⊎ ((n : ℕ) × (blocks ≤ n) × (draws' ≡ draws ++ n ∷ [])) → AreAccepted plan pieces (drawn_rows pieces draws)
      → AreAccepted plan pieces (drawn_rows pieces draws')
  late_accepted plan blocks draws draws' many late before = λ header under.
      let late' : (draws' ≡ draws) ⊎ ((n : ℕ) × (length pieces ≤ n) × (draws' ≡ draws ++ n ∷ [])) = subst (λ (m : ℕ). (draws' ≡ draws) ⊎ ((n : ℕ) × (m ≤ n) × (draws' ≡ draws ++ n ∷ []))) many late in
      All-same (IsAccepted plan (length header)) (drawn_rows pieces draws') (drawn_rows pieces draws) (late_draw draws draws' late') (before header under)

  module _ (n : ℕ) (p : Stretch) (low : n < length pieces) (is : p ≡ get_or pieces n p) where
    pub columns_at : (plan : Plan) → HaveColumns plan pieces → HasColumns plan (header_width (piece_records p))
    columns_at plan all = subst (λ (q : Stretch). HasColumns plan (header_width (piece_records q))) (sym is) (all n p low)

    pub refused_at : (plan : Plan) (why : BlockAnswer) → IsCause plan (piece_records p) why → SomeRefused plan pieces why
    refused_at plan (answer.Row row cause item) refused = λ all. refused (subst (λ (q : Stretch). All (IsAccepted plan (header_width (piece_records q))) (piece_rows q)) (sym is) (all n p low))
    refused_at plan answer.Memory refused = tt

    width_at : (header : List (List ℕ)) → AreUnder header pieces → header_width (piece_records p) ≡ length header
    width_at header under = ap (λ (q : Stretch). header_width (piece_records q)) is ∙ ap header_width (under n p low)

    module _ (draws draws' : List ℕ) (more : draws' ≡ draws ++ n ∷ []) where
      pub one_more : drawn_rows pieces draws' ≡ drawn_rows pieces draws ++ piece_rows p
      one_more = more_pieces draws draws' n more ∙ ap (λ (l : Table). drawn_rows pieces draws ++ l) (piece_at pieces n p low ∙ ap piece_rows (sym is))

      pub added_piece : (plan : Plan) (old mid new : GroupsByKey) → mid ≡ with_rows plan old (drawn_rows pieces draws) → new ≡ with_rows plan mid (piece_rows p) → new ≡ with_rows plan old (drawn_rows pieces draws')
      added_piece plan old mid new before this =
          this ∙ ap (λ (m : GroupsByKey). with_rows plan m (piece_rows p)) before ∙ sym (with_rows-append plan old (drawn_rows pieces draws) (piece_rows p)) ∙ ap (with_rows plan old) (sym one_more)

      pub accepted_piece : (plan : Plan) → AreAccepted plan pieces (drawn_rows pieces draws) → All (IsAccepted plan (header_width (piece_records p))) (piece_rows p) → AreAccepted plan pieces (drawn_rows pieces draws')
      accepted_piece plan before this = λ header under.
          let mine : All (IsAccepted plan (length header)) (piece_rows p) = subst (λ (w : ℕ). All (IsAccepted plan w) (piece_rows p)) (width_at header under) this in
          All-same (IsAccepted plan (length header)) (drawn_rows pieces draws') (drawn_rows pieces draws ++ piece_rows p) one_more
          (All-append (IsAccepted plan (length header)) (drawn_rows pieces draws) (piece_rows p) (before header under) mine)

      pub counted_piece : (count sum : ℕ) → count ≡ min (length (drawn_rows pieces draws)) most → sum ≡ min (count + length (piece_rows p)) most → sum ≡ min (length (drawn_rows pieces draws')) most
      counted_piece count sum before this = omega (arith, before, this, ap length one_more, length-append (drawn_rows pieces draws) (piece_rows p))
