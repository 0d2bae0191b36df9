use Rattle.std.proofs.Common.{◌≡◌, ◌<◌, ◌+◌, ◌∷◌, ◌∙◌, [], ℕ, List, ap, append-nil, arith, length, refl, subst, sym}
use Rattle.std.specs.FinMap as map
use Rattle.std.proofs.lemmas.List.{length-replicate}
use Rattle.csv_rows.specs.Records.{record_at}
use Rattle.par_model.specs.declared.state.AggState.{AggState}
use Rattle.partial_agg.specs.Groups.{GroupsByKey, key_cmp}
use Rattle.row_blocks.specs.Blocks.{Table}
use Rattle.row_windows.specs.Stretch.{Stretch}
use Rattle.gather_law.specs.Shares.{AreShared}
use Rattle.gather_law.proofs.RowShares.{shares_begin}
use Rattle.split_run.specs.Pieces.{piece_rows, rows_of}
use Rattle.text_lines.specs.Feeds.{count_feeds}
use Rattle.stream_groups.specs.Begins.{lines_of}
use Rattle.stream_groups.specs.Reading.{HasPart, Reaches}
use Rattle.stream_groups.proofs.Streams.{first_headed}
use Rattle.stream_groups.proofs.reading.open.Goals as goal

pub returns-clause-stream : goal.returns-clause-stream
returns-clause-stream c =
    let first = c.args.first in
    let made = c.in_ok-of_window.ensures in
    record {
      batch = first_headed c.args.plan.now.reading first.header first.window first.feeds c.in_ok-of_window.field-0 first.is_last c.requires.header c.requires.lined made.pieces made.like made.rest made.before made.feeds made.few;
      bound = c.requires.bound;
      many = omega (arith, ap length c.in_ok-maps.ensures, length-replicate (c.args.workers + 1) (map.empty {K = List ℕ} {X = AggState} {R = key_cmp}));
      few = omega arith;
    }

pub returns-clause-rows : goal.returns-clause-rows
returns-clause-rows c =
    let bound = c.args.bound.now in
    let first = c.args.first in
    let header = record_at first.header 0 in
    let width = length header in
    let made = c.in_ok-of_window.ensures in
    let b = c.in_ok-of_window.field-0 in
    let one : rows_of b.pieces.items ≡ piece_rows first.window = ap rows_of made.pieces ∙ append-nil (piece_rows first.window) in
    let lines : lines_of b.pieces.items ≡ first.window.lines = ap lines_of made.pieces ∙ append-nil first.window.lines in
    let reading = c.args.plan.now.reading in
    λ from left r part.
    let all : Reaches reading from left (header ∷ rows_of b.pieces.items) b.feeds first.window.rest first.is_last =
    subst (λ (n : ℕ). Reaches reading from left (header ∷ rows_of b.pieces.items) n first.window.rest first.is_last) (sym made.feeds)
    (subst (λ (l : Table). Reaches reading from left l (first.feeds + count_feeds first.window.lines) first.window.rest first.is_last) (c.requires.header.records ∙ ap (λ (l : Table). header ∷ l) (sym one)) r) in
    record {
      added = record { count = refl; groups = subst (λ (l : List GroupsByKey). AreShared bound width [] l) (sym c.in_ok-maps.ensures) (shares_begin bound width _) };
      reaches = subst (λ (rest : List ℕ). Reaches reading from left (header ∷ rows_of b.pieces.items) b.feeds rest first.is_last) (sym made.rest) all;
      part = λ some.
          let here : HasPart reading from left (header ∷ []) first.feeds (first.window ∷ []) first.window.rest = part (subst (λ (l : List ℕ). 0 < length l) lines some) in
          subst (HasPart reading from left (header ∷ []) b.before b.pieces.items) (sym made.rest)
          (subst (λ (n : ℕ). HasPart reading from left (header ∷ []) n b.pieces.items first.window.rest) (sym made.before)
          (subst (λ (ps : List Stretch). HasPart reading from left (header ∷ []) first.feeds ps first.window.rest) (sym made.pieces) here));
    }
