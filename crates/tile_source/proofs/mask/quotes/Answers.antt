use Rattle.std.proofs.Common.{◌≡◌, ◌<◌, ◌+◌, ◌∙◌, slice_index}
use Rattle.std.proofs.lemmas.List.{get_or-drop, take_rest}
use Rattle.csv_rows.proofs.Bits.{same-bit}
use Rattle.tile_source.proofs.mask.quotes.Goals as goal
use Rattle.tile_source.proofs.mask.quotes.Goals.{else-text-at-ge-BLOCK, then-text-at-ge-BLOCK}

pub returns : goal.returns
returns c k =
    let text = c.args.text.now in
    let at = c.args.at in
    let bytes = c.if-text-at-ge-BLOCK.bytes in
    let here : k < 64 → slice_index bytes k ≡ slice_index text (at + k) = elim c.if-text-at-ge-BLOCK.branch [
      | then-text-at-ge-BLOCK w ↦ λ lt. rw w.bytes-is (w.load-bytes.ensures.each k lt)
      | else-text-at-ge-BLOCK w ↦ λ lt. rw w.bytes-is (rw (take_rest text at) at (w.load_few-bytes.ensures.each k lt) ∙ get_or-drop at text k 0)
    ] in
    same-bit c.places_of.result k (slice_index bytes k) (slice_index text (at + k)) 34 here (c.places_of.ensures k)
