use Rattle.std.proofs.Common.{◌≡◌, ◌≤◌, ◌+◌, ℕ, List, arith, drop, false, length, slice_index, string_bytes, subst, take}
use Rattle.std.proofs.lemmas.List.{take_rest}
use Rattle.csv.specs.Reading.{strip_bom}
use Rattle.row_windows.specs.Seams.{is_line_end}
use Rattle.text_lines.specs.Begins.{AllEndFrom}
use Rattle.text_lines.specs.Feeds.{count_feeds}
use Rattle.stream_groups.specs.Begins.{SaysQuote}
use Rattle.stream_groups.proofs.place.place_of_long.Goals as goal

pub returns : goal.returns
returns c =
    let text = c.without_mark-text.result.now in
    let same : text ≡ strip_bom c.args.text.now = c.without_mark-text.ensures.text in
    let begin = c.past_ends-begin.result in
    let past = c.past_ends-begin.ensures in
    let line = (c.args.feeds + c.line_feeds-more.result) + 1 in
    let quote = c.in_ok-quote.quote in
    let sum : line ≡ c.args.feeds + count_feeds (take begin text) + 1 = omega (arith, c.line_feeds-more.ensures.count) in
    let says : SaysQuote (drop begin text) line (string_bytes quote) = rw (take_rest text begin) at c.in_ok-quote.ensures in
    record {
      at = begin;
      within = subst (λ (t : List ℕ). begin ≤ length t) same past.high;
      ends = subst (λ (t : List ℕ). AllEndFrom t 0 begin) same past.ends;
      other = subst (λ (t : List ℕ). is_line_end (slice_index t begin) ≡ false) same past.other;
      line = subst (λ (t : List ℕ). line ≡ c.args.feeds + count_feeds (take begin t) + 1) same sum;
      says = subst (λ (t : List ℕ). SaysQuote (drop begin t) line (string_bytes quote)) same says;
    }
