use Rattle.std.proofs.Common.{◌≡◌, ◌<◌, ◌+◌, ◌*◌, ◌/◌, ◌∙◌, length, drop, slice_index, sym, arith}
use Rattle.std.proofs.lemmas.Bool.{eqb-true}
use Rattle.std.proofs.lemmas.List.{get_or-drop, length-drop, take_rest}
use Rattle.csv_rows.specs.Places.{place_after}
use Rattle.csv_rows.specs.declared.place.Place.TheVariants as place
use Rattle.csv_rows.proofs.Scans.{halves-at}
use Rattle.csv_rows.proofs.scan.+fn-scan_in_threads-join+arg2+fn-scan_in_threads-join+arg3+scan_in_threads.Goals as goal

pub returns-clause-quoted : goal.returns-clause-quoted
returns-clause-quoted g t c =
    let xs = c.args.bytes.now in
    let half = length xs / c.args.threads * (c.args.threads / 2) in
    let k = c.in-Some.count in
    let found = rw (take_rest xs half) at c.in-Some.ensures in
    let low : k < length (drop half xs) = found.0.high in
    let size = length-drop half xs in
    let there : half + k < length xs = omega arith in
    let is : slice_index xs (half + k) ≡ 10 = sym (get_or-drop half xs k 0) ∙ eqb-true (slice_index (drop half xs) k) 10 found.1 in
    let front : c.join.result.0.quoted ≡ place_after place.Quoted c.split_at.result.0.now = c.join.ensures.first.0 in
    let back = c.join.ensures.second in
    let all = halves-at place.Quoted c.join.result.1.quoted c.join.result.1.opens xs c.split_at.result.0.now c.split_at.result.1.now (half + k) there is c.split_at.ensures.front c.split_at.ensures.back back.0 back.1 in
    c.end_from.ensures ∙ rw front all

pub returns-clause-opens : goal.returns-clause-opens
returns-clause-opens g t c =
    let xs = c.args.bytes.now in
    let half = length xs / c.args.threads * (c.args.threads / 2) in
    let k = c.in-Some.count in
    let found = rw (take_rest xs half) at c.in-Some.ensures in
    let low : k < length (drop half xs) = found.0.high in
    let size = length-drop half xs in
    let there : half + k < length xs = omega arith in
    let is : slice_index xs (half + k) ≡ 10 = sym (get_or-drop half xs k 0) ∙ eqb-true (slice_index (drop half xs) k) 10 found.1 in
    let front : c.join.result.0.opens ≡ place_after place.Opens c.split_at.result.0.now = c.join.ensures.first.1 in
    let back = c.join.ensures.second in
    let all = halves-at place.Opens c.join.result.1.quoted c.join.result.1.opens xs c.split_at.result.0.now c.split_at.result.1.now (half + k) there is c.split_at.ensures.front c.split_at.ensures.back back.0 back.1 in
    c.end_from-2.ensures ∙ rw front all
