use Rattle.std.proofs.Common.{◌≡◌, ◌++◌, ℕ, List, ap, ◌∙◌}
use Rattle.state_head.specs.Cover.{place_bytes, rows_bytes, stretch_bytes}
use Rattle.state_head.specs.declared.cover.Place.{Place}
use Rattle.state_head.specs.declared.cover.Rows.{Rows}
use Rattle.state_head.specs.declared.cover.Stretch.{Stretch}
use Rattle.state_head.proofs.Texts.{two_read, two_written}
use Rattle.state_head.proofs.cover.read_stretch.Goals as goal

stretch_written : (bytes rest : List ℕ) (s : Stretch) → bytes ≡ stretch_bytes s ++ rest → bytes ≡ place_bytes s.place ++ (rows_bytes s.rows ++ rest)
unfolding stretch_bytes
stretch_written bytes rest s e = two_written bytes (place_bytes s.place) (rows_bytes s.rows) rest e

stretch_read : (bytes after rest : List ℕ) (place : Place) (rows : Rows) → bytes ≡ place_bytes place ++ after → after ≡ rows_bytes rows ++ rest → bytes ≡ stretch_bytes (record { place = place; rows = rows }) ++ rest
unfolding stretch_bytes
stretch_read bytes after rest place rows e f = two_read bytes (place_bytes place) after (rows_bytes rows) rest e f

stretch_same : (place : Place) (rows : Rows) (s : Stretch) → place ≡ s.place → rows ≡ s.rows → record { place = place; rows = rows } ≡ s
stretch_same place rows s e f = ap (λ (p : Place). the (record { place = p; rows = rows })) e ∙ ap (λ (r : Rows). the (record { place = s.place; rows = r })) f
  where
    the : Stretch → Stretch
    the t = t

pub returns-in_default-clause-written : goal.returns-in_default-clause-written
returns-in_default-clause-written c = λ s rest is e. c.in_default.ensures.written s.place (rows_bytes s.rows ++ rest) is.is_place (stretch_written c.args.bytes.now rest s e)

pub returns-in-Some-read_rows-clause-read : goal.returns-in-Some-read_rows-clause-read
returns-in-Some-read_rows-clause-read c =
    let one = c.in-Some.ensures.read in
    let two = c.in-Some-read_rows.ensures.read in
    (stretch_read c.args.bytes.now c.in-Some.after.now c.in-Some-read_rows.rest.now c.in-Some.place c.in-Some-read_rows.rows one.0 two.0, record { is_place = one.1; are_rows = two.1 })

pub returns-in-Some-read_rows-clause-written : goal.returns-in-Some-read_rows-clause-written
returns-in-Some-read_rows-clause-written c = λ s rest is e.
    let one = c.in-Some.ensures.written s.place (rows_bytes s.rows ++ rest) is.is_place (stretch_written c.args.bytes.now rest s e) in
    let two = c.in-Some-read_rows.ensures.written s.rows rest is.are_rows one.1 in
    (stretch_same c.in-Some.place c.in-Some-read_rows.rows s one.0 two.0, two.1)

pub returns-in-None-clause-written : goal.returns-in-None-clause-written
returns-in-None-clause-written c = λ s rest is e.
    let one = c.in-Some.ensures.written s.place (rows_bytes s.rows ++ rest) is.is_place (stretch_written c.args.bytes.now rest s e) in
    c.in-None.ensures.written s.rows rest is.are_rows one.1
