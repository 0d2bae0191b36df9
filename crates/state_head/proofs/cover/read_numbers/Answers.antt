use Rattle.std.proofs.Common.{◌≡◌, ◌≤◌, ◌<◌, ◌^◌, ◌++◌, ◌∙◌, ℕ, List, arith, sym}
use Rattle.state_file.specs.Number.{number_bytes}
use Rattle.state_head.specs.Cover.{FitsPlace}
use Rattle.state_head.specs.declared.cover.Place.{Place}
use Rattle.state_head.proofs.Parts.{place_read, place_same, place_written}
use Rattle.state_head.proofs.cover.read_numbers.Goals as goal

below_32 : (n : ℕ) → n < 2 ^ 32 → n ≤ 4294967295
below_32 n h = omega (arith, h)

below_64 : (n : ℕ) → n < 2 ^ 64 → n ≤ 18446744073709551615
below_64 n h = omega (arith, h)

pub returns-in_default-clause-written : goal.returns-in_default-clause-written
returns-in_default-clause-written c = λ p rest fits e.
    c.in_default.ensures.written p.source (number_bytes p.from ++ (number_bytes p.to ++ (number_bytes p.size ++ rest))) (below_32 p.source fits.source) (place_written c.args.bytes.now rest p e)

pub returns-in_default-read_count-clause-written : goal.returns-in_default-read_count-clause-written
returns-in_default-read_count-clause-written c = λ p rest fits e.
    let a = c.in-Some.ensures.written p.source (number_bytes p.from ++ (number_bytes p.to ++ (number_bytes p.size ++ rest))) (below_32 p.source fits.source) (place_written c.args.bytes.now rest p e) in
    c.in_default-read_count.ensures.written p.from (number_bytes p.to ++ (number_bytes p.size ++ rest)) (below_64 p.from fits.from) a.1

pub returns-in_default-read_count-2-clause-written : goal.returns-in_default-read_count-2-clause-written
returns-in_default-read_count-2-clause-written c = λ p rest fits e.
    let a = c.in-Some.ensures.written p.source (number_bytes p.from ++ (number_bytes p.to ++ (number_bytes p.size ++ rest))) (below_32 p.source fits.source) (place_written c.args.bytes.now rest p e) in
    let b = c.in-Some-read_count.ensures.written p.from (number_bytes p.to ++ (number_bytes p.size ++ rest)) (below_64 p.from fits.from) a.1 in
    c.in_default-read_count-2.ensures.written p.to (number_bytes p.size ++ rest) (below_64 p.to fits.to) b.1

pub returns-in-Some-read_count-3-clause-read : goal.returns-in-Some-read_count-3-clause-read
returns-in-Some-read_count-3-clause-read c =
    place_read c.args.bytes.now c.in-Some.after.now c.in-Some-read_count.after.now c.in-Some-read_count-2.after.now c.in-Some-read_count-3.rest.now c.in-Some.source c.in-Some-read_count.from c.in-Some-read_count-2.to
    c.in-Some-read_count-3.size c.in-Some.ensures.read.0 c.in-Some-read_count.ensures.read.0 c.in-Some-read_count-2.ensures.read.0 c.in-Some-read_count-3.ensures.read.0

pub returns-in-Some-read_count-3-clause-written : goal.returns-in-Some-read_count-3-clause-written
returns-in-Some-read_count-3-clause-written c = λ p rest fits e.
    let a = c.in-Some.ensures.written p.source (number_bytes p.from ++ (number_bytes p.to ++ (number_bytes p.size ++ rest))) (below_32 p.source fits.source) (place_written c.args.bytes.now rest p e) in
    let b = c.in-Some-read_count.ensures.written p.from (number_bytes p.to ++ (number_bytes p.size ++ rest)) (below_64 p.from fits.from) a.1 in
    let d = c.in-Some-read_count-2.ensures.written p.to (number_bytes p.size ++ rest) (below_64 p.to fits.to) b.1 in
    let f = c.in-Some-read_count-3.ensures.written p.size rest (below_64 p.size fits.size) d.1 in
    (place_same c.in-Some.source c.in-Some-read_count.from c.in-Some-read_count-2.to c.in-Some-read_count-3.size p a.0 b.0 d.0 f.0, f.1)

pub returns-in-None-clause-written : goal.returns-in-None-clause-written
returns-in-None-clause-written c = λ p rest fits e.
    let a = c.in-Some.ensures.written p.source (number_bytes p.from ++ (number_bytes p.to ++ (number_bytes p.size ++ rest))) (below_32 p.source fits.source) (place_written c.args.bytes.now rest p e) in
    let b = c.in-Some-read_count.ensures.written p.from (number_bytes p.to ++ (number_bytes p.size ++ rest)) (below_64 p.from fits.from) a.1 in
    let d = c.in-Some-read_count-2.ensures.written p.to (number_bytes p.size ++ rest) (below_64 p.to fits.to) b.1 in
    c.in-None.ensures.written p.size rest (below_64 p.size fits.size) d.1
