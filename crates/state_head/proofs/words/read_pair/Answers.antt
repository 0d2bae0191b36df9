use Rattle.std.proofs.Common.{◌≡◌, ◌++◌, ℕ, List}
use Rattle.state_file.specs.Text.{text_bytes}
use Rattle.state_head.proofs.Texts.{pair_read, pair_written}
use Rattle.state_head.proofs.words.read_pair.Goals as goal

pub returns-in_default-clause-written : goal.returns-in_default-clause-written
returns-in_default-clause-written c = λ a b rest few less e. c.in_default.ensures.written a (text_bytes b ++ rest) few (pair_written c.args.bytes.now a b rest e)

pub returns-in-Some-read_text-clause-read : goal.returns-in-Some-read_text-clause-read
returns-in-Some-read_text-clause-read c =
    let one = c.in-Some.ensures.read in
    let two = c.in-Some-read_text.ensures.read in
    (pair_read c.args.bytes.now c.in-Some.a.now c.in-Some.after.now c.in-Some-read_text.b.now c.in-Some-read_text.rest.now one.0 two.0, one.1, two.1)

pub returns-in-Some-read_text-clause-written : goal.returns-in-Some-read_text-clause-written
returns-in-Some-read_text-clause-written c = λ a b rest few less e.
    let one = c.in-Some.ensures.written a (text_bytes b ++ rest) few (pair_written c.args.bytes.now a b rest e) in
    let two = c.in-Some-read_text.ensures.written b rest less one.1 in
    (one.0, two.0, two.1)

pub returns-in-None-clause-written : goal.returns-in-None-clause-written
returns-in-None-clause-written c = λ a b rest few less e.
    let one = c.in-Some.ensures.written a (text_bytes b ++ rest) few (pair_written c.args.bytes.now a b rest e) in
    c.in-None.ensures.written b rest less one.1
