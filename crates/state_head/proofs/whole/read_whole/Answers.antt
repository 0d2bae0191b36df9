use Rattle.std.proofs.Common.{◌≡◌, ◌++◌, ℕ, List, arith}
use Rattle.state_file.specs.Number.{number_bytes}
use Rattle.state_file.specs.Text.{text_bytes}
use Rattle.state_head.specs.Words.{words_of}
use Rattle.state_head.proofs.Texts.{subject_read, subject_same, subject_written}
use Rattle.state_head.proofs.whole.read_whole.Goals as goal

pub returns-in_default-clause-written : goal.returns-in_default-clause-written
returns-in_default-clause-written c = λ s rest is e. c.in_default.ensures.written s.words (text_bytes s.header ++ (number_bytes s.sources ++ rest)) is.are_words (subject_written c.args.bytes.now rest s e)

pub returns-in_default-read_text-clause-written : goal.returns-in_default-read_text-clause-written
returns-in_default-read_text-clause-written c = λ s rest is e.
    let one = c.in-Some.ensures.written s.words (text_bytes s.header ++ (number_bytes s.sources ++ rest)) is.are_words (subject_written c.args.bytes.now rest s e) in
    c.in_default-read_text.ensures.written s.header (number_bytes s.sources ++ rest) is.header one.1

pub returns-in-Some-read_sources-clause-read : goal.returns-in-Some-read_sources-clause-read
returns-in-Some-read_sources-clause-read c =
    let one = c.in-Some.ensures.read in
    let two = c.in-Some-read_text.ensures.read in
    let three = c.in-Some-read_sources.ensures.read in (
      subject_read c.args.bytes.now c.in-Some.after.now c.in-Some-read_text.after.now c.in-Some-read_sources.rest.now c.in-Some-read_text.header.now (words_of c.in-Some.words) c.in-Some-read_sources.sources one.0 two.0 three.0,
      record { are_words = one.1; header = two.1; some = three.1; few = three.2 },
    )

pub returns-in-Some-read_sources-clause-written : goal.returns-in-Some-read_sources-clause-written
returns-in-Some-read_sources-clause-written c = λ s rest is e.
    let one = c.in-Some.ensures.written s.words (text_bytes s.header ++ (number_bytes s.sources ++ rest)) is.are_words (subject_written c.args.bytes.now rest s e) in
    let two = c.in-Some-read_text.ensures.written s.header (number_bytes s.sources ++ rest) is.header one.1 in
    let three = c.in-Some-read_sources.ensures.written s.sources rest is.some is.few two.1 in (
      subject_same (record { words = words_of c.in-Some.words; header = c.in-Some-read_text.header.now; sources = c.in-Some-read_sources.sources }) s one.0 two.0 three.0,
      three.1,
    )

pub returns-in-None-clause-written : goal.returns-in-None-clause-written
returns-in-None-clause-written c = λ s rest is e.
    let one = c.in-Some.ensures.written s.words (text_bytes s.header ++ (number_bytes s.sources ++ rest)) is.are_words (subject_written c.args.bytes.now rest s e) in
    let two = c.in-Some-read_text.ensures.written s.header (number_bytes s.sources ++ rest) is.header one.1 in
    c.in-None.ensures.written s.sources rest is.some is.few two.1
