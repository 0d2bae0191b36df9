use Rattle.std.proofs.Common.{◌≡◌, arith}
use Rattle.state_head.specs.Head.{subject_of}
use Rattle.state_head.specs.Words.{words_of}
use Rattle.state_whole.proofs.Subjects.{fails, same_subject}
use Rattle.state_whole.proofs.alike.check_whole.Goals as goal

pub returns-then-not-has_words-clause-refused : goal.returns-then-not-has_words-clause-refused
returns-then-not-has_words-clause-refused c = fails c.has_words.result (words_of c.args.other.words ≡ words_of c.args.first.words) c.has_words.ensures.1 c.if-not-has_words.true

pub returns-then-not-is_same-clause-refused : goal.returns-then-not-is_same-clause-refused
returns-then-not-is_same-clause-refused c = fails c.is_same.result (c.args.other.header.now ≡ c.args.first.header.now) c.is_same.ensures.1 c.if-not-is_same.true

pub returns-clause-same : goal.returns-clause-same
returns-clause-same c =
    let sources : c.args.other.sources ≡ c.args.first.sources = omega arith in
    same_subject (subject_of c.args.other) (subject_of c.args.first) (c.has_words.ensures.0 c.if-not-has_words.false) (c.is_same.ensures.0 c.if-not-is_same.false) sources
