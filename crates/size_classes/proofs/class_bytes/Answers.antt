use Rattle.size_classes.proofs.Sizes.{class_words, class_range}
use Rattle.size_classes.proofs.class_bytes.Goals as goal

pub returns-clause-words : goal.returns-clause-words
returns-clause-words c = class_words c.args.class c.requires.class

pub returns-clause-range : goal.returns-clause-range
returns-clause-range c = class_range c.args.class c.requires.class
