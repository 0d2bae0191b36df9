use Rattle.std.proofs.Common.{◌≡◌, ◌≤◌, ◌++◌, length, map, option_map, take}
use Rattle.shell_lines.proofs.Cuts.{pieces, room}
use Rattle.shell_lines.specs.Words.{words_of}
use Rattle.shell_lines.proofs.words.Words.of.Given as goal

abbrev pub invariant-words : goal.invariant-words
invariant-words l = record {
  few : l.count ≤ 5;
  long : length l.words ≡ 5;
  words : map (λ word. word.now) (take l.count l.words) ++ pieces (option_map (λ text. text.now) l.left) ≡ words_of l.fn.line;
}

abbrev pub decreases-words : goal.decreases-words
decreases-words l = room (option_map (λ text. text.now) l.left)
