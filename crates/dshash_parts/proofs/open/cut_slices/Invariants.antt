use Rattle.std.proofs.Common.{◌≡◌, ◌+◌, ◌≤◌, length, vec_capacity}
use Rattle.word_map.specs.WordMap.{rest_of}
use Rattle.region_words.specs.Parts.{owned}
use Rattle.dshash_parts.specs.Opening.{HaveWords}
use Rattle.dshash_parts.proofs.open.cut_slices.Given as goal

abbrev pub invariant-loop-cut : goal.invariant-loop-cut
invariant-loop-cut l = record {
  next : l.next ≡ l.from + l._cut;
  low : l.from + 128 ≤ 67108864;
  rest : l.part ≡ owned l.fn.part.region (rest_of l.fn.part.words l.from l._cut);
  count : length l.slices.items ≡ l._cut;
  room : 128 ≤ vec_capacity l.slices;
  slices : HaveWords l.r l.slices.items;
}
