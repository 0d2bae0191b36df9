-- The words of slices, one more at the end.
use Rattle.std.proofs.Common.{◌≡◌, ◌+◌, ◌/◌, ap, ◌∙◌, arith, List, [], ◌∷◌, ◌++◌}
use Rattle.region_words.specs.declared.chunk.Chunk.{Chunk}
use Rattle.std.proofs.lemmas.List.Sums.{sum_by-append}
use Rattle.c_table.specs.Reserves.{chunk_words}

pub one_more_words : (all xs : List Chunk) (c : Chunk) → all ≡ xs ++ c ∷ [] → chunk_words all ≡ chunk_words xs + c.bytes / 8
one_more_words all xs c e =
    let more : chunk_words (xs ++ c ∷ []) ≡ chunk_words xs + (0 + c.bytes / 8) = sum_by-append (λ (k : Chunk). k.bytes / 8) xs (c ∷ []) in
    ap chunk_words e ∙ omega arith
