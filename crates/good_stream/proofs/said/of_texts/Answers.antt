use Rattle.std.proofs.Common.{◌≡◌, ◌++◌, ◌∷◌, [], ℕ, List, append_assoc, sym}
use Rattle.std.specs.Prelude.{codes}
use Rattle.good_stream.proofs.said.of_texts.Goals as goal

-- the pieces of a line, one behind the other
regroup : (a b n c d row e at f said z : List ℕ) → a ++ ((b ++ (n ++ (c ++ ((d ++ (row ++ (e ++ (at ++ f)))) ++ said)))) ++ z) ≡ a ++ (b ++ (n ++ (c ++ (d ++ (row ++ (e ++ (at ++ (f ++ (said ++ z)))))))))
regroup a b n c d row e at f said z = simp append_assoc

pub returns : goal.returns
returns c =
    sym (regroup (codes "parstream: ") (codes "rows left out: ") c.args.count.now (codes "; the first: ") (codes "row ") c.args.row.now (codes " (line ") c.args.at.now (codes "): ") c.args.said.now (10 ∷ []))
