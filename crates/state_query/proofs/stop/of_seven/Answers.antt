use Rattle.std.proofs.Common.{◌≡◌, ◌++◌, ℕ, List, [], ◌∷◌, ap, arith, codes, length, rules}
use Rattle.state_query.proofs.Pieces.{seven_pieces}
use Rattle.state_query.proofs.stop.of_seven.Goals as goal

pub returns : goal.returns
returns c =
    let long : length c.args.said ≡ 7 = first_of (search rules, omega arith) in
    ap (λ (t : List ℕ). codes "parstream: " ++ t) (seven_pieces c.args.said (record { ref_ptr = (0, 0); now = [] }) (10 ∷ []) long)
