-- What is left of a piece.
use Rattle.std.proofs.Common.{◌≡◌, ◌≤◌, ◌+◌, ◌-◌, ◌∙◌, ℕ, List, ap, arith, drop, length, length-take, sym, take}
use Rattle.std.proofs.lemmas.List.{drop-drop, drop-take}

pub skipped : (from upto count : ℕ) (bytes : List ℕ) → from ≤ upto → count ≤ length (take (upto - from) (drop from bytes)) → take (upto - (from + count)) (drop (from + count) bytes) ≡ drop count (take (upto - from) (drop from bytes))
skipped from upto count bytes low few =
    let within : count ≤ upto - from = omega (arith, few, length-take (upto - from) (drop from bytes)) in
    let parts : upto - from ≡ count + (upto - (from + count)) = omega (arith, within, low) in
    ap (take (upto - (from + count))) (sym (drop-drop count from bytes)) ∙ sym (drop-take count (upto - (from + count)) (drop from bytes)) ∙ ap (λ (n : ℕ). drop count (take n (drop from bytes))) (sym parts)
