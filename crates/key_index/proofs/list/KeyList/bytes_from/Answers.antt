use Rattle.std.proofs.Common.{◌≡◌, ◌-◌, ◌∙◌, List, ℕ, ap, drop, length, min, subst, take}
use Rattle.std.proofs.lemmas.List.{take_rest}
use Rattle.key_index.specs.Front.{AllBytes, leading}
use Rattle.key_index.specs.Keys.{key_at}
use Rattle.key_index.proofs.Front.{cut-is, leading-take}
use Rattle.key_index.proofs.list.KeyList.bytes_from.Goals as goal

-- the bytes that are read, from a rest that goes up to the key's end
read : (key found : List ℕ) (from m n : ℕ) → found ≡ key → m ≡ min from (length found) → n ≡ min (length (take (length found - m) (drop m found))) 16
    → take n (take (length found - m) (drop m found)) ≡ take 16 (drop from key)
read key found from m n same a b =
    ap (take n) (take_rest found m) ∙ cut-is found from m n a (b ∙ ap (λ (l : List ℕ). min (length l) 16) (take_rest found m)) ∙ ap (λ (key : List ℕ). take 16 (drop from key)) same

pub returns-clause-number : goal.returns-clause-number
returns-clause-number c =
    let key = key_at c.args.self.now c.args.at in
    c.number.ensures.number ∙ ap (leading 16) (read key c.get_or_none-key.result.now c.args.from c.min.result c.min-2.result c.get_or_none-key.ensures c.min.ensures c.min-2.ensures)
    ∙ leading-take 16 (drop c.args.from key)

pub returns-clause-bytes : goal.returns-clause-bytes
returns-clause-bytes c =
    let key = key_at c.args.self.now c.args.at in
    subst AllBytes (read key c.get_or_none-key.result.now c.args.from c.min.result c.min-2.result c.get_or_none-key.ensures c.min.ensures c.min-2.ensures) c.number.ensures.bytes
