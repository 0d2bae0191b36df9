-- What the writes of a row's message leave in the buffer.
use Rattle.std.proofs.Common.{◌≡◌, ◌∙◌, ℕ, List, [], ◌∷◌, ◌++◌, length, take, set, ap, rules, arith}
use Rattle.std.proofs.lemmas.List.{take_more_set, places}
use Rattle.std.proofs.lemmas.Slice.{take-put_mid}
use borrow.Rule.Slice.PartMut.{put_mid}

pub row_laid : (out zs ys : List ℕ) (tag cause : ℕ) → length out ≡ 14 → length zs ≡ 8 → length ys ≡ 4
    → take 14 (put_mid 10 4 (set (put_mid 1 8 (set out 0 tag) zs) 9 cause) ys) ≡ (tag ∷ (zs ++ cause ∷ [])) ++ ys
row_laid out zs ys tag cause long eight four =
    let first : List ℕ = set out 0 tag in
    let second : List ℕ = put_mid 1 8 first zs in
    let third : List ℕ = set second 9 cause in
    let first_long : length first ≡ 14 = search (rules, places, long) in
    let second_long : length second ≡ 14 = search (rules, places, first_long, eight) in
    let third_long : length third ≡ 14 = search (rules, places, second_long) in
    let a : take 1 first ≡ tag ∷ [] = take_more_set out 0 tag (omega arith) in
    let b : take 9 second ≡ take 1 first ++ zs = take-put_mid 1 8 first zs 9 (omega arith) (omega arith) in
    let c : take 10 third ≡ take 9 second ++ cause ∷ [] = take_more_set second 9 cause (omega arith) in
    let d : take 14 (put_mid 10 4 third ys) ≡ take 10 third ++ ys = take-put_mid 10 4 third ys 14 (omega arith) (omega arith) in
    d ∙ ap (λ u. u ++ ys) (c ∙ ap (λ u. u ++ cause ∷ []) (b ∙ ap (λ u. u ++ zs) a))
