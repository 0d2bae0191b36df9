-- What line ends at either end of a text, and carriage returns in it, are to its records.
use Rattle.std.proofs.Common.{◌≡◌, ◌≢◌, ◌<◌, ◌+◌, ◌∙◌, ℕ, zero, suc, true, List, length, take, drop, slice_index, arith, [], ◌∷◌, ◌++◌, append_assoc, append-nil, refl, sym, ap, inl, inr}
use Rattle.std.specs.Prelude.{◌==◌}
use Rattle.std.proofs.lemmas.Bool.{cases_Bool, eqb-true}
use Rattle.std.proofs.lemmas.List.{drop_more, get_or-take, length-take, take_more}
use Rattle.csv_rows.specs.Plain.{NoReturn, is_line_end, plain_from, plain_records}
use Rattle.csv_rows.proofs.Splits.{behind}

-- a line end is one of two bytes
pub which-end : (P : ℕ → Type 0) (c : ℕ) → is_line_end c ≡ true → P 13 → P 10 → P c
which-end P c is r l = elim (cases_Bool (c == 13)) [
  | inl e ↦ rw (eqb-true c 13 e) r
  | inr e ↦ rw (eqb-true c 10 (rw e at is)) l
]

-- two texts that give the same records behind every front
pub plain-front : (a b : List ℕ) → ((fields : List (List ℕ)) (field : List ℕ) → plain_from fields field a ≡ plain_from fields field b) → (xs : List ℕ) (fields : List (List ℕ)) (field : List ℕ)
    → plain_from fields field (xs ++ a) ≡ plain_from fields field (xs ++ b)
unfolding plain_from
plain-front a b h [] fields field = h fields field
plain-front a b h (c ∷ xs) fields field =
    rw (plain-front a b h xs (fields ++ (field ∷ [])) [], plain-front a b h xs [] [], plain-front a b h xs fields (field ++ (c ∷ []))) refl

return-here : (fields : List (List ℕ)) (field rest : List ℕ) → plain_from fields field (13 ∷ rest) ≡ plain_from fields field (10 ∷ rest)
unfolding plain_from
return-here fields field rest = refl

return-feed-here : (fields : List (List ℕ)) (field rest : List ℕ) → plain_from fields field (13 ∷ 10 ∷ rest) ≡ plain_from fields field (10 ∷ rest)
unfolding plain_from
return-feed-here fields field rest = refl

feed-here : (fields : List (List ℕ)) (field : List ℕ) → plain_from fields field (10 ∷ []) ≡ plain_from fields field []
unfolding plain_from
feed-here fields field = append-nil (plain_from fields field [])

-- a carriage return ends a line as a line feed does
pub return-alone : (xs rest : List ℕ) → plain_records (xs ++ (10 ∷ rest)) ≡ plain_records (xs ++ (13 ∷ rest))
return-alone xs rest = sym (plain-front (13 ∷ rest) (10 ∷ rest) (λ fields field. return-here fields field rest) xs [] [])

-- and in front of a line feed it counts for nothing
pub return-feed : (xs rest : List ℕ) → plain_records (xs ++ (10 ∷ rest)) ≡ plain_records (xs ++ (13 ∷ 10 ∷ rest))
return-feed xs rest = sym (plain-front (13 ∷ 10 ∷ rest) (10 ∷ rest) (λ fields field. return-feed-here fields field rest) xs [] [])

-- a line end behind the last record
pub end-behind : (xs : List ℕ) (c : ℕ) → is_line_end c ≡ true → plain_records (xs ++ (c ∷ [])) ≡ plain_records xs
end-behind xs c is =
    let feed : plain_records (xs ++ (10 ∷ [])) ≡ plain_records xs = rw (append-nil xs) at (plain-front (10 ∷ []) [] feed-here xs [] []) in
    which-end (λ c. plain_records (xs ++ (c ∷ [])) ≡ plain_records xs) c is (sym (return-alone xs []) ∙ feed) feed

return-front : (xs : List ℕ) → plain_records (13 ∷ xs) ≡ plain_records xs
unfolding plain_from
return-front xs = refl

feed-front : (xs : List ℕ) → plain_records (10 ∷ xs) ≡ plain_records xs
unfolding plain_from
feed-front xs = refl

-- a line end in front of the first record
pub end-before : (xs : List ℕ) (c : ℕ) → is_line_end c ≡ true → plain_records (c ∷ xs) ≡ plain_records xs
end-before xs c is = which-end (λ c. plain_records (c ∷ xs) ≡ plain_records xs) c is (return-front xs) (feed-front xs)

-- one step of a search for the first byte that ends no line, and for the last
pub front-more : (xs : List ℕ) (at : ℕ) → at < length xs → is_line_end (slice_index xs at) ≡ true → plain_records (drop (at + 1) xs) ≡ plain_records (drop at xs)
front-more xs at lt is = rw (drop_more xs at 0 lt) (sym (end-before (drop (at + 1) xs) (slice_index xs at) is))

pub back-more : (xs : List ℕ) (at : ℕ) → at < length xs → is_line_end (slice_index xs at) ≡ true → plain_records (take at xs) ≡ plain_records (take (at + 1) xs)
back-more xs at lt is = rw (take_more xs at 0 lt) (sym (end-behind (take at xs) (slice_index xs at) is))

-- what was copied of a text, and what is left of it, past a carriage return
pub copied-alone : (out xs : List ℕ) (at k : ℕ) → k < length (drop at xs) → slice_index (drop at xs) k ≡ 13
    → plain_records (((out ++ take k (drop at xs)) ++ (10 ∷ [])) ++ drop (at + (k + 1)) xs) ≡ plain_records (out ++ drop at xs)
copied-alone out xs at k lt is =
    let t = take k (drop at xs) in
    let same : at + k + 1 ≡ at + (k + 1) = omega arith in
    let rest = drop (at + (k + 1)) xs in
    let all : drop at xs ≡ t ++ (13 ∷ rest) = rw same at (behind xs at k 13 lt is) in
    rw (append_assoc (out ++ t) (10 ∷ []) rest) (return-alone (out ++ t) rest ∙ ap (λ ys. plain_records ys) (append_assoc out t (13 ∷ rest) ∙ ap (λ ys. out ++ ys) (sym all)))

-- and past one in front of a line feed
pub copied-feed : (out xs : List ℕ) (at k : ℕ) → k < length (drop at xs) → slice_index (drop at xs) k ≡ 13 → at + (k + 1) < length xs → slice_index xs (at + (k + 1)) ≡ 10
    → plain_records ((out ++ take k (drop at xs)) ++ drop (at + (k + 1)) xs) ≡ plain_records (out ++ drop at xs)
copied-feed out xs at k lt is more feed =
    let t = take k (drop at xs) in
    let same : at + k + 1 ≡ at + (k + 1) = omega arith in
    let later = drop (at + (k + 1) + 1) xs in
    let rest : drop (at + (k + 1)) xs ≡ 10 ∷ later = drop_more xs (at + (k + 1)) 0 more ∙ ap (λ (y : ℕ). y ∷ later) feed in
    let all : drop at xs ≡ t ++ (13 ∷ 10 ∷ later) = rw (same, rest) at (behind xs at k 13 lt is) in
    ap (λ ys. plain_records ((out ++ t) ++ ys)) rest ∙ return-feed (out ++ t) later ∙ ap (λ ys. plain_records ys) (append_assoc out t (13 ∷ 10 ∷ later) ∙ ap (λ ys. out ++ ys) (sym all))

-- lists without carriage returns
pub no-return-append : (a b : List ℕ) → NoReturn a → NoReturn b → (k : ℕ) → k < length (a ++ b) → slice_index (a ++ b) k ≢ 13
no-return-append [] b ha hb k lt = hb k lt
no-return-append (x ∷ a) b ha hb zero lt = ha 0 (omega arith)
no-return-append (x ∷ a) b ha hb (suc k) lt = no-return-append a b (λ j l. ha (suc j) (omega arith)) hb k (omega arith)

pub no-return-take : (n : ℕ) (xs : List ℕ) → ((j : ℕ) → j < n → slice_index xs j ≢ 13) → NoReturn (take n xs)
no-return-take n xs h = λ k lt is.
    let short : k < n = omega (arith, length-take n xs) in
    let read : slice_index (take n xs) k ≡ slice_index xs k = get_or-take n xs k 0 short in
    h k short (sym read ∙ is)

pub no-return-feed : NoReturn (10 ∷ [])
no-return-feed zero lt = λ is. absurd (omega (arith, is))
no-return-feed (suc k) lt = absurd (omega arith)
