-- What csv's machine makes of a text without quotes.
use Rattle.std.proofs.Common.{◌≡◌, ◌∙◌, append_assoc, append-nil, ℕ, suc, false, List, [], ◌∷◌, ◌++◌, refl, ap, inl, inr, arith}
use Rattle.std.specs.Prelude.{◌==◌, ◌&&◌}
use Rattle.std.proofs.lemmas.Bool.{cases_Bool, eqb-true}
use Rattle.csv.specs.Reading.{default_config, records}
use Rattle.csv.specs.declared.parser.State.TheVariants as st
use Rattle.csv_rows.specs.Places.{NoQuote}
use Rattle.csv_rows.specs.Plain.{NoMark, is_line_end, is_mark, is_none, plain_from}
use Rattle.csv_rows.proofs.Machine.{all_from, records-all}

head-plain : (x : ℕ) (xs : List ℕ) → NoQuote (x ∷ xs) → (x == 34) ≡ false
head-plain x xs h = elim (cases_Bool (x == 34)) [ inl e ↦ absurd (h 0 (omega arith) (eqb-true x 34 e)) | inr e ↦ e ]

tail-plain : (x : ℕ) (xs : List ℕ) → NoQuote (x ∷ xs) → NoQuote xs
tail-plain x xs h = λ k lt. h (suc k) (omega arith)

some-fields : (fs : List (List ℕ)) (f : List ℕ) → is_none (fs ++ (f ∷ [])) ≡ false
some-fields [] f = refl
some-fields (g ∷ fs) f = refl

-- what the machine makes of a text from each of its states between quotes
record Plain (xs : List ℕ) : Type 0 where
  start : all_from st.StartRecord [] [] xs ≡ plain_from [] [] xs
  cr : all_from st.AfterCr [] [] xs ≡ plain_from [] [] xs
  field : (fs : List (List ℕ)) (f : List ℕ) → all_from st.StartField (fs ++ (f ∷ [])) [] xs ≡ plain_from (fs ++ (f ∷ [])) [] xs
  inside : (fs : List (List ℕ)) (b : ℕ) (bs : List ℕ) → all_from st.InField fs (b ∷ bs) xs ≡ plain_from fs (b ∷ bs) xs

plain-none : Plain []
unfolding all_from plain_from
plain-none = record {
  start = refl;
  cr = refl;
  field = λ fs f. rw (some-fields fs f) refl;
  inside = λ fs b bs. refl;
}

plain-comma : (rest : List ℕ) → Plain rest → Plain (44 ∷ rest)
unfolding all_from plain_from
plain-comma rest p = record {
  start = p.field [] [];
  cr = p.field [] [];
  field = λ fs f. p.field (fs ++ (f ∷ [])) [];
  inside = λ fs b bs. p.field fs (b ∷ bs);
}

plain-return : (rest : List ℕ) → Plain rest → Plain (13 ∷ rest)
unfolding all_from plain_from
plain-return rest p = record {
  start = p.start;
  cr = p.start;
  field = λ fs f. rw (some-fields fs f) (ap (λ rs. ((fs ++ (f ∷ [])) ++ ([] ∷ [])) ∷ rs) p.cr);
  inside = λ fs b bs. ap (λ rs. (fs ++ ((b ∷ bs) ∷ [])) ∷ rs) p.cr;
}

plain-feed : (rest : List ℕ) → Plain rest → Plain (10 ∷ rest)
unfolding all_from plain_from
plain-feed rest p = record {
  start = p.start;
  cr = p.start;
  field = λ fs f. rw (some-fields fs f) (ap (λ rs. ((fs ++ (f ∷ [])) ++ ([] ∷ [])) ∷ rs) p.start);
  inside = λ fs b bs. ap (λ rs. (fs ++ ((b ∷ bs) ∷ [])) ∷ rs) p.start;
}

plain-other : (c : ℕ) (rest : List ℕ) → (c == 34) ≡ false → (c == 44) ≡ false → (c == 13) ≡ false → (c == 10) ≡ false → Plain rest → Plain (c ∷ rest)
unfolding all_from plain_from
plain-other c rest q e r l p = record {
  start = rw (q, e, r, l) (p.inside [] c []);
  cr = rw (q, e, r, l) (p.inside [] c []);
  field = λ fs f. rw (q, e, r, l) (p.inside (fs ++ (f ∷ [])) c []);
  inside = λ fs b bs. rw (e, r, l) (p.inside fs b (bs ++ (c ∷ [])));
}

plain-more : (c : ℕ) (rest : List ℕ) → (c == 34) ≡ false → Plain rest → Plain (c ∷ rest)
plain-more c rest q p = elim (cases_Bool (c == 44)) [
  | inl e ↦ rw (eqb-true c 44 e) (plain-comma rest p)
  | inr e ↦ elim (cases_Bool (c == 13)) [
    | inl r ↦ rw (eqb-true c 13 r) (plain-return rest p)
    | inr r ↦ elim (cases_Bool (c == 10)) [ inl l ↦ rw (eqb-true c 10 l) (plain-feed rest p) | inr l ↦ plain-other c rest q e r l p ]
  ]
]

plain-all : (xs : List ℕ) → NoQuote xs → Plain xs
plain-all [] h = plain-none
plain-all (c ∷ rest) h = plain-more c rest (head-plain c rest h) (plain-all rest (tail-plain c rest h))

-- the records of a text without quotes
pub plain-records : (xs : List ℕ) → NoQuote xs → records default_config xs ≡ plain_from [] [] xs
plain-records xs h = records-all xs ∙ (plain-all xs h).start

-- a byte that is no mark is none of these
not-comma : (c : ℕ) → is_mark c ≡ false → (c == 44) ≡ false
not-comma c h = elim (cases_Bool (c == 44)) [ inl e ↦ absurd (cc (rw e at h)) | inr e ↦ e ]

not-end : (c : ℕ) → is_mark c ≡ false → is_line_end c ≡ false
not-end c h = rw (not-comma c h) at h

head-mark : (c : ℕ) (xs : List ℕ) → NoMark (c ∷ xs) → is_mark c ≡ false
head-mark c xs h = h 0 (omega arith)

tail-mark : (c : ℕ) (xs : List ℕ) → NoMark (c ∷ xs) → NoMark xs
tail-mark c xs h = λ k lt. h (suc k) (omega arith)

-- bytes that are no marks join the field at hand
pub plain-run : (fields : List (List ℕ)) (field x rest : List ℕ) → NoMark x → plain_from fields field (x ++ rest) ≡ plain_from fields (field ++ x) rest
unfolding plain_from
plain-run fields field [] rest h = rw (append-nil field) refl
plain-run fields field (c ∷ x) rest h =
    let mark = head-mark c x h in
    let more = plain-run fields (field ++ (c ∷ [])) x rest (tail-mark c x h) in
    rw (not-comma c mark, not-end c mark) (rw (append_assoc field (c ∷ []) x) at more)

-- a field up to a comma
pub plain-field : (fields : List (List ℕ)) (x rest : List ℕ) → NoMark x → plain_from fields [] (x ++ (44 ∷ rest)) ≡ plain_from (fields ++ (x ∷ [])) [] rest
unfolding plain_from
plain-field fields x rest h = plain-run fields [] x (44 ∷ rest) h

-- the last field of a record, up to a line feed
pub plain-line : (fields : List (List ℕ)) (x rest : List ℕ) → NoMark x → (is_none x && is_none fields) ≡ false
    → plain_from fields [] (x ++ (10 ∷ rest)) ≡ (fields ++ (x ∷ [])) ∷ plain_from [] [] rest
unfolding plain_from
plain-line fields x rest h some = plain-run fields [] x (10 ∷ rest) h ∙ rw some refl

-- the last field of a text
pub plain-last : (fields : List (List ℕ)) (x : List ℕ) → NoMark x → (is_none x && is_none fields) ≡ false → plain_from fields [] x ≡ (fields ++ (x ∷ [])) ∷ []
unfolding plain_from
plain-last fields x h some =
    let run = rw (append-nil x) at (plain-run fields [] x [] h) in
    run ∙ rw some refl
