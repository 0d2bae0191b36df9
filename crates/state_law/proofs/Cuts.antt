-- Two texts that are each cut outside quotes, as a scan from its own start finds, are so as one, if the second begins with the end of a line.
use Rattle.std.proofs.Common.{◌≡◌, ◌++◌, ◌∙◌, ℕ, true, false, List, [], ◌∷◌, ap, arith, inl, inr, refl, sym}
use Rattle.std.specs.Prelude.{◌==◌}
use Rattle.std.proofs.lemmas.Bool.{cases_Bool, eqb-true}
use Rattle.csv.specs.Reading.{strip_bom}
use Rattle.csv.specs.declared.parser.State.{State}
use Rattle.csv.specs.declared.parser.State.TheVariants as st
use Rattle.csv_rows.specs.Cuts.{IsCut, is_quoted, state_after}
use Rattle.csv_rows.proofs.Compose.{state-append, strip-front}
use Rattle.csv_rows.proofs.Follows.{is_usual, scan-follows}
use Rattle.row_windows.specs.Seams.{BeginsLine}
use Rattle.row_windows.proofs.Seams.{not-feed, strip-return}

-- after a carriage return a scan goes on as from the start
after_return : (b : List ℕ) → is_quoted (state_after st.AfterCr b) ≡ is_quoted (state_after st.StartRecord b)
unfolding state_after
after_return [] = refl
after_return (c ∷ b) = elim (cases_Bool (c == 10)) [
  | inl e ↦ let is : c ≡ 10 = eqb-true c 10 e in rw is refl
  | inr e ↦ rw e refl
]

-- outside quotes the end of a line leads to where it leads from the start
at_feed : (s : State) (b : List ℕ) → is_usual s ≡ true → is_quoted s ≡ false → is_quoted (state_after s (10 ∷ b)) ≡ is_quoted (state_after st.StartRecord (10 ∷ b))
unfolding state_after
at_feed st.StartRecord b u q = refl
at_feed st.StartField b u q = refl
at_feed st.InField b u q = refl
at_feed st.InQuoted b u q = cc
at_feed st.AfterQuote b u q = refl
at_feed st.AfterCr b u q = refl
at_feed st.InEscape b u q = cc
at_feed st.InComment b u q = cc

at_return : (s : State) (b : List ℕ) → is_usual s ≡ true → is_quoted s ≡ false → is_quoted (state_after s (13 ∷ b)) ≡ is_quoted (state_after st.StartRecord (13 ∷ b))
unfolding state_after
at_return st.StartRecord b u q = refl
at_return st.StartField b u q = after_return b
at_return st.InField b u q = after_return b
at_return st.InQuoted b u q = cc
at_return st.AfterQuote b u q = after_return b
at_return st.AfterCr b u q = refl
at_return st.InEscape b u q = cc
at_return st.InComment b u q = cc

at_feed_cut : (a b : List ℕ) → IsCut a → IsCut (10 ∷ b) → IsCut (a ++ 10 ∷ b)
unfolding strip_bom
at_feed_cut a b cut more =
    ap (λ (t : List ℕ). is_quoted (state_after st.StartRecord t)) (strip-front a b)
    ∙ ap is_quoted (state-append st.StartRecord (strip_bom a) (10 ∷ b))
    ∙ at_feed (state_after st.StartRecord (strip_bom a)) b (scan-follows st.StartRecord (strip_bom a) refl).0 cut
    ∙ sym (ap (λ (t : List ℕ). is_quoted (state_after st.StartRecord t)) (strip-front [] b)) ∙ more

at_return_cut : (a b : List ℕ) → IsCut a → IsCut (13 ∷ b) → IsCut (a ++ 13 ∷ b)
unfolding strip_bom
at_return_cut a b cut more =
    ap (λ (t : List ℕ). is_quoted (state_after st.StartRecord t)) (strip-return a b)
    ∙ ap is_quoted (state-append st.StartRecord (strip_bom a) (13 ∷ b))
    ∙ at_return (state_after st.StartRecord (strip_bom a)) b (scan-follows st.StartRecord (strip_bom a) refl).0 cut
    ∙ sym (ap (λ (t : List ℕ). is_quoted (state_after st.StartRecord t)) (strip-return [] b)) ∙ more

pub cut_append : (a b : List ℕ) → IsCut a → BeginsLine b → IsCut b → IsCut (a ++ b)
cut_append a [] cut line more = absurd (omega (arith, line.some))
cut_append a (c ∷ b) cut line more = elim (cases_Bool (c == 10)) [
  | inl e ↦ let is : c ≡ 10 = eqb-true c 10 e in rw is (at_feed_cut a b cut (rw is at more))
  | inr e ↦ let is : c ≡ 13 = not-feed c e line.is in rw is (at_return_cut a b cut (rw is at more))
]
