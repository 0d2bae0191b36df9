-- How a table is shown, by what its options ask for.
use Rattle.std.proofs.Common.{◌≡◌, ◌∙◌, ℕ, List, Result, Ok, Err, String, IfErr, IfOk, ap, refl, string_bytes, sym, subst}
use Rattle.std.specs.Prelude.{MatchResult}
use Rattle.std.specs.Global.{Global}
use Rattle.std.specs.declared.alloc.AllocError.{AllocError}
use Rattle.shown_stream.specs.Shown.{how_asked, how_in, how_with}
use Rattle.shown_stream.specs.declared.how.How.{How}
use Rattle.shown_words.specs.Asking.{NamedShown, asked_in}
use Rattle.shown_words.specs.Taking.{Took}
use Rattle.shown_words.specs.Telling.{wrong_text}
use Rattle.shown_words.specs.declared.asked.Wrong.{Wrong}

module _ (took : Took) where
  pub how_right : (asked : NamedShown) (how : Result How (List ℕ)) → asked_in took ≡ Ok asked → how_with took.rest asked ≡ how → how_in took ≡ how
  unfolding how_in
  how_right asked how right is = ap (how_asked took) right ∙ is

  pub how_wrong : (w : Wrong) (text : List ℕ) → asked_in took ≡ Err w → text ≡ wrong_text took w → how_in took ≡ Err text
  unfolding how_in
  how_wrong w text wrong is = ap (how_asked took) wrong ∙ ap (λ (t : List ℕ). Err t) (sym is)

  -- how the table is shown by options of which each is right
  pub hows_right : (words : List (List ℕ)) (asked : NamedShown) (r : Result (Result How (String Global)) AllocError) → words ≡ took.rest → asked_in took ≡ Ok asked
      → IfOk r (λ how. MatchResult how (λ how. how_with words asked ≡ Ok how) (λ text. how_with words asked ≡ Err (string_bytes text)))
      → IfOk r (λ how. MatchResult how (λ how. how_in took ≡ Ok how) (λ text. how_in took ≡ Err (string_bytes text)))
  hows_right words asked r rest right are =
      let same : how_with words asked ≡ how_in took = ap (λ (ws : List (List ℕ)). how_with ws asked) rest ∙ sym (how_right asked (how_with took.rest asked) right refl) in
      subst (λ (h : Result How (List ℕ)). IfOk r (λ how. MatchResult how (λ how. h ≡ Ok how) (λ text. h ≡ Err (string_bytes text)))) same are

-- what holds of the value that there is, or if there is none
module _ {T E : Type 0} (P : T → Type 0) where
  pub ok_of : (r : Result T E) (x : T) → r ≡ Ok x → P x → IfOk r P
  ok_of r x is holds = subst (λ (r : Result T E). IfOk r P) (sym is) holds

  pub ok_none : (r : Result T E) (e : E) → r ≡ Err e → IfOk r P
  ok_none r e is = subst (λ (r : Result T E). IfOk r P) (sym is) tt

  pub ok_each : (r : Result T E) → ((x : T) → P x) → IfOk r P
  ok_each (Ok x) each = each x
  ok_each (Err e) each = tt

module _ {T E : Type 0} (P : E → Type 0) where
  pub err_of : (r : Result T E) (e : E) → r ≡ Err e → P e → IfErr r P
  err_of r e is holds = subst (λ (r : Result T E). IfErr r P) (sym is) holds

  pub err_none : (r : Result T E) (x : T) → r ≡ Ok x → IfErr r P
  err_none r x is = subst (λ (r : Result T E). IfErr r P) (sym is) tt

  pub err_each : (r : Result T E) → ((e : E) → P e) → IfErr r P
  err_each (Ok x) each = tt
  err_each (Err e) each = each e
