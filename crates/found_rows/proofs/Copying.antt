-- A field that is copied byte by byte.
use Rattle.std.proofs.Common.{◌≡◌, ◌<◌, ◌+◌, ◌∙◌, ◌++◌, ℕ, false, List, [], ◌∷◌, drop, get_or, length, take, refl, sym, ap, subst, append-nil}
use Rattle.std.proofs.lemmas.List.{drop_more, take-append-drop, take_more}
use Rattle.csv.specs.Machine.{field_after, step}
use Rattle.csv.specs.Reading.{default_config}
use Rattle.csv.specs.declared.parser.State.{State}
use Rattle.csv_rows.specs.Cuts.{state_after}
use Rattle.csv_rows.proofs.Compose.{state-append}
use Rattle.found_rows.specs.Written.{EndsNoField, copied, ends_field}
use Rattle.found_rows.proofs.Running.{copied-append}

-- none of the bytes ends a field
stays-here : (s : State) (x : List ℕ) (c : ℕ) (rest : List ℕ) → EndsNoField s (x ++ (c ∷ rest)) → ends_field (step default_config (state_after s x) c).1 ≡ false
unfolding EndsNoField state_after
stays-here s [] c rest h = h.0
stays-here s (b ∷ x) c rest h = stays-here (step default_config s b).0 x c rest h.1

one-state : (s : State) (c : ℕ) → state_after s (c ∷ []) ≡ (step default_config s c).0
unfolding state_after
one-state s c = refl

one-copied : (s : State) (c : ℕ) → copied s (c ∷ []) ≡ field_after (step default_config s c).1 c []
unfolding copied
one-copied s c = append-nil (field_after (step default_config s c).1 c [])

pub none-copied : (s : State) → copied s [] ≡ []
unfolding copied
none-copied s = refl

pub none-state : (s : State) → state_after s [] ≡ s
unfolding state_after
none-state s = refl

module _ (s : State) (xs : List ℕ) (i : ℕ) (low : i < length xs) where
  pub stays-at : EndsNoField s xs → ends_field (step default_config (state_after s (take i xs)) (get_or xs i 0)).1 ≡ false
  stays-at h =
      let whole : xs ≡ take i xs ++ (get_or xs i 0 ∷ drop (i + 1) xs) = sym (take-append-drop i xs) ∙ ap (λ (rest : List ℕ). take i xs ++ rest) (drop_more xs i 0 low) in
      stays-here s (take i xs) (get_or xs i 0) (drop (i + 1) xs) (subst (λ ys. EndsNoField s ys) whole h)

  pub state-next : state_after s (take (i + 1) xs) ≡ (step default_config (state_after s (take i xs)) (get_or xs i 0)).0
  state-next =
      ap (state_after s) (take_more xs i 0 low) ∙ state-append s (take i xs) (get_or xs i 0 ∷ []) ∙ one-state (state_after s (take i xs)) (get_or xs i 0)

  pub copied-next : copied s (take (i + 1) xs) ≡ copied s (take i xs) ++ field_after (step default_config (state_after s (take i xs)) (get_or xs i 0)).1 (get_or xs i 0) []
  copied-next =
      ap (copied s) (take_more xs i 0 low) ∙ copied-append s (take i xs) (get_or xs i 0 ∷ [])
      ∙ ap (λ (f : List ℕ). copied s (take i xs) ++ f) (one-copied (state_after s (take i xs)) (get_or xs i 0))
