-- Lists that are put together one after the other.
use Rattle.std.proofs.Common.{◌≡◌, ◌<◌, ◌≤◌, ◌+◌, ◌++◌, inl, inr, ℕ, List, [], ◌∷◌, All, Any, Some, None, length, take, drop, get_or, ap, sym, subst, ◌∙◌, arith, append-nil, length-append}
use Rattle.std.specs.List.{flat_map}
use Rattle.std.proofs.lemmas.List.{take-append-drop, take_more}
use Rattle.std.proofs.lemmas.List.Elements.{All-push}
use Rattle.std.proofs.lemmas.List.Concat.{flat_map-append}
use Rattle.join_pairs.specs.Join.{most_pairs}
use Rattle.join_pairs.specs.Pairing.{IsReason}
use Rattle.join_pairs.specs.declared.pairing.Finding.{Finding}
use Rattle.join_pairs.specs.declared.pairing.NoPairs.{NoPairs}
use Rattle.join_pairs.specs.declared.pairing.NoPairs.TheVariants.{TooMany, Memory}
use Rattle.join_pairs.specs.declared.pairs.Pair.{Pair}

module _ {X Y : Type 0} (f : X → List Y) (xs : List X) where
  pub flat_more : (i : ℕ) (x : X) → i < length xs → x ≡ get_or xs i x → flat_map f (take (i + 1) xs) ≡ flat_map f (take i xs) ++ f x
  flat_more i x h e =
      ap (flat_map f) (take_more xs i x h ∙ ap (λ y. take i xs ++ y ∷ []) (sym e)) ∙ flat_map-append f (take i xs) (x ∷ []) ∙ ap (λ (l : List Y). flat_map f (take i xs) ++ l) (append-nil (f x))

  pub flat_part : (i : ℕ) → length (flat_map f (take i xs)) ≤ length (flat_map f xs)
  flat_part i =
      let whole : length (flat_map f xs) ≡ length (flat_map f (take i xs)) + length (flat_map f (drop i xs)) =
      ap (λ (l : List X). length (flat_map f l)) (sym (take-append-drop i xs)) ∙ ap (λ (l : List Y). length l) (flat_map-append f (take i xs) (drop i xs)) ∙ length-append (flat_map f (take i xs)) (flat_map f (drop i xs)) in
      omega (arith, whole)

-- one who stopped is a reason
pub stopped_reason : (fs : List Finding) (why : NoPairs) → Any (λ (f : Finding). f.stopped ≡ Some why) fs → IsReason fs why
stopped_reason fs TooMany a = inl a
stopped_reason fs Memory a = tt

-- too many pairs of the first participants are too many of all
pub many_reason : (fs : List Finding) (i : ℕ) (f : Finding) (all : List Pair) → i < length fs → f ≡ get_or fs i f → all ≡ flat_map (λ (f : Finding). f.pairs.items) (take i fs) → most_pairs < length all + length f.pairs.items
    → All (λ (f : Finding). f.stopped ≡ None) fs → IsReason fs TooMany
many_reason fs i f all h e is more none =
    let pairs = λ (f : Finding). f.pairs.items in
    let next : length (flat_map pairs (take (i + 1) fs)) ≡ length (flat_map pairs (take i fs)) + length f.pairs.items = ap (λ (l : List Pair). length l) (flat_more pairs fs i f h e) ∙ length-append (flat_map pairs (take i fs)) f.pairs.items in
    let part = flat_part pairs fs (i + 1) in
    let known : length all ≡ length (flat_map pairs (take i fs)) = ap (λ (l : List Pair). length l) is in
    inr (none, omega (arith, more, next, part, known))

-- what holds of the first elements and of the next
pub all_more : {X : Type 0} (P : X → Type 0) (xs : List X) (i : ℕ) (x : X) → i < length xs → x ≡ get_or xs i x → All P (take i xs) → P x → All P (take (i + 1) xs)
all_more P xs i x h e a p = subst (All P) (sym (take_more xs i x h ∙ ap (λ y. take i xs ++ y ∷ []) (sym e))) (All-push P (take i xs) x a p)
