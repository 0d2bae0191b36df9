-- Lists of lists that are gone through one after the other.
use Rattle.std.proofs.Common.{◌≡◌, ◌<◌, ◌+◌, ◌++◌, ℕ, zero, suc, List, [], ◌∷◌, All, Some, length, map, slice_get, take, drop, get_or, refl, ap, sym, subst, ◌∙◌, arith}
use Rattle.std.specs.List.{flat_map}
use Rattle.std.proofs.lemmas.List.{take-append-drop}
use Rattle.std.proofs.lemmas.List.Concat.{flat_map-append}
use Rattle.std.proofs.lemmas.List.Elements.{All-cons, All-head, All-nil, All-tail}
use Rattle.row_blocks.proofs.Elements.{All-apart}
use Rattle.join_pairs.specs.Gathered.{AreApart, linked}
use Rattle.join_pairs.specs.declared.chains.Link.{Link}
use Rattle.join_pairs.proofs.Apart.{apart_front, apart_rest}
use Rattle.join_pairs.proofs.Covered.{linked-append}

-- what is left at a place begins with what stands there
pub drop_at : {X : Type 0} (xs : List X) (i : ℕ) (x : X) → i < length xs → x ≡ get_or xs i x → drop i xs ≡ x ∷ drop (i + 1) xs
drop_at [] i x h e = absurd (omega (arith, h))
drop_at (y ∷ ys) zero x h e = ap (λ z. z ∷ ys) (sym e)
drop_at {X = X} (y ∷ ys) (suc i) x h e = drop_at ys i x (omega (arith, h)) e ∙ ap (λ (n : ℕ). x ∷ drop n (y ∷ ys)) (let s : suc (i + 1) ≡ suc i + 1 = omega arith in s)

module _ {X : Type 0} (f : X → List Link) where
  -- the links of one more list are set
  pub links_step : (xs : List X) (i : ℕ) (x : X) (cur next whole : List ℕ) → i < length xs → x ≡ get_or xs i x → next ≡ linked (f x) cur → linked (flat_map f (drop i xs)) cur ≡ whole → linked (flat_map f (drop (i + 1) xs)) next ≡ whole
  links_step xs i x cur next whole h e n inv =
      ap (linked (flat_map f (drop (i + 1) xs))) n ∙ sym (linked-append (f x) (flat_map f (drop (i + 1) xs)) cur) ∙ ap (λ (l : List X). linked (flat_map f l) cur) (sym (drop_at xs i x h e)) ∙ inv

-- what holds of all elements of all lists holds of those of each
pub flat_all : {X Y : Type 0} (P : Y → Type 0) (f : X → List Y) (xs : List X) (i : ℕ) (x : X) → i < length xs → x ≡ get_or xs i x → All P (flat_map f xs) → All P (f x)
flat_all P f [] i x h e a = absurd (omega (arith, h))
flat_all P f (y ∷ ys) zero x h e a = subst (λ z. All P (f z)) (sym e) (All-apart P (f y) (flat_map f ys) a).0
flat_all P f (y ∷ ys) (suc i) x h e a = flat_all P f ys i x (omega (arith, h)) e (All-apart P (f y) (flat_map f ys) a).1

-- what holds of the images of a list holds of the image of each element
pub image_at : {X Y : Type 0} (P : Y → Type 0) (f : X → Y) (xs : List X) (i : ℕ) (x : X) → i < length xs → x ≡ get_or xs i x → All P (map f xs) → P (f x)
image_at P f [] i x h e a = absurd (omega (arith, h))
image_at P f (y ∷ ys) zero x h e a = subst (λ z. P (f z)) (sym e) (All-head P (f y) (map f ys) a)
image_at P f (y ∷ ys) (suc i) x h e a = image_at P f ys i x (omega (arith, h)) e (All-tail P (f y) (map f ys) a)

-- what holds of whatever stands at a place holds of all
pub all_places : {X : Type 0} (P : X → Type 0) (xs : List X) → ((k : ℕ) (x : X) → slice_get xs k ≡ Some x → P x) → All P xs
all_places P [] h = All-nil P
all_places P (x ∷ xs) h = All-cons P x xs (h 0 x refl) (all_places P xs (λ k y e. h (suc k) y e))

-- the lists, cut at a place
flat_cut : {X Y : Type 0} (f : X → List Y) (xs : List X) (i : ℕ) (x : X) → i < length xs → x ≡ get_or xs i x → flat_map f xs ≡ flat_map f (take i xs) ++ (f x ++ flat_map f (drop (i + 1) xs))
flat_cut {X = X} {Y = Y} f xs i x h e =
    ap (flat_map f) (sym (take-append-drop i xs)) ∙ flat_map-append f (take i xs) (drop i xs) ∙ ap (λ (l : List X). flat_map f (take i xs) ++ flat_map f l) (drop_at xs i x h e)

-- lists of which each element is apart from all before it: so is each list
pub apart_list : {X : Type 0} (known : List ℕ) (f : X → List ℕ) (xs : List X) (i : ℕ) (x : X) → i < length xs → x ≡ get_or xs i x → AreApart known (flat_map f xs) → AreApart (known ++ flat_map f (take i xs)) (f x)
apart_list known f xs i x h e a =
    let before = flat_map f (take i xs) in
    let after = flat_map f (drop (i + 1) xs) in
    apart_front (known ++ before) (f x) after (apart_rest known before (f x ++ after) (subst (AreApart known) (flat_cut f xs i x h e) a))
