-- Parts of one kind, written one after another: what is read of them so far.
use Rattle.std.proofs.Common.{◌≡◌, ◌++◌, ◌∙◌, ℕ, List, [], ◌∷◌, refl, ap, sym, append_assoc, append-nil}
use Rattle.std.proofs.lemmas.Grind.{flat_map-append}
use Rattle.std.specs.List.{flat_map}

-- all of them are those that were found and a tail, with which the rest of the bytes begins
pub record Left {A : Type 0} (bytes_of : A → List ℕ) (all found : List A) (rest more : List ℕ) : Type 0 where
  pub tail : List A
  pub whole : all ≡ found ++ tail
  pub left : rest ≡ flat_map bytes_of tail ++ more

-- the bytes are those that were found and a rest, and whoever wrote the bytes wrote these first
pub record IsReadTo {A : Type 0} (bytes_of : A → List ℕ) (Are : List A → Type 0) (Wrote : List A → List ℕ → Type 0) (bytes : List ℕ) (found : List A) (rest : List ℕ) : Type 0 where
  pub read : bytes ≡ flat_map bytes_of found ++ rest
  pub are : Are found
  pub left : (all : List A) (more : List ℕ) → Wrote all more → bytes ≡ flat_map bytes_of all ++ more → Left bytes_of all found rest more

-- a tail begins with this part
pub record GoesOn {A : Type 0} (bytes_of : A → List ℕ) (tail : List A) (more : List ℕ) (x : A) (after : List ℕ) : Type 0 where
  pub later : List A
  pub is : tail ≡ x ∷ later
  pub left : after ≡ flat_map bytes_of later ++ more

pub none_read : {A : Type 0} (bytes_of : A → List ℕ) (Are : List A → Type 0) (Wrote : List A → List ℕ → Type 0) (bytes : List ℕ) → Are [] → IsReadTo bytes_of Are Wrote bytes [] bytes
none_read bytes_of Are Wrote bytes are = record { read = refl; are = are; left = λ all more wrote e. record { tail = all; whole = refl; left = e } }

flat_map-push : {A : Type 0} (f : A → List ℕ) (xs : List A) (x : A) → flat_map f (xs ++ x ∷ []) ≡ flat_map f xs ++ f x
flat_map-push f xs x = flat_map-append f xs (x ∷ []) ∙ ap (λ (bs : List ℕ). flat_map f xs ++ bs) (append-nil (f x))

pub one_more : {A : Type 0} (bytes_of : A → List ℕ) (Are : List A → Type 0) (Wrote : List A → List ℕ → Type 0) (bytes : List ℕ) (found : List A) (rest : List ℕ) (x : A) (after : List ℕ)
    → IsReadTo bytes_of Are Wrote bytes found rest → rest ≡ bytes_of x ++ after → Are (found ++ x ∷ [])
    → ((all : List A) (more : List ℕ) → Wrote all more → (l : Left bytes_of all found rest more) → GoesOn bytes_of l.tail more x after)
    → IsReadTo bytes_of Are Wrote bytes (found ++ x ∷ []) after
one_more bytes_of Are Wrote bytes found rest x after so_far e are on = record {
  read = so_far.read ∙ ap (λ (bs : List ℕ). flat_map bytes_of found ++ bs) e ∙ sym (append_assoc (flat_map bytes_of found) (bytes_of x) after) ∙ ap (λ (bs : List ℕ). bs ++ after) (sym (flat_map-push bytes_of found x));
  are = are;
  left = λ all more wrote f.
      let l = so_far.left all more wrote f in
      let g = on all more wrote l in
      record { tail = g.later; whole = l.whole ∙ ap (λ tail. found ++ tail) g.is ∙ sym (append_assoc found (x ∷ []) g.later); left = g.left };
}
