-- Why calls with a bound on their keys' chains were not made, as they come one after another.
use Rattle.std.proofs.Common.{◌≤◌, ◌+◌, ◌++◌, ℕ, List, [], ◌∷◌, sym, subst, arith, append_assoc, length-append}
use Rattle.std.specs.List.Sorted.{IsPermutation}
use Rattle.std.proofs.lemmas.List.Elements.{All-nil, All-push, All-weaker}
use Rattle.std.proofs.lemmas.List.Sorted.{IsPermutation-refl, IsPermutation-sym, IsPermutation-trans, IsPermutation-append_left, IsPermutation-middle, IsPermutation-to_front}
use Rattle.dshash_parts.specs.Done.{HaveCauses}

-- one more among the first, or among the second of two lists
one_first : {X : Type 0} (ks ms ss : List X) (x : X) → IsPermutation ks (ms ++ ss) → IsPermutation (ks ++ x ∷ []) ((ms ++ x ∷ []) ++ ss)
one_first ks ms ss x h =
    subst (IsPermutation (ks ++ x ∷ [])) (sym (append_assoc ms (x ∷ []) ss))
    (IsPermutation-trans (ks ++ x ∷ []) ((ms ++ ss) ++ x ∷ []) (ms ++ x ∷ ss) (IsPermutation-append_left (x ∷ []) ks (ms ++ ss) h)
    (IsPermutation-trans ((ms ++ ss) ++ x ∷ []) (x ∷ (ms ++ ss)) (ms ++ x ∷ ss) (IsPermutation-to_front (ms ++ ss) x)
    (IsPermutation-sym (ms ++ x ∷ ss) (x ∷ (ms ++ ss)) (IsPermutation-middle ms x ss))))

one_second : {X : Type 0} (ks ms ss : List X) (x : X) → IsPermutation ks (ms ++ ss) → IsPermutation (ks ++ x ∷ []) (ms ++ (ss ++ x ∷ []))
one_second ks ms ss x h = subst (IsPermutation (ks ++ x ∷ [])) (append_assoc ms ss (x ∷ [])) (IsPermutation-append_left (x ∷ []) ks (ms ++ ss) h)

-- none was left
pub causes_none : {X : Type 0} (P : X → Type 0) (n : ℕ) → HaveCauses P [] n
causes_none P n = record { lacked = []; crowded = []; both = IsPermutation-refl []; few = omega arith; long = All-nil P }

-- P and Q are that a call was turned away, before and after
module _ {X : Type 0} (P Q : X → Type 0) (stays : (x : X) → P x → Q x) (left : List X) (n m : ℕ) (h : HaveCauses P left n) where
  -- no more was left
  pub causes_kept : n ≤ m → HaveCauses Q left m
  causes_kept le = record { lacked = h.lacked; crowded = h.crowded; both = h.both; few = omega (arith, le, h.few); long = All-weaker P Q stays h.crowded h.long }

  -- one more was left, for which a request was refused
  pub causes_lacked : (x : X) → n + 1 ≤ m → HaveCauses Q (left ++ x ∷ []) m
  causes_lacked x le = record {
    lacked = h.lacked ++ x ∷ [];
    crowded = h.crowded;
    both = one_first left h.lacked h.crowded x h.both;
    few = omega (arith, le, h.few, length-append h.lacked (x ∷ []));
    long = All-weaker P Q stays h.crowded h.long;
  }

  -- one more was left, whose chain was too long
  pub causes_crowded : (x : X) → n ≤ m → Q x → HaveCauses Q (left ++ x ∷ []) m
  causes_crowded x le away = record {
    lacked = h.lacked;
    crowded = h.crowded ++ x ∷ [];
    both = one_second left h.lacked h.crowded x h.both;
    few = omega (arith, le, h.few);
    long = All-push Q h.crowded x (All-weaker P Q stays h.crowded h.long) away;
  }
