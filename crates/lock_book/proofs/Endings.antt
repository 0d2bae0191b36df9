-- What a closed shelf shows of the passes that were joined.
use Rattle.std.proofs.Common.{◌≡◌, ℕ, zero, suc, ◌<◌, List, [], ◌∷◌, length, map, sym, ap, ◌∙◌, subst, arith}
use mathlib.Core.Option.{some, some-injective, some-ne-none}
use lib.ListN.{get_elem?}
use Rattle.lock_book.specs.declared.view.Entry.{Entry}
use Rattle.lock_book.specs.declared.view.View.{View}
use Rattle.lock_book.specs.declared.kept.Kept.{Ghosts}
use Rattle.lock_book.specs.declared.shelf.Pass.{Pass}
use Rattle.lock_book.specs.declared.shelf.Shelf.{Shelf}
use Rattle.lock_book.specs.declared.close.Closed.{Closed}
use Rattle.lock_book.specs.History.{StartsWith, IsLegal, calls_at, calls_by, row_at}
use Rattle.lock_book.specs.Ruled.{AllSeen, seen_at, view_of}
use Rattle.lock_book.specs.Shown.{Ended, callers_of, opens_of, seen_of, whole_of}
use Rattle.lock_book.proofs.Totals.{within}
use Rattle.lock_book.proofs.Closing.{row_of}

-- a fact of the first and of all behind it, each at its place
pub each_cons : {A : Type 0} (P : ℕ → A → Type 0) (x : A) (xs : List A) → P 0 x → ((k : ℕ) (a : A) → get_elem? xs k ≡ some a → P (suc k) a) → (k : ℕ) (a : A) → get_elem? (x ∷ xs) k ≡ some a → P k a
each_cons P x xs first others zero a at = subst (P 0) (some-injective x a at) first
each_cons P x xs first others (suc k) a at = others k a at

pub only_one : {A : Type 0} (P : ℕ → A → Type 0) (x : A) → P 0 x → (k : ℕ) (a : A) → get_elem? (x ∷ []) k ≡ some a → P k a
only_one P x first zero a at = subst (P 0) (some-injective x a at) first
only_one P x first (suc k) a at = absurd (some-ne-none a (sym at))

module _ {T E I O N S C R : Type 0} {g : Ghosts T E I O N S C R} where
  pub ended_of : (s : Shelf T E I O N S C R) (passes : List (Pass T E I O N S C R g)) (c : Closed T E I O N S C R g) (v : View N S C R) → AllSeen g.legal (opens_of s) (callers_of s) v → ((i : ℕ) → whole_of c i ≡ seen_at v i)
      → v.owns ≡ map (λ p. row_at (view_of p.badge.views).owns 0) passes → length passes ≡ callers_of s → ((n i : ℕ) (p : Pass T E I O N S C R g) → get_elem? passes n ≡ some p → StartsWith (seen_at v i) (seen_of p i)) → Ended s passes c
  ended_of s passes c v a same rows count seen = record {
    lawful = λ i o e. subst (IsLegal (g.legal o.0) o.1) (sym (same i)) (a.lawful i o e);
    begins = λ n i p at. subst (λ (m : List (Entry S C R)). StartsWith m (seen_of p i)) (sym (same i)) (seen n i p at);
    mine = λ n i p at.
        let low : n < callers_of s = omega (arith, within passes n p at, count) in
        let own = ap (λ (r : List (List (ℕ × Entry S C R))). calls_at i (row_at r n)) rows ∙ ap (calls_at i) (row_of (λ (p : Pass T E I O N S C R g). row_at (view_of p.badge.views).owns 0) passes n p at) in
        ap (calls_by n) (same i) ∙ (sym (a.mine n i low) ∙ own);
    no_others = λ i n hi. ap (calls_by n) (same i) ∙ a.no_others i n hi;
  }
