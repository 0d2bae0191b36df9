-- The pass of a lone caller is all passes.
use Rattle.std.proofs.Common.{◌≡◌, ℕ, zero, suc, [], ◌∷◌, sym, subst, arith}
use mathlib.Core.Option.{some, some-injective, some-ne-none}
use lib.ListN.{get_elem?}
use Rattle.lock_book.specs.declared.kept.Kept.{Ghosts}
use Rattle.lock_book.specs.declared.shelf.Pass.{Pass}
use Rattle.lock_book.specs.declared.shelf.Shelf.{Shelf}
use Rattle.lock_book.specs.Shown.{AreAll, Belongs, callers_of, number_of}

module _ {T E I O N S C R : Type 0} {g : Ghosts T E I O N S C R} (s : Shelf T E I O N S C R) (p : Pass T E I O N S C R g) (one : callers_of s ≡ 1) (own : Belongs s p) where
  each : (k : ℕ) (q : Pass T E I O N S C R g) → get_elem? (p ∷ []) k ≡ some q → Belongs s q
  each zero q at = subst (Belongs s) (some-injective p q at) own
  each (suc k) q at = absurd (some-ne-none q (sym at))

  number : (k : ℕ) (q : Pass T E I O N S C R g) → get_elem? (p ∷ []) k ≡ some q → number_of q ≡ k
  number zero q at = let low = (each zero q at).stands.below in omega (arith, low, one)
  number (suc k) q at = absurd (some-ne-none q (sym at))

  pub lone : AreAll s (p ∷ [])
  lone = record { count = sym one; each = each; numbers = number }
