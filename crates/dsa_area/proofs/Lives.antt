-- An object that is live stays so, and is taken back.
use Rattle.std.proofs.Common.{◌≡◌, ℕ, ◌*◌, ◌/◌, ◌%◌, true, List, [], ◌∷◌, ◌++◌, Some, None, refl, sym, ◌∙◌, arith}
use Rattle.lock_book.specs.declared.view.Entry.{Entry}
use Rattle.lock_book.specs.History.{IsLegal, entry, last_of}
use Rattle.lock_book.proofs.Histories.{legal_prefix}
use Rattle.size_classes.specs.Classes.{IsClass, class_size}
use Rattle.size_classes.proofs.Sizes.{class_words}
use Rattle.span_pools.specs.declared.layout.Layout.{Layout}
use Rattle.span_pools.specs.Legal.{PoolState, PoolCall, PoolReply, Free, Stranger, object_in}
use Rattle.span_pools.specs.Places.{place}
use Rattle.span_pools.specs.PoolView.{layout_of}
use Rattle.span_pools.proofs.Lives.{stays}
use Rattle.dsa_area.specs.Lives.{AllLeave, LiveIsTaken}
use Rattle.dsa_area.specs.Shown.{first_of, pages_of, no_superblock, pool_legal}
use Rattle.dsa_area.specs.declared.area.Area.{Area}

not_gone : Some true ≡ None → ⊥
not_gone e = cc

eight_times : (n : ℕ) → n % 8 ≡ 0 → n ≡ 8 * (n / 8)
eight_times n e = omega arith

module _ (a : Area) (class : ℕ) where
  abbrev layout : Layout
  layout = layout_of class (first_of a) (pages_of a)

  -- what is legal after some entries
  legal_back : (s : PoolState) (xs ys : List (Entry PoolState PoolCall PoolReply)) → IsLegal (pool_legal a class) s (xs ++ ys) → IsLegal (pool_legal a class) (last_of s xs) ys
  legal_back s [] ys h = h
  legal_back s (x ∷ xs) ys h = legal_back x.after xs ys h.1

  keeps : (s : PoolState) (xs : List (Entry PoolState PoolCall PoolReply)) (p i : ℕ) → IsLegal (pool_legal a class) s xs → AllLeave (place layout p i) xs → object_in s p i ≡ Some true → object_in (last_of s xs) p i ≡ Some true
  keeps s [] p i h n live = live
  keeps s (x ∷ xs) p i h n live = keeps x.after xs p i h.1 n.1 (stays layout p i s x.call x.reply x.after live n.0 h.0)

  pub live_is_taken : IsClass class → LiveIsTaken a class
  live_is_taken is first next caller page index after live leave legal =
      let e = entry caller (Free (place layout page index) (class_size class)) Stranger after in
      let s = last_of no_superblock first in
      let rest = legal_back no_superblock first (next ++ e ∷ []) legal in
      let still = keeps s next page index (legal_prefix (pool_legal a class) s (next ++ e ∷ []) next (e ∷ [], refl) rest) leave live in
      let last = legal_back s next (e ∷ []) rest in
      not_gone (sym still ∙ last.0.none page index refl (eight_times (class_size class) (class_words class is)))
