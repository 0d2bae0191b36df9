-- An object that is live, in the history of its pool.
use Rattle.std.specs.Prelude.{◌≡◌, ℕ, List, [], ◌∷◌, ◌++◌, Some, true}
use Rattle.lock_book.specs.declared.view.Entry.{Entry}
use Rattle.lock_book.specs.History.{IsLegal, entry, last_of}
use Rattle.size_classes.specs.Classes.{class_size}
use Rattle.span_pools.specs.Legal.{PoolState, PoolCall, PoolReply, Free, Stranger, object_in}
use Rattle.span_pools.specs.Lives.{Leaves}
use Rattle.span_pools.specs.Places.{place}
use Rattle.span_pools.specs.PoolView.{layout_of}
use Rattle.dsa_area.specs.Shown.{first_of, pages_of, no_superblock, pool_legal}
use Rattle.dsa_area.specs.declared.area.Area.{Area}

-- none of these calls brings back an object at this word
abbrev pub AllLeave : ℕ → List (Entry PoolState PoolCall PoolReply) → Type 0
AllLeave at [] = Unit {0}
AllLeave at (e ∷ es) = Leaves at e.call × AllLeave at es

-- In a legal history of the pool of a class, an object that is live after its first entries, and that none of the next
-- ones brings back, is not handed back by the entry after these, whoever's it is
abbrev pub LiveIsTaken : Area → ℕ → Type 0
LiveIsTaken a class = (first next : List (Entry PoolState PoolCall PoolReply)) (caller page index : ℕ) (after : PoolState)
    → (let at = place (layout_of class (first_of a) (pages_of a)) page index in
    object_in (last_of no_superblock first) page index ≡ Some true → AllLeave at next
    → IsLegal (pool_legal a class) no_superblock (first ++ (next ++ entry caller (Free at (class_size class)) Stranger after ∷ [])) → ⊥)
