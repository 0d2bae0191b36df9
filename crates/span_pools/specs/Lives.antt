-- How long an object stays live.
use Rattle.std.specs.Prelude.{◌≡◌, ◌≢◌, ℕ, List, [], ◌∷◌, Some, true}
use Rattle.span_pools.specs.declared.layout.Layout.{Layout}
use Rattle.span_pools.specs.Places.{place}
use Rattle.span_pools.specs.Legal.{PoolState, PoolCall, PoolReply, Free, FreeMany, IsLegal, object_in}

-- none of these words is this one
abbrev pub AreOthers : ℕ → List ℕ → Type 0
AreOthers at [] = Unit {0}
AreOthers at (x ∷ xs) = (x ≢ at) × AreOthers at xs

-- the call brings back no object at this word
abbrev pub Leaves : ℕ → PoolCall → Type 0
Leaves at (Free x bytes) = x ≢ at
Leaves at (FreeMany xs) = AreOthers at xs
Leaves at call = Unit {0}

-- a live object is still live after a call that does not bring it back, whatever the reply
abbrev pub StaysLive : Layout → Type 0
StaysLive l = (before after : PoolState) (call : PoolCall) (reply : PoolReply) (p i : ℕ) → IsLegal l before call reply after → Leaves (place l p i) call → object_in before p i ≡ Some true → object_in after p i ≡ Some true
