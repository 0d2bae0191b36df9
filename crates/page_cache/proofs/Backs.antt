-- The chunks that events hand to their caller go back.
use Rattle.std.proofs.Common.{◌≡◌, inl, inr, ⊎_elim, Bool, List, [], ◌∷◌, ◌++◌, append_assoc, Option, Some, None, ℕ, refl, sym, subst}
use Rattle.dshash_chunks.specs.declared.held.Held.{Held}
use Rattle.dshash_chunks.specs.declared.held.ChunkReplies.TheVariants.{Was}
use Rattle.dshash_parts.specs.Promises.{IsMadeWith}
use Rattle.dshash_parts.specs.Traces.{AreGifts, Asked, Gave, Got, Missed, NoneMade, Turn}
use Rattle.dshash_parts.specs.declared.histories.PartitionCalls.TheVariants.{Call, Looks, Moves, Lists}
use Rattle.dshash_parts.specs.declared.histories.PartitionReplies.TheVariants.{Made, LacksItem, HasToGrow, Crowded, HasSize, Moved, Listed}
use Rattle.page_cache.specs.Backs.{AllGoBack, GoesBack, IsGivenFirst, handed}
use Rattle.page_cache.specs.Tickets.{Answers, Asks, CacheCall, CacheEvent, CacheReply}

given_longer : (h : Held) (es fs : List CacheEvent) → IsGivenFirst h es → IsGivenFirst h (es ++ fs)
given_longer h [] fs x = absurd x
given_longer h (Turn number call reply ∷ es) fs x = absurd x
given_longer h (Asked (Got bytes) ∷ es) fs x = absurd x
given_longer h (Asked (Missed bytes wanted largest) ∷ es) fs x = absurd x
given_longer h (Asked (Gave bytes accepted) ∷ es) fs x = ⊎_elim (λ (e : bytes ≡ h.bytes). inl e) (λ (y : IsGivenFirst h es). inr (given_longer h es fs y)) x

goes_longer : (held : Option Held) (es fs : List CacheEvent) → GoesBack held es → GoesBack held (es ++ fs)
goes_longer (Some h) es fs x = given_longer h es fs x
goes_longer None es fs x = tt

pub back_append : (es fs : List CacheEvent) → AllGoBack es → AllGoBack fs → AllGoBack (es ++ fs)
back_append [] fs x y = y
back_append (Turn number call reply ∷ es) fs x y = (goes_longer (handed call reply) es fs x.0, back_append es fs x.1 y)
back_append (Asked request ∷ es) fs x y = back_append es fs x y

-- a turn by which no call was made hands none out
idle : (call : Asks) (reply : Answers) → ((r : CacheReply) (unused freed : Bool) → reply ≡ Made r unused freed → ⊥) → handed call reply ≡ None
idle (Call name call spare) (Made r unused freed) h = absurd (h r unused freed refl)
idle (Call name call spare) LacksItem h = refl
idle (Call name call spare) (HasToGrow size back) h = refl
idle (Call name call spare) (Crowded seed longest back) h = refl
idle (Call name call spare) (HasSize size keys) h = refl
idle (Call name call spare) (Moved left) h = refl
idle (Call name call spare) (Listed entries) h = refl
idle Looks reply h = refl
idle (Moves to) reply h = refl
idle Lists reply h = refl

idles : (number : ℕ) (call : Asks) (reply : Answers) (es : List CacheEvent) → ((r : CacheReply) (unused freed : Bool) → reply ≡ Made r unused freed → ⊥) → AllGoBack es → AllGoBack (Turn number call reply ∷ es)
idles number call reply es h x = (subst (λ (held : Option Held). GoesBack held es) (sym (idle call reply h)) tt, x)

pub none_back : (es : List CacheEvent) → NoneMade es → AllGoBack es
none_back [] h = tt
none_back (Asked request ∷ es) h = none_back es h
none_back (Turn number call (Made reply unused freed) ∷ es) h = absurd h
none_back (Turn number call LacksItem ∷ es) h = idles number call LacksItem es (λ r u f e. absurd (cc)) (none_back es h)
none_back (Turn number call (HasToGrow size back) ∷ es) h = idles number call (HasToGrow size back) es (λ r u f e. absurd (cc)) (none_back es h)
none_back (Turn number call (Crowded seed longest back) ∷ es) h = idles number call (Crowded seed longest back) es (λ r u f e. absurd (cc)) (none_back es h)
none_back (Turn number call (HasSize size keys) ∷ es) h = idles number call (HasSize size keys) es (λ r u f e. absurd (cc)) (none_back es h)
none_back (Turn number call (Moved left) ∷ es) h = idles number call (Moved left) es (λ r u f e. absurd (cc)) (none_back es h)
none_back (Turn number call (Listed entries) ∷ es) h = idles number call (Listed entries) es (λ r u f e. absurd (cc)) (none_back es h)

gifts_back : (es : List CacheEvent) → AreGifts es → AllGoBack es
gifts_back [] h = tt
gifts_back (Asked (Gave bytes accepted) ∷ es) h = gifts_back es h
gifts_back (Asked (Got bytes) ∷ es) h = absurd h
gifts_back (Asked (Missed bytes wanted largest) ∷ es) h = absurd h
gifts_back (Turn number call reply ∷ es) h = absurd h

-- what is given after other gifts goes back
pub after_gifts : (h : Held) (accepted : Bool) (es : List CacheEvent) → AreGifts es → IsGivenFirst h (es ++ Asked (Gave h.bytes accepted) ∷ [])
after_gifts h accepted [] g = inl refl
after_gifts h accepted (Asked (Gave bytes taken) ∷ es) g = inr (after_gifts h accepted es g)
after_gifts h accepted (Asked (Got bytes) ∷ es) g = absurd g
after_gifts h accepted (Asked (Missed bytes wanted largest) ∷ es) g = absurd g
after_gifts h accepted (Turn number call reply ∷ es) g = absurd g

-- the events of a call that was made, with those after it, of which the first are more gifts
pub made_back : {has kept : Bool} (number item : ℕ) (name : List ℕ) (call : CacheCall) (held : Option Held) (es fs : List CacheEvent) → IsMadeWith number item name call has kept (Was held) es
    → ((gifts : List CacheEvent) → AreGifts gifts → GoesBack held (gifts ++ fs)) → AllGoBack fs → AllGoBack (es ++ fs)
made_back number item name call held es fs m goes x =
    let tail : List CacheEvent = Turn number (Call name call m.spare) (Made (Was held) m.unused m.freed) ∷ m.after in
    let rest : AllGoBack (tail ++ fs) = (goes m.after m.gifts_after, back_append m.after fs (gifts_back m.after m.gifts_after) x) in
    let all : AllGoBack (m.before ++ (tail ++ fs)) = back_append m.before (tail ++ fs) (none_back m.before m.none_before) rest in
    subst (λ (z : List CacheEvent). AllGoBack (z ++ fs)) (sym m.is) (subst AllGoBack (sym (append_assoc m.before tail fs)) all)
