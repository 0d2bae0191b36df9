-- What a caller put under a name stays so by each turn that puts nothing there.
use Rattle.std.proofs.Common.{◌≡◌, ◌≢◌, ℕ, Bool, true, false, cond, List, [], ◌∷◌, ◌++◌, Option, None, refl, sym, ap, ◌∙◌, subst}
use mathlib.Core.Logic.{dite}
use native.Mathlib.Decide.{ℕ_discrete}
use Rattle.lock_book.specs.History.{entry}
use Rattle.dsa_area.specs.declared.area.Area.{Area}
use Rattle.dshash_core.specs.Key.{hash_of}
use Rattle.dshash_core.specs.Cells.{partition_of}
use Rattle.dshash_core.proofs.Maps.{other_key}
use Rattle.dshash_chunks.specs.declared.held.ChunkCalls.TheVariants.{Take, With}
use Rattle.dshash_parts.specs.Promises.{IsMadeWith}
use Rattle.dshash_parts.specs.Replays.{calls_of_key, made_of}
use Rattle.dshash_parts.specs.Tables.{AtPartition}
use Rattle.dshash_parts.specs.Traces.{AreGifts, Asked, Gave, Got, Missed, NoneMade, Trace, Turn}
use Rattle.dshash_parts.specs.declared.histories.PartitionCalls.TheVariants.{Call, Looks, Moves, Lists}
use Rattle.dshash_parts.specs.declared.histories.PartitionReplies.TheVariants.{Made, LacksItem, HasToGrow, Crowded, HasSize, Moved, Listed}
use Rattle.page_cache.specs.Owned.{last_put, own_page}
use Rattle.page_cache.specs.Pages.{stepped}
use Rattle.page_cache.specs.Tickets.{Answers, Asks, CacheCall, CacheEntry, CacheEvent, CacheHistories, CacheReply, CacheSight}
use Rattle.page_cache.specs.declared.page.Page.{Page}
use Rattle.page_cache.proofs.Kept.{calls-append, last_put-append}

-- the turn puts no page under the name
abbrev pub PutsNone : List ℕ → Asks → Answers → Type 0
PutsNone name call reply = (page : Option Page) → last_put page (made_of name call reply) ≡ page

pub turn_leaves : (n : ℕ) (seen mine seen' mine' : CacheHistories) (number : ℕ) (call : Asks) (reply : Answers) (name : List ℕ) → AtPartition stepped n seen mine seen' mine' number call reply
    → PutsNone name call reply → own_page mine' name ≡ own_page mine name
turn_leaves n seen mine seen' mine' number call reply name turn none =
    let home : ℕ = partition_of (hash_of name) in
    let x = turn.here in
    let e : CacheEntry = entry n call reply x.2.after in
    let grows : mine' number ≡ mine number ++ e ∷ [] = x.3.1 ∙ x.2.own in
    dite (ℕ_discrete home number)
    (λ (same : home ≡ number).
    let here : mine' home ≡ mine home ++ e ∷ [] = ap mine' same ∙ grows ∙ ap (λ (k : ℕ). mine k ++ e ∷ []) (sym same) in
    ap (λ (es : List CacheEntry). last_put None (calls_of_key name es)) here
    ∙ ap (last_put None) (calls-append name (mine home) (e ∷ []))
    ∙ last_put-append None (calls_of_key name (mine home)) (made_of name call reply ++ [])
    ∙ last_put-append (own_page mine name) (made_of name call reply) []
    ∙ none (own_page mine name))
    (λ other. ap (λ (es : List CacheEntry). last_put None (calls_of_key name es)) (turn.others home other).1)

-- calls of other names put none under this one
pub other_puts_none : (name key : List ℕ) (call : CacheCall) (spare : Bool) (reply : CacheReply) (unused freed : Bool) → name ≢ key → PutsNone name (Call key call spare) (Made reply unused freed)
other_puts_none name key call spare reply unused freed ne page = ap (λ (b : Bool). last_put page (cond b ((call, reply) ∷ []) [])) (other_key name key ne)

-- an eviction and a look-up put none at all
pub eviction_puts_none : (name key : List ℕ) (spare : Bool) (reply : CacheReply) (unused freed : Bool) → PutsNone name (Call key Take spare) (Made reply unused freed)
eviction_puts_none name key spare reply unused freed page = either _
  where
    either : (b : Bool) → last_put page (cond b ((Take, reply) ∷ []) []) ≡ page
    either true = refl
    either false = refl

pub look_puts_none : (name key : List ℕ) (call : Unit {0}) (reply : CacheReply) → PutsNone name (Call key (With call) false) (Made reply false false)
look_puts_none name key call reply page = either _
  where
    either : (b : Bool) → last_put page (cond b ((With call, reply) ∷ []) []) ≡ page
    either true = refl
    either false = refl

module _ (name : List ℕ) where
  -- none of these events puts a page under the name
  abbrev pub PutNone : List CacheEvent → Type 0
  PutNone [] = Unit {0}
  PutNone (Turn number call reply ∷ es) = PutsNone name call reply × PutNone es
  PutNone (Asked request ∷ es) = PutNone es

  pub events_leave : (a : Area) (n : ℕ) (v w : CacheSight) (es : List CacheEvent) → Trace stepped a n v w es → PutNone es → own_page w.mine name ≡ own_page v.mine name
  events_leave a n v w [] trace none = ap (λ (s : CacheSight). own_page s.mine name) trace
  events_leave a n v w (Turn number call reply ∷ es) trace none =
      events_leave a n trace.0 w es trace.2 none.1
      ∙ turn_leaves n v.seen v.mine trace.0.seen trace.0.mine number call reply name trace.1.0 none.0
  events_leave a n v w (Asked request ∷ es) trace none =
      events_leave a n trace.0 w es trace.2 none ∙ ap (λ (mine : CacheHistories). own_page mine name) trace.1.3

  put_append : (es fs : List CacheEvent) → PutNone es → PutNone fs → PutNone (es ++ fs)
  put_append [] fs x y = y
  put_append (Turn number call reply ∷ es) fs x y = (x.0, put_append es fs x.1 y)
  put_append (Asked request ∷ es) fs x y = put_append es fs x y

  -- where no call is made, none is put
  pub none_put : (es : List CacheEvent) → NoneMade es → PutNone es
  none_put [] h = tt
  none_put (Asked request ∷ es) h = none_put es h
  none_put (Turn number call (Made reply unused freed) ∷ es) h = absurd h
  none_put (Turn number (Call k c s) LacksItem ∷ es) h = (λ page. refl, none_put es h)
  none_put (Turn number (Call k c s) (HasToGrow size back) ∷ es) h = (λ page. refl, none_put es h)
  none_put (Turn number (Call k c s) (Crowded seed longest back) ∷ es) h = (λ page. refl, none_put es h)
  none_put (Turn number (Call k c s) (HasSize size keys) ∷ es) h = (λ page. refl, none_put es h)
  none_put (Turn number (Call k c s) (Moved left) ∷ es) h = (λ page. refl, none_put es h)
  none_put (Turn number (Call k c s) (Listed entries) ∷ es) h = (λ page. refl, none_put es h)
  none_put (Turn number Looks LacksItem ∷ es) h = (λ page. refl, none_put es h)
  none_put (Turn number Looks (HasToGrow size back) ∷ es) h = (λ page. refl, none_put es h)
  none_put (Turn number Looks (Crowded seed longest back) ∷ es) h = (λ page. refl, none_put es h)
  none_put (Turn number Looks (HasSize size keys) ∷ es) h = (λ page. refl, none_put es h)
  none_put (Turn number Looks (Moved left) ∷ es) h = (λ page. refl, none_put es h)
  none_put (Turn number Looks (Listed entries) ∷ es) h = (λ page. refl, none_put es h)
  none_put (Turn number (Moves to) LacksItem ∷ es) h = (λ page. refl, none_put es h)
  none_put (Turn number (Moves to) (HasToGrow size back) ∷ es) h = (λ page. refl, none_put es h)
  none_put (Turn number (Moves to) (Crowded seed longest back) ∷ es) h = (λ page. refl, none_put es h)
  none_put (Turn number (Moves to) (HasSize size keys) ∷ es) h = (λ page. refl, none_put es h)
  none_put (Turn number (Moves to) (Moved left) ∷ es) h = (λ page. refl, none_put es h)
  none_put (Turn number (Moves to) (Listed entries) ∷ es) h = (λ page. refl, none_put es h)
  none_put (Turn number Lists LacksItem ∷ es) h = (λ page. refl, none_put es h)
  none_put (Turn number Lists (HasToGrow size back) ∷ es) h = (λ page. refl, none_put es h)
  none_put (Turn number Lists (Crowded seed longest back) ∷ es) h = (λ page. refl, none_put es h)
  none_put (Turn number Lists (HasSize size keys) ∷ es) h = (λ page. refl, none_put es h)
  none_put (Turn number Lists (Moved left) ∷ es) h = (λ page. refl, none_put es h)
  none_put (Turn number Lists (Listed entries) ∷ es) h = (λ page. refl, none_put es h)

  gifts_put : (es : List CacheEvent) → AreGifts es → PutNone es
  gifts_put [] h = tt
  gifts_put (Asked (Gave bytes accepted) ∷ es) h = gifts_put es h
  gifts_put (Asked (Got bytes) ∷ es) h = absurd h
  gifts_put (Asked (Missed bytes wanted largest) ∷ es) h = absurd h
  gifts_put (Turn number call reply ∷ es) h = absurd h

  -- a call of another name that was made
  pub made_leaves : (a : Area) (n number item : ℕ) (key : List ℕ) (call : CacheCall) (held kept : Bool) (reply : CacheReply) (v w : CacheSight) (es : List CacheEvent) → name ≢ key
      → IsMadeWith number item key call held kept reply es → Trace stepped a n v w es → own_page w.mine name ≡ own_page v.mine name
  made_leaves a n number item key call held kept reply v w es ne made trace =
      let tail : List CacheEvent = Turn number (Call key call made.spare) (Made reply made.unused made.freed) ∷ made.after in
      let none : PutNone (made.before ++ tail) = put_append made.before tail (none_put made.before made.none_before) (other_puts_none name key call made.spare reply made.unused made.freed ne, gifts_put made.after made.gifts_after) in
      events_leave a n v w es trace (subst PutNone (sym made.is) none)
