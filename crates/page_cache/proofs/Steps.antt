-- What the calls of the table and of the area make of a caller's life.
use Rattle.std.proofs.Common.{◌≡◌, ℕ, ◌+◌, Bool, true, false, List, [], ◌∷◌, ◌++◌, Some, None, inl, refl, sym, ap, subst, arith}
use Rattle.dsa_area.specs.Requests.{IsGranted}
use Rattle.dsa_area.specs.Shown.{number_of as area_number}
use Rattle.dsa_area.specs.declared.area.Area.{Area}
use Rattle.dsa_area.specs.declared.area.AreaPass.{AreaPass}
use Rattle.dshash_chunks.specs.declared.held.Held.{Held}
use Rattle.dshash_chunks.specs.declared.held.ChunkCalls.TheVariants.{Put, Take}
use Rattle.dshash_chunks.specs.declared.held.ChunkReplies.TheVariants.{Was}
use Rattle.dshash_parts.specs.Promises.{IsMadeWith}
use Rattle.dshash_parts.specs.Sweeps.{GaveBack}
use Rattle.dshash_parts.specs.Tables.{AtPartition}
use Rattle.dshash_parts.specs.Traces.{Asked, Gave, Got, Missed, NoneMade, Trace, Turn, sight}
use Rattle.dshash_parts.specs.declared.histories.PartitionCalls.TheVariants.{Call}
use Rattle.dshash_parts.specs.declared.histories.PartitionReplies.TheVariants.{Made}
use Rattle.dshash_parts.proofs.Sweeps.{trace_append}
use Rattle.page_cache.specs.Backs.{AllGoBack, GoesBack, IsSettled, handed}
use Rattle.page_cache.specs.Causes.{IsNoRoom}
use Rattle.page_cache.specs.Pages.{stepped}
use Rattle.page_cache.specs.Tickets.{Answers, Asks, CacheEvent, CacheHistories, CacheSight, Pays, makes, nothing, of_turn, takes}
use Rattle.page_cache.specs.declared.calls.NotPut.{NotPut}
use Rattle.page_cache.specs.declared.calls.NotPut.TheVariants.{NoSpace, NoneToEvict, Memory}
use Rattle.page_cache.proofs.Backs.{after_gifts, back_append, made_back, none_back}
use Rattle.page_cache.proofs.Paid.{call_pays, none_pays, pays_append}

module _ (a : Area) (n m share : ℕ) (same : m ≡ n) where
  -- the seat's number stays, and its life goes on
  settled_on : (v w : CacheSight) (t u : ℕ) (es : List CacheEvent) → IsSettled a n share v t → Trace stepped a n v w es → Pays t es u → AllGoBack es → IsSettled a m share w u
  settled_on v w t u es x trace pays back = subst (λ (z : ℕ). IsSettled a z share w u) (sym same) (record {
    paid = record {
      start = x.paid.start;
      life = x.paid.life ++ es;
      trace = trace_append stepped a n (nothing x.paid.start) v w x.paid.life es x.paid.trace trace;
      pays = pays_append share t u x.paid.life es x.paid.pays pays;
    };
    back = back_append x.paid.life es x.back back;
  })

  -- a turn that neither makes an entry nor takes one out
  pub turned : (seen mine seen' mine' : CacheHistories) (u w : AreaPass) (t number : ℕ) (call : Asks) (reply : Answers) → IsSettled a n share (sight seen mine u) t → AtPartition stepped n seen mine seen' mine' number call reply → w ≡ u
      → t + of_turn makes call reply ≡ t + of_turn takes call reply → handed call reply ≡ None → IsSettled a m share (sight seen' mine' w) t
  turned seen mine seen' mine' u w t number call reply x turn left free none =
      settled_on (sight seen mine u) (sight seen' mine' w) t t (Turn number call reply ∷ []) x (sight seen' mine' w, (turn, left), refl) (t, free, refl) (subst (λ held. GoesBack held []) (sym none) tt, tt)

  -- what is given back, if anything
  abbrev gift : (u w : AreaPass) (bytes : ℕ) (some : Bool) → GaveBack a u w bytes some → List CacheEvent
  gift u w bytes true gave = Asked (Gave bytes gave.0) ∷ []
  gift u w bytes false gave = []

  gift_trace : (seen mine : CacheHistories) (u w : AreaPass) (bytes : ℕ) (some : Bool) (gave : GaveBack a u w bytes some) → area_number w ≡ area_number u → Trace stepped a n (sight seen mine u) (sight seen mine w) (gift u w bytes some gave)
  gift_trace seen mine u w bytes true gave alike = (sight seen mine w, (gave.1, alike, refl, refl), refl)
  gift_trace seen mine u w bytes false gave alike = ap (sight seen mine) gave

  gift_pays : (t : ℕ) (u w : AreaPass) (bytes : ℕ) (some : Bool) (gave : GaveBack a u w bytes some) → Pays t (gift u w bytes some gave) t
  gift_pays t u w bytes true gave = (t, refl, refl)
  gift_pays t u w bytes false gave = refl

  gift_back : (u w : AreaPass) (bytes : ℕ) (some : Bool) (gave : GaveBack a u w bytes some) → AllGoBack (gift u w bytes some gave)
  gift_back u w bytes true gave = tt
  gift_back u w bytes false gave = tt

  -- A turn by which an entry was taken out. Its chunk went back, and its item is kept; another one went back, if there was one
  pub took : (seen mine seen' mine' : CacheHistories) (u w z : AreaPass) (t left number bytes : ℕ) (some : Bool) (name : List ℕ) (h : Held) → IsSettled a n share (sight seen mine u) t
      → AtPartition stepped n seen mine seen' mine' number (Call name Take false) (Made (Was (Some h)) false true) → GaveBack a u w h.bytes true → area_number w ≡ area_number u → GaveBack a w z bytes some → area_number z ≡ area_number w → left ≡ t + 1 → IsSettled a m share (sight seen' mine' z) left
  took seen mine seen' mine' u w z t left number bytes some name h x turn gave alike also alike' more =
      settled_on (sight seen mine u) (sight seen' mine' z) t left (Turn number (Call name Take false) (Made (Was (Some h)) false true) ∷ Asked (Gave h.bytes gave.0) ∷ gift w z bytes some also) x
      (sight seen' mine' u, (turn, refl), (sight seen' mine' w, (gave.1, alike, refl, refl), gift_trace seen' mine' w z bytes some also alike'))
      (left, omega (arith, more), (left, refl, gift_pays left w z bytes some also))
      (inl refl, gift_back w z bytes some also)

  -- the area had no room for a page's chunk
  pub no_room : (seen mine : CacheHistories) (u w : AreaPass) (t : ℕ) (why : NotPut) → IsSettled a n share (sight seen mine u) t → IsNoRoom a u w why → area_number w ≡ area_number u → IsSettled a m share (sight seen mine w) t
  no_room seen mine u w t (NoSpace pages largest) x none alike = settled_on (sight seen mine u) (sight seen mine w) t t (Asked (Missed 8192 pages largest) ∷ []) x (sight seen mine w, (none, alike, refl, refl), refl) (t, refl, refl) tt
  no_room seen mine u w t NoneToEvict x none alike = absurd none
  no_room seen mine u w t Memory x none alike = absurd none

  -- A page was put: a chunk was got for it. Under a name that had none
  pub put_new : {held kept : Bool} (seen mine : CacheHistories) (u w : AreaPass) (v : CacheSight) (t left number item at : ℕ) (name : List ℕ) (h : Held) (es : List CacheEvent) → IsSettled a n share (sight seen mine u) t
      → IsGranted a u w 8192 at → area_number w ≡ area_number u → IsMadeWith number item name (Put h) held kept (Was None) es → Trace stepped a n (sight seen mine w) v es → left + 1 ≡ t → IsSettled a m share v left
  put_new seen mine u w v t left number item at name h es x got alike made trace less =
      settled_on (sight seen mine u) v t left (Asked (Got 8192) ∷ es ++ []) x
      (sight seen mine w, ((at, got), alike, refl, refl), trace_append stepped a n (sight seen mine w) v v es [] trace refl)
      (t, refl, pays_append t left left es [] (call_pays number item name (Put h) (Was None) es made t left (omega (arith, less))) refl)
      (made_back number item name (Put h) None es [] made (λ gifts g. tt) tt)

  -- or over another, whose chunk went back
  pub put_over : {held kept : Bool} (seen mine : CacheHistories) (u w z : AreaPass) (v : CacheSight) (t number item at : ℕ) (name : List ℕ) (h old : Held) (es : List CacheEvent) → IsSettled a n share (sight seen mine u) t
      → IsGranted a u w 8192 at → area_number w ≡ area_number u → IsMadeWith number item name (Put h) held kept (Was (Some old)) es → Trace stepped a n (sight seen mine w) v es → GaveBack a v.area z old.bytes true → area_number z ≡ area_number v.area → IsSettled a m share (sight v.seen v.mine z) t
  put_over seen mine u w z v t number item at name h old es x got alike made trace gave alike' =
      settled_on (sight seen mine u) (sight v.seen v.mine z) t t (Asked (Got 8192) ∷ es ++ Asked (Gave old.bytes gave.0) ∷ []) x
      (sight seen mine w, ((at, got), alike, refl, refl), trace_append stepped a n (sight seen mine w) v (sight v.seen v.mine z) es (Asked (Gave old.bytes gave.0) ∷ []) trace (sight v.seen v.mine z, (gave.1, alike', refl, refl), refl))
      (t, refl, pays_append t t t es (Asked (Gave old.bytes gave.0) ∷ []) (call_pays number item name (Put h) (Was (Some old)) es made t t refl) (t, refl, refl))
      (made_back number item name (Put h) (Some old) es (Asked (Gave old.bytes gave.0) ∷ []) made (λ gifts g. after_gifts old gave.0 gifts g) tt)

  -- or it was refused, and its chunk went back
  pub turned_away : (seen mine : CacheHistories) (u w z : AreaPass) (v : CacheSight) (t at bytes : ℕ) (es : List CacheEvent) → IsSettled a n share (sight seen mine u) t
      → IsGranted a u w 8192 at → area_number w ≡ area_number u → NoneMade es → Trace stepped a n (sight seen mine w) v es → (gave : GaveBack a v.area z bytes true) → area_number z ≡ area_number v.area
      → IsSettled a m share (sight v.seen v.mine z) t × Trace stepped a n (sight seen mine u) (sight v.seen v.mine z) (Asked (Got 8192) ∷ es ++ Asked (Gave bytes gave.0) ∷ [])
  turned_away seen mine u w z v t at bytes es x got alike none trace gave alike' =
      let all : Trace stepped a n (sight seen mine u) (sight v.seen v.mine z) (Asked (Got 8192) ∷ es ++ Asked (Gave bytes gave.0) ∷ []) =
      (sight seen mine w, ((at, got), alike, refl, refl), trace_append stepped a n (sight seen mine w) v (sight v.seen v.mine z) es (Asked (Gave bytes gave.0) ∷ []) trace (sight v.seen v.mine z, (gave.1, alike', refl, refl), refl)) in (
        settled_on (sight seen mine u) (sight v.seen v.mine z) t t (Asked (Got 8192) ∷ es ++ Asked (Gave bytes gave.0) ∷ []) x all
            (t, refl, pays_append t t t es (Asked (Gave bytes gave.0) ∷ []) (none_pays t es none) (t, refl, refl))
            (back_append es (Asked (Gave bytes gave.0) ∷ []) (none_back es none) tt),
        all,
      )

-- a life begins
pub begins : (a : Area) (n share : ℕ) (seen mine : CacheHistories) (u : AreaPass) → ((i : ℕ) → (seen i ≡ []) × (mine i ≡ [])) → IsSettled a n share (sight seen mine u) share
begins a n share seen mine u fresh = record {
  paid = record {
    start = u;
    life = [];
    trace = λ j. sight (λ i. (fresh i).0 j) (λ i. (fresh i).1 j) u;
    pays = refl;
  };
  back = tt;
}
