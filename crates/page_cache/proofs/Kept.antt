-- What stands under a name is what its owner put there last, or it was evicted since.
use Rattle.std.proofs.Common.{◌≡◌, ◌≢◌, ◌⊎◌, inl, inr, ⊎_elim, ℕ, ◌==◌, Bool, true, false, cond, List, [], ◌∷◌, ◌++◌, append_assoc, Option, Some, None, refl, sym, ap, ◌∙◌, subst}
use Rattle.std.specs.FinMap as fin
use Rattle.std.proofs.lemmas.Bool.Decides.{eqb_tells}
use Rattle.lock_book.specs.History.{calls_by, last_of, IsLegal}
use Rattle.dshash_core.specs.Key.{hash_of}
use Rattle.dshash_core.specs.Cells.{KeyMap, partition_of}
use Rattle.dshash_core.specs.Outcome.{next_of}
use Rattle.dshash_core.proofs.Maps.{keys_same_or_not, other_key, same_key}
use Rattle.dshash_parts.specs.Legal.{AreAllowed, IsTurn, MayTurn, PartitionLegal}
use Rattle.dshash_parts.specs.Replays.{calls_of_key, made_of}
use Rattle.dshash_parts.specs.States.{PartitionState, fresh}
use Rattle.dshash_parts.specs.declared.histories.PartitionCalls.TheVariants.{Call, Looks, Moves, Lists}
use Rattle.dshash_parts.specs.declared.histories.PartitionReplies.TheVariants.{Made, LacksItem, HasToGrow, Crowded, HasSize, Moved, Listed}
use Rattle.dshash_parts.proofs.Replays.{changed_else, changed_here, one}
use Rattle.dshash_chunks.specs.declared.held.Held.{Held}
use Rattle.dshash_chunks.specs.declared.held.ChunkCalls.TheVariants.{Put, Take, With}
use Rattle.page_cache.specs.Owned.{IsEviction, IsKept, NonePut, WasEvicted, last_put, newer, own_page, put_by, under}
use Rattle.page_cache.specs.Pages.{after, may, owner_of, shown, stepped}
use Rattle.page_cache.specs.Tickets.{Answers, Asks, CacheCall, CacheEntry, CacheHistories, CacheReply}
use Rattle.page_cache.specs.declared.page.Page.{Page}

pub last_put-append : (page : Option Page) (xs ys : List (CacheCall × CacheReply)) → last_put page (xs ++ ys) ≡ last_put (last_put page xs) ys
last_put-append page [] ys = refl
last_put-append page (x ∷ xs) ys = last_put-append (newer (put_by x.0) page) xs ys

-- the page that a step leaves
leaves : (held : Option Held) (call : CacheCall) → shown (stepped held call).0 ≡ after (shown held) call
leaves held (Put h) = refl
leaves held Take = refl
leaves None (With call) = refl
leaves (Some h) (With call) = refl

module _ (name : List ℕ) where
  abbrev under_it : PartitionState Held → Option Held
  under_it s = fin.get s.cells name

  abbrev stood : PartitionState Held → Option Page
  stood s = shown (under_it s)

  -- a turn by which no call of the name was made leaves its page
  abbrev IsQuiet : PartitionState Held → PartitionState Held → Asks → Answers → Type 0
  IsQuiet before left call reply = (made_of name call reply ≡ []) × (stood left ≡ stood before)

  -- a call of the name that was made
  abbrev IsOfName : PartitionState Held → PartitionState Held → Asks → Answers → Type 0
  IsOfName before left call reply = (c : CacheCall) × (spare unused freed : Bool) × (call ≡ Call name c spare) × (reply ≡ Made (stepped (under_it before) c).1 unused freed) × (stood left ≡ after (stood before) c) × (made_of name call reply ≡ (c, (stepped (under_it before) c).1) ∷ [])

  -- each turn is one of the two
  quiet_or_not : (before left : PartitionState Held) (call : Asks) (reply : Answers) → IsTurn stepped before call reply left → IsQuiet before left call reply ⊎ IsOfName before left call reply
  quiet_or_not before left (Call k c spare) (Made reply unused freed) h =
      let next : Option Held = next_of stepped before.cells k c in
      let now = ap (λ (m : KeyMap Held). shown (fin.get m name)) h.1.steps in
      ⊎_elim
      (λ (e : name ≡ k).
      let told : reply ≡ (stepped (under_it before) c).1 = h.1.replied ∙ ap (λ (z : List ℕ). (stepped (fin.get before.cells z) c).1) (sym e) in
      inr (
        c,
        spare,
        unused,
        freed,
        ap (λ (z : List ℕ). Call z c spare) (sym e),
        ap (λ (z : CacheReply). Made z unused freed) told,
        now ∙ ap shown (changed_here stepped before.cells k next name e) ∙ leaves (fin.get before.cells k) c ∙ ap (λ (z : List ℕ). after (shown (fin.get before.cells z)) c) (sym e),
        ap (λ (b : Bool). cond b ((c, reply) ∷ []) []) (same_key name k e) ∙ ap (λ (z : CacheReply). (c, z) ∷ []) told,
      ))
      (λ (ne : name ≢ k). inl (ap (λ (b : Bool). cond b ((c, reply) ∷ []) []) (other_key name k ne), now ∙ ap shown (changed_else stepped before.cells k next name ne)))
      (keys_same_or_not name k)
  quiet_or_not before left (Call k c spare) LacksItem h = inl (refl, ap shown (sym (one stepped name before left (Call k c spare) LacksItem h)))
  quiet_or_not before left (Call k c spare) (HasToGrow size back) h = inl (refl, ap shown (sym (one stepped name before left (Call k c spare) (HasToGrow size back) h)))
  quiet_or_not before left (Call k c spare) (Crowded seed longest back) h = inl (refl, ap shown (sym (one stepped name before left (Call k c spare) (Crowded seed longest back) h)))
  quiet_or_not before left (Call k c spare) (HasSize size keys) h = absurd h
  quiet_or_not before left (Call k c spare) (Moved words) h = absurd h
  quiet_or_not before left (Call k c spare) (Listed entries) h = absurd h
  quiet_or_not before left Looks reply h = inl (refl, ap shown (sym (one stepped name before left Looks reply h)))
  quiet_or_not before left (Moves to) reply h = inl (refl, ap shown (sym (one stepped name before left (Moves to) reply h)))
  quiet_or_not before left Lists reply h = inl (refl, ap shown (sym (one stepped name before left Lists reply h)))

  module _ (n : ℕ) (owner : owner_of name ≡ n) where
    -- others put no page under the name
    others_put : (by : ℕ) → by ≢ n → (c : CacheCall) → may by name c → put_by c ≡ None
    others_put by ne (Put h) lets = absurd (ne (sym lets ∙ owner))
    others_put by ne Take lets = refl
    others_put by ne (With call) lets = refl

    others_leave : (by : ℕ) → by ≢ n → (page : Option Page) (call : Asks) (reply : Answers) → MayTurn may by call → last_put page (made_of name call reply) ≡ page
    others_leave by ne page (Call k c spare) (Made reply unused freed) lets = ⊎_elim
        (λ (e : name ≡ k).
        ap (λ (b : Bool). last_put page (cond b ((c, reply) ∷ []) [])) (same_key name k e)
        ∙ ap (λ (o : Option Page). newer o page) (others_put by ne c (subst (λ (z : List ℕ). may by z c) (sym e) lets)))
        (λ (no : name ≢ k). ap (λ (b : Bool). last_put page (cond b ((c, reply) ∷ []) [])) (other_key name k no))
        (keys_same_or_not name k)
    others_leave by ne page (Call k c spare) LacksItem lets = refl
    others_leave by ne page (Call k c spare) (HasToGrow size back) lets = refl
    others_leave by ne page (Call k c spare) (Crowded seed longest back) lets = refl
    others_leave by ne page (Call k c spare) (HasSize size keys) lets = refl
    others_leave by ne page (Call k c spare) (Moved words) lets = refl
    others_leave by ne page (Call k c spare) (Listed entries) lets = refl
    others_leave by ne page Looks reply lets = refl
    others_leave by ne page (Moves to) reply lets = refl
    others_leave by ne page Lists reply lets = refl

    -- the owner's last page after an entry and those behind it
    own_front : (page : Option Page) (e : CacheEntry) (es : List CacheEntry) → MayTurn may e.by e.call
        → last_put page (calls_of_key name (calls_by n (e ∷ es))) ≡ last_put (last_put page (made_of name e.call e.reply)) (calls_of_key name (calls_by n es))
    own_front page e es lets = ⊎_elim
        (λ (y : ((e.by == n) ≡ true) × (e.by ≡ n)).
        ap (λ (b : Bool). last_put page (calls_of_key name (cond b (e ∷ calls_by n es) (calls_by n es)))) y.0
        ∙ last_put-append page (made_of name e.call e.reply) (calls_of_key name (calls_by n es)))
        (λ (y : ((e.by == n) ≡ false) × (e.by ≢ n)).
        ap (λ (b : Bool). last_put page (calls_of_key name (cond b (e ∷ calls_by n es) (calls_by n es)))) y.0
        ∙ ap (λ (p : Option Page). last_put p (calls_of_key name (calls_by n es))) (sym (others_leave e.by y.1 page e.call e.reply lets)))
        (eqb_tells e.by n)

    -- where the page stands, or none does
    abbrev Start : Bool → Option Page → Option Page → Type 0
    Start true page there = there ≡ page
    Start false page there = there ≡ None

    -- how it went
    abbrev Gone : Bool → List CacheEntry → Type 0
    Gone true es = WasEvicted name es
    Gone false es = WasEvicted name es ⊎ NonePut name es

    -- how one entry leaves it
    abbrev Left : Bool → CacheEntry → Type 0
    Left true e = IsEviction name e
    Left false e = last_put None (made_of name e.call e.reply) ≡ None

    module _ (e : CacheEntry) (s : PartitionState Held) (page : Option Page) where
      abbrev now : Option Page
      now = last_put page (made_of name e.call e.reply)

      abbrev Step : Bool → Type 0
      Step b = (stood e.after ≡ now) ⊎ ((stood e.after ≡ None) × Left b e)

      quiet_step : (b : Bool) → IsQuiet s e.after e.call e.reply → Start b page (stood s) → Step b
      quiet_step true q here = inl (q.1 ∙ here ∙ sym (ap (last_put page) q.0))
      quiet_step false q here = inr (q.1 ∙ here, ap (last_put None) q.0)

      module _ (c : CacheCall) (spare unused freed : Bool) (call : e.call ≡ Call name c spare) where
        -- what was under the name before is given as such, so that its cases can be told
        made_step : (b : Bool) (was : Option Held) (it : CacheCall) → c ≡ it → e.reply ≡ Made (stepped was it).1 unused freed → stood e.after ≡ after (shown was) it → made_of name e.call e.reply ≡ (it, (stepped was it).1) ∷ [] → Start b page (shown was) → Step b
        made_step true was (With work) is reply left made here = inl (left ∙ here ∙ sym (ap (last_put page) made))
        made_step false was (With work) is reply left made here = inr (left ∙ here, ap (last_put None) made)
        made_step b was (Put new) is reply left made here = inl (left ∙ sym (ap (last_put page) made))
        made_step true (Some old) Take is reply left made here = inr (left, record { held = old; spare = spare; unused = unused; freed = freed; call = call ∙ ap (λ (z : CacheCall). Call name z spare) is; reply = reply })
        made_step true None Take is reply left made here = inl (left ∙ here ∙ sym (ap (last_put page) made))
        made_step false was Take is reply left made here = inr (left, ap (last_put None) made)

      step : (b : Bool) → IsTurn stepped s e.call e.reply e.after → Start b page (stood s) → Step b
      step b h here = ⊎_elim
          (λ (q : IsQuiet s e.after e.call e.reply). quiet_step b q here)
          (λ (x : IsOfName s e.after e.call e.reply). made_step x.0 x.1 x.2 x.3 x.4 b (under_it s) x.0 refl x.5 x.6 x.7 here)
          (quiet_or_not s e.after e.call e.reply h)

    abbrev Ends : Bool → Option Page → List CacheEntry → Option Page → Type 0
    Ends b page es there = (there ≡ last_put page (calls_of_key name (calls_by n es))) ⊎ ((there ≡ None) × Gone b es)

    -- a history
    keeps : (b : Bool) (number : ℕ) (s : PartitionState Held) (page : Option Page) (es : List CacheEntry) → IsLegal (λ _. PartitionLegal stepped number) s es → AreAllowed may es → Start b page (stood s) → Ends b page es (stood (last_of s es))
    keeps true number s page [] h a here = inl here
    keeps false number s page [] h a here = inr (here, inr tt)
    keeps true number s page (e ∷ es) h a here =
        let front = own_front page e es a.0 in
        ⊎_elim
        (λ (l : stood e.after ≡ now e s page). ⊎_elim
        (λ (x : stood (last_of e.after es) ≡ last_put (now e s page) (calls_of_key name (calls_by n es))). inl (x ∙ sym front))
        (λ (x : (stood (last_of e.after es) ≡ None) × WasEvicted name es). inr (x.0, inr x.1))
        (keeps true number e.after (now e s page) es h.1 a.1 l))
        (λ (r : (stood e.after ≡ None) × IsEviction name e). ⊎_elim
        (λ (x : stood (last_of e.after es) ≡ last_put (now e s page) (calls_of_key name (calls_by n es))). inl (x ∙ sym front))
        (λ (x : (stood (last_of e.after es) ≡ None) × (WasEvicted name es ⊎ NonePut name es)). inr (x.0, ⊎_elim (λ (w : WasEvicted name es). inr w) (λ (p : NonePut name es). inl (r.1, p)) x.1))
        (keeps false number e.after (now e s page) es h.1 a.1 r.0))
        (step e s page true h.0.is here)
    keeps false number s page (e ∷ es) h a here =
        let front = own_front page e es a.0 in
        ⊎_elim
        (λ (l : stood e.after ≡ now e s page). ⊎_elim
        (λ (x : stood (last_of e.after es) ≡ last_put (now e s page) (calls_of_key name (calls_by n es))). inl (x ∙ sym front))
        (λ (x : (stood (last_of e.after es) ≡ None) × WasEvicted name es). inr (x.0, inl (inr x.1)))
        (keeps true number e.after (now e s page) es h.1 a.1 l))
        (λ (r : (stood e.after ≡ None) × (last_put None (made_of name e.call e.reply) ≡ None)). ⊎_elim
        (λ (x : stood (last_of e.after es) ≡ last_put (now e s page) (calls_of_key name (calls_by n es))). inl (x ∙ sym front))
        (λ (x : (stood (last_of e.after es) ≡ None) × (WasEvicted name es ⊎ NonePut name es)). inr (x.0, ⊎_elim (λ (w : WasEvicted name es). inl (inr w)) (λ (p : NonePut name es). inr (r.1, p)) x.1))
        (keeps false number e.after (now e s page) es h.1 a.1 r.0))
        (step e s page false h.0.is here)

-- what a pass has seen of a name of its caller's own
pub kept : (n : ℕ) (name : List ℕ) → owner_of name ≡ n → (seen mine : CacheHistories) → IsLegal (λ _. PartitionLegal stepped (partition_of (hash_of name))) fresh (seen (partition_of (hash_of name))) → AreAllowed may (seen (partition_of (hash_of name)))
    → calls_by n (seen (partition_of (hash_of name))) ≡ mine (partition_of (hash_of name)) → IsKept seen mine name (under seen name)
kept n name owner seen mine lawful allowed own =
    let home : ℕ = partition_of (hash_of name) in
    subst (λ (es : List CacheEntry). (under seen name ≡ last_put None (calls_of_key name es)) ⊎ ((under seen name ≡ None) × WasEvicted name (seen home))) own
    (keeps name n owner true home fresh None (seen home) lawful allowed (ap shown (fin.get-empty {X = Held} _ name)))

pub calls-append : (name : List ℕ) (es fs : List CacheEntry) → calls_of_key name (es ++ fs) ≡ calls_of_key name es ++ calls_of_key name fs
calls-append name [] fs = refl
calls-append name (e ∷ es) fs = ap (λ (made : List (CacheCall × CacheReply)). made_of name e.call e.reply ++ made) (calls-append name es fs) ∙ sym (append_assoc (made_of name e.call e.reply) (calls_of_key name es) (calls_of_key name fs))

-- the same of a page and of calls that are no others
pub kept_as : (seen mine mine' : CacheHistories) (name : List ℕ) (page page' : Option Page) → page' ≡ page → own_page mine name ≡ own_page mine' name → IsKept seen mine name page → IsKept seen mine' name page'
kept_as seen mine mine' name page page' same own (inl x) = inl (same ∙ x ∙ own)
kept_as seen mine mine' name page page' same own (inr x) = inr (same ∙ x.0, x.1)
