-- Tickets that are paid for the entries that events make, and what a caller's own calls count.
use Rattle.std.proofs.Common.{◌≡◌, ◌≢◌, ◌⊎◌, inl, inr, ⊎_elim, ℕ, ◌+◌, ◌<◌, Bool, List, [], ◌∷◌, ◌++◌, refl, sym, ap, ◌∙◌, subst, arith}
use mathlib.Core.Logic.{dite}
use native.Mathlib.Decide.{ℕ_discrete}
use Rattle.lock_book.specs.History.{entry}
use Rattle.lock_book.proofs.Uses.{weigh, weigh-append}
use Rattle.dsa_area.specs.declared.area.Area.{Area}
use Rattle.dsa_area.specs.declared.area.AreaPass.{AreaPass}
use Rattle.dshash_core.specs.Key.{hash_of}
use Rattle.dshash_core.specs.Cells.{partition_of}
use Rattle.dshash_parts.specs.Legal.{IsOurs}
use Rattle.dshash_parts.specs.Promises.{IsMadeWith}
use Rattle.dshash_parts.specs.Tables.{AtPartition}
use Rattle.dshash_parts.specs.Traces.{AreGifts, Asked, Gave, Got, Missed, NoneMade, Trace, Turn}
use Rattle.dshash_parts.specs.declared.histories.PartitionCalls.TheVariants.{Call, Looks, Moves, Lists}
use Rattle.dshash_parts.specs.declared.histories.PartitionReplies.TheVariants.{Made, LacksItem, HasToGrow, Crowded, HasSize, Moved, Listed}
use Rattle.dshash_parts.proofs.Sweeps.{trace_append}
use Rattle.dshash_parts.proofs.Uses.{partition_low}
use Rattle.page_cache.specs.Pages.{stepped}
use Rattle.page_cache.specs.Tickets.{Answers, Asks, CacheCall, CacheEntry, CacheEvent, CacheHistories, CacheReply, CacheSight, HasPaid, Pays, counted, makes, nothing, of_event, of_turn, takes}
use Rattle.page_cache.proofs.PartitionSums.{sum_more, sum_same, sum_zero}

-- ---- tickets

pub pays_append : (t u w : ℕ) (es fs : List CacheEvent) → Pays t es u → Pays u fs w → Pays t (es ++ fs) w
pays_append t u w [] fs x y = subst (λ (z : ℕ). Pays z fs w) x y
pays_append t u w (e ∷ es) fs x y = (x.0, x.1, pays_append x.0 u w es fs x.2 y)

pub pays_front : (t w : ℕ) (es fs : List CacheEvent) → Pays t (es ++ fs) w → (u : ℕ) × Pays t es u
pays_front t w [] fs x = (t, refl)
pays_front t w (e ∷ es) fs x = let r = pays_front x.0 w es fs x.2 in (r.0, (x.0, x.1, r.1))

-- what the events make and take
abbrev pub total : (CacheCall → CacheReply → ℕ) → List CacheEvent → ℕ
total count [] = 0
total count (e ∷ es) = of_event count e + total count es

pub pays_total : (t u : ℕ) (es : List CacheEvent) → Pays t es u → u + total makes es ≡ t + total takes es
pays_total t u [] x = omega (arith, x)
pays_total t u (e ∷ es) x = let r = pays_total x.0 u es x.2 in let first = x.1 in omega (arith, r, first)

-- a turn by which no call was made has none
idle : (count : CacheCall → CacheReply → ℕ) (call : Asks) (reply : Answers) → ((r : CacheReply) (unused freed : Bool) → reply ≡ Made r unused freed → ⊥) → of_turn count call reply ≡ 0
idle count (Call name call spare) (Made r unused freed) h = absurd (h r unused freed refl)
idle count (Call name call spare) LacksItem h = refl
idle count (Call name call spare) (HasToGrow size back) h = refl
idle count (Call name call spare) (Crowded seed longest back) h = refl
idle count (Call name call spare) (HasSize size keys) h = refl
idle count (Call name call spare) (Moved left) h = refl
idle count (Call name call spare) (Listed entries) h = refl
idle count Looks reply h = refl
idle count (Moves to) reply h = refl
idle count Lists reply h = refl

-- and costs none
idles : (t u number : ℕ) (call : Asks) (reply : Answers) (es : List CacheEvent) → ((r : CacheReply) (unused freed : Bool) → reply ≡ Made r unused freed → ⊥) → Pays t es u → Pays t (Turn number call reply ∷ es) u
idles t u number call reply es h x = (t, ap (λ (z : ℕ). t + z) (idle makes call reply h ∙ sym (idle takes call reply h)), x)

pub none_pays : (t : ℕ) (es : List CacheEvent) → NoneMade es → Pays t es t
none_pays t [] h = refl
none_pays t (Asked request ∷ es) h = (t, refl, none_pays t es h)
none_pays t (Turn number call (Made reply unused freed) ∷ es) h = absurd h
none_pays t (Turn number call LacksItem ∷ es) h = idles t t number call LacksItem es (λ b u f e. absurd (cc)) (none_pays t es h)
none_pays t (Turn number call (HasToGrow size back) ∷ es) h = idles t t number call (HasToGrow size back) es (λ b u f e. absurd (cc)) (none_pays t es h)
none_pays t (Turn number call (Crowded seed longest back) ∷ es) h = idles t t number call (Crowded seed longest back) es (λ b u f e. absurd (cc)) (none_pays t es h)
none_pays t (Turn number call (HasSize size keys) ∷ es) h = idles t t number call (HasSize size keys) es (λ b u f e. absurd (cc)) (none_pays t es h)
none_pays t (Turn number call (Moved left) ∷ es) h = idles t t number call (Moved left) es (λ b u f e. absurd (cc)) (none_pays t es h)
none_pays t (Turn number call (Listed entries) ∷ es) h = idles t t number call (Listed entries) es (λ b u f e. absurd (cc)) (none_pays t es h)

gifts_pay : (t : ℕ) (es : List CacheEvent) → AreGifts es → Pays t es t
gifts_pay t [] h = refl
gifts_pay t (Asked (Gave bytes accepted) ∷ es) h = (t, refl, gifts_pay t es h)
gifts_pay t (Asked (Got bytes) ∷ es) h = absurd h
gifts_pay t (Asked (Missed bytes wanted largest) ∷ es) h = absurd h
gifts_pay t (Turn number call reply ∷ es) h = absurd h

-- the events of a call that was made pay for that call
pub call_pays : {held kept : Bool} (number item : ℕ) (name : List ℕ) (call : CacheCall) (reply : CacheReply) (es : List CacheEvent) → IsMadeWith number item name call held kept reply es → (t u : ℕ) → u + makes call reply ≡ t + takes call reply → Pays t es u
call_pays number item name call reply es m t u paid =
    let rest : List CacheEvent = Turn number (Call name call m.spare) (Made reply m.unused m.freed) ∷ m.after in
    subst (λ (z : List CacheEvent). Pays t z u) (sym m.is) (pays_append t t u m.before rest (none_pays t m.before m.none_before) (u, paid, gifts_pay u m.after m.gifts_after))

-- ---- what own calls count

module _ (count : CacheCall → CacheReply → ℕ) where
  abbrev weight : CacheEntry → ℕ
  weight e = of_turn count e.call e.reply

  module _ (n : ℕ) (seen mine seen' mine' : CacheHistories) (number : ℕ) (call : Asks) (reply : Answers) (a : AtPartition stepped n seen mine seen' mine' number call reply) where
    -- at the turn's partition its own count is added
    here_more : weigh weight (mine' number) ≡ weigh weight (mine number) + of_turn count call reply
    here_more =
        let x = a.here in
        let e = entry n call reply x.2.after in
        let grows : mine' number ≡ mine number ++ e ∷ [] = x.3.1 ∙ x.2.own in
        let w = ap (weigh weight) grows in
        let p = weigh-append weight (mine number) (e ∷ []) in
        omega (arith, w, p)

    -- and at the others none
    others_same : (i : ℕ) → i ≢ number → weigh weight (mine' i) ≡ weigh weight (mine i)
    others_same i ne = ap (weigh weight) (a.others i ne).1

    -- a call of a name is one at a partition that there is
    placed : (c : Asks) → c ≡ call → (number < 128) ⊎ (of_turn count c reply ≡ 0)
    placed (Call name made spare) e =
        let ours : partition_of (hash_of name) ≡ number = subst (λ (z : Asks). IsOurs stepped number z) (sym e) a.here.2.step.ours in
        inl (subst (λ (z : ℕ). z < 128) ours (partition_low name))
    placed Looks e = inr refl
    placed (Moves to) e = inr refl
    placed Lists e = inr refl

    pub turn_count : counted count mine' ≡ counted count mine + of_turn count call reply
    turn_count = ⊎_elim
        (λ (low : number < 128). sum_more 128 (λ i. weigh weight (mine i)) (λ i. weigh weight (mine' i)) number (of_turn count call reply) low here_more others_same)
        (λ (zero : of_turn count call reply ≡ 0).
        let same = sum_same 128 (λ i. weigh weight (mine i)) (λ i. weigh weight (mine' i)) (λ i lt. dite (ℕ_discrete i number) (λ e. let h = here_more in subst (λ (z : ℕ). weigh weight (mine' z) ≡ weigh weight (mine z)) (sym e) (omega (arith, h, zero))) (λ ne. others_same i ne)) in
        omega (arith, same, zero))
        (placed call refl)

  pub trace_count : (a : Area) (n : ℕ) (v w : CacheSight) (es : List CacheEvent) → Trace stepped a n v w es → counted count w.mine ≡ counted count v.mine + total count es
  trace_count a n v w [] x = let e = ap (λ (s : CacheSight). counted count s.mine) x in omega (arith, e)
  trace_count a n v w (Turn number call reply ∷ es) x =
      let first = turn_count n v.seen v.mine x.0.seen x.0.mine number call reply x.1.0 in
      let rest = trace_count a n x.0 w es x.2 in
      omega (arith, first, rest)
  trace_count a n v w (Asked request ∷ es) x =
      let first = ap (counted count) x.1.3 in
      let rest = trace_count a n x.0 w es x.2 in
      omega (arith, first, rest)

  nothing_counted : (start : AreaPass) → counted count (nothing start).mine ≡ 0
  nothing_counted start = sum_zero 128

-- ---- a life so far

module _ (a : Area) (n share : ℕ) where
  -- it goes on
  pub paid_on : (v w : CacheSight) (t u : ℕ) (es : List CacheEvent) → HasPaid a n share v t → Trace stepped a n v w es → Pays t es u → HasPaid a n share w u
  paid_on v w t u es x trace pays = record {
    start = x.start;
    life = x.life ++ es;
    trace = trace_append stepped a n (nothing x.start) v w x.life es x.trace trace;
    pays = pays_append share t u x.life es x.pays pays;
  }

  -- the tickets, and what was made and taken in it
  pub paid_counts : (v : CacheSight) (t : ℕ) → HasPaid a n share v t → t + counted makes v.mine ≡ share + counted takes v.mine
  paid_counts v t x =
      let made = trace_count makes a n (nothing x.start) v x.life x.trace in
      let taken = trace_count takes a n (nothing x.start) v x.life x.trace in
      let p = pays_total share t x.life x.pays in
      let z = nothing_counted makes x.start in
      let y = nothing_counted takes x.start in
      omega (arith, made, taken, p, z, y)
