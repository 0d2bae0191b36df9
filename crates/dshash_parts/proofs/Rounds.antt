-- The rounds of a call, one after another, and its end.
use Rattle.std.proofs.Common.{◌≡◌, ℕ, ◌+◌, ◌<◌, ◌≤◌, ⊎_elim, inl, inr, Bool, true, false, not, ◌&&◌, ◌||◌, List, [], ◌∷◌, ◌++◌, Option, refl, sym, ap, subst, ◌∙◌, arith, append_assoc}
use Rattle.dsa_area.specs.Sizes.{chunk_size}
use Rattle.dsa_area.specs.declared.area.Area.{Area}
use Rattle.dsa_area.specs.declared.area.AreaPass.{AreaPass}
use Rattle.dsa_area.specs.Shown.{number_of}
use Rattle.lock_book.specs.Told.{Histories}
use Rattle.dshash_core.specs.Chains.{Among}
use Rattle.dshash_parts.specs.States.{PartitionState}
use Rattle.dshash_parts.specs.Tables.{AtPartition, size_at}
use Rattle.dshash_parts.specs.declared.histories.PartitionCalls.{PartitionCalls}
use Rattle.dshash_parts.specs.declared.histories.PartitionCalls.TheVariants.{Call, Looks, Moves, Lists}
use Rattle.dshash_parts.specs.declared.histories.PartitionReplies.{PartitionReplies}
use Rattle.dshash_parts.specs.declared.histories.PartitionReplies.TheVariants.{Made, LacksItem, HasToGrow, Crowded, HasSize, Moved, Listed}
use Rattle.dshash_parts.specs.Traces.{Event, Turn, Asked, Requested, Got, Missed, Gave, Sight, sight, Trace, asked, fulls, NoneMade, AreGifts}
use Rattle.dshash_parts.specs.Promises.{AllGrew, HadToGrow, IsFrugal, IsLeftOver, LackedItem, IsMadeWith, IsRefusedWith, all_brought, all_took, count_if, one_if, slice_size}
use Rattle.dshash_parts.specs.Within.{IsCrowdedOut}
use Rattle.dshash_parts.specs.Sweeps.{IsSweep, AreSweeps, GivesLeftOvers, SlicesBalance, Swept, GaveBack}
use Rattle.dshash_parts.specs.Rounds.{AreCaused, IsUnderway, Underway}
use Rattle.dshash_parts.proofs.Sweeps.{among_back, among_front, among_parts, trace_append, brought_append, took_append, asked_append}

module _ {S C R : Type 0} where
  fulls_cons : (e : Event S C R) (es : List (Event S C R)) → fulls (e ∷ es) ≡ fulls (e ∷ []) + fulls es
  fulls_cons (Turn number call (Made r u f)) es = omega arith
  fulls_cons (Turn number call LacksItem) es = omega arith
  fulls_cons (Turn number call (HasToGrow size back)) es = omega arith
  fulls_cons (Turn number call (Crowded seed longest back)) es = omega arith
  fulls_cons (Turn number call (HasSize size keys)) es = omega arith
  fulls_cons (Turn number call (Moved left)) es = omega arith
  fulls_cons (Turn number call (Listed entries)) es = omega arith
  fulls_cons (Asked request) es = omega arith

  pub fulls_append : (es fs : List (Event S C R)) → fulls (es ++ fs) ≡ fulls es + fulls fs
  fulls_append [] fs = omega arith
  fulls_append (e ∷ es) fs = let x = fulls_cons e (es ++ fs) in let y = fulls_cons e es in let z = fulls_append es fs in omega arith

  none_append : (es fs : List (Event S C R)) → NoneMade es → NoneMade fs → NoneMade (es ++ fs)
  none_append [] fs x y = y
  none_append (Turn number call (Made r u f) ∷ es) fs x y = absurd x
  none_append (Turn number call LacksItem ∷ es) fs x y = none_append es fs x y
  none_append (Turn number call (HasToGrow size back) ∷ es) fs x y = none_append es fs x y
  none_append (Turn number call (Crowded seed longest back) ∷ es) fs x y = none_append es fs x y
  none_append (Turn number call (HasSize size keys) ∷ es) fs x y = none_append es fs x y
  none_append (Turn number call (Moved left) ∷ es) fs x y = none_append es fs x y
  none_append (Turn number call (Listed entries) ∷ es) fs x y = none_append es fs x y
  none_append (Asked request ∷ es) fs x y = none_append es fs x y

  -- among the events of a sweep no call is made, and none is told that the partition has to grow
  sweeps_quiet : (size : ℕ) (es : List (Event S C R)) → AreSweeps size es → NoneMade es × (fulls es ≡ 0)
  sweeps_quiet size [] h = (tt, refl)
  sweeps_quiet size (Turn number Looks (HasSize found keys) ∷ es) h = sweeps_quiet size es h.1
  sweeps_quiet size (Turn number (Moves to) (Moved left) ∷ es) h = sweeps_quiet size es h.1
  sweeps_quiet size (Asked (Got bytes) ∷ es) h = sweeps_quiet size es h.1
  sweeps_quiet size (Asked (Gave bytes accepted) ∷ es) h = sweeps_quiet size es h.1
  sweeps_quiet size (Asked (Missed bytes wanted largest) ∷ es) h = absurd h.0
  sweeps_quiet size (Turn number (Call k c s) reply ∷ es) h = absurd h.0
  sweeps_quiet size (Turn number Lists reply ∷ es) h = absurd h.0
  sweeps_quiet size (Turn number Looks (Made r u f) ∷ es) h = absurd h.0
  sweeps_quiet size (Turn number Looks LacksItem ∷ es) h = absurd h.0
  sweeps_quiet size (Turn number Looks (HasToGrow told back) ∷ es) h = absurd h.0
  sweeps_quiet size (Turn number Looks (Crowded seed longest back) ∷ es) h = absurd h.0
  sweeps_quiet size (Turn number Looks (Moved left) ∷ es) h = absurd h.0
  sweeps_quiet size (Turn number Looks (Listed entries) ∷ es) h = absurd h.0
  sweeps_quiet size (Turn number (Moves to) (Made r u f) ∷ es) h = absurd h.0
  sweeps_quiet size (Turn number (Moves to) LacksItem ∷ es) h = absurd h.0
  sweeps_quiet size (Turn number (Moves to) (HasToGrow told back) ∷ es) h = absurd h.0
  sweeps_quiet size (Turn number (Moves to) (Crowded seed longest back) ∷ es) h = absurd h.0
  sweeps_quiet size (Turn number (Moves to) (HasSize found keys) ∷ es) h = absurd h.0
  sweeps_quiet size (Turn number (Moves to) (Listed entries) ∷ es) h = absurd h.0

  -- what stands among the events of a sweep is such an event
  sweep_among : (size : ℕ) (e : Event S C R) (es : List (Event S C R)) → AreSweeps size es → Among e es → IsSweep size e
  sweep_among size e [] h x = absurd x
  sweep_among size e (z ∷ zs) h x = ⊎_elim (λ (same : e ≡ z). subst (λ (y : Event S C R). IsSweep size y) (sym same) h.0) (λ (r : Among e zs). sweep_among size e zs h.1 r) x

  -- a gift of this many bytes to the area, which took it if the second answer says so; or none
  abbrev pub gift : ℕ → Bool → Bool → List (Event S C R)
  gift bytes fate true = Asked (Gave bytes fate) ∷ []
  gift bytes fate false = []

-- the area took what it was given, if it was given something
abbrev pub fate_of : (a : Area) (p q : AreaPass) (bytes : ℕ) (b : Bool) → GaveBack a p q bytes b → Bool
fate_of a p q bytes true g = g.0
fate_of a p q bytes false g = true

module _ {S C R : Type 0} where
  pub gift_trace : (step : Option S → C → Option S × R) (a : Area) (n : ℕ) (s m : Histories (PartitionState S) (PartitionCalls C) (PartitionReplies S R)) (p q : AreaPass) (bytes : ℕ) (b : Bool) (g : GaveBack a p q bytes b) → number_of q ≡ number_of p
      → Trace step a n (sight s m p) (sight s m q) (gift bytes (fate_of a p q bytes b g) b)
  gift_trace step a n s m p q bytes true g same = (sight s m q, (g.1, same, refl, refl), refl)
  gift_trace step a n s m p q bytes false g same = ap (sight s m) g

module _ {S C R : Type 0} (number item : ℕ) (key : List ℕ) (call : C) where
  grow_later : (es fs : List (Event S C R)) (size : ℕ) → HadToGrow number item key call es size → HadToGrow number item key call (es ++ fs) size
  grow_later es fs size x = (x.0, among_front (Turn number (Call key call x.0) (HasToGrow size x.0)) es fs x.1)

  -- causes stay causes as more events come, and those of two parts are those of the whole
  caused_both : (es fs : List (Event S C R)) → AreCaused number item key call es es → AreCaused number item key call (es ++ fs) fs → AreCaused number item key call (es ++ fs) (es ++ fs)
  caused_both es fs x y = record {
    moves = λ k to left h. ⊎_elim
        (λ (a : Among (Turn k (Moves to) (Moved left)) es). let z = x.moves k to left a in (z.0, grow_later es fs z.0 z.1, z.2))
        (λ (b : Among (Turn k (Moves to) (Moved left)) fs). y.moves k to left b)
        (among_parts (Turn k (Moves to) (Moved left)) es fs h);
    grants = λ bytes h. ⊎_elim
        (λ (a : Among (Asked (Got bytes)) es). ⊎_elim
        (λ (l : (bytes ≡ item) × LackedItem number item key call es). inl (l.0, among_front (Turn number (Call key call false) LacksItem) es fs l.1))
        (λ (r : (size : ℕ) × HadToGrow number item key call es size × (bytes ≡ slice_size (size + 1))). inr (r.0, grow_later es fs r.0 r.1, r.2))
        (x.grants bytes a))
        (λ (b : Among (Asked (Got bytes)) fs). y.grants bytes b)
        (among_parts (Asked (Got bytes)) es fs h);
    gifts = λ bytes accepted h. ⊎_elim
        (λ (a : Among (Asked (Gave bytes accepted)) es). ⊎_elim
        (λ (l : bytes ≡ chunk_size item). inl l)
        (λ (r : IsLeftOver es bytes). inr (r.0, r.1, among_front (Turn r.0 (Moves r.1) (Moved bytes)) es fs r.2))
        (x.gifts bytes accepted a))
        (λ (b : Among (Asked (Gave bytes accepted)) fs). y.gifts bytes accepted b)
        (among_parts (Asked (Gave bytes accepted)) es fs h);
  }

  -- the events of a round that got an item
  abbrev pub item_round : List (Event S C R)
  item_round = Turn number (Call key call false) LacksItem ∷ Asked (Got item) ∷ []

  pub underway_none : (held : Bool) → IsUnderway {S = S} {C = C} {R = R} number item key call held held []
  underway_none held = record { none = tt; balance = λ bytes. omega arith; caused = record { moves = λ k to left h. absurd h; grants = λ bytes h. absurd h; gifts = λ bytes accepted h. absurd h }; asks = omega arith; uses = λ h. (h, λ l. l) }

  pub underway_item : {held : Bool} (es : List (Event S C R)) → IsUnderway number item key call held false es → IsUnderway number item key call held true (es ++ item_round)
  underway_item es x = record {
    none = none_append es item_round x.none tt;
    balance = λ bytes. let p = brought_append (chunk_size item) bytes es item_round in let q = took_append (chunk_size item) bytes es item_round in let b = x.balance bytes in omega arith;
    caused = caused_both es item_round x.caused (record {
      moves = λ k to left h. ⊎_elim (λ e. absurd (cc)) (λ r. ⊎_elim (λ e. absurd (cc)) (λ z. absurd z) r) h;
      grants = λ bytes h. inl (⊎_elim (λ e. absurd (cc)) (λ r. ⊎_elim (λ (e : Asked (Got bytes) ≡ Asked (Got item)). cc) (λ z. absurd z) r) h, among_back (Turn number (Call key call false) LacksItem) es item_round (inl refl));
      gifts = λ bytes accepted h. absurd (⊎_elim (λ e. absurd (cc)) (λ r. ⊎_elim (λ (e : Asked (Gave bytes accepted) ≡ Asked (Got item)). absurd (cc)) (λ z. absurd z) r) h);
    });
    asks = let p = asked_append es item_round in let q = fulls_append es item_round in let b = x.asks in omega arith;
    uses = λ h. let e : false ≡ true = (x.uses h).0 in absurd (cc);
  }

  -- a turn that told that the partition has to grow, and a sweep to the next size
  abbrev pub growth : Bool → ℕ → List (Event S C R) → List (Event S C R)
  growth spare size sweep = Turn number (Call key call spare) (HasToGrow size spare) ∷ sweep

  growth_caused : (es : List (Event S C R)) (spare : Bool) (size : ℕ) (sweep : List (Event S C R)) → AreSweeps (size + 1) sweep → GivesLeftOvers sweep → AreCaused number item key call (es ++ growth spare size sweep) (growth spare size sweep)
  growth_caused es spare size sweep h gave =
      let told : HadToGrow number item key call (es ++ growth spare size sweep) size = (spare, among_back (Turn number (Call key call spare) (HasToGrow size spare)) es (growth spare size sweep) (inl refl)) in record {
        moves = λ k to left x. (size, told, ⊎_elim (λ e. absurd (cc)) (λ (r : Among (Turn k (Moves to) (Moved left)) sweep). sweep_among (size + 1) (Turn k (Moves to) (Moved left)) sweep h r) x);
        grants = λ bytes x. inr (size, told, ⊎_elim (λ e. absurd (cc)) (λ (r : Among (Asked (Got bytes)) sweep). sweep_among (size + 1) (Asked (Got bytes)) sweep h r) x);
        gifts = λ bytes accepted x. inr (⊎_elim (λ e. absurd (cc))
            (λ (r : Among (Asked (Gave bytes accepted)) sweep). let l = gave bytes accepted r in (l.0, l.1, among_back (Turn l.0 (Moves l.1) (Moved bytes)) es (growth spare size sweep) (inr l.2))) x);
      }

  pub underway_growth : {held : Bool} (es : List (Event S C R)) (spare : Bool) (size : ℕ) (sweep : List (Event S C R)) → IsUnderway number item key call held spare es → AreSweeps (size + 1) sweep → GivesLeftOvers sweep → SlicesBalance sweep → asked sweep ≤ 128
      → IsUnderway number item key call held spare (es ++ growth spare size sweep)
  underway_growth es spare size sweep x h gave even few =
      let quiet = sweeps_quiet (size + 1) sweep h in record {
        none = none_append es (growth spare size sweep) x.none quiet.0;
        balance = λ bytes. let p = brought_append (chunk_size item) bytes es (growth spare size sweep) in let q = took_append (chunk_size item) bytes es (growth spare size sweep) in let b = x.balance bytes in let s = even (chunk_size item) bytes in omega arith;
        caused = caused_both es (growth spare size sweep) x.caused (growth_caused es spare size sweep h gave);
        asks = let p = asked_append es (growth spare size sweep) in let q = fulls_append es (growth spare size sweep) in let b = x.asks in let z = quiet.1 in omega arith;
        uses = λ is. let lack : Event S C R = Turn number (Call key call false) LacksItem in ((x.uses is).0, λ l. ⊎_elim (λ (a : Among lack es). (x.uses is).1 a) (λ (b : Among lack (growth spare size sweep)). ⊎_elim (λ e. absurd (cc)) (λ (r : Among lack sweep). sweep_among (size + 1) lack sweep h r) b) (among_parts lack es (growth spare size sweep) l));
      }

one_at_most : (b : Bool) → one_if b ≤ 1
one_at_most true = omega arith
one_at_most false = omega arith

-- an unused spare is one that came
taken : (size bytes : ℕ) (spare unused : Bool) → (unused ≡ true → spare ≡ true) → count_if (spare && not unused) size bytes + count_if unused size bytes ≡ count_if spare size bytes
taken size bytes true true h = omega arith
taken size bytes true false h = omega arith
taken size bytes false true h = absurd (let e : false ≡ true = h refl in cc)
taken size bytes false false h = refl

-- of two items one is kept, and where there are both the other is not
both_or_one : (size bytes : ℕ) (a b : Bool) → count_if a size bytes + count_if b size bytes ≡ count_if (a && b) size bytes + count_if (a || b) size bytes
both_or_one size bytes true true = refl
both_or_one size bytes true false = omega arith
both_or_one size bytes false true = refl
both_or_one size bytes false false = refl

module _ {S C R : Type 0} where
  gifts_append : (es fs : List (Event S C R)) → AreGifts es → AreGifts fs → AreGifts (es ++ fs)
  gifts_append [] fs x y = y
  gifts_append (Turn number call reply ∷ es) fs x y = absurd x
  gifts_append (Asked (Got bytes) ∷ es) fs x y = absurd x
  gifts_append (Asked (Missed bytes wanted largest) ∷ es) fs x y = absurd x
  gifts_append (Asked (Gave bytes accepted) ∷ es) fs x y = gifts_append es fs x y

  -- what stands in a gift is a gift of these bytes
  pub gift_among : (bytes : ℕ) (fate b : Bool) (e : Event S C R) → Among e (gift bytes fate b) → e ≡ Asked (Gave bytes fate)
  gift_among bytes fate true e x = ⊎_elim (λ (same : e ≡ Asked (Gave bytes fate)). same) (λ z. absurd z) x
  gift_among bytes fate false e x = absurd x

-- what a gift is, or none
record OnlyGift (S C R : Type 0) (bytes : ℕ) (fate spare : Bool) : Type 0 where
  are : AreGifts {S = S} {C = C} {R = R} (gift bytes fate spare)
  took_is : (item counted : ℕ) → all_took {S = S} {C = C} {R = R} item counted (gift bytes fate spare) ≡ count_if spare bytes counted
  brought_none : (item counted : ℕ) → all_brought {S = S} {C = C} {R = R} item counted (gift bytes fate spare) ≡ 0
  asked_none : asked {S = S} {C = C} {R = R} (gift bytes fate spare) ≡ 0
  fulls_none : fulls {S = S} {C = C} {R = R} (gift bytes fate spare) ≡ 0
  none : NoneMade {S = S} {C = C} {R = R} (gift bytes fate spare)

only_gift : (S C R : Type 0) (bytes : ℕ) (fate spare : Bool) → OnlyGift S C R bytes fate spare
only_gift S C R bytes fate true = record { are = tt; took_is = λ item counted. omega arith; brought_none = λ item counted. refl; asked_none = refl; fulls_none = refl; none = tt }
only_gift S C R bytes fate false = record { are = tt; took_is = λ item counted. refl; brought_none = λ item counted. refl; asked_none = refl; fulls_none = refl; none = tt }

module _ {S C R : Type 0} (number item : ℕ) (key : List ℕ) (call : C) where
  -- the end of a call that was made: of the item that it did not use and the one that it freed, where there are both, one
  -- is given back
  abbrev pub made_end : Bool → R → Bool → Bool → Bool → List (Event S C R)
  made_end spare reply unused freed fate = Turn number (Call key call spare) (Made reply unused freed) ∷ gift (chunk_size item) fate (unused && freed)

  -- a gift of an item has its cause in itself
  gift_caused : (es : List (Event S C R)) (fate b : Bool) → AreCaused number item key call es (gift (chunk_size item) fate b)
  gift_caused es fate b = record {
    moves = λ k to left y. let e = gift_among (chunk_size item) fate b (Turn k (Moves to) (Moved left)) y in absurd (cc);
    grants = λ bytes y. let e = gift_among (chunk_size item) fate b (Asked (Got bytes)) y in absurd (cc);
    gifts = λ bytes accepted y. let e = gift_among (chunk_size item) fate b (Asked (Gave bytes accepted)) y in let same : bytes ≡ chunk_size item = cc in inl same;
  }

  pub call_made : {held : Bool} (es : List (Event S C R)) (spare : Bool) (reply : R) (unused freed fate : Bool) → IsUnderway number item key call held spare es → fulls es ≤ 13 → (unused ≡ true → spare ≡ true)
      → IsMadeWith number item key call held (unused || freed) reply (es ++ made_end spare reply unused freed fate)
  call_made es spare reply unused freed fate x few h =
      let tail : List (Event S C R) = made_end spare reply unused freed fate in
      let g : OnlyGift S C R (chunk_size item) fate (unused && freed) = only_gift S C R (chunk_size item) fate (unused && freed) in
      let late : AreCaused number item key call (es ++ tail) (gift (chunk_size item) fate (unused && freed)) = gift_caused (es ++ tail) fate (unused && freed) in
      let caused = caused_both number item key call es tail x.caused (record {
        moves = λ k to left y. ⊎_elim (λ e. absurd (cc)) (λ (r : Among (Turn k (Moves to) (Moved left)) (gift (chunk_size item) fate (unused && freed))). late.moves k to left r) y;
        grants = λ bytes y. ⊎_elim (λ e. absurd (cc)) (λ (r : Among (Asked (Got bytes)) (gift (chunk_size item) fate (unused && freed))). late.grants bytes r) y;
        gifts = λ bytes accepted y. ⊎_elim (λ e. absurd (cc)) (λ (r : Among (Asked (Gave bytes accepted)) (gift (chunk_size item) fate (unused && freed))). late.gifts bytes accepted r) y;
      }) in
      record {
        before = es;
        after = gift (chunk_size item) fate (unused && freed);
        spare = spare;
        unused = unused;
        freed = freed;
        is = refl;
        none_before = x.none;
        gifts_after = g.are;
        balance = λ bytes. let p = brought_append (chunk_size item) bytes es tail in let q = took_append (chunk_size item) bytes es tail in let b = x.balance bytes in let t = taken (chunk_size item) bytes spare unused h in let o = both_or_one (chunk_size item) bytes unused freed in let u = g.took_is (chunk_size item) bytes in let v = g.brought_none (chunk_size item) bytes in omega arith;
        uses = λ is l. let lack : Event S C R = Turn number (Call key call false) LacksItem in ⊎_elim (λ (a : Among lack es). (x.uses is).1 a) (λ (b : Among lack tail). ⊎_elim (λ e. absurd (cc)) (λ (r : Among lack (gift (chunk_size item) fate (unused && freed))). let e = gift_among (chunk_size item) fate (unused && freed) lack r in absurd (cc)) b) (among_parts lack es tail l);
        frugal = record {
          moves = caused.moves;
          grants = caused.grants;
          gifts = caused.gifts;
          asks = let p = asked_append es tail in let q = fulls_append es tail in let b = x.asks in let t = one_at_most spare in let u = g.asked_none in let v = g.fulls_none in omega arith;
          rounds = let q = fulls_append es tail in let v = g.fulls_none in omega arith;
        };
      }

  -- a call that was made, and whose spare item was given back then, where there was one
  pub made_gave : {held : Bool} (kept fate : Bool) (reply : R) (es : List (Event S C R)) → IsMadeWith number item key call held kept reply es → IsMadeWith number item key call held false reply (es ++ gift (chunk_size item) fate kept)
  made_gave kept fate reply es x =
      let tail : List (Event S C R) = gift (chunk_size item) fate kept in
      let g : OnlyGift S C R (chunk_size item) fate kept = only_gift S C R (chunk_size item) fate kept in
      let f : IsFrugal number item key call es = x.frugal in
      let caused = caused_both number item key call es tail (record { moves = f.moves; grants = f.grants; gifts = f.gifts }) (gift_caused (es ++ tail) fate kept) in
      let last : List (Event S C R) = Turn number (Call key call x.spare) (Made reply x.unused x.freed) ∷ x.after in
      record {
        before = x.before;
        after = x.after ++ tail;
        spare = x.spare;
        unused = x.unused;
        freed = x.freed;
        is = ap (λ (z : List (Event S C R)). z ++ tail) x.is ∙ append_assoc x.before last tail;
        none_before = x.none_before;
        gifts_after = gifts_append x.after tail x.gifts_after g.are;
        uses = λ is l. let lack : Event S C R = Turn number (Call key call false) LacksItem in ⊎_elim (λ (a : Among lack es). x.uses is a) (λ (r : Among lack tail). let e = gift_among (chunk_size item) fate kept lack r in absurd (cc)) (among_parts lack es tail l);
        balance = λ bytes. let p = brought_append (chunk_size item) bytes es tail in let q = took_append (chunk_size item) bytes es tail in let b = x.balance bytes in let u = g.took_is (chunk_size item) bytes in let v = g.brought_none (chunk_size item) bytes in omega arith;
        frugal = record {
          moves = caused.moves;
          grants = caused.grants;
          gifts = caused.gifts;
          asks = let p = asked_append es tail in let q = fulls_append es tail in let b = f.asks in let u = g.asked_none in let v = g.fulls_none in omega arith;
          rounds = let q = fulls_append es tail in let r = f.rounds in let v = g.fulls_none in omega arith;
        };
      }

  -- the end of a call for which there was no item
  abbrev pub item_end : ℕ → ℕ → List (Event S C R)
  item_end wanted largest = Turn number (Call key call false) LacksItem ∷ Asked (Missed item wanted largest) ∷ []

  pub item_refused : {held : Bool} (es : List (Event S C R)) (wanted largest : ℕ) → IsUnderway number item key call held false es → fulls es ≤ 13 → IsRefusedWith number item key call held wanted largest (es ++ item_end wanted largest)
  item_refused es wanted largest x few =
      let tail : List (Event S C R) = item_end wanted largest in
      let lacks : List (Event S C R) = Turn number (Call key call false) LacksItem ∷ [] in
      let caused = caused_both number item key call es tail x.caused (record {
        moves = λ k to left y. absurd (⊎_elim (λ e. absurd (cc)) (λ r. ⊎_elim (λ e. absurd (cc)) (λ z. z) r) y);
        grants = λ bytes y. absurd (⊎_elim (λ e. absurd (cc)) (λ r. ⊎_elim (λ e. absurd (cc)) (λ z. z) r) y);
        gifts = λ bytes accepted y. absurd (⊎_elim (λ e. absurd (cc)) (λ r. ⊎_elim (λ e. absurd (cc)) (λ z. z) r) y);
      }) in
      record {
        before = es ++ lacks;
        after = [];
        bytes = item;
        is = sym (append_assoc es lacks (Asked (Missed item wanted largest) ∷ []));
        none = none_append es tail x.none tt;
        cause = inl (refl, among_back (Turn number (Call key call false) LacksItem) es lacks (inl refl));
        uses = λ is l. let e : false ≡ true = (x.uses is).0 in absurd (cc);
        gifts_after = tt;
        balance = λ bytes. let p = brought_append (chunk_size item) bytes es tail in let q = took_append (chunk_size item) bytes es tail in let b = x.balance bytes in omega arith;
        frugal = record {
          moves = caused.moves;
          grants = caused.grants;
          gifts = caused.gifts;
          asks = let p = asked_append es tail in let q = fulls_append es tail in let b = x.asks in omega arith;
          rounds = let q = fulls_append es tail in omega arith;
        };
      }

  -- the end of a call whose chain was too long: its spare item was given back, if there was one
  abbrev pub crowded_end : Bool → ℕ → ℕ → Bool → List (Event S C R)
  crowded_end spare seed longest fate = Turn number (Call key call spare) (Crowded seed longest spare) ∷ gift (chunk_size item) fate spare

  pub call_crowded : (es : List (Event S C R)) (spare : Bool) (seed longest : ℕ) (fate : Bool) → IsUnderway number item key call false spare es → fulls es ≤ 13 → IsCrowdedOut number item key call seed longest (es ++ crowded_end spare seed longest fate)
  call_crowded es spare seed longest fate x few =
      let tail : List (Event S C R) = crowded_end spare seed longest fate in
      let g : OnlyGift S C R (chunk_size item) fate spare = only_gift S C R (chunk_size item) fate spare in
      let late : AreCaused number item key call (es ++ tail) (gift (chunk_size item) fate spare) = gift_caused (es ++ tail) fate spare in
      let caused = caused_both number item key call es tail x.caused (record {
        moves = λ k to left y. ⊎_elim (λ e. absurd (cc)) (λ (r : Among (Turn k (Moves to) (Moved left)) (gift (chunk_size item) fate spare)). late.moves k to left r) y;
        grants = λ bytes y. ⊎_elim (λ e. absurd (cc)) (λ (r : Among (Asked (Got bytes)) (gift (chunk_size item) fate spare)). late.grants bytes r) y;
        gifts = λ bytes accepted y. ⊎_elim (λ e. absurd (cc)) (λ (r : Among (Asked (Gave bytes accepted)) (gift (chunk_size item) fate spare)). late.gifts bytes accepted r) y;
      }) in
      record {
        before = es;
        after = gift (chunk_size item) fate spare;
        spare = spare;
        is = refl;
        none = none_append es tail x.none g.none;
        gifts_after = g.are;
        balance = λ bytes. let p = brought_append (chunk_size item) bytes es tail in let q = took_append (chunk_size item) bytes es tail in let b = x.balance bytes in let u = g.took_is (chunk_size item) bytes in let v = g.brought_none (chunk_size item) bytes in omega arith;
        frugal = record {
          moves = caused.moves;
          grants = caused.grants;
          gifts = caused.gifts;
          asks = let p = asked_append es tail in let q = fulls_append es tail in let b = x.asks in let t = one_at_most spare in let u = g.asked_none in let v = g.fulls_none in omega arith;
          rounds = let q = fulls_append es tail in let v = g.fulls_none in omega arith;
        };
      }

  -- the end of a call for which there was no slice: the partition k of a smaller size was the first to find none
  abbrev pub stuck : ℕ → ℕ → ℕ → ℕ → ℕ → ℕ → Bool → Bool → List (Event S C R)
  stuck size k found keys wanted largest fate spare = Turn k Looks (HasSize found keys) ∷ Asked (Missed (slice_size (size + 1)) wanted largest) ∷ gift (chunk_size item) fate spare

  abbrev pub slice_end : Bool → Bool → ℕ → List (Event S C R) → ℕ → ℕ → ℕ → ℕ → ℕ → List (Event S C R)
  slice_end fate spare size sweep k found keys wanted largest = Turn number (Call key call spare) (HasToGrow size spare) ∷ (sweep ++ stuck size k found keys wanted largest fate spare)

  slice_caused : (es : List (Event S C R)) (fate spare : Bool) (size : ℕ) (sweep : List (Event S C R)) (k found keys wanted largest : ℕ) → AreSweeps (size + 1) sweep → GivesLeftOvers sweep
      → AreCaused number item key call (es ++ slice_end fate spare size sweep k found keys wanted largest) (slice_end fate spare size sweep k found keys wanted largest)
  slice_caused es fate spare size sweep k found keys wanted largest h gave =
      let told : HadToGrow number item key call (es ++ slice_end fate spare size sweep k found keys wanted largest) size = (spare, among_back (Turn number (Call key call spare) (HasToGrow size spare)) es (slice_end fate spare size sweep k found keys wanted largest) (inl refl)) in
      record {
        moves = λ j to left x. (
          size,
          told,
          ⊎_elim (λ e. absurd (cc)) (λ (r : Among (Turn j (Moves to) (Moved left)) (sweep ++ stuck size k found keys wanted largest fate spare)). ⊎_elim
              (λ (a : Among (Turn j (Moves to) (Moved left)) sweep). sweep_among (size + 1) (Turn j (Moves to) (Moved left)) sweep h a)
              (λ (b : Among (Turn j (Moves to) (Moved left)) (stuck size k found keys wanted largest fate spare)). absurd (⊎_elim (λ e. absurd (cc)) (λ c. ⊎_elim (λ e. absurd (cc)) (λ (d : Among (Turn j (Moves to) (Moved left)) (gift (chunk_size item) fate spare)). let e = gift_among (chunk_size item) fate spare (Turn j (Moves to) (Moved left)) d in absurd (cc)) c) b))
              (among_parts (Turn j (Moves to) (Moved left)) sweep (stuck size k found keys wanted largest fate spare) r)) x,
        );
        grants = λ bytes x. inr (
          size,
          told,
          ⊎_elim (λ e. absurd (cc)) (λ (r : Among (Asked (Got bytes)) (sweep ++ stuck size k found keys wanted largest fate spare)). ⊎_elim
              (λ (a : Among (Asked (Got bytes)) sweep). sweep_among (size + 1) (Asked (Got bytes)) sweep h a)
              (λ (b : Among (Asked (Got bytes)) (stuck size k found keys wanted largest fate spare)). absurd (⊎_elim (λ e. absurd (cc)) (λ c. ⊎_elim (λ e. absurd (cc)) (λ (d : Among (Asked (Got bytes)) (gift (chunk_size item) fate spare)). let e = gift_among (chunk_size item) fate spare (Asked (Got bytes)) d in absurd (cc)) c) b))
              (among_parts (Asked (Got bytes)) sweep (stuck size k found keys wanted largest fate spare) r)) x,
        );
        gifts = λ bytes accepted x. ⊎_elim (λ e. absurd (cc)) (λ (r : Among (Asked (Gave bytes accepted)) (sweep ++ stuck size k found keys wanted largest fate spare)). ⊎_elim
            (λ (a : Among (Asked (Gave bytes accepted)) sweep).
            let l = gave bytes accepted a in
            inr (l.0, l.1, among_back (Turn l.0 (Moves l.1) (Moved bytes)) es (slice_end fate spare size sweep k found keys wanted largest) (inr (among_front (Turn l.0 (Moves l.1) (Moved bytes)) sweep (stuck size k found keys wanted largest fate spare) l.2))))
            (λ (b : Among (Asked (Gave bytes accepted)) (stuck size k found keys wanted largest fate spare)). inl (⊎_elim (λ e. absurd (cc)) (λ c. ⊎_elim (λ e. absurd (cc)) (λ (d : Among (Asked (Gave bytes accepted)) (gift (chunk_size item) fate spare)). let e = gift_among (chunk_size item) fate spare (Asked (Gave bytes accepted)) d in let same : bytes ≡ chunk_size item = cc in same) c) b))
            (among_parts (Asked (Gave bytes accepted)) sweep (stuck size k found keys wanted largest fate spare) r)) x;
      }

  pub slice_refused : {held : Bool} (es : List (Event S C R)) (fate spare : Bool) (size : ℕ) (sweep : List (Event S C R)) (k found keys wanted largest : ℕ) → IsUnderway number item key call held spare es → fulls es + 1 ≤ 13 → AreSweeps (size + 1) sweep → GivesLeftOvers sweep → SlicesBalance sweep → asked sweep ≤ 127 → found < size + 1
      → IsRefusedWith number item key call held wanted largest (es ++ slice_end fate spare size sweep k found keys wanted largest)
  slice_refused es fate spare size sweep k found keys wanted largest x few h gave even asks small =
      let rest : List (Event S C R) = stuck size k found keys wanted largest fate spare in
      let tail : List (Event S C R) = slice_end fate spare size sweep k found keys wanted largest in
      let told : Event S C R = Turn number (Call key call spare) (HasToGrow size spare) in
      let look : Event S C R = Turn k Looks (HasSize found keys) in
      let missed : Event S C R = Asked (Missed (slice_size (size + 1)) wanted largest) in
      let front : List (Event S C R) = told ∷ (sweep ++ look ∷ []) in
      let quiet = sweeps_quiet (size + 1) sweep h in
      let g : OnlyGift S C R (chunk_size item) fate spare = only_gift S C R (chunk_size item) fate spare in
      let caused = caused_both number item key call es tail x.caused (slice_caused es fate spare size sweep k found keys wanted largest h gave) in
      let u = asked_append es tail in
      let w = fulls_append es tail in
      let u' = asked_append sweep rest in
      let w' = fulls_append sweep rest in
      record {
        before = es ++ front;
        after = gift (chunk_size item) fate spare;
        bytes = slice_size (size + 1);
        is = sym (append_assoc es front (missed ∷ gift (chunk_size item) fate spare) ∙ ap (λ (z : List (Event S C R)). es ++ told ∷ z) (append_assoc sweep (look ∷ []) (missed ∷ gift (chunk_size item) fate spare)));
        none = none_append es tail x.none (none_append sweep rest quiet.0 g.none);
        cause = inr (size, k, found, (spare, among_back told es front (inl refl)), refl, (keys, among_back look es front (inr (among_back look sweep (look ∷ []) (inl refl)))), omega arith);
        gifts_after = g.are;
        balance = λ bytes.
            let p = brought_append (chunk_size item) bytes es tail in
            let q = took_append (chunk_size item) bytes es tail in
            let p' = brought_append (chunk_size item) bytes sweep rest in
            let q' = took_append (chunk_size item) bytes sweep rest in
            let b = x.balance bytes in
            let s = even (chunk_size item) bytes in
            let v = g.took_is (chunk_size item) bytes in
            let t = g.brought_none (chunk_size item) bytes in
            omega arith;
        uses = λ is l. let lack : Event S C R = Turn number (Call key call false) LacksItem in ⊎_elim (λ (a : Among lack es). (x.uses is).1 a) (λ (b : Among lack tail). ⊎_elim (λ e. absurd (cc)) (λ (r : Among lack (sweep ++ rest)). ⊎_elim (λ (s : Among lack sweep). sweep_among (size + 1) lack sweep h s) (λ (t : Among lack rest). ⊎_elim (λ e. absurd (cc)) (λ c. ⊎_elim (λ e. absurd (cc)) (λ (d : Among lack (gift (chunk_size item) fate spare)). let e = gift_among (chunk_size item) fate spare lack d in absurd (cc)) c) t) (among_parts lack sweep rest r)) b) (among_parts lack es tail l);
        frugal = record {
          moves = caused.moves;
          grants = caused.grants;
          gifts = caused.gifts;
          asks = let b = x.asks in let t = one_at_most spare in let v = g.asked_none in let z = g.fulls_none in let y = quiet.1 in omega arith;
          rounds = let v = g.fulls_none in let y = quiet.1 in omega arith;
        };
      }

  module _ (step : Option S → C → Option S × R) (a : Area) (n : ℕ) (v : Sight S C R) where
    pub starts : (held : Bool) → 7 ≤ size_at v.seen number → Underway number item key call step a n held held v v
    starts held low = record { events = []; is = underway_none number item key call held; trace = refl; rounds = omega arith; grew = λ size k h. absurd h.1 }

    -- what has grown stays so, when later events tell of no other size at which the partition had to grow
    pub grew_on : (s s' : Histories (PartitionState S) (PartitionCalls C) (PartitionReplies S R)) (es fs : List (Event S C R)) → AllGrew number item key call es s → ((size : ℕ) → HadToGrow number item key call fs size → (k : ℕ) → k < 128 → size + 1 ≤ size_at s' k)
        → ((k : ℕ) → k < 128 → size_at s k ≤ size_at s' k) → AllGrew number item key call (es ++ fs) s'
    grew_on s s' es fs old new grows size k h low = ⊎_elim
        (λ (x : Among (Turn number (Call key call h.0) (HasToGrow size h.0)) es). let o = old size k (h.0, x) low in let g = grows k low in omega arith)
        (λ (y : Among (Turn number (Call key call h.0) (HasToGrow size h.0)) fs). new size (h.0, y) k low)
        (among_parts (Turn number (Call key call h.0) (HasToGrow size h.0)) es fs h.1)

    -- a round that got an item
    pub got_item : {held : Bool} (s m s' m' : Histories (PartitionState S) (PartitionCalls C) (PartitionReplies S R)) (p q : AreaPass) → Underway number item key call step a n held false v (sight s m p)
        → AtPartition step n s m s' m' number (Call key call false) LacksItem → number < 128 → ((k : ℕ) → k < 128 → size_at s k ≤ size_at s' k) → Requested a p q (Got item) → number_of q ≡ number_of p
        → Underway number item key call step a n held true v (sight s' m' q)
    got_item s m s' m' p q u turn low grows got same = record {
      events = u.events ++ item_round number item key call;
      is = underway_item number item key call u.events u.is;
      trace = trace_append step a n v (sight s m p) (sight s' m' q) u.events (item_round number item key call) u.trace (sight s' m' p, (turn, refl), (sight s' m' q, (got, same, refl, refl), refl));
      rounds = let r = u.rounds in let f = fulls_append u.events (item_round number item key call) in let g = grows number low in omega arith;
      grew = grew_on s s' u.events (item_round number item key call) u.grew (λ size h k few. absurd (⊎_elim (λ e. absurd (cc)) (λ r. ⊎_elim (λ e. absurd (cc)) (λ z. absurd z) r) h.1)) grows;
    }

    -- a round in which all partitions grew
    pub all_grew : {held : Bool} (s m s' m' s'' m'' : Histories (PartitionState S) (PartitionCalls C) (PartitionReplies S R)) (p q : AreaPass) (spare : Bool) (size : ℕ) → Underway number item key call step a n held spare v (sight s m p)
        → AtPartition step n s m s' m' number (Call key call spare) (HasToGrow size spare) → number < 128 → size_at s number ≤ size → (w : Swept step a n (size + 1) 128 (sight s' m' p) (sight s'' m'' q))
        → ((k : ℕ) → k < 128 → size + 1 ≤ size_at s'' k) → ((k : ℕ) → k < 128 → size_at s k ≤ size_at s'' k) → Underway number item key call step a n held spare v (sight s'' m'' q)
    all_grew s m s' m' s'' m'' p q spare size u turn here low w large grows = record {
      events = u.events ++ growth number item key call spare size w.events;
      is = underway_growth number item key call u.events spare size w.events u.is w.sweeps w.gifts w.balance w.few;
      trace = trace_append step a n v (sight s m p) (sight s'' m'' q) u.events (growth number item key call spare size w.events) u.trace (sight s' m' p, (turn, refl), w.trace);
      rounds = let r = u.rounds in let f = fulls_append u.events (growth number item key call spare size w.events) in let z = (sweeps_quiet (size + 1) w.events w.sweeps).1 in let high = large number here in omega arith;
      grew = grew_on s s'' u.events (growth number item key call spare size w.events) u.grew
          (λ other h k few. ⊎_elim
          (λ (e : Turn number (Call key call h.0) (HasToGrow other h.0) ≡ Turn number (Call key call spare) (HasToGrow size spare)). let same : other ≡ size = cc in let big = large k few in omega arith)
          (λ (r : Among (Turn number (Call key call h.0) (HasToGrow other h.0)) w.events). absurd (sweep_among (size + 1) (Turn number (Call key call h.0) (HasToGrow other h.0)) w.events w.sweeps r))
          h.1)
          grows;
    }
