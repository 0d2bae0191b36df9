-- A call of the table, turn by turn: each turn and what was asked of the area after it lead on, or end the call.
use Rattle.std.proofs.Common.{◌≡◌, ℕ, ◌+◌, ◌<◌, ◌≤◌, ⊎_elim, Bool, true, false, ◌&&◌, ◌||◌, List, [], ◌∷◌, ◌++◌, Option, refl, sym, ap, subst, ◌∙◌, arith, append_assoc}
use Rattle.dsa_area.specs.Sizes.{chunk_size}
use Rattle.dsa_area.specs.declared.area.Area.{Area}
use Rattle.dshash_core.specs.Chains.{Among}
use Rattle.dsa_area.specs.declared.area.AreaPass.{AreaPass}
use Rattle.dsa_area.specs.Shown.{number_of}
use Rattle.lock_book.specs.Told.{Histories}
use Rattle.dshash_parts.specs.States.{PartitionState}
use Rattle.dshash_parts.specs.Tables.{AtPartition, size_at}
use Rattle.dshash_parts.specs.declared.histories.PartitionCalls.{PartitionCalls}
use Rattle.dshash_parts.specs.declared.histories.PartitionCalls.TheVariants.{Call, Looks}
use Rattle.dshash_parts.specs.declared.histories.PartitionReplies.{PartitionReplies}
use Rattle.dshash_parts.specs.declared.histories.PartitionReplies.TheVariants.{Made, LacksItem, HasToGrow, Crowded, HasSize}
use Rattle.dshash_parts.specs.Traces.{Event, Turn, Asked, Requested, Got, Missed, Sight, sight, Trace, fulls}
use Rattle.dshash_parts.specs.Promises.{AllGrew, IsMadeWith, IsRefusedWith, IsLastCall, KeepsItem, slice_size}
use Rattle.dshash_parts.specs.Sweeps.{Swept, SweptAndGave, GaveBack}
use Rattle.dshash_parts.specs.Rounds.{Underway}
use Rattle.dshash_parts.specs.Within.{IsCrowdedOut}
use Rattle.dshash_parts.proofs.Sizes.{turn_legal, grow_tells}
use Rattle.dshash_parts.proofs.Sweeps.{trace_append}
use Rattle.dshash_parts.proofs.Rounds.{fate_of, gift, gift_among, grew_on, gift_trace, made_end, made_gave, call_crowded, call_made, crowded_end, item_end, item_refused, slice_end, stuck, slice_refused, got_item, all_grew}

first_holds : (b c : Bool) → (b && c) ≡ true → b ≡ true
first_holds true c h = refl
first_holds false c h = absurd (cc)

same_sight : {S C R : Type 0} (v w : Sight S C R) → w.seen ≡ v.seen → w.mine ≡ v.mine → w.area ≡ v.area → w ≡ v
same_sight v w s m p = ap (λ z. sight z w.mine w.area) s ∙ (ap (λ z. sight v.seen z w.area) m ∙ ap (λ z. sight v.seen v.mine z) p)

-- a gift to the area, or none, between any two sights
gift_between : {S C R : Type 0} (step : Option S → C → Option S × R) (a : Area) (n : ℕ) (v w : Sight S C R) (bytes : ℕ) (b : Bool) (g : GaveBack a v.area w.area bytes b) → number_of w.area ≡ number_of v.area → w.seen ≡ v.seen → w.mine ≡ v.mine → Trace step a n v w (gift bytes (fate_of a v.area w.area bytes b g) b)
gift_between step a n v w bytes true g same s m = (w, (g.1, same, s, m), refl)
gift_between step a n v w bytes false g same s m = same_sight v w s m g

module _ {S C R : Type 0} (number item : ℕ) (key : List ℕ) (call : C) (step : Option S → C → Option S × R) (a : Area) (n : ℕ) (v : Sight S C R) where
  -- a turn of the caller at the key's partition
  here : (at who : ℕ) (s m s' m' : Histories (PartitionState S) (PartitionCalls C) (PartitionReplies S R)) (c : PartitionCalls C) (r : PartitionReplies S R) → at ≡ number → who ≡ n → AtPartition step who s m s' m' at c r
      → AtPartition step n s m s' m' number c r
  here at who s m s' m' c r e w x = subst (λ (z : ℕ). AtPartition step z s m s' m' number c r) w (subst (λ (z : ℕ). AtPartition step who s m s' m' z c r) e x)

  -- a call was made, and then the spare item was given back, where there was one
  pub gave_spare : {held : Bool} (s m : Histories (PartitionState S) (PartitionCalls C) (PartitionReplies S R)) (p q : AreaPass) (kept : Bool) (reply : R)
      → (es : List (Event S C R)) × IsMadeWith number item key call held kept reply es × Trace step a n v (sight s m p) es × AllGrew number item key call es s
      → GaveBack a p q (chunk_size item) kept → number_of q ≡ number_of p
      → (es : List (Event S C R)) × IsMadeWith number item key call held false reply es × Trace step a n v (sight s m q) es × AllGrew number item key call es s
  gave_spare s m p q kept reply x gave same =
      let fate : Bool = fate_of a p q (chunk_size item) kept gave in
      let tail : List (Event S C R) = gift (chunk_size item) fate kept in (
        x.0 ++ tail,
        made_gave number item key call kept fate reply x.0 x.1,
        trace_append step a n v (sight s m p) (sight s m q) x.0 tail x.2 (gift_trace step a n s m p q (chunk_size item) kept gave same),
        grew_on number item key call step a n v s s x.0 tail x.3 (λ size h k few. let e = gift_among (chunk_size item) fate kept (Turn number (Call key call h.0) (HasToGrow size h.0)) h.1 in absurd (cc)) (λ k few. omega arith),
      )

  module _ (at who : ℕ) (s m s' m' : Histories (PartitionState S) (PartitionCalls C) (PartitionReplies S R)) (spare : Bool) (same_at : at ≡ number) (same_who : who ≡ n) where
    -- the call was made; of the item that it did not use and the one that it freed one is kept, and the other went back
    pub made : {held : Bool} (p q : AreaPass) (reply : R) (unused freed kept : Bool) → kept ≡ (unused || freed) → Underway number item key call step a n held spare v (sight s m p) → size_at s number ≤ 20
        → AtPartition step who s m s' m' at (Call key call spare) (Made reply unused freed) → GaveBack a p q (chunk_size item) (unused && freed) → number_of q ≡ number_of p
        → ((k : ℕ) → k < 128 → size_at s k ≤ size_at s' k)
        → (es : List (Event S C R)) × IsMadeWith number item key call held kept reply es × Trace step a n v (sight s' m' q) es × AllGrew number item key call es s'
    made {held} p q reply unused freed kept is_kept x low turn gave same grows =
        let t = here at who s m s' m' (Call key call spare) (Made reply unused freed) same_at same_who turn in
        let l = turn_legal step n s m s' m' number (Call key call spare) (Made reply unused freed) t in
        let brought : unused ≡ true → spare ≡ true = λ h. first_holds spare _ (sym l.1.is.1.unused_is ∙ h) in
        let begun : fulls x.events + 7 ≤ size_at s number = x.rounds in
        let rounds : fulls x.events ≤ 13 = omega arith in
        let fate : Bool = fate_of a p q (chunk_size item) (unused && freed) gave in
        let tail : List (Event S C R) = made_end number item key call spare reply unused freed fate in (
          x.events ++ tail,
          subst (λ (z : Bool). IsMadeWith number item key call held z reply (x.events ++ tail)) (sym is_kept) (call_made number item key call x.events spare reply unused freed fate x.is rounds brought),
          trace_append step a n v (sight s m p) (sight s' m' q) x.events tail x.trace (sight s' m' p, (t, refl), gift_trace step a n s' m' p q (chunk_size item) (unused && freed) gave same),
          grew_on number item key call step a n v s s' x.events tail x.grew
              (λ size h k few. absurd (⊎_elim (λ e. absurd (cc)) (λ (r : Among (Turn number (Call key call h.0) (HasToGrow size h.0)) (gift (chunk_size item) fate (unused && freed))). let e = gift_among (chunk_size item) fate (unused && freed) (Turn number (Call key call h.0) (HasToGrow size h.0)) r in absurd (cc)) h.1))
              grows,
        )

    -- then it is the last entry of its partition's history
    pub last : (reply : R) (unused freed : Bool) → AtPartition step who s m s' m' at (Call key call spare) (Made reply unused freed) → IsLastCall n key call reply (s' number)
    last reply unused freed turn =
        let x = (here at who s m s' m' (Call key call spare) (Made reply unused freed) same_at same_who turn).here in
        record { before = x.2.before; after = x.2.after; spare = spare; unused = unused; freed = freed; ends = x.3.0 ∙ x.2.ends }

    -- and an item is kept of the unused one and the one that came out
    pub keeps : (reply : R) (unused freed kept : Bool) → kept ≡ (unused || freed) → AtPartition step who s m s' m' at (Call key call spare) (Made reply unused freed) → KeepsItem n key call reply kept (s' number)
    keeps reply unused freed kept one turn =
        let x = (here at who s m s' m' (Call key call spare) (Made reply unused freed) same_at same_who turn).here in
        record { before = x.2.before; after = x.2.after; spare = spare; unused = unused; freed = freed; ends = x.3.0 ∙ x.2.ends; keeps = one }

    -- its chain was too long, and the spare item went back, if there was one
    pub crowded : (p q : AreaPass) (seed longest : ℕ) (back : Bool) → back ≡ spare → Underway number item key call step a n false spare v (sight s m p) → size_at s number ≤ 20
        → AtPartition step who s m s' m' at (Call key call spare) (Crowded seed longest back) → GaveBack a p q (chunk_size item) back → number_of q ≡ number_of p
        → (es : List (Event S C R)) × IsCrowdedOut number item key call seed longest es × Trace step a n v (sight s' m' q) es
    crowded p q seed longest back same x low turn gave same_caller =
        let t = here at who s m s' m' (Call key call spare) (Crowded seed longest spare) same_at same_who (subst (λ (z : Bool). AtPartition step who s m s' m' at (Call key call spare) (Crowded seed longest z)) same turn) in
        let given : GaveBack a p q (chunk_size item) spare = subst (λ (z : Bool). GaveBack a p q (chunk_size item) z) same gave in
        let begun : fulls x.events + 7 ≤ size_at s number = x.rounds in
        let rounds : fulls x.events ≤ 13 = omega arith in
        let fate : Bool = fate_of a p q (chunk_size item) spare given in
        let tail : List (Event S C R) = crowded_end number item key call spare seed longest fate in (
          x.events ++ tail,
          call_crowded number item key call x.events spare seed longest fate x.is rounds,
          trace_append step a n v (sight s m p) (sight s' m' q) x.events tail x.trace (sight s' m' p, (t, refl), gift_trace step a n s' m' p q (chunk_size item) spare given same_caller),
        )

    -- the call lacks an item, so it came with none
    bare : AtPartition step who s m s' m' at (Call key call spare) LacksItem → (spare ≡ false) × AtPartition step n s m s' m' number (Call key call false) LacksItem
    bare turn =
        let t = here at who s m s' m' (Call key call spare) LacksItem same_at same_who turn in
        let none : spare ≡ false = (turn_legal step n s m s' m' number (Call key call spare) LacksItem t).1.is.1.bare in
        (none, subst (λ (z : Bool). AtPartition step n s m s' m' number (Call key call z) LacksItem) none t)

    -- an item was lacked, and there was none
    pub no_item : {held : Bool} (p q : AreaPass) (wanted largest : ℕ) → Underway number item key call step a n held spare v (sight s m p) → size_at s number ≤ 20
        → AtPartition step who s m s' m' at (Call key call spare) LacksItem → Requested a p q (Missed item wanted largest) → number_of q ≡ number_of p
        → (es : List (Event S C R)) × IsRefusedWith number item key call held wanted largest es × Trace step a n v (sight s' m' q) es
    no_item {held} p q wanted largest x low turn missed same =
        let b = bare turn in
        let y : Underway number item key call step a n held false v (sight s m p) = subst (λ (z : Bool). Underway number item key call step a n held z v (sight s m p)) b.0 x in
        let begun : fulls y.events + 7 ≤ size_at s number = y.rounds in
        let rounds : fulls y.events ≤ 13 = omega arith in
        let tail : List (Event S C R) = item_end number item key call wanted largest in (
          y.events ++ tail,
          item_refused number item key call y.events wanted largest y.is rounds,
          trace_append step a n v (sight s m p) (sight s' m' q) y.events tail y.trace (sight s' m' p, (b.1, refl), (sight s' m' q, (missed, same, refl, refl), refl)),
        )

    -- an item was lacked, and came
    pub item_came : {held : Bool} (p q : AreaPass) → Underway number item key call step a n held spare v (sight s m p) → number < 128 → ((k : ℕ) → k < 128 → size_at s k ≤ size_at s' k)
        → AtPartition step who s m s' m' at (Call key call spare) LacksItem → Requested a p q (Got item) → number_of q ≡ number_of p → Underway number item key call step a n held true v (sight s' m' q)
    item_came {held} p q x low grows turn got same =
        let b = bare turn in
        let y : Underway number item key call step a n held false v (sight s m p) = subst (λ (z : Bool). Underway number item key call step a n held z v (sight s m p)) b.0 x in
        got_item number item key call step a n v s m s' m' p q y b.1 low grows got same

    module _ (size : ℕ) (back : Bool) (turn : AtPartition step who s m s' m' at (Call key call spare) (HasToGrow size back)) (grows : size_at s number ≤ size_at s' number) where
      -- the partition has to grow, and hands the spare back
      hands_back : (back ≡ spare) × AtPartition step n s m s' m' number (Call key call spare) (HasToGrow size spare)
      hands_back =
          let t = here at who s m s' m' (Call key call spare) (HasToGrow size back) same_at same_who turn in
          let same : back ≡ spare = (turn_legal step n s m s' m' number (Call key call spare) (HasToGrow size back) t).1.is.1.back_is in
          (same, subst (λ (z : Bool). AtPartition step n s m s' m' number (Call key call spare) (HasToGrow size z)) same t)

      -- its size is the one that it tells
      pub full_size : (size_at s' number ≡ size) × (7 ≤ size) × (size < 20)
      full_size = grow_tells step n s m s' m' number key call spare spare size hands_back.1

      -- it had to grow, and all partitions did
      pub all_came : {held : Bool} (third : ℕ) (s'' m'' : Histories (PartitionState S) (PartitionCalls C) (PartitionReplies S R)) (p q : AreaPass) (next : Bool) → next ≡ back → third ≡ n → Underway number item key call step a n held spare v (sight s m p)
          → Swept step a third (size + 1) 128 (sight s' m' p) (sight s'' m'' q) → number < 128 → ((k : ℕ) → k < 128 → size + 1 ≤ size_at s'' k) → ((k : ℕ) → k < 128 → size_at s k ≤ size_at s'' k) → Underway number item key call step a n held next v (sight s'' m'' q)
      all_came {held} third s'' m'' p q next kept same x swept here large rises =
          let told : size_at s' number ≡ size = full_size.0 in
          let low : size_at s number ≤ size = omega arith in
          let w : Swept step a n (size + 1) 128 (sight s' m' p) (sight s'' m'' q) = subst (λ (z : ℕ). Swept step a z (size + 1) 128 (sight s' m' p) (sight s'' m'' q)) same swept in
          subst (λ (z : Bool). Underway number item key call step a n held z v (sight s'' m'' q)) (sym (kept ∙ hands_back.0)) (all_grew number item key call step a n v s m s' m' s'' m'' p q spare size x hands_back.1 here low w large rises)

      -- it had to grow, and there was no slice for some partition
      pub no_slice : {held : Bool} (third wanted largest : ℕ) (p : AreaPass) (w : Sight S C R) (sent : Bool) → sent ≡ back → third ≡ n → Underway number item key call step a n held spare v (sight s m p)
          → SweptAndGave step a third (size + 1) wanted largest (chunk_size item) sent (sight s' m' p) w → (es : List (Event S C R)) × IsRefusedWith number item key call held wanted largest es × Trace step a n v w es
      no_slice third wanted largest p w sent kept same x swept =
          let told : size_at s' number ≡ size = full_size.0 in
          let small : size < 20 = full_size.2 in
          let begun : fulls x.events + 7 ≤ size_at s number = x.rounds in
          let few : fulls x.events + 1 ≤ 13 = omega arith in
          let g : SweptAndGave step a n (size + 1) wanted largest (chunk_size item) spare (sight s' m' p) w = subst (λ (z : Bool). SweptAndGave step a n (size + 1) wanted largest (chunk_size item) z (sight s' m' p) w) (kept ∙ hands_back.0) (subst (λ (z : ℕ). SweptAndGave step a z (size + 1) wanted largest (chunk_size item) sent (sight s' m' p) w) same swept) in
          let f = g.until in
          let fate : Bool = fate_of a g.between.area w.area (chunk_size item) spare g.gave in
          let look : List (Event S C R) = Turn f.number Looks (HasSize f.found f.keys) ∷ Asked (Missed (slice_size (size + 1)) wanted largest) ∷ [] in
          let tail : List (Event S C R) = slice_end number item key call fate spare size f.events f.number f.found f.keys wanted largest in
          let rest : Trace step a n (sight s' m' p) w (f.events ++ stuck number item key call size f.number f.found f.keys wanted largest fate spare) =
          subst (λ (z : List (Event S C R)). Trace step a n (sight s' m' p) w z) (append_assoc f.events look (gift (chunk_size item) fate spare))
          (trace_append step a n (sight s' m' p) g.between w (f.events ++ look) (gift (chunk_size item) fate spare) f.trace (gift_between step a n g.between w (chunk_size item) spare g.gave g.caller g.same_seen g.same_mine)) in (
            x.events ++ tail,
            slice_refused number item key call x.events fate spare size f.events f.number f.found f.keys wanted largest x.is few f.sweeps f.gifts f.balance f.few f.small,
            trace_append step a n v (sight s m p) w x.events tail x.trace (sight s' m' p, (hands_back.1, refl), rest),
          )
