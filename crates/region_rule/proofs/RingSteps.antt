-- What a table asks of the steps of the ends of a ring.
use Rattle.std.proofs.Common.{◌≡◌, ◌≢◌, ◌⊎◌, ℕ, zero, suc, ◌+◌, ◌<◌, ◌≤◌, Bool, true, false, ◌==◌, cond, [], ◌∷◌, ◌++◌, length, Option, Some, None, IfSome, refl, sym, ap, subst, ◌∙◌, arith, eq-eqb, ne_eqb, ⊎_elim, mod-lt}
use mathlib.Core.Option.{some-injective}
use mathlib.Core.Logic.{dite, inl, inr}
use native.Mathlib.Decide.{ℕ_discrete}
use Rattle.atomic_table.specs.Table.{Allows, Splits, Joins}
use Rattle.word_map.specs.WordMap.{WordMap, Has, at}
use Rattle.word_map.proofs.Maps.{just_has}
use Rattle.word_map.proofs.Uses.{has_some}
use Rattle.ring_rule.specs.Frames.{IsFramed}
use Rattle.ring_rule.specs.Ring.{cell_of, Ring, IsRing, Sending, Receiving, WasSending, WasReceiving, place_of, count_word, flag_word}
use Rattle.ring_rule.specs.Ends.{IsReadCount, IsWrittenCount, looks_read, puts, publishes, sender_leaves, sender_sees_flag, looks_written, looks_last, sees_written, takes, gives_back, receiver_leaves, receiver_sees_flag}
use Rattle.ring_rule.proofs.Counts.{read_count, written_count, some_cells}
use Rattle.ring_rule.proofs.Sends.{sender_finds}
use Rattle.ring_rule.proofs.Messages.{framed_front}
use Rattle.ring_rule.proofs.Receives.{receiver_finds, next_is, takes_paired}
use Rattle.region_rule.specs.RingMap.{IsFresh, ring_map}
use Rattle.region_rule.specs.View.{Own, Sender, Receiver, Done, Spent, Olds}
use Rattle.region_rule.specs.Sound.{World, Sees, Sound}
use Rattle.region_rule.specs.Steps.{Event, Happens, Finds, MakeRing, LoadRead, StoreData, StoreWritten, LoadWritten, LoadData, StoreRead, StoreSenderFlag, StoreReceiverFlag, LoadSenderFlag, LoadReceiverFlag, LoadWrittenLast, JoinEnds, LoadDone, EndDone, PartAgain, seen_anew}
use Rattle.region_rule.specs.Places.{idle, copying, taking, Ruled, IsCell, IsCount}
use Rattle.region_rule.specs.Tells.{sender_view, receiver_view, done_view, sender_again, receiver_again, TellsLookRead, TellsPut, TellsPublish, TellsLookWritten, TellsTake, TellsGiveBack, TellsLeave, TellsFlag, TellsDone, TellsCount, TellsEnd}
use Rattle.region_rule.proofs.Allows.{Under, load_back_allows, store_back_allows, load_allows, look_allows, store_allows, count_allows, split_allows, join_allows}
use Rattle.region_rule.proofs.Meets.{in_ring}
use Rattle.region_rule.proofs.OwnerSteps.{own_value}
use Rattle.region_rule.proofs.Partners.{receiver_of, sender_of}

fresh_cells : (m : WordMap) (r : Ring) → IsFresh m r → (q : ℕ) → IsCell r q → Has m q
fresh_cells m r fresh q c = let a = c.0 in let b = c.1 in has_some m q (just_has m r.base (r.size + 3) q fresh.just (omega arith) (omega arith))

-- an owner of just a ring, which has copied its counts and its flag, makes the two ends
pub make_ring_allowed : (count id : ℕ) (r : Ring) (m : WordMap) (o : Olds) → IsFresh m r → Splits (Ruled count) id (copying (Own m o) r.base 3) (idle (sender_view r (Own m o))) (idle (receiver_view r (Own m o)))
make_ring_allowed count id r m o fresh = split_allows count id (Own m o) r.base 3 (sender_view r (Own m o)) (receiver_view r (Own m o))
    (λ w sound here. (
      MakeRing id r,
      (m, o, here, fresh, refl),
      (λ q c. inl (fresh_cells m r fresh q c), λ q c. inr (tt, c.0, c.1)),
      (λ q c. inl (fresh_cells m r fresh q c), λ q c. inr (tt, c.0, c.1)),
    ))

-- the cell of a word is one of the ring
pub next_is_cell : (r : Ring) (n : ℕ) → IsRing r → IsCell r (place_of r n)
next_is_cell r n ring = let below : cell_of r n < r.size = mod-lt (r.start + n) (some_cells r ring) in (omega arith, omega arith)

-- the steps of the sender
told_returned : (t : Option Receiving) (q : Receiving) → IfSome t (λ old. WasReceiving old q) → IfSome t (λ old. old.returned ≤ q.returned)
told_returned (Some old) q h = h.returned
told_returned None q h = tt

pub look_read_allowed : (count slots id : ℕ) (s : Sending) (t : Option Receiving) → s.gone ≡ false → s.ring.base + 1 < count
    → Allows (Ruled count) slots id (idle (Sender s t), []) (s.ring.base + 1) (λ n. n) (λ n after. TellsLookRead (Sender s t) n after.0.view × (after ≡ (idle after.0.view, [])))
look_read_allowed count slots id s t stays inside = load_allows count slots id (s.ring.base + 1) (Sender s t) (TellsLookRead (Sender s t)) (omega arith, omega arith) inside
    (λ w x sound here found.
    let o = receiver_of w id s t sound here in
    let n : ℕ = o.end.returned in
    let c = read_count w.words s t o.end o.told (sound.honest id (Sender s t) here) o.receiving o.paired in
    let is : x ≡ count_word s.ring n = some-injective x (count_word s.ring n) (sym found ∙ c.0) in
    let count_is : IsReadCount s x n = record { word = is; below = c.1.below; near = c.1.near } in
    (Sender (looks_read s n) t, LoadRead id x, (s, t, n, here, stays, found, count_is, refl), (λ q c. c, λ q c. c), (n, refl, count_is, o.paired.tied.room, told_returned t o.end o.paired.told_sender)))

pub put_allowed : (count slots id i x y : ℕ) (s : Sending) (t : Option Receiving) → IsRing s.ring → s.gone ≡ false → length s.put < s.room + s.ring.size → IsFramed s.ring.max (s.put ++ y ∷ []) → y < 18446744073709551616
    → place_of s.ring (length s.put) < count → slots ≡ count
    → Allows (Ruled count) slots id (taking (Sender s t) (place_of s.ring (length s.put)) x 0 0, (place_of s.ring (length s.put), y) ∷ []) i (λ n. n) (λ n after. TellsPut (Sender s t) y after.0.view × (after ≡ (idle after.0.view, [])))
put_allowed count slots id i x y s t ring stays room framed small inside even = store_back_allows count slots id i (place_of s.ring (length s.put)) x y (Sender s t) (TellsPut (Sender s t) y) (next_is_cell s.ring (length s.put) ring) inside even
    (λ w sound here. (Sender (puts s y) t, StoreData id y, (s, t, here, stays, room, framed, small, refl), (λ q c. c, λ q c. c), refl))

pub publish_allowed : (count slots id : ℕ) (s : Sending) (t : Option Receiving) → s.gone ≡ false → s.ring.base < count
    → Allows (Ruled count) slots id (idle (Sender s t), []) s.ring.base (λ _. count_word s.ring (length s.put)) (λ _ after. TellsPublish (Sender s t) after.0.view × (after ≡ (idle after.0.view, [])))
publish_allowed count slots id s t stays inside = store_allows count slots id s.ring.base (count_word s.ring (length s.put)) (Sender s t) (TellsPublish (Sender s t)) (omega arith, omega arith) inside
    (λ w sound here. (Sender (publishes s) t, StoreWritten id, (s, t, here, stays, refl), (λ q c. c, λ q c. c), refl))

pub sender_leaves_allowed : (count slots id : ℕ) (s : Sending) (t : Option Receiving) → s.gone ≡ false → s.ring.base + 2 < count
    → Allows (Ruled count) slots id (idle (Sender s t), []) (s.ring.base + 2) (λ _. 1) (λ _ after. TellsLeave (Sender s t) after.0.view × (after ≡ (idle after.0.view, [])))
sender_leaves_allowed count slots id s t stays inside = store_allows count slots id (s.ring.base + 2) 1 (Sender s t) (TellsLeave (Sender s t)) (omega arith, omega arith) inside
    (λ w sound here. (Sender (sender_leaves s) t, StoreSenderFlag id, (s, t, here, stays, refl), (λ q c. c, λ q c. c), refl))

flag_small : (b : Bool) → flag_word b ≤ 1
flag_small true = omega arith
flag_small false = omega arith

told_gone : (t : Option Receiving) (q : Receiving) (x : ℕ) → x ≡ flag_word q.gone → IfSome t (λ old. WasReceiving old q) → IfSome t (λ old. old.gone ≡ true → x ≡ 1)
told_gone (Some old) q x e h = λ g. e ∙ ap flag_word (h.gone g)
told_gone None q x e h = tt

pub sender_flag_allowed : (count slots id : ℕ) (s : Sending) (t : Option Receiving) → s.gone ≡ false → s.ring.base + 2 < count
    → Allows (Ruled count) slots id (idle (Sender s t), []) (s.ring.base + 2) (λ n. n) (λ n after. TellsFlag (Sender s t) n after.0.view × (after ≡ (idle after.0.view, [])))
sender_flag_allowed count slots id s t stays inside = load_allows count slots id (s.ring.base + 2) (Sender s t) (TellsFlag (Sender s t)) (omega arith, omega arith) inside
    (λ w x sound here found.
    let o = receiver_of w id s t sound here in
    let is = sender_finds w.words s t o.end o.told x stays o.paired found in
    (Sender (sender_sees_flag s x) t, LoadSenderFlag id x, (s, t, here, stays, found, refl), (λ q c. c, λ q c. c), (refl, subst (λ (z : ℕ). z ≤ 1) (sym is) (flag_small o.end.gone), told_gone t o.end x is o.paired.told_sender, λ set. is ∙ ap flag_word (o.paired.tied.sender_flag set))))

-- the steps of the receiver
told_published : (u : Option Sending) (s : Sending) → IfSome u (λ old. WasSending old s) → IfSome u (λ old. old.published ≤ s.published)
told_published (Some old) s h = h.published
told_published None s h = tt

-- one load of the written count is of the one kind or the other, by the last note of the flag
written_event : (w : World) (id x n : ℕ) (q : Receiving) (u : Option Sending) → q.gone ≡ false → Sees w id (Receiver q u) → Finds w q.ring.base x → IsWrittenCount q x n
    → (e : Event) × Happens e w (seen_anew w id (Receiver (sees_written q n) u))
written_event w id x n q u stays here found count = dite (ℕ_discrete q.flag_value 1)
    (λ (one : q.flag_value ≡ 1). (LoadWrittenLast id x, (q, u, n, here, stays, one, found, count, ap (λ b. seen_anew w id (Receiver (cond b (looks_last q n) (looks_written q n)) u)) (eq-eqb q.flag_value 1 one))))
    (λ (other : q.flag_value ≢ 1). (LoadWritten id x, (q, u, n, here, stays, other, found, count, ap (λ b. seen_anew w id (Receiver (cond b (looks_last q n) (looks_written q n)) u)) (ne_eqb q.flag_value 1 other))))

-- the ring stays, whichever note the receiver keeps
seen_under : (q : Receiving) (n : ℕ) (u : Option Sending) → Under (Receiver (sees_written q n) u) (Receiver q u)
seen_under q n u = go (q.flag_value == 1)
  where
    go : (b : Bool) → Under (Receiver (cond b (looks_last q n) (looks_written q n)) u) (Receiver q u)
    go true = (λ q c. c, λ q c. c)
    go false = (λ q c. c, λ q c. c)

pub look_written_allowed : (count slots id : ℕ) (q : Receiving) (u : Option Sending) → q.gone ≡ false → q.ring.base < count
    → Allows (Ruled count) slots id (idle (Receiver q u), []) q.ring.base (λ n. n) (λ n after. TellsLookWritten (Receiver q u) n after.0.view × (after ≡ (idle after.0.view, [])))
look_written_allowed count slots id q u stays inside = load_allows count slots id q.ring.base (Receiver q u) (TellsLookWritten (Receiver q u)) (omega arith, omega arith) inside
    (λ w x sound here found.
    let o = sender_of w id q u sound here in
    let n : ℕ = o.end.published in
    let c = written_count w.words o.end o.told q u o.sending (sound.honest id (Receiver q u) here) o.paired in
    let is : x ≡ count_word q.ring n = some-injective x (count_word q.ring n) (sym found ∙ c.0) in
    let count_is : IsWrittenCount q x n = record { word = is; above = c.1.above; near = c.1.near } in
    let e = written_event w id x n q u stays here found count_is in
    (Receiver (sees_written q n) u, e.0, e.1, seen_under q n u, (n, refl, count_is, o.paired.tied.avail, told_published u o.end o.paired.told_receiver)))

-- a load of the next word's cell is one, and what is taken is framed
pub take_event : (w : World) (id x : ℕ) (q : Receiving) (u : Option Sending) → q.gone ≡ false → length q.taken < q.avail → Sound w → Sees w id (Receiver q u) → Finds w (place_of q.ring (length q.taken)) x
    → Happens (LoadData id x) w (seen_anew w id (Receiver (takes q x) u)) × IsFramed q.ring.max (q.taken ++ x ∷ [])
take_event w id x q u stays more sound here found =
    let o = sender_of w id q u sound here in
    let next = next_is w.words o.end o.told q u x o.sending (sound.honest id (Receiver q u) here).own o.paired more found in
    let front = (takes_paired w.words o.end o.told q u x next o.paired).tied.taken in
    let framed = framed_front o.end.ring.max o.end.put (q.taken ++ x ∷ []) front.0 o.sending.own.framed front.1 in
    ((q, u, here, stays, more, found, refl), subst (λ (r : Ring). IsFramed r.max (q.taken ++ x ∷ [])) o.paired.tied.same framed)

pub take_allowed : (count slots id i x : ℕ) (q : Receiving) (u : Option Sending) → IsRing q.ring → q.gone ≡ false → length q.taken < q.avail → place_of q.ring (length q.taken) < count → slots ≡ count
    → Allows (Ruled count) slots id (taking (Receiver q u) (place_of q.ring (length q.taken)) x 0 0, (place_of q.ring (length q.taken), x) ∷ []) i (λ n. n) (λ n after. TellsTake (Receiver q u) x after.0.view × (after ≡ (idle after.0.view, [])))
take_allowed count slots id i x q u ring stays more inside even = load_back_allows count slots id i (place_of q.ring (length q.taken)) x (Receiver q u) (TellsTake (Receiver q u) x) (next_is_cell q.ring (length q.taken) ring) inside even
    (λ w sound here found. let e = take_event w id x q u stays more sound here found in (Receiver (takes q x) u, LoadData id x, e.0, (λ q c. c, λ q c. c), (refl, e.1)))

pub give_back_allowed : (count slots id : ℕ) (q : Receiving) (u : Option Sending) → q.gone ≡ false → q.ring.base + 1 < count
    → Allows (Ruled count) slots id (idle (Receiver q u), []) (q.ring.base + 1) (λ _. count_word q.ring (length q.taken)) (λ _ after. TellsGiveBack (Receiver q u) after.0.view × (after ≡ (idle after.0.view, [])))
give_back_allowed count slots id q u stays inside = store_allows count slots id (q.ring.base + 1) (count_word q.ring (length q.taken)) (Receiver q u) (TellsGiveBack (Receiver q u)) (omega arith, omega arith) inside
    (λ w sound here. (Receiver (gives_back q) u, StoreRead id, (q, u, here, stays, refl), (λ q c. c, λ q c. c), refl))

pub receiver_leaves_allowed : (count slots id : ℕ) (q : Receiving) (u : Option Sending) → q.gone ≡ false → q.ring.base + 2 < count
    → Allows (Ruled count) slots id (idle (Receiver q u), []) (q.ring.base + 2) (λ _. 1) (λ _ after. TellsLeave (Receiver q u) after.0.view × (after ≡ (idle after.0.view, [])))
receiver_leaves_allowed count slots id q u stays inside = store_allows count slots id (q.ring.base + 2) 1 (Receiver q u) (TellsLeave (Receiver q u)) (omega arith, omega arith) inside
    (λ w sound here. (Receiver (receiver_leaves q) u, StoreReceiverFlag id, (q, u, here, stays, refl), (λ q c. c, λ q c. c), refl))

told_left : (u : Option Sending) (s : Sending) (x : ℕ) → x ≡ flag_word s.gone → IfSome u (λ old. WasSending old s) → IfSome u (λ old. old.gone ≡ true → x ≡ 1)
told_left (Some old) s x e h = λ g. e ∙ ap flag_word (h.gone g)
told_left None s x e h = tt

pub receiver_flag_allowed : (count slots id : ℕ) (q : Receiving) (u : Option Sending) → q.gone ≡ false → q.ring.base + 2 < count
    → Allows (Ruled count) slots id (idle (Receiver q u), []) (q.ring.base + 2) (λ n. n) (λ n after. TellsFlag (Receiver q u) n after.0.view × (after ≡ (idle after.0.view, [])))
receiver_flag_allowed count slots id q u stays inside = load_allows count slots id (q.ring.base + 2) (Receiver q u) (TellsFlag (Receiver q u)) (omega arith, omega arith) inside
    (λ w x sound here found.
    let o = sender_of w id q u sound here in
    let is = receiver_finds w.words o.end o.told q u x stays o.paired found in
    (Receiver (receiver_sees_flag q x) u, LoadReceiverFlag id x, (q, u, here, stays, found, refl), (λ q c. c, λ q c. c), (refl, subst (λ (z : ℕ). z ≤ 1) (sym is) (flag_small o.end.gone), told_left u o.end x is o.paired.told_receiver, λ set. is ∙ ap flag_word (o.paired.tied.receiver_flag set))))

-- what the two do together
pub join_ends_allowed : (count id other : ℕ) (s : Sending) (t : Option Receiving) (q : Receiving) (u : Option Sending) → s.ring ≡ q.ring
    → Joins (Ruled count) id (idle (Sender s t)) other (idle (Receiver q u)) (idle (done_view (Sender s t) (Receiver q u))) (idle Spent)
join_ends_allowed count id other s t q u same = join_allows count id other (Sender s t) (Receiver q u) (Done (ring_map s q) s q)
    (λ w sound here at_other apart. (JoinEnds id other, (s, t, q, u, here, at_other, same, apart, refl), λ q c. inl c, λ q c. inl c))

pub load_done_allowed : (count slots id i : ℕ) (m : WordMap) (s : Sending) (q : Receiving) → 0 < count
    → Allows (Ruled count) slots id (idle (Done m s q), []) i (λ n. n) (λ n after. TellsDone (Done m s q) after.0.view × (after ≡ (idle after.0.view, [])))
load_done_allowed count slots id i m s q more = look_allows count slots id i 0 (Done m s q) 0 0 (TellsDone (Done m s q)) more
    (λ w x sound here found. (Done m s q, LoadDone id 0 x, (m, s, q, here, found, refl), (λ q c. inl c, λ q c. inl c), ((sound.honest id (Done m s q) here).2, refl)))

-- a count or the flag has its value in the map
pub load_count_allowed : (count slots id k : ℕ) (m : WordMap) (s : Sending) (q : Receiving) (from n : ℕ) → IsCount s.ring k → k < count
    → Allows (Ruled count) slots id (copying (Done m s q) from n, []) k (λ f. f) (λ f after. TellsCount (Done m s q) k f × (after ≡ (copying (Done m s q) from n, [])))
load_count_allowed count slots id k m s q from n c inside = count_allows count slots id k (Done m s q) from n (TellsCount (Done m s q) k) c inside
    (λ w x sound here found. own_value w.words m k x (sound.honest id (Done m s q) here).0 found (at m k) refl)

below_or : (k a : ℕ) → (k < a) ⊎ (a ≤ k)
below_or k zero = inr (omega arith)
below_or zero (suc a) = inl (omega arith)
below_or (suc k) (suc a) = ⊎_elim (λ (l : k < a). inl (omega (arith, l))) (λ (l : a ≤ k). inr (omega (arith, l))) (below_or k a)

-- the ends have copied their counts and their flag back
pub end_done_allowed : (count slots id i : ℕ) (m : WordMap) (s : Sending) (q : Receiving) → 0 < count
    → Allows (Ruled count) slots id (copying (Done m s q) s.ring.base 3, []) i (λ n. n) (λ n after. TellsEnd (Done m s q) after.0.view × (after ≡ (idle after.0.view, [])))
end_done_allowed count slots id i m s q more = look_allows count slots id i 0 (Done m s q) s.ring.base 3 (TellsEnd (Done m s q)) more
    (λ w x sound here found.
    let h = sound.honest id (Done m s q) here in (
      Own m None,
      EndDone id 0 x,
      (m, s, q, here, found, refl),
      (
        λ k c.
            let r = in_ring s q k h.2.sender.counted (subst (λ (n : WordMap). Has n k) h.1 c) in
            let low = r.0 in
            let high = r.1 in
            ⊎_elim (λ (l : k < s.ring.base + 3). inr (tt, low, l)) (λ (l : s.ring.base + 3 ≤ k). inl (l, high)) (below_or k (s.ring.base + 3)),
        λ k c. absurd c,
      ),
      (h.2, refl),
    ))

pub part_again_allowed : (count id : ℕ) (m : WordMap) (s : Sending) (q : Receiving) → Splits (Ruled count) id (idle (Done m s q)) (idle (sender_again (Done m s q))) (idle (receiver_again (Done m s q)))
part_again_allowed count id m s q = split_allows count id (Done m s q) 0 0 (Sender s (Some q)) (Receiver q (Some s))
    (λ w sound here.
    let same = (sound.honest id (Done m s q) here).2.tied.same in (
      PartAgain id,
      (m, s, q, here, refl),
      (λ k c. inl c, λ k c. inl c),
      (λ k c. inl (subst (λ (r : Ring). IsCell r k) (sym same) c), λ k c. inl (subst (λ (r : Ring). IsCount r k) (sym same) c)),
    ))
