-- The rule allows each step of a receiver's end, over plain values.
use Rattle.std.proofs.Common.{◌≡◌, ℕ, ◌+◌, ◌-◌, ◌%◌, ◌<◌, ◌≤◌, false, length, Bool, true, cond, ◌==◌, refl, le_refl, le_trans, sym, ap, subst, ◌∙◌, arith}
use Rattle.atomic_table.specs.Table.{Allows}
use Rattle.atomic_table.specs.Seated.{TableId}
use Rattle.ring_rule.specs.Ring.{Receiving, count_word, place_of}
use Rattle.ring_rule.proofs.Counts.{few_cells}
use Rattle.ring_rule.specs.Ends.{looks_written, looks_last, sees_written}
use Rattle.region_rule.specs.View.{View, Receiver}
use Rattle.region_rule.specs.Places.{IsIdle, MayTake, Ruled, out_of}
use Rattle.region_words.proofs.Seats.{Mine}
use Rattle.region_rule.specs.Tells.{TellsLookWritten, TellsTake, TellsGiveBack, TellsLeave, TellsFlag}
use Rattle.region_rule.proofs.RingSteps.{look_written_allowed, take_allowed, give_back_allowed, receiver_leaves_allowed, receiver_flag_allowed}
use Rattle.mq_ring.specs.Ends.{ReceivingEnd, receiving_end, rx_of, rx_told, IsReceiver}
use Rattle.mq_ring.proofs.Distances.{in_region, place_is, place_inside, behind}

-- what the token knows is what contracts see
ends_same : (t : TableId) (me : Mine) (o : ReceivingEnd) → receiving_end t (rx_of me.0.view) (rx_told me.0.view) ≡ o → o.end ≡ rx_of me.0.view
ends_same t me o v = ap (λ (x : ReceivingEnd). x.end) (sym v)

region_same : (t z : TableId) (me : Mine) (o : ReceivingEnd) → receiving_end t (rx_of me.0.view) (rx_told me.0.view) ≡ o → o.region ≡ z → t ≡ z
region_same t z me o v here = ap (λ (x : ReceivingEnd). x.region) v ∙ here

pub look_allows : (t z : TableId) (id : ℕ) (me : Mine) (base size max position : ℕ) (o : ReceivingEnd) → IsReceiver t me base size max position
    → receiving_end t (rx_of me.0.view) (rx_told me.0.view) ≡ o → o.region ≡ z → o.end.gone ≡ false
    → Allows (Ruled z.words) z.slots id me base (λ n. n) (λ n after. TellsLookWritten me.0.view n after.0.view × IsIdle after after.0.view)
look_allows t z id me base size max position o p v here stays =
    let q = rx_of me.0.view in
    let inside = in_region t z q.ring base size max base p.lies (region_same t z me o v here) (omega arith) in
    let b = p.lies.base_is in
    subst (λ (k : ℕ). Allows (Ruled z.words) z.slots id me k (λ n. n) (λ n after. TellsLookWritten me.0.view n after.0.view × IsIdle after after.0.view)) (sym b)
    (subst (λ (x : Mine). Allows (Ruled z.words) z.slots id x q.ring.base (λ n. n) (λ n after. TellsLookWritten x.0.view n after.0.view × IsIdle after after.0.view)) (sym p.receives)
    (look_written_allowed z.words z.slots id q (rx_told me.0.view) (subst (λ (x : Receiving). x.gone ≡ false) (ends_same t me o v) stays) (omega arith)))

pub may_take : (t : TableId) (k : ℕ) (me : Mine) (base size max position : ℕ) (o : ReceivingEnd) → IsReceiver t me base size max position
    → receiving_end t (rx_of me.0.view) (rx_told me.0.view) ≡ o → length o.end.taken < o.end.avail → k ≡ base + 3 + position % size → MayTake me.0.view k
may_take t k me base size max position o p v more is =
    let q = rx_of me.0.view in
    let e = ends_same t me o v in
    subst (λ (x : Mine). MayTake x.0.view k) (sym p.receives)
    (length q.taken, place_is t q.ring base size max position (length q.taken) k p.lies p.position_is is, le_refl (length q.taken), subst (λ (x : Receiving). length x.taken < x.avail) e more)

pub take_inside : (t z : TableId) (k : ℕ) (me : Mine) (base size max position : ℕ) (o : ReceivingEnd) → IsReceiver t me base size max position
    → receiving_end t (rx_of me.0.view) (rx_told me.0.view) ≡ o → o.region ≡ z → k ≡ base + 3 + position % size → k < z.words
take_inside t z k me base size max position o p v here is =
    let q = rx_of me.0.view in
    subst (λ (n : ℕ). n < z.words) (sym (place_is t q.ring base size max position (length q.taken) k p.lies p.position_is is))
    (place_inside t z q.ring base size max (length q.taken) p.lies (region_same t z me o v here))

pub take_allows : (t z : TableId) (id k y : ℕ) (me : Mine) (base size max position : ℕ) (o : ReceivingEnd) → IsReceiver t me base size max position
    → receiving_end t (rx_of me.0.view) (rx_told me.0.view) ≡ o → o.region ≡ z → o.end.gone ≡ false → length o.end.taken < o.end.avail → k ≡ base + 3 + position % size
    → Allows (Ruled z.words) z.slots id (out_of me.0 k y y) 0 (λ n. n) (λ n after. TellsTake me.0.view y after.0.view × IsIdle after after.0.view)
take_allows t z id k y me base size max position o p v here stays more is =
    let q = rx_of me.0.view in
    let e = ends_same t me o v in
    let same = region_same t z me o v here in
    let place = place_is t q.ring base size max position (length q.taken) k p.lies p.position_is is in
    let inside = place_inside t z q.ring base size max (length q.taken) p.lies same in
    subst (λ (n : ℕ). Allows (Ruled z.words) z.slots id (out_of me.0 n y y) 0 (λ n. n) (λ n after. TellsTake me.0.view y after.0.view × IsIdle after after.0.view)) (sym place)
    (subst (λ (x : Mine). Allows (Ruled z.words) z.slots id (out_of x.0 (place_of q.ring (length q.taken)) y y) 0 (λ n. n) (λ n after. TellsTake x.0.view y after.0.view × IsIdle after after.0.view)) (sym p.receives)
    (take_allowed z.words z.slots id 0 y q (rx_told me.0.view) p.lies.ring (subst (λ (x : Receiving). x.gone ≡ false) e stays) (subst (λ (x : Receiving). length x.taken < x.avail) e more) inside
    (subst (λ (x : TableId). x.slots ≡ x.words) same p.lies.sized.2)))

pub give_back_allows : (t z : TableId) (id : ℕ) (me : Mine) (base size max position : ℕ) (o : ReceivingEnd) → IsReceiver t me base size max position
    → receiving_end t (rx_of me.0.view) (rx_told me.0.view) ≡ o → o.region ≡ z → o.end.gone ≡ false
    → Allows (Ruled z.words) z.slots id me (base + 1) (λ _. position) (λ _ after. TellsGiveBack me.0.view after.0.view × IsIdle after after.0.view)
give_back_allows t z id me base size max position o p v here stays =
    let q = rx_of me.0.view in
    let inside = in_region t z q.ring base size max (base + 1) p.lies (region_same t z me o v here) (omega arith) in
    let b = p.lies.base_is in
    subst (λ (k : ℕ). Allows (Ruled z.words) z.slots id me (k + 1) (λ _. position) (λ _ after. TellsGiveBack me.0.view after.0.view × IsIdle after after.0.view)) (sym b)
    (subst (λ (n : ℕ). Allows (Ruled z.words) z.slots id me (q.ring.base + 1) (λ _. n) (λ _ after. TellsGiveBack me.0.view after.0.view × IsIdle after after.0.view)) (sym p.position_is)
    (subst (λ (x : Mine). Allows (Ruled z.words) z.slots id x (q.ring.base + 1) (λ _. count_word q.ring (length q.taken)) (λ _ after. TellsGiveBack x.0.view after.0.view × IsIdle after after.0.view)) (sym p.receives)
    (give_back_allowed z.words z.slots id q (rx_told me.0.view) (subst (λ (x : Receiving). x.gone ≡ false) (ends_same t me o v) stays) (omega arith))))

pub leave_allows : (t z : TableId) (id : ℕ) (me : Mine) (base size max position : ℕ) (o : ReceivingEnd) → IsReceiver t me base size max position
    → receiving_end t (rx_of me.0.view) (rx_told me.0.view) ≡ o → o.region ≡ z → o.end.gone ≡ false
    → Allows (Ruled z.words) z.slots id me (base + 2) (λ _. 1) (λ _ after. TellsLeave me.0.view after.0.view × IsIdle after after.0.view)
leave_allows t z id me base size max position o p v here stays =
    let q = rx_of me.0.view in
    let inside = in_region t z q.ring base size max (base + 2) p.lies (region_same t z me o v here) (omega arith) in
    let b = p.lies.base_is in
    subst (λ (k : ℕ). Allows (Ruled z.words) z.slots id me (k + 2) (λ _. 1) (λ _ after. TellsLeave me.0.view after.0.view × IsIdle after after.0.view)) (sym b)
    (subst (λ (x : Mine). Allows (Ruled z.words) z.slots id x (q.ring.base + 2) (λ _. 1) (λ _ after. TellsLeave x.0.view after.0.view × IsIdle after after.0.view)) (sym p.receives)
    (receiver_leaves_allowed z.words z.slots id q (rx_told me.0.view) (subst (λ (x : Receiving). x.gone ≡ false) (ends_same t me o v) stays) (omega arith)))

pub flag_allows : (t z : TableId) (id : ℕ) (me : Mine) (base size max position : ℕ) (o : ReceivingEnd) → IsReceiver t me base size max position
    → receiving_end t (rx_of me.0.view) (rx_told me.0.view) ≡ o → o.region ≡ z → o.end.gone ≡ false
    → Allows (Ruled z.words) z.slots id me (base + 2) (λ n. n) (λ n after. TellsFlag me.0.view n after.0.view × IsIdle after after.0.view)
flag_allows t z id me base size max position o p v here stays =
    let q = rx_of me.0.view in
    let inside = in_region t z q.ring base size max (base + 2) p.lies (region_same t z me o v here) (omega arith) in
    let b = p.lies.base_is in
    subst (λ (k : ℕ). Allows (Ruled z.words) z.slots id me (k + 2) (λ n. n) (λ n after. TellsFlag me.0.view n after.0.view × IsIdle after after.0.view)) (sym b)
    (subst (λ (x : Mine). Allows (Ruled z.words) z.slots id x (q.ring.base + 2) (λ n. n) (λ n after. TellsFlag x.0.view n after.0.view × IsIdle after after.0.view)) (sym p.receives)
    (receiver_flag_allowed z.words z.slots id q (rx_told me.0.view) (subst (λ (x : Receiving). x.gone ≡ false) (ends_same t me o v) stays) (omega arith)))

-- the count that a receiver sees is the one that it found, whichever note it keeps
seen_count : (q : Receiving) (n : ℕ) → (sees_written q n).avail ≡ n
seen_count q n = go (q.flag_value == 1)
  where
    go : (b : Bool) → (cond b (looks_last q n) (looks_written q n)).avail ≡ n
    go true = refl
    go false = refl

-- what the receiver has found, once it has looked
pub found_ready : (t : TableId) (me after : Mine) (base size max position x : ℕ) → IsReceiver t me base size max position → TellsLookWritten me.0.view x after.0.view × IsIdle after after.0.view
    → (x + (18446744073709551616 - position)) % 18446744073709551616 + length (rx_of me.0.view).taken ≡ (rx_of after.0.view).avail
found_ready t me after base size max position x p h =
    let q = rx_of me.0.view in
    let a : TellsLookWritten (Receiver q (rx_told me.0.view)) x after.0.view = subst (λ (u : Mine). TellsLookWritten u.0.view x after.0.view) p.receives h.0 in
    let n : ℕ = a.0 in
    let avail : (rx_of after.0.view).avail ≡ n = ap (λ (v : View). (rx_of v).avail) a.1 ∙ seen_count q n in
    let low : length q.taken ≤ n = le_trans p.taken a.3 in
    let few : q.ring.size ≤ 1048576 = few_cells q.ring p.lies.ring in
    let near : n ≤ q.returned + q.ring.size = a.2.near in
    let back : q.returned ≤ length q.taken = p.returned in
    behind q.ring.start n (length q.taken) x position a.2.word p.position_is low (omega arith) ∙ sym avail
