-- The rule allows each step of a sender's end, over plain values.
use Rattle.std.proofs.Common.{◌≡◌, ℕ, ◌+◌, ◌%◌, ◌<◌, false, [], ◌∷◌, ◌++◌, length, le_refl, sym, ap, subst, ◌∙◌, arith}
use Rattle.atomic_table.specs.Table.{Allows}
use Rattle.atomic_table.specs.Seated.{TableId}
use Rattle.word_map.specs.WordMap.{WordMap}
use Rattle.ring_rule.specs.Frames.{IsFramed}
use Rattle.ring_rule.specs.Ring.{Sending, count_word, place_of}
use Rattle.region_rule.specs.Places.{IsIdle, MayTake, Ruled, out_of}
use Rattle.region_words.proofs.Seats.{Mine}
use Rattle.region_rule.specs.Tells.{TellsPut, TellsPublish, TellsLookRead, TellsLeave, TellsFlag}
use Rattle.region_rule.proofs.RingSteps.{put_allowed, publish_allowed, look_read_allowed, sender_leaves_allowed, sender_flag_allowed}
use Rattle.mq_ring.specs.Ends.{SendingEnd, sending_end, tx_of, tx_told, IsSender}
use Rattle.mq_ring.proofs.Distances.{in_region, place_is, place_inside}

-- what the token knows is what contracts see
ends_same : (t : TableId) (me : Mine) (rest : WordMap) (bytes : ℕ) (o : SendingEnd) → sending_end t (tx_of me.0.view) (tx_told me.0.view) rest bytes ≡ o → o.end ≡ tx_of me.0.view
ends_same t me rest bytes o v = ap (λ (x : SendingEnd). x.end) (sym v)

region_same : (t z : TableId) (me : Mine) (rest : WordMap) (bytes : ℕ) (o : SendingEnd) → sending_end t (tx_of me.0.view) (tx_told me.0.view) rest bytes ≡ o → o.region ≡ z → t ≡ z
region_same t z me rest bytes o v here = ap (λ (x : SendingEnd). x.region) v ∙ here

pub may_put : (t u : TableId) (k : ℕ) (me : Mine) (base size max position : ℕ) (rest : WordMap) (bytes : ℕ) (o : SendingEnd) → IsSender t u me base size max position
    → sending_end t (tx_of me.0.view) (tx_told me.0.view) rest bytes ≡ o → length o.end.put < o.end.room + o.end.ring.size → k ≡ base + 3 + position % size → MayTake me.0.view k
may_put t u k me base size max position rest bytes o p v room is =
    let s = tx_of me.0.view in
    let e = ends_same t me rest bytes o v in
    subst (λ (x : Mine). MayTake x.0.view k) (sym p.sends)
    (length s.put, place_is t s.ring base size max position (length s.put) k p.lies p.position_is is, le_refl (length s.put), subst (λ (x : Sending). length x.put < x.room + x.ring.size) e room)

pub put_inside : (t u z : TableId) (k : ℕ) (me : Mine) (base size max position : ℕ) (rest : WordMap) (bytes : ℕ) (o : SendingEnd) → IsSender t u me base size max position
    → sending_end t (tx_of me.0.view) (tx_told me.0.view) rest bytes ≡ o → o.region ≡ z → k ≡ base + 3 + position % size → k < z.words
put_inside t u z k me base size max position rest bytes o p v here is =
    let s = tx_of me.0.view in
    subst (λ (n : ℕ). n < z.words) (sym (place_is t s.ring base size max position (length s.put) k p.lies p.position_is is))
    (place_inside t z s.ring base size max (length s.put) p.lies (region_same t z me rest bytes o v here))

pub put_allows : (t u z : TableId) (id word k y : ℕ) (me : Mine) (base size max position : ℕ) (rest : WordMap) (bytes : ℕ) (o : SendingEnd) → IsSender t u me base size max position
    → sending_end t (tx_of me.0.view) (tx_told me.0.view) rest bytes ≡ o → o.region ≡ z → o.end.gone ≡ false → length o.end.put < o.end.room + o.end.ring.size → IsFramed o.end.ring.max (o.end.put ++ word ∷ []) → word < 18446744073709551616
    → k ≡ base + 3 + position % size
    → Allows (Ruled z.words) z.slots id (out_of me.0 k y word) 0 (λ n. n) (λ n after. TellsPut me.0.view word after.0.view × IsIdle after after.0.view)
put_allows t u z id word k y me base size max position rest bytes o p v here stays room framed small is =
    let s = tx_of me.0.view in
    let e = ends_same t me rest bytes o v in
    let same = region_same t z me rest bytes o v here in
    let place = place_is t s.ring base size max position (length s.put) k p.lies p.position_is is in
    let inside = place_inside t z s.ring base size max (length s.put) p.lies same in
    subst (λ (n : ℕ). Allows (Ruled z.words) z.slots id (out_of me.0 n y word) 0 (λ n. n) (λ n after. TellsPut me.0.view word after.0.view × IsIdle after after.0.view)) (sym place)
    (subst (λ (x : Mine). Allows (Ruled z.words) z.slots id (out_of x.0 (place_of s.ring (length s.put)) y word) 0 (λ n. n) (λ n after. TellsPut x.0.view word after.0.view × IsIdle after after.0.view)) (sym p.sends)
    (put_allowed z.words z.slots id 0 y word s (tx_told me.0.view) p.lies.ring (subst (λ (x : Sending). x.gone ≡ false) e stays) (subst (λ (x : Sending). length x.put < x.room + x.ring.size) e room)
    (subst (λ (x : Sending). IsFramed x.ring.max (x.put ++ word ∷ [])) e framed) small inside (subst (λ (x : TableId). x.slots ≡ x.words) same p.lies.sized.2)))

pub publish_allows : (t u z : TableId) (id : ℕ) (me : Mine) (base size max position : ℕ) (rest : WordMap) (bytes : ℕ) (o : SendingEnd) → IsSender t u me base size max position
    → sending_end t (tx_of me.0.view) (tx_told me.0.view) rest bytes ≡ o → o.region ≡ z → o.end.gone ≡ false
    → Allows (Ruled z.words) z.slots id me base (λ _. position) (λ _ after. TellsPublish me.0.view after.0.view × IsIdle after after.0.view)
publish_allows t u z id me base size max position rest bytes o p v here stays =
    let s = tx_of me.0.view in
    let inside = in_region t z s.ring base size max base p.lies (region_same t z me rest bytes o v here) (omega arith) in
    let b = p.lies.base_is in
    subst (λ (k : ℕ). Allows (Ruled z.words) z.slots id me k (λ _. position) (λ _ after. TellsPublish me.0.view after.0.view × IsIdle after after.0.view)) (sym b)
    (subst (λ (n : ℕ). Allows (Ruled z.words) z.slots id me s.ring.base (λ _. n) (λ _ after. TellsPublish me.0.view after.0.view × IsIdle after after.0.view)) (sym p.position_is)
    (subst (λ (x : Mine). Allows (Ruled z.words) z.slots id x s.ring.base (λ _. count_word s.ring (length s.put)) (λ _ after. TellsPublish x.0.view after.0.view × IsIdle after after.0.view)) (sym p.sends)
    (publish_allowed z.words z.slots id s (tx_told me.0.view) (subst (λ (x : Sending). x.gone ≡ false) (ends_same t me rest bytes o v) stays) (omega arith))))

pub look_allows : (t u z : TableId) (id : ℕ) (me : Mine) (base size max position : ℕ) (rest : WordMap) (bytes : ℕ) (o : SendingEnd) → IsSender t u me base size max position
    → sending_end t (tx_of me.0.view) (tx_told me.0.view) rest bytes ≡ o → o.region ≡ z → o.end.gone ≡ false
    → Allows (Ruled z.words) z.slots id me (base + 1) (λ n. n) (λ n after. TellsLookRead me.0.view n after.0.view × IsIdle after after.0.view)
look_allows t u z id me base size max position rest bytes o p v here stays =
    let s = tx_of me.0.view in
    let inside = in_region t z s.ring base size max (base + 1) p.lies (region_same t z me rest bytes o v here) (omega arith) in
    let b = p.lies.base_is in
    subst (λ (k : ℕ). Allows (Ruled z.words) z.slots id me (k + 1) (λ n. n) (λ n after. TellsLookRead me.0.view n after.0.view × IsIdle after after.0.view)) (sym b)
    (subst (λ (x : Mine). Allows (Ruled z.words) z.slots id x (s.ring.base + 1) (λ n. n) (λ n after. TellsLookRead x.0.view n after.0.view × IsIdle after after.0.view)) (sym p.sends)
    (look_read_allowed z.words z.slots id s (tx_told me.0.view) (subst (λ (x : Sending). x.gone ≡ false) (ends_same t me rest bytes o v) stays) (omega arith)))

pub leave_allows : (t u z : TableId) (id : ℕ) (me : Mine) (base size max position : ℕ) (rest : WordMap) (bytes : ℕ) (o : SendingEnd) → IsSender t u me base size max position
    → sending_end t (tx_of me.0.view) (tx_told me.0.view) rest bytes ≡ o → o.region ≡ z → o.end.gone ≡ false
    → Allows (Ruled z.words) z.slots id me (base + 2) (λ _. 1) (λ _ after. TellsLeave me.0.view after.0.view × IsIdle after after.0.view)
leave_allows t u z id me base size max position rest bytes o p v here stays =
    let s = tx_of me.0.view in
    let inside = in_region t z s.ring base size max (base + 2) p.lies (region_same t z me rest bytes o v here) (omega arith) in
    let b = p.lies.base_is in
    subst (λ (k : ℕ). Allows (Ruled z.words) z.slots id me (k + 2) (λ _. 1) (λ _ after. TellsLeave me.0.view after.0.view × IsIdle after after.0.view)) (sym b)
    (subst (λ (x : Mine). Allows (Ruled z.words) z.slots id x (s.ring.base + 2) (λ _. 1) (λ _ after. TellsLeave x.0.view after.0.view × IsIdle after after.0.view)) (sym p.sends)
    (sender_leaves_allowed z.words z.slots id s (tx_told me.0.view) (subst (λ (x : Sending). x.gone ≡ false) (ends_same t me rest bytes o v) stays) (omega arith)))

pub flag_allows : (t u z : TableId) (id : ℕ) (me : Mine) (base size max position : ℕ) (rest : WordMap) (bytes : ℕ) (o : SendingEnd) → IsSender t u me base size max position
    → sending_end t (tx_of me.0.view) (tx_told me.0.view) rest bytes ≡ o → o.region ≡ z → o.end.gone ≡ false
    → Allows (Ruled z.words) z.slots id me (base + 2) (λ n. n) (λ n after. TellsFlag me.0.view n after.0.view × IsIdle after after.0.view)
flag_allows t u z id me base size max position rest bytes o p v here stays =
    let s = tx_of me.0.view in
    let inside = in_region t z s.ring base size max (base + 2) p.lies (region_same t z me rest bytes o v here) (omega arith) in
    let b = p.lies.base_is in
    subst (λ (k : ℕ). Allows (Ruled z.words) z.slots id me (k + 2) (λ n. n) (λ n after. TellsFlag me.0.view n after.0.view × IsIdle after after.0.view)) (sym b)
    (subst (λ (x : Mine). Allows (Ruled z.words) z.slots id x (s.ring.base + 2) (λ n. n) (λ n after. TellsFlag x.0.view n after.0.view × IsIdle after after.0.view)) (sym p.sends)
    (sender_flag_allowed z.words z.slots id s (tx_told me.0.view) (subst (λ (x : Sending). x.gone ≡ false) (ends_same t me rest bytes o v) stays) (omega arith)))
