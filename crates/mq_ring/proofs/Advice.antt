-- The words of advice are words of cells, in which each end of the ring may store what it likes.
use Rattle.std.proofs.Common.{◌≡◌, ◌⊎◌, ℕ, ◌+◌, ◌<◌, ◌≤◌, min, sym, ap, subst, ◌∙◌, ⊎_elim, arith}
use Rattle.atomic_table.specs.Table.{Allows}
use Rattle.atomic_table.specs.Seated.{TableId}
use Rattle.word_map.specs.WordMap.{WordMap}
use Rattle.ring_rule.specs.Ring.{Ring}
use Rattle.ring_rule.proofs.Counts.{some_cells}
use Rattle.region_rule.specs.Places.{IsIdle, InSlot, IsCell, Ruled}
use Rattle.region_rule.proofs.Allows.{advise_allows}
use Rattle.region_words.proofs.Seats.{Mine}
use Rattle.mq_ring.specs.Ends.{SendingEnd, sending_end, ReceivingEnd, receiving_end, tx_of, tx_told, rx_of, rx_told, LiesIn, IsSender, IsReceiver}
use Rattle.mq_ring.proofs.Distances.{in_region}

-- word k is the sender's word of advice, or the receiver's
abbrev pub IsAdvice : ℕ → ℕ → ℕ → Type 0
IsAdvice base size k = (k ≡ base + 3) ⊎ (k ≡ base + 2 + min size 2)

-- it is a word of a cell
among : (t : TableId) (r : Ring) (base size max k : ℕ) → LiesIn t r base size max → IsAdvice base size k → (base + 3 ≤ k) × (k < base + 3 + size)
among t r base size max k lies is =
    let some : 0 < size = subst (λ (n : ℕ). 0 < n) (sym lies.size_is) (some_cells r lies.ring) in
    ⊎_elim (λ (e : k ≡ base + 3). (omega arith, omega arith)) (λ (e : k ≡ base + 2 + min size 2). (omega arith, omega arith)) is

advice_cell : (t : TableId) (r : Ring) (base size max k : ℕ) → LiesIn t r base size max → IsAdvice base size k → IsCell r k
advice_cell t r base size max k lies is =
    let a = among t r base size max k lies is in
    let low : base + 3 ≤ k = a.0 in
    let high : k < base + 3 + size = a.1 in
    let b = lies.base_is in
    let s = lies.size_is in
    (omega arith, omega arith)

-- each end may store there
pub advice_allows : (t : TableId) (id k n : ℕ) (me : Mine) → IsIdle me me.0.view → InSlot me.0.view k → Allows (Ruled t.words) t.slots id me k (λ _. n) (λ _ after. after ≡ me)
advice_allows t id k n me idle cell =
    subst (λ (x : Mine). Allows (Ruled t.words) t.slots id x k (λ _. n) (λ _ after. after ≡ x)) (sym idle) (advise_allows t.words t.slots id k n me.0.view cell)

pub sender_cell : (t u : TableId) (k : ℕ) (me : Mine) (base size max position : ℕ) → IsSender t u me base size max position → IsAdvice base size k → InSlot me.0.view k
sender_cell t u k me base size max position p is = subst (λ (x : Mine). InSlot x.0.view k) (sym p.sends) (advice_cell t (tx_of me.0.view).ring base size max k p.lies is)

pub receiver_cell : (t : TableId) (k : ℕ) (me : Mine) (base size max position : ℕ) → IsReceiver t me base size max position → IsAdvice base size k → InSlot me.0.view k
receiver_cell t k me base size max position p is = subst (λ (x : Mine). InSlot x.0.view k) (sym p.receives) (advice_cell t (rx_of me.0.view).ring base size max k p.lies is)

-- and they are words of the region
pub sender_advice_inside : (t u z : TableId) (k : ℕ) (me : Mine) (base size max position : ℕ) (rest : WordMap) (bytes : ℕ) (o : SendingEnd) → IsSender t u me base size max position
    → sending_end t (tx_of me.0.view) (tx_told me.0.view) rest bytes ≡ o → o.region ≡ z → IsAdvice base size k → k < z.words
sender_advice_inside t u z k me base size max position rest bytes o p v here is =
    in_region t z (tx_of me.0.view).ring base size max k p.lies (ap (λ (x : SendingEnd). x.region) v ∙ here) (among t (tx_of me.0.view).ring base size max k p.lies is).1

pub receiver_advice_inside : (t z : TableId) (k : ℕ) (me : Mine) (base size max position : ℕ) (o : ReceivingEnd) → IsReceiver t me base size max position
    → receiving_end t (rx_of me.0.view) (rx_told me.0.view) ≡ o → o.region ≡ z → IsAdvice base size k → k < z.words
receiver_advice_inside t z k me base size max position o p v here is =
    in_region t z (rx_of me.0.view).ring base size max k p.lies (ap (λ (x : ReceivingEnd). x.region) v ∙ here) (among t (rx_of me.0.view).ring base size max k p.lies is).1

-- an end whose seat is as it was is as it was
pub sender_stays : (t t' u : TableId) (me me' : Mine) (base size max position : ℕ) → t' ≡ t → me' ≡ me → IsSender t u me base size max position → IsSender t' u me' base size max position
sender_stays t t' u me me' base size max position e f p =
    subst (λ (x : TableId). IsSender x u me' base size max position) (sym e) (subst (λ (x : Mine). IsSender t u x base size max position) (sym f) p)

pub receiver_stays : (t t' : TableId) (me me' : Mine) (base size max position : ℕ) → t' ≡ t → me' ≡ me → IsReceiver t me base size max position → IsReceiver t' me' base size max position
receiver_stays t t' me me' base size max position e f p =
    subst (λ (x : TableId). IsReceiver x me' base size max position) (sym e) (subst (λ (x : Mine). IsReceiver t x base size max position) (sym f) p)

pub sender_same : (t t' : TableId) (me me' : Mine) (rest : WordMap) (bytes : ℕ) (o : SendingEnd) → t' ≡ t → me' ≡ me
    → sending_end t (tx_of me.0.view) (tx_told me.0.view) rest bytes ≡ o → sending_end t' (tx_of me'.0.view) (tx_told me'.0.view) rest bytes ≡ o
sender_same t t' me me' rest bytes o e f v =
    ap (λ (x : TableId). sending_end x (tx_of me'.0.view) (tx_told me'.0.view) rest bytes) e ∙ ap (λ (x : Mine). sending_end t (tx_of x.0.view) (tx_told x.0.view) rest bytes) f ∙ v

pub receiver_same : (t t' : TableId) (me me' : Mine) (o : ReceivingEnd) → t' ≡ t → me' ≡ me
    → receiving_end t (rx_of me.0.view) (rx_told me.0.view) ≡ o → receiving_end t' (rx_of me'.0.view) (rx_told me'.0.view) ≡ o
receiver_same t t' me me' o e f v =
    ap (λ (x : TableId). receiving_end x (rx_of me'.0.view) (rx_told me'.0.view)) e ∙ ap (λ (x : Mine). receiving_end t (rx_of x.0.view) (rx_told x.0.view)) f ∙ v
