-- The rule allows the steps of an end by which it puts or takes a row of words, over plain values.
use Rattle.std.proofs.Common.{◌≡◌, ℕ, ◌+◌, ◌-◌, ◌%◌, ◌<◌, ◌≤◌, false, List, [], ◌++◌, length, Option, refl, sym, ap, subst, ◌∙◌, arith, length-append}
use Rattle.std.specs.List.{AllByRecursion, fold}
use Rattle.atomic_table.specs.Table.{Allows}
use Rattle.atomic_table.specs.Seated.{TableId}
use Rattle.word_map.specs.WordMap.{WordMap}
use Rattle.ring_rule.specs.Frames.{IsFramed}
use Rattle.ring_rule.specs.Ring.{Ring, Sending, Receiving, cell_of, count_word, place_of}
use Rattle.ring_rule.specs.Ends.{puts, takes}
use Rattle.ring_rule.proofs.Counts.{cell_by_word}
use Rattle.region_rule.specs.View.{View, Sender, Receiver}
use Rattle.region_rule.specs.Places.{Token, idle, row, row_out, values, IsIdle, MayTake, Ruled}
use Rattle.region_rule.specs.Tells.{TellsPutRow, TellsTakeRow}
use Rattle.region_rule.proofs.Rows.{AreNext, CanPut, CanTake, put_row_allows, take_back_allows, row_values}
use Rattle.region_words.proofs.Seats.{Mine}
use Rattle.mq_ring.specs.Ends.{SendingEnd, ReceivingEnd, sending_end, receiving_end, tx_of, tx_told, rx_of, rx_told, IsSender, IsReceiver, LiesIn}
use Rattle.mq_ring.proofs.Distances.{place_is}
use Rattle.mq_ring.proofs.Rows.{are_next, row_same}
use Rattle.mq_ring.proofs.Runs.{HasPut, has_put, HasTaken, has_taken}

-- a token between two calls has its own view
pub idle_self : (me : Mine) (v : View) → IsIdle me v → IsIdle me me.0.view
idle_self me v e = subst (λ (u : Mine). IsIdle u u.0.view) (sym e) refl

-- the cell of a word, by the numbers that an end has
pub cell_is : (t : TableId) (r : Ring) (base size max position n : ℕ) → LiesIn t r base size max → position ≡ count_word r n → position % size ≡ cell_of r n
cell_is t r base size max position n lies e = ap (λ (x : ℕ). position % x) lies.size_is ∙ ap (λ (x : ℕ). x % r.size) e ∙ cell_by_word r n lies.ring

-- a row of cells lies in the region
row_inside : (t z : TableId) (r : Ring) (base size max position n k words : ℕ) → LiesIn t r base size max → t ≡ z → position ≡ count_word r n → k ≡ base + 3 + position % size → cell_of r n + words ≤ r.size → k + words ≤ z.words
row_inside t z r base size max position n k words lies same e is low =
    let c = cell_is t r base size max position n lies e in
    let s = lies.size_is in
    let i = lies.inside in
    subst (λ (x : TableId). k + words ≤ x.words) same (omega arith)

-- a place in the region is a small number
pub few_places : (t z : TableId) (r : Ring) (base size max k words : ℕ) → LiesIn t r base size max → t ≡ z → k + words ≤ z.words → k + words < 18446744073709551616
few_places t z r base size max k words lies same inside =
    let few : z.words ≤ 67108864 = subst (λ (x : TableId). x.words ≤ 67108864) same lies.sized.1 in
    omega arith

-- the cells from the next word's on, to the ring's end
pub put_ahead : (t u : TableId) (me : Mine) (base size max position : ℕ) (more : WordMap) (bytes : ℕ) (o : SendingEnd) (n : ℕ) → IsSender t u me base size max position
    → sending_end t (tx_of me.0.view) (tx_told me.0.view) more bytes ≡ o → position % size + n ≡ size → cell_of o.end.ring (length o.end.put) + n ≡ o.end.ring.size
put_ahead t u me base size max position more bytes o n p v e =
    let s = tx_of me.0.view in
    let c = cell_is t s.ring base size max position (length s.put) p.lies p.position_is in
    let same = p.lies.size_is in
    subst (λ (x : SendingEnd). cell_of x.end.ring (length x.end.put) + n ≡ x.end.ring.size) v (omega arith)

pub take_ahead : (t : TableId) (me : Mine) (base size max position : ℕ) (o : ReceivingEnd) (n : ℕ) → IsReceiver t me base size max position
    → receiving_end t (rx_of me.0.view) (rx_told me.0.view) ≡ o → position % size + n ≡ size → cell_of o.end.ring (length o.end.taken) + n ≡ o.end.ring.size
take_ahead t me base size max position o n p v e =
    let q = rx_of me.0.view in
    let c = cell_is t q.ring base size max position (length q.taken) p.lies p.position_is in
    let same = p.lies.size_is in
    subst (λ (x : ReceivingEnd). cell_of x.end.ring (length x.end.taken) + n ≡ x.end.ring.size) v (omega arith)

-- THE SENDER
module _ (t u z : TableId) (me : Mine) (base size max position : ℕ) (more : WordMap) (bytes : ℕ) (o : SendingEnd) (p : IsSender t u me base size max position)
    (v : sending_end t (tx_of me.0.view) (tx_told me.0.view) more bytes ≡ o) (here : o.region ≡ z) where
  put_same : o.end ≡ tx_of me.0.view
  put_same = ap (λ (x : SendingEnd). x.end) (sym v)

  put_here : t ≡ z
  put_here = ap (λ (x : SendingEnd). x.region) v ∙ here

  pub put_row_next : (k words : ℕ) → k ≡ base + 3 + position % size → cell_of o.end.ring (length o.end.put) + words ≤ o.end.ring.size → AreNext (tx_of me.0.view).ring (length (tx_of me.0.view).put) k words
  put_row_next k words is low =
      let s = tx_of me.0.view in
      are_next s.ring (length s.put) k words (place_is t s.ring base size max position (length s.put) k p.lies p.position_is is) (subst (λ (x : Sending). cell_of x.ring (length x.put) + words ≤ x.ring.size) put_same low)

  pub put_row_inside : (k words : ℕ) → k ≡ base + 3 + position % size → cell_of o.end.ring (length o.end.put) + words ≤ o.end.ring.size → k + words ≤ z.words
  put_row_inside k words is low =
      let s = tx_of me.0.view in
      row_inside t z s.ring base size max position (length s.put) k words p.lies put_here p.position_is is (subst (λ (x : Sending). cell_of x.ring (length x.put) + words ≤ x.ring.size) put_same low)

  pub put_row_may : (k words : ℕ) → k ≡ base + 3 + position % size → cell_of o.end.ring (length o.end.put) + words ≤ o.end.ring.size → length o.end.put + words ≤ o.end.room + o.end.ring.size
      → (q : ℕ) → k ≤ q → q < k + words → MayTake me.0.view q
  put_row_may k words is low room q from to =
      let s = tx_of me.0.view in
      let few : length s.put + words ≤ s.room + s.ring.size = subst (λ (x : Sending). length x.put + words ≤ x.room + x.ring.size) put_same room in
      let next = put_row_next k words is low (q - k) (omega arith) in
      let back : k + (q - k) ≡ q = omega arith in
      subst (λ (x : Mine). MayTake x.0.view q) (sym p.sends) (length s.put + (q - k), sym back ∙ sym next, omega arith, omega arith)

  pub put_row_step : (id k words : ℕ) (ys : List ℕ) (mid : Mine) → length ys ≡ words → o.end.gone ≡ false → k ≡ base + 3 + position % size → cell_of o.end.ring (length o.end.put) + words ≤ o.end.ring.size
      → length o.end.put + words ≤ o.end.room + o.end.ring.size → IsFramed o.end.ring.max (o.end.put ++ ys) → AllByRecursion (λ y. y < 18446744073709551616) ys
      → (xs : List ℕ) × (length xs ≡ words) × (mid ≡ row_out me.0.view k xs ys)
      → Allows (Ruled z.words) z.slots id mid 0 (λ n. n) (λ n after. TellsPutRow mid.0.view (values mid.1) after.0.view × IsIdle after after.0.view)
  put_row_step id k words ys mid long stays is low room framed fits out =
      let s = tx_of me.0.view in
      let view : me.0.view ≡ Sender s (tx_told me.0.view) = ap (λ (x : Mine). x.0.view) p.sends in
      let held : mid ≡ row_out (Sender s (tx_told me.0.view)) k out.0 ys = out.2 ∙ ap (λ (w : View). row_out w k out.0 ys) view in
      let can : CanPut z.words s k ys = record {
        ring = p.lies.ring;
        stays = subst (λ (x : Sending). x.gone ≡ false) put_same stays;
        room = subst (λ (n : ℕ). length s.put + n ≤ s.room + s.ring.size) (sym long) (subst (λ (x : Sending). length x.put + words ≤ x.room + x.ring.size) put_same room);
        framed = subst (λ (x : Sending). IsFramed x.ring.max (x.put ++ ys)) put_same framed;
        small = fits;
        next = subst (AreNext s.ring (length s.put) k) (sym long) (put_row_next k words is low);
        inside = subst (λ (n : ℕ). k + n ≤ z.words) (sym long) (put_row_inside k words is low);
      } in
      subst (λ (m : Mine). Allows (Ruled z.words) z.slots id m 0 (λ n. n) (λ n after. TellsPutRow m.0.view (values m.1) after.0.view × IsIdle after after.0.view)) (sym held)
      (put_row_allows z.words z.slots id 0 k out.0 ys s (tx_told me.0.view) can (out.1 ∙ sym long) (subst (λ (x : TableId). x.slots ≡ x.words) put_here p.lies.sized.2))

  -- what is left
  pub row_is_put : (w : TableId) (k words : ℕ) (ys : List ℕ) (mid after : Mine) → length ys ≡ words → w ≡ t → (xs : List ℕ) × (length xs ≡ words) × (mid ≡ row_out me.0.view k xs ys)
      → TellsPutRow mid.0.view (values mid.1) after.0.view × IsIdle after after.0.view
      → IsSender w u after base size max ((position + words) % 18446744073709551616) × (sending_end w (tx_of after.0.view) (tx_told after.0.view) more bytes ≡ record o { end = fold puts o.end ys })
  row_is_put w k words ys mid after long wt out told =
      let s = tx_of me.0.view in
      let n = tx_told me.0.view in
      let view : me.0.view ≡ Sender s n = ap (λ (x : Mine). x.0.view) p.sends in
      let held : mid ≡ row_out (Sender s n) k out.0 ys = out.2 ∙ ap (λ (x : View). row_out x k out.0 ys) view in
      let a : TellsPutRow (Sender s n) (values (row k ys)) after.0.view = subst (λ (m : Mine). TellsPutRow m.0.view (values m.1) after.0.view) held told.0 in
      let is : after.0.view ≡ Sender (fold puts s ys) n = a ∙ ap (λ l. Sender (fold puts s l) n) (row_values k ys) in
      let h = has_put s ys in
      let tx : tx_of after.0.view ≡ fold puts s ys = ap tx_of is in
      let tn : tx_told after.0.view ≡ n = ap tx_told is in
      let pos = p.position_is in
      let lies : LiesIn w (fold puts s ys).ring base size max = subst (λ (r : Ring). LiesIn w r base size max) (sym h.ring) (subst (λ (x : TableId). LiesIn x s.ring base size max) (sym wt) p.lies) in
      let count : length (fold puts s ys).put ≡ length s.put + words = ap length h.put ∙ length-append s.put ys ∙ ap (λ (i : ℕ). length s.put + i) long in
      let start : (fold puts s ys).ring.start ≡ s.ring.start = ap (λ (r : Ring). r.start) h.ring in
      let position_is : (position + words) % 18446744073709551616 ≡ count_word (fold puts s ys).ring (length (fold puts s ys).put) = omega arith in (
        record {
          sends = told.1 ∙ ap (λ (x : View). (idle x, [])) (is ∙ ap (λ (x : Sending). Sender x n) (sym tx) ∙ ap (Sender (tx_of after.0.view)) (sym tn));
          lies = subst (λ (x : Sending). LiesIn w x.ring base size max) (sym tx) lies;
          position_is = subst (λ (x : Sending). (position + words) % 18446744073709551616 ≡ count_word x.ring (length x.put)) (sym tx) position_is;
          rest_here = p.rest_here ∙ sym wt;
        },
        (λ i. sending_end (wt i) (tx i) (tn i) more bytes) ∙ ap (λ (x : SendingEnd). record x { end = fold puts x.end ys }) v,
      )

-- THE RECEIVER
module _ (t z : TableId) (me : Mine) (base size max position : ℕ) (o : ReceivingEnd) (p : IsReceiver t me base size max position) (v : receiving_end t (rx_of me.0.view) (rx_told me.0.view) ≡ o) (here : o.region ≡ z) where
  take_same : o.end ≡ rx_of me.0.view
  take_same = ap (λ (x : ReceivingEnd). x.end) (sym v)

  take_here : t ≡ z
  take_here = ap (λ (x : ReceivingEnd). x.region) v ∙ here

  pub take_row_next : (k words : ℕ) → k ≡ base + 3 + position % size → cell_of o.end.ring (length o.end.taken) + words ≤ o.end.ring.size → AreNext (rx_of me.0.view).ring (length (rx_of me.0.view).taken) k words
  take_row_next k words is low =
      let q = rx_of me.0.view in
      are_next q.ring (length q.taken) k words (place_is t q.ring base size max position (length q.taken) k p.lies p.position_is is) (subst (λ (x : Receiving). cell_of x.ring (length x.taken) + words ≤ x.ring.size) take_same low)

  pub take_row_inside : (k words : ℕ) → k ≡ base + 3 + position % size → cell_of o.end.ring (length o.end.taken) + words ≤ o.end.ring.size → k + words ≤ z.words
  take_row_inside k words is low =
      let q = rx_of me.0.view in
      row_inside t z q.ring base size max position (length q.taken) k words p.lies take_here p.position_is is (subst (λ (x : Receiving). cell_of x.ring (length x.taken) + words ≤ x.ring.size) take_same low)

  pub take_row_may : (k words : ℕ) → k ≡ base + 3 + position % size → cell_of o.end.ring (length o.end.taken) + words ≤ o.end.ring.size → length o.end.taken + words ≤ o.end.avail
      → (i : ℕ) → k ≤ i → i < k + words → MayTake me.0.view i
  take_row_may k words is low ready i from to =
      let q = rx_of me.0.view in
      let few : length q.taken + words ≤ q.avail = subst (λ (x : Receiving). length x.taken + words ≤ x.avail) take_same ready in
      let next = take_row_next k words is low (i - k) (omega arith) in
      let back : k + (i - k) ≡ i = omega arith in
      subst (λ (x : Mine). MayTake x.0.view i) (sym p.receives) (length q.taken + (i - k), sym back ∙ sym next, omega arith, omega arith)

  pub take_row_step : (id k words : ℕ) (mid : Mine) → o.end.gone ≡ false → k ≡ base + 3 + position % size → cell_of o.end.ring (length o.end.taken) + words ≤ o.end.ring.size → length o.end.taken + words ≤ o.end.avail
      → (xs : List ℕ) × (length xs ≡ words) × (mid ≡ row_out me.0.view k xs xs)
      → Allows (Ruled z.words) z.slots id mid 0 (λ n. n) (λ n after. TellsTakeRow mid.0.view (values mid.1) after.0.view × IsIdle after after.0.view)
  take_row_step id k words mid stays is low ready out =
      let q = rx_of me.0.view in
      let xs : List ℕ = out.0 in
      let view : me.0.view ≡ Receiver q (rx_told me.0.view) = ap (λ (x : Mine). x.0.view) p.receives in
      let held : mid ≡ row_out (Receiver q (rx_told me.0.view)) k xs xs = out.2 ∙ ap (λ (w : View). row_out w k xs xs) view in
      let can : CanTake z.words q k (length xs) = subst (CanTake z.words q k) (sym out.1) record {
        ring = p.lies.ring;
        stays = subst (λ (x : Receiving). x.gone ≡ false) take_same stays;
        ready = subst (λ (x : Receiving). length x.taken + words ≤ x.avail) take_same ready;
        next = take_row_next k words is low;
        inside = take_row_inside k words is low;
      } in
      subst (λ (m : Mine). Allows (Ruled z.words) z.slots id m 0 (λ n. n) (λ n after. TellsTakeRow m.0.view (values m.1) after.0.view × IsIdle after after.0.view)) (sym held)
      (take_back_allows z.words z.slots id 0 k xs q (rx_told me.0.view) can (subst (λ (x : TableId). x.slots ≡ x.words) take_here p.lies.sized.2))

  -- what is left
  pub row_is_taken : (w : TableId) (k words : ℕ) (xs : List ℕ) (mid after : Mine) → length xs ≡ words → w ≡ t → mid ≡ row_out me.0.view k xs xs → length o.end.taken + words ≤ o.end.avail
      → TellsTakeRow mid.0.view (values mid.1) after.0.view × IsIdle after after.0.view
      → IsReceiver w after base size max ((position + words) % 18446744073709551616) × (receiving_end w (rx_of after.0.view) (rx_told after.0.view) ≡ record o { end = fold takes o.end xs })
      × (0 < words → IsFramed o.end.ring.max (fold takes o.end xs).taken)
  row_is_taken w k words xs mid after long wt out ready told =
      let q = rx_of me.0.view in
      let n = rx_told me.0.view in
      let view : me.0.view ≡ Receiver q n = ap (λ (x : Mine). x.0.view) p.receives in
      let held : mid ≡ row_out (Receiver q n) k xs xs = out ∙ ap (λ (x : View). row_out x k xs xs) view in
      let a : TellsTakeRow (Receiver q n) (values (row k xs)) after.0.view = subst (λ (m : Mine). TellsTakeRow m.0.view (values m.1) after.0.view) held told.0 in
      let b : TellsTakeRow (Receiver q n) xs after.0.view = subst (λ (l : List ℕ). TellsTakeRow (Receiver q n) l after.0.view) (row_values k xs) a in
      let h = has_taken q xs in
      let rx : rx_of after.0.view ≡ fold takes q xs = ap rx_of b.0 in
      let rn : rx_told after.0.view ≡ n = ap rx_told b.0 in
      let pos = p.position_is in
      let lies : LiesIn w (fold takes q xs).ring base size max = subst (λ (r : Ring). LiesIn w r base size max) (sym h.ring) (subst (λ (x : TableId). LiesIn x q.ring base size max) (sym wt) p.lies) in
      let count : length (fold takes q xs).taken ≡ length q.taken + words = ap length h.taken ∙ length-append q.taken xs ∙ ap (λ (i : ℕ). length q.taken + i) long in
      let start : (fold takes q xs).ring.start ≡ q.ring.start = ap (λ (r : Ring). r.start) h.ring in
      let position_is : (position + words) % 18446744073709551616 ≡ count_word (fold takes q xs).ring (length (fold takes q xs).taken) = omega arith in
      let few : length q.taken + words ≤ q.avail = subst (λ (x : Receiving). length x.taken + words ≤ x.avail) take_same ready in
      let back : q.returned ≤ length q.taken = p.returned in
      let same_back = h.returned in
      let same_avail = h.avail in (
        record {
          receives = told.1 ∙ ap (λ (x : View). (idle x, [])) (b.0 ∙ ap (λ (x : Receiving). Receiver x n) (sym rx) ∙ ap (Receiver (rx_of after.0.view)) (sym rn));
          lies = subst (λ (x : Receiving). LiesIn w x.ring base size max) (sym rx) lies;
          position_is = subst (λ (x : Receiving). (position + words) % 18446744073709551616 ≡ count_word x.ring (length x.taken)) (sym rx) position_is;
          returned = subst (λ (x : Receiving). x.returned ≤ length x.taken) (sym rx) (omega arith);
          taken = subst (λ (x : Receiving). length x.taken ≤ x.avail) (sym rx) (omega arith);
        },
        (λ i. receiving_end (wt i) (rx i) (rn i)) ∙ ap (λ (x : ReceivingEnd). record x { end = fold takes x.end xs }) v,
        λ some_words. subst (λ (x : Receiving). IsFramed x.ring.max (fold takes x xs).taken) (sym take_same) (subst (IsFramed q.ring.max) (sym h.taken) (b.1 (subst (λ (i : ℕ). 0 < i) (sym long) some_words))),
      )
