-- The steps of the two ends of a ring keep a world sound. What is their own of each is proved in `ring_rule`.
use Rattle.std.proofs.Common.{◌≡◌, ℕ, ◌+◌, ◌<◌, false, [], ◌∷◌, ◌++◌, length, Option, refl, arith, mod-lt}
use Rattle.ring_rule.specs.Frames.{IsFramed}
use Rattle.ring_rule.specs.Ring.{Ring, Sending, Receiving, cell_of, place_of, count_word}
use Rattle.ring_rule.specs.Ends.{IsReadCount, IsWrittenCount, looks_read, puts, publishes, sender_leaves, sender_sees_flag, looks_written, looks_last, takes, gives_back, receiver_leaves, receiver_sees_flag}
use Rattle.ring_rule.proofs.Counts.{some_cells, read_count_is, written_count_is}
use Rattle.ring_rule.proofs.Sends.{looks_read_own, looks_read_paired, puts_own, puts_paired, puts_other, publishes_own, publishes_paired, publishes_other, sender_leaves_own, sender_leaves_paired, sender_leaves_other, sender_finds, sender_flag_own, sender_flag_paired}
use Rattle.ring_rule.proofs.Receives.{looks_written_own, looks_written_paired, looks_last_own, looks_last_paired, next_is, takes_own, takes_paired, gives_back_own, gives_back_paired, receiver_other, receiver_leaves_own, receiver_leaves_paired, receiver_finds, receiver_flag_own, receiver_flag_paired}
use Rattle.region_rule.specs.View.{Sender, Receiver}
use Rattle.region_rule.specs.Sound.{World, Sees, Sound}
use Rattle.region_rule.specs.Steps.{Finds, seen_anew, written_anew}
use Rattle.region_rule.proofs.Partners.{sender_writes, sender_looks, receiver_writes, receiver_looks, sender_of}

-- the word of a count has 64 bits
count_fits : (r : Ring) (n : ℕ) → count_word r n < 18446744073709551616
count_fits r n = mod-lt (r.start + n) (let e : 0 < 18446744073709551616 = omega arith in e)

pub loads_read : (w : World) (i x n : ℕ) (s : Sending) (t : Option Receiving) → Sound w → Sees w i (Sender s t) → Finds w (s.ring.base + 1) x → IsReadCount s x n
    → Sound (seen_anew w i (Sender (looks_read s n) t))
loads_read w i x n s t sound here found count =
    let own = sound.honest i (Sender s t) here in
    sender_looks w i s (looks_read s n) t sound here refl (looks_read_own w.words s n count.near own)
    (λ j q u at_j p. looks_read_paired w.words s t q u n (read_count_is w.words s t q u x n own (sound.honest j (Receiver q u) at_j) p found count) p)

pub stores_data : (w : World) (i x : ℕ) (s : Sending) (t : Option Receiving) → Sound w → Sees w i (Sender s t) → length s.put < s.room + s.ring.size → IsFramed s.ring.max (s.put ++ x ∷ [])
    → x < 18446744073709551616 → Sound (written_anew w (place_of s.ring (length s.put)) x i (Sender (puts s x) t))
stores_data w i x s t sound here room framed small =
    let own = sound.honest i (Sender s t) here in
    let below : cell_of s.ring (length s.put) < s.ring.size = mod-lt (s.ring.start + length s.put) (some_cells s.ring own.own.ring) in
    sender_writes w i (place_of s.ring (length s.put)) x s (puts s x) t sound small here refl (omega arith, omega arith) (puts_own w.words s x room framed own)
    (λ j q u at_j p h. (puts_other w.words s q x p.tied.same h, puts_paired w.words s t q u x room own.own p))

pub stores_written : (w : World) (i : ℕ) (s : Sending) (t : Option Receiving) → Sound w → Sees w i (Sender s t) → s.gone ≡ false
    → Sound (written_anew w s.ring.base (count_word s.ring (length s.put)) i (Sender (publishes s) t))
stores_written w i s t sound here stays =
    let own = sound.honest i (Sender s t) here in
    sender_writes w i s.ring.base (count_word s.ring (length s.put)) s (publishes s) t sound (count_fits s.ring (length s.put)) here refl (omega arith, omega arith) (publishes_own w.words s own)
    (λ j q u at_j p h. (publishes_other w.words s q (count_word s.ring (length s.put)) p.tied.same h, publishes_paired w.words s t q u stays own.own p))

pub loads_written : (w : World) (i x n : ℕ) (q : Receiving) (u : Option Sending) → Sound w → Sees w i (Receiver q u) → Finds w q.ring.base x → IsWrittenCount q x n
    → Sound (seen_anew w i (Receiver (looks_written q n) u))
loads_written w i x n q u sound here found count =
    let own = sound.honest i (Receiver q u) here in
    let other = sender_of w i q u sound here in
    let is = written_count_is w.words other.end other.told q u x n other.sending own other.paired found count in
    let more = other.paired.tied.avail in
    receiver_looks w i q (looks_written q n) u sound here refl (looks_written_own w.words q n (omega arith) own)
    (λ j s t at_j p. looks_written_paired w.words s t q u n (written_count_is w.words s t q u x n (sound.honest j (Sender s t) at_j) own p found count) p)

pub loads_last : (w : World) (i x n : ℕ) (q : Receiving) (u : Option Sending) → Sound w → Sees w i (Receiver q u) → q.flag_value ≡ 1 → Finds w q.ring.base x → IsWrittenCount q x n
    → Sound (seen_anew w i (Receiver (looks_last q n) u))
loads_last w i x n q u sound here one found count =
    let own = sound.honest i (Receiver q u) here in
    let other = sender_of w i q u sound here in
    let is = written_count_is w.words other.end other.told q u x n other.sending own other.paired found count in
    let more = other.paired.tied.avail in
    receiver_looks w i q (looks_last q n) u sound here refl (looks_last_own w.words q n (omega arith) own)
    (λ j s t at_j p. looks_last_paired w.words s t q u n (written_count_is w.words s t q u x n (sound.honest j (Sender s t) at_j) own p found count) one p)

pub loads_data : (w : World) (i x : ℕ) (q : Receiving) (u : Option Sending) → Sound w → Sees w i (Receiver q u) → length q.taken < q.avail → Finds w (place_of q.ring (length q.taken)) x
    → Sound (seen_anew w i (Receiver (takes q x) u))
loads_data w i x q u sound here below found =
    let own = sound.honest i (Receiver q u) here in
    receiver_looks w i q (takes q x) u sound here refl (takes_own w.words q x below own)
    (λ j s t at_j p. takes_paired w.words s t q u x (next_is w.words s t q u x (sound.honest j (Sender s t) at_j) own.own p below found) p)

pub stores_read : (w : World) (i : ℕ) (q : Receiving) (u : Option Sending) → Sound w → Sees w i (Receiver q u)
    → Sound (written_anew w (q.ring.base + 1) (count_word q.ring (length q.taken)) i (Receiver (gives_back q) u))
stores_read w i q u sound here =
    let own = sound.honest i (Receiver q u) here in
    receiver_writes w i (q.ring.base + 1) (count_word q.ring (length q.taken)) q (gives_back q) u sound (count_fits q.ring (length q.taken)) here refl (omega arith, omega arith) (gives_back_own w.words q own)
    (λ j s t at_j p h. (receiver_other w.words s q (q.ring.base + 1) (count_word q.ring (length q.taken)) p.tied.same (omega arith) (omega arith) h, gives_back_paired w.words s t q u own.own p))

pub stores_sender_flag : (w : World) (i : ℕ) (s : Sending) (t : Option Receiving) → Sound w → Sees w i (Sender s t) → Sound (written_anew w (s.ring.base + 2) 1 i (Sender (sender_leaves s) t))
stores_sender_flag w i s t sound here =
    sender_writes w i (s.ring.base + 2) 1 s (sender_leaves s) t sound (omega arith) here refl (omega arith, omega arith) (sender_leaves_own w.words s (sound.honest i (Sender s t) here))
    (λ j q u at_j p h. (sender_leaves_other w.words s q p.tied.same h, sender_leaves_paired w.words s t q u p))

pub stores_receiver_flag : (w : World) (i : ℕ) (q : Receiving) (u : Option Sending) → Sound w → Sees w i (Receiver q u) → Sound (written_anew w (q.ring.base + 2) 1 i (Receiver (receiver_leaves q) u))
stores_receiver_flag w i q u sound here =
    receiver_writes w i (q.ring.base + 2) 1 q (receiver_leaves q) u sound (omega arith) here refl (omega arith, omega arith) (receiver_leaves_own w.words q (sound.honest i (Receiver q u) here))
    (λ j s t at_j p h. (receiver_other w.words s q (q.ring.base + 2) 1 p.tied.same (omega arith) (omega arith) h, receiver_leaves_paired w.words s t q u p))

pub loads_sender_flag : (w : World) (i x : ℕ) (s : Sending) (t : Option Receiving) → Sound w → Sees w i (Sender s t) → s.gone ≡ false → Finds w (s.ring.base + 2) x
    → Sound (seen_anew w i (Sender (sender_sees_flag s x) t))
loads_sender_flag w i x s t sound here stays found =
    sender_looks w i s (sender_sees_flag s x) t sound here refl (sender_flag_own w.words s x (sound.honest i (Sender s t) here))
    (λ j q u at_j p. sender_flag_paired w.words s t q u x (sender_finds w.words s t q u x stays p found) p)

pub loads_receiver_flag : (w : World) (i x : ℕ) (q : Receiving) (u : Option Sending) → Sound w → Sees w i (Receiver q u) → q.gone ≡ false → Finds w (q.ring.base + 2) x
    → Sound (seen_anew w i (Receiver (receiver_sees_flag q x) u))
loads_receiver_flag w i x q u sound here stays found =
    receiver_looks w i q (receiver_sees_flag q x) u sound here refl (receiver_flag_own w.words q x (sound.honest i (Receiver q u) here))
    (λ j s t at_j p. receiver_flag_paired w.words s t q u x (receiver_finds w.words s t q u x stays p found) p)
