-- What a step of an end of a ring owes: its own rules, and those that tie it to the other end. The two ends of a ring
-- find each other.
use Rattle.std.proofs.Common.{◌≡◌, ◌≢◌, ℕ, suc, ◌+◌, ◌<◌, ◌≤◌, slice_set, Option, refl, sym, ap, subst, ◌∙◌, arith}
use mathlib.Core.Option.{some, some-injective}
use mathlib.Core.Logic.{dite}
use native.Mathlib.Decide.{ℕ_discrete, dec_le}
use lib.ListN.{get_elem?}
use Rattle.ring_rule.specs.Ring.{Ring, Sending, Receiving, InRing, IsSending, IsReceiving, ArePaired}
use Rattle.ring_rule.proofs.Stored.{receiving_set}
use Rattle.region_rule.specs.View.{View, Own, Frozen, Sender, Receiver, Done, Spent, Sends, Receives, role}
use Rattle.region_rule.specs.Sound.{World, Sees, Honest, Beside, Sound}
use Rattle.region_rule.specs.Steps.{seen_anew, written_anew}
use Rattle.region_rule.proofs.Turns.{turn, turn_still, words_set}
use Rattle.region_rule.proofs.Apart.{honest_set, thirds_set}

-- a word that an end writes: what the other end has to be told
sender_beside : (w : World) (j k n : ℕ) (s s' : Sending) (t : Option Receiving) → s'.ring ≡ s.ring → InRing s.ring k
    → ((q : Receiving) (u : Option Sending) → Sees w j (Receiver q u) → ArePaired w.words s t q u → IsReceiving w.words q → IsReceiving (slice_set w.words k n) q × ArePaired (slice_set w.words k n) s' t q u)
    → (x : View) → Sees w j x → Beside w.words (Sender s t) x → Honest w.words x
    → Honest (slice_set w.words k n) x × Beside (slice_set w.words k n) (Sender s' t) x × Beside (slice_set w.words k n) x (Sender s' t)
sender_beside w j k n s s' t ring inside other (Receiver q u) at_j b h = (
  dite (ℕ_discrete k (q.ring.base + 1))
      (λ (e : k ≡ q.ring.base + 1). (other q u at_j (b k inside (omega arith, omega arith)) h).0)
      (λ (ne : k ≢ q.ring.base + 1). receiving_set w.words k n q ne h),
  λ i hs hx. (other q u at_j (b i (subst (λ r. InRing r i) ring hs) hx) h).1,
  λ i hx hs. (other q u at_j (b i (subst (λ r. InRing r i) ring hs) hx) h).1,
)
sender_beside w j k n s s' t ring inside other x at_j b h = (
  honest_set w.words k n x (λ g. b k inside g) h,
  λ i hs hx. absurd (b i (subst (λ r. InRing r i) ring hs) hx),
  λ i hx hs. absurd (b i (subst (λ r. InRing r i) ring hs) hx),
)

-- a step of the sender that writes a word of the ring: it has to be honest, and the receiver has to go on
pub sender_writes : (w : World) (i k n : ℕ) (s s' : Sending) (t : Option Receiving) → Sound w → n < 18446744073709551616 → Sees w i (Sender s t) → s'.ring ≡ s.ring → InRing s.ring k
    → IsSending (slice_set w.words k n) s'
    → ((j : ℕ) (q : Receiving) (u : Option Sending) → Sees w j (Receiver q u) → ArePaired w.words s t q u → IsReceiving w.words q → IsReceiving (slice_set w.words k n) q × ArePaired (slice_set w.words k n) s' t q u)
    → Sound (written_anew w k n i (Sender s' t))
sender_writes w i k n s s' t sound small here ring inside own other = turn w i (Sender s t) (Sender s' t) (slice_set w.words k n) sound (words_set w.words k n sound.fits small) here (ap Sends ring) own
    (λ j x ne at_j b h. sender_beside w j k n s s' t ring inside (other j) x at_j b h)
    (thirds_set w i (Sender s t) k n sound here tt inside)

sender_beside_still : (w : World) (j : ℕ) (s s' : Sending) (t : Option Receiving) → s'.ring ≡ s.ring
    → ((q : Receiving) (u : Option Sending) → Sees w j (Receiver q u) → ArePaired w.words s t q u → ArePaired w.words s' t q u)
    → (x : View) → Sees w j x → Beside w.words (Sender s t) x → Beside w.words (Sender s' t) x × Beside w.words x (Sender s' t)
sender_beside_still w j s s' t ring other (Receiver q u) at_j b = (
  λ i hs hx. other q u at_j (b i (subst (λ r. InRing r i) ring hs) hx),
  λ i hx hs. other q u at_j (b i (subst (λ r. InRing r i) ring hs) hx),
)
sender_beside_still w j s s' t ring other x at_j b = (
  λ i hs hx. absurd (b i (subst (λ r. InRing r i) ring hs) hx),
  λ i hx hs. absurd (b i (subst (λ r. InRing r i) ring hs) hx),
)

-- a step of the sender that writes no word
pub sender_looks : (w : World) (i : ℕ) (s s' : Sending) (t : Option Receiving) → Sound w → Sees w i (Sender s t) → s'.ring ≡ s.ring → IsSending w.words s'
    → ((j : ℕ) (q : Receiving) (u : Option Sending) → Sees w j (Receiver q u) → ArePaired w.words s t q u → ArePaired w.words s' t q u)
    → Sound (seen_anew w i (Sender s' t))
sender_looks w i s s' t sound here ring own other = turn_still w i (Sender s t) (Sender s' t) sound here (ap Sends ring) own
    (λ j x ne at_j b. sender_beside_still w j s s' t ring (other j) x at_j b)

dec_ring : (r : Ring) (k : ℕ) → Dec (InRing r k)
dec_ring r k = dite (dec_le r.base k)
    (λ (a : r.base ≤ k). dite (dec_le (suc k) (r.base + 3 + r.size)) (λ (b : suc k ≤ r.base + 3 + r.size). yes (a, b)) (λ nb. no (λ (p : InRing r k). nb p.1)))
    (λ na. no (λ (p : InRing r k). na p.0))

receiver_beside : (w : World) (j k n : ℕ) (q q' : Receiving) (u : Option Sending) → q'.ring ≡ q.ring → InRing q.ring k
    → ((s : Sending) (t : Option Receiving) → Sees w j (Sender s t) → ArePaired w.words s t q u → IsSending w.words s → IsSending (slice_set w.words k n) s × ArePaired (slice_set w.words k n) s t q' u)
    → (x : View) → Sees w j x → Beside w.words (Receiver q u) x → Honest w.words x
    → Honest (slice_set w.words k n) x × Beside (slice_set w.words k n) (Receiver q' u) x × Beside (slice_set w.words k n) x (Receiver q' u)
receiver_beside w j k n q q' u ring inside other (Sender s t) at_j b h = (
  dite (dec_ring s.ring k)
      (λ (d : InRing s.ring k). (other s t at_j (b k inside d) h).0)
      (λ none. honest_set w.words k n (Sender s t) none h),
  λ i hs hx. (other s t at_j (b i (subst (λ r. InRing r i) ring hs) hx) h).1,
  λ i hx hs. (other s t at_j (b i (subst (λ r. InRing r i) ring hs) hx) h).1,
)
receiver_beside w j k n q q' u ring inside other x at_j b h = (
  honest_set w.words k n x (λ g. b k inside g) h,
  λ i hs hx. absurd (b i (subst (λ r. InRing r i) ring hs) hx),
  λ i hx hs. absurd (b i (subst (λ r. InRing r i) ring hs) hx),
)

-- a step of the receiver that writes a word of the ring
pub receiver_writes : (w : World) (i k n : ℕ) (q q' : Receiving) (u : Option Sending) → Sound w → n < 18446744073709551616 → Sees w i (Receiver q u) → q'.ring ≡ q.ring → InRing q.ring k
    → IsReceiving (slice_set w.words k n) q'
    → ((j : ℕ) (s : Sending) (t : Option Receiving) → Sees w j (Sender s t) → ArePaired w.words s t q u → IsSending w.words s → IsSending (slice_set w.words k n) s × ArePaired (slice_set w.words k n) s t q' u)
    → Sound (written_anew w k n i (Receiver q' u))
receiver_writes w i k n q q' u sound small here ring inside own other = turn w i (Receiver q u) (Receiver q' u) (slice_set w.words k n) sound (words_set w.words k n sound.fits small) here (ap Receives ring) own
    (λ j x ne at_j b h. receiver_beside w j k n q q' u ring inside (other j) x at_j b h)
    (thirds_set w i (Receiver q u) k n sound here tt inside)

receiver_beside_still : (w : World) (j : ℕ) (q q' : Receiving) (u : Option Sending) → q'.ring ≡ q.ring
    → ((s : Sending) (t : Option Receiving) → Sees w j (Sender s t) → ArePaired w.words s t q u → ArePaired w.words s t q' u)
    → (x : View) → Sees w j x → Beside w.words (Receiver q u) x → Beside w.words (Receiver q' u) x × Beside w.words x (Receiver q' u)
receiver_beside_still w j q q' u ring other (Sender s t) at_j b = (
  λ i hs hx. other s t at_j (b i (subst (λ r. InRing r i) ring hs) hx),
  λ i hx hs. other s t at_j (b i (subst (λ r. InRing r i) ring hs) hx),
)
receiver_beside_still w j q q' u ring other x at_j b = (
  λ i hs hx. absurd (b i (subst (λ r. InRing r i) ring hs) hx),
  λ i hx hs. absurd (b i (subst (λ r. InRing r i) ring hs) hx),
)

-- a step of the receiver that writes no word
pub receiver_looks : (w : World) (i : ℕ) (q q' : Receiving) (u : Option Sending) → Sound w → Sees w i (Receiver q u) → q'.ring ≡ q.ring → IsReceiving w.words q'
    → ((j : ℕ) (s : Sending) (t : Option Receiving) → Sees w j (Sender s t) → ArePaired w.words s t q u → ArePaired w.words s t q' u)
    → Sound (seen_anew w i (Receiver q' u))
receiver_looks w i q q' u sound here ring own other = turn_still w i (Receiver q u) (Receiver q' u) sound here (ap Receives ring) own
    (λ j x ne at_j b. receiver_beside_still w j q q' u ring (other j) x at_j b)

-- a token whose role is that of a sender is one
pub sends_only : (x : View) (r : Ring) → role x ≡ Sends r → (s : Sending) × (t : Option Receiving) × (x ≡ Sender s t) × (s.ring ≡ r)
sends_only (Sender s t) r e = (s, t, refl, cc)
sends_only (Receiver q u) r e = cc
sends_only (Own m o) r e = cc
sends_only (Frozen m) r e = cc
sends_only (Done m s q) r e = cc
sends_only Spent r e = cc

pub receives_only : (x : View) (r : Ring) → role x ≡ Receives r → (q : Receiving) × (u : Option Sending) × (x ≡ Receiver q u) × (q.ring ≡ r)
receives_only (Receiver q u) r e = (q, u, refl, cc)
receives_only (Sender s t) r e = cc
receives_only (Own m o) r e = cc
receives_only (Frozen m) r e = cc
receives_only (Done m s q) r e = cc
receives_only Spent r e = cc

-- two ends of one ring are ends together
pub are_paired : (w : World) (i j : ℕ) (s : Sending) (t : Option Receiving) (q : Receiving) (u : Option Sending) → Sound w → Sees w i (Sender s t) → Sees w j (Receiver q u) → s.ring ≡ q.ring → ArePaired w.words s t q u
are_paired w i j s t q u sound a b same = dite (ℕ_discrete i j)
    (λ (e : i ≡ j). let f : Sender s t ≡ Receiver q u = some-injective (Sender s t) (Receiver q u) (sym a ∙ ap (get_elem? w.views) e ∙ b) in cc)
    (λ (n : i ≢ j). let h : InRing s.ring s.ring.base = (omega arith, omega arith) in
    sound.apart i j (Sender s t) (Receiver q u) n a b s.ring.base h (subst (λ (r : Ring). InRing r s.ring.base) same h))

-- the other end of a sender's ring, and of a receiver's
pub record HasReceiver (w : World) (i : ℕ) (s : Sending) (t : Option Receiving) : Type 0 where
  pub token : ℕ
  pub end : Receiving
  pub told : Option Sending
  pub there : Sees w token (Receiver end told)
  pub paired : ArePaired w.words s t end told
  pub receiving : IsReceiving w.words end

pub record HasSender (w : World) (i : ℕ) (q : Receiving) (u : Option Sending) : Type 0 where
  pub token : ℕ
  pub end : Sending
  pub told : Option Receiving
  pub there : Sees w token (Sender end told)
  pub paired : ArePaired w.words end told q u
  pub sending : IsSending w.words end

pub receiver_of : (w : World) (i : ℕ) (s : Sending) (t : Option Receiving) → Sound w → Sees w i (Sender s t) → HasReceiver w i s t
receiver_of w i s t sound here =
    let p = sound.paired i (Sender s t) here in
    let r = receives_only p.1 s.ring p.3 in
    let there : Sees w p.0 (Receiver r.0 r.1) = p.2 ∙ ap some r.2 in
    record {
      token = p.0;
      end = r.0;
      told = r.1;
      there = there;
      paired = are_paired w i p.0 s t r.0 r.1 sound here there (sym r.3);
      receiving = sound.honest p.0 (Receiver r.0 r.1) there;
    }

pub sender_of : (w : World) (i : ℕ) (q : Receiving) (u : Option Sending) → Sound w → Sees w i (Receiver q u) → HasSender w i q u
sender_of w i q u sound here =
    let p = sound.paired i (Receiver q u) here in
    let r = sends_only p.1 q.ring p.3 in
    let there : Sees w p.0 (Sender r.0 r.1) = p.2 ∙ ap some r.2 in
    record {
      token = p.0;
      end = r.0;
      told = r.1;
      there = there;
      paired = are_paired w p.0 i r.0 r.1 q u sound there here r.3;
      sending = sound.honest p.0 (Sender r.0 r.1) there;
    }

-- a ring has a word, so two tokens of one role would hold it together
pub one_receiver : (w : World) (i j : ℕ) (p q : Receiving) (t u : Option Sending) → Sound w → Sees w i (Receiver p t) → Sees w j (Receiver q u) → p.ring ≡ q.ring → i ≡ j
one_receiver w i j p q t u sound a b same = dite (ℕ_discrete i j) (λ e. e)
    (λ (n : i ≢ j). let h : InRing p.ring p.ring.base = (omega arith, omega arith) in
    absurd (sound.apart i j (Receiver p t) (Receiver q u) n a b p.ring.base h (subst (λ (r : Ring). InRing r p.ring.base) same h)))

pub one_sender : (w : World) (i j : ℕ) (r s : Sending) (t u : Option Receiving) → Sound w → Sees w i (Sender r t) → Sees w j (Sender s u) → r.ring ≡ s.ring → i ≡ j
one_sender w i j r s t u sound a b same = dite (ℕ_discrete i j) (λ e. e)
    (λ (n : i ≢ j). let h : InRing r.ring r.ring.base = (omega arith, omega arith) in
    absurd (sound.apart i j (Sender r t) (Sender s u) n a b r.ring.base h (subst (λ (x : Ring). InRing x r.ring.base) same h)))
