-- Two ends of a ring come, meet, and part.
use Rattle.std.proofs.Common.{◌≡◌, ◌≢◌, ℕ, zero, suc, ◌+◌, ◌-◌, ◌<◌, ◌≤◌, ◌||◌, List, [], ◌∷◌, ◌++◌, slice_set, length, Option, Some, None, IsSome, unwrap_or, refl, sym, ap, subst, ◌∙◌, ⊎_elim, arith, le_refl}
use mathlib.Core.Option.{some, some-injective, some-ne-none}
use mathlib.Core.Logic.{dite}
use native.Mathlib.Decide.{ℕ_discrete}
use lib.ListN.{get_elem?}
use Rattle.atomic_table.proofs.Lists.{at_set, at_longer, at_last, set_here, set_else}
use Rattle.word_map.specs.WordMap.{WordMap, at, Has, HasJust, values_from}
use Rattle.word_map.proofs.Maps.{numbered_from, numbered_at, just_has}
use Rattle.ring_rule.specs.Frames.{IsFramed}
use Rattle.ring_rule.specs.Ring.{Ring, Sending, Receiving, InRing, IsSending, IsReceiving, ArePaired, AreEnds, count_word, flag_word, ring_words}
use Rattle.ring_rule.specs.Ends.{first_sending, first_receiving}
use Rattle.ring_rule.proofs.Counts.{some_cells}
use Rattle.ring_rule.proofs.Stored.{in_list, has_at, snoc_place}
use Rattle.region_rule.specs.RingMap.{ring_map, IsFresh}
use Rattle.region_rule.specs.View.{View, Own, Sender, Receiver, Done, Spent, Holds, MayShare, Olds, Role, Neither, Sends, Receives, role, partner}
use Rattle.region_rule.specs.Sound.{World, Sees, Agrees, Honest, Beside, HasPartner, Sound}
use Rattle.region_rule.specs.Steps.{seen_anew, cut_anew, joined_anew}
use Rattle.region_rule.proofs.Turns.{set_swap, Plain, plain, turn_plain, arrive_plain, turn_still}
use Rattle.region_rule.proofs.Partners.{sends_only, receives_only}

no_partner : (r : Role) → partner r ≡ Neither → r ≡ Neither
no_partner Neither e = refl
no_partner (Sends r) e = cc
no_partner (Receives r) e = cc

-- one token becomes the two ends of a ring
pub new_ends : (w : World) (i : ℕ) (u : View) (s : Sending) (t : Option Receiving) (q : Receiving) (v : Option Sending) → Sound w → Sees w i u → role u ≡ Neither
    → ((k : ℕ) → InRing s.ring k → Holds u k) → ((x : View) (k : ℕ) → MayShare w.words u x k → ⊥)
    → IsSending w.words s → IsReceiving w.words q → ArePaired w.words s t q v
    → Sound (cut_anew w i (Sender s t) (Receiver q v))
new_ends w i u s t q v sound here neither holds alone sending receiving ends =
    let one : Plain (seen_anew w i (Sender s t)) = turn_plain w i u (Sender s t) w.words (plain w sound) sound.fits here sending
    (λ j x n at_j b h. (h, λ k a c. absurd (alone x k (b k (holds k a) c)), λ k c a. absurd (alone x k (b k (holds k a) c))))
    (λ a b x y _ _ _ _ _ c. c) in
    let back : (k : ℕ) → InRing q.ring k → InRing s.ring k = λ k. subst (λ (r : Ring). InRing r k) (sym ends.tied.same) in
    let two = arrive_plain (seen_anew w i (Sender s t)) (Receiver q v) one receiving
    (λ j x at_j. ⊎_elim
    (λ (p : (j ≡ i) × (Sender s t ≡ x)). subst (λ z. Beside w.words (Receiver q v) z × Beside w.words z (Receiver q v)) p.1 (λ k a c. ends, λ k a c. ends))
    (λ (p : (j ≢ i) × Sees w j x).
    let b : Beside w.words u x = sound.apart i j u x (λ e. p.0 (sym e)) here p.1 in
    (λ k a c. absurd (alone x k (b k (holds k (back k a)) c)), λ k c a. absurd (alone x k (b k (holds k (back k a)) c))))
    (at_set w.views i j (Sender s t) x at_j)) in
    record {
      fits = two.fits;
      honest = two.honest;
      apart = two.apart;
      paired = λ k x e. ⊎_elim
          (λ (p : Sees (seen_anew w i (Sender s t)) k x). ⊎_elim
          (λ (a : (k ≡ i) × (Sender s t ≡ x)). (count, Receiver q v, at_last (slice_set w.views i (Sender s t)) (Receiver q v) count refl, ap Receives (sym ends.tied.same) ∙ ap (λ z. partner (role z)) a.1))
          (λ (a : (k ≢ i) × Sees w k x). old k x a.0 a.1 (sound.paired k x a.1))
          (at_set w.views i k (Sender s t) x p))
          (λ (p : (k ≡ count) × (Receiver q v ≡ x)). (i, Sender s t, at_longer (slice_set w.views i (Sender s t)) (Receiver q v ∷ []) i (Sender s t) now, ap Sends ends.tied.same ∙ ap (λ z. partner (role z)) p.1))
          (snoc_place (slice_set w.views i (Sender s t)) (Receiver q v) x k e);
    }
  where
    count : ℕ
    count = length (slice_set w.views i (Sender s t))

    now : get_elem? (slice_set w.views i (Sender s t)) i ≡ some (Sender s t)
    now = set_here w.views i (Sender s t) (in_list w.views i u here)

    old : (k : ℕ) (x : View) → k ≢ i → Sees w k x → HasPartner w x → HasPartner record { words = w.words; views = slice_set w.views i (Sender s t) ++ Receiver q v ∷ [] } x
    old k x n at_k h = dite (ℕ_discrete h.0 i)
        (λ (e : h.0 ≡ i).
        let same : h.1 ≡ u = some-injective h.1 u (sym h.2 ∙ ap (get_elem? w.views) e ∙ here) in
        let none : role x ≡ Neither = no_partner (role x) (sym h.3 ∙ (ap role same ∙ neither)) in
        (k, x, at_longer (slice_set w.views i (Sender s t)) (Receiver q v ∷ []) k x (set_else w.views i k (Sender s t) n ∙ at_k), none ∙ sym (ap partner none)))
        (λ (ne : h.0 ≢ i). (h.0, h.1, at_longer (slice_set w.views i (Sender s t)) (Receiver q v ∷ []) h.0 h.1 (set_else w.views i h.0 (Sender s t) ne ∙ h.2), h.3))

value_is : (o : Option ℕ) → IsSome o → o ≡ Some (unwrap_or o 0)
value_is (Some x) h = refl
value_is None h = cc

values_at : (m : WordMap) (k n i x : ℕ) → get_elem? (values_from m k n) i ≡ some x → (i < n) × (unwrap_or (at m (k + i)) 0 ≡ x)
values_at m k zero i x e = absurd (some-ne-none x (sym e))
values_at m k (suc n) zero x e = (omega arith, ap (λ (j : ℕ). unwrap_or (at m j) 0) (let z : k + 0 ≡ k = omega arith in z) ∙ some-injective (unwrap_or (at m k) 0) x e)
values_at m k (suc n) (suc i) x e =
    let p = values_at m (suc k) n i x e in
    (omega (arith, p.0), ap (λ (j : ℕ). unwrap_or (at m j) 0) (let z : k + suc i ≡ suc k + i = omega arith in z) ∙ p.1)

length-values : (m : WordMap) (k n : ℕ) → length (values_from m k n) ≡ n
length-values m k zero = refl
length-values m k (suc n) = ap suc (length-values m (suc k) n)

pub framed_nothing : (max : ℕ) → IsFramed max []
unfolding IsFramed
framed_nothing max = ([], [], λ k d l. absurd (omega arith), refl)

value_at : (m : WordMap) (from len k : ℕ) → HasJust m from len → from ≤ k → k < from + len → at m k ≡ Some (unwrap_or (at m k) 0)
value_at m from len k h a b = value_is (at m k) (just_has m from len k h a b)

-- an owner of just a ring makes its ends
pub makes_ring : (w : World) (i : ℕ) (r : Ring) (m : WordMap) (o : Olds) → Sound w → Sees w i (Own m o) → IsFresh m r
    → Sound (cut_anew w i (Sender (first_sending r (values_from m (r.base + 3) r.size)) None) (Receiver (first_receiving r) None))
makes_ring w i r m o sound here fresh =
    let a : Agrees w.words m = (sound.honest i (Own m o) here).0 in
    let more = some_cells r fresh.ring in
    new_ends w i (Own m o) (first_sending r (values_from m (r.base + 3) r.size)) None (first_receiving r) None sound here refl
    (λ k p. let b = p.0 in let c = p.1 in (unwrap_or (at m k) 0, value_at m r.base (r.size + 3) k fresh.just b (omega arith)))
    (λ x k b. b)
    record {
      own = record {
        ring = fresh.ring;
        counted = length-values m (r.base + 3) r.size;
        published = le_refl 0;
        room = omega arith;
        framed = framed_nothing r.max;
      };
      written = a r.base (count_word r 0) fresh.written;
      stored = λ j x e. let p = values_at m (r.base + 3) r.size j x e in let l = p.0 in
          a (r.base + 3 + j) x (value_at m r.base (r.size + 3) (r.base + 3 + j) fresh.just (omega arith) (omega arith) ∙ ap Some p.1);
    }
    record { own = record { ring = fresh.ring; returned = le_refl 0; taken = le_refl 0 }; read = a (r.base + 1) (count_word r 0) fresh.read }
    record {
      tied = record {
        same = refl;
        cells = λ j x from e. absurd (some-ne-none x (sym e));
        taken = ([], refl);
        avail = le_refl 0;
        room = le_refl 0;
        sender_flag = λ e. absurd (omega arith);
        receiver_flag = λ e. absurd (omega arith);
        final = λ e. cc;
      };
      flag = a (r.base + 2) 0 fresh.flag;
      told_sender = tt;
      told_receiver = tt;
    }

-- the ends are joined
ring_row : (words : List ℕ) (s : Sending) (t : Option Receiving) (q : Receiving) (u : Option Sending) → IsSending words s → IsReceiving words q → ArePaired words s t q u
    → (i x k : ℕ) → k ≡ s.ring.base + i → get_elem? (ring_words s q) i ≡ some x → get_elem? words k ≡ some x
ring_row words s t q u a b c zero x k e f = ap (get_elem? words) (let z : k ≡ s.ring.base = omega arith in z) ∙ (a.written ∙ f)
ring_row words s t q u a b c (suc zero) x k e f =
    let g : s.ring.base ≡ q.ring.base = ap (λ (r : Ring). r.base) c.tied.same in
    ap (get_elem? words) (let z : k ≡ q.ring.base + 1 = omega arith in z) ∙ (b.read ∙ (ap (λ (r : Ring). some (count_word r q.returned)) (sym c.tied.same) ∙ f))
ring_row words s t q u a b c (suc (suc zero)) x k e f = ap (get_elem? words) (let z : k ≡ s.ring.base + 2 = omega arith in z) ∙ (c.flag ∙ f)
ring_row words s t q u a b c (suc (suc (suc i))) x k e f = ap (get_elem? words) (let z : k ≡ s.ring.base + 3 + i = omega arith in z) ∙ a.stored i x f

-- the words have the values of the ring's map
agrees_ring : (words : List ℕ) (s : Sending) (t : Option Receiving) (q : Receiving) (u : Option Sending) → IsSending words s → IsReceiving words q → ArePaired words s t q u → Agrees words (ring_map s q)
agrees_ring words s t q u a b c k x e =
    let p = numbered_from (ring_words s q) s.ring.base k x e in
    ring_row words s t q u a b c (k - s.ring.base) x k (omega (arith, p.0)) p.1

ring_value : (words : List ℕ) (s : Sending) (q : Receiving) (i x k : ℕ) → Agrees words (ring_map s q) → k ≡ s.ring.base + i → get_elem? (ring_words s q) i ≡ some x → get_elem? words k ≡ some x
ring_value words s q i x k g e f = g k x (numbered_at (ring_words s q) s.ring.base i x k e f)

-- and back: where they have them, the two ends have their words
sending_again : (words : List ℕ) (s : Sending) (q : Receiving) → Agrees words (ring_map s q) → AreEnds s q → IsSending words s
sending_again words s q g ends = record {
  own = ends.sender;
  written = ring_value words s q 0 (count_word s.ring s.published) s.ring.base g (omega arith) refl;
  stored = λ i x e. ring_value words s q (suc (suc (suc i))) x (s.ring.base + 3 + i) g (omega arith) e;
}

receiving_again : (words : List ℕ) (s : Sending) (q : Receiving) → Agrees words (ring_map s q) → AreEnds s q → IsReceiving words q
receiving_again words s q g ends =
    let f : s.ring.base ≡ q.ring.base = ap (λ (r : Ring). r.base) ends.tied.same in
    record {
      own = ends.receiver;
      read = ring_value words s q 1 (count_word q.ring q.returned) (q.ring.base + 1) g (omega arith) (ap (λ (r : Ring). some (count_word r q.returned)) ends.tied.same);
    }

paired_again : (words : List ℕ) (s : Sending) (q : Receiving) → Agrees words (ring_map s q) → AreEnds s q → ArePaired words s (Some q) q (Some s)
paired_again words s q g ends = record {
  tied = ends.tied;
  flag = ring_value words s q 2 (flag_word (s.gone || q.gone)) (s.ring.base + 2) g (omega arith) refl;
  told_sender = record { ring = refl; returned = le_refl q.returned; avail = le_refl q.avail; gone = λ g. g };
  told_receiver = record { ring = refl; published = le_refl s.published; room = le_refl s.room; gone = λ g. g };
}

pub covers : (s : Sending) (q : Receiving) → length s.cells ≡ s.ring.size → (k : ℕ) → InRing s.ring k → Has (ring_map s q) k
covers s q l k p =
    let d = p.0 in
    let e = p.1 in
    let i : ℕ = k - s.ring.base in
    let y = has_at (ring_words s q) i (omega arith) in
    (y.0, numbered_at (ring_words s q) s.ring.base i y.0 k (omega arith) y.1)

pub in_ring : (s : Sending) (q : Receiving) (k : ℕ) → length s.cells ≡ s.ring.size → Has (ring_map s q) k → InRing s.ring k
in_ring s q k l h =
    let p = numbered_from (ring_words s q) s.ring.base k h.0 h.1 in
    let b = in_list (ring_words s q) (k - s.ring.base) h.0 p.1 in
    (p.0, omega (arith, p.0))

-- no other token shares with both ends
no_both : (words : List ℕ) (s : Sending) (t : Option Receiving) (q : Receiving) (u : Option Sending) (x : View) (k : ℕ) → MayShare words (Sender s t) x k → MayShare words (Receiver q u) x k → ⊥
no_both words s t q u (Receiver p v) k a b = b
no_both words s t q u x k a b = a

pub partner_back : (a b : Role) → a ≡ partner b → b ≡ partner a
partner_back a Neither e = sym (ap partner e)
partner_back a (Sends r) e = sym (ap partner e)
partner_back a (Receives r) e = sym (ap partner e)

pub joins_ends : (w : World) (i j : ℕ) (s : Sending) (t : Option Receiving) (q : Receiving) (u : Option Sending) → Sound w → Sees w i (Sender s t) → Sees w j (Receiver q u) → s.ring ≡ q.ring → j ≢ i
    → Sound (joined_anew w i (Done (ring_map s q) s q) j)
joins_ends w i j s t q u sound here there same apart =
    let both : ArePaired w.words s t q u = sound.apart i j (Sender s t) (Receiver q u) (λ e. apart (sym e)) here there s.ring.base (omega arith, omega arith) (subst (λ (r : Ring). InRing r s.ring.base) same (omega arith, omega arith)) in
    let a = sound.honest i (Sender s t) here in
    let b = sound.honest j (Receiver q u) there in
    let done : View = Done (ring_map s q) s q in
    let w' : World = seen_anew w j Spent in
    let one : Plain w' = turn_plain w j (Receiver q u) Spent w.words (plain w sound) sound.fits there tt (λ k x ne at_k b h. (h, λ n c d. absurd c, λ n c d. absurd d)) (λ _ _ _ _ _ _ _ _ _ c. c) in
    let here' : Sees w' i (Sender s t) = set_else w.views j i Spent (λ e. apart (sym e)) ∙ here in
    let two : Plain (seen_anew w' i done) = turn_plain w' i (Sender s t) done w.words one sound.fits here'
    (agrees_ring w.words s t q u a b both, refl, record { sender = a.own; receiver = b.own; tied = both.tied })
    (λ k x ne at_k c h. ⊎_elim
    (λ (p : (k ≡ j) × (Spent ≡ x)). subst (λ z. Honest w.words z × Beside w.words done z × Beside w.words z done) p.1 (tt, λ n d e. absurd e, λ n d e. absurd d))
    (λ (p : (k ≢ j) × Sees w k x).
    let no : (n : ℕ) → Has (ring_map s q) n → Holds x n → ⊥ = λ n d e.
    let r = in_ring s q n a.own.counted d in
    no_both w.words s t q u x n (c n r e) (sound.apart j k (Receiver q u) x (λ z. p.0 (sym z)) there p.1 n (subst (λ (z : Ring). InRing z n) same r) e) in
    (h, λ n d e. absurd (no n d e), λ n e d. absurd (no n d e)))
    (at_set w.views j k Spent x at_k))
    (λ _ _ _ _ _ _ _ _ _ c. c) in
    let three : Sound (seen_anew w' i done) = record {
      fits = two.fits;
      honest = two.honest;
      apart = two.apart;
      paired = λ k y e. ⊎_elim
          (λ (p : (k ≡ i) × (done ≡ y)). (k, y, e, ap role (sym p.1) ∙ ap (λ z. partner (role z)) p.1))
          (λ (p : (k ≢ i) × (get_elem? (slice_set w.views j Spent) k ≡ some y)). ⊎_elim
          (λ (r : (k ≡ j) × (Spent ≡ y)). (k, y, e, ap role (sym r.1) ∙ ap (λ z. partner (role z)) r.1))
          (λ (r : (k ≢ j) × Sees w k y). others k y p.0 r.0 r.1 (sound.paired k y r.1))
          (at_set w.views j k Spent y p.1))
          (at_set (slice_set w.views j Spent) i k done y e);
    } in
    subst (λ vs. Sound record { words = w.words; views = vs }) (sym (set_swap w.views i j done Spent apart)) three
  where
    after : World
    after = seen_anew (seen_anew w j Spent) i (Done (ring_map s q) s q)

    others : (k : ℕ) (y : View) → k ≢ i → k ≢ j → Sees w k y → HasPartner w y → HasPartner (seen_anew (seen_anew w j Spent) i (Done (ring_map s q) s q)) y
    others k y ki kj at_k h = dite (ℕ_discrete h.0 i)
        (λ (e : h.0 ≡ i).
        let is : h.1 ≡ Sender s t = some-injective h.1 (Sender s t) (sym h.2 ∙ ap (get_elem? w.views) e ∙ here) in
        let r = receives_only y s.ring (partner_back (Sends s.ring) (role y) (sym (ap role is) ∙ h.3)) in
        let at_k' : Sees w k (Receiver r.0 r.1) = at_k ∙ ap some r.2 in
        let in_q : InRing q.ring s.ring.base = subst (λ (z : Ring). InRing z s.ring.base) same (omega arith, omega arith) in
        let in_r : InRing r.0.ring s.ring.base = subst (λ (z : Ring). InRing z s.ring.base) (sym r.3) (omega arith, omega arith) in
        absurd (sound.apart j k (Receiver q u) (Receiver r.0 r.1) (λ z. kj (sym z)) there at_k' s.ring.base in_q in_r))
        (λ (ne : h.0 ≢ i). dite (ℕ_discrete h.0 j)
        (λ (e : h.0 ≡ j).
        let is : h.1 ≡ Receiver q u = some-injective h.1 (Receiver q u) (sym h.2 ∙ ap (get_elem? w.views) e ∙ there) in
        let r = sends_only y q.ring (partner_back (Receives q.ring) (role y) (sym (ap role is) ∙ h.3)) in
        let at_k' : Sees w k (Sender r.0 r.1) = at_k ∙ ap some r.2 in
        let in_s : InRing s.ring q.ring.base = subst (λ (z : Ring). InRing z q.ring.base) (sym same) (omega arith, omega arith) in
        let in_r : InRing r.0.ring q.ring.base = subst (λ (z : Ring). InRing z q.ring.base) (sym r.3) (omega arith, omega arith) in
        absurd (sound.apart i k (Sender s t) (Sender r.0 r.1) (λ z. ki (sym z)) here at_k' q.ring.base in_s in_r))
        (λ (nf : h.0 ≢ j). (h.0, h.1, set_else (slice_set w.views j Spent) i h.0 (Done (ring_map s q) s q) ne ∙ (set_else w.views j h.0 Spent nf ∙ h.2), h.3)))

-- the joined ends
pub loads_done : (w : World) (i : ℕ) (m : WordMap) (s : Sending) (q : Receiving) → Sound w → Sees w i (Done m s q) → Sound (seen_anew w i (Done m s q))
loads_done w i m s q sound here = turn_still w i (Done m s q) (Done m s q) sound here refl (sound.honest i (Done m s q) here)
    (λ j x n at_j b. (b, sound.apart j i x (Done m s q) n at_j here))

pub ends_done : (w : World) (i : ℕ) (m : WordMap) (s : Sending) (q : Receiving) → Sound w → Sees w i (Done m s q) → Sound (seen_anew w i (Own m None))
ends_done w i m s q sound here = turn_still w i (Done m s q) (Own m None) sound here refl ((sound.honest i (Done m s q) here).0, tt)
    (λ j x n at_j b. (λ k h g. absurd (b k h g), λ k g h. absurd (b k h g)))

pub parts_again : (w : World) (i : ℕ) (m : WordMap) (s : Sending) (q : Receiving) → Sound w → Sees w i (Done m s q) → Sound (cut_anew w i (Sender s (Some q)) (Receiver q (Some s)))
parts_again w i m s q sound here =
    let h = sound.honest i (Done m s q) here in
    let g : Agrees w.words (ring_map s q) = subst (Agrees w.words) h.1 h.0 in
    new_ends w i (Done m s q) s (Some q) q (Some s) sound here refl (λ k p. subst (λ (n : WordMap). Has n k) (sym h.1) (covers s q h.2.sender.counted k p)) (λ x k c. c)
    (sending_again w.words s q g h.2) (receiving_again w.words s q g h.2) (paired_again w.words s q g h.2)
