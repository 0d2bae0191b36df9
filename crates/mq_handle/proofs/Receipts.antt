-- What a try to receive leaves.
use Rattle.std.proofs.Common.{◌≡◌, ℕ, zero, suc, ◌+◌, ◌*◌, ◌-◌, ◌/◌, ◌<◌, ◌≤◌, ⊎_elim, inl, inr, List, [], ◌∷◌, ◌++◌, length, take, drop, cond, Bool, true, false, append-nil, get_or, All, Option, Some, refl, sym, ap, subst, ◌∙◌, arith, length-append}
use Rattle.std.proofs.lemmas.List.{drop_all, take_all}
use denote.Enum.Bare.{sameb}
use Rattle.rel_pointer.specs.Bytes.{word_count, packed_words}
use Rattle.ring_rule.specs.Frames.{frame, frames, IsMessage}
use Rattle.atomic_table.specs.Seated.{TableId}
use Rattle.ring_rule.specs.Ring.{Ring, Receiving, Sending}
use Rattle.ring_rule.proofs.Messages.{frames-same}
use Rattle.mq_handle.specs.Messages.{bytes_of, whole_of, left_of}
use Rattle.mq_handle.specs.Held.{IsTorn}
use Rattle.mq_handle.specs.Receives.{IsReceived, incoming, returned_of}
use Rattle.mq_handle.specs.ReceiveAnswers.{Gives, HasPlace, message_of}
use Rattle.mq_handle.specs.Looking.{Finds}
use Rattle.mq_handle.specs.Taking.{InHand, HasBytes, IsOpen, IsReceiver, Ready, Takes, before_of}
use Rattle.mq_handle.specs.contracts.answers.ReceiveAnswer.{the_type}
use Rattle.mq_handle.specs.declared.answers.ReceiveAnswer.{ReceiveAnswer}
use Rattle.mq_handle.specs.declared.answers.ReceiveAnswer.TheVariants.{Message, WouldBlock, Detached}
use Rattle.mq_handle.proofs.Decoding.{unpacked}
use Rattle.mq_handle.proofs.Whole.{whole_is, left_is}
use Rattle.mq_handle.proofs.Filling.{length-frame}
use Rattle.mq_handle.proofs.SendTries.{append_nothing, frames_more, fit_more, bytes_of_all, part_torn}
use Rattle.mq_handle.proofs.Hands.{length-bytes, hand_low, base_same}

hand_torn : (max : ℕ) (base taken buffer : List ℕ) (words len : ℕ) (h : InHand max base taken buffer words len) → IsOpen words len → IsTorn max h.part
hand_torn max base taken buffer words len h o = go h.part refl
  where
    go : (part : List ℕ) → h.part ≡ part → IsTorn max h.part
    go [] is = inl is
    go (n ∷ tail) is =
        let b : HasBytes buffer (n ∷ tail) len = subst (λ (z : List ℕ). HasBytes buffer z len) is h.bytes in
        ⊎_elim
        (λ (p : h.part ≡ []). inl p)
        (λ (p : (message more : List ℕ) × IsMessage max message × (frame message ≡ h.part ++ more)).
        let f : frame p.0 ≡ (n ∷ tail) ++ p.1 = p.3 ∙ ap (λ (z : List ℕ). z ++ p.1) is in
        let head : length p.0 ≡ n = cc in
        let count : word_count (length p.0) ≡ word_count len = ap word_count (head ∙ sym b.0) in
        let missing : words < suc (word_count len) = ⊎_elim (λ (z : words ≡ 0). omega arith) (λ (z : words < suc (word_count len)). z) o in
        inr (p.0, p.1, p.2, p.3, omega (arith, length-frame p.0, h.counted, count, missing)))
        h.begun

hand_words : (max : ℕ) (base taken buffer : List ℕ) (words len : ℕ) (h : InHand max base taken buffer words len) → taken ≡ frames h.messages ++ h.part
hand_words max base taken buffer words len h = h.are ∙ ap (λ (z : List ℕ). z ++ h.part) h.base_is

hand_whole : (max : ℕ) (base taken buffer : List ℕ) (words len : ℕ) (h : InHand max base taken buffer words len) → IsOpen words len → whole_of taken ≡ h.messages
hand_whole max base taken buffer words len h o =
    ap whole_of (hand_words max base taken buffer words len h) ∙ whole_is h.messages h.part (bytes_of_all max h.messages h.fit) (part_torn max h.part (hand_torn max base taken buffer words len h o))

-- two hands behind the same words have the same messages before them
same_messages : (max : ℕ) (base t u b c : List ℕ) (w x l m : ℕ) (h : InHand max base t b w l) (k : InHand max base u c x m) → h.messages ≡ k.messages
same_messages max base t u b c w x l m h k = frames-same h.messages k.messages (bytes_of_all max h.messages h.fit) (bytes_of_all max k.messages k.fit) (sym h.base_is ∙ k.base_is)

pub same_whole : (max : ℕ) (base t u b c : List ℕ) (w x l m : ℕ) → InHand max base t b w l → IsOpen w l → InHand max base u c x m → IsOpen x m → whole_of u ≡ whole_of t
same_whole max base t u b c w x l m h o k p =
    hand_whole max base u c x m k p ∙ sym (same_messages max base t u b c w x l m h k) ∙ sym (hand_whole max base t b w l h o)

-- no message came
pub gives_on : (old before new : Receiving) (ready len : ℕ) (buffer : List ℕ) (answer : ReceiveAnswer) → old.turn ≤ before.turn → whole_of before.taken ≡ whole_of old.taken → Finds before new ready (Some answer)
    → Gives old new (message_of answer buffer len) answer
gives_on old before new ready len buffer Message t w f = absurd f
gives_on old before new ready len buffer WouldBlock t w f = (
  ap whole_of f.0.taken ∙ w,
  refl,
  record { looked = let l = f.1.looked in omega arith; empty = f.1.empty; flag = f.1.flag; returned = f.1.returned },
)
gives_on old before new ready len buffer Detached t w f = (
  ap whole_of f.0.taken ∙ w,
  refl,
  record { flag = (let l = f.1.flag.0 in omega arith, f.1.flag.1); looked = f.1.looked; empty = f.1.empty; final = f.1.final },
)

take_same : (n : ℕ) (xs ys : List ℕ) → n ≤ length xs → n ≤ length ys → ((i : ℕ) → i < n → get_or xs i 0 ≡ get_or ys i 0) → take n xs ≡ take n ys
take_same zero xs ys a b e = refl
take_same (suc n) [] ys a b e = absurd (omega arith)
take_same (suc n) (x ∷ xs) [] a b e = absurd (omega arith)
take_same (suc n) (x ∷ xs) (y ∷ ys) a b e =
    let h : x ≡ y = e 0 (omega arith) in
    let r = take_same n xs ys (omega arith) (omega arith) (λ i l. e (suc i) (omega arith)) in
    λ i. h i ∷ r i

no_more : (xs : List ℕ) → length xs ≤ 0 → xs ≡ []
no_more [] l = refl
no_more (x ∷ xs) l = absurd (omega arith)

-- the whole frame is in hand
pub whole_hand : (max : ℕ) (base taken buffer : List ℕ) (words len : ℕ) (h : InHand max base taken buffer words len) → words ≡ suc (word_count len) → length buffer ≡ max
    → (h.part ≡ frame (take len buffer)) × IsMessage max (take len buffer)
whole_hand max base taken buffer words len h full room = go h.part refl
  where
    go : (part : List ℕ) → h.part ≡ part → (h.part ≡ frame (take len buffer)) × IsMessage max (take len buffer)
    go [] is = absurd (omega (arith, h.counted, ap length is, full))
    go (n ∷ tail) is =
        let b : HasBytes buffer (n ∷ tail) len = subst (λ (z : List ℕ). HasBytes buffer z len) is h.bytes in
        ⊎_elim
        (λ (p : h.part ≡ []). absurd (omega (arith, h.counted, ap length p, full)))
        (λ (p : (message more : List ℕ) × IsMessage max message × (frame message ≡ h.part ++ more)).
        let f : frame p.0 ≡ (n ∷ tail) ++ p.1 = p.3 ∙ ap (λ (z : List ℕ). z ++ p.1) is in
        let head : length p.0 ≡ n = cc in
        let size : len ≡ length p.0 = b.0 ∙ sym head in
        let count : word_count (length p.0) ≡ word_count len = ap word_count (sym size) in
        let total = ap length f ∙ length-append (n ∷ tail) p.1 in
        let nothing : p.1 ≡ [] = no_more p.1 (omega (arith, length-frame p.0, h.counted, ap length is, full, count)) in
        let all : n ∷ tail ≡ frame p.0 = sym (append_nothing (n ∷ tail)) ∙ ap (λ (z : List ℕ). (n ∷ tail) ++ z) (sym nothing) ∙ sym f in
        let words_are : tail ≡ packed_words (word_count (length p.0)) p.0 = cc in
        let short = p.2.short in
        let tail_len : length tail ≡ word_count len = omega (arith, h.counted, ap length is, full) in
        let bytes = length-bytes tail in
        let message : take len buffer ≡ p.0 =
        take_same len buffer (bytes_of tail) (omega (arith, size)) (omega arith) (λ i l. b.1 i (omega (arith, b.0)) (omega arith))
        ∙ (λ i. take (size i) (bytes_of (words_are i)))
        ∙ unpacked (word_count (length p.0)) p.0 p.2.bytes (omega arith) in
        (is ∙ all ∙ ap frame (sym message), subst (IsMessage max) (sym message) p.2))
        h.begun

-- what holds when a message came
pub record Came (max : ℕ) (before taken buffer : List ℕ) (message : List ℕ) (len : ℕ) : Type 0 where
  pub whole : whole_of taken ≡ whole_of before ++ (message ∷ [])
  pub left : left_of taken ≡ []
  pub ends : (front : List ℕ) × (taken ≡ front ++ frame message)
  pub fits : IsMessage max message
  pub hand : InHand max (take (length taken - 0) taken) taken buffer 0 len

pub came : (max : ℕ) (base before taken old buffer : List ℕ) (w l words len : ℕ) → InHand max base before old w l → IsOpen w l → InHand max base taken buffer words len → words ≡ suc (word_count len) → length buffer ≡ max
    → Came max before taken buffer (take len buffer) len
came max base before taken old buffer w l words len h o k full room =
    let p = whole_hand max base taken buffer words len k full room in
    let message = take len buffer in
    let same = same_messages max base before taken old buffer w words l len h k in
    let are : taken ≡ frames (k.messages ++ (message ∷ [])) =
    hand_words max base taken buffer words len k ∙ ap (λ (z : List ℕ). frames k.messages ++ z) p.0 ∙ sym (frames_more k.messages message) in
    let fit = fit_more max k.messages message k.fit p.1 in
    let bytes = bytes_of_all max (k.messages ++ (message ∷ [])) fit in
    let words_are : taken ≡ frames (k.messages ++ (message ∷ [])) ++ [] = are ∙ sym (append_nothing (frames (k.messages ++ (message ∷ [])))) in
    let all : take (length taken - 0) taken ≡ taken = take_all (length taken - 0) taken (omega arith) in
    record {
      whole = ap whole_of words_are ∙ whole_is (k.messages ++ (message ∷ [])) [] bytes refl ∙ ap (λ (z : List (List ℕ)). z ++ (message ∷ [])) (sym same ∙ sym (hand_whole max base before old w l h o));
      left = ap left_of words_are ∙ left_is (k.messages ++ (message ∷ [])) [] bytes refl;
      ends = (base, k.are ∙ ap (λ (z : List ℕ). base ++ z) p.0);
      fits = p.1;
      hand = record {
        messages = k.messages ++ (message ∷ []);
        part = [];
        fit = fit;
        base_is = all ∙ are;
        are = sym all ∙ sym (append_nothing (take (length taken - 0) taken));
        begun = inl refl;
        counted = refl;
        bytes = tt;
      };
    }

-- after the last word, whether room was given back or not
pub received_is : (old last : Receiving) (buffer : List ℕ) (len returned turn : ℕ) → Takes old last → Came last.ring.max old.taken last.taken buffer (take len buffer) len
    → returned ≡ returned_of (length last.taken) last.returned (last.ring.size / 4) → IsReceived old (record last { returned = returned; turn = turn }) (take len buffer)
received_is old last buffer len returned turn t c e = record {
  whole = c.whole;
  left = c.left;
  ends = c.ends;
  short = subst (λ (r : Ring). length (take len buffer) ≤ r.max) t.ring c.fits.short;
  returned = e ∙ (λ i. returned_of (length last.taken) (t.returned i) (ap (λ (r : Ring). r.size / 4) t.ring i));
}

no_messages : (max : ℕ) → All (IsMessage max) []
no_messages max k d l = absurd (omega arith)

-- nothing is in hand
pub fresh_hand : (max : ℕ) (taken buffer : List ℕ) → taken ≡ [] → InHand max (take (length taken - 0) taken) taken buffer 0 0
fresh_hand max taken buffer e = subst (λ (t : List ℕ). InHand max (take (length t - 0) t) t buffer 0 0) (sym e)
    (record { messages = []; part = []; fit = no_messages max; base_is = refl; are = refl; begun = inl refl; counted = refl; bytes = tt })

-- one call takes no more words than the greatest message has
pub few_words : (max : ℕ) (base t u b c : List ℕ) (w x l m : ℕ) → InHand max base t b w l → InHand max base u c x m → length u ≤ length t + word_count max + 1
few_words max base t u b c w zero l m h k =
    let before = ap length h.are ∙ length-append base h.part in
    let after = ap length k.are ∙ length-append base k.part in
    omega (arith, h.counted, k.counted)
few_words max base t u b c w (suc x) l m h k =
    let before = ap length h.are ∙ length-append base h.part in
    let after = ap length k.are ∙ length-append base k.part in
    let low = hand_low max base u c (suc x) m k (omega arith) in
    omega (arith, h.counted, k.counted, low.0, low.1)

-- a look that finds no word takes none
pub finds_same : (old new : Receiving) (ready : ℕ) (answer : ReceiveAnswer) → Finds old new ready (Some answer) → new.taken ≡ old.taken
finds_same old new ready Message f = absurd f
finds_same old new ready WouldBlock f = f.0.taken
finds_same old new ready Detached f = f.0.taken

pub finds_ring : (old new : Receiving) (ready : ℕ) (answer : ReceiveAnswer) → Finds old new ready (Some answer) → new.ring ≡ old.ring
finds_ring old new ready Message f = absurd f
finds_ring old new ready WouldBlock f = f.0.ring
finds_ring old new ready Detached f = f.0.ring

-- where no word was taken, the frame in hand is the same
pub hand_same : (old new : Receiving) (base buffer : List ℕ) (words len words' len' : ℕ) → new.ring ≡ old.ring → new.taken ≡ old.taken → words' ≡ words → len' ≡ len
    → InHand old.ring.max base old.taken buffer words len → InHand new.ring.max (before_of new words') new.taken buffer words' len'
hand_same old new base buffer words len words' len' ring taken w l h =
    let first = subst (λ (z : List ℕ). InHand old.ring.max z old.taken buffer words len) (sym (base_same old.ring.max base old.taken buffer words len h)) h in
    let second = subst (λ (t : List ℕ). InHand old.ring.max (take (length t - words) t) t buffer words len) (sym taken) first in
    let third = subst (λ (r : Ring). InHand r.max (take (length new.taken - words) new.taken) new.taken buffer words len) (sym ring) second in
    let fourth = subst (λ (k : ℕ). InHand new.ring.max (take (length new.taken - k) new.taken) new.taken buffer k len) (sym w) third in
    subst (λ (k : ℕ). InHand new.ring.max (before_of new words') new.taken buffer words' k) (sym l) fourth

-- ---- what a receiver has after a try

-- a buffer that was lent has what was written into it
written : (size : ℕ) (now was : List ℕ) → length now ≡ size → length was ≡ size → take size (now ++ drop (length now) was) ≡ now
written size now was new old = ap (λ (rest : List ℕ). take size (now ++ rest)) (drop_all (length now) was (omega arith)) ∙ ap (take size) (append-nil now) ∙ take_all size now (omega arith)

-- the message in hand is shown where the answer says that there is one
shown : (answer : ReceiveAnswer) (whole : Bool) (buffer : List ℕ) (len : ℕ) → whole ≡ sameb the_type answer Message → cond whole (take len buffer) [] ≡ message_of answer buffer len
shown Message whole buffer len e = rw e refl
shown WouldBlock whole buffer len e = rw e refl
shown Detached whole buffer len e = rw e refl

pub shown_by : (answer : ReceiveAnswer) (whole : Bool) (size len : ℕ) (now was : List ℕ) → whole ≡ sameb the_type answer Message → length now ≡ size → length was ≡ size
    → cond whole (take len (take size (now ++ drop (length now) was))) [] ≡ message_of answer now len
shown_by answer whole size len now was e new old = ap (λ (bytes : List ℕ). cond whole (take len bytes) []) (written size now was new old) ∙ shown answer whole now len e

held_by : (answer : ReceiveAnswer) (whole : Bool) (len size : ℕ) → whole ≡ sameb the_type answer Message → HasPlace answer len size → whole ≡ true → len ≤ size
held_by Message whole len size e place is = place
held_by WouldBlock whole len size e place is = let no : true ≡ false = sym is ∙ e in cc
held_by Detached whole len size e place is = let no : true ≡ false = sym is ∙ e in cc

-- a receiver whose try gave this answer
pub received_by : (q : Receiving) (answer : ReceiveAnswer) (whole gone : Bool) (size words len ready unreturned : ℕ) (now was : List ℕ) → Ready q ready unreturned → InHand q.ring.max (before_of q words) q.taken now words len → IsOpen words len
    → HasPlace answer len (length now) → whole ≡ sameb the_type answer Message → length now ≡ size → length was ≡ size → length now ≡ q.ring.max → gone ≡ q.gone
    → IsReceiver q (take size (now ++ drop (length now) was)) words len ready unreturned whole gone
received_by q answer whole gone size words len ready unreturned now was counts hand some place e new old room is =
    subst (λ (bytes : List ℕ). IsReceiver q bytes words len ready unreturned whole gone) (sym (written size now was new old))
    (record { counts = counts; hand = hand; unfinished = some; room = room; held = held_by answer whole len (length now) e place; gone_is = is })

pub kept_by : (region region' : TableId) (q : Receiving) (told told' : Option Sending) (message : List ℕ) → region ≡ region' → told ≡ told' → incoming region q told message ≡ incoming region' q told' message
kept_by region region' q told told' message e f = ap (λ (r : TableId). incoming r q told message) e ∙ ap (λ (s : Option Sending). incoming region' q s message) f

-- ---- bounds, as plain numbers: a proof that cites these searches nothing that it knows beside them

pub few_by : (now then before words words' : ℕ) → now ≡ then → words ≡ words' → then ≤ before + words + 1 → now ≤ before + words' + 1
few_by now then before words words' e f h = omega arith

-- the steps of a message that came whole
pub steps_whole : (turn turn' first taken now old : ℕ) → turn + 4 * first ≤ old + 4 * taken → turn' ≤ turn + 1 → now ≡ taken → turn' + 4 * first ≤ old + 4 * now + 1
steps_whole turn turn' first taken now old h f e = omega arith

pub place_by : (len len' max size : ℕ) → len' ≡ len → len ≤ max → size ≡ max → len' ≤ size
place_by len len' max size e h f = omega arith

pub some_words : (words count : ℕ) → words ≡ suc count → 0 < words
some_words words count e = omega arith
