-- What a try to send leaves on the ring.
use Rattle.std.proofs.Common.{◌≡◌, ℕ, zero, suc, ◌+◌, ◌-◌, ◌<◌, ◌≤◌, ⊎_elim, inl, inr, Bool, true, false, cond, ◌||◌, ltb, MatchBool, get_or, ◌/◌, List, [], ◌∷◌, ◌++◌, length, take, drop, min, All, None, refl, sym, ap, subst, ◌∙◌, arith, length-append, append_assoc}
use Rattle.std.proofs.lemmas.List.{length-take, length-take-le, take-append-drop, take_all, take_at}
use Rattle.std.proofs.lemmas.List.Elements.{All-append}
use Rattle.rel_pointer.specs.Bytes.{AllBytes}
use Rattle.ring_rule.specs.Frames.{frame, frames, IsMessage, IsFramed}
use Rattle.ring_rule.specs.Ring.{Ring, Sending}
use Rattle.ring_rule.specs.Ends.{sender_sees_flag, publishes}
use Rattle.mq_handle.specs.Messages.{first_of, whole_of, left_of}
use Rattle.mq_handle.specs.Sends.{Continues, published_of, IsSent, IsBlocked, StaysOpen}
use Rattle.mq_handle.specs.Waiting.{SendsOn}
use Rattle.mq_handle.specs.Held.{IsTorn, InFrames}
use Rattle.mq_handle.specs.Filling.{base_of, total_with, Fills, FillsUp, finishes}
use Rattle.mq_handle.proofs.Decoding.{torn}
use Rattle.mq_handle.proofs.Filling.{Changed, changed, filled_up}
use Rattle.mq_handle.proofs.Whole.{whole_is, left_is}

pub append_nothing : {A : Type 0} (xs : List A) → xs ++ [] ≡ xs
append_nothing [] = refl
append_nothing (x ∷ xs) = ap (λ ys. x ∷ ys) (append_nothing xs)

pub frames_more : (ms : List (List ℕ)) (m : List ℕ) → frames (ms ++ (m ∷ [])) ≡ frames ms ++ frame m
frames_more [] m = append_nothing (frame m)
frames_more (n ∷ ns) m = ap (λ (z : List ℕ). frame n ++ z) (frames_more ns m) ∙ sym (append_assoc (frame n) (frames ns) (frame m))

one_fits : (P : List ℕ → Type 0) (m : List ℕ) → P m → All P (m ∷ [])
one_fits P m h zero d l = h
one_fits P m h (suc k) d l = absurd (omega arith)

pub fit_more : (max : ℕ) (ms : List (List ℕ)) (m : List ℕ) → All (IsMessage max) ms → IsMessage max m → All (IsMessage max) (ms ++ (m ∷ []))
fit_more max ms m a h = All-append (IsMessage max) ms (m ∷ []) a (one_fits (IsMessage max) m h)

pub bytes_of_all : (max : ℕ) (ms : List (List ℕ)) → All (IsMessage max) ms → All AllBytes ms
bytes_of_all max ms a k d l = (a k d l).bytes

pub part_torn : (max : ℕ) (part : List ℕ) → IsTorn max part → first_of part ≡ None
part_torn max part t = ⊎_elim
    (λ (e : part ≡ []). ap first_of e)
    (λ (p : (message more : List ℕ) × IsMessage max message × (frame message ≡ part ++ more) × (length part < length (frame message))). torn p.0 part p.1 p.3 p.4)
    t

pub whole_of_frames : (max : ℕ) (words : List ℕ) (stored : ℕ) (f : InFrames max words stored) → whole_of words ≡ f.messages
whole_of_frames max words stored f = ap whole_of f.are ∙ whole_is f.messages f.part (bytes_of_all max f.messages f.fit) (part_torn max f.part f.torn)

pub left_of_frames : (max : ℕ) (words : List ℕ) (stored : ℕ) (f : InFrames max words stored) → left_of words ≡ f.part
left_of_frames max words stored f = ap left_of f.are ∙ left_is f.messages f.part (bytes_of_all max f.messages f.fit) (part_torn max f.part f.torn)

-- what holds before words of a message's frame are stored
pub record Begun (s : Sending) (stored : ℕ) (message : List ℕ) : Type 0 where
  pub messages : List (List ℕ)
  pub fit : All (IsMessage s.ring.max) messages
  pub mine : IsMessage s.ring.max message
  pub whole : whole_of s.put ≡ messages
  pub base : base_of s stored ≡ frames messages
  pub low : stored ≤ length (frame message)
  pub begins : s.put ≡ base_of s stored ++ take stored (frame message)
  pub framed : IsFramed s.ring.max (base_of s stored ++ frame message)
  pub total : total_with s.put message ≡ length (base_of s stored ++ frame message)

framed_all : (max : ℕ) (words : List ℕ) (ms : List (List ℕ)) → All (IsMessage max) ms → words ≡ frames ms → IsFramed max words
unfolding IsFramed
framed_all max words ms a e = (ms, [], a, sym e ∙ sym (append_nothing words))

pub begun : (s : Sending) (stored : ℕ) (message : List ℕ) → InFrames s.ring.max s.put stored → Continues s.put message → IsMessage s.ring.max message → Begun s stored message
begun s stored message f same mine =
    let all = frame message in
    let left = left_of_frames s.ring.max s.put stored f in
    let n : length (left_of s.put) ≡ stored = ap length left ∙ f.counted in
    let part : f.part ≡ take stored all = sym left ∙ sym same ∙ ap (λ (k : ℕ). take k all) n in
    let count : length f.part ≡ min stored (length all) = ap length part ∙ length-take stored all in
    let total = ap length f.are ∙ length-append (frames f.messages) f.part in
    let base : base_of s stored ≡ frames f.messages =
    ap (λ (z : List ℕ). take (length s.put - stored) z) f.are ∙ take_at (frames f.messages) f.part (length s.put - stored) (omega (arith, f.counted)) in
    record {
      messages = f.messages;
      fit = f.fit;
      mine = mine;
      whole = whole_of_frames s.ring.max s.put stored f;
      base = base;
      low = omega (arith, f.counted);
      begins = f.are ∙ (λ i. sym base i ++ part i);
      framed = framed_all s.ring.max (base_of s stored ++ all) (f.messages ++ (message ∷ [])) (fit_more s.ring.max f.messages message f.fit mine)
          (ap (λ (z : List ℕ). z ++ all) base ∙ sym (frames_more f.messages message));
      total = omega (arith, n, f.counted, total, ap length base, length-append (base_of s stored) all);
    }

-- the whole frame is there
pub record AllThere (s : Sending) (put message : List ℕ) : Type 0 where
  pub whole : whole_of put ≡ whole_of s.put ++ (message ∷ [])
  pub left : left_of put ≡ []
  pub ends : (before : List ℕ) × (put ≡ before ++ frame message)
  pub framed : InFrames s.ring.max put 0

pub all_there : (s : Sending) (stored : ℕ) (message put : List ℕ) (k : ℕ) → Begun s stored message → put ≡ base_of s stored ++ take k (frame message) → k ≡ length (frame message) → AllThere s put message
all_there s stored message put k b e full =
    let all = frame message in
    let whole : put ≡ base_of s stored ++ all = e ∙ ap (λ (z : List ℕ). base_of s stored ++ z) (take_all k all (omega arith)) in
    let f : InFrames s.ring.max put 0 = record {
      messages = b.messages ++ (message ∷ []);
      part = [];
      fit = fit_more s.ring.max b.messages message b.fit b.mine;
      are = whole ∙ ap (λ (z : List ℕ). z ++ all) b.base ∙ sym (frames_more b.messages message) ∙ sym (append_nothing (frames (b.messages ++ (message ∷ []))));
      torn = inl refl;
      counted = refl;
    } in
    record {
      whole = whole_of_frames s.ring.max put 0 f ∙ ap (λ (z : List (List ℕ)). z ++ (message ∷ [])) (sym b.whole);
      left = left_of_frames s.ring.max put 0 f;
      ends = (base_of s stored, whole);
      framed = f;
    }

-- a part of the frame is there
pub record PartThere (s : Sending) (put message : List ℕ) (stored : ℕ) : Type 0 where
  pub whole : whole_of put ≡ whole_of s.put
  pub left : left_of put ≡ take stored (frame message)
  pub count : stored ≡ length (left_of put)
  pub framed : InFrames s.ring.max put stored

pub part_there : (s : Sending) (stored : ℕ) (message put : List ℕ) (k : ℕ) → Begun s stored message → put ≡ base_of s stored ++ take k (frame message) → k < length (frame message) → PartThere s put message k
part_there s stored message put k b e low =
    let all = frame message in
    let count = length-take-le k all (omega arith) in
    let f : InFrames s.ring.max put k = record {
      messages = b.messages;
      part = take k all;
      fit = b.fit;
      are = e ∙ ap (λ (z : List ℕ). z ++ take k all) b.base;
      torn = inr (message, drop k all, b.mine, sym (take-append-drop k all), omega arith);
      counted = count;
    } in
    let left = left_of_frames s.ring.max put k f in
    record {
      whole = whole_of_frames s.ring.max put k f ∙ sym b.whole;
      left = left;
      count = sym (ap length left ∙ count);
      framed = f;
    }

-- the ring was full
pub blocked_is : (s b : Sending) (stored k total : ℕ) (message : List ℕ) → Begun s stored message → FillsUp total (sender_sees_flag s 0) b → b.put ≡ base_of s stored ++ take k (frame message)
    → k < length (frame message) → IsBlocked s b message k
blocked_is s b stored k total message g f put low =
    let p = part_there s stored message b.put k g put low in
    let full = filled_up total (sender_sees_flag s 0) b f in
    let flag = full.changed_is.flag in
    record {
      short = g.mine.short;
      flag = record { once = flag.0; first = flag.1; found = flag.2 };
      looked = let l = full.looked in omega arith;
      full = full.full;
      used_up = full.used;
      whole = p.whole;
      stored_is = p.count;
      begins = p.left;
      more = low;
      published = full.published;
    }

-- what a step after the load of the flag leaves open
pub opens : (s b : Sending) (total x : ℕ) → s.gone ≡ false → (s.flag_value ≡ 1 → ⊥) → Changed (sender_sees_flag s x) b total → StaysOpen s b
opens s b total x stays unset c = record { ring = c.ring; stays = c.gone ∙ stays; turn = let t = c.turn in omega arith; put = c.grows; flag = λ e. absurd (unset e) }

choice : (flush : Bool) (s : Sending) (P : Sending → Type 0) → P s → P (publishes s) → P (finishes flush s)
choice flush s P same published = go (flush || ltb (s.published + s.ring.size / 4) (length s.put))
  where
    go : (b : Bool) → P (cond {A = Sending} b (publishes s) s)
    go true = published
    go false = same

-- publishing at the end changes nothing else
pub finished_ring : (flush : Bool) (s : Sending) → (finishes flush s).ring ≡ s.ring
finished_ring flush s = choice flush s (λ z. z.ring ≡ s.ring) refl refl

pub finished_put : (flush : Bool) (s : Sending) → (finishes flush s).put ≡ s.put
finished_put flush s = choice flush s (λ z. z.put ≡ s.put) refl refl

pub finished_notes : (flush : Bool) (s : Sending) → ((finishes flush s).looked ≡ s.looked) × ((finishes flush s).room ≡ s.room)
finished_notes flush s = choice flush s (λ z. (z.looked ≡ s.looked) × (z.room ≡ s.room)) (refl, refl) (refl, refl)

pub finished_opens : (flush : Bool) (a s : Sending) → StaysOpen a s → StaysOpen a (finishes flush s)
finished_opens flush a s o = choice flush s (StaysOpen a) o (record { ring = o.ring; stays = o.stays; turn = let t = o.turn in omega arith; put = o.put; flag = o.flag })

finished_count : (flush : Bool) (s : Sending) → (finishes flush s).published ≡ published_of flush (length s.put) s.published (s.ring.size / 4)
finished_count flush s = go (flush || ltb (s.published + s.ring.size / 4) (length s.put))
  where
    go : (b : Bool) → (cond {A = Sending} b (publishes s) s).published ≡ cond b (length s.put) s.published
    go true = refl
    go false = refl

finished_same : (flush : Bool) (s : Sending) → finishes flush s ≡ record s { published = (finishes flush s).published; turn = (finishes flush s).turn }
finished_same flush s = choice flush s (λ z. z ≡ record s { published = z.published; turn = z.turn }) refl refl

-- the frame is on the ring, and the count published by the rule
sent_so : (s b : Sending) (stored k published turn : ℕ) (message : List ℕ) (flush : Bool) → Begun s stored message → Changed (sender_sees_flag s 0) b (length (base_of s stored ++ frame message))
    → b.put ≡ base_of s stored ++ take k (frame message) → k ≡ length (frame message) → published ≡ published_of flush (length b.put) b.published (b.ring.size / 4)
    → IsSent s (record b { published = published; turn = turn }) message flush
sent_so s b stored k published turn message flush g f put all e =
    let p = all_there s stored message b.put k g put all in
    let count : length (base_of s stored ++ frame message) ≡ length b.put = sym (ap length (put ∙ ap (λ (z : List ℕ). base_of s stored ++ z) (take_all k (frame message) (omega arith)))) in
    record {
      short = g.mine.short;
      flag = record { once = f.flag.0; first = f.flag.1; found = f.flag.2 };
      whole = p.whole;
      left = p.left;
      ends = p.ends;
      published = (
        b.published,
        ⊎_elim
            (λ (l : (b.looked ≡ s.looked) × (b.published ≡ s.published) × (b.room ≡ s.room)). inl (l.0, l.1))
            (λ (l : (s.turn + 1 < b.looked) × (b.published ≡ b.looked_put) × (s.room + s.ring.size ≤ b.looked_put) × (b.looked_put < length (base_of s stored ++ frame message)) × (b.looked_put ≤ length b.put)).
            inr (omega (arith, l.0), l.1, omega (arith, l.1, l.2), omega (arith, l.1, l.3, count)))
            f.looks,
        e ∙ ap (λ (r : Ring). published_of flush (length b.put) b.published (r.size / 4)) f.ring,
      );
    }

pub sent_is : (s b : Sending) (stored k : ℕ) (message : List ℕ) (flush : Bool) → Begun s stored message → Fills (length (base_of s stored ++ frame message)) (sender_sees_flag s 0) b
    → b.put ≡ base_of s stored ++ take k (frame message) → k ≡ length (frame message) → IsSent s (finishes flush b) message flush
sent_is s b stored k message flush g f put all =
    let end = finishes flush b in
    subst (λ (z : Sending). IsSent s z message flush) (sym (finished_same flush b))
    (sent_so s b stored k end.published end.turn message flush g (changed (length (base_of s stored ++ frame message)) (sender_sees_flag s 0) b f) put all (finished_count flush b))

pub in_frames : (s : Sending) (b : Sending) (k : ℕ) (put : List ℕ) → b.ring ≡ s.ring → b.put ≡ put → InFrames s.ring.max put k → InFrames b.ring.max b.put k
in_frames s b k put e h f = subst (λ (r : Ring). InFrames r.max b.put k) (sym e) (subst (λ (z : List ℕ). InFrames s.ring.max z k) (sym h) f)

pub all_bytes : (m : List ℕ) → ((i : ℕ) → get_or m i 0 < 256) → AllBytes m
all_bytes [] h k d l = absurd (omega arith)
all_bytes (x ∷ xs) h zero d l = h 0
all_bytes (x ∷ xs) h (suc k) d l = all_bytes xs (λ i. h (suc i)) k d (omega arith)

pub chosen_false : (A B : Type 0) (b : Bool) → b ≡ false → MatchBool b A B → B
chosen_false A B true e h = cc
chosen_false A B false e h = h

pub chosen_true : (A B : Type 0) (b : Bool) → b ≡ true → MatchBool b A B → A
chosen_true A B true e h = h
chosen_true A B false e h = cc

-- the last try of a send, and those before it
pub stays_on : (a b c : Sending) (message : List ℕ) → SendsOn a b message → StaysOpen b c → StaysOpen a c
stays_on a b c message on stays = record {
  ring = stays.ring ∙ on.ring;
  stays = stays.stays;
  turn = let t = on.turn in let u = stays.turn in omega arith;
  put = (on.put.0 ++ stays.put.0, stays.put.1 ∙ ap (λ (z : List ℕ). z ++ stays.put.0) on.put.1 ∙ append_assoc a.put on.put.0 stays.put.0);
  flag = λ e. stays.flag (on.flag e);
}
