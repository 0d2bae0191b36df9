-- How a sender's end changes by the steps of a send.
use Rattle.std.proofs.Common.{◌≡◌, ℕ, zero, suc, ◌+◌, ◌-◌, ◌<◌, ◌≤◌, ◌⊎◌, ⊎_elim, inl, inr, Bool, true, false, cond, ◌==◌, min, List, [], ◌∷◌, ◌++◌, length, take, drop, refl, sym, ap, subst, ◌∙◌, arith, eq-eqb, length-append, append_assoc}
use Rattle.std.specs.List.{fold}
use Rattle.std.proofs.lemmas.Bool.Decides.{nat_tests}
use Rattle.std.proofs.Math.Seq.{take-add}
use Rattle.std.proofs.lemmas.List.{take_min, take-append-drop, length-take-le, length-drop}
use Rattle.rel_pointer.specs.Bytes.{word_count, packed_words}
use Rattle.rel_pointer.proofs.Words.{length-packed_words}
use Rattle.ring_rule.specs.Frames.{frame, IsFramed}
use Rattle.ring_rule.specs.Ring.{Ring, Sending}
use Rattle.ring_rule.specs.Ends.{puts, publishes, looks_read}
use Rattle.mq_ring.specs.Ends.{SendingEnd}
use Rattle.mq_ring.specs.Bursts.{words_from}
use Rattle.mq_ring.proofs.Runs.{HasPut}
use Rattle.mq_handle.specs.Held.{Counted}
use Rattle.mq_handle.specs.Looking.{LooksForRoom}
use Rattle.mq_handle.specs.Filling.{LacksRoom, Fills, enters, stores, finds_room, FillsUp, publishes_rest}

pub length-frame : (m : List ℕ) → length (frame m) ≡ suc (word_count (length m))
length-frame m = ap suc (length-packed_words (word_count (length m)) m)

-- a run of a frame's words begins with the length or is one of the message's words
pub first_run : (m : List ℕ) (at run : ℕ) → at ≡ 0 → 0 < run → take run (drop at (frame m)) ≡ length m ∷ words_from 0 (run - 1) m
first_run m zero zero none some = absurd (omega arith)
first_run m zero (suc n) none some = let e : n ≡ suc n - 1 = omega arith in ap (λ (k : ℕ). length m ∷ take k (packed_words (word_count (length m)) m)) e
first_run m (suc k) run none some = absurd (omega arith)

pub other_run : (m : List ℕ) (at run : ℕ) → 0 < at → take run (drop at (frame m)) ≡ words_from (at - 1) run m
other_run m zero run some = absurd (omega arith)
other_run m (suc k) run some = let e : k ≡ suc k - 1 = omega arith in ap (λ (n : ℕ). words_from n run m) e

-- the run that fits
pub run_fits : (m : List ℕ) (at free run : ℕ) → run ≡ min free (length (frame m) - at) → take run (drop at (frame m)) ≡ take free (drop at (frame m))
run_fits m at free run is =
    let rest = drop at (frame m) in
    ap (λ (n : ℕ). take n rest) (is ∙ ap (min free) (sym (length-drop at (frame m)))) ∙ take_min free rest

pub length-run : (m : List ℕ) (at run : ℕ) → at + run ≤ length (frame m) → length (take run (drop at (frame m))) ≡ run
length-run m at run low = length-take-le run (drop at (frame m)) (omega (arith, length-drop at (frame m)))

-- the words that are there after a run of the frame's next ones
pub more_put : (base all put : List ℕ) (k n words : ℕ) → k ≤ length all → words ≡ k + min n (length all - k) → put ≡ base ++ take k all → put ++ take n (drop k all) ≡ base ++ take words all
more_put base all put k n words low is h =
    let rest = drop k all in
    let few : take n rest ≡ take (min n (length all - k)) rest = sym (take_min n rest) ∙ ap (λ (x : ℕ). take (min n x) rest) (length-drop k all) in
    (λ i. h i ++ few i)
    ∙ append_assoc base (take k all) (take (min n (length all - k)) rest)
    ∙ ap (λ (z : List ℕ). base ++ z) (sym (take-add k (min n (length all - k)) all) ∙ ap (λ (x : ℕ). take x all) (sym is))

-- what is put and the rest of the frame are framed
pub rest_framed : (max : ℕ) (base all put : List ℕ) (k : ℕ) → IsFramed max (base ++ all) → put ≡ base ++ take k all → IsFramed max (put ++ drop k all)
rest_framed max base all put k framed h = subst (IsFramed max)
    (sym (ap (λ (z : List ℕ). z ++ drop k all) h ∙ append_assoc base (take k all) (drop k all) ∙ ap (λ (z : List ℕ). base ++ z) (take-append-drop k all))) framed

same_count : (a b : ℕ) → (a == b) ≡ true → a ≡ b
same_count a b e = grind (arith, nat_tests)

-- publishing what is left changes the published count, and the turn where there is something left
pub rest_same : (s : Sending) → publishes_rest s ≡ record s { published = length s.put; turn = (publishes_rest s).turn }
rest_same s = go (s.published == length s.put) refl
  where
    go : (b : Bool) → (s.published == length s.put) ≡ b → cond {A = Sending} b s (publishes s) ≡ record s { published = length s.put; turn = (cond {A = Sending} b s (publishes s)).turn }
    go true e = ap (λ (n : ℕ). record s { published = n }) (same_count s.published (length s.put) e)
    go false e = refl

pub rest_turn : (s : Sending) → s.turn ≤ (publishes_rest s).turn
rest_turn s = go (s.published == length s.put)
  where
    go : (b : Bool) → s.turn ≤ (cond {A = Sending} b s (publishes s)).turn
    go true = omega arith
    go false = omega arith

-- what the steps leave, by the end alone
pub record Changed (old new : Sending) (total : ℕ) : Type 0 where
  pub ring : new.ring ≡ old.ring
  pub gone : new.gone ≡ old.gone
  pub flag : (new.flag_loads ≡ old.flag_loads) × (new.flag_turn ≡ old.flag_turn) × (new.flag_value ≡ old.flag_value)
  pub turn : old.turn ≤ new.turn
  pub grows : (rest : List ℕ) × (new.put ≡ old.put ++ rest)
  pub looks : ((new.looked ≡ old.looked) × (new.published ≡ old.published) × (new.room ≡ old.room))
      ⊎ ((old.turn < new.looked) × (new.published ≡ new.looked_put) × (old.room + old.ring.size ≤ new.looked_put) × (new.looked_put < total) × (new.looked_put ≤ length new.put))

append_nothing : (xs : List ℕ) → xs ≡ xs ++ []
append_nothing [] = refl
append_nothing (x ∷ xs) = ap (λ (ys : List ℕ). x ∷ ys) (append_nothing xs)

-- where room is lacking, all the room that was known at entry is used up
used_up : (total : ℕ) (a s : Sending) → Changed a s total → LacksRoom total s → a.room + a.ring.size ≤ length s.put
used_up total a s c lacks =
    let size : s.ring.size ≡ a.ring.size = ap (λ (r : Ring). r.size) c.ring in
    ⊎_elim
    (λ (l : (s.looked ≡ a.looked) × (s.published ≡ a.published) × (s.room ≡ a.room)). omega (arith, l.2, lacks.0, size))
    (λ (l : (a.turn < s.looked) × (s.published ≡ s.looked_put) × (a.room + a.ring.size ≤ s.looked_put) × (s.looked_put < total) × (s.looked_put ≤ length s.put)). omega (arith, l.2, l.4))
    c.looks

changed_put : (total : ℕ) (a s : Sending) (word : ℕ) → Changed a s total → Changed a (puts s word) total
changed_put total a s word c =
    let more : length (s.put ++ (word ∷ [])) ≡ length s.put + 1 = length-append s.put (word ∷ []) in
    record {
      ring = c.ring;
      gone = c.gone;
      flag = c.flag;
      turn = let t = c.turn in omega arith;
      grows = (c.grows.0 ++ (word ∷ []), ap (λ (z : List ℕ). z ++ (word ∷ [])) c.grows.1 ∙ append_assoc a.put c.grows.0 (word ∷ []));
      looks = ⊎_elim
          (λ (l : (s.looked ≡ a.looked) × (s.published ≡ a.published) × (s.room ≡ a.room)). inl l)
          (λ (l : (a.turn < s.looked) × (s.published ≡ s.looked_put) × (a.room + a.ring.size ≤ s.looked_put) × (s.looked_put < total) × (s.looked_put ≤ length s.put)).
          inr (l.0, l.1, l.2, l.3, omega (arith, l.4, more)))
          c.looks;
    }

changed_look : (total : ℕ) (a s : Sending) (n : ℕ) → Changed a s total → LacksRoom total s → Changed a (looks_read (publishes_rest s) n) total
changed_look total a s n c lacks =
    let t = c.turn in
    let u = rest_turn s in
    subst (λ (z : Sending). Changed a (looks_read z n) total) (sym (rest_same s))
    (record { ring = c.ring; gone = c.gone; flag = c.flag; turn = omega arith; grows = c.grows; looks = inr (omega arith, refl, used_up total a s c lacks, lacks.1, omega arith) })

pub changed : (total : ℕ) (a b : Sending) → Fills total a b → Changed a b total
changed total a b enters = record { ring = refl; gone = refl; flag = (refl, refl, refl); turn = omega arith; grows = ([], append_nothing a.put); looks = inl (refl, refl, refl) }
changed total a b (stores s word f) = changed_put total a s word (changed total a s f)
changed total a b (finds_room s n f lacks room) = changed_look total a s n (changed total a s f) lacks

-- a run of words is stored one after the other
pub stores_run : (total : ℕ) (a s : Sending) (xs : List ℕ) → Fills total a s → Fills total a (fold puts s xs)
stores_run total a s [] f = f
stores_run total a s (x ∷ xs) f = stores_run total a (puts s x) xs (stores s x f)

-- the ring was found full
pub record IsFull (old new : Sending) (total : ℕ) : Type 0 where
  pub changed_is : Changed old new total
  pub looked : old.turn < new.looked
  pub full : (new.looked_full ≡ true) × (new.looked_put ≡ length new.put) × (length new.put ≡ new.room + new.ring.size)
  pub used : old.room + old.ring.size ≤ length new.put
  pub published : new.published ≡ length new.put

full_look : (total : ℕ) (a s : Sending) (n : ℕ) → Fills total a s → LacksRoom total s → length s.put ≡ n + s.ring.size → IsFull a (looks_read (publishes_rest s) n) total
full_look total a s n f lacks none =
    let c = changed total a s f in
    let t = c.turn in
    let u = rest_turn s in
    let after : Changed a (looks_read (record s { published = length s.put; turn = (publishes_rest s).turn }) n) total =
    subst (λ (z : Sending). Changed a (looks_read z n) total) (rest_same s) (changed_look total a s n c lacks) in
    subst (λ (z : Sending). IsFull a (looks_read z n) total) (sym (rest_same s))
    (record { changed_is = after; looked = omega arith; full = (eq-eqb (length s.put) (n + s.ring.size) none, refl, none); used = used_up total a s c lacks; published = refl })

pub filled_up : (total : ℕ) (a b : Sending) → FillsUp total a b → IsFull a b total
filled_up total a b f = subst (λ (z : Sending). IsFull a z total) (sym f.5) (full_look total a f.0 f.1 f.2 f.3 f.4)

pub counted_run : (s new : Sending) (free unpublished n : ℕ) (xs : List ℕ) → Counted s free unpublished → n ≤ free → length xs ≡ n → HasPut s new xs → Counted new (free - n) (unpublished + n)
counted_run s new free unpublished n xs c low count h =
    let l = ap length h.put ∙ length-append s.put xs in
    let size = ap (λ (r : Ring). r.size) h.ring in
    record { free_is = omega (arith, c.free_is, l, count, h.room, size); unpublished_is = omega (arith, c.unpublished_is, l, count, h.published); few = omega (arith, c.few, size); small = omega (arith, c.small, size) }

lacks : (total : ℕ) (s : Sending) (free unpublished : ℕ) → Counted s free unpublished → free ≡ 0 → length s.put < total → LacksRoom total s
lacks total s free unpublished c none less = (omega (arith, c.free_is), less)

-- after a look that leaves room
pub looked : (total : ℕ) (a b c : Sending) (free unpublished free' unpublished' : ℕ) → Fills total a b → Counted b free unpublished → Counted c free' unpublished' → length b.put < total → 0 < free'
    → LooksForRoom b c 1 free unpublished' → Fills total a c
looked total a b c free unpublished free' unpublished' f n m less some_room l = ⊎_elim
    (λ (p : (c ≡ b) × (1 ≤ free)). subst (Fills total a) (sym p.0) f)
    (λ (p : (free < 1) × (unpublished' ≡ 0) × (c ≡ looks_read (publishes_rest b) c.room)).
    let put = ap (λ (s : Sending). length s.put) p.2 ∙ ap (λ (s : Sending). length s.put) (rest_same b) in
    let size = ap (λ (s : Sending). s.ring.size) p.2 ∙ ap (λ (s : Sending). s.ring.size) (rest_same b) in
    subst (Fills total a) (sym p.2) (finds_room b c.room f (lacks total b free unpublished n (omega (arith, p.0)) less) (omega (arith, m.free_is, put, size, some_room))))
    l

-- a look stores no word
pub looked_put : (b c : Sending) (wanted free unpublished' : ℕ) → LooksForRoom b c wanted free unpublished' → c.put ≡ b.put
looked_put b c wanted free unpublished' l = ⊎_elim
    (λ (p : (c ≡ b) × (wanted ≤ free)). ap (λ (s : Sending). s.put) p.0)
    (λ (p : (free < wanted) × (unpublished' ≡ 0) × (c ≡ looks_read (publishes_rest b) c.room)). ap (λ (s : Sending). s.put) p.2 ∙ ap (λ (s : Sending). s.put) (rest_same b))
    l

-- after one that leaves none
pub looked_full : (total : ℕ) (a b c : Sending) (free unpublished free' unpublished' : ℕ) → Fills total a b → Counted b free unpublished → Counted c free' unpublished' → length b.put < total → free' ≡ 0
    → LooksForRoom b c 1 free unpublished' → FillsUp total a c
looked_full total a b c free unpublished free' unpublished' f n m less none l = ⊎_elim
    (λ (p : (c ≡ b) × (1 ≤ free)).
    absurd (omega (arith, p.1, none, n.free_is, m.free_is, ap (λ (s : Sending). length s.put) p.0, ap (λ (s : Sending). s.room) p.0, ap (λ (s : Sending). s.ring.size) p.0)))
    (λ (p : (free < 1) × (unpublished' ≡ 0) × (c ≡ looks_read (publishes_rest b) c.room)).
    let put = ap (λ (s : Sending). length s.put) p.2 ∙ ap (λ (s : Sending). length s.put) (rest_same b) in
    let size = ap (λ (s : Sending). s.ring.size) p.2 ∙ ap (λ (s : Sending). s.ring.size) (rest_same b) in
    (b, c.room, f, lacks total b free unpublished n (omega (arith, p.0)) less, omega (arith, m.free_is, put, size, none), p.2))
    l

pub less_put : (base all put : List ℕ) (k : ℕ) → put ≡ base ++ take k all → k < length all → length put < length (base ++ all)
less_put base all put k e low =
    let l = ap length e ∙ length-append base (take k all) in
    let t = length-take-le k all (omega arith) in
    let m = length-append base all in
    omega arith

-- only the end of a sender's value changes
abbrev pub OnlyEnd : SendingEnd → SendingEnd → Type 0
OnlyEnd old new = new ≡ record old { end = new.end }

pub only_on : (a b c : SendingEnd) → OnlyEnd a b → OnlyEnd b c → OnlyEnd a c
only_on a b c h k = k ∙ ap (λ (z : SendingEnd). record z { end = c.end }) h

pub only_is : (a b : SendingEnd) (s : Sending) → b ≡ record a { end = s } → OnlyEnd a b
only_is a b s e = e ∙ ap (λ (z : Sending). record a { end = z }) (sym (ap (λ (o : SendingEnd). o.end) e))
