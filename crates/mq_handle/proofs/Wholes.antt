-- What a try to send a message whole leaves on the ring.
use Rattle.std.proofs.Common.{◌≡◌, ℕ, ◌+◌, ◌-◌, ◌<◌, ◌≤◌, ⊎_elim, inl, inr, Bool, false, List, [], ◌++◌, length, take, drop, Option, Some, None, IfSome, true, leb, refl, sym, ap, subst, ◌∙◌, arith, append_assoc}
use Rattle.std.specs.List.{fold}
use Rattle.std.proofs.lemmas.Bool.{cases_lt}
use Rattle.std.proofs.lemmas.Bool.Decides.{nat_tests}
use Rattle.std.proofs.lemmas.List.{take-append-drop, take_all, length-drop}
use Rattle.ring_rule.specs.Frames.{frame, IsFramed}
use Rattle.ring_rule.specs.Ring.{Ring, Sending, Receiving}
use Rattle.ring_rule.specs.Ends.{puts, looks_read, sender_sees_flag}
use Rattle.mq_ring.proofs.Runs.{has_put}
use Rattle.rel_pointer.specs.Bytes.{AllBytes}
use Rattle.mq_handle.specs.Messages.{first_of, left_of}
use Rattle.mq_handle.specs.Sends.{Continues, StaysOpen}
use Rattle.mq_handle.specs.Held.{Counted, InFrames}
use Rattle.mq_handle.specs.Looking.{LooksForRoom}
use Rattle.mq_handle.specs.Told.{SawReceiver, SawRoom, RoomFound}
use Rattle.mq_handle.proofs.Told.{saw_room}
use Rattle.mq_handle.specs.Filling.{base_of, publishes_rest, finishes}
use Rattle.mq_handle.specs.Wholes.{FitsRing, rest_of, HasRoom, Looked, IsSentWhole, IsLeftOut}
use Rattle.mq_handle.proofs.Decoding.{first_frame}
use Rattle.mq_handle.proofs.Filling.{rest_same, rest_turn, rest_framed}
use Rattle.mq_handle.proofs.SendTries.{Begun, all_there, part_torn, left_of_frames, finished_ring, finished_put, finished_notes, finished_opens, in_frames, append_nothing}

-- the words that are left of the frame
pub rest_is : (s : Sending) (stored : ℕ) (message : List ℕ) → InFrames s.ring.max s.put stored → rest_of s.put message ≡ drop stored (frame message)
rest_is s stored message f = ap (λ (n : ℕ). drop n (frame message)) (ap length (left_of_frames s.ring.max s.put stored f) ∙ f.counted)

-- a part of a frame on the ring is not the whole of it
pub unfinished : (max : ℕ) (words : List ℕ) (stored : ℕ) (message : List ℕ) → InFrames max words stored → Continues words message → AllBytes message → stored < length (frame message)
unfinished max words stored message f same bytes =
    let all = frame message in
    let left = left_of_frames max words stored f in
    let n : length (left_of words) ≡ stored = ap length left ∙ f.counted in
    let part : f.part ≡ take stored all = sym left ∙ sym same ∙ ap (λ (k : ℕ). take k all) n in
    ⊎_elim
    (λ (low : stored < length all). low)
    (λ (high : length all ≤ stored).
    let whole : f.part ≡ all ++ [] = part ∙ take_all stored all high ∙ sym (append_nothing all) in
    let none : first_of f.part ≡ None = part_torn max f.part f.torn in
    let some_is : first_of f.part ≡ Some message = ap first_of whole ∙ first_frame message [] bytes in
    let both : None ≡ Some message = sym none ∙ some_is in
    absurd (cc))
    (cases_lt stored (length all))

-- room by the counts that the end keeps
has_room : (s : Sending) (free unpublished n : ℕ) → Counted s free unpublished → n ≤ free → HasRoom s n
has_room s free unpublished n c low = omega (arith, c.free_is)

lacks_room : (s : Sending) (free unpublished n : ℕ) → Counted s free unpublished → free < n → HasRoom s n → ⊥
lacks_room s free unpublished n c low has = omega (arith, c.free_is)

looked_for : (a b : Sending) (wanted free unpublished unpublished' : ℕ) → Counted a free unpublished → LooksForRoom a b wanted free unpublished' → Looked wanted a b
looked_for a b wanted free unpublished unpublished' c l = ⊎_elim
    (λ (p : (b ≡ a) × (wanted ≤ free)). inl (has_room a free unpublished wanted c p.1, p.0))
    (λ (p : (free < wanted) × (unpublished' ≡ 0) × (b ≡ looks_read (publishes_rest a) b.room)). inr (lacks_room a free unpublished wanted c p.0, p.2))
    l

-- a look for room changes neither the ring nor what was put
record Unchanged (old new : Sending) : Type 0 where
  pub ring : new.ring ≡ old.ring
  pub put : new.put ≡ old.put
  pub gone : new.gone ≡ old.gone
  pub turn : old.turn ≤ new.turn

unchanged : (n : ℕ) (a b : Sending) → Looked n a b → Unchanged a b
unchanged n a b l = ⊎_elim
    (λ (p : HasRoom a n × (b ≡ a)). subst (Unchanged a) (sym p.1) (record { ring = refl; put = refl; gone = refl; turn = omega arith }))
    (λ (p : (HasRoom a n → ⊥) × (b ≡ looks_read (publishes_rest a) b.room)).
    let t = rest_turn a in
    subst (Unchanged a) (sym p.1)
    (subst (λ (z : Sending). Unchanged a (looks_read z b.room)) (sym (rest_same a)) (record { ring = refl; put = refl; gone = refl; turn = omega arith })))
    l

-- the counts after the load of the flag
pub counted_seen : (s : Sending) (free unpublished x : ℕ) → Counted s free unpublished → Counted (sender_sees_flag s x) free unpublished
counted_seen s free unpublished x c = record { free_is = c.free_is; unpublished_is = c.unpublished_is; few = c.few; small = c.small }

-- after the look for room the end is open, and what is left of the frame may be put
pub looked_open : (s b : Sending) (wanted free unpublished unpublished' : ℕ) → s.gone ≡ false → Counted (sender_sees_flag s 0) free unpublished → LooksForRoom (sender_sees_flag s 0) b wanted free unpublished' → b.gone ≡ false
looked_open s b wanted free unpublished unpublished' stays c l = (unchanged wanted (sender_sees_flag s 0) b (looked_for (sender_sees_flag s 0) b wanted free unpublished unpublished' c l)).gone ∙ stays

pub looked_framed : (s b : Sending) (stored k wanted free unpublished unpublished' : ℕ) (message : List ℕ) → Begun s stored message → k ≡ stored → Counted (sender_sees_flag s 0) free unpublished
    → LooksForRoom (sender_sees_flag s 0) b wanted free unpublished' → IsFramed b.ring.max (b.put ++ drop k (frame message))
looked_framed s b stored k wanted free unpublished unpublished' message g same c l =
    let u = unchanged wanted (sender_sees_flag s 0) b (looked_for (sender_sees_flag s 0) b wanted free unpublished unpublished' c l) in
    let here : b.put ≡ base_of s stored ++ take k (frame message) = u.put ∙ g.begins ∙ ap (λ (n : ℕ). base_of s stored ++ take n (frame message)) (sym same) in
    subst (λ (r : Ring). IsFramed r.max (b.put ++ drop k (frame message))) (sym u.ring) (rest_framed s.ring.max (base_of s stored) (frame message) b.put k g.framed here)

-- the message is there
pub record Wholly (old new : Sending) (message : List ℕ) (flush : Bool) : Type 0 where
  pub answer : IsSentWhole old new message flush
  pub stays : StaysOpen old new
  pub framed : InFrames new.ring.max new.put 0

pub sent_whole : (s b : Sending) (stored wanted free free' unpublished unpublished' : ℕ) (message : List ℕ) (flush : Bool) → Begun s stored message → FitsRing s.ring message → InFrames s.ring.max s.put stored
    → wanted ≡ length (frame message) - stored → s.gone ≡ false → (s.flag_value ≡ 1 → ⊥) → Counted (sender_sees_flag s 0) free unpublished → Counted b free' unpublished'
    → LooksForRoom (sender_sees_flag s 0) b wanted free unpublished' → wanted ≤ free' → Wholly s (finishes flush (fold puts b (take free' (drop stored (frame message))))) message flush
sent_whole s b stored wanted free free' unpublished unpublished' message flush g fits framed want opened_is unset c d l enough =
    let all = frame message in
    let rest = drop stored all in
    let is = rest_is s stored message framed in
    let count : wanted ≡ length (rest_of s.put message) = want ∙ sym (length-drop stored all) ∙ ap length (sym is) in
    let run : take free' rest ≡ rest_of s.put message = take_all free' rest (omega (arith, length-drop stored all)) ∙ sym is in
    let look : Looked wanted (sender_sees_flag s 0) b = looked_for (sender_sees_flag s 0) b wanted free unpublished unpublished' c l in
    let same = unchanged wanted (sender_sees_flag s 0) b look in
    let last = fold puts b (take free' rest) in
    let end = finishes flush last in
    let has = has_put b (take free' rest) in
    let put : end.put ≡ base_of s stored ++ take (length all) all =
    finished_put flush last ∙ has.put ∙ (λ i. same.put i ++ (run ∙ is) i) ∙ ap (λ (z : List ℕ). z ++ rest) g.begins ∙ append_assoc (base_of s stored) (take stored all) rest
    ∙ ap (λ (z : List ℕ). base_of s stored ++ z) (take-append-drop stored all ∙ sym (take_all (length all) all (omega arith))) in
    let there = all_there s stored message end.put (length all) g put refl in
    let ring : end.ring ≡ s.ring = finished_ring flush last ∙ has.ring ∙ same.ring in
    let opened : StaysOpen s last = record {
      ring = has.ring ∙ same.ring;
      stays = has.gone ∙ same.gone ∙ opened_is;
      turn = let t = has.turn in let u = same.turn in omega arith;
      put = (take free' rest, has.put ∙ ap (λ (z : List ℕ). z ++ take free' rest) same.put);
      flag = λ e. absurd (unset e);
    } in
    record {
      answer = record {
        fits = fits;
        whole = there.whole;
        left = there.left;
        steps = (
          b,
          subst (λ (n : ℕ). Looked n (sender_sees_flag s 0) b) count look,
          subst (HasRoom b) count (has_room b free' unpublished' wanted d enough),
          ap (λ (xs : List ℕ). finishes flush (fold puts b xs)) run,
        );
      };
      stays = finished_opens flush s last opened;
      framed = in_frames s end 0 end.put ring refl there.framed;
    }

-- nothing is stored
pub record LeftOut (old new : Sending) (message : List ℕ) (stored : ℕ) : Type 0 where
  pub answer : IsLeftOut old new message stored
  pub stays : StaysOpen old new
  pub framed : InFrames new.ring.max new.put stored

pub left_out : (s b : Sending) (stored wanted free free' unpublished unpublished' : ℕ) (message : List ℕ) → FitsRing s.ring message → InFrames s.ring.max s.put stored
    → wanted ≡ length (frame message) - stored → s.gone ≡ false → (s.flag_value ≡ 1 → ⊥) → Counted (sender_sees_flag s 0) free unpublished → Counted b free' unpublished'
    → LooksForRoom (sender_sees_flag s 0) b wanted free unpublished' → free' < wanted → LeftOut s b message stored
left_out s b stored wanted free free' unpublished unpublished' message fits framed want opened_is unset c d l few =
    let all = frame message in
    let seen = sender_sees_flag s 0 in
    let is = rest_is s stored message framed in
    let count : wanted ≡ length (rest_of s.put message) = want ∙ sym (length-drop stored all) ∙ ap length (sym is) in
    let look : Looked wanted seen b = looked_for seen b wanted free unpublished unpublished' c l in
    let same = unchanged wanted seen b look in
    let lacking : HasRoom b (length (rest_of s.put message)) → ⊥ = subst (λ (n : ℕ). HasRoom b n → ⊥) count (lacks_room b free' unpublished' wanted d few) in
    ⊎_elim
    (λ (p : HasRoom seen wanted × (b ≡ seen)). absurd (lacks_room b free' unpublished' wanted d few (subst (λ (z : Sending). HasRoom z wanted) (sym p.1) p.0)))
    (λ (p : (HasRoom seen wanted → ⊥) × (b ≡ looks_read (publishes_rest seen) b.room)). record {
      answer = record {
        fits = fits;
        put = same.put;
        published = ap (λ (z : Sending). z.published) p.1 ∙ ap (λ (z : Sending). z.published) (rest_same seen);
        stored_is = sym (ap length (left_of_frames s.ring.max s.put stored framed) ∙ framed.counted);
        steps = p.1;
        lacked = subst (λ (n : ℕ). HasRoom seen n → ⊥) count p.0;
        lacks = lacking;
      };
      stays = record {
        ring = same.ring;
        stays = same.gone ∙ opened_is;
        turn = let u = same.turn in omega arith;
        put = ([], same.put ∙ sym (append_nothing s.put));
        flag = λ e. absurd (unset e);
      };
      framed = in_frames s b stored s.put same.ring same.put framed;
    })
    look

-- what the flag told, if it was not found set
pub saw_none : (told : Option Receiving) (new : Sending) → IfSome told (λ q. q.gone ≡ true → false ≡ true) → SawReceiver told new
saw_none None new h = tt
saw_none (Some q) new h = λ gone. absurd (let e : false ≡ true = h gone in cc)

-- what the look told stays told to the end of the call
pub found_whole : (told : Option Receiving) (s b : Sending) (xs : List ℕ) (flush : Bool) → RoomFound told (sender_sees_flag s 0) b → RoomFound told s (finishes flush (fold puts b xs))
found_whole told s b xs flush found =
    let last = fold puts b xs in
    let has = has_put b xs in
    let notes = finished_notes flush last in
    let looked : (finishes flush last).looked ≡ b.looked = notes.0 ∙ has.looked.0 in
    let room : (finishes flush last).room ≡ b.room = notes.1 ∙ has.room in
    ⊎_elim
    (λ (p : (b.looked ≡ s.looked) × (b.room ≡ s.room)). inl (looked ∙ p.0, room ∙ p.1))
    (λ (p : (s.turn + 1 < b.looked) × SawRoom told b). inr (omega (arith, p.0, looked), saw_room told b (finishes flush last) room p.1))
    found

-- the tests of the code, as facts
pub at_most : (a b : ℕ) → leb a b ≡ true → a ≤ b
at_most a b e = grind (arith, nat_tests)

pub not_above : (a b : ℕ) → leb a b ≡ false → a ≤ b → ⊥
not_above a b e low = let yes : leb a b ≡ true = grind (arith, nat_tests) in absurd (let z : false ≡ true = sym e ∙ yes in cc)
