-- Groups that are sent one by one.
use Rattle.std.proofs.Common.{◌≡◌, ◌≤◌, ◌<◌, ◌+◌, ◌++◌, ℕ, List, [], ◌∷◌, get_or, length, take, refl, ap, sym, subst, ◌∙◌, append-nil, append_assoc}
use Rattle.std.proofs.lemmas.List.{map-append, take_more}
use Rattle.mq_handle.specs.Messages.{whole_of}
use Rattle.ring_rule.specs.Ring.{Sending}
use Rattle.tuple_codec.specs.Tuple.{IsTuple, tuple_bytes}
use Rattle.gather_law.specs.Tuples.{Group}
use Rattle.worker_run.specs.Sent.{AreWritten, FoundGone, HasSent, HasSentThese, IsReady, StoppedSending, tuples_of}
use Rattle.tuple_codec.specs.declared.write.TheConstants.{TUPLE_BYTES}

pub has_sent_nothing : (n : ℕ) (s : Sending) → IsReady n s → HasSent s s []
has_sent_nothing n s r = record { ring = refl; stays = r.stays; fresh = r.fresh; sent = sym (append-nil (whole_of s.put)) }

pub has_sent_more : (old mid new : Sending) (ms more : List (List ℕ)) → HasSent old mid ms → HasSent mid new more → HasSent old new (ms ++ more)
has_sent_more old mid new ms more a b = record {
  ring = b.ring ∙ a.ring;
  stays = b.stays;
  fresh = b.fresh;
  sent = b.sent ∙ ap (λ l. l ++ more) a.sent ∙ append_assoc (whole_of old.put) ms more;
}

pub still_ready : (n : ℕ) (old new : Sending) (ms : List (List ℕ)) → IsReady n old → HasSent old new ms → IsReady n new
still_ready n old new ms r s = record { stays = s.stays; fresh = s.fresh; room = subst (λ k. n ≤ k) (ap (λ k. k.max) (sym s.ring)) r.room }

pub written-join : (slots : ℕ) (gs hs : List Group) → AreWritten slots gs → AreWritten slots hs → AreWritten slots (gs ++ hs)
written-join slots [] hs a b = b
written-join slots (g ∷ gs) hs a b = (a.0, written-join slots gs hs a.1 b)

-- ---- groups that are sent one after another

pub these_none : (slots : ℕ) (groups : List Group) (s : Sending) → IsReady TUPLE_BYTES s → HasSentThese slots (take 0 groups) s s
these_none slots groups s r = record { written = tt; sent = has_sent_nothing TUPLE_BYTES s r }

pub these_more : (slots : ℕ) (groups : List Group) (at : ℕ) (old mid new : Sending) (g : Group) → ((d : Group) → get_or groups at d ≡ g) → at < length groups → HasSentThese slots (take at groups) old mid → IsTuple g.0 g.1 slots
    → HasSent mid new (tuple_bytes g.0 g.1 slots ∷ []) → HasSentThese slots (take (at + 1) groups) old new
these_more slots groups at old mid new g is lt h t s =
    let more : take (at + 1) groups ≡ take at groups ++ g ∷ [] = take_more groups at g lt ∙ ap (λ x. take at groups ++ x ∷ []) (is g) in
    subst (λ gs. HasSentThese slots gs old new) (sym more)
    (record {
      written = written-join slots (take at groups) (g ∷ []) h.written (t, tt);
      sent = subst (HasSent old new) (sym (map-append (λ group. tuple_bytes group.0 group.1 slots) (take at groups) (g ∷ [])))
          (has_sent_more old mid new (tuples_of slots (take at groups)) (tuple_bytes g.0 g.1 slots ∷ []) h.sent s);
    })

pub these_stopped : (slots : ℕ) (groups : List Group) (old mid new : Sending) → HasSentThese slots groups old mid → FoundGone mid new [] → StoppedSending slots old new
these_stopped slots groups old mid new h s = record {
  done = groups;
  written = h.written;
  found = record { ring = s.ring ∙ h.sent.ring; stays = s.stays; flag = s.flag; sent = s.sent ∙ append-nil (whole_of mid.put) ∙ h.sent.sent };
}
