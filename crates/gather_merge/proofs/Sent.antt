-- Rows that are sent one by one.
use Rattle.std.proofs.Common.{◌≡◌, ◌<◌, ◌≤◌, ◌+◌, ◌++◌, ℕ, List, [], ◌∷◌, length, take, get_or, map, refl, ap, sym, subst, ◌∙◌, append-nil, append_assoc}
use Rattle.std.proofs.lemmas.List.{map-append, take_more}
use Rattle.mq_handle.specs.Messages.{whole_of}
use Rattle.ring_rule.specs.Ring.{Sending}
use Rattle.worker_run.specs.Sent.{FoundGone, HasSent, IsReady}
use Rattle.gather_merge.specs.Sent.{HasSentRows, StoppedSending, message_of}

has_sent_nothing : (n : ℕ) (s : Sending) → IsReady n s → HasSent s s []
has_sent_nothing n s r = record { ring = refl; stays = r.stays; fresh = r.fresh; sent = sym (append-nil (whole_of s.put)) }

has_sent_more : (old mid new : Sending) (ms more : List (List ℕ)) → HasSent old mid ms → HasSent mid new more → HasSent old new (ms ++ more)
has_sent_more old mid new ms more a b = record {
  ring = b.ring ∙ a.ring;
  stays = b.stays;
  fresh = b.fresh;
  sent = b.sent ∙ ap (λ l. l ++ more) a.sent ∙ append_assoc (whole_of old.put) ms more;
}

pub still_ready : (n : ℕ) (old new : Sending) (ms : List (List ℕ)) → IsReady n old → HasSent old new ms → IsReady n new
still_ready n old new ms r s = record { stays = s.stays; fresh = s.fresh; room = subst (λ k. n ≤ k) (ap (λ k. k.max) (sym s.ring)) r.room }

pub sent_none : (rows : List ℕ) (s : Sending) → IsReady 8 s → HasSentRows (take 0 rows) s s
sent_none rows s r = has_sent_nothing 8 s r

pub sent_more : (rows : List ℕ) (at row : ℕ) (old mid new : Sending) → at < length rows → row ≡ get_or rows at 0 → HasSentRows (take at rows) old mid → HasSent mid new (message_of row ∷ []) → HasSentRows (take (at + 1) rows) old new
sent_more rows at row old mid new l e a b =
    let more : take (at + 1) rows ≡ take at rows ++ row ∷ [] = take_more rows at 0 l ∙ ap (λ (r : ℕ). take at rows ++ r ∷ []) (sym e) in
    subst (λ rs. HasSent old new (map message_of rs)) (sym more)
    (subst (HasSent old new) (sym (map-append message_of (take at rows) (row ∷ []))) (has_sent_more old mid new (map message_of (take at rows)) (message_of row ∷ []) a b))

pub sent_stopped : (rows : List ℕ) (at : ℕ) (old mid new : Sending) → HasSentRows (take at rows) old mid → FoundGone mid new [] → StoppedSending old new
sent_stopped rows at old mid new a f = record {
  done = take at rows;
  found = record { ring = f.ring ∙ a.ring; stays = f.stays; flag = f.flag; sent = f.sent ∙ append-nil (whole_of mid.put) ∙ a.sent };
}
