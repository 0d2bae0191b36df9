use Rattle.std.proofs.Common.{◌≡◌, ℕ, false, true, ◌+◌, ◌-◌, Option, length, take, drop, refl, sym, ap, subst, ◌∙◌, arith}
use Rattle.std.specs.List.{fold}
use Rattle.ring_rule.specs.Frames.{frame, IsMessage}
use Rattle.ring_rule.specs.Ring.{Sending, Receiving}
use Rattle.ring_rule.specs.Ends.{puts, sender_sees_flag}
use Rattle.mq_ring.specs.Ends.{SendingEnd}
use Rattle.mq_ring.proofs.Runs.{has_put}
use Rattle.mq_handle.specs.Held.{InFrames}
use Rattle.mq_handle.specs.Looking.{LooksForRoom}
use Rattle.mq_handle.specs.Filling.{finishes}
use Rattle.mq_handle.specs.Sends.{StaysOpen}
use Rattle.mq_handle.specs.Told.{RoomFound}
use Rattle.mq_handle.specs.Wholes.{FitsRing, IsSentWhole, IsLeftOut}
use Rattle.mq_handle.proofs.Filling.{length-frame}
use Rattle.mq_handle.proofs.SendTries.{begun}
use Rattle.mq_handle.proofs.Wholes.{unfinished, counted_seen, looked_open, looked_framed, sent_whole, left_out, saw_none, found_whole}
use Rattle.mq_handle.proofs.sending_whole.send_whole.Goals as goal

-- a flag that was not found set was not set before
unset : false ≡ true → ⊥
unset e = cc

pub overflow_sub-wanted : goal.overflow_sub-wanted
overflow_sub-wanted c =
    let m = c.args.message.now in
    let low = unfinished _ _ c.args.counts.words m c.requires.framed c.requires.continues c.len-length.ensures.bytes in
    omega (arith, low, length-frame m, c.words_of.ensures, c.len-length.ensures.count)

pub returns-then-counts-wanted-clause-answer : goal.returns-then-counts-wanted-clause-answer
returns-then-counts-wanted-clause-answer c =
    let old = c.args.tx.now.end in
    let m = c.args.message.now in
    let fits : FitsRing old.ring m = c.if-not-fits_ring.ensures.yes refl in
    let end : c.look_flag.new.self.end ≡ sender_sees_flag old 0 = ap (λ (o : SendingEnd). o.end) c.if-look_flag.ensures.end in
    let counted = counted_seen old _ _ 0 c.requires.counted in
    let looks = subst (λ (s : Sending). LooksForRoom s c.look_for_room-counts.new.tx.end (1 + c.words_of.result - c.args.counts.words) c.args.counts.free c.look_for_room-counts.result.unpublished) end c.look_for_room-counts.ensures.looks in
    let want : 1 + c.words_of.result - c.args.counts.words ≡ length (frame m) - c.args.counts.words = omega (arith, length-frame m, c.words_of.ensures, c.len-length.ensures.count) in
    let out = left_out old c.look_for_room-counts.new.tx.end c.args.counts.words _ _ _ _ _ m fits c.requires.framed want c.requires.stays (λ e. unset (c.if-look_flag.ensures.stays_set e)) counted c.look_for_room-counts.ensures.counted looks c.if-counts-wanted.true in
    subst (IsLeftOut old c.look_for_room-counts.new.tx.end m) (sym c.look_for_room-counts.ensures.stored) out.answer

pub returns-then-counts-wanted-clause-stays : goal.returns-then-counts-wanted-clause-stays
returns-then-counts-wanted-clause-stays c =
    let old = c.args.tx.now.end in
    let m = c.args.message.now in
    let fits : FitsRing old.ring m = c.if-not-fits_ring.ensures.yes refl in
    let end : c.look_flag.new.self.end ≡ sender_sees_flag old 0 = ap (λ (o : SendingEnd). o.end) c.if-look_flag.ensures.end in
    let counted = counted_seen old _ _ 0 c.requires.counted in
    let looks = subst (λ (s : Sending). LooksForRoom s c.look_for_room-counts.new.tx.end (1 + c.words_of.result - c.args.counts.words) c.args.counts.free c.look_for_room-counts.result.unpublished) end c.look_for_room-counts.ensures.looks in
    let want : 1 + c.words_of.result - c.args.counts.words ≡ length (frame m) - c.args.counts.words = omega (arith, length-frame m, c.words_of.ensures, c.len-length.ensures.count) in
    let out = left_out old c.look_for_room-counts.new.tx.end c.args.counts.words _ _ _ _ _ m fits c.requires.framed want c.requires.stays (λ e. unset (c.if-look_flag.ensures.stays_set e)) counted c.look_for_room-counts.ensures.counted looks c.if-counts-wanted.true in
    out.stays

pub returns-then-counts-wanted-clause-framed : goal.returns-then-counts-wanted-clause-framed
returns-then-counts-wanted-clause-framed c =
    let old = c.args.tx.now.end in
    let m = c.args.message.now in
    let fits : FitsRing old.ring m = c.if-not-fits_ring.ensures.yes refl in
    let end : c.look_flag.new.self.end ≡ sender_sees_flag old 0 = ap (λ (o : SendingEnd). o.end) c.if-look_flag.ensures.end in
    let counted = counted_seen old _ _ 0 c.requires.counted in
    let looks = subst (λ (s : Sending). LooksForRoom s c.look_for_room-counts.new.tx.end (1 + c.words_of.result - c.args.counts.words) c.args.counts.free c.look_for_room-counts.result.unpublished) end c.look_for_room-counts.ensures.looks in
    let want : 1 + c.words_of.result - c.args.counts.words ≡ length (frame m) - c.args.counts.words = omega (arith, length-frame m, c.words_of.ensures, c.len-length.ensures.count) in
    let out = left_out old c.look_for_room-counts.new.tx.end c.args.counts.words _ _ _ _ _ m fits c.requires.framed want c.requires.stays (λ e. unset (c.if-look_flag.ensures.stays_set e)) counted c.look_for_room-counts.ensures.counted looks c.if-counts-wanted.true in
    subst (InFrames c.look_for_room-counts.new.tx.end.ring.max c.look_for_room-counts.new.tx.end.put) (sym c.look_for_room-counts.ensures.stored) out.framed

pub store_run-counts-requires-clause-stays : goal.store_run-counts-requires-clause-stays
store_run-counts-requires-clause-stays c =
    let old = c.args.tx.now.end in
    let m = c.args.message.now in
    let fits : FitsRing old.ring m = c.if-not-fits_ring.ensures.yes refl in
    let end : c.look_flag.new.self.end ≡ sender_sees_flag old 0 = ap (λ (o : SendingEnd). o.end) c.if-look_flag.ensures.end in
    let counted = counted_seen old _ _ 0 c.requires.counted in
    let looks = subst (λ (s : Sending). LooksForRoom s c.look_for_room-counts.new.tx.end (1 + c.words_of.result - c.args.counts.words) c.args.counts.free c.look_for_room-counts.result.unpublished) end c.look_for_room-counts.ensures.looks in
    let want : 1 + c.words_of.result - c.args.counts.words ≡ length (frame m) - c.args.counts.words = omega (arith, length-frame m, c.words_of.ensures, c.len-length.ensures.count) in
    looked_open old c.look_for_room-counts.new.tx.end _ _ _ _ c.requires.stays counted looks

pub store_run-counts-requires-clause-some : goal.store_run-counts-requires-clause-some
store_run-counts-requires-clause-some c =
    let m = c.args.message.now in
    let low = unfinished _ _ c.args.counts.words m c.requires.framed c.requires.continues c.len-length.ensures.bytes in
    omega (arith, low, length-frame m, c.words_of.ensures, c.len-length.ensures.count, c.if-counts-wanted.false)

pub store_run-counts-requires-clause-more : goal.store_run-counts-requires-clause-more
store_run-counts-requires-clause-more c =
    let m = c.args.message.now in
    let low = unfinished _ _ c.args.counts.words m c.requires.framed c.requires.continues c.len-length.ensures.bytes in
    omega (arith, low, c.look_for_room-counts.ensures.stored)

pub store_run-counts-requires-clause-framed : goal.store_run-counts-requires-clause-framed
store_run-counts-requires-clause-framed c =
    let old = c.args.tx.now.end in
    let m = c.args.message.now in
    let fits : FitsRing old.ring m = c.if-not-fits_ring.ensures.yes refl in
    let end : c.look_flag.new.self.end ≡ sender_sees_flag old 0 = ap (λ (o : SendingEnd). o.end) c.if-look_flag.ensures.end in
    let counted = counted_seen old _ _ 0 c.requires.counted in
    let looks = subst (λ (s : Sending). LooksForRoom s c.look_for_room-counts.new.tx.end (1 + c.words_of.result - c.args.counts.words) c.args.counts.free c.look_for_room-counts.result.unpublished) end c.look_for_room-counts.ensures.looks in
    let want : 1 + c.words_of.result - c.args.counts.words ≡ length (frame m) - c.args.counts.words = omega (arith, length-frame m, c.words_of.ensures, c.len-length.ensures.count) in
    let mine : IsMessage old.ring.max m = record { bytes = c.len-length.ensures.bytes; short = fits.0 } in
    let g = begun old c.args.counts.words m c.requires.framed c.requires.continues mine in
    looked_framed old c.look_for_room-counts.new.tx.end c.args.counts.words _ _ _ _ _ m g c.look_for_room-counts.ensures.stored counted looks

pub finish_storing-counts-requires-clause-stays : goal.finish_storing-counts-requires-clause-stays
finish_storing-counts-requires-clause-stays c =
    let old = c.args.tx.now.end in
    let m = c.args.message.now in
    let fits : FitsRing old.ring m = c.if-not-fits_ring.ensures.yes refl in
    let end : c.look_flag.new.self.end ≡ sender_sees_flag old 0 = ap (λ (o : SendingEnd). o.end) c.if-look_flag.ensures.end in
    let counted = counted_seen old _ _ 0 c.requires.counted in
    let looks = subst (λ (s : Sending). LooksForRoom s c.look_for_room-counts.new.tx.end (1 + c.words_of.result - c.args.counts.words) c.args.counts.free c.look_for_room-counts.result.unpublished) end c.look_for_room-counts.ensures.looks in
    let want : 1 + c.words_of.result - c.args.counts.words ≡ length (frame m) - c.args.counts.words = omega (arith, length-frame m, c.words_of.ensures, c.len-length.ensures.count) in
    let mine : IsMessage old.ring.max m = record { bytes = c.len-length.ensures.bytes; short = fits.0 } in
    let g = begun old c.args.counts.words m c.requires.framed c.requires.continues mine in
    let run = ap (λ (o : SendingEnd). o.end) c.store_run-counts.ensures.end in
    ap (λ (s : Sending). s.gone) run ∙ (has_put c.look_for_room-counts.new.tx.end (take c.look_for_room-counts.result.free (drop c.look_for_room-counts.result.words (frame m)))).gone ∙ looked_open old c.look_for_room-counts.new.tx.end _ _ _ _ c.requires.stays counted looks

pub returns-clause-answer : goal.returns-clause-answer
returns-clause-answer c =
    let old = c.args.tx.now.end in
    let m = c.args.message.now in
    let fits : FitsRing old.ring m = c.if-not-fits_ring.ensures.yes refl in
    let end : c.look_flag.new.self.end ≡ sender_sees_flag old 0 = ap (λ (o : SendingEnd). o.end) c.if-look_flag.ensures.end in
    let counted = counted_seen old _ _ 0 c.requires.counted in
    let looks = subst (λ (s : Sending). LooksForRoom s c.look_for_room-counts.new.tx.end (1 + c.words_of.result - c.args.counts.words) c.args.counts.free c.look_for_room-counts.result.unpublished) end c.look_for_room-counts.ensures.looks in
    let want : 1 + c.words_of.result - c.args.counts.words ≡ length (frame m) - c.args.counts.words = omega (arith, length-frame m, c.words_of.ensures, c.len-length.ensures.count) in
    let mine : IsMessage old.ring.max m = record { bytes = c.len-length.ensures.bytes; short = fits.0 } in
    let g = begun old c.args.counts.words m c.requires.framed c.requires.continues mine in
    let w = sent_whole old c.look_for_room-counts.new.tx.end c.args.counts.words _ _ c.look_for_room-counts.result.free _ _ m c.args.flush g fits c.requires.framed want c.requires.stays (λ e. unset (c.if-look_flag.ensures.stays_set e)) counted c.look_for_room-counts.ensures.counted looks (omega (arith, c.if-counts-wanted.false)) in
    let run : c.store_run-counts.new.tx.end ≡ fold puts c.look_for_room-counts.new.tx.end (take c.look_for_room-counts.result.free (drop c.args.counts.words (frame m))) =
    ap (λ (o : SendingEnd). o.end) c.store_run-counts.ensures.end ∙ ap (λ (k : ℕ). fold puts c.look_for_room-counts.new.tx.end (take c.look_for_room-counts.result.free (drop k (frame m)))) c.look_for_room-counts.ensures.stored in
    let last : c.finish_storing-counts.new.tx.end ≡ finishes c.args.flush (fold puts c.look_for_room-counts.new.tx.end (take c.look_for_room-counts.result.free (drop c.args.counts.words (frame m)))) =
    ap (λ (o : SendingEnd). o.end) c.finish_storing-counts.ensures.end ∙ ap (finishes c.args.flush) run in
    subst (λ (s : Sending). IsSentWhole old s m c.args.flush) (sym last) w.answer

pub returns-clause-stays : goal.returns-clause-stays
returns-clause-stays c =
    let old = c.args.tx.now.end in
    let m = c.args.message.now in
    let fits : FitsRing old.ring m = c.if-not-fits_ring.ensures.yes refl in
    let end : c.look_flag.new.self.end ≡ sender_sees_flag old 0 = ap (λ (o : SendingEnd). o.end) c.if-look_flag.ensures.end in
    let counted = counted_seen old _ _ 0 c.requires.counted in
    let looks = subst (λ (s : Sending). LooksForRoom s c.look_for_room-counts.new.tx.end (1 + c.words_of.result - c.args.counts.words) c.args.counts.free c.look_for_room-counts.result.unpublished) end c.look_for_room-counts.ensures.looks in
    let want : 1 + c.words_of.result - c.args.counts.words ≡ length (frame m) - c.args.counts.words = omega (arith, length-frame m, c.words_of.ensures, c.len-length.ensures.count) in
    let mine : IsMessage old.ring.max m = record { bytes = c.len-length.ensures.bytes; short = fits.0 } in
    let g = begun old c.args.counts.words m c.requires.framed c.requires.continues mine in
    let w = sent_whole old c.look_for_room-counts.new.tx.end c.args.counts.words _ _ c.look_for_room-counts.result.free _ _ m c.args.flush g fits c.requires.framed want c.requires.stays (λ e. unset (c.if-look_flag.ensures.stays_set e)) counted c.look_for_room-counts.ensures.counted looks (omega (arith, c.if-counts-wanted.false)) in
    let run : c.store_run-counts.new.tx.end ≡ fold puts c.look_for_room-counts.new.tx.end (take c.look_for_room-counts.result.free (drop c.args.counts.words (frame m))) =
    ap (λ (o : SendingEnd). o.end) c.store_run-counts.ensures.end ∙ ap (λ (k : ℕ). fold puts c.look_for_room-counts.new.tx.end (take c.look_for_room-counts.result.free (drop k (frame m)))) c.look_for_room-counts.ensures.stored in
    let last : c.finish_storing-counts.new.tx.end ≡ finishes c.args.flush (fold puts c.look_for_room-counts.new.tx.end (take c.look_for_room-counts.result.free (drop c.args.counts.words (frame m)))) =
    ap (λ (o : SendingEnd). o.end) c.finish_storing-counts.ensures.end ∙ ap (finishes c.args.flush) run in
    subst (StaysOpen old) (sym last) w.stays

pub returns-clause-framed : goal.returns-clause-framed
returns-clause-framed c =
    let old = c.args.tx.now.end in
    let m = c.args.message.now in
    let fits : FitsRing old.ring m = c.if-not-fits_ring.ensures.yes refl in
    let end : c.look_flag.new.self.end ≡ sender_sees_flag old 0 = ap (λ (o : SendingEnd). o.end) c.if-look_flag.ensures.end in
    let counted = counted_seen old _ _ 0 c.requires.counted in
    let looks = subst (λ (s : Sending). LooksForRoom s c.look_for_room-counts.new.tx.end (1 + c.words_of.result - c.args.counts.words) c.args.counts.free c.look_for_room-counts.result.unpublished) end c.look_for_room-counts.ensures.looks in
    let want : 1 + c.words_of.result - c.args.counts.words ≡ length (frame m) - c.args.counts.words = omega (arith, length-frame m, c.words_of.ensures, c.len-length.ensures.count) in
    let mine : IsMessage old.ring.max m = record { bytes = c.len-length.ensures.bytes; short = fits.0 } in
    let g = begun old c.args.counts.words m c.requires.framed c.requires.continues mine in
    let w = sent_whole old c.look_for_room-counts.new.tx.end c.args.counts.words _ _ c.look_for_room-counts.result.free _ _ m c.args.flush g fits c.requires.framed want c.requires.stays (λ e. unset (c.if-look_flag.ensures.stays_set e)) counted c.look_for_room-counts.ensures.counted looks (omega (arith, c.if-counts-wanted.false)) in
    let run : c.store_run-counts.new.tx.end ≡ fold puts c.look_for_room-counts.new.tx.end (take c.look_for_room-counts.result.free (drop c.args.counts.words (frame m))) =
    ap (λ (o : SendingEnd). o.end) c.store_run-counts.ensures.end ∙ ap (λ (k : ℕ). fold puts c.look_for_room-counts.new.tx.end (take c.look_for_room-counts.result.free (drop k (frame m)))) c.look_for_room-counts.ensures.stored in
    let last : c.finish_storing-counts.new.tx.end ≡ finishes c.args.flush (fold puts c.look_for_room-counts.new.tx.end (take c.look_for_room-counts.result.free (drop c.args.counts.words (frame m)))) =
    ap (λ (o : SendingEnd). o.end) c.finish_storing-counts.ensures.end ∙ ap (finishes c.args.flush) run in
    subst (λ (k : ℕ). InFrames c.finish_storing-counts.new.tx.end.ring.max c.finish_storing-counts.new.tx.end.put k) (sym c.finish_storing-counts.ensures.stored)
    (subst (λ (s : Sending). InFrames s.ring.max s.put 0) (sym last) w.framed)

pub returns-clause-told : goal.returns-clause-told
returns-clause-told c =
    let old = c.args.tx.now.end in
    let m = c.args.message.now in
    let end : c.look_flag.new.self.end ≡ sender_sees_flag old 0 = ap (λ (o : SendingEnd). o.end) c.if-look_flag.ensures.end in
    let run : c.store_run-counts.new.tx.end ≡ fold puts c.look_for_room-counts.new.tx.end (take c.look_for_room-counts.result.free (drop c.args.counts.words (frame m))) =
    ap (λ (o : SendingEnd). o.end) c.store_run-counts.ensures.end ∙ ap (λ (k : ℕ). fold puts c.look_for_room-counts.new.tx.end (take c.look_for_room-counts.result.free (drop k (frame m)))) c.look_for_room-counts.ensures.stored in
    let last : c.finish_storing-counts.new.tx.end ≡ finishes c.args.flush (fold puts c.look_for_room-counts.new.tx.end (take c.look_for_room-counts.result.free (drop c.args.counts.words (frame m)))) =
    ap (λ (o : SendingEnd). o.end) c.finish_storing-counts.ensures.end ∙ ap (finishes c.args.flush) run in
    let told : c.look_flag.new.self.told ≡ c.args.tx.now.told = ap (λ (o : SendingEnd). o.told) c.if-look_flag.ensures.end in
    let found = subst (λ (t : Option Receiving). RoomFound t (sender_sees_flag old 0) c.look_for_room-counts.new.tx.end) told
    (subst (λ (s : Sending). RoomFound c.look_flag.new.self.told s c.look_for_room-counts.new.tx.end) end c.look_for_room-counts.ensures.found) in (
      saw_none c.args.tx.now.told c.finish_storing-counts.new.tx.end c.if-look_flag.ensures.told,
      subst (RoomFound c.args.tx.now.told old) (sym last) (found_whole c.args.tx.now.told old c.look_for_room-counts.new.tx.end (take c.look_for_room-counts.result.free (drop c.args.counts.words (frame m))) c.args.flush found),
    )
