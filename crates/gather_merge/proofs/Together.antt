-- What the workers and the leader did, put together.
use Rattle.std.proofs.Common.{◌≡◌, ◌<◌, ◌≤◌, ◌+◌, ◌-◌, ◌*◌, ◌^◌, ◌++◌, ◌⊎◌, inl, inr, ℕ, List, [], ◌∷◌, length, drop, map, All, IsTrue, MatchOption, Option, Some, None, true, refl, ap, sym, subst, ◌∙◌, arith, Any}
use Rattle.std.specs.List.{AllZip}
use Rattle.std.proofs.lemmas.List.Elements.{All-cons, All-head, All-nil, All-tail}
use Rattle.error_queue.specs.declared.ErrorMessage.TheVariants as message
use Rattle.mq_handle.specs.Messages.{whole_of}
use Rattle.par_model.specs.Plan.{Plan}
use Rattle.partial_agg.specs.Rows.{IsAccepted, header_width}
use Rattle.scan_claim.specs.Drawing.{IsDrawn, flat, is_spent, late, once_below, times}
use Rattle.scan_claim.proofs.Totals.{late-append}
use Rattle.row_blocks.specs.Blocks.{AreBlocks, Table}
use Rattle.row_blocks.proofs.Elements.{All-apart, any_cases, any_none}
use Rattle.agg_table.specs.Calls.{Use}
use Rattle.parallel_ctx.specs.Ran.{Finishes}
use Rattle.parallel_ctx.specs.Accounts.{Account, Heard, IsIdle, account_of, heard_of}
use Rattle.parallel_ctx.specs.declared.home.Returned.{Returned}
use Rattle.worker_run.specs.Ended.{IsNotice, IsRefused}
use Rattle.worker_run.specs.declared.WorkerEnd.{WorkerEnd}
use Rattle.worker_run.specs.declared.WorkerEnd.TheVariants.{Finished, Stopped, Refused, NoMemory}
use Rattle.gather_merge.specs.Answers.{IsCause, IsFirst, IsFirstCause, OrdersRows}
use Rattle.gather_merge.specs.Ended.{DidWork}
use Rattle.worker_run.specs.Notices.{ReadsRow}
use Rattle.gather_merge.specs.Hearing.{rows_heard}
use Rattle.gather_merge.specs.Leading.{Answers, HasLed, Led, NamesRow}
use Rattle.gather_merge.specs.Order.{IsOrder}
use Rattle.gather_merge.specs.Sent.{row_of}
use Rattle.gather_merge.specs.Streams.{IsStream}
use Rattle.worker_run.specs.Verdicts.{AreVerdict, EndsWell}
use Rattle.worker_run.proofs.Judging.{all_apart, any_apart}
use Rattle.partial_agg.specs.declared.map.BlockAnswer.{BlockAnswer}
use Rattle.partial_agg.specs.declared.map.BlockAnswer.TheVariants as block
use Rattle.gather_merge.specs.Used.{ReadItsNotices, SentItsRows}
use Rattle.gather_merge.specs.declared.MergeAnswer.{MergeAnswer}
use Rattle.gather_merge.specs.declared.MergeAnswer.TheVariants.{Row, Memory}
use Rattle.gather_merge.proofs.Causes.{no_cause}
use Rattle.gather_merge.proofs.Law.{merges}
use Rattle.gather_merge.proofs.Streams.{no_stream, read_rows}

-- a row is refused, for this cause
abbrev pub IsRefusedRow : Plan → Table → ℕ → ℕ → Type 0
IsRefusedRow plan records row cause = (item : ℕ) × IsRefused plan records row cause item

-- how some workers ended
abbrev pub ends_of : List (Returned WorkerEnd) → List (Option WorkerEnd)
ends_of ws = map (λ (w : Returned WorkerEnd). w.end) ws

pub all_well : (ws : List (Returned WorkerEnd)) → AreVerdict (ends_of ws) None → All (λ (w : Returned WorkerEnd). EndsWell w.end) ws
all_well ws v = all_apart EndsWell (λ (w : Returned WorkerEnd). w.end) ws v

module _ (uses : ℕ → Option Use) (plan : Plan) (records : Table) (blocks : ℕ) where
  abbrev Did : Plan → ℕ → Account → WorkerEnd → Type 0
  Did p n a e = DidWork p records n a e

  abbrev Worker : List ℕ → Returned WorkerEnd → Type 0
  Worker draws w = Finishes Did uses plan blocks draws w

  -- ---- refused rows

  row_inj : (a b c d e f : ℕ) → message.Row a b c ≡ message.Row d e f → (a ≡ d) × (b ≡ e) × (c ≡ f)
  row_inj a b c d e f h = (cc, cc, cc)

  one_notice : (draws : List ℕ) (row cause item : ℕ) (bytes : List ℕ) → ReadsRow row cause item bytes → IsNotice plan records draws bytes → IsRefused plan records row cause item
  one_notice draws row cause item bytes r (inl n) =
      let same = row_inj n.row n.cause n.item row cause item (r.each (message.Row n.row n.cause n.item) n.fits n.is) in
      subst (λ x. IsRefused plan records x cause item) same.0 (subst (λ x. IsRefused plan records n.row x item) same.1 (subst (λ x. IsRefused plan records n.row n.cause x) same.2 n.refused))
  one_notice draws row cause item bytes r (inr e) = let no : message.End ≡ message.Row row cause item = r.each message.End tt e in cc

  any_notice : (draws : List ℕ) (row cause item : ℕ) (messages : List (List ℕ)) → Any (ReadsRow row cause item) messages → All (IsNotice plan records draws) messages → IsRefused plan records row cause item
  any_notice draws row cause item [] a h = absurd (any_none (ReadsRow row cause item) a)
  any_notice draws row cause item (m ∷ ms) a h =
      by (any_cases (ReadsRow row cause item) m ms a) (any_notice draws row cause item ms)
    where
      by : ReadsRow row cause item m ⊎ Any (ReadsRow row cause item) ms → (Any (ReadsRow row cause item) ms → All (IsNotice plan records draws) ms → IsRefused plan records row cause item) → IsRefused plan records row cause item
      by (inl r) rest = one_notice draws row cause item m r (All-head (IsNotice plan records draws) m ms h)
      by (inr a) rest = rest a (All-tail (IsNotice plan records draws) m ms h)

  worker_notices : (draws : List ℕ) (r : Returned WorkerEnd) → Worker draws r → All (IsNotice plan records draws) (whole_of r.errors.sender.put)
  worker_notices draws r f = by r.end f.done
    where
      by : (end : Option WorkerEnd) → MatchOption end (IsIdle (account_of uses draws r)) (λ e. Did plan blocks (account_of uses draws r) e) → All (IsNotice plan records draws) (whole_of r.errors.sender.put)
      by None d = subst (All (IsNotice plan records draws)) (sym d.errors) (All-nil (IsNotice plan records draws))
      by (Some e) d = d.notices

  -- the notices that were taken of each worker
  abbrev taken_of : List (Returned WorkerEnd) → List (List (List ℕ))
  taken_of ws = map (λ (h : Heard). h.errors) (map heard_of ws)

  named : (draws : List (List ℕ)) (ws : List (Returned WorkerEnd)) (row cause item : ℕ) → AllZip Worker draws ws → Any (λ notices. Any (ReadsRow row cause item) notices) (taken_of ws) → IsRefused plan records row cause item
  named [] [] row cause item f a = absurd (any_none (λ notices. Any (ReadsRow row cause item) notices) a)
  named [] (w ∷ ws) row cause item f a = absurd f
  named (ds ∷ draws) [] row cause item f a = absurd f
  named (ds ∷ draws) (w ∷ ws) row cause item f a =
      by (any_cases (λ notices. Any (ReadsRow row cause item) notices) (heard_of w).errors (taken_of ws) a) (named draws ws row cause item f.1)
    where
      by : Any (ReadsRow row cause item) (heard_of w).errors ⊎ Any (λ notices. Any (ReadsRow row cause item) notices) (taken_of ws)
          → (Any (λ notices. Any (ReadsRow row cause item) notices) (taken_of ws) → IsRefused plan records row cause item) → IsRefused plan records row cause item
      by (inl a) rest =
          let b = f.0.errors.beginning in
          let all : All (IsNotice plan records ds) (whole_of w.errors.receiver.taken ++ b.0) = subst (All (IsNotice plan records ds)) b.1 (worker_notices ds w f.0) in
          any_notice ds row cause item (whole_of w.errors.receiver.taken) a (All-apart (IsNotice plan records ds) (whole_of w.errors.receiver.taken) b.0 all).0
      by (inr a) rest = rest a

  ended : (draws : List (List ℕ)) (ws : List (Returned WorkerEnd)) (row cause item : ℕ) → AllZip Worker draws ws → Any (λ (w : Returned WorkerEnd). w.end ≡ Some (Refused row cause item)) ws → IsRefusedRow plan records row cause
  ended [] [] row cause item f a = absurd (any_none (λ (w : Returned WorkerEnd). w.end ≡ Some (Refused row cause item)) a)
  ended [] (w ∷ ws) row cause item f a = absurd f
  ended (ds ∷ draws) [] row cause item f a = absurd f
  ended (ds ∷ draws) (w ∷ ws) row cause item f a =
      by (any_cases (λ (w : Returned WorkerEnd). w.end ≡ Some (Refused row cause item)) w ws a) (ended draws ws row cause item f.1)
    where
      by : (w.end ≡ Some (Refused row cause item)) ⊎ Any (λ (w : Returned WorkerEnd). w.end ≡ Some (Refused row cause item)) ws
          → (Any (λ (w : Returned WorkerEnd). w.end ≡ Some (Refused row cause item)) ws → IsRefusedRow plan records row cause) → IsRefusedRow plan records row cause
      by (inl e) rest = (item, (subst (λ o. MatchOption o (IsIdle (account_of uses ds w)) (λ e. Did plan blocks (account_of uses ds w) e)) e f.0.done).ended.refused)
      by (inr a) rest = rest a

  -- ---- why there is no order

  pub leader_row : (own : List ℕ) (draws : List (List ℕ)) (ws : List (Returned WorkerEnd)) (order : List ℕ) (failure : Option MergeAnswer) (row cause : ℕ) → AllZip Worker draws ws
      → Led plan records blocks own (map heard_of ws) order failure → failure ≡ Some (Row row cause) → IsRefusedRow plan records row cause
  leader_row own draws ws order failure row cause f led e = by (subst (Led plan records blocks own (map heard_of ws) order) e led)
    where
      by : NamesRow plan records (map heard_of ws) row cause → IsRefusedRow plan records row cause
      by (inl m) = (m.item, m.refused)
      by (inr a) = (a.item, named draws ws row cause a.item f a.named)

  pub worker_row : (draws : List (List ℕ)) (ws : List (Returned WorkerEnd)) (row cause item : ℕ) → AllZip Worker draws ws → AreVerdict (ends_of ws) (Some (block.Row row cause item)) → IsRefusedRow plan records row cause
  worker_row draws ws row cause item f a = ended draws ws row cause item f (any_apart (λ (e : Option WorkerEnd). e ≡ Some (Refused row cause item)) (λ (w : Returned WorkerEnd). w.end) ws a)

  -- ---- the notices

  pub all_read : (draws : List (List ℕ)) (ws : List (Returned WorkerEnd)) → AllZip Worker draws ws → All (λ (h : Heard). h.errors_over ≡ true) (map heard_of ws) → All ReadItsNotices ws
  all_read [] [] f o = All-nil ReadItsNotices
  all_read [] (v ∷ ws) f o = absurd f
  all_read (ds ∷ draws) [] f o = absurd f
  all_read (ds ∷ draws) (v ∷ ws) f o =
      All-cons ReadItsNotices v ws (f.0.errors.all (All-head (λ (h : Heard). h.errors_over ≡ true) (heard_of v) (map heard_of ws) o))
      (all_read draws ws f.1 (All-tail (λ (h : Heard). h.errors_over ≡ true) (heard_of v) (map heard_of ws) o))

  -- ---- with no workers the first refused row is named

  pub leader_first : (own : List ℕ) (ws : List (Returned WorkerEnd)) (order : List ℕ) (failure : Option MergeAnswer) (row cause : ℕ) → length ws ≡ 0
      → Led plan records blocks own (map heard_of ws) order failure → failure ≡ Some (Row row cause) → IsFirst plan records row
  leader_first own [] order failure row cause none led e = by (subst (Led plan records blocks own [] order) e led)
    where
      by : NamesRow plan records [] row cause → IsFirst plan records row
      by (inl m) = m.first refl
      by (inr a) = absurd (any_none (λ notices. Any (ReadsRow row cause a.item) notices) a.named)
  leader_first own (w ∷ ws) order failure row cause none led e = let no : ⊥ = grind arith in absurd no

-- ---- the rows of all participants

module _ (uses : ℕ → Option Use) (plan : Plan) (records : Table) (blocks : ℕ) where
  -- the rows that the lead took of a worker that ended well are a stream of its blocks
  stream_of : (draws : List ℕ) (r : Returned WorkerEnd) → length records < 2 ^ 63 → Worker uses plan records blocks draws r → EndsWell r.end → (heard_of r).tuples_over ≡ true → SentItsRows plan records draws r
  stream_of draws r few f well over = by r.end f.done well
    where
      all : whole_of r.tuples.receiver.taken ≡ whole_of r.tuples.sender.put
      all = f.tuples.all over

      by : (end : Option WorkerEnd) → MatchOption end (IsIdle (account_of uses draws r)) (λ e. Did uses plan records blocks plan blocks (account_of uses draws r) e) → EndsWell end → SentItsRows plan records draws r
      by None d w = record { rows = []; stream = subst (λ ds. IsStream plan (header_width records) records ds []) (sym d.draws) (no_stream plan records); sent = d.tuples; taken = all ∙ d.tuples }
      by (Some Finished) d w = record { rows = d.ended.sent.rows; stream = d.ended.sent.stream; sent = d.ended.sent.are; taken = all ∙ d.ended.sent.are }
      by (Some Stopped) d w = absurd w
      by (Some (Refused row cause item)) d w = absurd w
      by (Some NoMemory) d w = absurd w

  -- each worker's stream, as it was heard
  streams_of : (draws : List (List ℕ)) (ws : List (Returned WorkerEnd)) → length records < 2 ^ 63 → AllZip (SentItsRows plan records) draws ws → AllZip (IsStream plan (header_width records) records) draws (map rows_heard (map heard_of ws))
  streams_of [] [] few z = tt
  streams_of [] (w ∷ ws) few z = absurd z
  streams_of (ds ∷ draws) [] few z = absurd z
  streams_of (ds ∷ draws) (w ∷ ws) few z =
      let s = z.0 in
      (subst (IsStream plan (header_width records) records ds) (sym (ap (map row_of) s.taken ∙ read_rows records ds s.rows few s.stream.each)) s.stream, streams_of draws ws few z.1)

  all_sent : (draws : List (List ℕ)) (ws : List (Returned WorkerEnd)) → length records < 2 ^ 63 → AllZip (Worker uses plan records blocks) draws ws → All (λ (w : Returned WorkerEnd). EndsWell w.end) ws
      → All (λ (h : Heard). h.tuples_over ≡ true) (map heard_of ws) → AllZip (SentItsRows plan records) draws ws
  all_sent [] [] few f w o = tt
  all_sent [] (v ∷ ws) few f w o = absurd f
  all_sent (ds ∷ draws) [] few f w o = absurd f
  all_sent (ds ∷ draws) (v ∷ ws) few f w o = (
    stream_of ds v few f.0 (All-head (λ (w : Returned WorkerEnd). EndsWell w.end) v ws w) (All-head (λ (h : Heard). h.tuples_over ≡ true) (heard_of v) (map heard_of ws) o),
    all_sent draws ws few f.1 (All-tail (λ (w : Returned WorkerEnd). EndsWell w.end) v ws w) (All-tail (λ (h : Heard). h.tuples_over ≡ true) (heard_of v) (map heard_of ws) o),
  )

  spent_is : (own : List ℕ) → IsTrue (is_spent blocks own) → 0 < late blocks own
  spent_is own h = grind (arith, h)

  once_is : (b n : ℕ) → b < n → once_below b n ≡ 1
  once_is b n h = grind (arith, h)

  -- what an order comes with
  pub record HasOrder (own : List ℕ) (draws lists : List (List ℕ)) (ws : List (Returned WorkerEnd)) (order : List ℕ) : Type 0 where
    pub accepted : All (IsAccepted plan (header_width records)) (drop 1 records)
    pub is : IsOrder plan records order
    pub drawn : (b : ℕ) → 256 * b + 1 < length records → times b (flat lists) ≡ 1
    pub sent : AllZip (SentItsRows plan records) draws ws

  pub all_merged : (own : List ℕ) (draws : List (List ℕ)) (ws : List (Returned WorkerEnd)) (order : List ℕ) (lists : List (List ℕ)) (n : ℕ)
      → AreBlocks records blocks → length records ≤ 4194305 → lists ≡ own ∷ draws → IsDrawn blocks lists n → AllZip (Worker uses plan records blocks) draws ws → All (λ (w : Returned WorkerEnd). EndsWell w.end) ws
      → HasLed plan records blocks own (map heard_of ws) order → HasOrder own draws lists ws order
  all_merged own draws ws order lists n are few e d f w led =
      let drawn : IsDrawn blocks (own ∷ draws) n = subst (λ l. IsDrawn blocks l n) e d in
      let some = spent_is own led.spent in
      let lates = late-append blocks own (flat draws) in
      let past : late blocks (own ++ flat draws) ≡ n - blocks = drawn.past in
      let small : length records < 2 ^ 63 = omega (arith, few) in
      let sent = all_sent draws ws small f w led.over in
      let both = merges plan (header_width records) records (own ∷ draws) (led.own ∷ map rows_heard (map heard_of ws)) order n (led.stream, streams_of draws ws small sent) led.merge drawn.once
      (omega (arith, some, lates, past, are.all)) in
      record {
        accepted = both.0;
        is = both.1;
        drawn = λ b h. d.once b ∙ once_is b n (omega (arith, some, lates, past, are.all, h));
        sent = sent;
      }

-- ---- why there is no order, where rows are ordered

module _ (uses : ℕ → Option Use) (plan : Plan) (records : Table) (blocks : ℕ) (o : OrdersRows plan) where
  is_cause : (row cause : ℕ) → IsRefusedRow plan records row cause → IsCause plan records (Row row cause)
  is_cause row cause r = subst (IsRefused plan records row cause) (no_cause plan records row cause r.0 o r.1) r.1

  pub leader_cause : (own : List ℕ) (draws : List (List ℕ)) (ws : List (Returned WorkerEnd)) (order : List ℕ) (failure : Option MergeAnswer) (why : MergeAnswer) → AllZip (Worker uses plan records blocks) draws ws
      → Led plan records blocks own (map heard_of ws) order failure → failure ≡ Some why → IsCause plan records why
  leader_cause own draws ws order failure (Row row cause) f led e = is_cause row cause (leader_row uses plan records blocks own draws ws order failure row cause f led e)
  leader_cause own draws ws order failure Memory f led e = tt

  pub worker_cause : (draws : List (List ℕ)) (ws : List (Returned WorkerEnd)) (why : BlockAnswer) (answer : MergeAnswer) → AllZip (Worker uses plan records blocks) draws ws → AreVerdict (ends_of ws) (Some why) → Answers why answer → IsCause plan records answer
  worker_cause draws ws (block.Row row cause item) answer f a is = subst (IsCause plan records) (sym is) (is_cause row cause (worker_row uses plan records blocks draws ws row cause item f a))
  worker_cause draws ws block.Memory answer f a is = subst (IsCause plan records) (sym is) tt

  pub leader_first_cause : (own : List ℕ) (ws : List (Returned WorkerEnd)) (order : List ℕ) (failure : Option MergeAnswer) (why : MergeAnswer) → length ws ≡ 0
      → Led plan records blocks own (map heard_of ws) order failure → failure ≡ Some why → IsFirstCause plan records why
  leader_first_cause own ws order failure (Row row cause) none led e = leader_first uses plan records blocks own ws order failure row cause none led e
  leader_first_cause own ws order failure Memory none led e = tt

  pub worker_first_cause : (ws : List (Returned WorkerEnd)) (why : BlockAnswer) (answer : MergeAnswer) → length ws ≡ 0 → AreVerdict (ends_of ws) (Some why) → Answers why answer → IsFirstCause plan records answer
  worker_first_cause [] (block.Row row cause item) answer none a is = absurd (any_none (λ (e : Option WorkerEnd). e ≡ Some (Refused row cause item)) a)
  worker_first_cause [] block.Memory answer none a is = subst (IsFirstCause plan records) (sym is) tt
  worker_first_cause (w ∷ ws) why answer none a is = let no : ⊥ = grind arith in absurd no
