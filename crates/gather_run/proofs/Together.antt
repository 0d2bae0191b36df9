-- What the workers and the leader did, put together.
use Rattle.std.proofs.Common.{◌≡◌, ◌<◌, ◌≤◌, ◌+◌, ◌-◌, ◌*◌, ◌^◌, ◌++◌, ◌⊎◌, inl, inr, ℕ, List, [], ◌∷◌, length, drop, map, All, IsTrue, MatchOption, Option, Some, None, true, zero, suc, refl, ap, sym, subst, ◌∙◌, arith, Any, length-append}
use Rattle.std.specs.List.{AllByRecursion, AllZip, flat_map}
use Rattle.std.specs.List.Sorted.{IsPermutation}
use Rattle.std.proofs.lemmas.List.Sorted.{IsPermutation-refl}
use Rattle.std.proofs.lemmas.List.Elements.{All-cons, All-head, All-map, All-nil, All-tail, All-weaker}
use Rattle.error_queue.specs.declared.ErrorMessage.TheVariants as message
use Rattle.mq_handle.specs.Messages.{whole_of}
use Rattle.par_model.specs.Plan.{Plan}
use Rattle.partial_agg.specs.Groups.{AreGroups, GroupsByKey}
use Rattle.partial_agg.specs.Rows.{IsAccepted, header_width}
use Rattle.row_blocks.specs.Blocks.{AreBlocks, Table, block_rows, rows_of_blocks}
use Rattle.partial_agg.proofs.Adding.{no_groups}
use Rattle.row_blocks.proofs.BlockRows.{length-block}
use Rattle.scan_claim.specs.Drawing.{IsDrawn, flat, is_spent, late, once_below, times}
use Rattle.scan_claim.proofs.Totals.{late-append}
use Rattle.gather_law.specs.Law.{AreSent, CombineTo}
use Rattle.gather_law.specs.Parts.{received_in}
use Rattle.gather_law.specs.Tuples.{Group, HasTuple, groups_of, tuple_of}
use Rattle.gather_law.proofs.Gathering.{combines, gathers}
use Rattle.row_blocks.proofs.Elements.{All-apart, any_cases, any_none}
use Rattle.agg_table.specs.Calls.{Use}
use Rattle.parallel_ctx.specs.Ran.{Finishes}
use Rattle.parallel_ctx.specs.Accounts.{Account, Heard, IsIdle, account_of, heard_of}
use Rattle.parallel_ctx.specs.Tokens.{AreUnheard}
use Rattle.parallel_ctx.specs.declared.home.Returned.{Returned}
use Rattle.worker_run.specs.Ended.{IsFirst, IsNotice, IsRefused, Sends}
use Rattle.worker_run.specs.declared.WorkerEnd.{WorkerEnd}
use Rattle.worker_run.specs.declared.WorkerEnd.TheVariants.{Finished, Stopped, Refused, NoMemory}
use Rattle.parallel_ctx.proofs.Idle.{whole_nothing}
use Rattle.parallel_ctx.specs.declared.tokens.LeaderEnds.{LeaderEnds}
use Rattle.parallel_ctx.specs.declared.tokens.Shared.{Shared}
use Rattle.gather_run.specs.Looks.{tuples_of}
use Rattle.gather_run.proofs.Counting.{block_drawn, covers_all, few_behind, few_in_front, few_numbers, few_of_rows, few_records, none_left}
use Rattle.gather_run.specs.declared.GatherAnswer.{GatherAnswer}
use Rattle.gather_run.specs.declared.GatherAnswer.TheVariants.{Row, Memory}
use Rattle.worker_run.specs.Tabled.{EndsWith}
use Rattle.worker_run.specs.Verdicts.{AreVerdict, EndsWell}
use Rattle.worker_run.specs.Notices.{ReadsRow}
use Rattle.worker_run.proofs.Judging.{all_apart, any_apart}
use Rattle.partial_agg.specs.declared.map.BlockAnswer.{BlockAnswer}
use Rattle.partial_agg.specs.declared.map.BlockAnswer.TheVariants as block
use Rattle.gather_run.specs.Did.{sends_in, Answers, DidPlainWork, DidWork}
use Rattle.gather_run.specs.Answers.{IsCause, IsFirstCause}
use Rattle.gather_run.specs.Leading.{HasLed, Led, NamesRow}
use Rattle.gather_run.specs.Used.{ReadItsNotices, SentItsRows}
use Rattle.gather_run.specs.Reading.{ReadAs}

-- tuples are read as the groups that they are
pub same_groups : (plan : Plan) (hs gs : List Group) → ReadAs (map (tuple_of plan) hs) gs → AllByRecursion (HasTuple plan) hs → gs ≡ hs
same_groups plan [] [] r t = refl
same_groups plan [] (g ∷ gs) r t = absurd r
same_groups plan (h ∷ hs) [] r t = absurd r
same_groups plan (h ∷ hs) (g ∷ gs) r t =
    let one : g ≡ h = r.0.each h.0 h.1 (length plan.items) t.0 refl in
    ap (λ x. x ∷ gs) one ∙ ap (λ l. h ∷ l) (same_groups plan hs gs r.1 t.1)

pub no_groups_read : (gs : List Group) → ReadAs [] gs → gs ≡ []
no_groups_read [] r = refl
no_groups_read (g ∷ gs) r = absurd r

-- how some workers ended
abbrev pub ends_of : List (Returned WorkerEnd) → List (Option WorkerEnd)
ends_of ws = map (λ (w : Returned WorkerEnd). w.end) ws

pub all_well : (ws : List (Returned WorkerEnd)) → AreVerdict (ends_of ws) None → All (λ (w : Returned WorkerEnd). EndsWell w.end) ws
all_well ws v = all_apart EndsWell (λ (w : Returned WorkerEnd). w.end) ws v

pub rows_few : (records : Table) (draws : List ℕ) → length (rows_of_blocks records draws) ≤ 256 * length draws
rows_few records [] = omega arith
rows_few records (b ∷ draws) = omega (arith, length-append (block_rows records b) (rows_of_blocks records draws), length-block records b, rows_few records draws)

module _ (uses : ℕ → Option Use) (plan : Plan) (records : Table) (blocks : ℕ) where
  abbrev Did : Plan → ℕ → Account → WorkerEnd → Type 0
  Did p b account end = DidWork p records b account end

  -- what came home of a worker that drew these numbers, and of one that had no table
  abbrev pub Worker : List ℕ → Returned WorkerEnd → Type 0
  Worker draws r = Finishes Did uses plan blocks draws r

  abbrev DidPlain : Plan → ℕ → Account → WorkerEnd → Type 0
  DidPlain p b account end = DidPlainWork p records b account end

  abbrev pub Plain : List ℕ → Returned WorkerEnd → Type 0
  Plain draws r = Finishes DidPlain uses plan blocks draws r

  -- where there is no table the workers did what they do without
  pub plain : ((n : ℕ) → uses n ≡ None) → (draws : List (List ℕ)) (ws : List (Returned WorkerEnd)) → AllZip Worker draws ws → AllZip Plain draws ws
  plain none [] [] f = tt
  plain none [] (w ∷ ws) f = absurd f
  plain none (ds ∷ draws) [] f = absurd f
  plain none (ds ∷ draws) (w ∷ ws) f = (record { done = by w.end f.0.done; errors = f.0.errors; tuples = f.0.tuples }, plain none draws ws f.1)
    where
      by : (end : Option WorkerEnd) → MatchOption end (IsIdle (account_of uses ds w)) (λ e. Did plan blocks (account_of uses ds w) e) → MatchOption end (IsIdle (account_of uses ds w)) (λ e. DidPlain plan blocks (account_of uses ds w) e)
      by None d = d
      by (Some e) d = subst (λ (u : Option Use). EndsWith plan records blocks ds u (sends_in (account_of uses ds w)) e) (none w.number) d

  -- ---- what was sent

  one_sent : (draws : List ℕ) (r : Returned WorkerEnd) (gs : List Group) → Plain draws r → EndsWell r.end → (heard_of r).tuples_over ≡ true → ReadAs (heard_of r).tuples gs
      → AreSent plan (header_width records) records draws gs
  one_sent draws r gs f well over read =
      by r.end f.done well
    where
      all : whole_of r.tuples.receiver.taken ≡ whole_of r.tuples.sender.put
      all = f.tuples.all over

      by : (end : Option WorkerEnd) → MatchOption end (IsIdle (account_of uses draws r)) (λ e. DidPlain plan blocks (account_of uses draws r) e) → EndsWell end → AreSent plan (header_width records) records draws gs
      by None d w =
          let none : gs ≡ [] = no_groups_read gs (subst (λ ms. ReadAs ms gs) (all ∙ d.tuples) read) in
          subst (λ ds. AreSent plan (header_width records) records ds gs) (sym d.draws)
          (record { batches = []; cut = refl; sent = subst (IsPermutation []) (sym none) (IsPermutation-refl []); accepted = All-nil (IsAccepted plan (header_width records)) })
      by (Some Finished) d w =
          let t = d.ended.sent in
          let same : gs ≡ t.groups = same_groups plan t.groups gs (subst (λ ms. ReadAs ms gs) (all ∙ t.sent) read) t.written in
          record {
            batches = t.batches;
            cut = t.cut;
            sent = subst (IsPermutation (flat_map (groups_of plan) t.batches)) (sym same) t.all;
            accepted = d.ended.accepted;
          }
      by (Some Stopped) d w = absurd w
      by (Some (Refused row cause item)) d w = absurd w
      by (Some NoMemory) d w = absurd w

  all_sent : (draws : List (List ℕ)) (ws : List (Returned WorkerEnd)) (taken : List (List Group)) → AllZip Plain draws ws → All (λ (w : Returned WorkerEnd). EndsWell w.end) ws
      → All (λ (h : Heard). h.tuples_over ≡ true) (map heard_of ws) → AllZip ReadAs (map (λ (h : Heard). h.tuples) (map heard_of ws)) taken
      → AllZip (AreSent plan (header_width records) records) draws taken
  all_sent [] [] [] f w o r = tt
  all_sent [] [] (gs ∷ taken) f w o r = absurd r
  all_sent [] (v ∷ ws) taken f w o r = absurd f
  all_sent (ds ∷ draws) [] taken f w o r = absurd f
  all_sent (ds ∷ draws) (v ∷ ws) [] f w o r = absurd r
  all_sent (ds ∷ draws) (v ∷ ws) (gs ∷ taken) f w o r = (
    one_sent ds v gs f.0 (All-head (λ (w : Returned WorkerEnd). EndsWell w.end) v ws w) (All-head (λ (h : Heard). h.tuples_over ≡ true) (heard_of v) (map heard_of ws) o) r.0,
    all_sent draws ws taken f.1 (All-tail (λ (w : Returned WorkerEnd). EndsWell w.end) v ws w) (All-tail (λ (h : Heard). h.tuples_over ≡ true) (heard_of v) (map heard_of ws) o) r.1,
  )

  -- ---- all rows

  pub spent_is : (own : List ℕ) → IsTrue (is_spent blocks own) → 0 < late blocks own
  spent_is own h = grind (arith, h)

  pub all_gathered : (own : List ℕ) (draws : List (List ℕ)) (ws : List (Returned WorkerEnd)) (groups : GroupsByKey) (lists : List (List ℕ)) (n : ℕ)
      → AreBlocks records blocks → length records ≤ 4194305 → lists ≡ own ∷ draws → IsDrawn blocks lists n → AllZip Plain draws ws → All (λ (w : Returned WorkerEnd). EndsWell w.end) ws
      → HasLed plan records blocks own None (map heard_of ws) groups
      → All (IsAccepted plan (header_width records)) (drop 1 records) × AreGroups plan (drop 1 records) groups
  all_gathered own draws ws groups lists n are few e d f w led =
      let drawn : IsDrawn blocks (own ∷ draws) n = subst (λ l. IsDrawn blocks l n) e d in
      let some = spent_is own led.spent in
      let lates = late-append blocks own (flat draws) in
      let past : late blocks (own ++ flat draws) ≡ n - blocks = drawn.past in
      let l = led.leading in
      let both = gathers plan (header_width records) records own draws l.taken l.parts n
      (record { own_blocks = l.own.0; own_accepted = l.accepted; all_received = subst (λ (gs : List Group). IsPermutation (received_in l.parts) (gs ++ flat_map (λ groups. groups) l.taken)) l.own.1 l.received; all_sent = all_sent draws ws l.taken f w led.over l.read })
      drawn.once (covers_all (length records) n blocks (late blocks own) (late blocks (flat draws)) (late blocks (own ++ flat draws)) some lates past are.all) (few_records (length records) few) in
      (both.0, subst (AreGroups plan (drop 1 records)) (sym l.map_is) both.1)

  -- ---- refused rows

  row_inj : (a b c d e f : ℕ) → message.Row a b c ≡ message.Row d e f → (a ≡ d) × (b ≡ e) × (c ≡ f)
  row_inj a b c d e f h = (cc, cc, cc)

  one_notice : (draws : List ℕ) (row cause item : ℕ) (bytes : List ℕ) → ReadsRow row cause item bytes → IsNotice plan records draws bytes → IsRefused plan records row cause item
  one_notice draws row cause item bytes r (inl n) =
      let same = row_inj n.row n.cause n.item row cause item (r.each (message.Row n.row n.cause n.item) n.fits n.is) in
      subst (λ x. IsRefused plan records x cause item) same.0 (subst (λ x. IsRefused plan records n.row x item) same.1 (subst (λ x. IsRefused plan records n.row n.cause x) same.2 n.refused))
  one_notice draws row cause item bytes r (inr e) = let no : message.End ≡ message.Row row cause item = r.each message.End tt e in cc

  any_notice : (draws : List ℕ) (row cause item : ℕ) (messages : List (List ℕ)) → Any (ReadsRow row cause item) messages → All (IsNotice plan records draws) messages → IsRefused plan records row cause item
  any_notice draws row cause item [] a h = absurd (any_none (ReadsRow row cause item) a)
  any_notice draws row cause item (m ∷ ms) a h =
      by (any_cases (ReadsRow row cause item) m ms a) (any_notice draws row cause item ms)
    where
      by : ReadsRow row cause item m ⊎ Any (ReadsRow row cause item) ms → (Any (ReadsRow row cause item) ms → All (IsNotice plan records draws) ms → IsRefused plan records row cause item) → IsRefused plan records row cause item
      by (inl r) rest = one_notice draws row cause item m r (All-head (IsNotice plan records draws) m ms h)
      by (inr a) rest = rest a (All-tail (IsNotice plan records draws) m ms h)

  notices_of : (u : Option Use) (draws : List ℕ) (s : Sends) (end : WorkerEnd) → EndsWith plan records blocks draws u s end → All (IsNotice plan records draws) s.errors
  notices_of None draws s end d = d.notices
  notices_of (Some u) draws s end d = d.notices

  refused_of : (u : Option Use) (draws : List ℕ) (s : Sends) (row cause item : ℕ) → EndsWith plan records blocks draws u s (Refused row cause item) → IsRefused plan records row cause item
  refused_of None draws s row cause item d = d.ended.refused
  refused_of (Some u) draws s row cause item d = d.ended.refused

  worker_notices : (draws : List ℕ) (r : Returned WorkerEnd) → Worker draws r → All (IsNotice plan records draws) (whole_of r.errors.sender.put)
  worker_notices draws r f = by r.end f.done
    where
      by : (end : Option WorkerEnd) → MatchOption end (IsIdle (account_of uses draws r)) (λ e. Did plan blocks (account_of uses draws r) e) → All (IsNotice plan records draws) (whole_of r.errors.sender.put)
      by None d = subst (All (IsNotice plan records draws)) (sym d.errors) (All-nil (IsNotice plan records draws))
      by (Some e) d = notices_of (uses r.number) draws (sends_in (account_of uses draws r)) e d

  pub named : (draws : List (List ℕ)) (ws : List (Returned WorkerEnd)) (row cause item : ℕ) → AllZip Worker draws ws → Any (λ (h : Heard). Any (ReadsRow row cause item) h.errors) (map heard_of ws) → IsRefused plan records row cause item
  named [] [] row cause item f a = absurd (any_none (λ (h : Heard). Any (ReadsRow row cause item) h.errors) a)
  named [] (w ∷ ws) row cause item f a = absurd f
  named (ds ∷ draws) [] row cause item f a = absurd f
  named (ds ∷ draws) (w ∷ ws) row cause item f a =
      by (any_cases (λ (h : Heard). Any (ReadsRow row cause item) h.errors) (heard_of w) (map heard_of ws) a) (named draws ws row cause item f.1)
    where
      by : Any (ReadsRow row cause item) (heard_of w).errors ⊎ Any (λ (h : Heard). Any (ReadsRow row cause item) h.errors) (map heard_of ws)
          → (Any (λ (h : Heard). Any (ReadsRow row cause item) h.errors) (map heard_of ws) → IsRefused plan records row cause item) → IsRefused plan records row cause item
      by (inl a) rest =
          let b = f.0.errors.beginning in
          let all : All (IsNotice plan records ds) (whole_of w.errors.receiver.taken ++ b.0) = subst (All (IsNotice plan records ds)) b.1 (worker_notices ds w f.0) in
          any_notice ds row cause item (whole_of w.errors.receiver.taken) a (All-apart (IsNotice plan records ds) (whole_of w.errors.receiver.taken) b.0 all).0
      by (inr a) rest = rest a

  pub ended : (draws : List (List ℕ)) (ws : List (Returned WorkerEnd)) (row cause item : ℕ) → AllZip Worker draws ws → Any (λ (w : Returned WorkerEnd). w.end ≡ Some (Refused row cause item)) ws → IsRefused plan records row cause item
  ended [] [] row cause item f a = absurd (any_none (λ (w : Returned WorkerEnd). w.end ≡ Some (Refused row cause item)) a)
  ended [] (w ∷ ws) row cause item f a = absurd f
  ended (ds ∷ draws) [] row cause item f a = absurd f
  ended (ds ∷ draws) (w ∷ ws) row cause item f a =
      by (any_cases (λ (w : Returned WorkerEnd). w.end ≡ Some (Refused row cause item)) w ws a) (ended draws ws row cause item f.1)
    where
      by : (w.end ≡ Some (Refused row cause item)) ⊎ Any (λ (w : Returned WorkerEnd). w.end ≡ Some (Refused row cause item)) ws
          → (Any (λ (w : Returned WorkerEnd). w.end ≡ Some (Refused row cause item)) ws → IsRefused plan records row cause item) → IsRefused plan records row cause item
      by (inl e) rest =
          refused_of (uses w.number) ds (sends_in (account_of uses ds w)) row cause item
          (subst (λ o. MatchOption o (IsIdle (account_of uses ds w)) (λ e. Did plan blocks (account_of uses ds w) e)) e f.0.done)
      by (inr a) rest = rest a

  -- ---- what is answered

  pub leader_row : (own : List ℕ) (used : Option Use) (draws : List (List ℕ)) (ws : List (Returned WorkerEnd)) (groups : GroupsByKey) (failure : Option GatherAnswer) (why : GatherAnswer) → AllZip Worker draws ws
      → Led plan records blocks own used (map heard_of ws) groups failure → failure ≡ Some why → IsCause plan records why
  leader_row own used draws ws groups failure (Row row cause item) f led e =
      by (subst (Led plan records blocks own used (map heard_of ws) groups) e led)
    where
      by : NamesRow plan records (map heard_of ws) row cause item → IsRefused plan records row cause item
      by (inl m) = m.refused
      by (inr a) = named draws ws row cause item f a
  leader_row own used draws ws groups failure Memory f led e = tt

  pub worker_row : (draws : List (List ℕ)) (ws : List (Returned WorkerEnd)) (why : BlockAnswer) (answer : GatherAnswer) → AllZip Worker draws ws → AreVerdict (ends_of ws) (Some why) → Answers why answer → IsCause plan records answer
  worker_row draws ws (block.Row row cause item) answer f a is =
      subst (IsCause plan records) (sym is) (ended draws ws row cause item f (any_apart (λ (e : Option WorkerEnd). e ≡ Some (Refused row cause item)) (λ (w : Returned WorkerEnd). w.end) ws a))
  worker_row draws ws block.Memory answer f a is = subst (IsCause plan records) (sym is) tt

  -- ---- with no workers the first refused row is named

  pub leader_first : (own : List ℕ) (used : Option Use) (ws : List (Returned WorkerEnd)) (groups : GroupsByKey) (failure : Option GatherAnswer) (why : GatherAnswer) → length ws ≡ 0
      → Led plan records blocks own used (map heard_of ws) groups failure → failure ≡ Some why → IsFirstCause plan records why
  leader_first own used [] groups failure (Row row cause item) none led e = by (subst (Led plan records blocks own used [] groups) e led)
    where
      by : NamesRow plan records [] row cause item → IsFirst plan records row
      by (inl m) = m.first refl
      by (inr a) = absurd (any_none (λ (h : Heard). Any (ReadsRow row cause item) h.errors) a)
  leader_first own used [] groups failure Memory none led e = tt
  leader_first own used (w ∷ ws) groups failure why none led e = absurd (none_left (length ws) none)

  pub worker_first : (ws : List (Returned WorkerEnd)) (why : BlockAnswer) (answer : GatherAnswer) → length ws ≡ 0 → AreVerdict (ends_of ws) (Some why) → Answers why answer → IsFirstCause plan records answer
  worker_first [] (block.Row row cause item) answer none a is = absurd (any_none (λ (e : Option WorkerEnd). e ≡ Some (Refused row cause item)) a)
  worker_first [] block.Memory answer none a is = subst (IsFirstCause plan records) (sym is) tt
  worker_first (w ∷ ws) why answer none a is = absurd (none_left (length ws) none)

  -- ---- the blocks and the tuples

  nothing_sent : CombineTo plan [] []
  nothing_sent = record { groups = []; has = tt; are = refl; whole = no_groups plan }

  sent_its_rows : (draws : List ℕ) (r : Returned WorkerEnd) → length draws < 2 ^ 50 → Plain draws r → EndsWell r.end → (heard_of r).tuples_over ≡ true → SentItsRows plan records draws r
  sent_its_rows draws r few f well over =
      subst (CombineTo plan (rows_of_blocks records draws)) (sym all) (by r.end f.done well)
    where
      all : whole_of r.tuples.receiver.taken ≡ whole_of r.tuples.sender.put
      all = f.tuples.all over

      by : (end : Option WorkerEnd) → MatchOption end (IsIdle (account_of uses draws r)) (λ e. DidPlain plan blocks (account_of uses draws r) e) → EndsWell end → CombineTo plan (rows_of_blocks records draws) (whole_of r.tuples.sender.put)
      by None d w =
          subst (λ ds. CombineTo plan (rows_of_blocks records ds) (whole_of r.tuples.sender.put)) (sym d.draws) (subst (CombineTo plan []) (sym d.tuples) nothing_sent)
      by (Some Finished) d w = combines plan (header_width records) (rows_of_blocks records draws) (whole_of r.tuples.sender.put) d.ended.accepted (few_of_rows (length (rows_of_blocks records draws)) (length draws) (rows_few records draws) few) d.ended.sent
      by (Some Stopped) d w = absurd w
      by (Some (Refused row cause item)) d w = absurd w
      by (Some NoMemory) d w = absurd w

  pub all_sent_rows : (draws : List (List ℕ)) (ws : List (Returned WorkerEnd)) → length (flat draws) < 2 ^ 50 → AllZip Plain draws ws → All (λ (w : Returned WorkerEnd). EndsWell w.end) ws
      → All (λ (h : Heard). h.tuples_over ≡ true) (map heard_of ws) → AllZip (SentItsRows plan records) draws ws
  all_sent_rows [] [] few f w o = tt
  all_sent_rows [] (v ∷ ws) few f w o = absurd f
  all_sent_rows (ds ∷ draws) [] few f w o = absurd f
  all_sent_rows (ds ∷ draws) (v ∷ ws) few f w o =
      let long = length-append ds (flat draws) in (
        sent_its_rows ds v (few_in_front (length ds) (length (flat draws)) (length (ds ++ flat draws)) long few) f.0 (All-head (λ (w : Returned WorkerEnd). EndsWell w.end) v ws w) (All-head (λ (h : Heard). h.tuples_over ≡ true) (heard_of v) (map heard_of ws) o),
        all_sent_rows draws ws (few_behind (length ds) (length (flat draws)) (length (ds ++ flat draws)) long few) f.1 (All-tail (λ (w : Returned WorkerEnd). EndsWell w.end) v ws w) (All-tail (λ (h : Heard). h.tuples_over ≡ true) (heard_of v) (map heard_of ws) o),
      )

  -- ---- the notices

  pub all_read : (draws : List (List ℕ)) (ws : List (Returned WorkerEnd)) → AllZip Worker draws ws → All (λ (h : Heard). h.errors_over ≡ true) (map heard_of ws) → All ReadItsNotices ws
  all_read [] [] f o = All-nil ReadItsNotices
  all_read [] (v ∷ ws) f o = absurd f
  all_read (ds ∷ draws) [] f o = absurd f
  all_read (ds ∷ draws) (v ∷ ws) f o =
      All-cons ReadItsNotices v ws (f.0.errors.all (All-head (λ (h : Heard). h.errors_over ≡ true) (heard_of v) (map heard_of ws) o))
      (all_read draws ws f.1 (All-tail (λ (h : Heard). h.errors_over ≡ true) (heard_of v) (map heard_of ws) o))

  few_blocks : AreBlocks records blocks → length records ≤ 4194305 → blocks ≤ 16384
  few_blocks are few = by blocks are.each
    where
      by : (n : ℕ) → ((b : ℕ) → b < n → 256 * b + 1 < length records) → n ≤ 16384
      by zero h = omega arith
      by (suc n) h = omega (arith, h n (omega arith), few)

  -- each block was drawn once, and few were drawn
  pub all_drawn : (own : List ℕ) (lists draws : List (List ℕ)) (n : ℕ) → AreBlocks records blocks → lists ≡ own ∷ draws → IsDrawn blocks lists n → IsTrue (is_spent blocks own)
      → (b : ℕ) → 256 * b + 1 < length records → times b (flat lists) ≡ 1
  all_drawn own lists draws n are e d spent b h =
      let some = spent_is own spent in
      let lates = late-append blocks own (flat draws) in
      let drawn : IsDrawn blocks (own ∷ draws) n = subst (λ l. IsDrawn blocks l n) e d in
      let past : late blocks (own ++ flat draws) ≡ n - blocks = drawn.past in
      d.once b ∙ once_is b n (block_drawn (length records) b n blocks (late blocks own) (late blocks (flat draws)) (late blocks (own ++ flat draws)) some lates past are.all h)
    where
      once_is : (b n : ℕ) → b < n → once_below b n ≡ 1
      once_is b n h = grind (arith, h)

  pub few_drawn : (own : List ℕ) (lists draws : List (List ℕ)) (n : ℕ) → AreBlocks records blocks → length records ≤ 4194305 → length draws ≤ 64 → lists ≡ own ∷ draws → IsDrawn blocks lists n → length own + length (flat draws) < 2 ^ 50
  few_drawn own lists draws n are few short e d =
      let drawn : IsDrawn blocks (own ∷ draws) n = subst (λ l. IsDrawn blocks l n) e d in
      let most = few_blocks are few in
      let parts = length-append own (flat draws) in
      let count : length (own ++ flat draws) ≡ n = drawn.draws in
      few_numbers (length own) (length (flat draws)) (length (own ++ flat draws)) n blocks (length draws) drawn.few short most parts count

-- ---- at the start

pub unheard : (w : Shared) (queues : List LeaderEnds) → All (AreUnheard w) queues → All (λ ms. ms ≡ []) (map tuples_of queues)
unheard w queues h = All-map (λ ms. ms ≡ []) tuples_of queues (All-weaker (AreUnheard w) (λ (q : LeaderEnds). tuples_of q ≡ []) (λ q u. ap whole_of u.tuples.taken ∙ whole_nothing) queues h)
