-- What a leader comes to, by what it took of the workers.
use Rattle.std.proofs.Common.{◌≡◌, ◌&&◌, ◌++◌, Bool, false, inl, inr, ℕ, suc, IsTrue, List, [], ◌∷◌, length, map, All, Any, Option, None, Some, is_some, true, refl, ap, sym, subst, ◌∙◌, arith, append-nil}
use Rattle.std.specs.List.{flat_map}
use Rattle.std.specs.List.Sorted.{IsPermutation, IsSorted}
use Rattle.std.proofs.lemmas.List.{length-map}
use Rattle.std.proofs.lemmas.List.Sorted.{IsPermutation-refl}
use Rattle.std.proofs.lemmas.List.Elements.{All-head, All-map, All-nil, All-weaker}
use Rattle.mq_handle.specs.Messages.{whole_of}
use Rattle.row_blocks.specs.Blocks.{Table}
use Rattle.par_model.specs.Plan.{Plan}
use Rattle.parallel_ctx.proofs.Idle.{whole_nothing}
use Rattle.parallel_ctx.specs.Accounts.{Heard, heard}
use Rattle.parallel_ctx.specs.Tokens.{AreUnheard}
use Rattle.parallel_ctx.specs.declared.tokens.LeaderEnds.{LeaderEnds}
use Rattle.parallel_ctx.specs.declared.tokens.Shared.{Shared}
use Rattle.partial_agg.specs.Rows.{header_width}
use Rattle.partial_agg.specs.declared.map.BlockAnswer.{BlockAnswer}
use Rattle.partial_agg.specs.declared.map.BlockAnswer.TheVariants as block
use Rattle.scan_claim.specs.Drawing.{is_spent}
use Rattle.scan_claim.specs.Shown.{callers_of, draws_of}
use Rattle.scan_claim.specs.declared.claims.ClaimSeat.{ClaimSeat}
use Rattle.scan_claim.specs.declared.claims.Claims.{Claims}
use Rattle.gather_merge.specs.Drawn.{HasDrawnAll, StopsDrawing}
use Rattle.gather_merge.specs.Hearing.{AreOpen, HasGivenNoRow, HearsAll, IsOpen, IsOver, notices_of, rows_given, rows_heard}
use Rattle.gather_merge.specs.Leading.{Answers, Led, Merges}
use Rattle.worker_run.specs.Notices.{ReadsRow}
use Rattle.gather_merge.proofs.Stopping.{named_early}
use Rattle.gather_merge.specs.Order.{row_cmp}
use Rattle.gather_merge.specs.Sent.{row_of}
use Rattle.gather_merge.specs.Streams.{IsMerge, IsStream}
use Rattle.gather_merge.specs.declared.MergeAnswer.{MergeAnswer}
use Rattle.gather_merge.specs.declared.MergeAnswer.TheVariants.{Row, Memory}

rows_are : (queues : List LeaderEnds) → map rows_given queues ≡ map rows_heard (map heard queues)
rows_are [] = refl
rows_are (q ∷ queues) = ap (λ l. rows_given q ∷ l) (rows_are queues)

notices_are : (queues : List LeaderEnds) → map notices_of queues ≡ map (λ (h : Heard). h.errors) (map heard queues)
notices_are [] = refl
notices_are (q ∷ queues) = ap (λ l. notices_of q ∷ l) (notices_are queues)

both_over : (a b : Bool) → (a && b) ≡ true → (a ≡ true) × (b ≡ true)
both_over true b e = (refl, e)
both_over false b e = cc

-- a worker that is over has no more rows and no more notices
over_are : (queues : List LeaderEnds) → All IsOver queues → All (λ (h : Heard). h.tuples_over ≡ true) (map heard queues)
over_are queues a = All-map (λ (h : Heard). h.tuples_over ≡ true) heard queues (All-weaker IsOver (λ (q : LeaderEnds). (heard q).tuples_over ≡ true) (λ q o. (both_over (heard q).tuples_over (heard q).errors_over o).0) queues a)

notices_over : (queues : List LeaderEnds) → All IsOver queues → All (λ (h : Heard). h.errors_over ≡ true) (map heard queues)
notices_over queues a = All-map (λ (h : Heard). h.errors_over ≡ true) heard queues (All-weaker IsOver (λ (q : LeaderEnds). (heard q).errors_over ≡ true) (λ q o. (both_over (heard q).tuples_over (heard q).errors_over o).1) queues a)

-- lists one behind the other
all_lists : (queues : List LeaderEnds) → flat_map (λ stream. stream) (map rows_given queues) ≡ flat_map rows_given queues
all_lists [] = refl
all_lists (q ∷ queues) = ap (λ l. rows_given q ++ l) (all_lists queues)

module _ (plan : Plan) (records : Table) where
  pub stream_drawn : (claims : Claims) (claim : ClaimSeat) (list rows : List ℕ) → HasDrawnAll plan records claims claim list → IsPermutation list rows → IsSorted (row_cmp plan records) rows
      → IsStream plan (header_width records) records (draws_of claim) rows
  stream_drawn claims claim list rows d p s = record { accepted = d.drawn.accepted; each = subst (λ l. IsPermutation l rows) d.drawn.numbers p; rising = s }

  -- ---- the merge

  -- a worker whose rows were not all taken leaves no order
  pub hears_failed : (own list order : List ℕ) (queues : List LeaderEnds) (r : Option MergeAnswer) → is_some r ≡ true → HearsAll own list queues r → Merges plan records own order queues r
  hears_failed own list order queues None e h = cc
  hears_failed own list order queues (Some (Row row cause)) e h = h
  hears_failed own list order queues (Some Memory) e h = tt

  -- all rows in order are the merge of all lists
  pub merged_all : (own list order : List ℕ) (queues : List LeaderEnds) (r : Option MergeAnswer) → is_some r ≡ false → HearsAll own list queues r → IsPermutation list order → IsSorted (row_cmp plan records) order
      → Merges plan records own order queues None
  merged_all own list order queues None e h p s = record {
    merge = record { each = subst (λ l. IsPermutation l order) (h.0 ∙ ap (λ l. own ++ l) (sym (all_lists queues))) p; rising = λ _. s };
    over = h.1;
  }
  merged_all own list order queues (Some why) e h p s = cc

  pub led_merged : (blocks : ℕ) (draws rows order : List ℕ) (queues : List LeaderEnds) (r : Option MergeAnswer)
      → IsStream plan (header_width records) records draws rows → IsTrue (is_spent blocks draws) → Merges plan records rows order queues r
      → Led plan records blocks draws (map heard queues) order r
  led_merged blocks draws rows order queues None s spent m = record {
    own = rows;
    stream = s;
    merge = subst (λ ss. IsMerge (row_cmp plan records) (rows ∷ ss) order) (rows_are queues) m.merge;
    spent = spent;
    over = over_are queues m.over;
    errors_over = notices_over queues m.over;
  }
  led_merged blocks draws rows order queues (Some (Row row cause)) s spent m =
      inr (record { item = m.item; named = subst (Any (λ notices. Any (ReadsRow row cause m.item) notices)) (notices_are queues) m.named })
  led_merged blocks draws rows order queues (Some Memory) s spent m = tt

  -- the leader's own rows alone are an order, where there are no queues
  pub led_alone : (blocks : ℕ) (draws rows order : List ℕ) (queues : List LeaderEnds) → length queues ≡ 0 → order ≡ rows → IsStream plan (header_width records) records draws rows → IsTrue (is_spent blocks draws)
      → Led plan records blocks draws (map heard queues) order None
  led_alone blocks draws rows order [] none e s spent =
      subst (λ l. Led plan records blocks draws [] l None) (sym e)
      (record {
        own = rows;
        stream = s;
        merge = record { each = subst (λ l. IsPermutation l rows) (sym (append-nil rows)) (IsPermutation-refl rows); rising = λ a. All-head (IsSorted (row_cmp plan records)) rows [] a };
        spent = spent;
        over = All-nil (λ (h : Heard). h.tuples_over ≡ true);
        errors_over = All-nil (λ (h : Heard). h.errors_over ≡ true);
      })
  led_alone blocks draws rows order (q ∷ queues) none e s spent = absurd (omega (arith, none))

  alone_is : (callers : ℕ) (queues : List LeaderEnds) → callers ≡ suc (length queues) → map heard queues ≡ [] → callers ≡ 1
  alone_is callers queues e none = let long = ap (λ (l : List Heard). length l) none in omega (arith, e, long, length-map queues heard)

  pub led_met : (claims : Claims) (claim : ClaimSeat) (blocks : ℕ) (draws : List ℕ) (queues : List LeaderEnds) (order : List ℕ) (why : BlockAnswer) (answer : MergeAnswer)
      → callers_of claims ≡ suc (length queues) → StopsDrawing plan records claims claim queues why → Answers why answer → Led plan records blocks draws (map heard queues) order (Some answer)
  led_met claims claim blocks draws queues order (block.Row row cause item) answer n (inl m) e =
      subst (λ (a : MergeAnswer). Led plan records blocks draws (map heard queues) order (Some a)) (sym e)
      (inl (record { item = item; refused = m.refused; first = λ none. m.first (alone_is (callers_of claims) queues n none) }))
  led_met claims claim blocks draws queues order (block.Row row cause item) answer n (inr a) e =
      let named = named_early queues row cause item a in
      subst (λ (a : MergeAnswer). Led plan records blocks draws (map heard queues) order (Some a)) (sym e)
      (inr (record { item = named.item; named = subst (Any (λ notices. Any (ReadsRow row cause named.item) notices)) (notices_are queues) named.named }))
  led_met claims claim blocks draws queues order block.Memory answer n m e = subst (λ (a : MergeAnswer). Led plan records blocks draws (map heard queues) order (Some a)) (sym e) tt

-- ---- fresh queues

pub opens : (w : Shared) (queues : List LeaderEnds) → All (AreUnheard w) queues → AreOpen w.region queues
opens w queues h =
    All-weaker (AreUnheard w) (IsOpen w.region) (λ q u. record { errors_here = u.errors.here; errors_stays = u.errors.stays; tuples_here = u.tuples.here; tuples_stays = u.tuples.stays }) queues h

pub unheard : (w : Shared) (queues : List LeaderEnds) → All (AreUnheard w) queues → All HasGivenNoRow queues
unheard w queues h =
    All-weaker (AreUnheard w) HasGivenNoRow (λ q u. ap (λ l. map row_of (whole_of l)) u.tuples.taken ∙ ap (map row_of) whole_nothing) queues h
