-- What a worker's steps come to.
use Rattle.std.proofs.Common.{◌≡◌, ◌≤◌, ◌+◌, ◌*◌, ◌++◌, inl, inr, ℕ, List, [], ◌∷◌, length, take, All, refl, ap, sym, subst, ◌∙◌, arith, append-nil, append_assoc}
use Rattle.std.specs.FinMap as map
use Rattle.std.specs.List.{AllByRecursion, flat_map}
use Rattle.std.specs.List.Sorted.{IsPermutation}
use Rattle.std.proofs.lemmas.List.{drop_all, map-append}
use Rattle.std.proofs.lemmas.List.Concat.{flat_map-append}
use Rattle.std.proofs.lemmas.List.Elements.{All-append, All-nil}
use Rattle.std.proofs.lemmas.List.Sorted.{IsPermutation-append, IsPermutation-refl}
use Rattle.mq_handle.specs.Messages.{left_of, whole_of}
use Rattle.mq_handle.proofs.Uses.{left_nothing}
use Rattle.par_model.specs.Plan.{Plan}
use Rattle.partial_agg.specs.Groups.{GroupsByKey, with_rows}
use Rattle.partial_agg.specs.Rows.{IsAccepted, header_width}
use Rattle.row_blocks.specs.Blocks.{AreBlocks, Table, block_rows, rows_of_blocks}
use Rattle.partial_agg.proofs.Blocks.{with_rows-append}
use Rattle.partial_agg.proofs.Rest.{rest_is_empty}
use Rattle.ring_rule.specs.Ring.{Sending}
use Rattle.tuple_codec.specs.Tuple.{tuple_bytes}
use Rattle.gather_law.specs.Tuples.{groups_of}
use Rattle.worker_run.specs.Job.{DrawsNone}
use Rattle.worker_run.specs.Sent.{HasSentGroups, HasZeros, IsFreshQueue, IsReady, tuples_of}
use Rattle.worker_run.specs.Working.{IsWorking}
use Rattle.worker_run.proofs.Sent.{still_ready, written-join}
use Rattle.tuple_codec.specs.declared.write.TheConstants.{TUPLE_BYTES}
use Rattle.error_queue.specs.declared.TheConstants.{MESSAGE_BYTES}

whole_nothing : whole_of [] ≡ []
unfolding whole_of
whole_nothing = refl

module _ (plan : Plan) (records : Table) where
  pub working-start : (errors tuples : Sending) → whole_of errors.put ≡ [] → whole_of tuples.put ≡ [] → IsReady MESSAGE_BYTES errors → IsReady TUPLE_BYTES tuples → IsWorking plan records [] map.empty errors tuples
  working-start errors tuples e f r s = record {
    batches = [];
    last = [];
    cut = refl;
    accepted = All-nil (IsAccepted plan (header_width records));
    kept = refl;
    done = [];
    all = IsPermutation-refl [];
    sent = f;
    written = tt;
    silent = e;
    errors_ready = r;
    tuples_ready = s;
  }

  pub fresh_ready : (n : ℕ) (s : Sending) → IsFreshQueue n s → IsReady n s
  fresh_ready n s f = record { stays = f.stays; fresh = ap left_of f.put ∙ left_nothing; room = f.room }

  pub fresh_silent : (n : ℕ) (s : Sending) → IsFreshQueue n s → whole_of s.put ≡ []
  fresh_silent n s f = ap whole_of f.put ∙ whole_nothing

  pub working_zeros : (draws : List ℕ) (groups : GroupsByKey) (errors tuples : Sending) → IsWorking plan records draws groups errors tuples → AllByRecursion (HasZeros (length plan.items)) (map.entries groups)
  working_zeros draws groups errors tuples w = subst (λ (m : GroupsByKey). AllByRecursion (HasZeros (length plan.items)) (map.entries m)) (sym w.kept) (rest_is_empty plan w.last)

  pub more_blocks : (draws : List ℕ) (b : ℕ) → rows_of_blocks records (draws ++ b ∷ []) ≡ rows_of_blocks records draws ++ block_rows records b
  more_blocks draws b = flat_map-append (block_rows records) draws (b ∷ []) ∙ ap (λ l. rows_of_blocks records draws ++ l) (append-nil (block_rows records b))

  pub working-block : (draws : List ℕ) (b : ℕ) (groups groups' : GroupsByKey) (errors tuples : Sending) → IsWorking plan records draws groups errors tuples
      → All (IsAccepted plan (header_width records)) (block_rows records b) → groups' ≡ with_rows plan groups (block_rows records b)
      → IsWorking plan records (draws ++ b ∷ []) groups' errors tuples
  working-block draws b groups groups' errors tuples w h e =
      let more = more_blocks draws b in
      let rows = rows_of_blocks records draws in
      let block = block_rows records b in
      record {
        batches = w.batches;
        last = w.last ++ block;
        cut = sym (append_assoc (flat_map (λ batch. batch) w.batches) w.last block) ∙ ap (λ l. l ++ block) w.cut ∙ sym more;
        accepted = subst (All (IsAccepted plan (header_width records))) (sym more) (All-append (IsAccepted plan (header_width records)) rows block w.accepted h);
        kept = e ∙ ap (λ (m : GroupsByKey). with_rows plan m block) w.kept ∙ sym (with_rows-append plan map.empty w.last block);
        done = w.done;
        all = w.all;
        sent = w.sent;
        written = w.written;
        silent = w.silent;
        errors_ready = w.errors_ready;
        tuples_ready = w.tuples_ready;
      }

  unfoldable pub working-flush : (draws : List ℕ) (groups left : GroupsByKey) (errors tuples tuples' : Sending) → IsWorking plan records draws groups errors tuples
      → HasSentGroups (length plan.items) groups left tuples tuples' → IsWorking plan records draws left errors tuples'
  working-flush draws groups left errors tuples tuples' w s =
      let slots = length plan.items in
      let rows = flat_map (λ batch. batch) w.batches in
      let groups_done = flat_map (groups_of plan) w.batches in
      let these = s.all.these in
      let entries_are : map.entries groups ≡ groups_of plan w.last = ap (λ (m : GroupsByKey). map.entries m) w.kept in
      let more : flat_map (groups_of plan) (w.batches ++ w.last ∷ []) ≡ groups_done ++ map.entries groups =
      flat_map-append (groups_of plan) w.batches (w.last ∷ []) ∙ ap (λ l. groups_done ++ l) (append-nil (groups_of plan w.last) ∙ sym entries_are) in
      record {
        batches = w.batches ++ w.last ∷ [];
        last = [];
        cut = append-nil (flat_map (λ batch. batch) (w.batches ++ w.last ∷ [])) ∙ flat_map-append (λ batch. batch) w.batches (w.last ∷ []) ∙ ap (λ l. rows ++ l) (append-nil w.last) ∙ w.cut;
        accepted = w.accepted;
        kept = s.empty;
        done = w.done ++ s.all.done;
        all = subst (λ gs. IsPermutation gs (w.done ++ s.all.done)) (sym more) (IsPermutation-append groups_done w.done (map.entries groups) s.all.done w.all s.all.all);
        sent = these.sent.sent ∙ ap (λ l. l ++ tuples_of slots s.all.done) w.sent ∙ sym (map-append (λ group. tuple_bytes group.0 group.1 slots) w.done s.all.done);
        written = written-join slots w.done s.all.done w.written these.written;
        silent = w.silent;
        errors_ready = w.errors_ready;
        tuples_ready = still_ready TUPLE_BYTES tuples tuples' (tuples_of slots s.all.done) w.tuples_ready these.sent;
      }

  pub no_rows : (blocks n : ℕ) → AreBlocks records blocks → blocks ≤ n → block_rows records n ≡ []
  no_rows blocks n a h = ap (take 256) (drop_all (256 * n + 1) records (omega (arith, a.all, h)))

  pub late_draw : (blocks : ℕ) (draws draws' : List ℕ) → AreBlocks records blocks → DrawsNone blocks draws draws' → rows_of_blocks records draws' ≡ rows_of_blocks records draws
  late_draw blocks draws draws' a (inl e) = ap (rows_of_blocks records) e
  late_draw blocks draws draws' a (inr p) = ap (rows_of_blocks records) p.2 ∙ more_blocks draws p.0 ∙ ap (λ l. rows_of_blocks records draws ++ l) (no_rows blocks p.0 a p.1) ∙ append-nil (rows_of_blocks records draws)
