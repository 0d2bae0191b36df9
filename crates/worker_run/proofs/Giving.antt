-- A worker with a table of groups: what its steps come to.
use Rattle.std.proofs.Common.{◌≡◌, ◌≤◌, ◌<◌, ◌+◌, ◌++◌, inl, inr, ℕ, List, [], ◌∷◌, get_or, length, take, All, IsTrue, Some, refl, ap, sym, subst, ◌∙◌, append-nil, append_assoc}
use Rattle.std.specs.FinMap as map
use Rattle.std.specs.List.{AllByRecursion}
use Rattle.std.specs.List.Sorted.{IsPermutation}
use Rattle.std.proofs.lemmas.List.{map-append, take_more}
use Rattle.std.proofs.lemmas.List.Concat.{flat_map-append}
use Rattle.std.proofs.lemmas.List.Elements.{All-append, All-cons, All-nil}
use Rattle.std.proofs.lemmas.List.Sorted.{IsPermutation-append_right, IsPermutation-trans}
use Rattle.agg_table.specs.Calls.{HasPut, Use}
use Rattle.agg_table.proofs.Putting.{has_left_more, has_put_more, has_put_nothing}
use Rattle.error_queue.specs.Message.{encoding}
use Rattle.error_queue.specs.declared.ErrorMessage.TheVariants as message
use Rattle.mq_handle.specs.Messages.{whole_of}
use Rattle.par_model.specs.Plan.{Plan}
use Rattle.partial_agg.specs.Groups.{GroupsByKey, with_rows}
use Rattle.partial_agg.specs.Rows.{IsAccepted, header_width}
use Rattle.row_blocks.specs.Blocks.{AreBlocks, Table, block_rows, rows_of_blocks}
use Rattle.partial_agg.proofs.Blocks.{with_rows-append}
use Rattle.partial_agg.proofs.Rest.{rest_is_empty}
use Rattle.ring_rule.specs.Ring.{Sending}
use Rattle.scan_claim.specs.Drawing.{flat, is_spent}
use Rattle.tuple_codec.specs.Tuple.{tuple_bytes}
use Rattle.gather_law.specs.Tuples.{Group, IsTupleOf, groups_of}
use Rattle.worker_run.specs.Ended.{IsNotice, sends_of}
use Rattle.worker_run.specs.Job.{DrawsNone}
use Rattle.worker_run.specs.Sent.{HasSent, HasZeros, IsReady, StoppedSending, tuples_of}
use Rattle.worker_run.specs.Steps.{HasFinished}
use Rattle.worker_run.specs.Tabled.{GivesGroup, GivesGroups, HasEndedBy, IsTabling, groups_of_batches}
use Rattle.worker_run.specs.declared.WorkerEnd.TheVariants.{Finished}
use Rattle.worker_run.proofs.Ends.{written_are}
use Rattle.worker_run.proofs.Sent.{has_sent_more, has_sent_nothing, still_ready, written-join}
use Rattle.worker_run.proofs.Working.{more_blocks, no_rows}
use Rattle.tuple_codec.specs.declared.write.TheConstants.{TUPLE_BYTES}
use Rattle.error_queue.specs.declared.TheConstants.{MESSAGE_BYTES}

-- ---- groups, one after another

pub gives_none : (slots : ℕ) (u : Use) (s : Sending) → IsReady TUPLE_BYTES s → GivesGroups slots [] u u s s
gives_none slots u s r = record {
  put = [];
  left = [];
  more = λ before ps ls h.
      subst (λ (gs : List Group). HasPut gs u (ps ++ []) (ls ++ [])) (sym (append-nil before))
      (subst (λ (gs : List Group). HasPut before u gs (ls ++ [])) (sym (append-nil ps)) (subst (λ (gs : List Group). HasPut before u ps gs) (sym (append-nil ls)) h));
  written = tt;
  sent = has_sent_nothing TUPLE_BYTES s r;
}

gives_more : (slots : ℕ) (done : List Group) (u v w : Use) (old mid new : Sending) (g : Group) → GivesGroups slots done u v old mid → GivesGroup slots v w mid new g → GivesGroups slots (done ++ g ∷ []) u w old new
gives_more slots done u v w old mid new g x (inl p) = record {
  put = x.put ++ g ∷ [];
  left = x.left;
  more = λ before ps ls h.
      subst (λ (gs : List Group). HasPut gs w (ps ++ (x.put ++ g ∷ [])) (ls ++ x.left)) (append_assoc before done (g ∷ []))
      (subst (λ (gs : List Group). HasPut ((before ++ done) ++ g ∷ []) w gs (ls ++ x.left)) (append_assoc ps x.put (g ∷ [])) (has_put_more (before ++ done) (ps ++ x.put) (ls ++ x.left) v w g (x.more before ps ls h) p.0));
  written = x.written;
  sent = subst (λ (s : Sending). HasSent old s (tuples_of slots x.left)) (sym p.1) x.sent;
}
gives_more slots done u v w old mid new g x (inr p) = record {
  put = x.put;
  left = x.left ++ g ∷ [];
  more = λ before ps ls h.
      subst (λ (gs : List Group). HasPut gs w (ps ++ x.put) (ls ++ (x.left ++ g ∷ []))) (append_assoc before done (g ∷ []))
      (subst (λ (gs : List Group). HasPut ((before ++ done) ++ g ∷ []) w (ps ++ x.put) gs) (append_assoc ls x.left (g ∷ [])) (has_left_more (before ++ done) (ps ++ x.put) (ls ++ x.left) v w g (x.more before ps ls h) p.0));
  written = written-join slots x.left (g ∷ []) x.written (p.1, tt);
  sent = subst (HasSent old new) (sym (map-append (λ (group : Group). tuple_bytes group.0 group.1 slots) x.left (g ∷ []))) (has_sent_more old mid new (tuples_of slots x.left) (tuple_bytes g.0 g.1 slots ∷ []) x.sent p.2);
}

-- the first groups of a list, and one more
pub gives_next : (slots : ℕ) (groups : List Group) (at : ℕ) (u v w : Use) (old mid new : Sending) (g : Group) → ((d : Group) → get_or groups at d ≡ g) → at < length groups → GivesGroups slots (take at groups) u v old mid
    → GivesGroup slots v w mid new g → GivesGroups slots (take (at + 1) groups) u w old new
gives_next slots groups at u v w old mid new g is lt x y =
    let more : take (at + 1) groups ≡ take at groups ++ g ∷ [] = take_more groups at g lt ∙ ap (λ h. take at groups ++ h ∷ []) (is g) in
    subst (λ (gs : List Group). GivesGroups slots gs u w old new) (sym more) (gives_more slots (take at groups) u v w old mid new g x y)

-- groups that were given out in another order
pub gives_permuted : (slots : ℕ) (groups done : List Group) (u v : Use) (old new : Sending) → IsPermutation groups done → GivesGroups slots done u v old new → GivesGroups slots groups u v old new
gives_permuted slots groups done u v old new p x = record {
  put = x.put;
  left = x.left;
  more = λ before ps ls h.
      let m = x.more before ps ls h in
      record {
        all = IsPermutation-trans (before ++ groups) (before ++ done) ((ps ++ x.put) ++ (ls ++ x.left)) (IsPermutation-append_right before groups done p) m.all;
        keyed = m.keyed;
        done = m.done;
        missed = m.missed;
        causes = m.causes;
      };
  written = x.written;
  sent = x.sent;
}

pub gives_stopped : (slots : ℕ) (done : List Group) (u v : Use) (old mid new : Sending) → GivesGroups slots done u v old mid → StoppedSending slots mid new → StoppedSending slots old new
gives_stopped slots done u v old mid new x s = record {
  done = x.left ++ s.done;
  written = written-join slots x.left s.done x.written s.written;
  found = record {
    ring = s.found.ring ∙ x.sent.ring;
    stays = s.found.stays;
    flag = s.found.flag;
    sent = s.found.sent ∙ ap (λ l. l ++ tuples_of slots s.done) x.sent.sent ∙ append_assoc (whole_of old.put) (tuples_of slots x.left) (tuples_of slots s.done)
        ∙ ap (λ l. whole_of old.put ++ l) (sym (map-append (λ (group : Group). tuple_bytes group.0 group.1 slots) x.left s.done));
  };
}

-- a group that was sent was ready, and one that was put changed nothing
pub given_ready : (slots : ℕ) (u v : Use) (old new : Sending) (g : Group) → IsReady TUPLE_BYTES old → GivesGroup slots u v old new g → IsReady TUPLE_BYTES new
given_ready slots u v old new g r (inl p) = subst (IsReady TUPLE_BYTES) (sym p.1) r
given_ready slots u v old new g r (inr p) = still_ready TUPLE_BYTES old new (tuple_bytes g.0 g.1 slots ∷ []) r p.2

-- ---- blocks

-- one list more
pub flat-push : (lists : List (List ℕ)) (l : List ℕ) → flat (lists ++ l ∷ []) ≡ flat lists ++ l
flat-push [] l = append-nil l
flat-push (k ∷ lists) l = ap (λ (xs : List ℕ). k ++ xs) (flat-push lists l) ∙ sym (append_assoc k (flat lists) l)

module _ (plan : Plan) (records : Table) where
  pub tabling-start : (u : Use) (groups : GroupsByKey) (errors tuples : Sending) → groups ≡ map.empty → ((number : ℕ) → u.turns number ≡ []) → whole_of errors.put ≡ [] → whole_of tuples.put ≡ []
      → IsReady MESSAGE_BYTES errors → IsReady TUPLE_BYTES tuples → IsTabling plan records [] u groups errors tuples
  tabling-start u groups errors tuples empty none e f r s = record {
    batches = [];
    last = [];
    cut = refl;
    accepted = All-nil (IsAccepted plan (header_width records));
    kept = empty;
    put = [];
    left = [];
    has = has_put_nothing u none;
    sent = f;
    written = tt;
    silent = e;
    errors_ready = r;
    tuples_ready = s;
  }

  pub tabling_zeros : (draws : List ℕ) (u : Use) (groups : GroupsByKey) (errors tuples : Sending) → IsTabling plan records draws u groups errors tuples → AllByRecursion (HasZeros (length plan.items)) (map.entries groups)
  tabling_zeros draws u groups errors tuples w = subst (λ (m : GroupsByKey). AllByRecursion (HasZeros (length plan.items)) (map.entries m)) (sym w.kept) (rest_is_empty plan (rows_of_blocks records w.last))

  -- the rows of a block were added to the map
  pub tabling-block : (draws : List ℕ) (b : ℕ) (u : Use) (groups groups' : GroupsByKey) (errors tuples : Sending) → IsTabling plan records draws u groups errors tuples
      → All (IsAccepted plan (header_width records)) (block_rows records b) → groups' ≡ with_rows plan groups (block_rows records b) → IsTabling plan records (draws ++ b ∷ []) u groups' errors tuples
  tabling-block draws b u groups groups' errors tuples w h e =
      let block = block_rows records b in
      record {
        batches = w.batches;
        last = w.last ++ b ∷ [];
        cut = sym (append_assoc (flat w.batches) w.last (b ∷ [])) ∙ ap (λ (l : List ℕ). l ++ b ∷ []) w.cut;
        accepted = subst (All (IsAccepted plan (header_width records))) (sym (more_blocks plan records draws b)) (All-append (IsAccepted plan (header_width records)) (rows_of_blocks records draws) block w.accepted h);
        kept = e ∙ ap (λ (m : GroupsByKey). with_rows plan m block) w.kept ∙ sym (with_rows-append plan map.empty (rows_of_blocks records w.last) block)
            ∙ ap (λ (rows : Table). with_rows plan map.empty rows) (sym (more_blocks plan records w.last b));
        put = w.put;
        left = w.left;
        has = w.has;
        sent = w.sent;
        written = w.written;
        silent = w.silent;
        errors_ready = w.errors_ready;
        tuples_ready = w.tuples_ready;
      }

  -- all groups of the map were given out
  unfoldable pub tabling-give : (draws : List ℕ) (u v : Use) (groups left : GroupsByKey) (errors tuples tuples' : Sending) → IsTabling plan records draws u groups errors tuples → left ≡ map.empty
      → GivesGroups (length plan.items) (map.entries groups) u v tuples tuples' → IsTabling plan records draws v left errors tuples'
  tabling-give draws u v groups left errors tuples tuples' w none x =
      let done = groups_of_batches plan records w.batches in
      let mine = groups_of plan (rows_of_blocks records w.last) in
      let entries_are : map.entries groups ≡ mine = ap (λ (m : GroupsByKey). map.entries m) w.kept in
      let more : groups_of_batches plan records (w.batches ++ w.last ∷ []) ≡ done ++ map.entries groups =
      flat_map-append (λ (blocks : List ℕ). groups_of plan (rows_of_blocks records blocks)) w.batches (w.last ∷ []) ∙ ap (λ (l : List Group). done ++ l) (append-nil mine ∙ sym entries_are) in
      record {
        batches = w.batches ++ w.last ∷ [];
        last = [];
        cut = append-nil (flat (w.batches ++ w.last ∷ [])) ∙ flat-push w.batches w.last ∙ w.cut;
        accepted = w.accepted;
        kept = none;
        put = w.put ++ x.put;
        left = w.left ++ x.left;
        has = subst (λ (gs : List Group). HasPut gs v (w.put ++ x.put) (w.left ++ x.left)) (sym more) (x.more done w.put w.left w.has);
        sent = x.sent.sent ∙ ap (λ l. l ++ tuples_of (length plan.items) x.left) w.sent ∙ sym (map-append (λ (group : Group). tuple_bytes group.0 group.1 (length plan.items)) w.left x.left);
        written = written-join (length plan.items) w.left x.left w.written x.written;
        silent = w.silent;
        errors_ready = w.errors_ready;
        tuples_ready = still_ready TUPLE_BYTES tuples tuples' (tuples_of (length plan.items) x.left) w.tuples_ready x.sent;
      }

  -- ---- the ends

  pub tabling_tuples : (draws : List ℕ) (u : Use) (groups : GroupsByKey) (errors tuples : Sending) → IsTabling plan records draws u groups errors tuples → All (IsTupleOf plan) (whole_of tuples.put)
  tabling_tuples draws u groups errors tuples w = subst (All (IsTupleOf plan)) (sym w.sent) (written_are plan records w.left w.written)

  -- a draw past the last block adds no row
  late_rows : (blocks : ℕ) (draws : List ℕ) (b : ℕ) → AreBlocks records blocks → blocks ≤ b → rows_of_blocks records (draws ++ b ∷ []) ≡ rows_of_blocks records draws
  late_rows blocks draws b a past =
      more_blocks plan records draws b ∙ ap (λ (rows : Table). rows_of_blocks records draws ++ rows) (no_rows plan records blocks b a past) ∙ append-nil (rows_of_blocks records draws)

  tabling-late : (blocks : ℕ) (draws draws' : List ℕ) (u : Use) (groups : GroupsByKey) (errors tuples : Sending) → AreBlocks records blocks → DrawsNone blocks draws draws'
      → IsTabling plan records draws u groups errors tuples → IsTabling plan records draws' u groups errors tuples
  tabling-late blocks draws draws' u groups errors tuples a (inl e) w = subst (λ (ds : List ℕ). IsTabling plan records ds u groups errors tuples) (sym e) w
  tabling-late blocks draws draws' u groups errors tuples a (inr p) w = record {
    batches = w.batches;
    last = w.last ++ p.0 ∷ [];
    cut = sym (append_assoc (flat w.batches) w.last (p.0 ∷ [])) ∙ ap (λ (l : List ℕ). l ++ p.0 ∷ []) w.cut ∙ sym p.2;
    accepted = subst (All (IsAccepted plan (header_width records))) (sym (ap (rows_of_blocks records) p.2 ∙ late_rows blocks draws p.0 a p.1)) w.accepted;
    kept = w.kept ∙ ap (λ (rows : Table). with_rows plan map.empty rows) (sym (late_rows blocks w.last p.0 a p.1));
    put = w.put;
    left = w.left;
    has = w.has;
    sent = w.sent;
    written = w.written;
    silent = w.silent;
    errors_ready = w.errors_ready;
    tuples_ready = w.tuples_ready;
  }

  pub table_finished : (blocks : ℕ) (draws draws' : List ℕ) (groups : GroupsByKey) (u v : Use) (errors tuples errors' tuples' : Sending) → AreBlocks records blocks
      → IsTabling plan records draws u groups errors tuples → DrawsNone blocks draws draws' → IsTrue (is_spent blocks draws')
      → HasFinished (length plan.items) (Some u) (Some v) groups errors tuples errors' tuples' → HasEndedBy plan records blocks draws' v (sends_of errors' tuples') Finished
  unfolding tabling-give
  table_finished blocks draws draws' groups u v errors tuples errors' tuples' a w late spent f =
      let all = tabling-late blocks draws draws' u groups errors tuples a late w in
      let given = tabling-give draws' u v groups map.empty errors tuples tuples' all refl f.passed.1 in
      let said : whole_of errors'.put ≡ encoding message.End ∷ [] = f.said.sent ∙ ap (λ l. l ++ encoding message.End ∷ []) w.silent in
      record {
        ended = record {
          spent = spent;
          accepted = given.accepted;
          batches = given.batches;
          cut = sym (append-nil (flat given.batches)) ∙ given.cut;
          put = given.put;
          left = given.left;
          has = given.has;
          sent = given.sent;
          written = given.written;
          said = said;
        };
        notices = subst (All (IsNotice plan records draws')) (sym said) (All-cons (IsNotice plan records draws') (encoding message.End) [] (inr refl) (All-nil (IsNotice plan records draws')));
        tuples = tabling_tuples draws' v map.empty errors tuples' given;
      }
