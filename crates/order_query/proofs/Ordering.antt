-- Rows in order: what the words that ask for them, a merge and its answers say of the outcome.
use Rattle.std.proofs.Common.{◌≡◌, ◌<◌, ◌+◌, ◌-◌, ◌∙◌, inl, inr, take, ℕ, zero, suc, Bool, true, false, List, [], ◌∷◌, if◌then◌else◌, length, refl, ap, arith, subst, sym, None, Some, Option, All, IfSome}
use Rattle.std.proofs.lemmas.List.{length-map}
use Rattle.std.proofs.lemmas.List.Elements.{All-drop, All-nil, All-push, All-weaker}
use Rattle.std.proofs.lemmas.List.Sorted.{All-permutation}
use Rattle.std.proofs.lemmas.List.Splits.{length-slice_split}
use Rattle.std.specs.Prelude.{◌==◌, ◌&&◌, slice_index_or}
use Rattle.std.specs.Io.KnownBytes.{Appends}
use Rattle.csv_rows.specs.Records.{record_at}
use Rattle.gather_merge.specs.Answers.{IsCause, IsFirstCause, OrdersRows}
use Rattle.gather_merge.specs.Order.{IsOrder, ordered}
use Rattle.row_blocks.specs.Blocks.{numbers_of}
use Rattle.gather_merge.specs.Used.{IsUsed}
use Rattle.gather_merge.specs.declared.MergeAnswer.{MergeAnswer}
use Rattle.gather_merge.specs.declared.MergeAnswer.TheVariants as merging
use Rattle.gather_merge.specs.declared.Merged.{Merged}
use Rattle.csv_rows.specs.Readings.{plain}
use Rattle.par_model.specs.Named.{NamedItem, NamedPlan, bound_column, bound_item, bound_plan}
use Rattle.par_model.specs.Outcome.{by_refused}
use Rattle.par_model.specs.Plan.{Plan}
use Rattle.par_model.specs.Refuse.{refusal as refusal_of}
use Rattle.par_model.specs.Table as model
use Rattle.par_model.specs.declared.refusal.Refusal.{Refusal}
use Rattle.partial_agg.specs.Rows.{header_width}
use Rattle.plan_spec.specs.Grammar.{names_in, number_in, parts_of}
use Rattle.plan_spec.specs.Merging.{is_merge, merge_of, merge_query, row_count}
use Rattle.plan_spec.specs.Query.{Query, query_by}
use Rattle.scan_claim.specs.Drawing.{below}
use Rattle.table_query.specs.Answers.{bound_over, outcome_over}
use Rattle.table_query.specs.Asked.{plan_in}
use Rattle.table_query.specs.Refused.{refused_in}
use Rattle.order_query.specs.Ordered.{IsInOrder, IsMergedBy, IsOrderOver, IsOrderText}
use Rattle.table_query.specs.Ready.{IsReady}
use Rattle.table_query.specs.Stops.{IsExplained, IsFirstStop}
use Rattle.order_query.specs.Stops.{RestatesMerge}
use Rattle.table_query.specs.declared.input.Ready.{Ready}
use Rattle.table_query.specs.declared.stop.Stop.{Stop}
use Rattle.table_query.proofs.Outcomes.{memory_explained, memory_first, plan_is, refused_explained, refused_first_stop}
use Rattle.table_query.proofs.RefusedRows.{refused_first, refused_in-has}

-- ---- the plan of the words

if-some : {A : Type 0} (b : Bool) (x : Option A) (y : A) → (if b then x else None) ≡ Some y → x ≡ Some y
if-some true x y e = e
if-some false x y e = cc e

-- the parts of a query that has a number of workers
has_parts : (items : List NamedItem) (groups : Option (List (List ℕ))) (workers : Option ℕ) (query : Query) → query_by groups (Some items) (Some []) (Some false) workers (Some 0) (Some plain) ≡ Some query
    → (names : List (List ℕ)) × (groups ≡ Some names) × (query.plan ≡ record { groups = names; items = items; hash = false; filters = [] })
has_parts items None workers query e = cc e
has_parts items (Some names) None query e = cc e
has_parts items (Some names) (Some n) query e =
    let same : query ≡ record { plan = record { groups = names; items = items; hash = false; filters = [] }; workers = n; area_pages = 0; reading = plain } = cc e in
    (names, refl, ap (λ (q : Query). q.plan) same)

some_names : (text : List ℕ) (names : List (List ℕ)) → names_in text ≡ Some names → 0 < length names
some_names text names e =
    let found : Some (parts_of text) ≡ Some names = if-some _ (Some (parts_of text)) names e in
    let same : parts_of text ≡ names = cc found in
    let long = length-slice_split (λ byte. byte == 44) text in
    omega (arith, long, ap length same)

orders_by : (header names : List (List ℕ)) → 0 < length names → OrdersRows (bound_plan header (record { groups = names; items = row_count ∷ []; hash = false; filters = [] }))
orders_by header names some = record {
  columns = omega (arith, some, length-map names (bound_column header));
  item = bound_item header row_count;
  items = refl;
  counts = refl;
  gather = refl;
  whole = refl;
}

-- words that ask for rows in order give a plan that orders rows
pub orders_rows : (words : List (List ℕ)) (query : Query) (header : List (List ℕ)) (bound : Plan) → merge_of words ≡ Some query → bound ≡ bound_plan header query.plan → OrdersRows bound
unfolding merge_of
orders_rows words query header bound e is =
    let columns = slice_index_or words 1 [] in
    let n = slice_index_or words 2 [] in
    let parts = has_parts (row_count ∷ []) (names_in columns) (number_in 64 n) query (if-some (is_merge words && (length words == 3)) (merge_query columns n) query e) in
    let some = some_names columns parts.0 parts.1 in
    let same : bound ≡ bound_plan header (record { groups = parts.0; items = row_count ∷ []; hash = false; filters = [] }) = is ∙ ap (bound_plan header) parts.2 in
    subst OrdersRows (sym same) (orders_by header parts.0 some)

-- ---- the rows of an order are there

below_all : (n : ℕ) → All (λ row. row < n) (below n)
below_all zero = All-nil (λ row. row < 0)
below_all (suc n) = All-push (λ row. row < suc n) (below n) n (All-weaker (λ row. row < n) (λ row. row < suc n) (λ row h. omega (arith, h)) (below n) (below_all n)) (omega arith)

pub order_within : (plan : Plan) (records : List (List (List ℕ))) (rows : List ℕ) → IsOrder plan records rows → All (λ row. row < length records) rows
order_within plan records rows o =
    let within : ℕ → Type 0 = λ row. row < length records in
    All-permutation within (numbers_of records) rows o.each (All-drop within 1 (below (length records)) (below_all (length records)))

-- ---- the text

module _ (asked : Option Query) where
  -- the text of rows in order, over the bytes that are told
  in_order : (bytes : List ℕ) (r : Ready) (order : List ℕ) → IsReady asked (Some bytes) r → IsOrder r.bound r.rows order → IsInOrder r.plan.plan bytes order (model.table_text (ordered r.rows order))
  in_order bytes r order ready sorted =
      let same : r.bound ≡ bound_over r.plan.plan bytes = ready.bound.is ∙ ap (λ (l : List (List (List ℕ))). bound_plan (record_at l 0) r.plan.plan) ready.records in
      record {
        sorted = subst (λ (l : List (List (List ℕ))). IsOrder (bound_over r.plan.plan bytes) l order) ready.records (subst (λ (b : Plan). IsOrder b r.rows order) same sorted);
        is = ap (λ (l : List (List (List ℕ))). model.table_text (ordered l order)) ready.records;
      }

  order_text : (bytes : List ℕ) (r : Ready) (order : List ℕ) → IsReady asked (Some bytes) r → refused_in r.bound r.rows ≡ [] → IsOrder r.bound r.rows order
      → IsOrderText (plan_in asked) bytes (model.table_text (ordered r.rows order))
  order_text bytes r order ready none sorted = record {
    has_table = ready.outcome ∙ ap by_refused none;
    is_text = subst (λ (p : Option NamedPlan). IsOrderOver p bytes (model.table_text (ordered r.rows order))) (sym (plan_is asked r.plan ready.query)) (order, in_order bytes r order ready sorted);
  }

  merged_text : (bytes : List ℕ) (r : Ready) (m : Merged) → IsReady asked (Some bytes) r → IsUsed r.bound r.rows r.plan.workers m.finished → IsOrder r.bound r.rows m.order
      → IsMergedBy asked bytes (model.table_text (ordered r.rows m.order)) m
  merged_text bytes r m ready used sorted =
      let text = model.table_text (ordered r.rows m.order) in
      let same : r.bound ≡ bound_over r.plan.plan bytes = ready.bound.is ∙ ap (λ (l : List (List (List ℕ))). bound_plan (record_at l 0) r.plan.plan) ready.records in
      subst (λ (q : Option Query). IsMergedBy q bytes text m) (sym ready.query)
      (record {
        used = subst (λ (l : List (List (List ℕ))). IsUsed (bound_over r.plan.plan bytes) l r.plan.workers m.finished) ready.records (subst (λ (b : Plan). IsUsed b r.rows r.plan.workers m.finished) same used);
        in_order = in_order bytes r m.order ready sorted;
      })

  -- ---- what was written

  pub rows_part : (left : Option (List ℕ)) (r : Ready) (order : List ℕ) (old new : Option (List ℕ)) → IsReady asked left r → refused_in r.bound r.rows ≡ [] → IsOrder r.bound r.rows order
      → (n : ℕ) × Appends old new (take n (model.table_text (ordered r.rows order)))
      → IfSome left (λ bytes. (text : List ℕ) × IsOrderText (plan_in asked) bytes text × (n : ℕ) × Appends old new (take n text))
  rows_part None r order old new ready none sorted t = tt
  rows_part (Some bytes) r order old new ready none sorted t = (model.table_text (ordered r.rows order), order_text bytes r order ready none sorted, t.0, t.1)

  -- the text has the order that was merged
  pub merged_written : (left : Option (List ℕ)) (r : Ready) (m : Merged) (old new : Option (List ℕ)) → IsReady asked left r → refused_in r.bound r.rows ≡ [] → IsUsed r.bound r.rows r.plan.workers m.finished → IsOrder r.bound r.rows m.order
      → Appends old new (model.table_text (ordered r.rows m.order)) → IfSome left (λ bytes. (text : List ℕ) × IsOrderText (plan_in asked) bytes text × IsMergedBy asked bytes text m × Appends old new text)
  merged_written None r m old new ready none used sorted t = tt
  merged_written (Some bytes) r m old new ready none used sorted t =
      (model.table_text (ordered r.rows m.order), order_text bytes r m.order ready none sorted, merged_text bytes r m ready used sorted, t)

  -- ---- the answers

  pub merge_explained : (left : Option (List ℕ)) (r : Ready) (answer : MergeAnswer) (why : Stop) → IsReady asked left r → IsCause r.bound r.rows answer → RestatesMerge r.plan.plan answer why → IsExplained (plan_in asked) left why
  merge_explained left r (merging.Row row cause) why ready refused (inl is) =
      refused_explained asked left r row (record { cause = cause; item = 0 }) why ready
      (refused_in-has r.bound r.rows row (record { cause = cause; item = 0 }) refused.first refused.within refused.cause_is) is
  merge_explained left r (merging.Row row cause) why ready refused (inr e) = subst (IsExplained (plan_in asked) left) (sym e) (memory_explained asked left)
  merge_explained left r merging.Memory why ready refused e = subst (IsExplained (plan_in asked) left) (sym e) (memory_explained asked left)

  pub merge_first : (left : Option (List ℕ)) (r : Ready) (answer : MergeAnswer) (why : Stop) → IsReady asked left r → IsCause r.bound r.rows answer → IsFirstCause r.bound r.rows answer → RestatesMerge r.plan.plan answer why
      → IfSome left (λ bytes. IsFirstStop (plan_in asked) why (outcome_over (plan_in asked) bytes))
  merge_first left r (merging.Row row cause) why ready refused first (inl is) =
      let refusal : Refusal = record { cause = cause; item = 0 } in
      let n = row - 1 in
      let place : n + 1 ≡ row = omega (arith, refused.first) in
      let found = refused_first r.bound r.rows n refusal (omega (arith, refused.first, refused.within)) first
      (subst (λ k. refusal_of r.bound (header_width r.rows) (record_at r.rows k) ≡ Some refusal) (sym place) refused.cause_is) in
      refused_first_stop asked left r row refusal found.0 why ready (subst (λ k. refused_in r.bound r.rows ≡ (k, refusal) ∷ found.0) place found.1) is
  merge_first left r (merging.Row row cause) why ready refused first (inr e) = memory_first asked left why e
  merge_first left r merging.Memory why ready refused first e = memory_first asked left why e
